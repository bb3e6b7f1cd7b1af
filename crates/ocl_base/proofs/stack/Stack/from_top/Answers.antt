use Rattle.std.proofs.Common.{◌∙◌, ◌-◌, refl}
use Rattle.ocl_base.proofs.Stacks.{at_top, past_top}
use Rattle.ocl_base.proofs.stack.Stack.from_top.Goals as goal

pub returns-then-number-len : goal.returns-then-number-len
returns-then-number-len g c = at_top _ _ c.len-len.result (c.len-len.result - 1 - c.args.number) c.args.number _ (c.len-len.ensures ∙ c.self.inside.items.ok.0) c.self.view_is c.if-number-len.true refl c.index.ensures

pub returns-else-number-len : goal.returns-else-number-len
returns-else-number-len g c = past_top _ _ c.len-len.result _ (c.len-len.ensures ∙ c.self.inside.items.ok.0) c.self.view_is c.if-number-len.false
