use Rattle.std.proofs.Common.{ap, ◌∙◌}
use Rattle.ocl_base.proofs.ForAbove.{at_bottom, past_bottom}
use Rattle.rule_machine.proofs.stack.ReservedStack.from_bottom.Goals as goal

pub returns-then-number-len : goal.returns-then-number-len
returns-then-number-len g c = at_bottom _ _ c.len.result _ _ (c.len.ensures ∙ c.self.inside.items.ok.0) (ap (λ s. s.0) c.self.view_is) c.if-number-len.true c.index.ensures

pub returns-else-number-len : goal.returns-else-number-len
returns-else-number-len g c = past_bottom _ _ c.len.result _ (c.len.ensures ∙ c.self.inside.items.ok.0) (ap (λ s. s.0) c.self.view_is) c.if-number-len.false
