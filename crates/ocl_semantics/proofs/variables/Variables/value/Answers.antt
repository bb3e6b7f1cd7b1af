use Rattle.std.proofs.Common.{◌≡◌, length, ◌∙◌, rules}
use Rattle.std.proofs.lemmas.Result.{IfOk-weaker}
use Rattle.ocl_semantics.proofs.Bound.{bound_value, unbound_value}
use Rattle.ocl_semantics.proofs.variables.Variables.value.Goals as goal

pub returns-then-number-len : goal.returns-then-number-len
returns-then-number-len c =
    let len : c.len.result ≡ length c.self.inside.values.items = search rules in
    IfOk-weaker c.copy_value.result _ _ (λ v h. h ∙ bound_value c.self.inside.values.items c.args.self.now c.len.result c.args.number c.index.result.now len c.self.view_is c.if-number-len.true c.index.ensures) c.copy_value.ensures

pub returns-else-number-len : goal.returns-else-number-len
returns-else-number-len c =
    let len : c.len.result ≡ length c.self.inside.values.items = search rules in
    unbound_value c.self.inside.values.items c.args.self.now c.len.result c.args.number len c.self.view_is c.if-number-len.false
