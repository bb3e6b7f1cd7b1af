use Rattle.std.proofs.Common.{◌≡◌, length, reverse, map, ap, ◌∙◌, ◌-◌, rules}
use Rattle.owned_values.specs.Meant.{meant}
use Rattle.ocl_semantics.proofs.Bound.{forgotten}
use Rattle.ocl_semantics.proofs.variables.Variables.forget.Goals as goal

pub returns : goal.returns
returns c =
    let len : c.len.result ≡ length c.self.inside.values.items = search rules in
    ap (λ xs. reverse (map meant xs)) c.truncate.ensures.items
    ∙ forgotten c.self.inside.values.items c.args.self.now c.args.count c.saturating_sub-left.result c.self.view_is (c.saturating_sub-left.ensures ∙ ap (λ k. k - c.args.count) len)
