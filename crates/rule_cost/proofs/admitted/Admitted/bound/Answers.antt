use Rattle.std.proofs.Common.{◌≡◌, ◌<◌, ◌∙◌, length, List, ℕ, sym, ap, subst, arith, get_or}
use Rattle.imkl_population.proofs.ForAbove.{length-list_below, get_or-list_below}
use Rattle.rule_cost.specs.Admission.{Admission, rule_step_bound}
use Rattle.rule_cost.proofs.admitted.Admitted.bound.Goals as goal

pub index-requires : goal.index-requires
index-requires c =
    let i = c.self.inside in
    let u = i.accepted.now.unit in
    let within = subst (λ (a : Admission). c.args.rule < length a.resolved.unit.rules) (sym c.self.view_is) c.requires in
    omega (arith, within, ap (λ (l : List ℕ). length l) c.self.invariant.1, length-list_below (rule_step_bound u i.sizes.now) (length u.rules), i.bounds.ok.0)

pub returns : goal.returns
returns c =
    let i = c.self.inside in
    let u = i.accepted.now.unit in
    let P : Admission → Type 0 = λ a. c.index.result.now ≡ rule_step_bound a.resolved.unit a.sizes c.args.rule in
    let within = subst (λ (a : Admission). c.args.rule < length a.resolved.unit.rules) (sym c.self.view_is) c.requires in
    subst P c.self.view_is
    (c.index.ensures ∙ ap (λ (l : List ℕ). get_or l c.args.rule c.index.result.now) c.self.invariant.1 ∙ get_or-list_below (rule_step_bound u i.sizes.now) (length u.rules) c.args.rule c.index.result.now within)
