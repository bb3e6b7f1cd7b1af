use Rattle.std.proofs.Common.{◌∙◌, ◌≤◌, sym, ap, arith, bytes_eq, length, List, ℕ}
use Rattle.std.proofs.lemmas.Bool.Decides.{nat_tests}
use Rattle.imkl_population.specs.declared.object.Head.{Head}
use Rattle.imkl_population.proofs.IdIndex.{has_id-there, has_id-beyond}
use Rattle.imkl_population.proofs.id_index.has_id.Goals as goal

pub returns-in-Some : goal.returns-in-Some
returns-in-Some c =
    let there = c.in-Some.ensures.lookup.3 in
    c.eq.ensures
    ∙ ap (λ (x : List ℕ). bytes_eq x c.args.id.now) (c.as_str.ensures ∙ ap (λ (h : Head). h.id) (there.1 c.in-Some.head.now))
    ∙ sym (has_id-there c.args.heads.now c.args.number c.in-Some.head.now c.args.id.now there.0)

pub returns-in-None : goal.returns-in-None
returns-in-None c =
    let beyond : length c.args.heads.now ≤ c.args.number = grind (arith, nat_tests, c.in-None.ensures.lookup.0) in
    sym (has_id-beyond c.args.heads.now c.args.number c.args.id.now beyond)
