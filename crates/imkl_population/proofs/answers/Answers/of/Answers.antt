use Rattle.std.proofs.Common.{◌≡◌, ◌∙◌, ℕ, List, get_or, sym, ap, subst, arith}
use Rattle.std.proofs.lemmas.List.{get_or_read_under}
use Rattle.std.proofs.lemmas.Option.{IfSome_then}
use Rattle.imkl_population.specs.Answered.{Answered, IsAnswer, nothing_asked}
use Rattle.imkl_population.proofs.answers.Answers.of.Goals as goal

pub returns : goal.returns
returns c =
    let items = c.self.inside.items.items in
    let class = c.args.class in
    let answer = c.index-3.result.now in
    let read : answer ≡ get_or items class answer = c.index-3.ensures ∙ ap (λ (i : ℕ). get_or items i answer) c.index-2.ensures in
    let here : answer ≡ get_or items class nothing_asked =
    get_or_read_under items class c.len.result answer nothing_asked read (omega (arith, c.if-index-len.false, c.index.ensures)) (omega (arith, c.len.ensures)) in
    IfSome_then c.of.result c.of.ensures (λ all told r answers.
    let kept : IsAnswer r class (get_or items class nothing_asked) = subst (λ (l : List Answered). IsAnswer r class (get_or l class nothing_asked)) (sym c.self.view_is) (answers class) in
    told r class (subst (IsAnswer r class) (sym here) kept))
