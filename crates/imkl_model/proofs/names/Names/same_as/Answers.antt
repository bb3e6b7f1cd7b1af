use Rattle.std.proofs.Common.{◌≡◌, ◌∙◌, [], length, refl, sym, arith}
use Rattle.std.proofs.lemmas.List.{same_lists, get_or_default}
use Rattle.imkl_model.proofs.names.Names.same_as.Goals as goal

pub returns : goal.returns
returns c =
    let xs = c.args.self.now in
    let ys = c.args.other.now in
    let long : length xs ≡ length ys = omega (arith, c.len.ensures, c.len-2.ensures, c.if-len.false) in
    let same : xs ≡ ys = same_lists xs ys long (λ k d lt. get_or_default xs k d [] lt ∙ c.loop-i.invariant k (omega (arith, lt, c.len-i-end.ensures)) ∙ sym (get_or_default ys k d [] (omega (arith, lt)))) in
    (λ _. same, λ _. refl)
