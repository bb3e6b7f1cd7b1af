use Rattle.std.proofs.Common.{◌≡◌, length, refl, arith}
use Rattle.std.proofs.lemmas.List.{same_lists}
use Rattle.imkl_model.proofs.same.all_same.Goals as goal

pub returns : goal.returns
returns g c =
    let xs = c.args.left.now in
    let ys = c.args.right.now in
    let long : length xs ≡ length ys = omega (arith, c.if-left-right.false) in
    let same : xs ≡ ys = same_lists xs ys long (λ k d lt. c.loop-i.invariant k d (omega (arith, lt, c.loop-i-test.false))) in
    (λ _. same, λ _. refl)
