use Rattle.std.proofs.Common.{◌≡◌, ◌∙◌, length, sym, ap, arith, true}
use Rattle.imkl_model.specs.Groups.{model_with, shares}
use Rattle.imkl_model.proofs.Below.{any_found, any_none}
use Rattle.imkl_model.proofs.shared_names.any_shared.Goals as goal

pub returns-then-branch : goal.returns-then-branch
returns-then-branch c =
    let a = model_with c.args.classes.now c.args.aliases.now in
    let m = model_with c.args.classes.now c.args.features.now in
    let here : shares a m c.loop-number.number ≡ true = ap (shares a m) (sym c.new-alias.ensures) ∙ sym c.in_ok-shares.ensures ∙ c.if-branch.true in
    sym (any_found (shares a m) (length c.args.aliases.now) c.loop-number.number (omega (arith, c.loop-number-test.true, c.len-number-end.ensures)) here)

pub returns : goal.returns
returns c =
    let a = model_with c.args.classes.now c.args.aliases.now in
    let m = model_with c.args.classes.now c.args.features.now in
    sym (any_none (shares a m) (length c.args.aliases.now) (λ k lt. c.loop-number.invariant k (omega (arith, lt, c.loop-number-test.false, c.len-number-end.ensures))))
