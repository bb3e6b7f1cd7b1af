use Rattle.std.proofs.Common.{◌≡◌, ◌∙◌, length, sym, ap, arith, true}
use Rattle.imkl_model.specs.Groups.{model_with, group_meets}
use Rattle.imkl_model.proofs.Below.{any_none}
use Rattle.imkl_model.proofs.ClashGroups.{clash_in_group, no_clash}
use Rattle.imkl_model.proofs.clash.has_clash.Goals as goal

pub returns-then-branch : goal.returns-then-branch
returns-then-branch c =
    let m = model_with c.args.classes.now c.args.features.now in
    let here : group_meets m c.loop-number.number ≡ true = ap (group_meets m) (sym c.new.ensures) ∙ sym c.in_ok-group_meets.ensures ∙ c.if-branch.true in
    sym (clash_in_group m c.loop-number.number here)

pub returns : goal.returns
returns c =
    let m = model_with c.args.classes.now c.args.features.now in
    sym (no_clash m (any_none (group_meets m) (length c.args.features.now) (λ k lt. c.loop-number.invariant k (omega (arith, lt)))))
