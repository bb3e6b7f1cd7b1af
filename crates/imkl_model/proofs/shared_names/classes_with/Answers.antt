use Rattle.std.proofs.Common.{arith}
use Rattle.std.specs.List.{list_any}
use Rattle.imkl_model.specs.ClassModel.{belongs}
use Rattle.imkl_model.specs.Groups.{model_with}
use Rattle.imkl_model.specs.Tables.{has_mark}
use Rattle.imkl_model.proofs.ClashGroups.{any_of, of_any}
use Rattle.ocl_base.proofs.ForAbove.{same_test}
use Rattle.imkl_model.proofs.shared_names.classes_with.Goals as goal

pub returns : goal.returns
returns c =
    let m = model_with c.args.classes.now c.args.features.now in
    let xs = c.args.numbers.now in (
      c.loop-number.invariant.long,
      λ k lt. same_test (has_mark c.loop-number.row k) (list_any (belongs m k) xs)
          (λ e. let w = c.loop-number.invariant.marked_by k lt e in of_any (belongs m k) xs w.0 (omega (arith, w.1, c.loop-number.auto.number-index-end)) w.2)
          (λ e. let w = any_of (belongs m k) xs e in c.loop-number.invariant.marked k w.0 lt (omega (arith, w.1, c.loop-number-test.false)) w.2),
    )
