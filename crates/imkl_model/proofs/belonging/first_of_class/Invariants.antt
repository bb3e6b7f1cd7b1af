use Rattle.std.proofs.Common.{◌≡◌, drop, find}
use Rattle.imkl_model.specs.ClassModel.{belongs}
use Rattle.imkl_model.specs.Groups.{model_with}
use Rattle.imkl_model.proofs.belonging.first_of_class.Given as goal

abbrev pub invariant-loop-number : goal.invariant-loop-number
invariant-loop-number l = find (belongs (model_with l.classes l.features) l.class) (drop l.number-index l.numbers) ≡ find (belongs (model_with l.classes l.features) l.class) l.numbers
