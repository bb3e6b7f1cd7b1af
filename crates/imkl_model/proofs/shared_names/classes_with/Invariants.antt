use Rattle.std.proofs.Common.{◌≡◌, ◌<◌, ℕ, true, length, get_or}
use Rattle.imkl_model.specs.ClassModel.{belongs}
use Rattle.imkl_model.specs.Groups.{model_with}
use Rattle.imkl_model.specs.Tables.{has_mark}
use Rattle.imkl_model.proofs.shared_names.classes_with.Given as goal

abbrev pub invariant-loop-number : goal.invariant-loop-number
invariant-loop-number l = record {
  long : length l.row ≡ length l.classes;
  marked : (c j : ℕ) → c < length l.classes → j < l.number-index → belongs (model_with l.classes l.features) c (get_or l.numbers j 0) ≡ true → has_mark l.row c ≡ true;
  marked_by : (c : ℕ) → c < length l.classes → has_mark l.row c ≡ true → (j : ℕ) × (j < l.number-index) × (belongs (model_with l.classes l.features) c (get_or l.numbers j 0) ≡ true);
}
