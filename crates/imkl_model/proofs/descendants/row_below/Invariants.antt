use Rattle.std.proofs.Common.{◌≡◌, ℕ, ◌<◌, ◌≤◌, false, length}
use Rattle.imkl_model.specs.Tables.{has_mark}
use Rattle.imkl_model.specs.Chains.{is_or_reaches}
use Rattle.imkl_model.specs.ClassModel.{supers_in}
use Rattle.imkl_model.proofs.descendants.row_below.Given as goal

abbrev pub invariant-loop-from : goal.invariant-loop-from
invariant-loop-from l = record {
  as_long : length l.row ≡ length l.classes;
  marks : (c : ℕ) → c < l.from → has_mark l.row c ≡ is_or_reaches (supers_in l.classes) c l.class;
  later : (c : ℕ) → l.from ≤ c → has_mark l.row c ≡ false;
}
