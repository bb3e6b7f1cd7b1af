use Rattle.std.proofs.Common.{◌≡◌, ℕ, ◌<◌, length, get_or, []}
use Rattle.imkl_model.specs.Tables.{mark_at}
use Rattle.imkl_model.specs.Chains.{is_or_reaches}
use Rattle.imkl_model.specs.ClassModel.{supers_in}
use Rattle.imkl_model.proofs.descendants.descendants.Given as goal

abbrev pub invariant-loop-class : goal.invariant-loop-class
invariant-loop-class l = record {
  so_long : length l.rows.items ≡ l.class;
  square : (d : ℕ) → d < l.class → length (get_or l.rows.items d []) ≡ length l.classes;
  marks : (d c : ℕ) → d < l.class → c < length l.classes → mark_at l.rows.items d c ≡ is_or_reaches (supers_in l.classes) c d;
}
