use Rattle.std.proofs.Common.{◌≡◌, ◌==◌, ℕ, length, take}
use Rattle.std.specs.List.{list_any}
use Rattle.imkl_model.specs.Tables.{has_mark}
use Rattle.imkl_model.proofs.ancestors.direct_row.Given as goal

abbrev pub invariant-loop-class : goal.invariant-loop-class
invariant-loop-class l = record {
  as_long : length l.row ≡ l.count;
  marks : (j : ℕ) → has_mark l.row j ≡ list_any (λ e. e == j) (take l.class-index l.supers);
}
