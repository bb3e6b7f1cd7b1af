-- A report that is written in pieces.
use Rattle.std.specs.Prelude.{◌≡◌, ℕ, suc, List, ◌++◌}
use Rattle.rule_machine.specs.Laws.{verdict_at}
use Rattle.rule_report.specs.Cursor.{CursorSeen, told_pairs, IsToldBy, part_of}

-- One pair more was told, with the machine's verdict: what was appended is the next part of the report.
pub record IsReportedMore (old : CursorSeen) (old_bytes : List ℕ) (new : CursorSeen) (new_bytes : List ℕ) : Type 0 where
  pub unit : new.unit ≡ old.unit
  pub population : new.population ≡ old.population
  pub more : told_pairs new ≡ suc (told_pairs old)
  pub told : IsToldBy old (verdict_at old.unit old.population) → IsToldBy new (verdict_at old.unit old.population)
  pub part : IsToldBy old (verdict_at old.unit old.population)
      → new_bytes ≡ old_bytes ++ part_of old.unit old.population (verdict_at old.unit old.population) (suc (told_pairs old))
