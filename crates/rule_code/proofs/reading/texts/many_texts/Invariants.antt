use Rattle.std.proofs.Common.{◌≡◌}
use Rattle.std.specs.Prelude.{map, string_bytes, IsErr}
use Rattle.rule_code.specs.Parts.{text_from}
use Rattle.rule_code.specs.CodeFile.{first_of}
use Rattle.rule_code.proofs.Loop.{HasRead}
use Rattle.rule_code.proofs.reading.texts.many_texts.Given as goal

abbrev pub invariant-loop : goal.invariant-loop
invariant-loop l = record {
  read : HasRead (λ before. text_from) l.count l.initial.reader.left.now l.counter (map string_bytes l.texts.items) l.reader.left.now;
  start : l.counter ≡ 0 → l.reader.left.now ≡ l.initial.reader.left.now;
  first : IsErr (first_of l.count l.initial.reader.left.now) → l.counter ≡ 0;
}
