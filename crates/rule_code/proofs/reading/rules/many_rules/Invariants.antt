use Rattle.std.proofs.Common.{◌≡◌}
use Rattle.std.specs.Prelude.{bytes_eq, map}
use Rattle.ocl_base.specs.Lists.{is_among}
use Rattle.rule_code.specs.Content.{rule_content, names_of}
use Rattle.rule_code.specs.Taken.{is_name_taken}
use Rattle.rule_code.specs.Parts.{next_rule_from}
use Rattle.rule_code.specs.Preamble.{preamble_of}
use Rattle.rule_code.proofs.Loop.{HasRead}
use Rattle.rule_code.proofs.reading.rules.many_rules.Given as goal

abbrev pub invariant-loop : goal.invariant-loop
invariant-loop l = record {
  read : HasRead (next_rule_from (preamble_of l.preamble)) l.count l.initial.reader.left.now l.counter (map rule_content l.rules.items) l.reader.left.now;
  known : is_name_taken l.taken ≡ is_among bytes_eq (names_of (preamble_of l.preamble).texts (map rule_content l.rules.items));
}
