use Rattle.std.proofs.Common.{◌≡◌, ◌++◌, take, map, string_bytes}
use Rattle.std.specs.List.{flat_map}
use Rattle.rule_code.specs.Spelling.{text}
use Rattle.rule_code.proofs.writing.put_texts.Given as goal

abbrev pub invariant-loop-words : goal.invariant-loop-words
invariant-loop-words l = l.out.items ≡ l.initial.out.items ++ flat_map text (map string_bytes (take l.words-index l.texts))
