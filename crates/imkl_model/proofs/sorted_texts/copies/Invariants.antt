use Rattle.std.proofs.Common.{◌≡◌, map, take, string_bytes}
use Rattle.imkl_model.proofs.sorted_texts.copies.Given as goal

abbrev pub invariant-loop-text : goal.invariant-loop-text
invariant-loop-text l = map string_bytes l.found.items ≡ map string_bytes (take l.text-index l.texts)
