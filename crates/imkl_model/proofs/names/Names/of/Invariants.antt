use Rattle.std.proofs.Common.{map, take, string_bytes}
use Rattle.imkl_model.proofs.Ranks.{AreTaken}
use Rattle.imkl_model.proofs.names.Names.of.Given as goal

abbrev pub invariant-loop-text : goal.invariant-loop-text
invariant-loop-text l = AreTaken (map string_bytes l.sorted.items) (map string_bytes (take l.text-index l.texts)) l.ranks.keys
