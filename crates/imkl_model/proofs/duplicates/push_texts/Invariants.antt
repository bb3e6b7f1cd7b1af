use Rattle.std.proofs.Common.{◌≡◌, ◌++◌, map, take, string_bytes}
use Rattle.imkl_model.proofs.duplicates.push_texts.Given as goal

abbrev pub invariant-loop-item : goal.invariant-loop-item
invariant-loop-item g l = map string_bytes l.texts.items ≡ map string_bytes l.initial.texts.items ++ map g.T.Named.label (take l.item-index l.items)
