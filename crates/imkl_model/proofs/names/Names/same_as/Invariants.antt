use Rattle.std.proofs.Common.{◌≡◌, ℕ, ◌<◌, [], slice_index_or}
use Rattle.imkl_model.proofs.names.Names.same_as.Given as goal

abbrev pub invariant-loop-i : goal.invariant-loop-i
invariant-loop-i l = (k : ℕ) → k < l.i → slice_index_or l.self k [] ≡ slice_index_or l.other k []
