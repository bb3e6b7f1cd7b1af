-- How many operands code leaves, in the segment of the stack that an open iteration, or the rule, began.
use Rattle.std.specs.Prelude.{◌≡◌, ℕ, suc, ◌+◌, List, [], ◌∷◌, length}
use Rattle.rule_verify.specs.CodeTree.{CodeTree, End, Plain, Block, Branch, Torn}
use Rattle.rule_verify.specs.InstrKinds.{operands_of, bound_count}
use Rattle.rule_machine.specs.Machine.{Setting, judged_by, Piece, Sequence, LetEnd, Opened, Turning, Skipped}

-- a tree leaves m operands of n, and takes none from below these
abbrev pub Balanced : Setting → CodeTree → ℕ → ℕ → Type 0
Balanced s End n m = n ≡ m
Balanced s (Plain i rest) n m = (k : ℕ) × (n ≡ length (operands_of (judged_by s) i) + k) × Balanced s rest (suc k) m
Balanced s (Block i body rest) n m =
    (k : ℕ) × (n ≡ length (operands_of (judged_by s) i) + k) × Balanced s body 0 1 × Balanced s rest (suc k) m
Balanced s (Branch i first second rest) n m =
    (k : ℕ) × (n ≡ length (operands_of (judged_by s) i) + k) × Balanced s first 0 1 × Balanced s second 0 1 × Balanced s rest (suc k) m
Balanced s (Torn i left) n m = ⊥

-- With v variables and n operands of the innermost segment, what is pending up to the iteration that began it, or to the
-- end, leaves one operand, and the variables that the segment began with: those that a turn binds, or the object.
abbrev pub LeavesOne : Setting → List Piece → ℕ → ℕ → Type 0
LeavesOne s [] v n = (v ≡ 1) × (n ≡ 1)
LeavesOne s (Sequence t ∷ q) v n = (m : ℕ) × Balanced s t n m × LeavesOne s q v m
LeavesOne s (LetEnd ∷ q) v n = (k : ℕ) × (v ≡ suc k) × LeavesOne s q k n
LeavesOne s (Opened i body source kept ∷ q) v n = Balanced s body 0 1 × LeavesOne s q v (suc n)
LeavesOne s (Turning i body source left kept ∷ q) v n = (v ≡ bound_count i) × (n ≡ 1)
LeavesOne s (Skipped ∷ q) v n = LeavesOne s q v (suc n)
