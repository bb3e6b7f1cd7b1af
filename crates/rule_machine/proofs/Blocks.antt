-- What blocks are by their rows: what they take, and how they open.
use Rattle.std.proofs.Common.{◌≡◌, Some, None, ℕ, suc, ◌+◌, ◌*◌, ◌≤◌, true, false, List, [], ◌∷◌, ◌++◌, length, refl, sym, ap, ◌∙◌, arith, length-append}
use Rattle.rule_code.specs.declared.instruction.Instr.{Instr}
use Rattle.rule_code.specs.declared.instruction.Instr.TheVariants as instrs
use Rattle.rule_code.specs.declared.kind.WrittenScalar.{WrittenScalar}
use Rattle.rule_verify.specs.declared.block_instr.BlockInstr.{BlockInstr}
use Rattle.rule_verify.specs.declared.block_instr.BlockInstr.TheVariants as blocks
use Rattle.rule_verify.specs.declared.pattern.Pattern.TheVariants.{AnyCollection}
use Rattle.rule_verify.specs.declared.shape.Shape.TheVariants.{OneBody}
use Rattle.rule_verify.specs.CodeTree.{CodeTree, block_of, shape_of}
use Rattle.rule_verify.specs.Patterns.{a_boolean}
use Rattle.rule_verify.specs.InstrKinds.{Surroundings, operands_of, operands_above, bound_count}
use Rattle.rule_cost.specs.Bounds.{taking_charge, ending_charge, block_charges}
use Rattle.rule_values.specs.Value.{Element, Value, element_value}
use Rattle.rule_machine.specs.Machine.{Setting, Piece, block_opened, opened_over, bound_values, keeping}
use Rattle.rule_machine.specs.Places.{Place, bound_by, end_place, stand, Mark, Here, Iterating, block_marked}
use Rattle.rule_machine.specs.Live.{HasBody, HasBranches, is_iteration, block_gives, HasKept, turns_kept}

-- the instruction that a block is
abbrev pub instr_of : BlockInstr → Instr
instr_of (blocks.Let n) = instrs.Let n
instr_of (blocks.If k n m) = instrs.If k n m
instr_of (blocks.ForAll n) = instrs.ForAll n
instr_of (blocks.Exists n) = instrs.Exists n
instr_of (blocks.One n) = instrs.One n
instr_of (blocks.Select n) = instrs.Select n
instr_of (blocks.Reject n) = instrs.Reject n
instr_of (blocks.Collect n) = instrs.Collect n
instr_of (blocks.CollectFlat n) = instrs.CollectFlat n
instr_of (blocks.IsUnique k n) = instrs.IsUnique k n
instr_of (blocks.Fold k n) = instrs.Fold k n

-- an instruction is the one of its block
pub block_is : (i : Instr) (b : BlockInstr) → block_of i ≡ Some b → i ≡ instr_of b
block_is (instrs.Let n) b e = cc
block_is (instrs.If k n m) b e = cc
block_is (instrs.ForAll n) b e = cc
block_is (instrs.Exists n) b e = cc
block_is (instrs.One n) b e = cc
block_is (instrs.Select n) b e = cc
block_is (instrs.Reject n) b e = cc
block_is (instrs.Collect n) b e = cc
block_is (instrs.CollectFlat n) b e = cc
block_is (instrs.IsUnique k n) b e = cc
block_is (instrs.Fold k n) b e = cc
block_is i b e = absurd cc

-- a block with one body is LET, an iteration over its one operand, or FOLD
pub data BlockSort (i : Instr) : Type 0 where
  is_let : (n : ℕ) → i ≡ instrs.Let n → BlockSort i
  iterates : is_iteration i ≡ true → operands_above i ≡ 0 → BlockSort i
  folds : (k : WrittenScalar) (n : ℕ) → i ≡ instrs.Fold k n → BlockSort i

-- it is one of these
pub block_sort : (i : Instr) → HasBody i → BlockSort i
block_sort (instrs.Let n) h = is_let n refl
block_sort (instrs.ForAll n) h = iterates refl refl
block_sort (instrs.Exists n) h = iterates refl refl
block_sort (instrs.One n) h = iterates refl refl
block_sort (instrs.Select n) h = iterates refl refl
block_sort (instrs.Reject n) h = iterates refl refl
block_sort (instrs.Collect n) h = iterates refl refl
block_sort (instrs.CollectFlat n) h = iterates refl refl
block_sort (instrs.IsUnique k n) h = iterates refl refl
block_sort (instrs.Fold k n) h = folds k n refl
block_sort i h = let bad = h.1 in cc

-- one operand is above the other, where there is one
pub above_is : (i : Instr) → (operands_above i ≡ 0 → ⊥) → operands_above i ≡ 1
above_is (instrs.Fold k n) above = refl
above_is i above = absurd (above refl)

-- FOLD is an iteration
pub fold_iterates : (i : Instr) → (operands_above i ≡ 0 → ⊥) → is_iteration i ≡ true
fold_iterates (instrs.Fold k n) above = refl
fold_iterates i above = absurd (above refl)

-- one that is no iteration is a LET
pub let_of : (i : Instr) (body : ℕ) → shape_of i ≡ OneBody body → is_iteration i ≡ false → (n : ℕ) × (i ≡ instrs.Let n)
let_of i body e other = by_sort (block_sort i (body, e))
  where
    by_sort : BlockSort i → (n : ℕ) × (i ≡ instrs.Let n)
    by_sort (is_let n is) = (n, is)
    by_sort (iterates it one) = cc
    by_sort (folds k n is) = let it : is_iteration i ≡ true = ap is_iteration is in cc

-- ---- rows that all blocks share but for FOLD: a turn binds its element, and adds what its body gave

-- a block that works on its topmost operand binds one variable
pub one_bound : (i : Instr) → operands_above i ≡ 0 → bound_count i ≡ 1
one_bound (instrs.Let n) one = refl
one_bound (instrs.Fold k n) one = cc
one_bound i one = refl

-- its turn binds the element
pub element_bound : (i : Instr) (e : Element) (kept : List Value) → operands_above i ≡ 0 → bound_values i e kept ≡ element_value e ∷ []
element_bound (instrs.Let n) e kept one = refl
element_bound (instrs.Fold k n) e kept one = cc
element_bound i e kept one = refl

-- and it keeps what each body gave
pub one_kept : (i : Instr) (kept : List Value) (v : Value) → operands_above i ≡ 0 → keeping i kept v ≡ kept ++ v ∷ []
one_kept (instrs.Let n) kept v one = refl
one_kept (instrs.Fold k n) kept v one = cc
one_kept i kept v one = refl

-- ---- what they take

-- an iteration that works on its topmost operand takes that one, which is a collection
pub iteration_takes : (s : Surroundings) (i : Instr) → is_iteration i ≡ true → operands_above i ≡ 0 → operands_of s i ≡ AnyCollection ∷ []
iteration_takes s (instrs.ForAll n) it one = refl
iteration_takes s (instrs.Exists n) it one = refl
iteration_takes s (instrs.One n) it one = refl
iteration_takes s (instrs.Select n) it one = refl
iteration_takes s (instrs.Reject n) it one = refl
iteration_takes s (instrs.Collect n) it one = refl
iteration_takes s (instrs.CollectFlat n) it one = refl
iteration_takes s (instrs.IsUnique k n) it one = refl
iteration_takes s (instrs.Fold k n) it one = cc
iteration_takes s i it one = cc

let_takes : (s : Surroundings) (i : Instr) (n : ℕ) → i ≡ instrs.Let n → length (operands_of s i) ≡ 1
let_takes s (instrs.Let m) n is = refl
let_takes s i n is = cc

-- a block that works on its topmost operand takes that one
pub block_takes_one : (s : Surroundings) (i : Instr) → HasBody i → operands_above i ≡ 0 → length (operands_of s i) ≡ 1
block_takes_one s i h one = by_sort (block_sort i h)
  where
    by_sort : BlockSort i → length (operands_of s i) ≡ 1
    by_sort (is_let n is) = let_takes s i n is
    by_sort (iterates it top) = ap length (iteration_takes s i it top)
    by_sort (folds k n is) = let bad : operands_above (instrs.Fold k n) ≡ 0 = ap operands_above (sym is) ∙ one in cc

-- an IF takes one operand, its condition
pub branch_takes : (s : Surroundings) (i : Instr) → HasBranches i → operands_of s i ≡ a_boolean ∷ []
branch_takes s (instrs.If k n m) h = refl
branch_takes s i h = let bad = h.2 in cc

-- without operands no block is opened
pub none_opened : (i : Instr) (body : CodeTree) (q : List Piece) (vars left : List Value) → block_opened i body [] q vars left ≡ None
none_opened (instrs.Let n) body q vars left = refl
none_opened i body q vars left = refl

-- ---- iterations

-- an iteration is charged for two steps, for each element one step, its body and what that gives, and for its end
pub iteration_charges : (i : Instr) (l b m : ℕ) → is_iteration i ≡ true → block_charges i l b m ≡ 2 + l * (1 + b + taking_charge i m) + ending_charge i l
iteration_charges (instrs.Let n) l b m it = cc
iteration_charges i l b m it = refl

-- a block that is an iteration is opened over its operand
pub iteration_opens : (i : Instr) (body : CodeTree) (v : Value) (os : List Value) (q : List Piece) (vars left : List Value) → is_iteration i ≡ true → operands_above i ≡ 0 → block_opened i body (v ∷ os) q vars left ≡ opened_over i body v [] q vars left
iteration_opens (instrs.Let n) body v os q vars left it one = cc
iteration_opens (instrs.Fold k n) body v os q vars left it one = cc
iteration_opens i body v os q vars left it one = refl

-- the marks of an iteration that is opened: its own, and that of the code after it
pub iteration_marked : (s : Setting) (i : Instr) (body : CodeTree) (vps : List Place) (p : Place) (ps : List Place) (ms : List Mark) → is_iteration i ≡ true → block_marked s i body vps p ps ++ Here (stand vps (block_gives s i body vps p ∷ ps)) ∷ ms ≡ Iterating p (end_place s body (bound_by s i p ++ vps)) (stand vps ps) ∷ Here (stand vps (block_gives s i body vps p ∷ ps)) ∷ ms
iteration_marked s (instrs.Let n) body vps p ps ms it = cc
iteration_marked s i body vps p ps ms it = refl

-- what an iteration that keeps no start value has at its beginning
pub nothing_kept : (s : Setting) (i : Instr) → operands_above i ≡ 0 → HasKept i [] × (turns_kept i [] ≡ 0)
nothing_kept s (instrs.Fold k n) one = cc
nothing_kept s i one = (tt, refl)

-- what is kept with the value that a body gave is of as many turns, or one more
pub keeping_turns : (i : Instr) (kept : List Value) (v : Value) → turns_kept i (keeping i kept v) ≤ suc (turns_kept i kept)
keeping_turns (instrs.Fold k n) kept v = omega arith
keeping_turns i kept v = omega (arith, length-append kept (v ∷ []))

pub keeping_has : (i : Instr) (kept : List Value) (v : Value) → HasKept i (keeping i kept v)
keeping_has (instrs.Fold k n) kept v = (v, refl)
keeping_has i kept v = tt
