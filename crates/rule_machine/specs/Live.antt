-- Code with kinds, and configurations that can go on: what every run of accepted code keeps.
use Rattle.std.specs.Prelude.{◌≡◌, ℕ, suc, ◌+◌, ◌*◌, ◌≤◌, Bool, true, false, List, [], ◌∷◌, ◌++◌, length, Option, Some, None}
use Rattle.ocl_kinds.specs.Kinds.{fits}
use Rattle.rule_code.specs.declared.instruction.Instr.{Instr}
use Rattle.rule_code.specs.WellFormed.{InstrFits}
use Rattle.rule_verify.specs.declared.block_instr.BlockInstr.{BlockInstr}
use Rattle.rule_verify.specs.declared.block_instr.BlockInstr.TheVariants as blocks
use Rattle.rule_verify.specs.declared.depths.Depths.{Depths}
use Rattle.rule_verify.specs.CodeDepths.{deepest}
use Rattle.rule_verify.specs.CodeTree.{CodeTree, End, Plain, Block, Branch, Torn, block_of, shape_of}
use Rattle.rule_verify.specs.declared.shape.Shape.TheVariants.{Single, OneBody, TwoBodies}
use Rattle.rule_verify.specs.Patterns.{matches, all_match, a_boolean}
use Rattle.ocl_base.specs.Lists.{variable_at}
use Rattle.rule_verify.specs.InstrKinds.{has_names, has_variable, operands_of, ends_with}
use Rattle.rule_cost.specs.Bounds.{extra_charge, taking_charge, ending_charge, block_charges}
use Rattle.rule_values.specs.Value.{Element, Value}
use Rattle.rule_values.specs.Endings.{Source}
use Rattle.rule_machine.specs.Machine.{Setting, judged_by, Piece, Sequence, LetEnd, Opened, Turning, Skipped, Configuration}
use Rattle.rule_machine.specs.Places.{Place, kinds_of, lengths_of, self_place, given, places_left, bound_by, operand_place, kept_place, yielded, branch_place, end_place, Stand, stand, Mark, Here, Iterating, now_at, AllAt, EachAt, IsSource}

-- what stands at the one may stand at the other
pub record Below (s : Setting) (r t : Place) : Type 0 where
  pub fit : fits s.population.model r.kind t.kind ≡ true
  pub shorter : r.longest ≤ t.longest

abbrev pub AllBelow : Setting → List Place → List Place → Type 0
AllBelow s [] [] = Unit {0}
AllBelow s [] (q ∷ qs) = ⊥
AllBelow s (p ∷ ps) [] = ⊥
AllBelow s (p ∷ ps) (q ∷ qs) = Below s p q × AllBelow s ps qs

-- an instruction of the unit, whose names, variable and operands are there and right
pub record IsTaken (s : Setting) (i : Instr) (vars ps : List Place) : Type 0 where
  pub names : has_names (judged_by s) i ≡ true
  pub read : has_variable (kinds_of vars) i ≡ true
  pub match : all_match s.population.model (operands_of (judged_by s) i) (kinds_of ps) ≡ true
  pub fits : InstrFits (length s.unit.texts) s.unit.symbols i
  pub object : variable_at vars 0 ≡ Some (self_place s)

-- ---- code

abbrev pub HasBody : Instr → Type 0
HasBody i = (n : ℕ) × (shape_of i ≡ OneBody n)

abbrev pub HasBranches : Instr → Type 0
HasBranches i = (n : ℕ) × (m : ℕ) × (shape_of i ≡ TwoBodies n m)

-- a block with one body that is no LET
abbrev pub block_is_iteration : Option BlockInstr → Bool
block_is_iteration None = false
block_is_iteration (Some (blocks.Let n)) = false
block_is_iteration (Some (blocks.If k n m)) = false
block_is_iteration (Some (blocks.ForAll n)) = true
block_is_iteration (Some (blocks.Exists n)) = true
block_is_iteration (Some (blocks.One n)) = true
block_is_iteration (Some (blocks.Select n)) = true
block_is_iteration (Some (blocks.Reject n)) = true
block_is_iteration (Some (blocks.Collect n)) = true
block_is_iteration (Some (blocks.CollectFlat n)) = true
block_is_iteration (Some (blocks.IsUnique k n)) = true
block_is_iteration (Some (blocks.Fold k n)) = true

abbrev pub is_iteration : Instr → Bool
is_iteration i = block_is_iteration (block_of i)

-- the places of what a block and an IF give
abbrev pub block_gives : Setting → Instr → CodeTree → List Place → Place → Place
block_gives s i body vars p = yielded s i p (end_place s body (bound_by s i p ++ vars))

abbrev pub branch_gives : Setting → Instr → CodeTree → CodeTree → List Place → Place → Place
branch_gives s i first second vars p = branch_place s i p (end_place s first vars) (end_place s second vars)

-- a tree has kinds, and is charged at most n: the operands before it, and those after it
abbrev pub Kinded : Setting → CodeTree → List Place → List Place → List Place → ℕ → Type 0
Kinded s End vars ps out n = AllBelow s ps out
Kinded s (Plain i rest) vars ps out n =
    (m : ℕ) × (shape_of i ≡ Single) × IsTaken s i vars ps × Kinded s rest vars (given s vars i ps ∷ places_left s i ps) out m × (1 + extra_charge i (lengths_of ps) + m ≤ n)
Kinded s (Block i body rest) vars ps out n =
    (m : ℕ) × (k : ℕ) × HasBody i × IsTaken s i vars ps
    × Kinded s body (bound_by s i (operand_place i ps) ++ vars) [] (end_place s body (bound_by s i (operand_place i ps) ++ vars) ∷ []) m
    × (matches s.population.model (ends_with (judged_by s) i) (end_place s body (bound_by s i (operand_place i ps) ++ vars)).kind ≡ true)
    × Kinded s rest vars (block_gives s i body vars (operand_place i ps) ∷ places_left s i ps) out k × (block_charges i (operand_place i ps).longest m (end_place s body (bound_by s i (operand_place i ps) ++ vars)).longest + k ≤ n)
Kinded s (Branch i first second rest) vars [] out n = ⊥
Kinded s (Branch i first second rest) vars (p ∷ ps) out n =
    (m : ℕ) × (k : ℕ) × HasBranches i × IsTaken s i vars (p ∷ ps)
    × Kinded s first vars [] (branch_gives s i first second vars p ∷ []) m × Kinded s second vars [] (branch_gives s i first second vars p ∷ []) m
    × Kinded s rest vars (branch_gives s i first second vars p ∷ ps) out k × (1 + m + k ≤ n)
Kinded s (Torn i left) vars ps out n = ⊥

-- ---- depths

-- the one goes no deeper than the other
pub record NoDeeper (c d : Depths) : Type 0 where
  pub operands : c.operands ≤ d.operands
  pub variables : c.variables ≤ d.variables
  pub blocks : c.blocks ≤ d.blocks

-- a tree goes no deeper than these depths, with these numbers of variables and operands before it and of pieces pending
-- below it
pub record GoesNoDeeper (s : Setting) (d : Depths) (t : CodeTree) (variables operands pieces : ℕ) : Type 0 where
  pub blocks : ℕ
  pub covered : pieces ≤ 2 * blocks
  pub within : NoDeeper (deepest (judged_by s) t (record { operands = operands; variables = variables; blocks = blocks })) d

-- the depths have room for n pieces at these places
pub record HasRoom (d : Depths) (n : ℕ) (at : Stand) : Type 0 where
  pub operands : length at.operands ≤ d.operands
  pub variables : length at.variables ≤ d.variables
  pub pieces : n ≤ 2 * d.blocks + 1

-- ---- pending code

-- what an iteration keeps: FOLD one value, of each other nothing is asked
abbrev pub BlockHasKept : Option BlockInstr → List Value → Type 0
BlockHasKept None kept = Unit {0}
BlockHasKept (Some (blocks.Let n)) kept = Unit {0}
BlockHasKept (Some (blocks.If k n m)) kept = Unit {0}
BlockHasKept (Some (blocks.ForAll n)) kept = Unit {0}
BlockHasKept (Some (blocks.Exists n)) kept = Unit {0}
BlockHasKept (Some (blocks.One n)) kept = Unit {0}
BlockHasKept (Some (blocks.Select n)) kept = Unit {0}
BlockHasKept (Some (blocks.Reject n)) kept = Unit {0}
BlockHasKept (Some (blocks.Collect n)) kept = Unit {0}
BlockHasKept (Some (blocks.CollectFlat n)) kept = Unit {0}
BlockHasKept (Some (blocks.IsUnique k n)) kept = Unit {0}
BlockHasKept (Some (blocks.Fold k n)) kept = (v : Value) × (kept ≡ v ∷ [])

abbrev pub HasKept : Instr → List Value → Type 0
HasKept i kept = BlockHasKept (block_of i) kept

-- how many values it keeps of turns that are over
abbrev pub block_turns_kept : Option BlockInstr → List Value → ℕ
block_turns_kept None kept = length kept
block_turns_kept (Some (blocks.Let n)) kept = length kept
block_turns_kept (Some (blocks.If k n m)) kept = length kept
block_turns_kept (Some (blocks.ForAll n)) kept = length kept
block_turns_kept (Some (blocks.Exists n)) kept = length kept
block_turns_kept (Some (blocks.One n)) kept = length kept
block_turns_kept (Some (blocks.Select n)) kept = length kept
block_turns_kept (Some (blocks.Reject n)) kept = length kept
block_turns_kept (Some (blocks.Collect n)) kept = length kept
block_turns_kept (Some (blocks.CollectFlat n)) kept = length kept
block_turns_kept (Some (blocks.IsUnique k n)) kept = length kept
block_turns_kept (Some (blocks.Fold k n)) kept = 0

abbrev pub turns_kept : Instr → List Value → ℕ
turns_kept i kept = block_turns_kept (block_of i) kept

-- An iteration in the middle of its run: its body has kinds and is charged at most m, its source stands at the place
-- p, and what its body gave in the turns before, and will give, may stand at the place r.
pub record IsOpenIteration (s : Setting) (i : Instr) (body : CodeTree) (source : Source) (left : List Element) (kept : List Value) (vars : List Place) (p r : Place) (m : ℕ) : Type 0 where
  pub iterates : is_iteration i ≡ true
  pub stands : IsSource s p source left
  pub kinded : Kinded s body (bound_by s i p ++ vars) [] (r ∷ []) m
  pub ends : matches s.population.model (ends_with (judged_by s) i) r.kind ≡ true
  pub given : EachAt s (kept_place s i r) kept
  pub has : HasKept i kept

-- one operand, which fits Boolean
abbrev pub IsOneBoolean : Setting → List Place → Type 0
IsOneBoolean s (p ∷ []) = matches s.population.model a_boolean p.kind ≡ true
IsOneBoolean s ps = ⊥

-- Pending code has kinds from its marks on, is charged at most n, and goes no deeper than these depths. Each piece
-- leaves what the next one stands at.
abbrev pub Going : Setting → Depths → List Piece → List Mark → ℕ → Type 0
Going s d [] (Here at ∷ []) n = IsOneBoolean s at.operands
Going s d (Sequence t ∷ q) (Here at ∷ ms) n =
    (m : ℕ) × (k : ℕ) × (own : List Place) × (below : List Place) × (out : List Place) × (at.operands ≡ own ++ below)
    × Kinded s t at.variables own out m × (now_at s q ms ≡ stand at.variables (out ++ below)) × Going s d q ms k × (m + k ≤ n)
    × GoesNoDeeper s d t (length at.variables) (length at.operands) (length q)
Going s d (LetEnd ∷ q) (Here at ∷ ms) n =
    (k : ℕ) × (v : Place) × (at.variables ≡ v ∷ (now_at s q ms).variables) × (at.operands ≡ (now_at s q ms).operands) × Going s d q ms k × (1 + k ≤ n)
Going s d (Opened i body source kept ∷ q) (Iterating p r below ∷ ms) n =
    (m : ℕ) × (k : ℕ) × IsOpenIteration s i body source source.elements kept below.variables p r m × (turns_kept i kept ≡ 0)
    × (now_at s q ms ≡ stand below.variables (yielded s i p r ∷ below.operands)) × Going s d q ms k × (1 + length source.elements * (1 + m + taking_charge i r.longest) + ending_charge i (length source.elements) + k ≤ n)
    × GoesNoDeeper s d body (length (bound_by s i p ++ below.variables)) (length below.operands) (suc (length q)) × (suc (length below.operands) ≤ d.operands)
Going s d (Turning i body source left kept ∷ q) (Iterating p r below ∷ ms) n =
    (m : ℕ) × (k : ℕ) × IsOpenIteration s i body source left kept below.variables p r m × (turns_kept i kept + (1 + length left) ≤ length source.elements)
    × (now_at s q ms ≡ stand below.variables (yielded s i p r ∷ below.operands)) × Going s d q ms k × (1 + taking_charge i r.longest + length left * (1 + m + taking_charge i r.longest) + ending_charge i (length source.elements) + k ≤ n)
    × GoesNoDeeper s d body (length (bound_by s i p ++ below.variables)) (length below.operands) (suc (length q)) × (suc (length below.operands) ≤ d.operands)
Going s d (Skipped ∷ q) (Iterating p r below ∷ ms) n =
    (k : ℕ) × (t : Place) × (now_at s q ms ≡ stand below.variables (t ∷ below.operands)) × Going s d q ms k × (1 + k ≤ n)
    × (suc (length below.operands) ≤ d.operands)
Going s d q ms n = ⊥

-- a sequence that isn't empty
abbrev pub IsThere : CodeTree → Type 0
IsThere End = ⊥
IsThere t = Unit {0}

-- no empty sequence stands first
abbrev pub IsSettled : List Piece → Type 0
IsSettled [] = Unit {0}
IsSettled (Sequence t ∷ q) = IsThere t
IsSettled (p ∷ q) = Unit {0}

-- a configuration with these marks can go on, charged at most n and no deeper than these depths
pub record Live (s : Setting) (d : Depths) (c : Configuration) (ms : List Mark) (n : ℕ) : Type 0 where
  pub variables_at : AllAt s c.variables (now_at s c.pending ms).variables
  pub operands_at : AllAt s c.operands (now_at s c.pending ms).operands
  pub settled : IsSettled c.pending
  pub room : HasRoom d (length c.pending) (now_at s c.pending ms)
  pub cost : ℕ
  pub within : cost ≤ n
  pub going : Going s d c.pending ms cost
