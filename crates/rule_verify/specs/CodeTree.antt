-- Code as a tree: a list of instructions, cut by the lengths of its bodies.
use Rattle.std.specs.Prelude.{ℕ, zero, suc, ◌+◌, List, [], ◌∷◌, length, take, drop, Option, Some, None, nat_le, if◌then◌else◌}
use Rattle.rule_code.specs.declared.instruction.Instr.{Instr}
use Rattle.rule_code.specs.declared.instruction.Instr.TheVariants as instrs
use Rattle.rule_verify.specs.declared.block_instr.BlockInstr.{BlockInstr}
use Rattle.rule_verify.specs.declared.block_instr.BlockInstr.TheVariants as blocks
use Rattle.rule_verify.specs.declared.shape.Shape.{Shape}
use Rattle.rule_verify.specs.declared.shape.Shape.TheVariants.{Single, OneBody, TwoBodies}

-- The block that an instruction is; none where it has no body. No row covers another instruction's: what holds of blocks
-- goes by this, and each of its tables has a row for each block, so that no block can be left out of one.
abbrev pub block_of : Instr → Option BlockInstr
block_of instrs.SelfObject = None
block_of (instrs.Get n) = None
block_of (instrs.Int n) = None
block_of (instrs.Bool b) = None
block_of (instrs.Text t) = None
block_of (instrs.Enum s) = None
block_of instrs.Null = None
block_of instrs.Invalid = None
block_of (instrs.Attr s) = None
block_of (instrs.All s) = None
block_of (instrs.AsColl c k) = None
block_of (instrs.KindOf s) = None
block_of (instrs.TypeOf s) = None
block_of (instrs.AsType s) = None
block_of instrs.Add = None
block_of instrs.Sub = None
block_of instrs.Mul = None
block_of instrs.Div = None
block_of instrs.Mod = None
block_of instrs.Neg = None
block_of instrs.Abs = None
block_of instrs.Min = None
block_of instrs.Max = None
block_of instrs.Lt = None
block_of instrs.Le = None
block_of instrs.Gt = None
block_of instrs.Ge = None
block_of instrs.Not = None
block_of instrs.And = None
block_of instrs.Or = None
block_of instrs.Xor = None
block_of instrs.Implies = None
block_of (instrs.Eq k) = None
block_of instrs.Eqx = None
block_of instrs.Undef = None
block_of instrs.IsInv = None
block_of instrs.TLen = None
block_of instrs.SubStr = None
block_of instrs.Size = None
block_of instrs.IsEmpty = None
block_of (instrs.Includes k) = None
block_of (instrs.Count k) = None
block_of (instrs.IncAll k) = None
block_of (instrs.ExcAll k) = None
block_of instrs.Sum = None
block_of (instrs.AsSet k) = None
block_of (instrs.Let n) = Some (blocks.Let n)
block_of (instrs.If k n m) = Some (blocks.If k n m)
block_of (instrs.ForAll n) = Some (blocks.ForAll n)
block_of (instrs.Exists n) = Some (blocks.Exists n)
block_of (instrs.One n) = Some (blocks.One n)
block_of (instrs.Select n) = Some (blocks.Select n)
block_of (instrs.Reject n) = Some (blocks.Reject n)
block_of (instrs.Collect n) = Some (blocks.Collect n)
block_of (instrs.CollectFlat n) = Some (blocks.CollectFlat n)
block_of (instrs.IsUnique k n) = Some (blocks.IsUnique k n)
block_of (instrs.Fold k n) = Some (blocks.Fold k n)

-- how many bodies an instruction has, and their lengths
abbrev pub block_shape : Option BlockInstr → Shape
block_shape None = Single
block_shape (Some (blocks.Let n)) = OneBody n
block_shape (Some (blocks.If k n m)) = TwoBodies n m
block_shape (Some (blocks.ForAll n)) = OneBody n
block_shape (Some (blocks.Exists n)) = OneBody n
block_shape (Some (blocks.One n)) = OneBody n
block_shape (Some (blocks.Select n)) = OneBody n
block_shape (Some (blocks.Reject n)) = OneBody n
block_shape (Some (blocks.Collect n)) = OneBody n
block_shape (Some (blocks.CollectFlat n)) = OneBody n
block_shape (Some (blocks.IsUnique k n)) = OneBody n
block_shape (Some (blocks.Fold k n)) = OneBody n

abbrev pub shape_of : Instr → Shape
shape_of i = block_shape (block_of i)

-- A sequence of instructions: each with its bodies, and then what follows it. A block whose bodies are longer than what
-- is left doesn't nest: it ends its sequence, with the number of instructions that are left.
pub data CodeTree : Type 0 where
  End : CodeTree
  Plain : Instr → CodeTree → CodeTree
  Block : Instr → CodeTree → CodeTree → CodeTree
  Branch : Instr → CodeTree → CodeTree → CodeTree → CodeTree
  Torn : Instr → ℕ → CodeTree

-- how many instructions
abbrev pub instr_count : CodeTree → ℕ
instr_count End = 0
instr_count (Plain i rest) = 1 + instr_count rest
instr_count (Block i body rest) = 1 + instr_count body + instr_count rest
instr_count (Branch i first second rest) = 1 + instr_count first + instr_count second + instr_count rest
instr_count (Torn i left) = 1 + left

-- an instruction of a shape, and what follows it, where lists are cut by `go`
abbrev pub cut_one : (List Instr → CodeTree) → Instr → Shape → List Instr → CodeTree
cut_one go i Single is = Plain i (go is)
cut_one go i (OneBody n) is = if nat_le n (length is) then Block i (go (take n is)) (go (drop n is)) else Torn i (length is)
cut_one go i (TwoBodies n m) is =
    if nat_le (n + m) (length is)
    then Branch i (go (take n is)) (go (take m (drop n is))) (go (drop (n + m) is))
    else Torn i (length is)

-- a list cut into a tree, with at most this number of levels
abbrev pub cut : ℕ → List Instr → CodeTree
cut zero is = End
cut (suc levels) [] = End
cut (suc levels) (i ∷ is) = cut_one (cut levels) i (shape_of i) is

abbrev pub code_tree : List Instr → CodeTree
code_tree is = cut (length is) is
