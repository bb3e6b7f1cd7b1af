-- What instructions without a body make of operands, by the slots that these stand in.
use Rattle.std.specs.Prelude.{◌≡◌, true, List, ◌∷◌, length, Some}
use Rattle.rule_code.specs.declared.instruction.Instr.{Instr}
use Rattle.rule_code.specs.declared.instruction.Instr.TheVariants as instrs
use Rattle.rule_verify.specs.InstrKinds.{operands_of}
use Rattle.rule_values.specs.Value.{Value}
use Rattle.rule_slots.specs.declared.slot.Slot.{Slot}
use Rattle.rule_slots.specs.Slots.{Lists, SlotIs}
use Rattle.rule_machine.specs.Machine.{Setting, judged_by, are_what, result_of}

-- ---- instructions that work on operands alone

-- on two, whatever they are
abbrev pub TakesTwo : Instr → Type 0
TakesTwo instrs.Add = Unit {0}
TakesTwo instrs.Sub = Unit {0}
TakesTwo instrs.Mul = Unit {0}
TakesTwo instrs.Div = Unit {0}
TakesTwo instrs.Mod = Unit {0}
TakesTwo instrs.Min = Unit {0}
TakesTwo instrs.Max = Unit {0}
TakesTwo instrs.Lt = Unit {0}
TakesTwo instrs.Le = Unit {0}
TakesTwo instrs.Gt = Unit {0}
TakesTwo instrs.Ge = Unit {0}
TakesTwo instrs.And = Unit {0}
TakesTwo instrs.Or = Unit {0}
TakesTwo instrs.Xor = Unit {0}
TakesTwo instrs.Implies = Unit {0}
TakesTwo (instrs.Eq k) = Unit {0}
TakesTwo instrs.Eqx = Unit {0}
TakesTwo (instrs.Includes k) = Unit {0}
TakesTwo (instrs.Count k) = Unit {0}
TakesTwo (instrs.IncAll k) = Unit {0}
TakesTwo (instrs.ExcAll k) = Unit {0}
TakesTwo i = ⊥

-- on one, whatever it is
abbrev pub TakesOne : Instr → Type 0
TakesOne instrs.Neg = Unit {0}
TakesOne instrs.Abs = Unit {0}
TakesOne instrs.Not = Unit {0}
TakesOne instrs.Undef = Unit {0}
TakesOne instrs.IsInv = Unit {0}
TakesOne instrs.TLen = Unit {0}
TakesOne instrs.Size = Unit {0}
TakesOne instrs.IsEmpty = Unit {0}
TakesOne instrs.Sum = Unit {0}
TakesOne i = ⊥

-- ---- operands

-- the topmost operand stands for a value that the instruction takes
pub record CanTakeOne (s : Setting) (l : Lists) (p : List Slot) (i : Instr) (x : Slot) : Type 0 where
  pub value : Value
  pub rest : List Value
  pub is : SlotIs l p (length p) x value
  pub right : are_what s.population (operands_of (judged_by s) i) (value ∷ rest) ≡ true

-- and so do two, the second of which is the topmost
pub record CanTakeTwo (s : Setting) (l : Lists) (p : List Slot) (i : Instr) (x y : Slot) : Type 0 where
  pub value : Value
  pub other : Value
  pub rest : List Value
  pub is : SlotIs l p (length p) x value
  pub other_is : SlotIs l p (length p) y other
  pub right : are_what s.population (operands_of (judged_by s) i) (other ∷ value ∷ rest) ≡ true

-- ---- results

-- a slot stands for what an instruction makes of the topmost operand, whatever value that stands for
abbrev pub GivesOfOne : Setting → Lists → List Slot → Instr → Slot → Slot → Type 0
GivesOfOne s l p i x o =
    (vars : List Value) (v : Value) (rest : List Value) → SlotIs l p (length p) x v → are_what s.population (operands_of (judged_by s) i) (v ∷ rest) ≡ true
    → (r : Value) → result_of s vars i (v ∷ rest) ≡ Some r → SlotIs l p (length p) o r

-- and of two, the second of which is the topmost
abbrev pub GivesOfTwo : Setting → Lists → List Slot → Instr → Slot → Slot → Slot → Type 0
GivesOfTwo s l p i x y o =
    (vars : List Value) (v w : Value) (rest : List Value) → SlotIs l p (length p) x v → SlotIs l p (length p) y w → are_what s.population (operands_of (judged_by s) i) (w ∷ v ∷ rest) ≡ true
    → (r : Value) → result_of s vars i (w ∷ v ∷ rest) ≡ Some r → SlotIs l p (length p) o r
