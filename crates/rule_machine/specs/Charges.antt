-- What steps and runs are charged.
use Rattle.std.specs.Prelude.{ℕ, zero, suc, ◌+◌, List, [], ◌∷◌, length, unwrap_or}
use Rattle.std.specs.Option.{option_map}
use Rattle.rule_code.specs.declared.instruction.Instr.{Instr}
use Rattle.rule_verify.specs.CodeTree.{Plain}
use Rattle.rule_cost.specs.Bounds.{top_length, extra_charge, taking_charge, ending_charge}
use Rattle.rule_values.specs.Value.{Element, Value}
use Rattle.rule_values.specs.Endings.{Source}
use Rattle.rule_machine.specs.Machine.{Setting, Piece, Sequence, Opened, Turning, Configuration, step}
use Rattle.rule_machine.specs.Places.{long}

-- the lengths of values, of each that is no collection 0
abbrev pub longs : List Value → List ℕ
longs [] = []
longs (v ∷ vs) = long v ∷ longs vs

-- what the next turn of an iteration is charged besides its step: with no element left the iteration ends
abbrev pub turn_charge : Instr → Source → List Element → ℕ
turn_charge i source [] = ending_charge i (length source.elements)
turn_charge i source (e ∷ left) = 0

-- The charge of the step of the first piece that is pending. Every step is charged 1. Besides, an instruction without a
-- body by its operands' lengths; the step that takes the value of a body, by that value's length; and the step that ends
-- an iteration, by its source's.
abbrev pub piece_charge : List Piece → List Value → ℕ
piece_charge (Sequence (Plain i rest) ∷ ps) os = 1 + extra_charge i (longs os)
piece_charge (Opened i body source kept ∷ ps) os = 1 + turn_charge i source source.elements
piece_charge (Turning i body source left kept ∷ ps) os = 1 + taking_charge i (top_length (longs os)) + turn_charge i source left
piece_charge ps os = 1

-- the charge of the next step of a configuration
abbrev pub charge_of : Configuration → ℕ
charge_of c = piece_charge c.pending c.operands

-- The charges of n steps from a configuration. Of a configuration that a run of accepted code reaches in n steps, and
-- that has no verdict, the charges of n + 1 steps are those of n and that of its next step.
abbrev pub work_of : Setting → ℕ → Configuration → ℕ
work_of s zero c = 0
work_of s (suc n) c = charge_of c + unwrap_or (option_map (work_of s n) (step s c)) 0
