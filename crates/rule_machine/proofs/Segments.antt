-- What stands for pending code, variables and operands does so under a pool that is the same below its bound.
use Rattle.std.proofs.Common.{◌≡◌, ℕ, ◌+◌, ◌≤◌, List, [], ◌∷◌, take, subst, arith}
use Rattle.rule_code.specs.declared.instruction.Instr.{Instr}
use Rattle.rule_verify.specs.CodeTree.{CodeTree}
use Rattle.rule_values.specs.Value.{Element, Value}
use Rattle.rule_values.specs.Endings.{Source}
use Rattle.rule_slots.specs.declared.slot.Slot.{Slot}
use Rattle.rule_slots.specs.Slots.{Lists, ElementsAre}
use Rattle.rule_slots.proofs.ForAbove.{range_same, part_same, slots_same, less}
use Rattle.rule_machine.specs.Machine.{Setting, Piece, Sequence, LetEnd, Turning, Skipped}
use Rattle.rule_machine.specs.declared.piece.Turn.{Turn}
use Rattle.rule_machine.specs.declared.piece.Piece.{Piece as Pending}
use Rattle.rule_machine.specs.declared.piece.Piece.TheVariants as piece
use Rattle.rule_machine.specs.StandFor.{TurnIs, TurnKeeps, Cut, StandsFor, kept_elements}

-- a cut stack stands for the same values
abbrev pub cut_same : (l : Lists) (p q : List Slot) (hi hi' : ℕ) (le : hi ≤ hi') (same : take hi p ≡ take hi q) (n : ℕ) (ss : List Slot) (vs : List Value) → Cut l p hi n ss vs → Cut l q hi' n ss vs
cut_same l p q hi hi' le same n ss vs c =
    record { here = c.here; below = c.below; here_values = c.here_values; below_values = c.below_values; slots = c.slots; values = c.values; are = slots_same l p q hi hi' le same c.here c.here_values c.are; long = c.long }

-- a mark stands for the same iteration
pub turn_same : (s : Setting) (l : Lists) (code : List Instr) (p q : List Slot) (hi hi' : ℕ) (t : Turn) (i : Instr) (body : CodeTree) (source : Source) (left : List Element) (kept : List Value) → hi ≤ hi' → take hi p ≡ take hi q → TurnIs s l code p hi t i body source left kept → TurnIs s l code q hi' t i body source left kept
turn_same s l code p q hi hi' t i body source left kept le same h =
    let le' : t.opened ≤ t.opened = omega arith in
    record {
      same_instr = h.same_instr;
      same_body = h.same_body;
      part = part_same l p q t.opened t.opened le' (less p q hi t.opened (omega (arith, h.above)) same) t.source source.elements h.part;
      rest = h.rest;
      above = omega (arith, h.above, le);
      keeps = subst (λ ss. ElementsAre l ss (kept_elements t.instr source.elements kept)) (range_same p q hi t.opened (t.opened + t.kept) same h.above) h.keeps;
      trues = h.trues;
      falses = h.falses;
      invalids = h.invalids;
      fitting = h.fitting;
    }

-- and keeps the same
pub turn_keeps_same : (s : Setting) (l : Lists) (code : List Instr) (p q : List Slot) (hi hi' : ℕ) (t : Turn) (i : Instr) (body : CodeTree) (source : Source) (left : List Element) (kept : List Value) → hi ≤ hi' → take hi p ≡ take hi q → TurnKeeps s l code p hi t i body source left kept → TurnKeeps s l code q hi' t i body source left kept
turn_keeps_same s l code p q hi hi' t i body source left kept le same h =
    record { bodies = h.bodies; keeps = h.keeps; turn = turn_same s l code p q hi hi' t i body source left h.bodies le same h.turn; turns = h.turns }

-- what is pending, variables and operands stand for the same
pub stand_same : (s : Setting) (l : Lists) (code : List Instr) (p q : List Slot) (hi hi' v n : ℕ) (cs : List Pending) (vs os : List Slot) (ps : List Piece) (vars ops : List Value) → hi ≤ hi' → take hi p ≡ take hi q → StandsFor s l code p hi v n cs vs os ps vars ops → StandsFor s l code q hi' v n cs vs os ps vars ops
stand_same s l code p q hi hi' v n [] vs os [] vars ops le same h = (h.0, h.1, slots_same l p q hi hi' le same vs vars h.2, slots_same l p q hi hi' le same os ops h.3)
stand_same s l code p q hi hi' v n (piece.Rest a b ∷ cs) vs os (Sequence t ∷ ps) vars ops le same h = (h.0, stand_same s l code p q hi hi' v n cs vs os ps vars ops le same h.1)
stand_same s l code p q hi hi' v n (piece.LetEnd ∷ cs) vs os (LetEnd ∷ ps) vars ops le same h = stand_same s l code p q hi hi' v n cs vs os ps vars ops le same h
stand_same s l code p q hi hi' v n (piece.Skipped ∷ cs) vs os (Skipped ∷ ps) vars ops le same h = stand_same s l code p q hi hi' v n cs vs os ps vars ops le same h
stand_same s l code p q hi hi' v n (piece.Turning t ∷ cs) vs os (Turning i body source left kept ∷ ps) vars ops le same h = (
  cut_same l p q hi hi' le same v vs vars h.0,
  cut_same l p q hi hi' le same n os ops h.1,
  turn_keeps_same s l code p q hi hi' t i body source left kept le same h.2,
  h.3,
  h.4,
  h.5,
  h.6,
  stand_same s l code p q t.opened t.opened h.4 h.5 cs h.0.below h.1.below ps h.0.below_values h.1.below_values (omega arith) (less p q hi t.opened (omega (arith, h.2.turn.above)) same) h.7,
)
stand_same s l code p q hi hi' v n cs vs os ps vars ops le same h = absurd h
