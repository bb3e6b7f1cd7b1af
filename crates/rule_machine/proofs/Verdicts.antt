-- Where a run is at its end, and what its verdict is.
use Rattle.std.proofs.Common.{◌≡◌, ℕ, true, false, List, [], ◌∷◌, length, Some, refl, sym, ap, ◌∙◌, subst, arith}
use Rattle.imkl_population.specs.declared.scalar.Scalar.TheVariants as scalar
use Rattle.rule_code.specs.declared.instruction.Instr.{Instr}
use Rattle.rule_values.specs.Value as value
use Rattle.rule_values.specs.Value.{Value}
use Rattle.rule_slots.specs.declared.slot.Slot.{Slot}
use Rattle.rule_slots.specs.Slots.{Lists, SlotIs}
use Rattle.rule_machine.specs.declared.piece.Piece.{Piece as Pending}
use Rattle.rule_machine.specs.declared.piece.Piece.TheVariants as piece
use Rattle.rule_machine.specs.Machine.{Setting, Piece, Sequence, Configuration, configuration}
use Rattle.rule_values.specs.Verdict.{verdict_of}
use Rattle.rule_machine.specs.Outcome.{outcome}
use Rattle.rule_machine.specs.Counts.{LeavesOne}
use Rattle.rule_machine.specs.StandFor.{TopStandsFor, IsAt, verdict_slot}
use Rattle.rule_machine.specs.Shown.{IsTruth, EndsInTruth, IsMark}
use Rattle.rule_machine.proofs.InstrSteps.{past, top_of}

-- what is no rest of a sequence is a mark
pub is_mark : (c : Pending) → ((a b : ℕ) → c ≡ piece.Rest a b → ⊥) → IsMark c
is_mark (piece.Rest a b) other = other a b refl
is_mark c other = tt

-- the slot of a truth value, null or invalid tells the verdict
pub verdict_is : (l : Lists) (p : List Slot) (hi : ℕ) (s : Slot) (v : Value) → SlotIs l p hi s v → IsTruth v → verdict_slot s ≡ verdict_of v
verdict_is l p hi s (value.Single (scalar.Bool true)) h k = rw (h.0, h.1) refl
verdict_is l p hi s (value.Single (scalar.Bool false)) h k = rw (h.0, h.1) refl
verdict_is l p hi s value.Null h k = rw h refl
verdict_is l p hi s value.Invalid h k = rw h refl
verdict_is l p hi s v h k = absurd k

module _ (s : Setting) (l : Lists) (code : List Instr) (p : List Slot) where
  -- the rest of a sequence comes next
  pub rest_is : (at end a b : ℕ) (cs : List Pending) (vs os : List Slot) (c : Configuration) → at ≡ end → IsAt s l code p at end (piece.Rest a b ∷ cs) vs os c → IsAt s l code p a b cs vs os c
  rest_is at end a b cs vs os c e h =
      let f = past s l code p at end (piece.Rest a b ∷ cs) vs os c e h in
      by_pieces f.0 f.1 f.2 f.3 f.4 f.5 f.6 f.7
    where
      by_pieces : (ps : List Piece) (vars ops : List Value) (v n : ℕ) → c ≡ configuration ps vars ops → LeavesOne s ps v n → TopStandsFor s l code p v n (piece.Rest a b ∷ cs) vs os ps vars ops → IsAt s l code p a b cs vs os c
      by_pieces (Sequence t ∷ q) vars ops v n same ends h =
          record {
            pieces = q;
            vars = vars;
            ops = ops;
            v = v;
            n = n;
            same = same ∙ ap (λ x. configuration (Sequence x ∷ q) vars ops) h.0;
            ends = subst (λ x. LeavesOne s (Sequence x ∷ q) v n) h.0 ends;
            top = top_of s l code p v n cs vs os q vars ops h.1;
            stand = λ lt. h.1;
          }
      by_pieces ps vars ops v n same ends h = absurd h

  -- with nothing pending there is an operand
  pub end_has_operand : (at end : ℕ) (vs : List Slot) (c : Configuration) → at ≡ end → IsAt s l code p at end [] vs [] c → ⊥
  end_has_operand at end vs c e h =
      let f = past s l code p at end [] vs [] c e h in
      by_pieces f.0 f.1 f.2 f.3 f.4 f.6 f.7
    where
      by_pieces : (ps : List Piece) (vars ops : List Value) (v n : ℕ) → LeavesOne s ps v n → TopStandsFor s l code p v n [] vs [] ps vars ops → ⊥
      by_pieces [] vars [] v n ends h = omega (arith, ends.1, h.1)
      by_pieces [] vars (x ∷ ops) v n ends h = h.3
      by_pieces (x ∷ ps) vars ops v n ends h = h

  -- and it is the verdict
  pub end_is : (at end : ℕ) (vs : List Slot) (o : Slot) (os : List Slot) (c : Configuration) → at ≡ end → IsAt s l code p at end [] vs (o ∷ os) c → EndsInTruth c.pending c.operands → outcome c ≡ Some (verdict_slot o)
  end_is at end vs o os c e h k =
      let f = past s l code p at end [] vs (o ∷ os) c e h in
      by_pieces f.0 f.1 f.2 f.3 f.4 f.5 f.6 f.7 (subst (λ x. EndsInTruth x.pending x.operands) f.5 k)
    where
      by_pieces : (ps : List Piece) (vars ops : List Value) (v n : ℕ) → c ≡ configuration ps vars ops → LeavesOne s ps v n → TopStandsFor s l code p v n [] vs (o ∷ os) ps vars ops → EndsInTruth (configuration ps vars ops).pending ops → outcome c ≡ Some (verdict_slot o)
      by_pieces [] vars [] v n same ends h k = absurd h.3
      by_pieces [] vars (x ∷ []) v n same ends h k = ap outcome same ∙ ap Some (sym (verdict_is l p (length p) o x h.3.0 k))
      by_pieces [] vars (x ∷ y ∷ ops) v n same ends h k = absurd (omega (arith, ends.1, h.1))
      by_pieces (x ∷ ps) vars ops v n same ends h k = absurd h
