-- Room for a step, from the depths of the configuration before it.
use Rattle.std.proofs.Common.{◌≡◌, ◌⊎◌, ℕ, suc, ◌+◌, ◌*◌, ◌<◌, ◌≤◌, List, [], ◌∷◌, length, drop, inl, inr, refl, ap, ◌∙◌, subst, arith}
use Rattle.std.specs.Prelude.{Bool, true, false, None, nat_lt, slice_range}
use Rattle.std.proofs.lemmas.Bool.{ltb-true, ltb-false}
use Rattle.rule_code.specs.declared.instruction.Instr.{Instr}
use Rattle.rule_code.specs.declared.instruction.Instr.TheVariants as instrs
use Rattle.rule_verify.specs.InstrKinds.{operands_above}
use Rattle.rule_verify.specs.declared.depths.Depths.{Depths}
use Rattle.rule_verify.specs.CodeTree.{CodeTree, End, Plain, Block, Branch, Torn, code_tree, instr_count}
use Rattle.rule_verify.proofs.ForAbove.{code_tree_count, stretch_length}
use Rattle.rule_values.specs.Value.{Value}
use Rattle.rule_slots.specs.declared.slot.Slot.{Slot}
use Rattle.rule_slots.specs.Slots.{Lists}
use Rattle.rule_slots.proofs.ForAbove.{slots_long}
use Rattle.rule_machine.specs.declared.piece.Piece.{Piece as Pending}
use Rattle.rule_machine.specs.declared.piece.Piece.TheVariants as piece
use Rattle.rule_machine.specs.declared.state.State.{State}
use Rattle.rule_machine.specs.declared.task.Task.{Task}
use Rattle.rule_machine.specs.Machine.{Setting, Piece, Sequence, LetEnd, Opened, Turning, Skipped, Configuration, configuration}
use Rattle.rule_machine.specs.Outcome.{outcome}
use Rattle.rule_machine.specs.Laws.{StaysWithin}
use Rattle.rule_machine.specs.StandFor.{StandsFor, TopStandsFor, IsAt}
use Rattle.rule_machine.specs.Shown.{code_in, setting_in, task_lists, Is, IsFirstMark, IsAtFront, LiesIn, HasRoomFor, Room}
use Rattle.rule_machine.proofs.Stacks.{all_vars, all_ops}
use Rattle.rule_machine.proofs.InstrSteps.{past}

module _ (s : Setting) (l : Lists) (code : List Instr) (p : List Slot) where
  -- the machine has a piece for each that the configuration has
  stand_long : (hi v n : ℕ) (cs : List Pending) (vs os : List Slot) (ps : List Piece) (vars ops : List Value) → StandsFor s l code p hi v n cs vs os ps vars ops → length cs ≡ length ps
  stand_long hi v n [] vs os [] vars ops h = refl
  stand_long hi v n (piece.Rest a b ∷ cs) vs os (Sequence t ∷ ps) vars ops h = ap suc (stand_long hi v n cs vs os ps vars ops h.1)
  stand_long hi v n (piece.LetEnd ∷ cs) vs os (LetEnd ∷ ps) vars ops h = ap suc (stand_long hi v n cs vs os ps vars ops h)
  stand_long hi v n (piece.Skipped ∷ cs) vs os (Skipped ∷ ps) vars ops h = ap suc (stand_long hi v n cs vs os ps vars ops h)
  stand_long hi v n (piece.Turning t ∷ cs) vs os (Turning i body source left kept ∷ ps) vars ops h = ap suc (stand_long t.opened h.4 h.5 cs h.0.below h.1.below ps h.0.below_values h.1.below_values h.7)
  stand_long hi v n cs vs os ps vars ops h = absurd h

  -- ---- with code before the end

  pending_long : (t : CodeTree) (ps : List Piece) (vars ops : List Value) → 0 < instr_count t → length (configuration (Sequence t ∷ ps) vars ops).pending ≡ suc (length ps)
  pending_long End ps vars ops lt = absurd (omega (arith, lt))
  pending_long (Plain i rest) ps vars ops lt = refl
  pending_long (Block i body rest) ps vars ops lt = refl
  pending_long (Branch i first second rest) ps vars ops lt = refl
  pending_long (Torn i left) ps vars ops lt = refl

  no_outcome : (t : CodeTree) (ps : List Piece) (vars ops : List Value) → 0 < instr_count t → outcome (configuration (Sequence t ∷ ps) vars ops) ≡ None
  no_outcome End ps vars ops lt = absurd (omega (arith, lt))
  no_outcome (Plain i rest) ps vars ops lt = refl
  no_outcome (Block i body rest) ps vars ops lt = refl
  no_outcome (Branch i first second rest) ps vars ops lt = refl
  no_outcome (Torn i left) ps vars ops lt = refl

  some_count : (at end : ℕ) → at < end → end ≤ length code → 0 < instr_count (code_tree (slice_range code at end))
  some_count at end lt le = omega (arith, code_tree_count (slice_range code at end), stretch_length code at end le)

  -- how much a configuration has: no more operands and variables than so many, with a start value that is left, and pieces
  abbrev Within : Depths → List Pending → List Slot → List Slot → Type 0
  Within d cs vs os = (length os ≤ d.operands + 1) × (length vs ≤ d.variables) × (length cs ≤ 2 * d.blocks + 1)

  within_before : (d : Depths) (at end : ℕ) (cs : List Pending) (vs os : List Slot) (c : Configuration) → at < end → end ≤ length code → IsAt s l code p at end cs vs os c → StaysWithin d c → Within d cs vs os
  within_before d at end cs vs os c lt le h w =
      let t = code_tree (slice_range code at end) in
      let st = h.stand lt in
      let k = subst (StaysWithin d) h.same w in (
        omega (arith, k.operands, slots_long l p (length p) os h.ops (all_ops s l code p (length p) h.v h.n cs vs os h.pieces h.vars h.ops st)),
        omega (arith, k.variables, slots_long l p (length p) vs h.vars (all_vars s l code p (length p) h.v h.n cs vs os h.pieces h.vars h.ops st)),
        omega (arith, k.pieces, pending_long t h.pieces h.vars h.ops (some_count at end lt le), stand_long (length p) h.v h.n cs vs os h.pieces h.vars h.ops st),
      )

  -- ---- with a mark first

  by_stand : (d : Depths) (v n : ℕ) (cs : List Pending) (vs os : List Slot) (ps : List Piece) (vars ops : List Value) → StandsFor s l code p (length p) v n cs vs os ps vars ops → StaysWithin d (record { pending = ps; variables = vars; operands = ops }) → Within d cs vs os
  by_stand d v n cs vs os ps vars ops h w = (
    omega (arith, w.operands, slots_long l p (length p) os ops (all_ops s l code p (length p) v n cs vs os ps vars ops h)),
    omega (arith, w.variables, slots_long l p (length p) vs vars (all_vars s l code p (length p) v n cs vs os ps vars ops h)),
    omega (arith, w.pieces, stand_long (length p) v n cs vs os ps vars ops h),
  )

  -- one operand is left above the others at most
  left_long : (i : Instr) (os : List Slot) → length os ≤ length (drop (operands_above i) os) + 1
  left_long (instrs.Fold k n) [] = omega arith
  left_long (instrs.Fold k n) (o ∷ os) = omega arith
  left_long i os = omega arith

  by_mark : (d : Depths) (v n : ℕ) (cs : List Pending) (vs os : List Slot) (ps : List Piece) (vars ops : List Value) → IsFirstMark cs → TopStandsFor s l code p v n cs vs os ps vars ops → StaysWithin d (configuration ps vars ops) → Within d cs vs os
  by_mark d v n [] vs os ps vars ops m h w = absurd m
  by_mark d v n (piece.Rest a b ∷ cs) vs os ps vars ops m h w = absurd m
  by_mark d v n (piece.LetEnd ∷ cs) vs os (LetEnd ∷ ps) vars ops m h w = by_stand d v n (piece.LetEnd ∷ cs) vs os (LetEnd ∷ ps) vars ops h w
  by_mark d v n (piece.Skipped ∷ cs) vs os (Skipped ∷ ps) vars ops m h w = by_stand d v n (piece.Skipped ∷ cs) vs os (Skipped ∷ ps) vars ops h w
  by_mark d v n (piece.Turning t ∷ cs) vs os (Turning i body source left kept ∷ ps) vars ops m h w =
      by_stand d v n (piece.Turning t ∷ cs) vs os (Turning i body source left kept ∷ ps) vars ops h w
  by_mark d v n (piece.Opened t ∷ cs) vs os (Opened i body source kept ∷ ps) vars ops m h w = (
    omega (arith, w.operands, left_long i os, slots_long l p (length p) (drop (operands_above i) os) ops (all_ops s l code p (length p) v n cs vs (drop (operands_above i) os) ps vars ops h.3)),
    omega (arith, w.variables, slots_long l p (length p) vs vars (all_vars s l code p (length p) v n cs vs (drop (operands_above i) os) ps vars ops h.3)),
    omega (arith, w.pieces, stand_long (length p) v n cs vs (drop (operands_above i) os) ps vars ops h.3),
  )
  by_mark d v n cs vs os ps vars ops m h w = absurd h

  mark_has_none : (v n : ℕ) (cs : List Pending) (vs os : List Slot) (ps : List Piece) (vars ops : List Value) → IsFirstMark cs → TopStandsFor s l code p v n cs vs os ps vars ops → outcome (configuration ps vars ops) ≡ None
  mark_has_none v n [] vs os ps vars ops m h = absurd m
  mark_has_none v n (piece.Rest a b ∷ cs) vs os ps vars ops m h = absurd m
  mark_has_none v n (piece.LetEnd ∷ cs) vs os (LetEnd ∷ ps) vars ops m h = refl
  mark_has_none v n (piece.Skipped ∷ cs) vs os (Skipped ∷ ps) vars ops m h = refl
  mark_has_none v n (piece.Turning t ∷ cs) vs os (Turning i body source left kept ∷ ps) vars ops m h = refl
  mark_has_none v n (piece.Opened t ∷ cs) vs os (Opened i body source kept ∷ ps) vars ops m h = refl
  mark_has_none v n cs vs os ps vars ops m h = absurd h

  -- ---- both

  at_front : (at end : ℕ) (cs : List Pending) → at ≤ end → (at < end) ⊎ IsFirstMark cs → (at < end) ⊎ ((at ≡ end) × IsFirstMark cs)
  at_front at end cs le (inl lt) = inl lt
  at_front at end cs le (inr m) = by_order (nat_lt at end) refl
    where
      by_order : (b : Bool) → nat_lt at end ≡ b → (at < end) ⊎ ((at ≡ end) × IsFirstMark cs)
      by_order true e = inl (ltb-true at end e)
      by_order false e = inr (omega (arith, ltb-false at end e, le), m)

  within : (d : Depths) (at end : ℕ) (cs : List Pending) (vs os : List Slot) (c : Configuration) → end ≤ length code → (at < end) ⊎ ((at ≡ end) × IsFirstMark cs) → IsAt s l code p at end cs vs os c → StaysWithin d c → Within d cs vs os
  within d at end cs vs os c le (inl lt) h w = within_before d at end cs vs os c lt le h w
  within d at end cs vs os c le (inr m) h w =
      let f = past s l code p at end cs vs os c m.0 h in
      by_mark d f.3 f.4 cs vs os f.0 f.1 f.2 m.1 f.7 (subst (StaysWithin d) f.5 w)

  -- with code or a mark first there is no verdict
  none_at : (at end : ℕ) (cs : List Pending) (vs os : List Slot) (c : Configuration) → end ≤ length code → (at < end) ⊎ ((at ≡ end) × IsFirstMark cs) → IsAt s l code p at end cs vs os c → outcome c ≡ None
  none_at at end cs vs os c le (inl lt) h = ap outcome h.same ∙ no_outcome (code_tree (slice_range code at end)) h.pieces h.vars h.ops (some_count at end lt le)
  none_at at end cs vs os c le (inr m) h =
      let f = past s l code p at end cs vs os c m.0 h in
      ap outcome f.5 ∙ mark_has_none f.3 f.4 cs vs os f.0 f.1 f.2 m.1 f.7

-- a machine that stands in a configuration no deeper than it has room for has room for a step
pub room_is : (t : Task) (m : State) (d : Depths) (c : Configuration) → LiesIn t m → IsAtFront m → Is t m c → StaysWithin d c → HasRoomFor d m → Room m
room_is t m d c lies front is w room =
    let f = at_front (setting_in t) (task_lists t) (code_in t) m.pool.items m.at m.end m.pieces.0 lies.order front in
    let k = within (setting_in t) (task_lists t) (code_in t) m.pool.items d m.at m.end m.pieces.0 m.variables.0 m.operands.0 c lies.within f is w in
    record { operands = omega (arith, k.0, room.operands); variables = omega (arith, k.1, room.variables); pieces = omega (arith, k.2, room.pieces) }

-- and its configuration has no verdict
pub front_has_none : (t : Task) (m : State) (c : Configuration) → LiesIn t m → IsAtFront m → Is t m c → outcome c ≡ None
front_has_none t m c lies front is =
    none_at (setting_in t) (task_lists t) (code_in t) m.pool.items m.at m.end m.pieces.0 m.variables.0 m.operands.0 c lies.within
    (at_front (setting_in t) (task_lists t) (code_in t) m.pool.items m.at m.end m.pieces.0 lies.order front) is
