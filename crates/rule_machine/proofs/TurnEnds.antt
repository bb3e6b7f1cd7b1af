-- The end of a turn.
use Rattle.std.proofs.Common.{◌≡◌, ℕ, suc, ◌+◌, ◌-◌, ◌≤◌, Bool, true, false, List, [], ◌∷◌, ◌++◌, length, take, drop, get_or, Some, refl, sym, ap, ◌∙◌, subst, arith}
use Rattle.std.specs.Prelude.{pos, not, ◌&&◌, slice_get, if◌then◌else◌}
use Rattle.imkl_population.specs.Population.{Population}
use Rattle.ocl_kinds.specs.declared.kind.Kind.TheVariants as kind
use Rattle.ocl_kinds.specs.declared.kind.ScalarKind.TheVariants as element
use Rattle.rule_code.specs.declared.instruction.Instr.{Instr}
use Rattle.rule_code.specs.declared.instruction.Instr.TheVariants as instrs
use Rattle.rule_verify.specs.InstrKinds.{Surroundings, scalar_meant, bound_count, ends_with}
use Rattle.rule_values.specs.Value as value
use Rattle.std.specs.List.{filter_map}
use Rattle.std.proofs.lemmas.List.{length-take-le}
use Rattle.std.proofs.lemmas.Option.{slice_get-get_or}
use Rattle.ocl_base.specs.Lists.{repeats}
use Rattle.rule_code.specs.declared.kind.WrittenScalar.{WrittenScalar}
use Rattle.rule_values.specs.Value.{Value, as_element, same_element, is_in}
use Rattle.rule_machine.specs.IterationResults.{ending}
use Rattle.rule_values.specs.Operations.{is_true, is_false, is_invalid}
use Rattle.rule_machine.specs.Machine.{Setting, judged_by, is_what, Piece, Turning, Configuration, step}
use Rattle.rule_machine.specs.Shown.{HasNext}
use Rattle.rule_slots.specs.declared.slot.Slot.{Slot}
use Rattle.rule_slots.specs.declared.slot.Home.{Home}
use Rattle.rule_slots.specs.declared.slot.Home.TheVariants as home
use Rattle.rule_machine.specs.declared.piece.Turn.{Turn}
use Rattle.rule_machine.specs.declared.piece.Piece.{Piece as Pending}
use Rattle.rule_machine.specs.declared.piece.Piece.TheVariants as piece
use Rattle.rule_slots.specs.Slots.{Lists, SlotIs, invalid_mark, held_slots, home_named, home_length, IsInHome}
use Rattle.rule_machine.specs.Counts.{LeavesOne}
use Rattle.rule_slots.specs.Operands.{is_number}
use Rattle.rule_machine.specs.StandFor.{TopStandsFor, IsAt, Between, kept_slots, gives_truths, count_passing, one_more_if, turn_after, TellsDistinct, ending_slot, gives_part, given_pool}
use Rattle.rule_machine.proofs.Stacks.{all_ops, ops_there}
use Rattle.rule_machine.proofs.InstrSteps.{past}
use Rattle.rule_slots.proofs.ForAbove.{part_long, element_next, is_cut, truth_by, invalid_by, truth_operand}
use Rattle.rule_machine.proofs.MarkSteps.{Leaving, leaves, left_behind, turn_keeping, turns_end}
use Rattle.rule_machine.proofs.Keeps.{count_more}
use Rattle.rule_machine.proofs.EndSlots.{IsMany, adds, many_what, unique_part, unique_in, ending_is, gives_none}
use Rattle.rule_machine.proofs.KeptValues.{anywhere}
use Rattle.rule_machine.proofs.Operands.{covers_meant}

module _ (s : Setting) (l : Lists) (code : List Instr) (p : List Slot) where
  -- a turn that ends has its body's value on top of the operands
  pub record EndOf (t : Turn) (cs : List Pending) (vs os : List Slot) (c : Configuration) : Type 0 where
    pub y : Slot
    pub os1 : List Slot
    pub ops_are : os ≡ y ∷ os1
    pub leaving : Leaving s l code p t cs (drop (bound_count t.instr) vs) y os1 c

  -- and its step takes it, with the variables that the turn bound
  pub end_of : (at end : ℕ) (t : Turn) (cs : List Pending) (vs os : List Slot) (c : Configuration) → at ≡ end → IsAt s l code p at end (piece.Turning t ∷ cs) vs os c → HasNext (step s c) → EndOf t cs vs os c
  end_of at end t cs vs (y ∷ os) c e h g = record { y = y; os1 = os; ops_are = refl; leaving = leaves s l code p at end t cs vs y os c e h g }
  end_of at end t cs vs [] c e h g =
      let f = past s l code p at end (piece.Turning t ∷ cs) vs [] c e h in
      absurd (by_pieces f.0 f.1 f.2 f.3 f.4 f.6 f.7)
    where
      by_pieces : (ps : List Piece) (vars ops : List Value) (v n : ℕ) → LeavesOne s ps v n → TopStandsFor s l code p v n (piece.Turning t ∷ cs) vs [] ps vars ops → ⊥
      by_pieces (Turning i body source left kept ∷ q) vars [] v n ends h =
          omega (arith, ends.1, ops_there s l code p (length p) v n (piece.Turning t ∷ cs) vs [] (Turning i body source left kept ∷ q) vars [] h)
      by_pieces (Turning i body source left kept ∷ q) vars (z ∷ ops) v n ends h = all_ops s l code p (length p) v n (piece.Turning t ∷ cs) vs [] (Turning i body source left kept ∷ q) vars (z ∷ ops) h
      by_pieces ps vars ops v n ends h = absurd h

-- a body that gives truth values gives one
tested : (pop : Population) (sur : Surroundings) (j : Instr) (b : Value) → gives_truths j ≡ true → is_what pop (ends_with sur j) b ≡ true → is_in pop b (kind.Scalar element.Boolean) ≡ true
tested pop sur (instrs.ForAll n) b k w = w
tested pop sur (instrs.Exists n) b k w = w
tested pop sur (instrs.One n) b k w = w
tested pop sur (instrs.Select n) b k w = w
tested pop sur (instrs.Reject n) b k w = w
tested pop sur j b k w = cc

one_more : (b : Bool) (n m : ℕ) → n ≡ m → one_more_if b n ≡ (if b then suc m else m)
one_more true n m e = omega (arith, e)
one_more false n m e = e

module _ (s : Setting) (l : Lists) (code : List Instr) (p p2 : List Slot) where
  -- with what the body gave kept behind what was kept before, the iteration stands between two turns
  pub turn_over : (t : Turn) (cs : List Pending) (vs : List Slot) (y : Slot) (os : List Slot) (c : Configuration) (e : Slot) (more : ℕ) → (h : Leaving s l code p t cs vs y os c) → slice_get (held_slots l p t.source) (t.next - 1) ≡ Some e
      → p2 ≡ take (t.opened + t.kept) p ++ kept_slots l p t.instr e y → more ≡ length (kept_slots l p t.instr e y)
      → (d : Configuration) × (step s c ≡ Some d) × Between s l code p2 (turn_after t more y) y cs vs os d
  turn_over t cs vs y os c e more h g pe em =
      let n : t.next - 1 ≡ length h.bodies = omega (arith, h.turns) in
      let x = element_next l (held_slots l p t.source) h.source.elements (length h.bodies) e h.turn.part.elements (subst (λ k. slice_get (held_slots l p t.source) k ≡ Some e) n g) in
      let a = adds s l p (length p) t.instr e y h.source.elements h.bodies h.value x.0 (drop (suc (length h.bodies)) h.source.elements) x.1 x.2 h.operand h.what in
      let test : gives_truths t.instr ≡ true → (is_number y (pos 1) ≡ is_true h.value) × (is_number y (pos 0) ≡ is_false h.value) = λ k. truth_by l p (length p) y h.value h.operand (truth_operand s.population h.value (tested s.population (judged_by s) t.instr h.value k h.what)) in
      let trues : gives_truths t.instr ≡ true → one_more_if (gives_truths t.instr && is_number y (pos 1)) t.trues ≡ count_passing is_true (h.bodies ++ h.value ∷ []) =
      λ k. ap (λ b. one_more_if (b && is_number y (pos 1)) t.trues) k ∙ ap (λ b. one_more_if b t.trues) (test k).0 ∙ one_more (is_true h.value) t.trues (count_passing is_true h.bodies) (h.turn.trues k) ∙ sym (count_more is_true h.bodies h.value) in
      let falses : gives_truths t.instr ≡ true → one_more_if (gives_truths t.instr && is_number y (pos 0)) t.falses ≡ count_passing is_false (h.bodies ++ h.value ∷ []) =
      λ k. ap (λ b. one_more_if (b && is_number y (pos 0)) t.falses) k ∙ ap (λ b. one_more_if b t.falses) (test k).1 ∙ one_more (is_false h.value) t.falses (count_passing is_false h.bodies) (h.turn.falses k) ∙ sym (count_more is_false h.bodies h.value) in
      let invalids : one_more_if (invalid_mark y.mark) t.invalids ≡ count_passing is_invalid (h.bodies ++ h.value ∷ []) =
      ap (λ b. one_more_if b t.invalids) (invalid_by l p (length p) y h.value h.operand) ∙ one_more (is_invalid h.value) t.invalids (count_passing is_invalid h.bodies) h.turn.invalids ∙ sym (count_more is_invalid h.bodies h.value) in
      let r = left_behind s l code p p2 t cs vs y os c (kept_slots l p t.instr e y) a.0 (one_more_if (gives_truths t.instr && is_number y (pos 1)) t.trues) (one_more_if (gives_truths t.instr && is_number y (pos 0)) t.falses) (one_more_if (invalid_mark y.mark) t.invalids) h pe a.1 a.2 trues falses invalids in (
        r.0,
        r.1,
        subst (λ k. Between s l code p2 (turn_keeping t k (one_more_if (gives_truths t.instr && is_number y (pos 1)) t.trues) (one_more_if (gives_truths t.instr && is_number y (pos 0)) t.falses) (one_more_if (invalid_mark y.mark) t.invalids)) y cs vs os r.0) (sym em) r.2,
      )

  -- a body that gives a collection gives one that lies in its list
  pub flat_within : (t : Turn) (cs : List Pending) (vs : List Slot) (y : Slot) (os : List Slot) (c : Configuration) (n : ℕ) → Leaving s l code p t cs vs y os c → t.instr ≡ instrs.CollectFlat n → invalid_mark y.mark ≡ false → IsInHome l (length p) y
  flat_within t cs vs y os c n h e f = by_value h.value h.operand (many_what s.population h.value (subst (λ j. is_what s.population (ends_with (judged_by s) j) h.value ≡ true) e h.what))
    where
      by_value : (b : Value) → SlotIs l p (length p) y b → IsMany b → IsInHome l (length p) y
      by_value (value.Collection c es) k m = k.1.within
      by_value value.Invalid k m = let q : invalid_mark y.mark ≡ true = ap invalid_mark k in cc
      by_value b k m = absurd m

-- what lies below a bound of its list lies below a higher one
within_home : (h : Home) (l : Lists) (a lo hi : ℕ) → lo ≤ hi → a ≤ home_length h l lo → a ≤ home_length h l hi
within_home home.Scalars l a lo hi le w = w
within_home home.Instances l a lo hi le w = w
within_home home.Pool l a lo hi le w = omega (arith, le, w)

module _ (s : Setting) (l : Lists) (code : List Instr) (p : List Slot) where
  -- what a turn goes over lies in its list
  pub source_within : (t : Turn) (cs : List Pending) (vs : List Slot) (y : Slot) (os : List Slot) (c : Configuration) → Leaving s l code p t cs vs y os c → IsInHome l (length p) t.source
  source_within t cs vs y os c h = within_home (home_named t.source.list) l (t.source.start + t.source.count) t.opened (length p) (omega (arith, h.turn.above)) h.turn.part.within

  -- and the element of the turn is there
  pub turn_takes : (t : Turn) (cs : List Pending) (vs : List Slot) (y : Slot) (os : List Slot) (c : Configuration) → Leaving s l code p t cs vs y os c → t.next ≤ t.source.count → (e : Slot) × (slice_get (held_slots l p t.source) (t.next - 1) ≡ Some e)
  turn_takes t cs vs y os c h le =
      let long : length (held_slots l p t.source) ≡ t.source.count = part_long (home_named t.source.list) l p (length p) t.source.start t.source.count (omega arith) (source_within t cs vs y os c h) in
      (get_or (held_slots l p t.source) (t.next - 1) y, slice_get-get_or (held_slots l p t.source) (t.next - 1) y (omega (arith, long, le, h.turns)))

-- a list that begins with one item and ends with the rest of it
pub same_front : {A : Type 0} (all : List A) (x y : A) (xs ys : List A) → all ≡ x ∷ xs → all ≡ y ∷ ys → all ≡ x ∷ ys
same_front all x y xs ys e f = let q : xs ≡ ys = cc in e ∙ ap (λ l. x ∷ l) q

-- at its end an iteration gives what its slot stands for, and the pool is cut back to that
module _ (s : Setting) (l : Lists) (code : List Instr) (p : List Slot) where
  -- the machine stands after the step that ends an iteration
  pub end_gives : (at end : ℕ) (t : Turn) (last : Slot) (cs : List Pending) (vs os : List Slot) (d : Configuration) (distinct : Bool) (gives : Slot) → at ≡ end → Between s l code p t last cs vs os d → t.next ≡ t.source.count → TellsDistinct l p t distinct → gives ≡ ending_slot t.instr t distinct last
      → IsAt s l code (given_pool t gives p) at end cs vs (gives ∷ os) d
  end_gives at end t last cs vs os d distinct gives e b all tells is = by_given (gives_part t.instr gives) refl
    where
      distinct_is : (q : WrittenScalar) (n : ℕ) → t.instr ≡ instrs.IsUnique q n → distinct ≡ not (repeats same_element (filter_map as_element b.bodies))
      distinct_is q n i =
          tells q n i s.population (scalar_meant (judged_by s) q) (filter_map as_element b.bodies) (covers_meant (judged_by s) q) (unique_part s l code p t b.i b.body b.source b.left b.bodies b.turn b.turns q n i) (unique_in s l code p t b.i b.body b.source b.left b.bodies b.turn b.turns q n i)

      result : SlotIs l p (length p) gives (ending b.i b.source b.kept)
      result = subst (λ x. SlotIs l p (length p) x (ending b.i b.source b.kept)) (sym is) (ending_is s l code p t b.i b.body b.source b.left b.bodies b.turn b.turns distinct last b.kept distinct_is b.keeps)

      by_given : (g : Bool) → gives_part t.instr gives ≡ g → IsAt s l code (if g then p else take t.opened p) at end cs vs (gives ∷ os) d
      by_given true k = turns_end s l code p p at end t last cs vs os gives d e b all refl (omega (arith, b.turn.above)) result
      by_given false k =
          let low : t.opened ≤ length p = omega (arith, b.turn.above) in
          let same : take t.opened p ≡ take t.opened (take t.opened p) = is_cut p t.opened t.opened (omega arith) in
          let none = gives_none l p (length p) b.i b.source b.bodies b.kept last gives b.keeps (ap (λ i. gives_part i gives) b.turn.same_instr ∙ k) result in
          turns_end s l code p (take t.opened p) at end t last cs vs os gives d e b all same (omega (arith, length-take-le t.opened p low)) (anywhere l p (take t.opened p) (length p) (length (take t.opened p)) gives (ending b.i b.source b.kept) none result)
