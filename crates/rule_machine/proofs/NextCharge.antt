-- What the machine finds that its next step is charged is the charge of its configuration.
use Rattle.std.proofs.Common.{◌≡◌, ℕ, ◌+◌, ◌-◌, ◌*◌, ◌<◌, ◌≤◌, Bool, true, false, List, [], ◌∷◌, length, get_or, take, drop, Some, None, refl, sym, ap, ◌∙◌, arith}
use Rattle.std.specs.Prelude.{nat_le, slice_get, slice_range, if◌then◌else◌}
use Rattle.std.proofs.lemmas.Bool.{and_parts, lt-leb, le-leb}
use Rattle.std.proofs.lemmas.List.{length-drop}
use Rattle.std.proofs.lemmas.Option.{slice_get-get_or}
use Rattle.ocl_base.specs.declared.collection_kind.CollectionKind.{CollectionKind}
use Rattle.imkl_population.specs.Population.{Population}
use Rattle.ocl_kinds.specs.declared.kind.Kind.TheVariants as kind
use Rattle.ocl_kinds.specs.declared.kind.ScalarKind.{ScalarKind}
use Rattle.ocl_kinds.specs.declared.kind.ScalarKind.TheVariants as element
use Rattle.rule_code.specs.declared.instruction.Instr.{Instr}
use Rattle.rule_code.specs.declared.instruction.Instr.TheVariants as instrs
use Rattle.rule_code.specs.declared.kind.WrittenKind.TheVariants as kinds
use Rattle.rule_verify.specs.declared.pattern.Pattern.{Pattern}
use Rattle.rule_verify.specs.declared.pattern.Pattern.TheVariants.{Fitting, CollectionOf}
use Rattle.rule_verify.specs.CodeTree.{Block, Branch, Torn, shape_of, cut_one, code_tree}
use Rattle.rule_verify.specs.declared.shape.Shape.{Shape}
use Rattle.rule_verify.specs.declared.shape.Shape.TheVariants.{Single, OneBody, TwoBodies}
use Rattle.rule_verify.specs.InstrKinds.{scalar_meant, operands_of, ends_with}
use Rattle.rule_verify.proofs.ForAbove.{tree_cons, stretch_first}
use Rattle.rule_cost.specs.Bounds.{top_length, second_length, extra_charge, taking_charge, ending_charge}
use Rattle.rule_values.specs.Value as value
use Rattle.rule_values.specs.Value.{Element, Value}
use Rattle.rule_values.specs.Endings.{Source}
use Rattle.rule_slots.specs.declared.slot.Slot.{Slot}
use Rattle.rule_slots.specs.Slots.{Lists, SlotIs, SlotsAre, plain_mark}
use Rattle.rule_slots.proofs.ForAbove.{as_many}
use Rattle.rule_machine.specs.declared.piece.Piece.{Piece as Pending}
use Rattle.rule_machine.specs.declared.piece.Piece.TheVariants as piece
use Rattle.rule_machine.specs.Machine.{Setting, judged_by, is_what, are_what, Piece, Sequence, LetEnd, Opened, Turning, Skipped, Configuration, configuration, step}
use Rattle.rule_machine.specs.Places.{long}
use Rattle.rule_machine.specs.Charges.{longs, turn_charge, charge_of}
use Rattle.rule_machine.specs.StandFor.{TopStandsFor, IsAt}
use Rattle.rule_machine.specs.Shown.{HasNext, IsMark, slot_length, slot_lengths, turn_charge_by, mark_charge_by}
use Rattle.rule_machine.proofs.InstrSteps.{past, plain_fits, ops_are}
use Rattle.rule_machine.proofs.EndSlots.{IsMany, many_what}
use Rattle.rule_machine.proofs.TurnEnds.{end_of}

-- ---- lengths

-- a slot of a collection, or of invalid, is as long as its value
many_long : (l : Lists) (p : List Slot) (s : Slot) (v : Value) → SlotIs l p (length p) s v → IsMany v → slot_length s ≡ long v
many_long l p s (value.Collection c es) h k = ap (λ m. if plain_mark m then s.count else 0) h.0 ∙ sym (as_many l p (length p) s es (omega arith) h.1)
many_long l p s value.Invalid h k = ap (λ m. if plain_mark m then s.count else 0) h
many_long l p s v h k = absurd k

elements_what : (pop : Population) (k : ScalarKind) (v : Value) → is_what pop (CollectionOf k) v ≡ true → IsMany v
elements_what pop k (value.Collection c es) h = tt
elements_what pop k value.Invalid h = tt
elements_what pop k value.Null h = cc
elements_what pop k (value.Single v) h = cc

many_in : (pop : Population) (c : CollectionKind) (k : ScalarKind) (v : Value) → is_what pop (Fitting (kind.Collection c k)) v ≡ true → IsMany v
many_in pop c k (value.Collection d es) h = tt
many_in pop c k value.Invalid h = tt
many_in pop c k value.Null h = cc
many_in pop c k (value.Single v) h = cc

-- ---- operands

-- the length of the topmost operand, and of the one below it
pub top_there : (l : List Slot) (x : Slot) → Some x ≡ slice_get l 0 → slot_length x ≡ top_length (slot_lengths l)
top_there [] x e = cc
top_there (y ∷ l) x e = let same : x ≡ y = cc in ap slot_length same

-- there is none
pub none_there : (l : List Slot) → None ≡ slice_get l 0 → 0 ≡ top_length (slot_lengths l)
none_there [] e = refl
none_there (y ∷ l) e = cc

-- the one below it
pub second_there : (l : List Slot) (x : Slot) → Some x ≡ slice_get l 1 → slot_length x ≡ second_length (slot_lengths l)
second_there [] x e = cc
second_there (y ∷ l) x e = top_there l x e

-- there is none below it
pub no_second : (l : List Slot) → None ≡ slice_get l 1 → 0 ≡ second_length (slot_lengths l)
no_second [] e = refl
no_second (y ∷ l) e = none_there l e

module _ (pop : Population) (l : Lists) (p : List Slot) where
  top_same : (w : Pattern) (ws : List Pattern) (os : List Slot) (ops : List Value) → SlotsAre l p (length p) os ops → are_what pop (w ∷ ws) ops ≡ true → ((v : Value) → is_what pop w v ≡ true → IsMany v) → top_length (slot_lengths os) ≡ top_length (longs ops)
  top_same w ws [] [] are what many = refl
  top_same w ws [] (v ∷ ops) are what many = absurd are
  top_same w ws (o ∷ os) [] are what many = absurd are
  top_same w ws (o ∷ os) (v ∷ ops) are what many = many_long l p o v are.0 (many v (and_parts (is_what pop w v) (are_what pop ws ops) what).0)

  second_same : (x w : Pattern) (ws : List Pattern) (os : List Slot) (ops : List Value) → SlotsAre l p (length p) os ops → are_what pop (x ∷ w ∷ ws) ops ≡ true → ((v : Value) → is_what pop w v ≡ true → IsMany v) → second_length (slot_lengths os) ≡ second_length (longs ops)
  second_same x w ws [] [] are what many = refl
  second_same x w ws [] (v ∷ ops) are what many = absurd are
  second_same x w ws (o ∷ os) [] are what many = absurd are
  second_same x w ws (o ∷ os) (v ∷ ops) are what many = top_same w ws os ops are.1 (and_parts (is_what pop x v) (are_what pop (w ∷ ws) ops) what).1 many

-- an instruction is charged by the lengths of its operands' slots
module _ (s : Setting) (l : Lists) (p : List Slot) where
  abbrev Takes : Instr → List Value → Type 0
  Takes i ops = shape_of i ≡ Single → are_what s.population (operands_of (judged_by s) i) ops ≡ true

  both_same : (x w : Pattern) (os : List Slot) (ops : List Value) → SlotsAre l p (length p) os ops → are_what s.population (x ∷ w ∷ []) ops ≡ true → ((v : Value) → is_what s.population x v ≡ true → IsMany v) → ((v : Value) → is_what s.population w v ≡ true → IsMany v)
      → second_length (slot_lengths os) * top_length (slot_lengths os) ≡ second_length (longs ops) * top_length (longs ops)
  both_same x w os ops are what many other =
      ap (λ n. n * top_length (slot_lengths os)) (second_same s.population l p x w [] os ops are what other) ∙ ap (λ n. second_length (longs ops) * n) (top_same s.population l p x (w ∷ []) os ops are what many)

  extra_same : (i : Instr) (os : List Slot) (ops : List Value) → SlotsAre l p (length p) os ops → Takes i ops → extra_charge i (slot_lengths os) ≡ extra_charge i (longs ops)
  extra_same (instrs.Includes k) os ops are what =
      let w = scalar_meant (judged_by s) k in
      second_same s.population l p (Fitting (kind.Scalar w)) (CollectionOf w) [] os ops are (what refl) (elements_what s.population w)
  extra_same (instrs.Count k) os ops are what =
      let w = scalar_meant (judged_by s) k in
      second_same s.population l p (Fitting (kind.Scalar w)) (CollectionOf w) [] os ops are (what refl) (elements_what s.population w)
  extra_same (instrs.IncAll k) os ops are what =
      let w = scalar_meant (judged_by s) k in
      both_same (CollectionOf w) (CollectionOf w) os ops are (what refl) (elements_what s.population w) (elements_what s.population w)
  extra_same (instrs.ExcAll k) os ops are what =
      let w = scalar_meant (judged_by s) k in
      both_same (CollectionOf w) (CollectionOf w) os ops are (what refl) (elements_what s.population w) (elements_what s.population w)
  extra_same (instrs.Eq (kinds.Collection c k)) os ops are what =
      let w = scalar_meant (judged_by s) k in
      let fit = Fitting (kind.Collection c w) in
      both_same fit fit os ops are (what refl) (many_in s.population c w) (many_in s.population c w)
  extra_same instrs.Sum os ops are what = top_same s.population l p (CollectionOf element.Integer) [] os ops are (what refl) (elements_what s.population element.Integer)
  extra_same (instrs.AsSet k) os ops are what =
      let w = scalar_meant (judged_by s) k in
      let top = top_same s.population l p (CollectionOf w) [] os ops are (what refl) (elements_what s.population w) in
      ap (λ n. n * top_length (slot_lengths os)) top ∙ ap (λ n. top_length (longs ops) * n) top
  extra_same i os ops are what = refl

-- ---- turns

turn_left : (i : Instr) (s : Source) (n : ℕ) (left : List Element) → length left ≡ length s.elements - n → turn_charge i s left ≡ turn_charge_by i (length s.elements) n
turn_left i s n [] e = ap (λ b. if b then ending_charge i (length s.elements) else 0) (sym (le-leb (length s.elements) n (omega (arith, e))))
turn_left i s n (x ∷ left) e = ap (λ b. if b then ending_charge i (length s.elements) else 0) (sym (lt-leb (length s.elements) n (omega (arith, e))))

-- the next turn is charged by the number of the elements that were taken
turn_by : (i : Instr) (s : Source) (n : ℕ) → turn_charge i s (drop n s.elements) ≡ turn_charge_by i (length s.elements) n
turn_by i s n = turn_left i s n (drop n s.elements) (length-drop n s.elements)

-- ---- instructions

block_extra : (i : Instr) (n : ℕ) (ls : List ℕ) → shape_of i ≡ OneBody n → extra_charge i ls ≡ 0
block_extra (instrs.Eq (kinds.Collection c k)) n ls e = cc
block_extra (instrs.Eq (kinds.Scalar k)) n ls e = refl
block_extra (instrs.Includes k) n ls e = cc
block_extra (instrs.Count k) n ls e = cc
block_extra (instrs.IncAll k) n ls e = cc
block_extra (instrs.ExcAll k) n ls e = cc
block_extra instrs.Sum n ls e = cc
block_extra (instrs.AsSet k) n ls e = cc
block_extra i n ls e = refl

branch_extra : (i : Instr) (n m : ℕ) (ls : List ℕ) → shape_of i ≡ TwoBodies n m → extra_charge i ls ≡ 0
branch_extra (instrs.Eq (kinds.Collection c k)) n m ls e = cc
branch_extra (instrs.Eq (kinds.Scalar k)) n m ls e = refl
branch_extra (instrs.Includes k) n m ls e = cc
branch_extra (instrs.Count k) n m ls e = cc
branch_extra (instrs.IncAll k) n m ls e = cc
branch_extra (instrs.ExcAll k) n m ls e = cc
branch_extra instrs.Sum n m ls e = cc
branch_extra (instrs.AsSet k) n m ls e = cc
branch_extra i n m ls e = refl

cut_charge : (i : Instr) (shape : Shape) (is : List Instr) (q : List Piece) (vs os : List Value) → shape_of i ≡ shape → charge_of (configuration (Sequence (cut_one code_tree i shape is) ∷ q) vs os) ≡ 1 + extra_charge i (longs os)
cut_charge i Single is q vs os e = refl
cut_charge i (OneBody n) is q vs os e = by_test (nat_le n (length is))
  where
    by_test : (b : Bool) → charge_of (configuration (Sequence (if b then Block i (code_tree (take n is)) (code_tree (drop n is)) else Torn i (length is)) ∷ q) vs os) ≡ 1 + extra_charge i (longs os)
    by_test true = omega (arith, block_extra i n (longs os) e)
    by_test false = omega (arith, block_extra i n (longs os) e)
cut_charge i (TwoBodies n m) is q vs os e = by_test (nat_le (n + m) (length is))
  where
    by_test : (b : Bool) → charge_of (configuration (Sequence (if b then Branch i (code_tree (take n is)) (code_tree (take m (drop n is))) (code_tree (drop (n + m) is)) else Torn i (length is)) ∷ q) vs os) ≡ 1 + extra_charge i (longs os)
    by_test true = omega (arith, branch_extra i n m (longs os) e)
    by_test false = omega (arith, branch_extra i n m (longs os) e)

first_is : (code : List Instr) (at : ℕ) (i : Instr) → at < length code → slice_get code at ≡ Some i → i ≡ get_or code at i
first_is code at i lt here = let e : Some i ≡ Some (get_or code at i) = sym here ∙ slice_get-get_or code at i lt in cc

at_instr : (code : List Instr) (at end : ℕ) (q : List Piece) (vars ops : List Value) (i : Instr) → at < end → end ≤ length code → slice_get code at ≡ Some i → charge_of (configuration (Sequence (code_tree (slice_range code at end)) ∷ q) vars ops) ≡ 1 + extra_charge i (longs ops)
at_instr code at end q vars ops i lt le here =
    ap (λ l. charge_of (configuration (Sequence (code_tree l) ∷ q) vars ops)) (stretch_first code at end i lt le (first_is code at i (omega arith) here))
    ∙ ap (λ t. charge_of (configuration (Sequence t ∷ q) vars ops)) (tree_cons i (slice_range code (at + 1) end))
    ∙ cut_charge i (shape_of i) (slice_range code (at + 1) end) q vars ops refl

module _ (s : Setting) (l : Lists) (code : List Instr) (p : List Slot) where
  -- the next step at an instruction is charged by it
  pub instr_charge : (at end : ℕ) (cs : List Pending) (vs os : List Slot) (i : Instr) (c : Configuration) → at < end → end ≤ length code → slice_get code at ≡ Some i → IsAt s l code p at end cs vs os c → HasNext (step s c) → charge_of c ≡ 1 + extra_charge i (slot_lengths os)
  instr_charge at end cs vs os i c lt le here h goes =
      let same = extra_same s l p i os h.ops (ops_are s l code p at end cs vs os i c lt le here h goes) (plain_fits s l code p at end cs vs os i c lt le here h goes) in
      ap charge_of h.same ∙ at_instr code at end h.pieces h.vars h.ops i lt le here ∙ ap (λ n. 1 + n) (sym same)

  -- ---- marks

  taking_same : (i : Instr) (y : Slot) (v : Value) → SlotIs l p (length p) y v → is_what s.population (ends_with (judged_by s) i) v ≡ true → taking_charge i (slot_length y) ≡ taking_charge i (long v)
  taking_same (instrs.CollectFlat n) y v h w = many_long l p y v h (many_what s.population v w)
  taking_same i y v h w = refl

  -- the step of a mark is charged by it
  pub mark_charged : (at end : ℕ) (m : Pending) (cs : List Pending) (vs os : List Slot) (c : Configuration) → at ≡ end → IsMark m → IsAt s l code p at end (m ∷ cs) vs os c → HasNext (step s c) → charge_of c ≡ mark_charge_by m (slot_lengths os)
  mark_charged at end (piece.Rest a b) cs vs os c e mark h goes = absurd mark
  mark_charged at end piece.LetEnd cs vs os c e mark h goes =
      let f = past s l code p at end (piece.LetEnd ∷ cs) vs os c e h in
      by_pieces f.0 f.1 f.2 f.3 f.4 f.5 f.7
    where
      by_pieces : (ps : List Piece) (vars ops : List Value) (v n : ℕ) → c ≡ configuration ps vars ops → TopStandsFor s l code p v n (piece.LetEnd ∷ cs) vs os ps vars ops → charge_of c ≡ 1
      by_pieces (LetEnd ∷ q) vars ops v n same h = ap charge_of same
      by_pieces ps vars ops v n same h = absurd h
  mark_charged at end piece.Skipped cs vs os c e mark h goes =
      let f = past s l code p at end (piece.Skipped ∷ cs) vs os c e h in
      by_pieces f.0 f.1 f.2 f.3 f.4 f.5 f.7
    where
      by_pieces : (ps : List Piece) (vars ops : List Value) (v n : ℕ) → c ≡ configuration ps vars ops → TopStandsFor s l code p v n (piece.Skipped ∷ cs) vs os ps vars ops → charge_of c ≡ 1
      by_pieces (Skipped ∷ q) vars ops v n same h = ap charge_of same
      by_pieces ps vars ops v n same h = absurd h
  mark_charged at end (piece.Opened t) cs vs os c e mark h goes =
      let f = past s l code p at end (piece.Opened t ∷ cs) vs os c e h in
      by_pieces f.0 f.1 f.2 f.3 f.4 f.5 f.7
    where
      by_pieces : (ps : List Piece) (vars ops : List Value) (v n : ℕ) → c ≡ configuration ps vars ops → TopStandsFor s l code p v n (piece.Opened t ∷ cs) vs os ps vars ops → charge_of c ≡ 1 + turn_charge_by t.instr t.source.count 0
      by_pieces (Opened i body source kept ∷ q) vars ops v n same h =
          let many : length source.elements ≡ t.source.count = as_many l p t.opened t.source source.elements (omega (arith, h.0)) h.2.part in
          ap charge_of same ∙ ap (λ k. 1 + k) (turn_by i source 0 ∙ ap (λ k. turn_charge_by i k 0) many ∙ ap (λ j. turn_charge_by j t.source.count 0) h.2.same_instr)
      by_pieces ps vars ops v n same h = absurd h
  mark_charged at end (piece.Turning t) cs vs os c e mark h goes =
      let e0 = end_of s l code p at end t cs vs os c e h goes in
      let r = e0.leaving in
      let same : c ≡ configuration (Turning r.i r.body r.source r.left r.kept ∷ r.q) r.vars_before (r.value ∷ r.ops) = r.before in
      let many : length r.source.elements ≡ t.source.count = as_many l p t.opened t.source r.source.elements (omega (arith, r.turn.above)) r.turn.part in
      let next : turn_charge r.i r.source r.left ≡ turn_charge_by t.instr t.source.count t.next =
      ap (turn_charge r.i r.source) r.turn.rest ∙ turn_by r.i r.source t.next ∙ ap (λ k. turn_charge_by r.i k t.next) many ∙ ap (λ j. turn_charge_by j t.source.count t.next) r.turn.same_instr in
      let took : taking_charge r.i (long r.value) ≡ taking_charge t.instr (slot_length e0.y) =
      ap (λ j. taking_charge j (long r.value)) r.turn.same_instr ∙ sym (taking_same t.instr e0.y r.value r.operand r.what) in
      let top : top_length (slot_lengths os) ≡ slot_length e0.y = ap (λ x. top_length (slot_lengths x)) e0.ops_are in
      ap charge_of same ∙ ap (λ k. 1 + k + turn_charge r.i r.source r.left) (took ∙ ap (taking_charge t.instr) (sym top)) ∙ ap (λ k. 1 + taking_charge t.instr (top_length (slot_lengths os)) + k) next
