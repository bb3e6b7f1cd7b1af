-- What a turn adds to what is kept, and what an iteration gives at its end.
use Rattle.std.proofs.Common.{◌≡◌, ℕ, zero, suc, ◌+◌, ◌≤◌, Bool, true, false, List, [], ◌∷◌, ◌++◌, length, drop, Some, None, refl, sym, ap, ◌∙◌, subst, arith}
use Rattle.std.specs.Prelude.{pos, not, ◌==◌, nat_lt, slice_range, if◌then◌else◌}
use Rattle.std.specs.List.{filter_map, list_all, list_any, AllByRecursion}
use Rattle.ocl_base.specs.Lists.{repeats}
use Rattle.rule_code.specs.declared.kind.WrittenScalar.{WrittenScalar}
use Rattle.imkl_population.specs.Population.{Population}
use Rattle.ocl_kinds.specs.declared.kind.Kind.TheVariants as kind
use Rattle.ocl_kinds.specs.declared.kind.ScalarKind.{ScalarKind}
use Rattle.ocl_kinds.specs.Kinds.{collected_kind}
use Rattle.ocl_base.specs.declared.collection_kind.CollectionKind.{CollectionKind}
use Rattle.rule_verify.specs.declared.pattern.Pattern.TheVariants.{AnySingle, AnyCollection}
use Rattle.std.proofs.lemmas.Bool.{and_from, ne_eqb, lt-ltb}
use Rattle.rule_code.specs.declared.instruction.Instr.{Instr}
use Rattle.rule_code.specs.declared.instruction.Instr.TheVariants as instrs
use Rattle.rule_verify.specs.CodeTree.{CodeTree}
use Rattle.rule_verify.specs.InstrKinds.{scalar_meant, operands_above, ends_with}
use Rattle.rule_values.specs.Value as value
use Rattle.rule_values.specs.Value.{Element, Value, as_element, same_element, truth_value, is_in, is_scalar_in, is_element_in}
use Rattle.rule_values.specs.Operations.{is_true, is_false, is_invalid}
use Rattle.rule_values.specs.Endings.{Source, kept_by, joined, collection_elements, is_undecided, count_true}
use Rattle.rule_machine.specs.IterationResults.{accumulator, ending}
use Rattle.rule_machine.specs.Machine.{Setting, judged_by, is_what}
use Rattle.rule_slots.specs.declared.slot.Slot.{Slot}
use Rattle.rule_slots.specs.declared.slot.Mark.{Mark}
use Rattle.rule_slots.specs.declared.slot.Mark.TheVariants as mark
use Rattle.rule_machine.specs.declared.piece.Turn.{Turn}
use Rattle.rule_slots.specs.Slots.{Lists, ElementIs, ElementsAre, PartIs, SlotIs, plain_mark, invalid_mark, held_slots, truth_slot, invalid_slot, truth_number}
use Rattle.rule_slots.specs.Operands.{is_number}
use Rattle.rule_slots.proofs.ForAbove.{truth_by, known_is, truth_operand}
use Rattle.rule_machine.specs.StandFor.{IsNoCollection, KeepsLast, TurnIs, kept_elements, kept_slots, kept_part, gives_part, gives_truths, count_passing, all_decided, ending_slot}
use Rattle.rule_machine.proofs.KeptValues.{no_collection}
use Rattle.rule_machine.proofs.Keeps.{kept_one, element_list, kept_by_more, elements_more, joined_more, all_is_count, any_is_count, undecided_is_count}

-- ---- what a turn adds

-- what is added to what is kept stands in these slots
abbrev pub Adds : Lists → List Slot → Instr → Slot → Slot → List Element → List Value → Value → Type 0
Adds l p j e y es bs b = (more : List Element) × ElementsAre l (kept_slots l p j e y) more × (kept_elements j es (bs ++ b ∷ []) ≡ kept_elements j es bs ++ more)

kept_if : (l : Lists) (e : Slot) (x : Element) (t u : Bool) → t ≡ u → ElementIs l e x → ElementsAre l (if t then e ∷ [] else []) (kept_one u x)
kept_if l e x true true q h = (h, tt)
kept_if l e x false false q h = tt
kept_if l e x true false q h = cc
kept_if l e x false true q h = cc

-- a mark that is not invalid keeps the slot
by_mark : (l : Lists) (m : Mark) (ss : List Slot) (es : List Element) → m ≡ mark.Plain → ElementsAre l ss es → ElementsAre l (if invalid_mark m then [] else ss) es
by_mark l mark.Plain ss es e h = h
by_mark l mark.Null ss es e h = h
by_mark l mark.Invalid ss es e h = cc

by_null : (l : Lists) (m : Mark) (ss : List Slot) (es : List Element) → m ≡ mark.Null → ElementsAre l ss es → ElementsAre l (if invalid_mark m then [] else ss) es
by_null l mark.Plain ss es e h = h
by_null l mark.Null ss es e h = h
by_null l mark.Invalid ss es e h = cc

by_invalid : (l : Lists) (m : Mark) (ss : List Slot) → m ≡ mark.Invalid → ElementsAre l (if invalid_mark m then [] else ss) []
by_invalid l mark.Invalid ss e = tt
by_invalid l mark.Plain ss e = cc
by_invalid l mark.Null ss e = cc

-- a collection, or invalid
abbrev pub IsMany : Value → Type 0
IsMany (value.Collection c es) = Unit {0}
IsMany value.Invalid = Unit {0}
IsMany b = ⊥

adds_single : (l : Lists) (p : List Slot) (hi : ℕ) (y : Slot) (b : Value) → IsNoCollection b → SlotIs l p hi y b → ElementsAre l (if invalid_mark y.mark then [] else y ∷ []) (element_list (as_element b))
adds_single l p hi y value.Invalid k h = by_invalid l y.mark (y ∷ []) h
adds_single l p hi y value.Null k h = by_null l y.mark (y ∷ []) (None ∷ []) h (h, tt)
adds_single l p hi y (value.Single v) k h = by_mark l y.mark (y ∷ []) (Some v ∷ []) h.0 (h, tt)
adds_single l p hi y (value.Collection c es) k h = absurd k

adds_many : (l : Lists) (p : List Slot) (hi : ℕ) (y : Slot) (b : Value) → IsMany b → SlotIs l p hi y b → ElementsAre l (if invalid_mark y.mark then [] else held_slots l p y) (collection_elements b)
adds_many l p hi y value.Invalid k h = by_invalid l y.mark (held_slots l p y) h
adds_many l p hi y (value.Collection c es) k h = by_mark l y.mark (held_slots l p y) es h.0 h.1.elements
adds_many l p hi y b k h = absurd k

single_what : (pop : Population) (b : Value) → is_what pop AnySingle b ≡ true → IsNoCollection b
single_what pop (value.Collection c es) k = cc
single_what pop b k = tt

-- what fits a collection of any kind is one, or invalid
pub many_what : (pop : Population) (b : Value) → is_what pop AnyCollection b ≡ true → IsMany b
many_what pop (value.Collection c es) k = tt
many_what pop value.Invalid k = tt
many_what pop value.Null k = cc
many_what pop (value.Single v) k = cc

-- what each iteration adds: the element, the body, or the body's elements
pub adds : (s : Setting) (l : Lists) (p : List Slot) (hi : ℕ) (j : Instr) (e y : Slot) (es : List Element) (bs : List Value) (b : Value) (x : Element) (rest : List Element)
    → drop (length bs) es ≡ x ∷ rest → ElementIs l e x → SlotIs l p hi y b → is_what s.population (ends_with (judged_by s) j) b ≡ true → Adds l p j e y es bs b
adds s l p hi (instrs.Select n) e y es bs b x rest d h k w =
    (kept_one (is_true b) x, kept_if l e x (is_number y (pos 1)) (is_true b) (truth_by l p hi y b k (truth_operand s.population b w)).0 h, kept_by_more is_true es bs b x rest d)
adds s l p hi (instrs.Reject n) e y es bs b x rest d h k w =
    (kept_one (is_false b) x, kept_if l e x (is_number y (pos 0)) (is_false b) (truth_by l p hi y b k (truth_operand s.population b w)).1 h, kept_by_more is_false es bs b x rest d)
adds s l p hi (instrs.Collect n) e y es bs b x rest d h k w = (element_list (as_element b), adds_single l p hi y b (single_what s.population b w) k, elements_more bs b)
adds s l p hi (instrs.IsUnique q n) e y es bs b x rest d h k w = (element_list (as_element b), adds_single l p hi y b (no_collection s.population _ b w) k, elements_more bs b)
adds s l p hi (instrs.CollectFlat n) e y es bs b x rest d h k w = (collection_elements b, adds_many l p hi y b (many_what s.population b w) k, joined_more bs b)
adds s l p hi j e y es bs b x rest d h k w = ([], tt, refl)

-- ---- what an iteration gives

counts_true : (bs : List Value) → count_true bs ≡ count_passing is_true bs
counts_true [] = refl
counts_true (b ∷ bs) = ap (λ n. if is_true b then suc n else n) (counts_true bs)

none_is : (n : ℕ) → nat_lt 0 n ≡ not (n == 0)
none_is zero = refl
none_is (suc n) = lt-ltb 0 (suc n) (omega arith) ∙ ap not (sym (ne_eqb (suc n) 0 (λ e. absurd (omega (arith, e)))))

-- a slot or invalid, where a test says so of the values too
given_if : (l : Lists) (p : List Slot) (hi : ℕ) (s : Slot) (v : Value) (a b : Bool) → b ≡ not a → SlotIs l p hi s v → SlotIs l p hi (if a then s else invalid_slot) (if b then value.Invalid else v)
given_if l p hi s v true false e h = h
given_if l p hi s v false true e h = refl
given_if l p hi s v true true e h = cc
given_if l p hi s v false false e h = cc

-- bodies in a kind are elements in it
elements_in : (pop : Population) (k : ScalarKind) (bs : List Value) → AllByRecursion (λ b. is_in pop b (kind.Scalar k) ≡ true) bs → list_all (is_element_in pop k) (filter_map as_element bs) ≡ true
elements_in pop k [] h = refl
elements_in pop k (value.Invalid ∷ bs) h = elements_in pop k bs h.1
elements_in pop k (value.Null ∷ bs) h = elements_in pop k bs h.1
elements_in pop k (value.Single v ∷ bs) h = and_from (is_scalar_in pop v k) _ h.0 (elements_in pop k bs h.1)
elements_in pop k (value.Collection c es ∷ bs) h = let bad = h.0 in cc

module _ (s : Setting) (l : Lists) (code : List Instr) (p : List Slot) (t : Turn) (i : Instr) (body : CodeTree) (source : Source) (left : List Element) (bodies : List Value) (h : TurnIs s l code p (length p) t i body source left bodies) (turns : length bodies ≡ t.next) where
  undecided_is : gives_truths t.instr ≡ true → list_any is_undecided bodies ≡ not (all_decided t)
  undecided_is k = (undecided_is_count bodies).1 ∙ ap not (rw (sym (h.trues k), sym (h.falses k), turns) refl)

  -- no more bodies are true or false than there were turns
  pub decided_low : gives_truths t.instr ≡ true → t.trues + t.falses ≤ t.next
  decided_low k = omega (arith, (undecided_is_count bodies).0, h.trues k, h.falses k, turns)

  invalids_are : list_any is_invalid bodies ≡ not (t.invalids == 0)
  invalids_are = any_is_count is_invalid bodies ∙ ap (nat_lt 0) (sym h.invalids) ∙ none_is t.invalids

  part_kept : (c : CollectionKind) (es : List Element) → kept_elements t.instr source.elements bodies ≡ es → SlotIs l p (length p) (kept_part t) (value.Collection c es)
  part_kept c es e = (refl, record { within = h.above; elements = subst (ElementsAre l (slice_range p t.opened (t.opened + t.kept))) e h.keeps })

  -- what ISUNIQUE keeps, as a part of the pool, and in which kind it is
  pub unique_part : (q : WrittenScalar) (n : ℕ) → t.instr ≡ instrs.IsUnique q n → PartIs l p (length p) (kept_part t) (filter_map as_element bodies)
  unique_part q n e =
      record { within = h.above; elements = subst (λ j. ElementsAre l (slice_range p t.opened (t.opened + t.kept)) (kept_elements j source.elements bodies)) e h.keeps }

  -- and its elements are in the kind that it names
  pub unique_in : (q : WrittenScalar) (n : ℕ) → t.instr ≡ instrs.IsUnique q n → list_all (is_element_in s.population (scalar_meant (judged_by s) q)) (filter_map as_element bodies) ≡ true
  unique_in q n e =
      elements_in s.population (scalar_meant (judged_by s) q) bodies (subst (λ j. AllByRecursion (λ b. is_what s.population (ends_with (judged_by s) j) b ≡ true) bodies) e h.fitting)

  -- an iteration that keeps its bodies gives what its elements and bodies give
  by_bodies : (j : Instr) (distinct : Bool) (last : Slot) → t.instr ≡ j → operands_above j ≡ 0 → ((q : WrittenScalar) (n : ℕ) → j ≡ instrs.IsUnique q n → distinct ≡ not (repeats same_element (filter_map as_element bodies))) → SlotIs l p (length p) (ending_slot j t distinct last) (ending j source bodies)
  by_bodies (instrs.ForAll n) x last e one k =
      known_is l p (length p) (t.trues == t.next) (nat_lt 0 t.falses) (list_all is_true bodies) (list_any is_false bodies)
      (rw (h.trues (ap gives_truths e), sym turns) (sym (all_is_count is_true bodies))) (rw (h.falses (ap gives_truths e)) (sym (any_is_count is_false bodies)))
  by_bodies (instrs.Exists n) x last e one k =
      known_is l p (length p) (nat_lt 0 t.trues) (t.falses == t.next) (list_any is_true bodies) (list_all is_false bodies)
      (rw (h.trues (ap gives_truths e)) (sym (any_is_count is_true bodies))) (rw (h.falses (ap gives_truths e), sym turns) (sym (all_is_count is_false bodies)))
  by_bodies (instrs.One n) x last e one k =
      given_if l p (length p) (truth_slot (t.trues == 1)) (truth_value (count_true bodies == 1)) (all_decided t) (list_any is_undecided bodies) (undecided_is (ap gives_truths e))
      (refl, ap (λ m. truth_number (m == 1)) (h.trues (ap gives_truths e) ∙ sym (counts_true bodies)))
  by_bodies (instrs.Select n) x last e one k =
      given_if l p (length p) (kept_part t) (value.Collection source.kind (kept_by is_true source.elements bodies)) (all_decided t) (list_any is_undecided bodies) (undecided_is (ap gives_truths e))
      (part_kept source.kind (kept_by is_true source.elements bodies) (ap (λ j. kept_elements j source.elements bodies) e))
  by_bodies (instrs.Reject n) x last e one k =
      given_if l p (length p) (kept_part t) (value.Collection source.kind (kept_by is_false source.elements bodies)) (all_decided t) (list_any is_undecided bodies) (undecided_is (ap gives_truths e))
      (part_kept source.kind (kept_by is_false source.elements bodies) (ap (λ j. kept_elements j source.elements bodies) e))
  by_bodies (instrs.Collect n) x last e one k =
      given_if l p (length p) (kept_part t) (value.Collection (collected_kind source.kind) (filter_map as_element bodies)) (t.invalids == 0) (list_any is_invalid bodies) invalids_are
      (part_kept (collected_kind source.kind) (filter_map as_element bodies) (ap (λ j. kept_elements j source.elements bodies) e))
  by_bodies (instrs.CollectFlat n) x last e one k =
      given_if l p (length p) (kept_part t) (value.Collection (collected_kind source.kind) (joined bodies)) (t.invalids == 0) (list_any is_invalid bodies) invalids_are
      (part_kept (collected_kind source.kind) (joined bodies) (ap (λ j. kept_elements j source.elements bodies) e))
  by_bodies (instrs.IsUnique q n) x last e one k =
      given_if l p (length p) (truth_slot x) (truth_value (not (repeats same_element (filter_map as_element bodies)))) (t.invalids == 0) (list_any is_invalid bodies) invalids_are
      (refl, ap truth_number (k q n refl))
  by_bodies (instrs.Fold q n) x last e one k = cc
  by_bodies j x last e one k = refl

  by_kept : (j : Instr) (distinct : Bool) (last : Slot) (kept : List Value) → t.instr ≡ j → KeepsLast l p j bodies last kept → ((q : WrittenScalar) (n : ℕ) → j ≡ instrs.IsUnique q n → distinct ≡ not (repeats same_element (filter_map as_element bodies))) → SlotIs l p (length p) (ending_slot j t distinct last) (ending j source kept)
  by_kept (instrs.Fold q n) x last kept e w k = subst (λ bs. SlotIs l p (length p) last (accumulator bs)) (sym w.1) w.2
  by_kept j x last kept e w k = subst (λ bs. SlotIs l p (length p) (ending_slot j t x last) (ending j source bs)) (sym w) (by_bodies j x last e refl k)

  -- at its end an iteration gives what its elements and what it kept give
  pub ending_is : (distinct : Bool) (last : Slot) (kept : List Value) → ((q : WrittenScalar) (n : ℕ) → t.instr ≡ instrs.IsUnique q n → distinct ≡ not (repeats same_element (filter_map as_element bodies))) → KeepsLast l p i bodies last kept → SlotIs l p (length p) (ending_slot t.instr t distinct last) (ending i source kept)
  ending_is x last kept k w =
      subst (λ j. SlotIs l p (length p) (ending_slot t.instr t x last) (ending j source kept)) (sym h.same_instr) (by_kept t.instr x last kept refl (subst (λ j. KeepsLast l p j bodies last kept) h.same_instr w) k)

-- ---- what is given, and the pool

-- an iteration that doesn't give what it keeps gives no collection
pub gives_none : (l : Lists) (p : List Slot) (hi : ℕ) (i : Instr) (source : Source) (bodies kept : List Value) (last gives : Slot) → KeepsLast l p i bodies last kept → gives_part i gives ≡ false → SlotIs l p hi gives (ending i source kept) → IsNoCollection (ending i source kept)
gives_none l p hi (instrs.IsUnique k n) source bodies kept last gives w e h = by_test (list_any is_invalid kept)
  where
    by_test : (b : Bool) → IsNoCollection (if b then value.Invalid else truth_value (not (repeats same_element (filter_map as_element kept))))
    by_test true = tt
    by_test false = tt
gives_none l p hi (instrs.Fold k n) source bodies kept last gives w e h = subst (λ bs. IsNoCollection (accumulator bs)) (sym w.1) w.3
gives_none l p hi i source bodies kept last gives w e h = by_value (ending i source kept) h
  where
    by_value : (v : Value) → SlotIs l p hi gives v → IsNoCollection v
    by_value (value.Collection c es) k = let f : plain_mark gives.mark ≡ true = ap plain_mark k.0 in cc
    by_value v k = tt
