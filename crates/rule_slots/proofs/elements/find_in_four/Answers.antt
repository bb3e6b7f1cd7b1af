use Rattle.std.proofs.Common.{◌≡◌, ◌+◌, ℕ, List, Bool, false, refl, sym, ap, ◌∙◌, Some, length, drop, arith}
use Rattle.std.specs.Prelude.{slice_get}
use Rattle.std.specs.List.{list_any}
use Rattle.std.proofs.lemmas.Option.{slice_get_read}
use Rattle.rule_slots.specs.declared.slot.Slot.{Slot}
use Rattle.rule_slots.specs.Slots.{lists_in, scalar_slots}
use Rattle.rule_code.specs.declared.kind.WrittenScalar.TheVariants as written
use Rattle.rule_slots.proofs.Parts.{scalar_at}
use Rattle.rule_slots.specs.Compared.{same_slots}
use Rattle.rule_slots.proofs.Loops.{any_next, any_found}
use Rattle.rule_slots.proofs.elements.find_in_four.Goals as goal

-- a test that one item fails holds of those from the next on where it holds of those from it on
next_to : (P : Slot → Bool) (xs : List Slot) (k m : ℕ) (x : Slot) → k + 1 ≡ m → slice_get xs k ≡ Some x → P x ≡ false → list_any P (drop k xs) ≡ list_any P (drop m xs)
next_to P xs k m x is at fails = any_next P xs k x at fails ∙ ap (λ (n : ℕ). list_any P (drop n xs)) is

pub returns-then-same_as_number-clause-found : goal.returns-then-same_as_number-clause-found
returns-then-same_as_number-clause-found c = λ start e.
    let xs = scalar_slots start c.args.scalars.now in
    let T = same_slots (lists_in c.args.lists) written.Integer c.args.slot.now in
    let at1 : slice_get xs c.args.index ≡ Some _ = scalar_at start c.args.scalars.now c.args.index _ (slice_get_read c.args.scalars.now (length c.args.scalars.now) c.args.index _ refl (omega (arith, c.requires.four)) c.index-scalars-index.is) in
    any_found T xs c.args.index _ at1 (sym (c.same_as_number.ensures (start + c.args.index)) ∙ c.if-same_as_number.true)

pub returns-then-same_as_number-2-clause-found : goal.returns-then-same_as_number-2-clause-found
returns-then-same_as_number-2-clause-found c = λ start e.
    let xs = scalar_slots start c.args.scalars.now in
    let T = same_slots (lists_in c.args.lists) written.Integer c.args.slot.now in
    let at1 : slice_get xs c.args.index ≡ Some _ = scalar_at start c.args.scalars.now c.args.index _ (slice_get_read c.args.scalars.now (length c.args.scalars.now) c.args.index _ refl (omega (arith, c.requires.four)) c.index-scalars-index.is) in
    let at2 : slice_get xs (c.args.index + 1) ≡ Some _ = scalar_at start c.args.scalars.now (c.args.index + 1) _ (slice_get_read c.args.scalars.now (length c.args.scalars.now) (c.args.index + 1) _ refl (omega (arith, c.requires.four)) c.index-scalars-index-2.is) in
    next_to T xs c.args.index (c.args.index + 1) _ (omega arith) at1 (sym (c.same_as_number.ensures (start + c.args.index)) ∙ c.if-same_as_number.false)
    ∙ any_found T xs (c.args.index + 1) _ at2 (sym (c.same_as_number-2.ensures (start + (c.args.index + 1))) ∙ c.if-same_as_number-2.true)

pub returns-then-same_as_number-3-clause-found : goal.returns-then-same_as_number-3-clause-found
returns-then-same_as_number-3-clause-found c = λ start e.
    let xs = scalar_slots start c.args.scalars.now in
    let T = same_slots (lists_in c.args.lists) written.Integer c.args.slot.now in
    let at1 : slice_get xs c.args.index ≡ Some _ = scalar_at start c.args.scalars.now c.args.index _ (slice_get_read c.args.scalars.now (length c.args.scalars.now) c.args.index _ refl (omega (arith, c.requires.four)) c.index-scalars-index.is) in
    let at2 : slice_get xs (c.args.index + 1) ≡ Some _ = scalar_at start c.args.scalars.now (c.args.index + 1) _ (slice_get_read c.args.scalars.now (length c.args.scalars.now) (c.args.index + 1) _ refl (omega (arith, c.requires.four)) c.index-scalars-index-2.is) in
    let at3 : slice_get xs (c.args.index + 2) ≡ Some _ = scalar_at start c.args.scalars.now (c.args.index + 2) _ (slice_get_read c.args.scalars.now (length c.args.scalars.now) (c.args.index + 2) _ refl (omega (arith, c.requires.four)) c.index-scalars-index-3.is) in
    next_to T xs c.args.index (c.args.index + 1) _ (omega arith) at1 (sym (c.same_as_number.ensures (start + c.args.index)) ∙ c.if-same_as_number.false)
    ∙ next_to T xs (c.args.index + 1) (c.args.index + 2) _ (omega arith) at2 (sym (c.same_as_number-2.ensures (start + (c.args.index + 1))) ∙ c.if-same_as_number-2.false)
    ∙ any_found T xs (c.args.index + 2) _ at3 (sym (c.same_as_number-3.ensures (start + (c.args.index + 2))) ∙ c.if-same_as_number-3.true)

pub returns-then-same_as_number-4-clause-found : goal.returns-then-same_as_number-4-clause-found
returns-then-same_as_number-4-clause-found c = λ start e.
    let xs = scalar_slots start c.args.scalars.now in
    let T = same_slots (lists_in c.args.lists) written.Integer c.args.slot.now in
    let at1 : slice_get xs c.args.index ≡ Some _ = scalar_at start c.args.scalars.now c.args.index _ (slice_get_read c.args.scalars.now (length c.args.scalars.now) c.args.index _ refl (omega (arith, c.requires.four)) c.index-scalars-index.is) in
    let at2 : slice_get xs (c.args.index + 1) ≡ Some _ = scalar_at start c.args.scalars.now (c.args.index + 1) _ (slice_get_read c.args.scalars.now (length c.args.scalars.now) (c.args.index + 1) _ refl (omega (arith, c.requires.four)) c.index-scalars-index-2.is) in
    let at3 : slice_get xs (c.args.index + 2) ≡ Some _ = scalar_at start c.args.scalars.now (c.args.index + 2) _ (slice_get_read c.args.scalars.now (length c.args.scalars.now) (c.args.index + 2) _ refl (omega (arith, c.requires.four)) c.index-scalars-index-3.is) in
    let at4 : slice_get xs (c.args.index + 3) ≡ Some _ = scalar_at start c.args.scalars.now (c.args.index + 3) _ (slice_get_read c.args.scalars.now (length c.args.scalars.now) (c.args.index + 3) _ refl (omega (arith, c.requires.four)) c.index-scalars-index-4.is) in
    next_to T xs c.args.index (c.args.index + 1) _ (omega arith) at1 (sym (c.same_as_number.ensures (start + c.args.index)) ∙ c.if-same_as_number.false)
    ∙ next_to T xs (c.args.index + 1) (c.args.index + 2) _ (omega arith) at2 (sym (c.same_as_number-2.ensures (start + (c.args.index + 1))) ∙ c.if-same_as_number-2.false)
    ∙ next_to T xs (c.args.index + 2) (c.args.index + 3) _ (omega arith) at3 (sym (c.same_as_number-3.ensures (start + (c.args.index + 2))) ∙ c.if-same_as_number-3.false)
    ∙ any_found T xs (c.args.index + 3) _ at4 (sym (c.same_as_number-4.ensures (start + (c.args.index + 3))) ∙ c.if-same_as_number-4.true)

pub returns-clause-none : goal.returns-clause-none
returns-clause-none c = λ start e.
    let xs = scalar_slots start c.args.scalars.now in
    let T = same_slots (lists_in c.args.lists) written.Integer c.args.slot.now in
    let at1 : slice_get xs c.args.index ≡ Some _ = scalar_at start c.args.scalars.now c.args.index _ (slice_get_read c.args.scalars.now (length c.args.scalars.now) c.args.index _ refl (omega (arith, c.requires.four)) c.index-scalars-index.is) in
    let at2 : slice_get xs (c.args.index + 1) ≡ Some _ = scalar_at start c.args.scalars.now (c.args.index + 1) _ (slice_get_read c.args.scalars.now (length c.args.scalars.now) (c.args.index + 1) _ refl (omega (arith, c.requires.four)) c.index-scalars-index-2.is) in
    let at3 : slice_get xs (c.args.index + 2) ≡ Some _ = scalar_at start c.args.scalars.now (c.args.index + 2) _ (slice_get_read c.args.scalars.now (length c.args.scalars.now) (c.args.index + 2) _ refl (omega (arith, c.requires.four)) c.index-scalars-index-3.is) in
    let at4 : slice_get xs (c.args.index + 3) ≡ Some _ = scalar_at start c.args.scalars.now (c.args.index + 3) _ (slice_get_read c.args.scalars.now (length c.args.scalars.now) (c.args.index + 3) _ refl (omega (arith, c.requires.four)) c.index-scalars-index-4.is) in
    next_to T xs c.args.index (c.args.index + 1) _ (omega arith) at1 (sym (c.same_as_number.ensures (start + c.args.index)) ∙ c.if-same_as_number.false)
    ∙ next_to T xs (c.args.index + 1) (c.args.index + 2) _ (omega arith) at2 (sym (c.same_as_number-2.ensures (start + (c.args.index + 1))) ∙ c.if-same_as_number-2.false)
    ∙ next_to T xs (c.args.index + 2) (c.args.index + 3) _ (omega arith) at3 (sym (c.same_as_number-3.ensures (start + (c.args.index + 2))) ∙ c.if-same_as_number-3.false)
    ∙ next_to T xs (c.args.index + 3) (c.args.index + 4) _ (omega arith) at4 (sym (c.same_as_number-4.ensures (start + (c.args.index + 3))) ∙ c.if-same_as_number-4.false)
