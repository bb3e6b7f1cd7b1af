-- Collections of which one is empty.
use Rattle.std.proofs.Common.{◌≡◌, suc, Bool, true, false, List, [], ◌∷◌, length, Some, refl, ap, ◌∙◌}
use Rattle.std.specs.Prelude.{◌&&◌, ◌==◌, not, slice_get, if◌then◌else◌}
use Rattle.std.specs.List.{list_all}
use Rattle.std.proofs.lemmas.List.{nil_from_length}
use Rattle.ocl_base.specs.Lists.{is_among}
use Rattle.rule_code.specs.declared.kind.WrittenScalar.{WrittenScalar}
use Rattle.rule_slots.specs.declared.comparer.Quantifier.{Quantifier}
use Rattle.rule_slots.specs.declared.comparer.Quantifier.TheVariants as quantifier
use Rattle.rule_slots.specs.declared.slot.Slot.{Slot}
use Rattle.rule_slots.specs.Slots.{Lists}
use Rattle.rule_slots.specs.Compared.{times_among, same_slots, same_unordered}
use Rattle.rule_slots.specs.Ordered.{compare_slots, is_defined}
use Rattle.rule_slots.specs.Comparer.{admits}
use Rattle.rule_slots.proofs.InOrder.{never_none, same_itself}
use Rattle.rule_slots.proofs.SlotOrder.{slots_total, slots_tie, slots_like}

-- ---- any list

first_there : {A : Type 0} (xs : List A) (x : A) → slice_get xs 0 ≡ Some x → (rest : List A) × (xs ≡ x ∷ rest)
first_there [] x e = cc
first_there (y ∷ ys) x e = let q : y ≡ x = cc in (ys, ap (λ z. z ∷ ys) q)

-- no item is among none
all_outside : {A : Type 0} (same : A → A → Bool) (xs : List A) → list_all (λ x. not (is_among same [] x)) xs ≡ true
all_outside same [] = refl
all_outside same (x ∷ xs) = all_outside same xs

-- so an item that is no one's like decides
pub none_inside : {A : Type 0} (q : Quantifier) (same : A → A → Bool) (xs : List A) → (length xs ≡ 0 → ⊥) → list_all (λ x. admits q (is_among same [] x)) xs ≡ admits q false
none_inside q same [] some = absurd (some refl)
none_inside quantifier.All same (x ∷ xs) some = refl
none_inside quantifier.None same (x ∷ xs) some = all_outside same xs

-- ---- slots

module _ (l : Lists) (w : WrittenScalar) where
  itself : (x : Slot) → is_defined x ≡ true → same_slots l w x x ≡ true
  itself x v = same_itself (compare_slots l w) (slots_total l w) (same_slots l w) is_defined (slots_tie l w) (slots_like l w) x v

  -- an item stands in its list at least once
  stands_there : (x : Slot) (xs : List Slot) → is_defined x ≡ true → (times_among (same_slots l w) (x ∷ xs) x == 0) ≡ false
  stands_there x xs v =
      let n = times_among (same_slots l w) xs x in
      ap (λ b. (if b then suc n else n) == 0) (itself x v) ∙ never_none n

  -- none is not the same as some
  pub none_or_some : (unique : Bool) (xs ys : List Slot) (y : Slot) → length xs ≡ 0 → slice_get ys 0 ≡ Some y → is_defined y ≡ true → same_unordered (same_slots l w) unique xs ys ≡ false
  none_or_some unique xs ys y e f v =
      let some = first_there ys y f in
      ap (λ z. same_unordered (same_slots l w) unique z ys) (nil_from_length xs e) ∙ ap (same_unordered (same_slots l w) unique []) some.1 ∙ by unique
    where
      by : (b : Bool) → same_unordered (same_slots l w) b [] (y ∷ (first_there ys y f).0) ≡ false
      by true = refl
      by false =
          let rest = (first_there ys y f).0 in
          ap (λ b. b && list_all (λ x. times_among (same_slots l w) (y ∷ rest) x == 0) rest) (stands_there y rest v)

  -- and some not the same as none
  pub some_or_none : (unique : Bool) (xs ys : List Slot) (x : Slot) → slice_get xs 0 ≡ Some x → length ys ≡ 0 → is_defined x ≡ true → same_unordered (same_slots l w) unique xs ys ≡ false
  some_or_none unique xs ys x e f v =
      let some = first_there xs x e in
      ap (same_unordered (same_slots l w) unique xs) (nil_from_length ys f) ∙ ap (λ z. same_unordered (same_slots l w) unique z []) some.1 ∙ by unique
    where
      by : (b : Bool) → same_unordered (same_slots l w) b (x ∷ (first_there xs x e).0) [] ≡ false
      by true = refl
      by false =
          let rest = (first_there xs x e).0 in
          ap (λ b. (b && list_all (λ z. times_among (same_slots l w) (x ∷ rest) z == 0) rest) && true) (stands_there x rest v)
