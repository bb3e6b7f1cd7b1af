-- Kinds whose elements are compared by the same word.
use Rattle.std.proofs.Common.{◌≡◌, ◌⊎◌, inl, inr, Bool, refl, sym, subst}
use Rattle.rule_code.specs.declared.symbol.SymbolNumber.{SymbolNumber}
use Rattle.rule_code.specs.declared.kind.WrittenScalar.{WrittenScalar}
use Rattle.rule_code.specs.declared.kind.WrittenScalar.TheVariants as written
use Rattle.rule_slots.specs.declared.slot.Slot.{Slot}
use Rattle.rule_slots.specs.Slots.{Lists}
use Rattle.rule_slots.specs.Compared.{same_slots}

-- Void, truth values and whole numbers by the number
pub as_numbers : (l : Lists) (k : WrittenScalar) (F : (Slot → Slot → Bool) → Bool) → ((k ≡ written.Void) ⊎ ((k ≡ written.Boolean) ⊎ (k ≡ written.Integer))) → F (same_slots l written.Integer) ≡ F (same_slots l k)
as_numbers l k F (inl e) = subst (λ w. F (same_slots l written.Integer) ≡ F (same_slots l w)) (sym e) refl
as_numbers l k F (inr (inl e)) = subst (λ w. F (same_slots l written.Integer) ≡ F (same_slots l w)) (sym e) refl
as_numbers l k F (inr (inr e)) = subst (λ w. F (same_slots l written.Integer) ≡ F (same_slots l w)) (sym e) refl

-- literals and objects by the index
pub as_objects : (l : Lists) (k : WrittenScalar) (F : (Slot → Slot → Bool) → Bool) → (((x : SymbolNumber) × (k ≡ written.Enumeration x)) ⊎ (((x : SymbolNumber) × (k ≡ written.Class x)) ⊎ (k ≡ written.AnyObject))) → F (same_slots l written.AnyObject) ≡ F (same_slots l k)
as_objects l k F (inl (x, e)) = subst (λ w. F (same_slots l written.AnyObject) ≡ F (same_slots l w)) (sym e) refl
as_objects l k F (inr (inl (x, e))) = subst (λ w. F (same_slots l written.AnyObject) ≡ F (same_slots l w)) (sym e) refl
as_objects l k F (inr (inr e)) = subst (λ w. F (same_slots l written.AnyObject) ≡ F (same_slots l w)) (sym e) refl
