-- What operands are, by the kinds that they are in, and what that says of their slots.
use Rattle.std.proofs.Common.{◌≡◌, ℕ, Bool, true, false, List, Some, None, refl, sym, ap, ◌∙◌, subst}
use Rattle.std.specs.Prelude.{if◌then◌else◌}
use Rattle.std.proofs.lemmas.Option.{same_Some}
use Rattle.imkl_model.specs.ClassModel.{belongs, feature_at}
use Rattle.imkl_population.specs.Population.{Population, class_of, values_of}
use Rattle.imkl_population.specs.declared.scalar.Scalar.TheVariants as scalar
use Rattle.ocl_kinds.specs.declared.kind.ScalarKind.{ScalarKind}
use Rattle.ocl_kinds.specs.declared.kind.ScalarKind.TheVariants as element
use Rattle.ocl_kinds.specs.declared.kind.Kind.{Kind}
use Rattle.ocl_kinds.specs.declared.kind.Kind.TheVariants as kind
use Rattle.rule_code.specs.declared.kind.WrittenKind.{WrittenKind}
use Rattle.rule_code.specs.declared.kind.WrittenKind.TheVariants as kinds
use Rattle.rule_values.specs.Value as value
use Rattle.rule_values.specs.Value.{Value, is_in, is_scalar_in}
use Rattle.rule_values.specs.Operations.{value_read, feature_value}
use Rattle.rule_slots.specs.declared.slot.Mark.{Mark}
use Rattle.rule_slots.specs.declared.slot.Mark.TheVariants as mark
use Rattle.rule_slots.specs.declared.slot.Slot.{Slot}
use Rattle.rule_slots.specs.Slots.{Lists, SlotIs, LiesInHome, plain_mark}
use Rattle.rule_slots.specs.Operands.{is_truth_operand, is_number_operand, is_text_operand, is_many_operand, is_elements_operand}
use Rattle.rule_slots.specs.Compared.{covers_kind, ComparesWithin}

-- ---- operands in kinds

-- a truth value
pub truth_operand : (p : Population) (v : Value) → is_in p v (kind.Scalar element.Boolean) ≡ true → is_truth_operand v ≡ true
truth_operand p (value.Single (scalar.Bool b)) e = refl
truth_operand p value.Null e = refl
truth_operand p value.Invalid e = refl
truth_operand p v e = cc

-- a whole number
pub number_operand : (p : Population) (v : Value) → is_in p v (kind.Scalar element.Integer) ≡ true → is_number_operand v ≡ true
number_operand p (value.Single (scalar.Int n)) e = refl
number_operand p value.Null e = refl
number_operand p value.Invalid e = refl
number_operand p v e = cc

-- a text
pub text_operand : (p : Population) (v : Value) → is_in p v (kind.Scalar element.String) ≡ true → is_text_operand v ≡ true
text_operand p (value.Single (scalar.Text t)) e = refl
text_operand p value.Null e = refl
text_operand p value.Invalid e = refl
text_operand p v e = cc

-- a collection
pub many_operand : (p : Population) (k : ScalarKind) (v : Value) → is_elements_operand p k v ≡ true → is_many_operand v ≡ true
many_operand p k (value.Collection c es) e = refl
many_operand p k value.Invalid e = refl
many_operand p k value.Null e = cc
many_operand p k (value.Single v) e = cc

-- ---- their slots

-- a plain mark
pub plain_is : (m : Mark) → plain_mark m ≡ true → m ≡ mark.Plain
plain_is mark.Plain e = refl
plain_is mark.Null e = cc
plain_is mark.Invalid e = cc

-- a mark that is not the plain one
pub undefined : {A : Type 0} (m n : Mark) → m ≡ n → plain_mark n ≡ false → plain_mark m ≡ true → A
undefined m n e f g = absurd (cc_of (sym g ∙ ap plain_mark e ∙ f))
  where
    cc_of : true ≡ false → ⊥
    cc_of q = cc

-- a collection lies in its list
pub lies_within : (l : Lists) (pool : List Slot) (hi : ℕ) (x : Slot) (v : Value) → SlotIs l pool hi x v → is_many_operand v ≡ true → LiesInHome l hi x
lies_within l pool hi x (value.Collection c es) h e plain = h.1.within
lies_within l pool hi x value.Null h e plain = undefined x.mark mark.Null h refl plain
lies_within l pool hi x value.Invalid h e plain = undefined x.mark mark.Invalid h refl plain
lies_within l pool hi x (value.Single v) h e plain = absurd (by_cc e)
  where
    by_cc : false ≡ true → ⊥
    by_cc q = cc

-- what is compared as a collection lies in its list
pub compares_within : (l : Lists) (p : Population) (pool : List Slot) (hi : ℕ) (w : WrittenKind) (k : Kind) → covers_kind w k ≡ true → (x : Slot) (v : Value) → SlotIs l pool hi x v → is_in p v k ≡ true → ComparesWithin l hi w x
compares_within l p pool hi (kinds.Scalar w) k c x v h i = tt
compares_within l p pool hi (kinds.Collection d w) (kind.Collection e k) c x (value.Collection f es) h i = λ plain. h.1.within
compares_within l p pool hi (kinds.Collection d w) (kind.Collection e k) c x value.Invalid h i = λ plain. undefined x.mark mark.Invalid h refl plain
compares_within l p pool hi (kinds.Collection d w) k c x v h i = cc

-- what is read of a feature of an object
pub read_is : (l : Lists) (p : Population) (pool : List Slot) (hi f : ℕ) (s made : Slot) → plain_mark s.mark ≡ true → SlotIs l pool hi made (feature_value (feature_at p.model f) (values_of p s.index f))
    → (x r : Value) → SlotIs l pool hi s x → value_read p f x ≡ Some r → SlotIs l pool hi made r
read_is l p pool hi f s made plain h (value.Single (scalar.Object o)) r g e = by_test (belongs p.model (class_of p o) f) e
  where
    by_test : (b : Bool) → (if b then Some (feature_value (feature_at p.model f) (values_of p o f)) else None) ≡ Some r → SlotIs l pool hi made r
    by_test true q = subst (SlotIs l pool hi made) (same_Some (feature_value (feature_at p.model f) (values_of p o f)) r q) (subst (λ n. SlotIs l pool hi made (feature_value (feature_at p.model f) (values_of p n f))) g.1 h)
    by_test false q = cc
read_is l p pool hi f s made plain h value.Null r g e = undefined s.mark mark.Null g refl plain
read_is l p pool hi f s made plain h value.Invalid r g e = undefined s.mark mark.Invalid g refl plain
read_is l p pool hi f s made plain h x r g e = cc
