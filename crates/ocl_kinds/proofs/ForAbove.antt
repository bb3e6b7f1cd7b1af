-- What is known of kinds: the public laws, and what the crates above cite.
use Rattle.std.proofs.Common.{◌≡◌, ◌⊎◌, ◌<◌, ◌==◌, ℕ, Bool, true, false, length, Some, None, IsSome, refl, sym, ap, ◌∙◌, inl, inr, if◌then◌else◌}
use Rattle.std.proofs.lemmas.Bool.{false≢true, and_from, and_parts, eq-eqb, eqb-true}
use Rattle.ocl_base.specs.declared.collection_kind.CollectionKind.{CollectionKind}
use Rattle.ocl_base.specs.declared.collection_kind.CollectionKind.TheVariants as collection
use Rattle.imkl_model.specs.declared.feature.ElementType.{ElementType}
use Rattle.imkl_model.specs.declared.feature.ElementType.TheVariants as type
use Rattle.imkl_model.specs.ClassModel.{Model, feature_at}
use Rattle.imkl_model.specs.Features.{is_single}
use Rattle.imkl_model.specs.WellFormed.{IsClassModel}
use Rattle.imkl_model.proofs.ForAbove.{conforms_to_itself, conforms_along, conforms_one_way}
use Rattle.ocl_kinds.specs.declared.kind.ScalarKind.{ScalarKind}
use Rattle.ocl_kinds.specs.declared.kind.ScalarKind.TheVariants.{Void, Boolean, Integer, String, Enumeration, Class, AnyObject}
use Rattle.ocl_kinds.specs.declared.kind.Kind.{Kind}
use Rattle.ocl_kinds.specs.declared.kind.Kind.TheVariants.{Scalar, Collection}
use Rattle.ocl_kinds.specs.Kinds.{IsScalarKindOf, IsKindOf, is_same_collection, scalar_fits, fits, element_kind, comparable, common_comparable}
use Rattle.ocl_kinds.specs.Laws as laws

-- ---- fitting is reflexive

-- each scalar kind fits itself
pub scalar_fits_itself : (m : Model) (k : ScalarKind) → scalar_fits m k k ≡ true
scalar_fits_itself m Void = refl
scalar_fits_itself m Boolean = refl
scalar_fits_itself m Integer = refl
scalar_fits_itself m String = refl
scalar_fits_itself m (Enumeration e) = eq-eqb e e refl
scalar_fits_itself m (Class c) = conforms_to_itself m c
scalar_fits_itself m AnyObject = refl

-- each sort of collection is the same as itself
pub same_collection_itself : (c : CollectionKind) → is_same_collection c c ≡ true
same_collection_itself collection.Set = refl
same_collection_itself collection.OrderedSet = refl
same_collection_itself collection.Bag = refl
same_collection_itself collection.Sequence = refl

-- each kind fits itself
pub fits_itself : (m : Model) → laws.FitsItself m
fits_itself m (Scalar k) = scalar_fits_itself m k
fits_itself m (Collection c k) = and_from (is_same_collection c c) (scalar_fits m k k) (same_collection_itself c) (scalar_fits_itself m k)

-- ---- it is transitive

-- tests of numbers go along
pub same_number : (a b c : ℕ) → (a == b) ≡ true → (b == c) ≡ true → (a == c) ≡ true
same_number a b c e f = let h : a ≡ b = eqb-true a b e in rw h f

-- a scalar kind that fits another fits each one that the other fits
pub scalar_fits_along : (m : Model) (j k l : ScalarKind) → scalar_fits m j k ≡ true → scalar_fits m k l ≡ true → scalar_fits m j l ≡ true
scalar_fits_along m Void k l f g = refl
scalar_fits_along m Boolean Boolean l f g = g
scalar_fits_along m Integer Integer l f g = g
scalar_fits_along m String String l f g = g
scalar_fits_along m (Enumeration c) (Enumeration d) (Enumeration e) f g = same_number c d e f g
scalar_fits_along m (Class c) (Class d) (Class e) f g = conforms_along m c d e f g
scalar_fits_along m (Class c) (Class d) AnyObject f g = refl
scalar_fits_along m (Class c) AnyObject AnyObject f g = refl
scalar_fits_along m AnyObject AnyObject l f g = g
scalar_fits_along m j k l f g = cc

-- collections of one sort are of the same sort
pub same_collection_is : (c d : CollectionKind) → is_same_collection c d ≡ true → c ≡ d
same_collection_is collection.Set collection.Set e = refl
same_collection_is collection.OrderedSet collection.OrderedSet e = refl
same_collection_is collection.Bag collection.Bag e = refl
same_collection_is collection.Sequence collection.Sequence e = refl
same_collection_is c d e = cc

-- a kind that fits another fits each one that the other fits
pub fits_along : (m : Model) → laws.FitsAlong m
fits_along m (Scalar a) (Scalar b) (Scalar c) f g = scalar_fits_along m a b c f g
fits_along m (Collection s a) (Collection t b) (Collection u c) f g =
    let p = and_parts (is_same_collection s t) (scalar_fits m a b) f in
    let q = and_parts (is_same_collection t u) (scalar_fits m b c) g in
    let same : s ≡ t = same_collection_is s t p.0 in
    and_from (is_same_collection s u) (scalar_fits m a c) (rw same q.0) (scalar_fits_along m a b c p.1 q.1)
fits_along m j k l f g = cc

-- ---- it goes one way

-- no two scalar kinds fit each other
pub scalar_fits_one_way : (m : Model) → IsClassModel m → (j k : ScalarKind) → scalar_fits m j k ≡ true → scalar_fits m k j ≡ true → j ≡ k
scalar_fits_one_way m well Void Void f g = refl
scalar_fits_one_way m well Boolean Boolean f g = refl
scalar_fits_one_way m well Integer Integer f g = refl
scalar_fits_one_way m well String String f g = refl
scalar_fits_one_way m well (Enumeration d) (Enumeration e) f g = ap (λ (n : ℕ). Enumeration n) (eqb-true d e f)
scalar_fits_one_way m well (Class c) (Class d) f g = ap (λ (n : ℕ). Class n) (conforms_one_way m well c d f g)
scalar_fits_one_way m well AnyObject AnyObject f g = refl
scalar_fits_one_way m well j k f g = cc

-- no two kinds fit each other
pub fits_one_way : (m : Model) → IsClassModel m → laws.FitsOneWay m
fits_one_way m well (Scalar a) (Scalar b) f g = ap (λ (k : ScalarKind). Scalar k) (scalar_fits_one_way m well a b f g)
fits_one_way m well (Collection s a) (Collection t b) f g =
    let p = and_parts (is_same_collection s t) (scalar_fits m a b) f in
    let q = and_parts (is_same_collection t s) (scalar_fits m b a) g in
    ap (λ (c : CollectionKind). Collection c a) (same_collection_is s t p.0) ∙ ap (λ (k : ScalarKind). Collection t k) (scalar_fits_one_way m well a b p.1 q.1)
fits_one_way m well j k f g = cc

-- ---- features

element_is_of : (m : Model) (e : ElementType) → ((c : ℕ) → e ≡ type.Class c → c < length m.classes) → ((n : ℕ) → e ≡ type.Enumeration n → n < length m.enumerations) → IsScalarKindOf m (element_kind e)
element_is_of m type.Boolean c n = tt
element_is_of m type.Integer c n = tt
element_is_of m type.String c n = tt
element_is_of m (type.Enumeration e) c n = n e refl
element_is_of m (type.Class k) c n = c k refl

either_kind : (m : Model) (b : Bool) (c : CollectionKind) (k : ScalarKind) → IsScalarKindOf m k → IsKindOf m (if b then Scalar k else Collection c k)
either_kind m true c k h = h
either_kind m false c k h = h

-- the kind of a feature is a kind of its class model
pub features_have_kinds : (m : Model) → IsClassModel m → laws.FeaturesHaveKinds m
features_have_kinds m well f lt =
    let i = feature_at m f in
    either_kind m (is_single i.upper) i.kind (element_kind i.element) (element_is_of m i.element (λ c e. well.known_classes f c lt e) (λ n e. well.known_enumerations f n lt e))

-- ---- the wider of two kinds

wider_cases : (a b : Bool) (j k l : Kind) → (if a then Some k else (if b then Some j else None)) ≡ Some l → ((a ≡ true) × (l ≡ k)) ⊎ ((b ≡ true) × (l ≡ j))
wider_cases true b j k l e = inl (refl, let same : l ≡ k = cc in same)
wider_cases false true j k l e = inr (refl, let same : l ≡ j = cc in same)
wider_cases false false j k l e = cc

-- the wider of two kinds is one of them
pub wider_is_one : (m : Model) → laws.WiderIsOne m
wider_is_one m j k l e = elim (wider_cases (fits m j k) (fits m k j) j k l e) [ inl w ↦ inr w.1 | inr w ↦ inl w.1 ]

-- both kinds fit the wider one
pub both_fit_wider : (m : Model) → laws.BothFitWider m
both_fit_wider m j k l e =
    elim (wider_cases (fits m j k) (fits m k j) j k l e) [
      | inl w ↦ (rw w.1 w.0, rw w.1 (fits_itself m k))
      | inr w ↦ (rw w.1 (fits_itself m j), rw w.1 w.0)
    ]

-- of two kinds of which one fits the other, that other is the wider
pub fitted_is_wider : (m : Model) → laws.FittedIsWider m
fitted_is_wider m j k fit = rw fit refl

wider_by : (a b : Bool) (j k : Kind) → (a ≡ true → b ≡ true → j ≡ k) → (if a then Some k else (if b then Some j else None)) ≡ (if b then Some j else (if a then Some k else None))
wider_by true true j k same = ap (λ (l : Kind). Some l) (sym (same refl refl))
wider_by true false j k same = refl
wider_by false b j k same = refl

-- the wider of two kinds is the same whichever comes first
pub wider_commutes : (m : Model) → IsClassModel m → laws.WiderCommutes m
wider_commutes m well j k = wider_by (fits m j k) (fits m k j) j k (fits_one_way m well j k)

-- ---- the kind that two have in common

-- a kind fits the one that its values are compared as
pub fits_comparable : (m : Model) (k : ScalarKind) → scalar_fits m k (comparable k) ≡ true
fits_comparable m (Class c) = refl
fits_comparable m (Enumeration e) = eq-eqb e e refl
fits_comparable m k = refl

common_number : (m : Model) (d e : ℕ) (b : Bool) (l : ScalarKind) → (d == e) ≡ b → (if b then Some (Enumeration d) else None) ≡ Some l → (scalar_fits m (Enumeration d) l ≡ true) × (scalar_fits m (Enumeration e) l ≡ true)
common_number m d e true l is h =
    let same : l ≡ Enumeration d = cc in
    (rw same (eq-eqb d d refl), rw same (eq-eqb e d (sym (eqb-true d e is))))
common_number m d e false l is h = cc

both_fit_comparable : (m : Model) (j k l : ScalarKind) → common_comparable j k ≡ Some l → (scalar_fits m j l ≡ true) × (scalar_fits m k l ≡ true)
both_fit_comparable m Void k l e = let same : l ≡ k = cc in (refl, rw same (scalar_fits_itself m k))
both_fit_comparable m Boolean Void l e = let same : l ≡ Boolean = cc in (rw same refl, refl)
both_fit_comparable m Integer Void l e = let same : l ≡ Integer = cc in (rw same refl, refl)
both_fit_comparable m String Void l e = let same : l ≡ String = cc in (rw same refl, refl)
both_fit_comparable m (Enumeration d) Void l e = let same : l ≡ Enumeration d = cc in (rw same (eq-eqb d d refl), refl)
both_fit_comparable m (Class c) Void l e = let same : l ≡ Class c = cc in (rw same (conforms_to_itself m c), refl)
both_fit_comparable m AnyObject Void l e = let same : l ≡ AnyObject = cc in (rw same refl, refl)
both_fit_comparable m Boolean Boolean l e = let same : l ≡ Boolean = cc in (rw same refl, rw same refl)
both_fit_comparable m Integer Integer l e = let same : l ≡ Integer = cc in (rw same refl, rw same refl)
both_fit_comparable m String String l e = let same : l ≡ String = cc in (rw same refl, rw same refl)
both_fit_comparable m (Enumeration c) (Enumeration d) l e = common_number m c d (c == d) l refl e
both_fit_comparable m AnyObject AnyObject l e = let same : l ≡ AnyObject = cc in (rw same refl, rw same refl)
both_fit_comparable m j k l e = cc

-- both kinds fit the one that they have in common
pub both_fit_common : (m : Model) → laws.BothFitCommon m
both_fit_common m j k l e =
    let p = both_fit_comparable m (comparable j) (comparable k) l e in
    (scalar_fits_along m j (comparable j) l (fits_comparable m j) p.0, scalar_fits_along m k (comparable k) l (fits_comparable m k) p.1)

-- ---- kinds that fit one have a kind in common

-- a kind that fits another is compared as that one, or is Void
compared_alike : (m : Model) (j l : ScalarKind) → scalar_fits m j l ≡ true → (j ≡ Void) ⊎ (comparable j ≡ comparable l)
compared_alike m Void l f = inl refl
compared_alike m Boolean Boolean f = inr refl
compared_alike m Integer Integer f = inr refl
compared_alike m String String f = inr refl
compared_alike m (Enumeration d) (Enumeration e) f = inr (ap (λ (n : ℕ). Enumeration n) (eqb-true d e f))
compared_alike m (Class c) (Class d) f = inr refl
compared_alike m (Class c) AnyObject f = inr refl
compared_alike m AnyObject AnyObject f = inr refl
compared_alike m j l f = cc

-- each kind has one in common with Void
common_with_void : (k : ScalarKind) → IsSome (common_comparable k Void)
common_with_void Void = refl
common_with_void Boolean = refl
common_with_void Integer = refl
common_with_void String = refl
common_with_void (Enumeration e) = refl
common_with_void (Class c) = refl
common_with_void AnyObject = refl

-- each kind that values are compared as has one in common with itself
common_with_itself : (l : ScalarKind) → IsSome (common_comparable (comparable l) (comparable l))
common_with_itself Void = refl
common_with_itself Boolean = refl
common_with_itself Integer = refl
common_with_itself String = refl
common_with_itself (Enumeration e) = rw (eq-eqb e e refl) refl
common_with_itself (Class c) = refl
common_with_itself AnyObject = refl

-- two kinds that fit one kind have a kind in common
pub fitting_one_have_common : (m : Model) → laws.FittingOneHaveCommon m
fitting_one_have_common m j k l f g =
    elim (compared_alike m j l f) [
      | inl void ↦ rw void refl
      | inr alike ↦
          elim (compared_alike m k l g) [
            | inl void ↦ rw void (common_with_void (comparable j))
            | inr too ↦ rw (alike, too) (common_with_itself l)
          ]
    ]

same_enumeration : (d e : ℕ) (a b : Bool) → (d == e) ≡ a → (e == d) ≡ b → (if a then Some (Enumeration d) else None) ≡ (if b then Some (Enumeration e) else None)
same_enumeration d e true true f g = ap (λ (n : ℕ). Some (Enumeration n)) (eqb-true d e f)
same_enumeration d e true false f g = absurd (false≢true (sym g ∙ eq-eqb e d (sym (eqb-true d e f))))
same_enumeration d e false true f g = absurd (false≢true (sym f ∙ eq-eqb d e (sym (eqb-true e d g))))
same_enumeration d e false false f g = refl

comparable_commutes : (j k : ScalarKind) → common_comparable j k ≡ common_comparable k j
comparable_commutes Void Void = refl
comparable_commutes Void Boolean = refl
comparable_commutes Void Integer = refl
comparable_commutes Void String = refl
comparable_commutes Void (Enumeration e) = refl
comparable_commutes Void (Class c') = refl
comparable_commutes Void AnyObject = refl
comparable_commutes Boolean Void = refl
comparable_commutes Boolean Boolean = refl
comparable_commutes Boolean Integer = refl
comparable_commutes Boolean String = refl
comparable_commutes Boolean (Enumeration e) = refl
comparable_commutes Boolean (Class c') = refl
comparable_commutes Boolean AnyObject = refl
comparable_commutes Integer Void = refl
comparable_commutes Integer Boolean = refl
comparable_commutes Integer Integer = refl
comparable_commutes Integer String = refl
comparable_commutes Integer (Enumeration e) = refl
comparable_commutes Integer (Class c') = refl
comparable_commutes Integer AnyObject = refl
comparable_commutes String Void = refl
comparable_commutes String Boolean = refl
comparable_commutes String Integer = refl
comparable_commutes String String = refl
comparable_commutes String (Enumeration e) = refl
comparable_commutes String (Class c') = refl
comparable_commutes String AnyObject = refl
comparable_commutes (Enumeration d) Void = refl
comparable_commutes (Enumeration d) Boolean = refl
comparable_commutes (Enumeration d) Integer = refl
comparable_commutes (Enumeration d) String = refl
comparable_commutes (Enumeration d) (Enumeration e) = same_enumeration d e (d == e) (e == d) refl refl
comparable_commutes (Enumeration d) (Class c') = refl
comparable_commutes (Enumeration d) AnyObject = refl
comparable_commutes (Class c) Void = refl
comparable_commutes (Class c) Boolean = refl
comparable_commutes (Class c) Integer = refl
comparable_commutes (Class c) String = refl
comparable_commutes (Class c) (Enumeration e) = refl
comparable_commutes (Class c) (Class c') = refl
comparable_commutes (Class c) AnyObject = refl
comparable_commutes AnyObject Void = refl
comparable_commutes AnyObject Boolean = refl
comparable_commutes AnyObject Integer = refl
comparable_commutes AnyObject String = refl
comparable_commutes AnyObject (Enumeration e) = refl
comparable_commutes AnyObject (Class c') = refl
comparable_commutes AnyObject AnyObject = refl

-- the kind that two have in common is the same whichever comes first
pub common_commutes : laws.CommonCommutes
common_commutes j k = comparable_commutes (comparable j) (comparable k)
