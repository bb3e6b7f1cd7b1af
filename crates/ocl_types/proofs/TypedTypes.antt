-- Written types, and values where a kind is wanted.
use Rattle.std.proofs.Common.{◌≡◌, ◌<◌, ◌⊎◌, inl, inr, ℕ, Bool, true, false, List, Option, Some, None, IfSome, IfOk, length, option_map, bytes_eq, codes, if◌then◌else◌, refl}
use Rattle.std.specs.Option.{option_or}
use Rattle.std.proofs.lemmas.Bool.{or_left, or_right}
use Rattle.imkl_model.specs.ClassModel.{Model, class_number, enumeration_number}
use Rattle.imkl_model.specs.WellFormed.{IsClassModel}
use Rattle.imkl_model.proofs.ForAbove.{classes_have_names, enumerations_have_names}
use Rattle.ocl_base.specs.declared.collection_kind.CollectionKind.{CollectionKind}
use Rattle.ocl_base.specs.Steps.{check, found}
use Rattle.ocl_kinds.specs.declared.kind.ScalarKind.{ScalarKind}
use Rattle.ocl_kinds.specs.declared.kind.ScalarKind.TheVariants as element
use Rattle.ocl_kinds.specs.declared.kind.Kind.{Kind}
use Rattle.ocl_kinds.specs.declared.kind.Kind.TheVariants.{Scalar, Collection}
use Rattle.ocl_kinds.specs.Kinds.{IsScalarKindOf, IsKindOf, fits, wider_kind}
use Rattle.ocl_kinds.proofs.ForAbove.{fits_itself, wider_is_one, both_fit_wider}
use Rattle.ocl_text.specs.Tree as t
use Rattle.ocl_text.specs.Tree.{TypeTree}
use Rattle.ocl_types.specs.declared.fault.TypeFlaw.TheVariants.{UnknownName, WrongType, NoCommonType}
use Rattle.ocl_types.specs.Faults.{type_fault_at}
use Rattle.ocl_core.specs.Core.{CoreTree}
use Rattle.ocl_types.specs.TypedTrees.{TypedTree}
use Rattle.ocl_core.specs.OperatorKinds.{truth_kind}
use Rattle.ocl_types.specs.Elaboration.{collection_named, basic_named, scalar_named, known_scalar, no_element, inner_type, declared_kind, is_empty_for, stands_for, as_wanted_by, bound_value, branch_kind, if_of}
use Rattle.ocl_core.specs.Typing.{IsTyped}
use Rattle.ocl_types.proofs.TypedSteps.{chained, checked, there, itself}
use Rattle.ocl_types.proofs.TypedScopes.{Sound}

anything : {A : Type 0} (o : Option A) → IfSome o (λ x. Unit {0})
anything None = tt
anything (Some x) = tt

module _ (m : Model) where
  -- ---- written types

  either_known : (x y : Option ScalarKind) → IfSome x (IsScalarKindOf m) → IfSome y (IsScalarKindOf m) → IfSome (option_or x y) (IsScalarKindOf m)
  either_known (Some k) y h g = h
  either_known None y h g = g

  basic_by : (a b c : Bool) → IfSome (if a then Some element.Boolean else (if b then Some element.Integer else (if c then Some element.String else None))) (IsScalarKindOf m)
  basic_by true b c = tt
  basic_by false true c = tt
  basic_by false false true = tt
  basic_by false false false = tt

  basic_is : (name : List ℕ) → IfSome (basic_named name) (IsScalarKindOf m)
  basic_is name = basic_by (bytes_eq name (codes "Boolean")) (bytes_eq name (codes "Integer")) (bytes_eq name (codes "String"))

  class_is : (o : Option ℕ) → IfSome o (λ c. c < length m.classes) → IfSome (option_map element.Class o) (IsScalarKindOf m)
  class_is None h = tt
  class_is (Some c) h = h

  enumeration_is : (o : Option ℕ) → IfSome o (λ e. e < length m.enumerations) → IfSome (option_map element.Enumeration o) (IsScalarKindOf m)
  enumeration_is None h = tt
  enumeration_is (Some e) h = h

  -- a class that is found by its name is of the class model
  pub class_within : IsClassModel m → (name : List ℕ) (o : Option ℕ) → IfSome o (λ c. class_number m name ≡ Some c) → IfSome o (λ c. c < length m.classes)
  class_within well name None h = tt
  class_within well name (Some c) h = ((classes_have_names m well name c).0 h).0

  enumeration_within : IsClassModel m → (name : List ℕ) (o : Option ℕ) → IfSome o (λ e. enumeration_number m name ≡ Some e) → IfSome o (λ e. e < length m.enumerations)
  enumeration_within well name None h = tt
  enumeration_within well name (Some e) h = ((enumerations_have_names m well name e).0 h).0

  scalar_known : IsClassModel m → (name : List ℕ) (offset : ℕ) → IfOk (known_scalar m name offset) (IsScalarKindOf m)
  scalar_known well name offset =
      there (IsScalarKindOf m) (scalar_named m name) (type_fault_at UnknownName offset)
      (either_known (basic_named name) _ (basic_is name)
      (either_known _ _ (enumeration_is (enumeration_number m name) (enumeration_within well name (enumeration_number m name) (itself (enumeration_number m name))))
      (class_is (class_number m name) (class_within well name (class_number m name) (itself (class_number m name))))))

  no_element_known : (o : Option CollectionKind) (offset : ℕ) → IfOk (no_element o offset) (IsScalarKindOf m)
  no_element_known None offset = tt
  no_element_known (Some c) offset = tt

  inner_known : IsClassModel m → (written : TypeTree) → IfOk (inner_type m written) (IsScalarKindOf m)
  inner_known well (t.Named name offset) = scalar_known well name offset
  inner_known well (t.Collection name inner offset) = no_element_known (collection_named name) offset

  -- a written type is a kind of the class model
  pub declared_known : IsClassModel m → (written : TypeTree) → IfOk (declared_kind m written) (IsKindOf m)
  unfolding declared_kind
  declared_known well (t.Named name offset) = chained (IsScalarKindOf m) (IsKindOf m) (known_scalar m name offset) _ (scalar_known well name offset) (λ e h. h)
  declared_known well (t.Collection name inner offset) =
      chained (λ c. Unit {0}) (IsKindOf m) (found (collection_named name) (type_fault_at UnknownName offset)) _ (there (λ c. Unit {0}) (collection_named name) _ (anything (collection_named name))) (λ c u.
      chained (IsScalarKindOf m) (IsKindOf m) (inner_type m inner) _ (inner_known well inner) (λ e h. h))

  -- ---- values where a kind is wanted

  -- a tree of a kind that fits
  abbrev pub Fitting : List Kind → Kind → CoreTree → Type 0
  Fitting g wanted core = (x : Kind) × IsTyped m g core x × (fits m x wanted ≡ true)

  -- a value that may stand where a kind is wanted
  pub wanted_sound : (g : List Kind) (wanted given : Kind) (core : CoreTree) → IsTyped m g core given → IsKindOf m wanted → stands_for m wanted given ≡ true → Fitting g wanted (as_wanted_by wanted given core)
  wanted_sound g (Scalar d) given core p k h = (given, p, h)
  wanted_sound g (Collection c d) (Scalar element.Void) core p k h = (Collection c d, (k, (Scalar element.Void, p, refl, refl)), fits_itself m (Collection c d))
  wanted_sound g (Collection c d) (Scalar element.Boolean) core p k h = (Scalar element.Boolean, p, h)
  wanted_sound g (Collection c d) (Scalar element.Integer) core p k h = (Scalar element.Integer, p, h)
  wanted_sound g (Collection c d) (Scalar element.String) core p k h = (Scalar element.String, p, h)
  wanted_sound g (Collection c d) (Scalar (element.Enumeration e)) core p k h = (Scalar (element.Enumeration e), p, h)
  wanted_sound g (Collection c d) (Scalar (element.Class e)) core p k h = (Scalar (element.Class e), p, h)
  wanted_sound g (Collection c d) (Scalar element.AnyObject) core p k h = (Scalar element.AnyObject, p, h)
  wanted_sound g (Collection c d) (Collection b e) core p k h = (Collection b e, p, h)

  -- the value of a `let`
  pub bound_sound : (g : List Kind) (wanted : Kind) (x : TypedTree) (offset : ℕ) → Sound m g x → IsKindOf m wanted → IfOk (bound_value m wanted x offset) (Fitting g wanted)
  unfolding bound_value
  bound_sound g wanted x offset p k =
      chained (λ u. stands_for m wanted x.kind ≡ true) (Fitting g wanted) (check (stands_for m wanted x.kind) (type_fault_at WrongType offset)) _ (checked (stands_for m wanted x.kind) _) (λ u h.
      wanted_sound g wanted x.kind x.core p.0 k h)

  -- ---- branches

  abbrev IsBranchKind : Kind → Kind → Kind → Type 0
  IsBranchKind j k l = (stands_for m l j ≡ true) × (stands_for m l k ≡ true) × ((l ≡ j) ⊎ (l ≡ k))

  stands_itself : (k : Kind) → stands_for m k k ≡ true
  stands_itself k = or_right (is_empty_for k k) (fits m k k) (fits_itself m k)

  wider_branch : (j k : Kind) (o : Option Kind) → IfSome o (λ l. wider_kind m j k ≡ Some l) → IfSome o (IsBranchKind j k)
  wider_branch j k None h = tt
  wider_branch j k (Some l) h =
      let w = both_fit_wider m j k l h in
      (or_right (is_empty_for l j) (fits m j l) w.0, or_right (is_empty_for l k) (fits m k l) w.1, wider_is_one m j k l h)

  branch_by : (a b : Bool) (j k : Kind) → is_empty_for j k ≡ a → is_empty_for k j ≡ b → IfSome (if a then Some j else (if b then Some k else wider_kind m j k)) (IsBranchKind j k)
  branch_by true b j k e f = (stands_itself j, or_left (is_empty_for j k) (fits m k j) e, inl refl)
  branch_by false true j k e f = (or_left (is_empty_for k j) (fits m j k) f, stands_itself k, inr refl)
  branch_by false false j k e f = wider_branch j k (wider_kind m j k) (itself (wider_kind m j k))

  either_is : (j k l : Kind) → (l ≡ j) ⊎ (l ≡ k) → IsKindOf m j → IsKindOf m k → IsKindOf m l
  either_is j k l (inl e) h g = rw e h
  either_is j k l (inr e) h g = rw e g

  -- a branch is taken as a value of the kind of both
  pub if_sound : (g : List Kind) (condition : TypedTree) (y z : TypedTree) (offset : ℕ) → Sound m g condition → fits m condition.kind truth_kind ≡ true → Sound m g y → Sound m g z → IfOk (if_of m condition.core y z offset) (Sound m g)
  unfolding if_of
  if_sound g condition y z offset p truth q r =
      chained (IsBranchKind y.kind z.kind) (Sound m g) (found (branch_kind m y.kind z.kind) (type_fault_at NoCommonType offset)) _ (there (IsBranchKind y.kind z.kind) (branch_kind m y.kind z.kind) _ (branch_by (is_empty_for y.kind z.kind) (is_empty_for z.kind y.kind) y.kind z.kind refl refl)) (λ kind h.
      let known = either_is y.kind z.kind kind h.2 q.1 r.1 in
      let a = wanted_sound g kind y.kind y.core q.0 known h.0 in
      let b = wanted_sound g kind z.kind z.core r.0 known h.1 in
      ((known, (condition.kind, a.0, b.0, p.0, truth, a.1, a.2, b.1, b.2, refl)), known))
