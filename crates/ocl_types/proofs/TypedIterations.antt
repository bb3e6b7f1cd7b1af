-- Iterations and the shorthand on collections are typed.
use Rattle.std.proofs.Common.{◌≡◌, ℕ, true, List, [], ◌∷◌, ◌++◌, length, Option, Some, None, IfOk, slice_get, refl, sym, ap, subst, ◌∙◌}
use Rattle.imkl_model.specs.ClassModel.{Model}
use Rattle.imkl_model.specs.WellFormed.{IsClassModel}
use Rattle.ocl_base.specs.declared.collection_kind.CollectionKind.{CollectionKind}
use Rattle.ocl_base.specs.Steps.{check, found}
use Rattle.ocl_kinds.specs.declared.kind.ScalarKind.{ScalarKind}
use Rattle.ocl_kinds.specs.declared.kind.Kind.{Kind}
use Rattle.ocl_kinds.specs.declared.kind.Kind.TheVariants.{Scalar, Collection}
use Rattle.ocl_kinds.specs.Kinds.{IsScalarKindOf, IsKindOf, fits}
use Rattle.ocl_kinds.proofs.ForAbove.{fits_itself, fits_comparable}
use Rattle.ocl_text.specs.declared.tree.IteratorKind.{IteratorKind}
use Rattle.ocl_text.specs.declared.tree.IteratorKind.TheVariants as i
use Rattle.ocl_text.specs.Tree as t
use Rattle.ocl_text.specs.Tree.{TypeTree, VariableTree, Variables, type_offset}
use Rattle.ocl_types.specs.declared.fault.TypeFlaw.TheVariants.{UnknownName, WrongType}
use Rattle.ocl_types.specs.declared.table.Turn.{Turn}
use Rattle.ocl_types.specs.declared.table.Turn.TheVariants.{Asks, Keeps, Gathers, Compares}
use Rattle.ocl_types.specs.Faults.{type_fault_at}
use Rattle.ocl_core.specs.Core as tree
use Rattle.ocl_core.specs.Core.{CoreTree}
use Rattle.ocl_types.specs.TypedTrees.{TypedTree, typed}
use Rattle.ocl_types.specs.Scope.{Implicit, Hidden, VariableScope, scope_variable, inside, feature_of}
use Rattle.ocl_types.specs.Elaboration.{Gathered, gathered, gathered_by, source_of_arrow, asks_truth, collect_by, property_by, property_of, declared_kind, declared_element, element_variable, inner_scope, turn_of, unique_by, iterate_by, iterate_twice, iterate_of}
use Rattle.ocl_core.specs.OperatorKinds.{truth_kind}
use Rattle.ocl_core.specs.Typing.{IsTypedIteration, IsTyped}
use Rattle.ocl_types.proofs.TypedSteps.{chained, checked, there}
use Rattle.ocl_types.proofs.TypedScopes.{kinds_of, kinds_inside, as_many_kinds, get_before, get_next, Sound, Scoped, scoped_inside, feature_sound}
use Rattle.ocl_types.proofs.TypedOperations.{comparable_known}
use Rattle.ocl_types.proofs.TypedTypes.{declared_known}

module _ (m : Model) where
  -- what an arrow is applied to
  abbrev pub IsGathered : List Kind → Gathered → Type 0
  IsGathered g x = IsTyped m g x.core (Collection x.collection x.element) × IsScalarKindOf m x.element

  gathered_sound_by : (g : List Kind) (core : CoreTree) (kind : Kind) → IsTyped m g core kind → IsKindOf m kind → IsGathered g (gathered_by core kind)
  gathered_sound_by g core (Scalar e) p k = ((k, (Scalar e, p, fits_itself m (Scalar e), refl)), k)
  gathered_sound_by g core (Collection c e) p k = (p, k)

  -- the source of an arrow
  pub gathered_sound : (g : List Kind) (x : TypedTree) → Sound m g x → IsGathered g (source_of_arrow x)
  gathered_sound g x p = gathered_sound_by g x.core x.kind p.0 p.1

  -- ---- the shorthand

  -- the kind of a variable that stands for elements
  abbrev pub IsVariable : ScalarKind → Kind → Type 0
  IsVariable e kind = (fits m (Scalar e) kind ≡ true) × IsKindOf m kind

  -- the values of a body for each element, which is a variable of a wider kind
  pub collect_sound : (g : List Kind) (source : CoreTree) (c : CollectionKind) (e : ScalarKind) (wider : Kind) (body : CoreTree) (kind : Kind) → IsTyped m g source (Collection c e) → IsVariable e wider → IsTyped m (g ++ wider ∷ []) body kind → IsKindOf m kind → Sound m g (collect_by source c body kind)
  collect_sound g source c e wider body (Scalar d) p w q k = ((c, e, wider, Scalar d, p, w.0, q, (d, refl, refl), w.1), k)
  collect_sound g source c e wider body (Collection b d) p w q k = ((c, e, wider, Collection b d, p, w.0, q, (b, d, refl, refl), w.1), k)

  property_by_sound : IsClassModel m → (s : VariableScope) (core : CoreTree) (kind : Kind) (name : List ℕ) (offset : ℕ) → IsTyped m (kinds_of s) core kind → IsKindOf m kind → IfOk (property_by m (length s) core kind name offset) (Sound m (kinds_of s))
  property_by_sound well s core (Scalar e) name offset p k =
      there (Sound m (kinds_of s)) (feature_of m core (Scalar e) name) (type_fault_at UnknownName offset) (feature_sound m well (kinds_of s) core (Scalar e) name p)
  property_by_sound well s core (Collection c e) name offset p k =
      let g = kinds_of s in
      let inner = g ++ Scalar e ∷ [] in
      let each : slice_get inner (length s) ≡ Some (Scalar e) = rw (as_many_kinds s) (get_next g [] (Scalar e)) in
      chained (Sound m inner) (Sound m g) (found (feature_of m (tree.Variable (length s)) (Scalar e) name) (type_fault_at UnknownName offset)) _
      (there (Sound m inner) (feature_of m (tree.Variable (length s)) (Scalar e) name) (type_fault_at UnknownName offset) (feature_sound m well inner (tree.Variable (length s)) (Scalar e) name each))
      (λ body q. collect_sound g core c e (Scalar e) body.core body.kind p (fits_itself m (Scalar e), k) q.0 q.1)

  -- a feature of a value, or of each element
  pub property_sound : IsClassModel m → (s : VariableScope) (x : TypedTree) (name : List ℕ) (offset : ℕ) → Sound m (kinds_of s) x → IfOk (property_of m (length s) x name offset) (Sound m (kinds_of s))
  unfolding property_of
  property_sound well s x name offset p = property_by_sound well s x.core x.kind name offset p.0 p.1

  -- ---- variables

  declared_sound : IsClassModel m → (e : ScalarKind) (written : Option TypeTree) → IsScalarKindOf m e → IfOk (declared_element m e written) (IsVariable e)
  declared_sound well e None k = (fits_itself m (Scalar e), k)
  declared_sound well e (Some written) k =
      chained (IsKindOf m) (IsVariable e) (declared_kind m written) _ (declared_known m well written) (λ kind known.
      chained (λ u. fits m (Scalar e) kind ≡ true) (IsVariable e) (check (fits m (Scalar e) kind) (type_fault_at WrongType (type_offset written))) _ (checked (fits m (Scalar e) kind) _) (λ u h.
      (h, known)))

  -- a variable that stands for elements
  pub variable_sound : IsClassModel m → (e : ScalarKind) (v : VariableTree) → IsScalarKindOf m e → IfOk (element_variable m e v) (λ w. IsVariable e w.kind)
  variable_sound well e v k = chained (IsVariable e) (λ w. IsVariable e w.kind) (declared_element m e v.1) _ (declared_sound well e v.1 k) (λ kind h. h)

  -- what a body sees
  abbrev pub IsInner : ℕ → VariableScope → Gathered → Variables → VariableScope → Type 0
  IsInner context s x (t.Pair first second) inner =
      Scoped m context inner × ((v : Kind) × (w : Kind) × IsVariable x.element v × IsVariable x.element w
      × (kinds_of inner ≡ ((kinds_of s ++ Collection x.collection x.element ∷ []) ++ v ∷ []) ++ w ∷ []))
  IsInner context s x variables inner =
      Scoped m context inner × ((v : Kind) × IsVariable x.element v × (kinds_of inner ≡ kinds_of s ++ v ∷ []))

  -- the scope of a body
  pub inner_sound : IsClassModel m → (context : ℕ) (s : VariableScope) (x : Gathered) (variables : Variables) → Scoped m context s → IsScalarKindOf m x.element → IfOk (inner_scope m s x variables) (IsInner context s x variables)
  unfolding inner_scope
  inner_sound well context s x t.Unnamed h k =
      let v = scope_variable Implicit (Scalar x.element) in
      (scoped_inside m context s v h k, (Scalar x.element, (fits_itself m (Scalar x.element), k), kinds_inside s v))
  inner_sound well context s x (t.Single first) h k =
      chained (λ v. IsVariable x.element v.kind) (IsInner context s x (t.Single first)) (element_variable m x.element first) _ (variable_sound well x.element first k) (λ v f.
      (scoped_inside m context s v h f.1, (v.kind, f, kinds_inside s v)))
  inner_sound well context s x (t.Pair first second) h k =
      let source = scope_variable Hidden (Collection x.collection x.element) in
      chained (λ v. IsVariable x.element v.kind) (IsInner context s x (t.Pair first second)) (element_variable m x.element first) _ (variable_sound well x.element first k) (λ v f.
      chained (λ w. IsVariable x.element w.kind) (IsInner context s x (t.Pair first second)) (element_variable m x.element second) _ (variable_sound well x.element second k) (λ w g.
      let one = inside s source in
      let two = inside one v in (
        scoped_inside m context two w (scoped_inside m context one v (scoped_inside m context s source h k) f.1) g.1,
        (v.kind, w.kind, f, g, kinds_inside two w ∙ ap (λ (ks : List Kind). ks ++ w.kind ∷ []) (kinds_inside one v ∙ ap (λ (ks : List Kind). ks ++ v.kind ∷ []) (kinds_inside s source))),
      )))

  -- ---- one iteration

  abbrev IsTurn : Turn → Type 0
  IsTurn (Asks it) = (c : CollectionKind) (e : ScalarKind) (body : Kind) → fits m body truth_kind ≡ true → IsTypedIteration m it c e body truth_kind
  IsTurn (Keeps it) = (c : CollectionKind) (e : ScalarKind) (body : Kind) → fits m body truth_kind ≡ true → IsTypedIteration m it c e body (Collection c e)
  IsTurn Gathers = Unit {0}
  IsTurn Compares = Unit {0}

  turn_is : (iterator : IteratorKind) → IsTurn (turn_of iterator)
  turn_is i.ForAll = λ c e body h. (h, refl)
  turn_is i.Exists = λ c e body h. (h, refl)
  turn_is i.One = λ c e body h. (h, refl)
  turn_is i.Select = λ c e body h. (h, refl)
  turn_is i.Reject = λ c e body h. (h, refl)
  turn_is i.Collect = tt
  turn_is i.IsUnique = tt

  unique_sound : (g : List Kind) (x : Gathered) (wider : Kind) (body : CoreTree) (kind : Kind) (offset : ℕ) → IsGathered g x → IsVariable x.element wider → IsTyped m (g ++ wider ∷ []) body kind → IsKindOf m kind → IfOk (unique_by x body kind offset) (Sound m g)
  unique_sound g x wider body (Scalar d) offset p w q k =
      ((x.collection, x.element, wider, Scalar d, p.0, w.0, q, (comparable_known m d k, (d, refl, fits_comparable m d, refl)), w.1), tt)
  unique_sound g x wider body (Collection c d) offset p w q k = tt

  iterate_sound_by : (g : List Kind) (turn : Turn) (x : Gathered) (wider : Kind) (y : TypedTree) (offset : ℕ) → IsTurn turn → IsGathered g x → IsVariable x.element wider → Sound m (g ++ wider ∷ []) y → IfOk (iterate_by m turn x y offset) (Sound m g)
  iterate_sound_by g (Asks it) x wider y offset is p w q =
      chained (λ u. fits m y.kind truth_kind ≡ true) (Sound m g) (asks_truth m y.kind offset) _ (checked (fits m y.kind truth_kind) _) (λ u h.
      ((x.collection, x.element, wider, y.kind, p.0, w.0, q.0, is x.collection x.element y.kind h, w.1), tt))
  iterate_sound_by g (Keeps it) x wider y offset is p w q =
      chained (λ u. fits m y.kind truth_kind ≡ true) (Sound m g) (asks_truth m y.kind offset) _ (checked (fits m y.kind truth_kind) _) (λ u h.
      ((x.collection, x.element, wider, y.kind, p.0, w.0, q.0, is x.collection x.element y.kind h, w.1), p.1))
  iterate_sound_by g Gathers x wider y offset is p w q = collect_sound g x.core x.collection x.element wider y.core y.kind p.0 w q.0 q.1
  iterate_sound_by g Compares x wider y offset is p w q = unique_sound g x wider y.core y.kind offset p w q.0 q.1

  -- ---- two variables

  twice_sound : (g : List Kind) (turn : Turn) (x : Gathered) (v w : Kind) (y : TypedTree) (offset : ℕ) → IsTurn turn → IsGathered g x → IsVariable x.element v → IsVariable x.element w → Sound m (((g ++ Collection x.collection x.element ∷ []) ++ v ∷ []) ++ w ∷ []) y → IfOk (iterate_twice m (length g) turn x y offset) (Sound m g)
  twice_sound g turn x v w y offset is p f h q =
      let kind = Collection x.collection x.element in
      let one = g ++ kind ∷ [] in
      let two = one ++ v ∷ [] in
      let source = gathered (tree.Variable (length g)) x.collection x.element in
      let seen : slice_get one (length g) ≡ Some kind = get_next g [] kind in
      chained (Sound m two) (Sound m g) (iterate_by m turn source y offset) _ (iterate_sound_by two turn source w y offset is (get_before one (v ∷ []) (length g) kind seen, p.1) h q) (λ inner a.
      chained (Sound m one) (Sound m g) (iterate_by m turn source inner offset) _ (iterate_sound_by one turn source v inner offset is (seen, p.1) f a) (λ outer b.
      ((kind, kind, p.0, fits_itself m kind, b.0, p.1), b.1)))

  as_many : (s : VariableScope) (P : ℕ → Type 0) → P (length (kinds_of s)) → P (length s)
  as_many s P h = subst P (sym (as_many_kinds s)) h

  in_kinds : (P : List Kind → Type 0) (a b : List Kind) → a ≡ b → P a → P b
  in_kinds P a b e h = subst P e h

  -- an iteration, with as many variables as it has
  pub iterate_sound : (context : ℕ) (s inner : VariableScope) (iterator : IteratorKind) (x : Gathered) (variables : Variables) (y : TypedTree) (offset : ℕ) → IsGathered (kinds_of s) x → IsInner context s x variables inner → Sound m (kinds_of inner) y → IfOk (iterate_of m (length s) iterator x variables y offset) (Sound m (kinds_of s))
  unfolding iterate_of
  iterate_sound context s inner iterator x t.Unnamed y offset p is q =
      iterate_sound_by (kinds_of s) (turn_of iterator) x is.1.0 y offset (turn_is iterator) p is.1.1 (in_kinds (λ ks. Sound m ks y) (kinds_of inner) _ is.1.2 q)
  iterate_sound context s inner iterator x (t.Single v) y offset p is q =
      iterate_sound_by (kinds_of s) (turn_of iterator) x is.1.0 y offset (turn_is iterator) p is.1.1 (in_kinds (λ ks. Sound m ks y) (kinds_of inner) _ is.1.2 q)
  iterate_sound context s inner iterator x (t.Pair v w) y offset p is q =
      as_many s (λ n. IfOk (iterate_twice m n (turn_of iterator) x y offset) (Sound m (kinds_of s)))
      (twice_sound (kinds_of s) (turn_of iterator) x is.1.0 is.1.1 y offset (turn_is iterator) p is.1.2 is.1.3 (in_kinds (λ ks. Sound m ks y) (kinds_of inner) _ is.1.4 q))
