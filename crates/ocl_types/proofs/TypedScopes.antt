-- Scopes, and what bare names and features stand for, are typed.
use Rattle.std.proofs.Common.{◌≡◌, ◌<◌, ℕ, zero, suc, Bool, true, false, List, [], ◌∷◌, ◌++◌, map, length, Option, Some, None, IfSome, IfOk, slice_get, if◌then◌else◌, refl, sym, ap, subst, append_assoc}
use Rattle.std.specs.Option.{option_or}
use Rattle.std.proofs.lemmas.List.{length-map, map-append}
use Rattle.imkl_model.specs.ClassModel.{Model, feature_number, enumeration_number, literal_number}
use Rattle.imkl_model.specs.WellFormed.{IsClassModel}
use Rattle.imkl_model.proofs.ForAbove.{features_have_names, enumerations_have_names, literals_have_names}
use Rattle.ocl_kinds.specs.declared.kind.ScalarKind.TheVariants as element
use Rattle.ocl_kinds.specs.declared.kind.Kind.{Kind}
use Rattle.ocl_kinds.specs.declared.kind.Kind.TheVariants.{Scalar, Collection}
use Rattle.ocl_kinds.specs.Kinds.{IsKindOf}
use Rattle.ocl_kinds.proofs.ForAbove.{features_have_kinds}
use Rattle.ocl_text.specs.declared.tree.Keyword as word
use Rattle.ocl_text.specs.declared.tree.Keyword.TheVariants as k
use Rattle.ocl_types.specs.declared.fault.TypeFlaw.TheVariants.{UnknownName}
use Rattle.ocl_types.specs.Faults.{type_fault_at}
use Rattle.ocl_core.specs.Core as tree
use Rattle.ocl_core.specs.Core.{CoreTree}
use Rattle.ocl_types.specs.TypedTrees.{TypedTree, typed}
use Rattle.ocl_types.specs.Scope.{Binder, Named, Implicit, Hidden, ScopeVariable, VariableScope, inside, outermost, has_binder_name, by_binder, feature_on, feature_of, by_feature, innermost, bare_name}
use Rattle.ocl_types.specs.Elaboration.{keyword_value, name_value, literal_value}
use Rattle.ocl_core.specs.Typing.{IsTyped}
use Rattle.ocl_types.proofs.TypedSteps.{chained, there, itself}

-- the kinds of a scope's variables
abbrev pub kinds_of : VariableScope → List Kind
kinds_of s = map (λ v. v.kind) s

-- those of a scope with one more variable
pub kinds_inside : (s : VariableScope) (v : ScopeVariable) → kinds_of (inside s v) ≡ kinds_of s ++ v.kind ∷ []
kinds_inside s v = map-append (λ (w : ScopeVariable). w.kind) s (v ∷ [])

-- there are as many kinds as variables
pub as_many_kinds : (s : VariableScope) → length s ≡ length (kinds_of s)
as_many_kinds s = sym (length-map s (λ (w : ScopeVariable). w.kind))

-- ---- variables by their numbers

-- the same with more after them
pub get_before : {A : Type 0} (xs ys : List A) (n : ℕ) (x : A) → slice_get xs n ≡ Some x → slice_get (xs ++ ys) n ≡ Some x
get_before [] ys n x h = absurd (let none : None ≡ Some x = h in cc)
get_before (y ∷ xs) ys zero x h = h
get_before (y ∷ xs) ys (suc n) x h = get_before xs ys n x h

-- the next one
pub get_next : {A : Type 0} (xs ys : List A) (x : A) → slice_get (xs ++ x ∷ ys) (length xs) ≡ Some x
get_next [] ys x = refl
get_next (y ∷ xs) ys x = get_next xs ys x

length_next : {A : Type 0} (xs : List A) (x : A) → length (xs ++ x ∷ []) ≡ suc (length xs)
length_next [] x = refl
length_next (y ∷ xs) x = ap suc (length_next xs x)

module _ (m : Model) where
  -- a tree is typed, and its kind is of the class model
  abbrev pub Sound : List Kind → TypedTree → Type 0
  Sound g x = IsTyped m g x.core x.kind × IsKindOf m x.kind

  -- the kinds of the variables are of the class model
  abbrev pub Known : VariableScope → Type 0
  Known [] = Unit {0}
  Known (v ∷ vs) = IsKindOf m v.kind × Known vs

  -- a scope in a rule of a context class
  abbrev pub Scoped : ℕ → VariableScope → Type 0
  Scoped context s = Known s × (slice_get (kinds_of s) 0 ≡ Some (Scalar (element.Class context)))

  known_with : (s : VariableScope) (v : ScopeVariable) → Known s → IsKindOf m v.kind → Known (inside s v)
  known_with [] v h k = (k, tt)
  known_with (w ∷ ws) v h k = (h.0, known_with ws v h.1 k)

  -- with one more variable it is a scope again
  pub scoped_inside : (context : ℕ) (s : VariableScope) (v : ScopeVariable) → Scoped context s → IsKindOf m v.kind → Scoped context (inside s v)
  scoped_inside context s v h k =
      (known_with s v h.0 k, rw (kinds_inside s v) (get_before (kinds_of s) (v.kind ∷ []) 0 (Scalar (element.Class context)) h.1))

  -- the scope that a rule begins with
  pub scoped_outermost : (context : ℕ) → context < length m.classes → Scoped context (outermost context)
  scoped_outermost context lt = ((lt, tt), refl)

  -- ---- bare names

  -- these variables have the numbers from n on
  abbrev Sees : List Kind → ℕ → VariableScope → Type 0
  Sees g n [] = Unit {0}
  Sees g n (v ∷ vs) = (slice_get g n ≡ Some v.kind) × IsKindOf m v.kind × Sees g (suc n) vs

  sees_after : (outer : List Kind) (s : VariableScope) → Known s → Sees (outer ++ kinds_of s) (length outer) s
  sees_after outer [] h = tt
  sees_after outer (v ∷ vs) h =
      let g = outer ++ v.kind ∷ kinds_of vs in
      let more : (outer ++ v.kind ∷ []) ++ kinds_of vs ≡ g = simp append_assoc refl in
      let one : length (outer ++ v.kind ∷ []) ≡ suc (length outer) = length_next outer v.kind in
      let P : List Kind → Type 0 = λ l. Sees l (suc (length outer)) vs in
      let Q : ℕ → Type 0 = λ n. Sees ((outer ++ v.kind ∷ []) ++ kinds_of vs) n vs in
      (get_next outer (kinds_of vs) v.kind, h.0, subst P more (subst Q one (sees_after (outer ++ v.kind ∷ []) vs h.1)))

  either_there : (P : TypedTree → Type 0) (x y : Option TypedTree) → IfSome x P → IfSome y P → IfSome (option_or x y) P
  either_there P (Some t) y h k = h
  either_there P None y h k = k

  innermost_sound : (find : ℕ → ScopeVariable → Option TypedTree) (g : List Kind) (n : ℕ) (s : VariableScope) → ((i : ℕ) (v : ScopeVariable) → slice_get g i ≡ Some v.kind → IsKindOf m v.kind → IfSome (find i v) (Sound g)) → Sees g n s → IfSome (innermost find n s) (Sound g)
  innermost_sound find g n [] each h = tt
  innermost_sound find g n (v ∷ vs) each h =
      either_there (Sound g) (innermost find (suc n) vs) (find n v) (innermost_sound find g (suc n) vs each h.2) (each n v h.0 h.1)

  binder_by : (b : Bool) (g : List Kind) (n : ℕ) (v : ScopeVariable) → slice_get g n ≡ Some v.kind → IsKindOf m v.kind → IfSome (if b then Some (typed (tree.Variable n) v.kind) else None) (Sound g)
  binder_by true g n v h k = (h, k)
  binder_by false g n v h k = tt

  module _ (well : IsClassModel m) where
    -- ---- features

    feature_by : (g : List Kind) (source : CoreTree) (class : ℕ) (name : List ℕ) (o : Option ℕ) → IsTyped m g source (Scalar (element.Class class)) → IfSome o (λ f. feature_number m class name ≡ Some f) → IfSome (feature_on m source o) (Sound g)
    feature_by g source class name None p h = tt
    feature_by g source class name (Some f) p h =
        let is = (features_have_names m well name class f).0 h in
        ((is.0, (Scalar (element.Class class), p, is.1, refl)), features_have_kinds m well f is.0)

    -- a feature of an object
    pub feature_sound : (g : List Kind) (source : CoreTree) (kind : Kind) (name : List ℕ) → IsTyped m g source kind → IfSome (feature_of m source kind name) (Sound g)
    feature_sound g source (Scalar (element.Class class)) name p = feature_by g source class name (feature_number m class name) p (itself (feature_number m class name))
    feature_sound g source (Scalar element.Void) name p = tt
    feature_sound g source (Scalar element.Boolean) name p = tt
    feature_sound g source (Scalar element.Integer) name p = tt
    feature_sound g source (Scalar element.String) name p = tt
    feature_sound g source (Scalar (element.Enumeration e)) name p = tt
    feature_sound g source (Scalar element.AnyObject) name p = tt
    feature_sound g source (Collection c e) name p = tt

    implicit_by : (g : List Kind) (name : List ℕ) (n : ℕ) (binder : Binder) (kind : Kind) → slice_get g n ≡ Some kind → IfSome (by_feature m name n binder kind) (Sound g)
    implicit_by g name n (Named own) kind h = tt
    implicit_by g name n Implicit kind h = feature_sound g (tree.Variable n) kind name h
    implicit_by g name n Hidden kind h = tt

    -- ---- names

    -- a bare name
    pub name_sound : (s : VariableScope) (name : List ℕ) (offset : ℕ) → Known s → IfOk (name_value m s name offset) (Sound (kinds_of s))
    unfolding name_value
    name_sound s name offset h =
        let g = kinds_of s in
        let find : ℕ → ScopeVariable → Option TypedTree = λ n v. by_feature m name n v.binder v.kind in
        there (Sound g) (bare_name m s name) (type_fault_at UnknownName offset)
        (either_there (Sound g) (innermost (by_binder name) 0 s) (innermost find 0 s)
        (innermost_sound (by_binder name) g 0 s (λ n v i k. binder_by (has_binder_name v.binder name) g n v i k) (sees_after [] s h))
        (innermost_sound find g 0 s (λ n v i k. implicit_by g name n v.binder v.kind i) (sees_after [] s h)))

    -- a literal of an enumeration
    pub literal_sound : (g : List Kind) (enumeration literal : List ℕ) (offset : ℕ) → IfOk (literal_value m enumeration literal offset) (Sound g)
    unfolding literal_value
    literal_sound g enumeration literal offset =
        chained (λ e. enumeration_number m enumeration ≡ Some e) (Sound g) _ _ (there (λ e. enumeration_number m enumeration ≡ Some e) (enumeration_number m enumeration) (type_fault_at UnknownName offset) (itself (enumeration_number m enumeration))) (λ e is.
        chained (λ l. literal_number m e literal ≡ Some l) (Sound g) _ _ (there (λ l. literal_number m e literal ≡ Some l) (literal_number m e literal) (type_fault_at UnknownName offset) (itself (literal_number m e literal))) (λ l at.
        let known = (enumerations_have_names m well enumeration e).0 is in
        (((known.0, ((literals_have_names m well e known.0 literal l).0 at).0), refl), known.0)))

  -- a word, in a scope whose first variable is an object of the context class
  pub keyword_sound : (context : ℕ) (g : List Kind) (keyword : word.Keyword) → context < length m.classes → slice_get g 0 ≡ Some (Scalar (element.Class context)) → Sound g (keyword_value context keyword)
  unfolding keyword_value
  keyword_sound context g k.True lt h = ((tt, refl), tt)
  keyword_sound context g k.False lt h = ((tt, refl), tt)
  keyword_sound context g k.Null lt h = ((tt, refl), tt)
  keyword_sound context g k.Invalid lt h = ((tt, refl), tt)
  keyword_sound context g k.SelfObject lt h = (h, lt)
