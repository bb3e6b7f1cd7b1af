-- Operations are typed: each row of the table and each operator asks what its operator does.
use Rattle.std.proofs.Common.{◌≡◌, ◌<◌, ◌&&◌, ◌==◌, ℕ, Bool, true, false, List, [], ◌∷◌, length, Option, Some, None, IfSome, IfOk, bytes_eq, if◌then◌else◌, refl, sym, ap, subst, arith}
use Rattle.std.specs.List.{AllByRecursion}
use Rattle.std.proofs.lemmas.Bool.{and_from, and_parts, eqb-true}
use Rattle.imkl_model.specs.ClassModel.{Model}
use Rattle.ocl_base.specs.declared.collection_kind.CollectionKind.{CollectionKind}
use Rattle.ocl_base.specs.Steps.{check, found}
use Rattle.ocl_kinds.specs.declared.kind.ScalarKind.{ScalarKind}
use Rattle.ocl_kinds.specs.declared.kind.ScalarKind.TheVariants as element
use Rattle.ocl_kinds.specs.declared.kind.Kind.{Kind}
use Rattle.ocl_kinds.specs.declared.kind.Kind.TheVariants.{Scalar, Collection}
use Rattle.ocl_kinds.specs.Kinds.{IsScalarKindOf, IsKindOf, is_same_collection, scalar_fits, fits, comparable, common_comparable, common_kind}
use Rattle.ocl_kinds.proofs.ForAbove.{same_collection_is, fits_comparable, both_fit_common}
use Rattle.ocl_text.specs.declared.tree.BinaryOperator.{BinaryOperator}
use Rattle.ocl_text.specs.declared.tree.BinaryOperator.TheVariants as b
use Rattle.ocl_text.specs.declared.tree.PrefixOperator.{PrefixOperator}
use Rattle.ocl_text.specs.declared.tree.PrefixOperator.TheVariants as prefix
use Rattle.ocl_types.specs.declared.fault.TypeFlaw.TheVariants.{WrongType, UnknownOperation, WrongArgumentCount}
use Rattle.ocl_core.specs.declared.operator.BasicType.{BasicType}
use Rattle.ocl_core.specs.declared.operator.BasicType.TheVariants as type
use Rattle.ocl_core.specs.declared.operator.PlainOperator.{PlainOperator}
use Rattle.ocl_core.specs.declared.operator.ClassOperator.{ClassOperator}
use Rattle.ocl_core.specs.declared.operator.ClassOperator.TheVariants as class
use Rattle.ocl_core.specs.declared.operator.ElementOperator.{ElementOperator}
use Rattle.ocl_core.specs.declared.operator.ElementOperator.TheVariants as of
use Rattle.ocl_core.specs.declared.operator.Operator.{Operator}
use Rattle.ocl_core.specs.declared.operator.Operator.TheVariants.{Plain, OfElements}
use Rattle.ocl_types.specs.declared.table.Source.{Source}
use Rattle.ocl_types.specs.declared.table.Source.TheVariants.{OfType, Single, AnyCollection, CollectionOf}
use Rattle.ocl_types.specs.declared.table.Binary.{Binary}
use Rattle.ocl_types.specs.declared.table.Binary.TheVariants.{Numbers, Truths, Equality}
use Rattle.ocl_types.specs.Faults.{type_fault_at}
use Rattle.ocl_core.specs.Core.{CoreTree, cores_of}
use Rattle.ocl_types.specs.TypedTrees.{TypedTree, TypedTrees, typed}
use Rattle.ocl_types.specs.Operators.{Effect, Plainly, OnElements, OperationRow, operations, is_source, is_row_for, row_for, element_parameters, accepts, binary}
use Rattle.ocl_core.specs.OperatorKinds.{basic, basic_kind}
use Rattle.ocl_types.specs.Elaboration.{Arguments, Classes, Values, asks_truth, plainly, negation_of, negation_if, prefix_of, left_by, left_of, equal_scalars, equal_collections, equality_operator, binary_by, binary_of, is_object, one_class, class_call, scalar_argument, collection_argument, common_with, comparison_kind, parameter_count, effect_on, negated_row_if, value_call, call_on}
use Rattle.ocl_core.specs.OperatorKinds.{truth_kind, class_result, element_result}
use Rattle.ocl_core.specs.Typing.{Operand, Of, AnySingle, Many, ManyOf, is_operand, are_operands, plain_operands, plain_result, AreOthers, IsOperation, IsTyped, AreTyped}
use Rattle.ocl_types.proofs.TypedSteps.{chained, checked, there, itself}
use Rattle.ocl_types.proofs.TypedScopes.{Sound}

-- ---- the tables

abbrev operand_of : Source → Operand
operand_of (OfType t) = Of t
operand_of Single = AnySingle
operand_of AnyCollection = Many
operand_of (CollectionOf t) = ManyOf t

abbrev operands : List BasicType → List Operand
operands [] = []
operands (t ∷ ts) = Of t ∷ operands ts

-- what an operation does is what its operator asks and gives
abbrev IsEffect : Source → Effect → Bool → Type 0
IsEffect source (Plainly operator parameters result) is_negated =
    (plain_operands operator ≡ operand_of source ∷ operands parameters) × (plain_result operator ≡ result) × (is_negated ≡ true → result ≡ type.Boolean)
IsEffect source (OnElements operator) is_negated = (source ≡ AnyCollection) × (is_negated ≡ true → operator ≡ of.Includes)

abbrev IsRow : OperationRow → Type 0
IsRow row = IsEffect row.source row.effect row.is_negated

not_negated : {P : Type 0} → false ≡ true → P
not_negated e = absurd (let bad : false ≡ true = e in cc)

rows_are : AllByRecursion IsRow operations
rows_are = (
  (refl, refl, not_negated),
  (
    (refl, refl, not_negated),
    (
      (refl, refl, not_negated),
      (
        (refl, refl, not_negated),
        (
          (refl, refl, not_negated),
          (
            (refl, refl, not_negated),
            (
              (refl, refl, not_negated),
              (
                (refl, refl, not_negated),
                (
                  (refl, refl, not_negated),
                  (
                    (refl, refl, not_negated),
                    (
                      (refl, refl, not_negated),
                      (
                        (refl, refl, λ e. refl),
                        (
                          (refl, not_negated),
                          (
                            (refl, λ e. refl),
                            (
                              (refl, not_negated),
                              (
                                (refl, not_negated),
                                (
                                  (refl, not_negated),
                                  (
                                    (refl, refl, not_negated),
                                    ((refl, not_negated), tt),
                                  ),
                                ),
                              ),
                            ),
                          ),
                        ),
                      ),
                    ),
                  ),
                ),
              ),
            ),
          ),
        ),
      ),
    ),
  ),
)

-- between two operands
abbrev IsBinary : Binary → Type 0
IsBinary (Numbers operator result) = (plain_operands operator ≡ Of type.Integer ∷ Of type.Integer ∷ []) × (plain_result operator ≡ result)
IsBinary (Truths operator) = (plain_operands operator ≡ Of type.Boolean ∷ Of type.Boolean ∷ []) × (plain_result operator ≡ type.Boolean)
IsBinary (Equality is_negated) = Unit {0}

binary_is : (operator : BinaryOperator) → IsBinary (binary operator)
binary_is b.Multiply = (refl, refl)
binary_is b.Divide = (refl, refl)
binary_is b.Modulo = (refl, refl)
binary_is b.Add = (refl, refl)
binary_is b.Subtract = (refl, refl)
binary_is b.Less = (refl, refl)
binary_is b.LessEqual = (refl, refl)
binary_is b.Greater = (refl, refl)
binary_is b.GreaterEqual = (refl, refl)
binary_is b.Equal = tt
binary_is b.NotEqual = tt
binary_is b.And = (refl, refl)
binary_is b.Or = (refl, refl)
binary_is b.Xor = (refl, refl)
binary_is b.Implies = (refl, refl)

module _ (m : Model) where
  basic_known : (t : BasicType) → IsKindOf m (basic t)
  basic_known type.Boolean = tt
  basic_known type.Integer = tt
  basic_known type.String = tt

  -- ---- operators with operands of basic types

  one_fits : (x : Kind) (t : BasicType) → fits m x (basic t) ≡ true → are_operands m (Of t ∷ []) (x ∷ []) ≡ true
  one_fits x t h = and_from (fits m x (basic t)) true h refl

  both_fit : (x y : Kind) (t : BasicType) → fits m x (basic t) ≡ true → fits m y (basic t) ≡ true → are_operands m (Of t ∷ Of t ∷ []) (x ∷ y ∷ []) ≡ true
  both_fit x y t h k = and_from (fits m x (basic t)) (fits m y (basic t) && true) h (one_fits y t k)

  -- an operator by what it asks and gives
  plain_is : (operator : PlainOperator) (os : List Operand) (result : BasicType) (x : Kind) (xs : List Kind) → plain_operands operator ≡ os → plain_result operator ≡ result → are_operands m os (x ∷ xs) ≡ true → IsOperation m (Plain operator) x xs (basic result)
  plain_is operator os result x xs asks gives h = (rw asks h, ap basic (sym gives))

  -- the negation of a truth value
  pub negation_sound : (g : List Kind) (core : CoreTree) (kind : Kind) → IsTyped m g core kind → fits m kind truth_kind ≡ true → Sound m g (typed (negation_of core) truth_kind)
  negation_sound g core kind p h = ((kind, [], p, refl, (one_fits kind type.Boolean h, refl)), tt)

  negated_sound : (b : Bool) (g : List Kind) (core : CoreTree) → IsTyped m g core truth_kind → Sound m g (typed (negation_if b core) truth_kind)
  negated_sound true g core p = negation_sound g core truth_kind p refl
  negated_sound false g core p = (p, tt)

  -- an operator before its operand
  pub prefix_sound : (g : List Kind) (operator : PrefixOperator) (x : TypedTree) (operand offset : ℕ) → Sound m g x → IfOk (prefix_of m operator x operand offset) (Sound m g)
  unfolding prefix_of
  prefix_sound g prefix.Not x operand offset p =
      chained (λ u. fits m x.kind truth_kind ≡ true) (Sound m g) (asks_truth m x.kind operand) _ (checked (fits m x.kind truth_kind) _) (λ u h. negation_sound g x.core x.kind p.0 h)
  prefix_sound g prefix.Negate x operand offset p =
      chained (λ u. fits m x.kind (basic type.Integer) ≡ true) (Sound m g) (check (fits m x.kind (basic type.Integer)) (type_fault_at WrongType offset)) _ (checked (fits m x.kind (basic type.Integer)) _) (λ u h.
      ((x.kind, [], p.0, refl, (one_fits x.kind type.Integer h, refl)), tt))

  two_typed : (g : List Kind) (y : TypedTree) → Sound m g y → AreTyped m g (cores_of (y.core ∷ [])) (y.kind ∷ [])
  two_typed g y q = (y.kind, [], q.0, refl, refl)

  -- ---- equality

  common_number : (d e : ℕ) (b : Bool) (l : ScalarKind) → (if b then Some (element.Enumeration d) else None) ≡ Some l → l ≡ element.Enumeration d
  common_number d e true l h = cc
  common_number d e false l h = cc

  -- what values are compared as is of the class model
  pub comparable_known : (k : ScalarKind) → IsScalarKindOf m k → IsScalarKindOf m (comparable k)
  comparable_known (element.Class c) h = tt
  comparable_known element.Void h = tt
  comparable_known element.Boolean h = tt
  comparable_known element.Integer h = tt
  comparable_known element.String h = tt
  comparable_known (element.Enumeration e) h = h
  comparable_known element.AnyObject h = tt

  is_known : (k l : ScalarKind) → l ≡ k → IsScalarKindOf m k → IsScalarKindOf m l
  is_known k l e h = rw e h

  common_known_by : (j k l : ScalarKind) → common_comparable j k ≡ Some l → IsScalarKindOf m j → IsScalarKindOf m k → IsScalarKindOf m l
  common_known_by element.Void k l e p q = is_known k l (let same : l ≡ k = cc in same) q
  common_known_by element.Boolean element.Void l e p q = is_known element.Boolean l (let same : l ≡ element.Boolean = cc in same) tt
  common_known_by element.Integer element.Void l e p q = is_known element.Integer l (let same : l ≡ element.Integer = cc in same) tt
  common_known_by element.String element.Void l e p q = is_known element.String l (let same : l ≡ element.String = cc in same) tt
  common_known_by (element.Enumeration d) element.Void l e p q = is_known (element.Enumeration d) l (let same : l ≡ element.Enumeration d = cc in same) p
  common_known_by (element.Class c) element.Void l e p q = is_known (element.Class c) l (let same : l ≡ element.Class c = cc in same) p
  common_known_by element.AnyObject element.Void l e p q = is_known element.AnyObject l (let same : l ≡ element.AnyObject = cc in same) tt
  common_known_by element.Boolean element.Boolean l e p q = is_known element.Boolean l (let same : l ≡ element.Boolean = cc in same) tt
  common_known_by element.Integer element.Integer l e p q = is_known element.Integer l (let same : l ≡ element.Integer = cc in same) tt
  common_known_by element.String element.String l e p q = is_known element.String l (let same : l ≡ element.String = cc in same) tt
  common_known_by (element.Enumeration c) (element.Enumeration d) l e p q = is_known (element.Enumeration c) l (common_number c d (c == d) l e) p
  common_known_by element.AnyObject element.AnyObject l e p q = is_known element.AnyObject l (let same : l ≡ element.AnyObject = cc in same) tt
  common_known_by j k l e p q = cc

  -- the kind that two have in common is of the class model
  pub common_known : (j k l : ScalarKind) → common_kind j k ≡ Some l → IsScalarKindOf m j → IsScalarKindOf m k → IsScalarKindOf m l
  common_known j k l e p q = common_known_by (comparable j) (comparable k) l e (comparable_known j p) (comparable_known k q)

  abbrev Compares : Kind → Kind → Operator → Type 0
  Compares x y operator = IsOperation m operator x (y ∷ []) truth_kind

  scalars_by : (d e : ScalarKind) (o : Option ScalarKind) → IfSome o (λ l. common_kind d e ≡ Some l) → IsScalarKindOf m d → IsScalarKindOf m e → Compares (Scalar d) (Scalar e) (equal_scalars o)
  scalars_by d e None h p q = (refl, refl)
  scalars_by d e (Some l) h p q =
      let w = both_fit_common m d e l h in
      (common_known d e l h p q, w.0, (Scalar e, refl, w.1), refl)

  collections_by : (same : Bool) (c c' : CollectionKind) (d e : ScalarKind) (o : Option ScalarKind) → is_same_collection c c' ≡ same → IfSome o (λ l. common_kind d e ≡ Some l) → IsScalarKindOf m d → IsScalarKindOf m e → IfSome (equal_collections same c o) (Compares (Collection c d) (Collection c' e))
  collections_by false c c' d e o is h p q = (refl, refl)
  collections_by true c c' d e None is h p q = tt
  collections_by true c c' d e (Some l) is h p q =
      let w = both_fit_common m d e l h in
      let same : c ≡ c' = same_collection_is c c' is in (
        common_known d e l h p q,
        and_from (is_same_collection c c) (scalar_fits m d l) (subst (λ (k : CollectionKind). is_same_collection c k ≡ true) (sym same) is) w.0,
        (Collection c' e, refl, and_from (is_same_collection c' c) (scalar_fits m e l) (subst (λ (k : CollectionKind). is_same_collection k c ≡ true) same (subst (λ (k : CollectionKind). is_same_collection c k ≡ true) (sym same) is)) w.1),
        refl,
      )

  equality_sound : (x y : Kind) → IsKindOf m x → IsKindOf m y → IfSome (equality_operator x y) (Compares x y)
  equality_sound (Scalar d) (Scalar e) p q = scalars_by d e (common_kind d e) (itself (common_kind d e)) p q
  equality_sound (Scalar d) (Collection c e) p q = (refl, refl)
  equality_sound (Collection c d) (Scalar e) p q = (refl, refl)
  equality_sound (Collection c d) (Collection c' e) p q = collections_by (is_same_collection c c') c c' d e (common_kind d e) refl (itself (common_kind d e)) p q

  -- ---- operators between two operands

  -- what is known of a left operand, once it was looked at
  abbrev pub IsLeftOf : Binary → Kind → Type 0
  IsLeftOf (Numbers operator result) kind = Unit {0}
  IsLeftOf (Truths operator) kind = fits m kind truth_kind ≡ true
  IsLeftOf (Equality is_negated) kind = Unit {0}

  left_sound_by : (operands : Binary) (kind : Kind) (offset : ℕ) → IfOk (left_by m operands kind offset) (λ u. IsLeftOf operands kind)
  left_sound_by (Numbers operator result) kind offset = tt
  left_sound_by (Truths operator) kind offset = checked (fits m kind truth_kind) _
  left_sound_by (Equality is_negated) kind offset = tt

  -- the left operand is looked at before the right one
  pub left_sound : (operator : BinaryOperator) (kind : Kind) (offset : ℕ) → IfOk (left_of m operator kind offset) (λ u. IsLeftOf (binary operator) kind)
  unfolding left_of
  left_sound operator kind offset = left_sound_by (binary operator) kind offset

  binary_sound_by : (g : List Kind) (operands : Binary) (x y : TypedTree) (right offset : ℕ) → IsBinary operands → IsLeftOf operands x.kind → Sound m g x → Sound m g y → IfOk (binary_by m operands x y right offset) (Sound m g)
  binary_sound_by g (Numbers operator result) x y right offset is l p q =
      let b = fits m x.kind (basic type.Integer) in
      let c = fits m y.kind (basic type.Integer) in
      chained (λ u. (b && c) ≡ true) (Sound m g) (check (b && c) (type_fault_at WrongType offset)) _ (checked (b && c) _) (λ u h.
      let w = and_parts b c h in
      ((x.kind, y.kind ∷ [], p.0, two_typed g y q, plain_is operator (Of type.Integer ∷ Of type.Integer ∷ []) result x.kind (y.kind ∷ []) is.0 is.1 (both_fit x.kind y.kind type.Integer w.0 w.1)), basic_known result))
  binary_sound_by g (Truths operator) x y right offset is l p q =
      chained (λ u. fits m y.kind truth_kind ≡ true) (Sound m g) (asks_truth m y.kind right) _ (checked (fits m y.kind truth_kind) _) (λ u h.
      ((x.kind, y.kind ∷ [], p.0, two_typed g y q, plain_is operator (Of type.Boolean ∷ Of type.Boolean ∷ []) type.Boolean x.kind (y.kind ∷ []) is.0 is.1 (both_fit x.kind y.kind type.Boolean l h)), tt))
  binary_sound_by g (Equality is_negated) x y right offset is l p q =
      chained (Compares x.kind y.kind) (Sound m g) (found (equality_operator x.kind y.kind) (type_fault_at WrongType offset)) _ (there (Compares x.kind y.kind) (equality_operator x.kind y.kind) _ (equality_sound x.kind y.kind p.1 q.1)) (λ operator h.
      negated_sound is_negated g (plainly operator x.core (y.core ∷ [])) (x.kind, y.kind ∷ [], p.0, two_typed g y q, h))

  -- an operator between two operands
  pub binary_sound : (g : List Kind) (operator : BinaryOperator) (x y : TypedTree) (right offset : ℕ) → IsLeftOf (binary operator) x.kind → Sound m g x → Sound m g y → IfOk (binary_of m operator x y right offset) (Sound m g)
  unfolding binary_of
  binary_sound g operator x y right offset l p q = binary_sound_by g (binary operator) x y right offset (binary_is operator) l p q

  -- ---- calls

  -- several values are typed
  abbrev pub AreSound : List Kind → TypedTrees → Type 0
  AreSound g xs = AreTyped m g (cores_of xs.cores) xs.kinds × AllByRecursion (IsKindOf m) xs.kinds

  -- arguments are typed values, or classes of the class model
  abbrev pub HasArguments : List Kind → Arguments → Type 0
  HasArguments g (Classes operator classes) = AllByRecursion (λ c. c < length m.classes) classes
  HasArguments g (Values xs) = AreSound g xs

  one_of : (classes : List ℕ) → AllByRecursion (λ c. c < length m.classes) classes → IfSome (one_class classes) (λ c. c < length m.classes)
  one_of [] h = tt
  one_of (c ∷ []) h = h.0
  one_of (c ∷ d ∷ cs) h = tt

  object_fits : (kind : Kind) → is_object kind ≡ true → fits m kind (Scalar element.AnyObject) ≡ true
  object_fits (Scalar (element.Class c)) h = refl
  object_fits (Scalar element.Void) h = cc
  object_fits (Scalar element.Boolean) h = cc
  object_fits (Scalar element.Integer) h = cc
  object_fits (Scalar element.String) h = cc
  object_fits (Scalar (element.Enumeration e)) h = cc
  object_fits (Scalar element.AnyObject) h = cc
  object_fits (Collection c e) h = cc

  class_known : (operator : ClassOperator) (c : ℕ) → c < length m.classes → IsKindOf m (class_result operator c)
  class_known class.IsKindOf c h = tt
  class_known class.IsTypeOf c h = tt
  class_known class.AsType c h = h

  class_sound : (g : List Kind) (x : TypedTree) (operator : ClassOperator) (classes : List ℕ) (offset : ℕ) → Sound m g x → AllByRecursion (λ c. c < length m.classes) classes → IfOk (class_call x operator classes offset) (Sound m g)
  unfolding class_call
  class_sound g x operator classes offset p ps =
      chained (λ u. is_object x.kind ≡ true) (Sound m g) (check (is_object x.kind) (type_fault_at UnknownOperation offset)) _ (checked (is_object x.kind) _) (λ u h.
      chained (λ c. c < length m.classes) (Sound m g) (found (one_class classes) (type_fault_at WrongArgumentCount offset)) _ (there (λ c. c < length m.classes) (one_class classes) _ (one_of classes ps)) (λ c lt.
      ((x.kind, [], p.0, refl, (lt, object_fits x.kind h, refl, refl)), class_known operator c lt)))

  -- ---- calls on values

  scalar_source : (t : BasicType) (k : ScalarKind) → is_source m (OfType t) (Scalar k) ≡ true → scalar_fits m k (basic_kind t) ≡ true
  scalar_source t element.Void h = refl
  scalar_source t element.Boolean h = h
  scalar_source t element.Integer h = h
  scalar_source t element.String h = h
  scalar_source t (element.Enumeration e) h = h
  scalar_source t (element.Class c) h = h
  scalar_source t element.AnyObject h = h

  source_fits : (source : Source) (kind : Kind) → is_source m source kind ≡ true → is_operand m (operand_of source) kind ≡ true
  source_fits (OfType t) (Scalar k) h = scalar_source t k h
  source_fits (OfType t) (Collection c k) h = cc
  source_fits Single (Scalar k) h = refl
  source_fits Single (Collection c k) h = cc
  source_fits AnyCollection (Scalar k) h = cc
  source_fits AnyCollection (Collection c k) h = refl
  source_fits (CollectionOf t) (Scalar k) h = cc
  source_fits (CollectionOf t) (Collection c k) h = h

  arguments_fit : (parameters : List BasicType) (kinds : List Kind) → accepts m parameters kinds ≡ true → are_operands m (operands parameters) kinds ≡ true
  arguments_fit [] [] h = refl
  arguments_fit [] (k ∷ ks) h = cc
  arguments_fit (t ∷ ts) [] h = cc
  arguments_fit (t ∷ ts) (k ∷ ks) h =
      let w = and_parts (fits m k (basic t)) (accepts m ts ks) h in
      and_from (fits m k (basic t)) (are_operands m (operands ts) ks) w.0 (arguments_fit ts ks w.1)

  abbrev Row : Kind → OperationRow → Type 0
  Row kind row = IsRow row × (is_source m row.source kind ≡ true)

  row_by : (b : Bool) (kind : Kind) (row : OperationRow) (o : Option OperationRow) → (b ≡ true → Row kind row) → IfSome o (Row kind) → IfSome (if b then Some row else o) (Row kind)
  row_by true kind row o h k = h refl
  row_by false kind row o h k = k

  row_is : (name : List ℕ) (kind : Kind) (rows : List OperationRow) → AllByRecursion IsRow rows → IfSome (row_for m name kind rows) (Row kind)
  row_is name kind [] h = tt
  row_is name kind (row ∷ rows) h =
      row_by (is_row_for m name kind row) kind row (row_for m name kind rows)
      (λ e. (h.0, (and_parts (bytes_eq row.name name) (is_source m row.source kind) e).1))
      (row_is name kind rows h.1)

  scalar_there : (kinds : List Kind) → IfSome (scalar_argument kinds) (λ d. kinds ≡ Scalar d ∷ [])
  scalar_there [] = tt
  scalar_there (Scalar d ∷ []) = refl
  scalar_there (Collection c d ∷ []) = tt
  scalar_there (Scalar d ∷ l ∷ ks) = tt
  scalar_there (Collection c d ∷ l ∷ ks) = tt

  collection_there : (kinds : List Kind) → IfSome (collection_argument kinds) (λ d. (c : CollectionKind) × (kinds ≡ Collection c d ∷ []))
  collection_there [] = tt
  collection_there (Scalar d ∷ []) = tt
  collection_there (Collection c d ∷ []) = (c, refl)
  collection_there (Scalar d ∷ l ∷ ks) = tt
  collection_there (Collection c d ∷ l ∷ ks) = tt

  -- an operator on elements that are compared as values of this kind
  abbrev OnKinds : ElementOperator → CollectionKind → ScalarKind → List Kind → ScalarKind → Type 0
  OnKinds operator c e kinds k = IsOperation m (OfElements operator k) (Collection c e) kinds (element_result operator e)

  element_known : (operator : ElementOperator) (e : ScalarKind) → IsScalarKindOf m e → IsKindOf m (element_result operator e)
  element_known of.Includes e h = tt
  element_known of.Occurrences e h = tt
  element_known of.IncludesAll e h = tt
  element_known of.ExcludesAll e h = tt
  element_known of.AsSet e h = h

  no_others : (kinds : List Kind) → (length kinds == 0) ≡ true → kinds ≡ []
  no_others [] h = refl
  no_others (k ∷ ks) h = absurd (let e : length (k ∷ ks) ≡ 0 = eqb-true (length (k ∷ ks)) 0 h in omega (arith, e))

  paired : (e d : ScalarKind) (P : ScalarKind → Type 0) (o : Option ScalarKind) → P d → IfSome o (λ k. common_kind e d ≡ Some k) → IfSome o (λ k. (d : ScalarKind) × P d × (common_kind e d ≡ Some k))
  paired e d P None h is = tt
  paired e d P (Some k) h is = (d, h, is)

  -- the argument with which the elements have a kind in common
  with_argument : (e : ScalarKind) (P : ScalarKind → Type 0) (o : Option ScalarKind) → IfSome o P → IfSome (common_with e o) (λ k. (d : ScalarKind) × P d × (common_kind e d ≡ Some k))
  with_argument e P None h = tt
  with_argument e P (Some d) h = paired e d P (common_kind e d) h (itself (common_kind e d))

  -- its kind is of the class model
  argument_known : (k : Kind) (kinds : List Kind) → kinds ≡ k ∷ [] → AllByRecursion (IsKindOf m) kinds → IsKindOf m k
  argument_known k kinds is h = (rw is at h).0

  mapped : {A : Type 0} (P Q : A → Type 0) (o : Option A) → ((x : A) → P x → Q x) → IfSome o P → IfSome o Q
  mapped P Q None f h = tt
  mapped P Q (Some x) f h = f x h

  one_scalar : (operator : ElementOperator) (c : CollectionKind) (e d k : ScalarKind) (kinds : List Kind) → ((j : ScalarKind) → scalar_fits m d j ≡ true → AreOthers m operator j (Scalar d ∷ [])) → kinds ≡ Scalar d ∷ [] → common_kind e d ≡ Some k → IsScalarKindOf m e → AllByRecursion (IsKindOf m) kinds → OnKinds operator c e kinds k
  one_scalar operator c e d k kinds others is common known ps =
      let w = both_fit_common m e d k common in
      (common_known e d k common known (argument_known (Scalar d) kinds is ps), (c, e, refl, w.0, rw is (others k w.1), refl))

  one_collection : (operator : ElementOperator) (c b : CollectionKind) (e d k : ScalarKind) (kinds : List Kind) → ((j : ScalarKind) → scalar_fits m d j ≡ true → AreOthers m operator j (Collection b d ∷ [])) → kinds ≡ Collection b d ∷ [] → common_kind e d ≡ Some k → IsScalarKindOf m e → AllByRecursion (IsKindOf m) kinds → OnKinds operator c e kinds k
  one_collection operator c b e d k kinds others is common known ps =
      let w = both_fit_common m e d k common in
      (common_known e d k common known (argument_known (Collection b d) kinds is ps), (c, e, refl, w.0, rw is (others k w.1), refl))

  elements_by : (operator : ElementOperator) (c : CollectionKind) (e : ScalarKind) (kinds : List Kind) → (length kinds == element_parameters operator) ≡ true → IsScalarKindOf m e → AllByRecursion (IsKindOf m) kinds → IfSome (comparison_kind operator e kinds) (OnKinds operator c e kinds)
  elements_by of.Includes c e kinds n known ps =
      mapped _ (OnKinds of.Includes c e kinds) (comparison_kind of.Includes e kinds) (λ k w. one_scalar of.Includes c e w.0 k kinds (λ j f. f) w.1 w.2 known ps) (with_argument e (λ d. kinds ≡ Scalar d ∷ []) (scalar_argument kinds) (scalar_there kinds))
  elements_by of.Occurrences c e kinds n known ps =
      mapped _ (OnKinds of.Occurrences c e kinds) (comparison_kind of.Occurrences e kinds) (λ k w. one_scalar of.Occurrences c e w.0 k kinds (λ j f. f) w.1 w.2 known ps) (with_argument e (λ d. kinds ≡ Scalar d ∷ []) (scalar_argument kinds) (scalar_there kinds))
  elements_by of.IncludesAll c e kinds n known ps =
      mapped _ (OnKinds of.IncludesAll c e kinds) (comparison_kind of.IncludesAll e kinds) (λ k w. one_collection of.IncludesAll c w.1.0 e w.0 k kinds (λ j f. f) w.1.1 w.2 known ps) (with_argument e (λ d. (b : CollectionKind) × (kinds ≡ Collection b d ∷ [])) (collection_argument kinds) (collection_there kinds))
  elements_by of.ExcludesAll c e kinds n known ps =
      mapped _ (OnKinds of.ExcludesAll c e kinds) (comparison_kind of.ExcludesAll e kinds) (λ k w. one_collection of.ExcludesAll c w.1.0 e w.0 k kinds (λ j f. f) w.1.1 w.2 known ps) (with_argument e (λ d. (b : CollectionKind) × (kinds ≡ Collection b d ∷ [])) (collection_argument kinds) (collection_there kinds))
  elements_by of.AsSet c e kinds n known ps =
      (comparable_known e known, (c, e, refl, fits_comparable m e, rw (no_others kinds n) tt, refl))

  -- what an operation gives, before its negation
  abbrev IsGiven : List Kind → Bool → TypedTree → Type 0
  IsGiven g is_negated y = Sound m g y × (is_negated ≡ true → y.kind ≡ truth_kind)

  includes_gives : (operator : ElementOperator) (e : ScalarKind) → operator ≡ of.Includes → element_result operator e ≡ truth_kind
  includes_gives operator e h = rw h refl

  elements_sound : (g : List Kind) (source : Source) (operator : ElementOperator) (is_negated : Bool) (core : CoreTree) (kind : Kind) (xs : TypedTrees) (offset : ℕ) → IsEffect source (OnElements operator) is_negated → is_source m source kind ≡ true → (length xs.kinds == element_parameters operator) ≡ true → Sound m g (typed core kind) → AreSound g xs → IfOk (effect_on m (OnElements operator) (typed core kind) xs offset) (IsGiven g is_negated)
  elements_sound g source operator is_negated core (Scalar e) xs offset is fit n p ps = absurd (let bad : false ≡ true = (rw is.0 at fit) in cc)
  elements_sound g source operator is_negated core (Collection c e) xs offset is fit n p ps =
      chained (OnKinds operator c e xs.kinds) (IsGiven g is_negated) (found (comparison_kind operator e xs.kinds) (type_fault_at WrongType offset)) _ (there (OnKinds operator c e xs.kinds) (comparison_kind operator e xs.kinds) _ (elements_by operator c e xs.kinds n p.1 ps.1)) (λ k h.
      (((Collection c e, xs.kinds, p.0, ps.0, h), element_known operator e p.1), λ w. includes_gives operator e (is.1 w)))

  effect_sound : (g : List Kind) (source : Source) (effect : Effect) (is_negated : Bool) (x : TypedTree) (xs : TypedTrees) (offset : ℕ) → IsEffect source effect is_negated → is_source m source x.kind ≡ true → (length xs.kinds == parameter_count effect) ≡ true → Sound m g x → AreSound g xs → IfOk (effect_on m effect x xs offset) (IsGiven g is_negated)
  effect_sound g source (Plainly operator parameters result) is_negated x xs offset is fit n p ps =
      chained (λ u. accepts m parameters xs.kinds ≡ true) (IsGiven g is_negated) (check (accepts m parameters xs.kinds) (type_fault_at WrongType offset)) _ (checked (accepts m parameters xs.kinds) _) (λ u h.
      let all = and_from (is_operand m (operand_of source) x.kind) (are_operands m (operands parameters) xs.kinds) (source_fits source x.kind fit) (arguments_fit parameters xs.kinds h) in
      (((x.kind, xs.kinds, p.0, ps.0, plain_is operator (operand_of source ∷ operands parameters) result x.kind xs.kinds is.0 is.1 all), basic_known result), λ e. ap basic (is.2 e)))
  effect_sound g source (OnElements operator) is_negated x xs offset is fit n p ps = elements_sound g source operator is_negated x.core x.kind xs offset is fit n p ps

  row_given : (is_negated : Bool) (g : List Kind) (y : TypedTree) → IsGiven g is_negated y → Sound m g (negated_row_if is_negated y)
  row_given true g y h = let w = negation_sound g y.core y.kind h.0.0 (rw (h.1 refl) refl) in (rw (h.1 refl) w.0, h.0.1)
  row_given false g y h = h.0

  value_sound : (g : List Kind) (x : TypedTree) (name : List ℕ) (xs : TypedTrees) (offset : ℕ) → Sound m g x → AreSound g xs → IfOk (value_call m x name xs offset) (Sound m g)
  unfolding value_call
  value_sound g x name xs offset p ps =
      chained (Row x.kind) (Sound m g) (found (row_for m name x.kind operations) (type_fault_at UnknownOperation offset)) _ (there (Row x.kind) (row_for m name x.kind operations) _ (row_is name x.kind operations rows_are)) (λ row h.
      chained (λ u. (length xs.kinds == parameter_count row.effect) ≡ true) (Sound m g) (check (length xs.kinds == parameter_count row.effect) (type_fault_at WrongArgumentCount offset)) _ (checked (length xs.kinds == parameter_count row.effect) _) (λ u n.
      chained (IsGiven g row.is_negated) (Sound m g) (effect_on m row.effect x xs offset) _ (effect_sound g row.source row.effect row.is_negated x xs offset h.0 h.1 n p ps) (λ y w.
      row_given row.is_negated g y w)))

  -- an operation on a value
  pub call_sound : (g : List Kind) (x : TypedTree) (name : List ℕ) (xs : Arguments) (offset : ℕ) → Sound m g x → HasArguments g xs → IfOk (call_on m x name xs offset) (Sound m g)
  call_sound g x name (Classes operator classes) offset p ps = class_sound g x operator classes offset p ps
  call_sound g x name (Values xs) offset p ps = value_sound g x name xs offset p ps
