-- When a core tree is typed in a class model: by its own kinds, whatever it came from. The variables that it sees have
-- the kinds of a list, the one of number n at index n.
use Rattle.std.specs.Prelude.{◌≡◌, ◌<◌, ◌&&◌, Bool, true, false, List, [], ◌∷◌, ◌++◌, length, Some, slice_get}
use Rattle.imkl_model.specs.ClassModel.{Model, enumeration_at, feature_at}
use Rattle.imkl_model.specs.WellFormed.{IsFeature}
use Rattle.ocl_base.specs.declared.collection_kind.CollectionKind.{CollectionKind}
use Rattle.ocl_base.specs.declared.collection_kind.CollectionKind.TheVariants as collection
use Rattle.ocl_kinds.specs.declared.kind.ScalarKind.{ScalarKind}
use Rattle.ocl_kinds.specs.declared.kind.ScalarKind.TheVariants as element
use Rattle.ocl_kinds.specs.declared.kind.Kind.{Kind}
use Rattle.ocl_kinds.specs.declared.kind.Kind.TheVariants.{Scalar, Collection}
use Rattle.ocl_kinds.specs.Kinds.{IsScalarKindOf, IsKindOf, scalar_fits, fits, feature_kind, collected_kind}
use Rattle.ocl_core.specs.declared.operator.BasicType.{BasicType}
use Rattle.ocl_core.specs.declared.operator.BasicType.TheVariants as type
use Rattle.ocl_core.specs.declared.operator.PlainOperator.{PlainOperator}
use Rattle.ocl_core.specs.declared.operator.PlainOperator.TheVariants as plain
use Rattle.ocl_core.specs.declared.operator.ElementOperator.{ElementOperator}
use Rattle.ocl_core.specs.declared.operator.ElementOperator.TheVariants as of
use Rattle.ocl_core.specs.declared.operator.Operator.{Operator}
use Rattle.ocl_core.specs.declared.operator.Operator.TheVariants.{Plain, OfClass, OfElements, Equal}
use Rattle.ocl_core.specs.declared.core_tree.Iteration.{Iteration}
use Rattle.ocl_core.specs.declared.core_tree.Iteration.TheVariants as iteration
use Rattle.ocl_core.specs.Core as tree
use Rattle.ocl_core.specs.Core.{Constant, CoreTree, CoreTrees, CheckedRule}
use Rattle.ocl_core.specs.OperatorKinds.{basic, basic_kind}
use Rattle.ocl_core.specs.OperatorKinds.{truth_kind, class_result, element_result}

-- ---- constants

abbrev pub constant_kind : Constant → Kind
constant_kind (tree.Boolean value) = basic type.Boolean
constant_kind (tree.Integer value) = basic type.Integer
constant_kind (tree.Text value) = basic type.String
constant_kind (tree.Literal enumeration literal) = Scalar (element.Enumeration enumeration)
constant_kind tree.Null = Scalar element.Void
constant_kind tree.Invalid = Scalar element.Void

-- a literal is one of the class model
abbrev pub IsConstantOf : Model → Constant → Type 0
IsConstantOf m (tree.Literal e l) = (e < length m.enumerations) × (l < length (enumeration_at m e).literals)
IsConstantOf m value = Unit {0}

-- ---- operations

-- what an operand must be
pub data Operand : Type 0 where
  Of : (type : BasicType) → Operand
  AnySingle : Operand
  Many : Operand
  ManyOf : (type : BasicType) → Operand
  Anything : Operand

abbrev pub is_operand : Model → Operand → Kind → Bool
is_operand m (Of t) kind = fits m kind (basic t)
is_operand m AnySingle (Scalar e) = true
is_operand m AnySingle (Collection c e) = false
is_operand m Many (Scalar e) = false
is_operand m Many (Collection c e) = true
is_operand m (ManyOf t) (Scalar e) = false
is_operand m (ManyOf t) (Collection c e) = scalar_fits m e (basic_kind t)
is_operand m Anything kind = true

abbrev pub are_operands : Model → List Operand → List Kind → Bool
are_operands m [] [] = true
are_operands m [] (k ∷ ks) = false
are_operands m (o ∷ os) [] = false
are_operands m (o ∷ os) (k ∷ ks) = is_operand m o k && are_operands m os ks

abbrev pub plain_operands : PlainOperator → List Operand
plain_operands plain.Add = Of type.Integer ∷ Of type.Integer ∷ []
plain_operands plain.Subtract = Of type.Integer ∷ Of type.Integer ∷ []
plain_operands plain.Multiply = Of type.Integer ∷ Of type.Integer ∷ []
plain_operands plain.Divide = Of type.Integer ∷ Of type.Integer ∷ []
plain_operands plain.Modulo = Of type.Integer ∷ Of type.Integer ∷ []
plain_operands plain.Minimum = Of type.Integer ∷ Of type.Integer ∷ []
plain_operands plain.Maximum = Of type.Integer ∷ Of type.Integer ∷ []
plain_operands plain.Negate = Of type.Integer ∷ []
plain_operands plain.Absolute = Of type.Integer ∷ []
plain_operands plain.Less = Of type.Integer ∷ Of type.Integer ∷ []
plain_operands plain.LessEqual = Of type.Integer ∷ Of type.Integer ∷ []
plain_operands plain.Greater = Of type.Integer ∷ Of type.Integer ∷ []
plain_operands plain.GreaterEqual = Of type.Integer ∷ Of type.Integer ∷ []
plain_operands plain.CharacterCount = Of type.String ∷ []
plain_operands plain.Substring = Of type.String ∷ Of type.Integer ∷ Of type.Integer ∷ []
plain_operands plain.Not = Of type.Boolean ∷ []
plain_operands plain.And = Of type.Boolean ∷ Of type.Boolean ∷ []
plain_operands plain.Or = Of type.Boolean ∷ Of type.Boolean ∷ []
plain_operands plain.Xor = Of type.Boolean ∷ Of type.Boolean ∷ []
plain_operands plain.Implies = Of type.Boolean ∷ Of type.Boolean ∷ []
plain_operands plain.IsUndefined = AnySingle ∷ []
plain_operands plain.IsInvalid = AnySingle ∷ []
plain_operands plain.BothNull = Anything ∷ Anything ∷ []
plain_operands plain.ElementCount = Many ∷ []
plain_operands plain.IsEmpty = Many ∷ []
plain_operands plain.Sum = ManyOf type.Integer ∷ []

abbrev pub plain_result : PlainOperator → BasicType
plain_result plain.Add = type.Integer
plain_result plain.Subtract = type.Integer
plain_result plain.Multiply = type.Integer
plain_result plain.Divide = type.Integer
plain_result plain.Modulo = type.Integer
plain_result plain.Minimum = type.Integer
plain_result plain.Maximum = type.Integer
plain_result plain.Negate = type.Integer
plain_result plain.Absolute = type.Integer
plain_result plain.CharacterCount = type.Integer
plain_result plain.Substring = type.String
plain_result plain.ElementCount = type.Integer
plain_result plain.Sum = type.Integer
plain_result operator = type.Boolean

-- the operands after the first of an operator on elements: each element fits this kind
abbrev pub AreOthers : Model → ElementOperator → ScalarKind → List Kind → Type 0
AreOthers m of.Includes k (Scalar d ∷ []) = scalar_fits m d k ≡ true
AreOthers m of.Occurrences k (Scalar d ∷ []) = scalar_fits m d k ≡ true
AreOthers m of.IncludesAll k (Collection c d ∷ []) = scalar_fits m d k ≡ true
AreOthers m of.ExcludesAll k (Collection c d ∷ []) = scalar_fits m d k ≡ true
AreOthers m of.AsSet k [] = Unit {0}
AreOthers m operator k kinds = ⊥

-- an operator on a first operand and others of these kinds gives this kind
abbrev pub IsOperation : Model → Operator → Kind → List Kind → Kind → Type 0
IsOperation m (Plain operator) x xs gives =
    (are_operands m (plain_operands operator) (x ∷ xs) ≡ true) × (gives ≡ basic (plain_result operator))
IsOperation m (OfClass operator class) x xs gives =
    (class < length m.classes) × (fits m x (Scalar element.AnyObject) ≡ true) × (xs ≡ []) × (gives ≡ class_result operator class)
IsOperation m (OfElements operator k) x xs gives =
    IsScalarKindOf m k × ((c : CollectionKind) × (e : ScalarKind)
    × (x ≡ Collection c e) × (scalar_fits m e k ≡ true) × AreOthers m operator k xs × (gives ≡ element_result operator e))
IsOperation m (Equal k) x xs gives =
    IsKindOf m k × (fits m x k ≡ true) × ((y : Kind) × (xs ≡ y ∷ []) × (fits m y k ≡ true)) × (gives ≡ truth_kind)

-- ---- iterations

-- an iteration over a collection with a body of this kind gives this kind
abbrev pub IsTypedIteration : Model → Iteration → CollectionKind → ScalarKind → Kind → Kind → Type 0
IsTypedIteration m iteration.ForAll c e body gives = (fits m body truth_kind ≡ true) × (gives ≡ truth_kind)
IsTypedIteration m iteration.Exists c e body gives = (fits m body truth_kind ≡ true) × (gives ≡ truth_kind)
IsTypedIteration m iteration.One c e body gives = (fits m body truth_kind ≡ true) × (gives ≡ truth_kind)
IsTypedIteration m iteration.Select c e body gives = (fits m body truth_kind ≡ true) × (gives ≡ Collection c e)
IsTypedIteration m iteration.Reject c e body gives = (fits m body truth_kind ≡ true) × (gives ≡ Collection c e)
IsTypedIteration m iteration.Collect c e body gives =
    (d : ScalarKind) × (body ≡ Scalar d) × (gives ≡ Collection (collected_kind c) d)
IsTypedIteration m iteration.CollectFlat c e body gives =
    (b : CollectionKind) × (d : ScalarKind) × (body ≡ Collection b d) × (gives ≡ Collection (collected_kind c) d)
IsTypedIteration m (iteration.IsUnique k) c e body gives =
    IsScalarKindOf m k × ((d : ScalarKind) × (body ≡ Scalar d) × (scalar_fits m d k ≡ true) × (gives ≡ truth_kind))

-- ---- trees

module _ (m : Model) where
  abbrev mutual
    pub IsTyped : List Kind → CoreTree → Kind → Type 0
    IsTyped g (tree.Value value) gives = IsConstantOf m value × (gives ≡ constant_kind value)
    IsTyped g (tree.Variable n) gives = slice_get g n ≡ Some gives
    IsTyped g (tree.AllInstances class) gives = (class < length m.classes) × (gives ≡ Collection collection.Set (element.Class class))
    IsTyped g (tree.Feature source f) gives =
        IsFeature m f × ((x : Kind) × IsTyped g source x
        × (fits m x (Scalar (element.Class (feature_at m f).owner)) ≡ true) × (gives ≡ feature_kind (feature_at m f)))
    IsTyped g (tree.Operation operator first others) gives =
        (x : Kind) × (xs : List Kind) × IsTyped g first x × AreTyped g others xs × IsOperation m operator x xs gives
    IsTyped g (tree.AsCollection c e source) gives =
        IsScalarKindOf m e × ((x : Kind) × IsTyped g source x × (fits m x (Scalar e) ≡ true) × (gives ≡ Collection c e))
    -- the variable of a body may be of a wider kind of the class model than the elements
    IsTyped g (tree.Iterate iteration source body) gives =
        (c : CollectionKind) × (e : ScalarKind) × (wider : Kind) × (y : Kind) × IsTyped g source (Collection c e)
        × (fits m (Scalar e) wider ≡ true) × IsTyped (g ++ wider ∷ []) body y × IsTypedIteration m iteration c e y gives × IsKindOf m wider
    -- a fold's accumulator is the innermost variable of its body
    IsTyped g (tree.Fold k source start body) gives =
        IsScalarKindOf m k × ((c : CollectionKind) × (e : ScalarKind) × (wider : Kind) × (x : Kind) × (y : Kind) × IsTyped g source (Collection c e)
        × IsTyped g start x × (fits m x (Scalar k) ≡ true) × (fits m (Scalar e) wider ≡ true)
        × IsTyped ((g ++ wider ∷ []) ++ Scalar k ∷ []) body y × (fits m y (Scalar k) ≡ true) × IsKindOf m wider × (gives ≡ Scalar k))
    -- and that of a `let` than its value
    IsTyped g (tree.Let value body) gives =
        (x : Kind) × (wider : Kind) × IsTyped g value x × (fits m x wider ≡ true) × IsTyped (g ++ wider ∷ []) body gives × IsKindOf m wider
    IsTyped g (tree.If kind condition then_branch else_branch) gives =
        IsKindOf m kind × ((x : Kind) × (y : Kind) × (z : Kind)
        × IsTyped g condition x × (fits m x truth_kind ≡ true)
        × IsTyped g then_branch y × (fits m y kind ≡ true)
        × IsTyped g else_branch z × (fits m z kind ≡ true) × (gives ≡ kind))

    pub AreTyped : List Kind → CoreTrees → List Kind → Type 0
    AreTyped g tree.no_core kinds = kinds ≡ []
    AreTyped g (tree.one_core first rest) kinds =
        (x : Kind) × (xs : List Kind) × IsTyped g first x × AreTyped g rest xs × (kinds ≡ x ∷ xs)

-- a rule: its tree, which sees an object of the context class as variable 0, gives a truth value
abbrev pub IsTypedRule : Model → CheckedRule → Type 0
IsTypedRule m r =
    (r.context < length m.classes) × ((kind : Kind)
    × IsTyped m (Scalar (element.Class r.context) ∷ []) r.tree kind × (fits m kind truth_kind ≡ true))
