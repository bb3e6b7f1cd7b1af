-- What an expression is elaborated to, or its first fault: children before their node, the source before the arguments,
-- left before right. Whatever the text leaves out is written out: implicit sources, the shorthand on collections, two
-- variables, conversions to a collection.
use Rattle.std.specs.Prelude.{ℕ, ◌==◌, ◌&&◌, ◌||◌, Bool, true, false, List, [], ◌∷◌, length, Option, Some, None, option_map, Result, Ok, Err, codes, bytes_eq, if◌then◌else◌}
use Rattle.std.specs.Option.{option_or}
use Rattle.imkl_model.specs.ClassModel.{Model, class_number, enumeration_number, literal_number}
use Rattle.ocl_base.specs.declared.collection_kind.CollectionKind.{CollectionKind}
use Rattle.ocl_base.specs.declared.collection_kind.CollectionKind.TheVariants as collection
use Rattle.ocl_base.specs.Steps.{◌>>=◌, check, found}
use Rattle.ocl_kinds.specs.declared.kind.ScalarKind.{ScalarKind}
use Rattle.ocl_kinds.specs.declared.kind.ScalarKind.TheVariants as element
use Rattle.ocl_kinds.specs.declared.kind.Kind.{Kind}
use Rattle.ocl_kinds.specs.declared.kind.Kind.TheVariants.{Scalar, Collection}
use Rattle.ocl_kinds.specs.Kinds.{is_same_collection, fits, elements_kind, collected_kind, wider_kind, comparable, common_kind}
use Rattle.ocl_text.specs.declared.tree.BinaryOperator.{BinaryOperator}
use Rattle.ocl_text.specs.declared.tree.PrefixOperator.{PrefixOperator}
use Rattle.ocl_text.specs.declared.tree.PrefixOperator.TheVariants as prefix
use Rattle.ocl_text.specs.declared.tree.IteratorKind.{IteratorKind}
use Rattle.ocl_text.specs.declared.tree.IteratorKind.TheVariants as i
use Rattle.ocl_text.specs.declared.tree.Keyword as word
use Rattle.ocl_text.specs.declared.tree.Keyword.TheVariants as k
use Rattle.ocl_text.specs.declared.tree.Navigation.{Navigation}
use Rattle.ocl_text.specs.declared.tree.Navigation.TheVariants.{Dot, Arrow}
use Rattle.ocl_text.specs.Tree as t
use Rattle.ocl_text.specs.Tree.{TypeTree, VariableTree, Variables, SurfaceTree, Trees, Rule, offset_of, type_offset}
use Rattle.ocl_types.specs.declared.fault.TypeFlaw.TheVariants.{UnknownName, WrongType, NoCommonType, NestedCollection, NotBoolean, UnknownOperation, WrongArgumentCount}
use Rattle.ocl_core.specs.declared.operator.BasicType.TheVariants as type
use Rattle.ocl_core.specs.declared.operator.PlainOperator.TheVariants as plain
use Rattle.ocl_core.specs.declared.operator.ClassOperator.{ClassOperator}
use Rattle.ocl_core.specs.declared.operator.ClassOperator.TheVariants as class
use Rattle.ocl_core.specs.declared.operator.ElementOperator.{ElementOperator}
use Rattle.ocl_core.specs.declared.operator.ElementOperator.TheVariants as of
use Rattle.ocl_core.specs.declared.operator.Operator.{Operator}
use Rattle.ocl_core.specs.declared.operator.Operator.TheVariants.{Plain, OfClass, OfElements, Equal}
use Rattle.ocl_core.specs.declared.core_tree.Iteration.TheVariants as iteration
use Rattle.ocl_types.specs.declared.table.Binary.{Binary}
use Rattle.ocl_types.specs.declared.table.Binary.TheVariants.{Numbers, Truths, Equality}
use Rattle.ocl_types.specs.declared.table.Turn.{Turn}
use Rattle.ocl_types.specs.declared.table.Turn.TheVariants.{Asks, Keeps, Gathers, Compares}
use Rattle.ocl_types.specs.Faults.{TypeFaultAt, type_fault_at}
use Rattle.ocl_core.specs.Core as tree
use Rattle.ocl_core.specs.Core.{CoreTree, CoreTrees, CheckedRule, cores_of}
use Rattle.ocl_types.specs.TypedTrees.{TypedTree, TypedTrees, typed, typed_trees}
use Rattle.ocl_types.specs.Operators.{Effect, Plainly, OnElements, operations, class_operator, row_for, element_parameters, accepts, binary}
use Rattle.ocl_core.specs.OperatorKinds.{basic, truth_kind, class_result, element_result}
use Rattle.ocl_types.specs.Scope.{VariableScope, ScopeVariable, Named, Implicit, Hidden, scope_variable, inside, outermost, feature_of, bare_name}

abbrev pub Elaborated : Type 0
Elaborated = Result TypedTree TypeFaultAt

-- a node that has to give a truth value, else the fault stands at it
abbrev pub asks_truth : Model → Kind → ℕ → Result (Unit {0}) TypeFaultAt
asks_truth m kind offset = check (fits m kind truth_kind) (type_fault_at NotBoolean offset)

-- ---- types as they are written

abbrev pub collection_named : List ℕ → Option CollectionKind
collection_named name =
    if bytes_eq name (codes "Set") then Some collection.Set
    else (if bytes_eq name (codes "OrderedSet") then Some collection.OrderedSet
    else (if bytes_eq name (codes "Bag") then Some collection.Bag
    else (if bytes_eq name (codes "Sequence") then Some collection.Sequence else None)))

abbrev pub basic_named : List ℕ → Option ScalarKind
basic_named name =
    if bytes_eq name (codes "Boolean") then Some element.Boolean
    else (if bytes_eq name (codes "Integer") then Some element.Integer
    else (if bytes_eq name (codes "String") then Some element.String else None))

-- a type that is no collection: a basic type, an enumeration or a class
abbrev pub scalar_named : Model → List ℕ → Option ScalarKind
scalar_named m name =
    option_or (basic_named name) (option_or (option_map element.Enumeration (enumeration_number m name))
    (option_map element.Class (class_number m name)))

abbrev pub known_scalar : Model → List ℕ → ℕ → Result ScalarKind TypeFaultAt
known_scalar m name offset = found (scalar_named m name) (type_fault_at UnknownName offset)

abbrev pub no_element : Option CollectionKind → ℕ → Result ScalarKind TypeFaultAt
no_element None offset = Err (type_fault_at UnknownName offset)
no_element (Some c) offset = Err (type_fault_at NestedCollection offset)

-- the type of a collection's elements, in its parentheses
abbrev pub inner_type : Model → TypeTree → Result ScalarKind TypeFaultAt
inner_type m (t.Named name offset) = known_scalar m name offset
inner_type m (t.Collection name inner offset) = no_element (collection_named name) offset

unfoldable pub declared_kind : Model → TypeTree → Result Kind TypeFaultAt
declared_kind m (t.Named name offset) = known_scalar m name offset >>= λ e. Ok (Scalar e)
declared_kind m (t.Collection name inner offset) = do
  c ← found (collection_named name) (type_fault_at UnknownName offset)
  e ← inner_type m inner
  Ok (Collection c e)

-- ---- null where a collection is wanted, and single values where one is

-- null becomes the empty collection
abbrev pub is_empty_for : Kind → Kind → Bool
is_empty_for (Collection c e) (Scalar element.Void) = true
is_empty_for wanted given = false

abbrev pub stands_for : Model → Kind → Kind → Bool
stands_for m wanted given = is_empty_for wanted given || fits m given wanted

abbrev pub as_wanted_by : Kind → Kind → CoreTree → CoreTree
as_wanted_by (Collection c e) (Scalar element.Void) core = tree.AsCollection c e core
as_wanted_by wanted given core = core

-- a value where one of this kind is wanted
abbrev pub as_wanted : Kind → TypedTree → CoreTree
as_wanted wanted x = as_wanted_by wanted x.kind x.core

-- what an arrow is applied to: a collection, with the kinds of it and of its elements
pub record Gathered : Type 0 where
  pub core : CoreTree
  pub collection : CollectionKind
  pub element : ScalarKind

abbrev pub gathered : CoreTree → CollectionKind → ScalarKind → Gathered
gathered core collection element = record { core = core; collection = collection; element = element }

-- a single value is a set of itself
abbrev pub gathered_by : CoreTree → Kind → Gathered
gathered_by core (Scalar e) = gathered (tree.AsCollection collection.Set e core) collection.Set e
gathered_by core (Collection c e) = gathered core c e

abbrev pub source_of_arrow : TypedTree → Gathered
source_of_arrow x = gathered_by x.core x.kind

-- ---- names

-- constants: all words but self, which is variable 0
unfoldable pub keyword_value : ℕ → word.Keyword → TypedTree
keyword_value context k.True = typed (tree.Value (tree.Boolean true)) truth_kind
keyword_value context k.False = typed (tree.Value (tree.Boolean false)) truth_kind
keyword_value context k.Null = typed (tree.Value tree.Null) (Scalar element.Void)
keyword_value context k.Invalid = typed (tree.Value tree.Invalid) (Scalar element.Void)
keyword_value context k.SelfObject = typed (tree.Variable 0) (Scalar (element.Class context))

unfoldable pub name_value : Model → VariableScope → List ℕ → ℕ → Elaborated
name_value m s name offset = found (bare_name m s name) (type_fault_at UnknownName offset)

unfoldable pub literal_value : Model → List ℕ → List ℕ → ℕ → Elaborated
literal_value m enumeration literal offset = do
  e ← found (enumeration_number m enumeration) (type_fault_at UnknownName offset)
  l ← found (literal_number m e literal) (type_fault_at UnknownName offset)
  Ok (typed (tree.Value (tree.Literal e l)) (Scalar (element.Enumeration e)))

-- ---- operators

abbrev pub plainly : Operator → CoreTree → List CoreTree → CoreTree
plainly operator first others = tree.Operation operator first (cores_of others)

abbrev pub negation_of : CoreTree → CoreTree
negation_of core = plainly (Plain plain.Not) core []

abbrev pub negation_if : Bool → CoreTree → CoreTree
negation_if true core = negation_of core
negation_if false core = core

-- the operand of `not` is a truth value, and that of `-` a number
unfoldable pub prefix_of : Model → PrefixOperator → TypedTree → ℕ → ℕ → Elaborated
prefix_of m prefix.Not x operand offset = do
  _ ← asks_truth m x.kind operand
  Ok (typed (negation_of x.core) truth_kind)
prefix_of m prefix.Negate x operand offset = do
  _ ← check (fits m x.kind (basic type.Integer)) (type_fault_at WrongType offset)
  Ok (typed (plainly (Plain plain.Negate) x.core []) (basic type.Integer))

abbrev pub left_by : Model → Binary → Kind → ℕ → Result (Unit {0}) TypeFaultAt
left_by m (Numbers operator result) kind offset = Ok tt
left_by m (Truths operator) kind offset = asks_truth m kind offset
left_by m (Equality is_negated) kind offset = Ok tt

-- what is asked of a left operand before the right one is looked at
unfoldable pub left_of : Model → BinaryOperator → Kind → ℕ → Result (Unit {0}) TypeFaultAt
left_of m operator kind offset = left_by m (binary operator) kind offset

abbrev pub equal_scalars : Option ScalarKind → Operator
equal_scalars None = Plain plain.BothNull
equal_scalars (Some e) = Equal (Scalar e)

abbrev pub equal_collections : Bool → CollectionKind → Option ScalarKind → Option Operator
equal_collections true c common = option_map (λ e. Equal (Collection c e)) common
equal_collections false c common = Some (Plain plain.BothNull)

-- values are compared as values of what their kinds have in common; collections of one kind must have something in
-- common
abbrev pub equality_operator : Kind → Kind → Option Operator
equality_operator (Scalar d) (Scalar e) = Some (equal_scalars (common_kind d e))
equality_operator (Scalar d) (Collection c e) = Some (Plain plain.BothNull)
equality_operator (Collection c d) (Scalar e) = Some (Plain plain.BothNull)
equality_operator (Collection b d) (Collection c e) = equal_collections (is_same_collection b c) b (common_kind d e)

abbrev pub binary_by : Model → Binary → TypedTree → TypedTree → ℕ → ℕ → Elaborated
binary_by m (Numbers operator result) x y right offset = do
  _ ← check (fits m x.kind (basic type.Integer) && fits m y.kind (basic type.Integer)) (type_fault_at WrongType offset)
  Ok (typed (plainly (Plain operator) x.core (y.core ∷ [])) (basic result))
binary_by m (Truths operator) x y right offset = do
  _ ← asks_truth m y.kind right
  Ok (typed (plainly (Plain operator) x.core (y.core ∷ [])) truth_kind)
binary_by m (Equality is_negated) x y right offset = do
  operator ← found (equality_operator x.kind y.kind) (type_fault_at WrongType offset)
  Ok (typed (negation_if is_negated (plainly operator x.core (y.core ∷ []))) truth_kind)

unfoldable pub binary_of : Model → BinaryOperator → TypedTree → TypedTree → ℕ → ℕ → Elaborated
binary_of m operator x y right offset = binary_by m (binary operator) x y right offset

-- ---- the shorthand on collections

abbrev pub collect_by : CoreTree → CollectionKind → CoreTree → Kind → TypedTree
collect_by source c body (Scalar e) = typed (tree.Iterate iteration.Collect source body) (Collection (collected_kind c) e)
collect_by source c body (Collection d e) =
    typed (tree.Iterate iteration.CollectFlat source body) (Collection (collected_kind c) e)

-- the values of a body for each element; a body that is a collection is flattened
abbrev pub collect_of : CoreTree → CollectionKind → TypedTree → TypedTree
collect_of source c body = collect_by source c body.core body.kind

abbrev pub property_by : Model → ℕ → CoreTree → Kind → List ℕ → ℕ → Elaborated
property_by m n core (Scalar e) name offset =
    found (feature_of m core (Scalar e) name) (type_fault_at UnknownName offset)
property_by m n core (Collection c e) name offset = do
  body ← found (feature_of m (tree.Variable n) (Scalar e) name) (type_fault_at UnknownName offset)
  Ok (collect_of core c body)

-- a feature of an object, or of each element of a collection, which is variable n
unfoldable pub property_of : Model → ℕ → TypedTree → List ℕ → ℕ → Elaborated
property_of m n x name offset = property_by m n x.core x.kind name offset

-- ---- calls

-- what a call is applied to: a class, for `C.allInstances`, or a value
pub data Receiver : Type 0 where
  OfInstances : (class : ℕ) → Receiver
  OfValue : (value : TypedTree) → Receiver

-- the name that an expression is, with its offset
abbrev pub as_name : SurfaceTree → Option (List ℕ × ℕ)
as_name (t.Name name offset) = Some (name, offset)
as_name tree = None

-- the name of a class right before `.allInstances`, with its offset
abbrev pub class_before : SurfaceTree → Navigation → List ℕ → Option (List ℕ × ℕ)
class_before source Dot name = if bytes_eq name (codes "allInstances") then as_name source else None
class_before source Arrow name = None

abbrev pub receiver_of : Model → Option (List ℕ × ℕ) → Elaborated → Result Receiver TypeFaultAt
receiver_of m None source = source >>= λ x. Ok (OfValue x)
receiver_of m (Some class) source =
    found (class_number m class.0) (type_fault_at UnknownName class.1) >>= λ c. Ok (OfInstances c)

-- the arguments of a call: classes that are named, for the three operations that ask for one, or values
pub data Arguments : Type 0 where
  Classes : (operator : ClassOperator) (classes : List ℕ) → Arguments
  Values : (values : TypedTrees) → Arguments

abbrev pub seen_after_dot : VariableScope → Kind → VariableScope
seen_after_dot s (Scalar e) = s
seen_after_dot s (Collection c e) = inside s (scope_variable Hidden (Scalar e))

-- Arguments see the names outside. Those after a dot on a collection stand in a body, which has one more variable.
abbrev pub seen_by_arguments : Receiver → Navigation → VariableScope → VariableScope
seen_by_arguments (OfInstances c) navigation s = s
seen_by_arguments (OfValue x) Arrow s = s
seen_by_arguments (OfValue x) Dot s = seen_after_dot s x.kind

abbrev pub class_named : Model → ℕ → Option (List ℕ × ℕ) → Result ℕ TypeFaultAt
class_named m offset None = Err (type_fault_at UnknownName offset)
class_named m offset (Some name) = found (class_number m name.0) (type_fault_at UnknownName name.1)

-- an argument that is the bare name of a class
abbrev pub class_of_argument : Model → SurfaceTree → Result ℕ TypeFaultAt
class_of_argument m argument = class_named m (offset_of argument) (as_name argument)

-- each argument is the bare name of a class
unfoldable pub classes_of_arguments : Model → Trees → Result (List ℕ) TypeFaultAt
classes_of_arguments m t.none = Ok []
classes_of_arguments m (t.some first rest) = do
  c ← class_of_argument m first
  cs ← classes_of_arguments m rest
  Ok (c ∷ cs)

abbrev pub arguments_of : Option ClassOperator → Result (List ℕ) TypeFaultAt → Result TypedTrees TypeFaultAt → Result Arguments TypeFaultAt
arguments_of (Some operator) classes values = classes >>= λ cs. Ok (Classes operator cs)
arguments_of None classes values = values >>= λ xs. Ok (Values xs)

abbrev pub argument_count : Arguments → ℕ
argument_count (Classes operator classes) = length classes
argument_count (Values values) = length values.kinds

abbrev pub is_object : Kind → Bool
is_object (Scalar (element.Class c)) = true
is_object kind = false

abbrev pub one_class : List ℕ → Option ℕ
one_class (c ∷ []) = Some c
one_class cs = None

-- an object asked for one class
unfoldable pub class_call : TypedTree → ClassOperator → List ℕ → ℕ → Elaborated
class_call x operator classes offset = do
  _ ← check (is_object x.kind) (type_fault_at UnknownOperation offset)
  c ← found (one_class classes) (type_fault_at WrongArgumentCount offset)
  Ok (typed (plainly (OfClass operator c) x.core []) (class_result operator c))

abbrev pub scalar_argument : List Kind → Option ScalarKind
scalar_argument (Scalar d ∷ []) = Some d
scalar_argument kinds = None

abbrev pub collection_argument : List Kind → Option ScalarKind
collection_argument (Collection c d ∷ []) = Some d
collection_argument kinds = None

abbrev pub common_with : ScalarKind → Option ScalarKind → Option ScalarKind
common_with e None = None
common_with e (Some d) = common_kind e d

-- the kind that the elements are compared as, where the arguments fit the operation
abbrev pub comparison_kind : ElementOperator → ScalarKind → List Kind → Option ScalarKind
comparison_kind of.Includes e kinds = common_with e (scalar_argument kinds)
comparison_kind of.Occurrences e kinds = common_with e (scalar_argument kinds)
comparison_kind of.IncludesAll e kinds = common_with e (collection_argument kinds)
comparison_kind of.ExcludesAll e kinds = common_with e (collection_argument kinds)
comparison_kind of.AsSet e kinds = Some (comparable e)

abbrev pub parameter_count : Effect → ℕ
parameter_count (Plainly operator parameters result) = length parameters
parameter_count (OnElements operator) = element_parameters operator

abbrev pub effect_on : Model → Effect → TypedTree → TypedTrees → ℕ → Elaborated
effect_on m (Plainly operator parameters result) x xs offset = do
  _ ← check (accepts m parameters xs.kinds) (type_fault_at WrongType offset)
  Ok (typed (plainly (Plain operator) x.core xs.cores) (basic result))
effect_on m (OnElements operator) x xs offset = do
  e ← found (comparison_kind operator (elements_kind x.kind) xs.kinds) (type_fault_at WrongType offset)
  Ok (typed (plainly (OfElements operator e) x.core xs.cores) (element_result operator (elements_kind x.kind)))

abbrev pub negated_row_if : Bool → TypedTree → TypedTree
negated_row_if is_negated x = typed (negation_if is_negated x.core) x.kind

-- an operation on values: the row of its name for such a source
unfoldable pub value_call : Model → TypedTree → List ℕ → TypedTrees → ℕ → Elaborated
value_call m x name xs offset = do
  row ← found (row_for m name x.kind operations) (type_fault_at UnknownOperation offset)
  _ ← check (length xs.kinds == parameter_count row.effect) (type_fault_at WrongArgumentCount offset)
  y ← effect_on m row.effect x xs offset
  Ok (negated_row_if row.is_negated y)

abbrev pub call_on : Model → TypedTree → List ℕ → Arguments → ℕ → Elaborated
call_on m x name (Classes operator classes) offset = class_call x operator classes offset
call_on m x name (Values xs) offset = value_call m x name xs offset

abbrev pub dot_call : Model → ℕ → CoreTree → Kind → List ℕ → Arguments → ℕ → Elaborated
dot_call m n core (Scalar e) name xs offset = call_on m (typed core (Scalar e)) name xs offset
dot_call m n core (Collection c e) name xs offset = do
  body ← call_on m (typed (tree.Variable n) (Scalar e)) name xs offset
  Ok (collect_of core c body)

abbrev pub arrow_call : Model → Gathered → List ℕ → Arguments → ℕ → Elaborated
arrow_call m g name xs offset = call_on m (typed g.core (Collection g.collection g.element)) name xs offset

abbrev pub instances_call : ℕ → Arguments → ℕ → Elaborated
instances_call class xs offset = do
  _ ← check (argument_count xs == 0) (type_fault_at WrongArgumentCount offset)
  Ok (typed (tree.AllInstances class) (Collection collection.Set (element.Class class)))

-- a call, where the next variable is n
unfoldable pub call_of : Model → ℕ → Receiver → Navigation → List ℕ → Arguments → ℕ → Elaborated
call_of m n (OfInstances class) navigation name xs offset = instances_call class xs offset
call_of m n (OfValue x) Dot name xs offset = dot_call m n x.core x.kind name xs offset
call_of m n (OfValue x) Arrow name xs offset = arrow_call m (source_of_arrow x) name xs offset

-- ---- iterations

abbrev pub declared_element : Model → ScalarKind → Option TypeTree → Result Kind TypeFaultAt
declared_element m e None = Ok (Scalar e)
declared_element m e (Some written) = do
  kind ← declared_kind m written
  _ ← check (fits m (Scalar e) kind) (type_fault_at WrongType (type_offset written))
  Ok kind

-- a variable that stands for each element, with the type that is written
abbrev pub element_variable : Model → ScalarKind → VariableTree → Result ScopeVariable TypeFaultAt
element_variable m e v = declared_element m e v.1 >>= λ kind. Ok (scope_variable (Named v.0) kind)

-- The variables that a body sees. Two of them run over one source, which is a variable that can't be named.
unfoldable pub inner_scope : Model → VariableScope → Gathered → Variables → Result VariableScope TypeFaultAt
inner_scope m s g t.Unnamed = Ok (inside s (scope_variable Implicit (Scalar g.element)))
inner_scope m s g (t.Single first) = element_variable m g.element first >>= λ v. Ok (inside s v)
inner_scope m s g (t.Pair first second) = do
  v ← element_variable m g.element first
  w ← element_variable m g.element second
  Ok (inside (inside (inside s (scope_variable Hidden (Collection g.collection g.element))) v) w)

-- the kinds of iterations: what they ask of a body, and what they give
abbrev pub turn_of : IteratorKind → Turn
turn_of i.ForAll = Asks iteration.ForAll
turn_of i.Exists = Asks iteration.Exists
turn_of i.One = Asks iteration.One
turn_of i.Select = Keeps iteration.Select
turn_of i.Reject = Keeps iteration.Reject
turn_of i.Collect = Gathers
turn_of i.IsUnique = Compares

abbrev pub unique_by : Gathered → CoreTree → Kind → ℕ → Elaborated
unique_by g body (Scalar e) offset = Ok (typed (tree.Iterate (iteration.IsUnique (comparable e)) g.core body) truth_kind)
unique_by g body (Collection c e) offset = Err (type_fault_at NestedCollection offset)

-- an iteration over this source with this body, which stands at the offset
abbrev pub iterate_by : Model → Turn → Gathered → TypedTree → ℕ → Elaborated
iterate_by m (Asks iteration) g y offset = do
  _ ← asks_truth m y.kind offset
  Ok (typed (tree.Iterate iteration g.core y.core) truth_kind)
iterate_by m (Keeps iteration) g y offset = do
  _ ← asks_truth m y.kind offset
  Ok (typed (tree.Iterate iteration g.core y.core) (Collection g.collection g.element))
iterate_by m Gathers g y offset = Ok (collect_of g.core g.collection y)
iterate_by m Compares g y offset = unique_by g y.core y.kind offset

-- the source as a variable, and one iteration over it in the other
abbrev pub iterate_twice : Model → ℕ → Turn → Gathered → TypedTree → ℕ → Elaborated
iterate_twice m n turn g y offset = do
  inner ← iterate_by m turn (gathered (tree.Variable n) g.collection g.element) y offset
  outer ← iterate_by m turn (gathered (tree.Variable n) g.collection g.element) inner offset
  Ok (typed (tree.Let g.core outer.core) outer.kind)

unfoldable pub iterate_of : Model → ℕ → IteratorKind → Gathered → Variables → TypedTree → ℕ → Elaborated
iterate_of m n iterator g t.Unnamed y offset = iterate_by m (turn_of iterator) g y offset
iterate_of m n iterator g (t.Single v) y offset = iterate_by m (turn_of iterator) g y offset
iterate_of m n iterator g (t.Pair v w) y offset = iterate_twice m n (turn_of iterator) g y offset

-- ---- let and if

-- a value where a type is declared
unfoldable pub bound_value : Model → Kind → TypedTree → ℕ → Result CoreTree TypeFaultAt
bound_value m kind x offset = do
  _ ← check (stands_for m kind x.kind) (type_fault_at WrongType offset)
  Ok (as_wanted kind x)

-- the kind of two branches; null beside a collection is the empty one
abbrev pub branch_kind : Model → Kind → Kind → Option Kind
branch_kind m j k =
    if is_empty_for j k then Some j else (if is_empty_for k j then Some k else wider_kind m j k)

unfoldable pub if_of : Model → CoreTree → TypedTree → TypedTree → ℕ → Elaborated
if_of m condition y z offset = do
  kind ← found (branch_kind m y.kind z.kind) (type_fault_at NoCommonType offset)
  Ok (typed (tree.If kind condition (as_wanted kind y) (as_wanted kind z)) kind)

-- ---- folds

-- an accumulator is a truth value, a number, a literal of an enumeration or an object
abbrev pub accumulator_scalar : Kind → Option ScalarKind
accumulator_scalar (Scalar element.Boolean) = Some element.Boolean
accumulator_scalar (Scalar element.Integer) = Some element.Integer
accumulator_scalar (Scalar (element.Enumeration e)) = Some (element.Enumeration e)
accumulator_scalar (Scalar (element.Class c)) = Some (element.Class c)
accumulator_scalar kind = None

-- the kind of an accumulator whose type is written so
unfoldable pub accumulator_kind : Model → TypeTree → Result ScalarKind TypeFaultAt
accumulator_kind m declared = do
  kind ← declared_kind m declared
  found (accumulator_scalar kind) (type_fault_at WrongType (type_offset declared))

-- what the body of a fold sees: the element, then the accumulator, both by their names
abbrev pub fold_scope : VariableScope → ScopeVariable → List ℕ → ScalarKind → VariableScope
fold_scope s v accumulator k = inside (inside s v) (scope_variable (Named accumulator) (Scalar k))

-- a fold over this source from this start value, with this body, which stands at the offset
unfoldable pub fold_of : Model → ScalarKind → Gathered → CoreTree → TypedTree → ℕ → Elaborated
fold_of m k g start y offset = do
  _ ← check (fits m y.kind (Scalar k)) (type_fault_at WrongType offset)
  Ok (typed (tree.Fold k g.core start y.core) (Scalar k))

-- ---- the walk

module _ (m : Model) (context : ℕ) where
  unfoldable mutual
    pub elaborate : VariableScope → SurfaceTree → Elaborated
    elaborate s (t.Number value offset) = Ok (typed (tree.Value (tree.Integer value)) (basic type.Integer))
    elaborate s (t.String value offset) = Ok (typed (tree.Value (tree.Text value)) (basic type.String))
    elaborate s (t.Keyword keyword offset) = Ok (keyword_value context keyword)
    elaborate s (t.Name name offset) = name_value m s name offset
    elaborate s (t.EnumerationLiteral enumeration literal offset) = literal_value m enumeration literal offset
    elaborate s (t.Prefix operator operand offset) = do
      x ← elaborate s operand
      prefix_of m operator x (offset_of operand) offset
    elaborate s (t.Binary operator left right offset) = do
      x ← elaborate s left
      _ ← left_of m operator x.kind (offset_of left)
      y ← elaborate s right
      binary_of m operator x y (offset_of right) offset
    elaborate s (t.Property source name offset) = do
      x ← elaborate s source
      property_of m (length s) x name offset
    elaborate s (t.Call source navigation name arguments offset) = do
      x ← receiver_of m (class_before source navigation name) (elaborate s source)
      xs ← arguments_of (class_operator name) (classes_of_arguments m arguments) (elaborates (seen_by_arguments x navigation s) arguments)
      call_of m (length s) x navigation name xs offset
    elaborate s (t.Iterate source iterator variables body offset) = do
      x ← elaborate s source
      inner ← inner_scope m s (source_of_arrow x) variables
      y ← elaborate inner body
      iterate_of m (length s) iterator (source_of_arrow x) variables y (offset_of body)
    elaborate s (t.Fold source variable accumulator declared start body offset) = do
      x ← elaborate s source
      v ← element_variable m (source_of_arrow x).element variable
      k ← accumulator_kind m declared
      y ← elaborate s start
      c ← bound_value m (Scalar k) y (type_offset declared)
      z ← elaborate (fold_scope s v accumulator k) body
      fold_of m k (source_of_arrow x) c z (offset_of body)
    elaborate s (t.Let name declared value body offset) = do
      kind ← declared_kind m declared
      x ← elaborate s value
      v ← bound_value m kind x (type_offset declared)
      y ← elaborate (inside s (scope_variable (Named name) kind)) body
      Ok (typed (tree.Let v y.core) y.kind)
    elaborate s (t.If condition then_branch else_branch offset) = do
      x ← elaborate s condition
      _ ← asks_truth m x.kind (offset_of condition)
      y ← elaborate s then_branch
      z ← elaborate s else_branch
      if_of m x.core y z offset

    pub elaborates : VariableScope → Trees → Result TypedTrees TypeFaultAt
    elaborates s t.none = Ok (typed_trees [] [])
    elaborates s (t.some first rest) = do
      x ← elaborate s first
      xs ← elaborates s rest
      Ok (typed_trees (x.core ∷ xs.cores) (x.kind ∷ xs.kinds))

-- a rule: its context class first, then its expression, which gives a truth value
unfoldable pub elaborate_rule : Model → Rule → Result CheckedRule TypeFaultAt
elaborate_rule m r = do
  c ← found (class_number m r.context) (type_fault_at UnknownName r.context_offset)
  x ← elaborate m c (outermost c) r.tree
  _ ← asks_truth m x.kind (offset_of r.tree)
  Ok (record { name = r.name; context = c; tree = x.core })
