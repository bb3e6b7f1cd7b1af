-- Core trees as OCL of the profile: variables have types, and parentheses stand where the grammar wants them. A text has with
-- it how tightly it binds and its kind, by which what stands around it is printed.
use Rattle.std.specs.Prelude.{ℕ, suc, nat_lt, List, [], ◌∷◌, ◌++◌, length, codes, slice_index_or}
use Rattle.std.specs.List.{flat_map}
use Rattle.std.specs.Str.{chars}
use Rattle.ocl_base.specs.declared.collection_kind.CollectionKind.{CollectionKind}
use Rattle.ocl_base.specs.declared.collection_kind.CollectionKind.TheVariants as collection
use Rattle.imkl_model.specs.ClassModel.{Model, class_at, enumeration_at, feature_at}
use Rattle.ocl_kinds.specs.declared.kind.ScalarKind.{ScalarKind}
use Rattle.ocl_kinds.specs.declared.kind.ScalarKind.TheVariants as element
use Rattle.ocl_kinds.specs.declared.kind.Kind.{Kind}
use Rattle.ocl_kinds.specs.declared.kind.Kind.TheVariants.{Scalar, Collection}
use Rattle.ocl_kinds.specs.Kinds.{feature_kind, elements_kind, collected_kind}
use Rattle.ocl_core.specs.declared.operator.PlainOperator.{PlainOperator}
use Rattle.ocl_core.specs.declared.operator.PlainOperator.TheVariants as plain
use Rattle.ocl_core.specs.declared.operator.Operator.{Operator}
use Rattle.ocl_core.specs.declared.operator.Operator.TheVariants.{Plain, OfClass, OfElements, Equal}
use Rattle.ocl_core.specs.declared.core_tree.CoreLink.{CoreLink}
use Rattle.ocl_core.specs.declared.core_tree.Iteration.{Iteration}
use Rattle.ocl_core.specs.declared.core_tree.Iteration.TheVariants as iteration
use Rattle.ocl_core.specs.Core as tree
use Rattle.ocl_core.specs.Core.{Constant, CoreTree, CoreTrees, lets_of}
use Rattle.ocl_core.specs.OperatorKinds.{basic, truth_kind, class_result, element_result}
use Rattle.ocl_core.specs.Typing.{constant_kind, plain_result}
use Rattle.ocl_semantics.specs.Evaluated.{on_null}
use Rattle.explain_why.specs.Values.{quoted_character, kind_name, before_element}
use Rattle.explain_why.specs.Names.{variable_name}
use Rattle.explain_why.specs.Texts.{Form, Between, Before, After, constant_text, instances_text, feature_text, operation_text, iterate_text, choice_text, operator_form, operator_word, class_asked, wrapped}
use Rattle.code_as_ocl.specs.WantedKinds.{let_kind}

pub record Printed : Type 0 where
  pub text : List ℕ
  pub level : ℕ
  pub kind : Kind

abbrev pub printed : List ℕ → ℕ → Kind → Printed
printed text level kind = record { text = text; level = level; kind = kind }

-- ---- how tightly a text binds: 0 a `let`, 1 to 8 what stands between two operands, 9 a prefix, 10 all else

abbrev pub plain_level : PlainOperator → ℕ
plain_level plain.Implies = 1
plain_level plain.Xor = 2
plain_level plain.Or = 3
plain_level plain.And = 4
plain_level plain.BothNull = 5
plain_level plain.Less = 6
plain_level plain.LessEqual = 6
plain_level plain.Greater = 6
plain_level plain.GreaterEqual = 6
plain_level plain.Add = 7
plain_level plain.Subtract = 7
plain_level plain.Multiply = 8
plain_level plain.Divide = 8
plain_level plain.Modulo = 8
plain_level plain.Negate = 9
plain_level plain.Not = 9
plain_level operator = 10

abbrev pub operator_level : Operator → ℕ
operator_level (Plain operator) = plain_level operator
operator_level (OfClass operator c) = 10
operator_level (OfElements operator k) = 10
operator_level (Equal k) = 5

-- a chain of one level groups to the left
abbrev pub first_level : Form → Operator → ℕ
first_level Between operator = operator_level operator
first_level Before operator = 10
first_level After operator = 10

abbrev pub others_level : Form → Operator → ℕ
others_level Between operator = suc (operator_level operator)
others_level Before operator = 10
others_level After operator = 1

-- a text where one of at least this level is wanted
abbrev pub at_least : ℕ → Printed → List ℕ
at_least level w = wrapped (nat_lt w.level level) w.text

-- ---- types

-- null has no type that can be printed, nor has any object
abbrev pub scalar_name : Model → ScalarKind → List ℕ
scalar_name m element.Void = codes "Boolean"
scalar_name m element.Boolean = codes "Boolean"
scalar_name m element.Integer = codes "Integer"
scalar_name m element.String = codes "String"
scalar_name m (element.Enumeration e) = (enumeration_at m e).name
scalar_name m (element.Class c) = (class_at m c).name
scalar_name m element.AnyObject = codes "OclAny"

abbrev pub type_text : Model → Kind → List ℕ
type_text m (Scalar k) = scalar_name m k
type_text m (Collection c k) = kind_name c ++ (40 ∷ (scalar_name m k ++ 41 ∷ []))

-- ---- kinds

abbrev pub collection_seen : Kind → CollectionKind
collection_seen (Scalar k) = collection.Set
collection_seen (Collection c k) = c

abbrev pub operator_kind : Operator → Kind → Kind
operator_kind (Plain operator) first = basic (plain_result operator)
operator_kind (OfClass operator c) first = class_result operator c
operator_kind (OfElements operator k) first = element_result operator (elements_kind first)
operator_kind (Equal k) first = truth_kind

-- by the kinds of the source and of the body
abbrev pub iteration_kind : Iteration → Kind → Kind → Kind
iteration_kind iteration.ForAll source body = truth_kind
iteration_kind iteration.Exists source body = truth_kind
iteration_kind iteration.One source body = truth_kind
iteration_kind iteration.Select source body = source
iteration_kind iteration.Reject source body = source
iteration_kind iteration.Collect source body = Collection (collected_kind (collection_seen source)) (elements_kind body)
iteration_kind iteration.CollectFlat source body = Collection (collected_kind (collection_seen source)) (elements_kind body)
iteration_kind (iteration.IsUnique k) source body = truth_kind

-- the kind of a variable, by those of all
abbrev pub variable_kind : List Kind → ℕ → Kind
variable_kind g n = slice_index_or g n (Scalar element.Void)

-- the variables of a body over a source
abbrev pub with_element : List Kind → Kind → List Kind
with_element g source = g ++ Scalar (elements_kind source) ∷ []

abbrev pub with_accumulator : List Kind → Kind → ScalarKind → List Kind
with_accumulator g source k = with_element g source ++ Scalar k ∷ []

-- the variables of a body behind a value of this kind
abbrev pub with_value : Model → List Kind → Kind → CoreTree → List Kind
with_value m g value body = g ++ let_kind m (length g) value body ∷ []

-- ---- nodes, by their parts

-- a text with all its characters
abbrev pub whole_text : List ℕ → List ℕ
whole_text t = 39 ∷ (flat_map quoted_character t ++ 39 ∷ [])

abbrev pub whole_constant : Model → Constant → List ℕ
whole_constant m (tree.Text t) = whole_text (chars t)
whole_constant m c = constant_text m c

abbrev pub constant_printed : Model → Constant → Printed
constant_printed m c = printed (whole_constant m c) 10 (constant_kind c)

abbrev pub feature_printed : Model → ℕ → Printed → Printed
feature_printed m f first = printed (feature_text m f (at_least 10 first)) 10 (feature_kind (feature_at m f))

abbrev pub operation_printed : Model → Operator → Printed → List ℕ → Printed
operation_printed m operator first others =
    printed (operation_text (operator_form operator) (operator_word operator) (class_asked m operator) (at_least (first_level (operator_form operator) operator) first) others)
    (operator_level operator) (operator_kind operator first.kind)

-- a single value before an arrow is a collection, and so is null where one is wanted
abbrev pub collection_printed : CollectionKind → ScalarKind → Printed → Printed
collection_printed c k source = printed source.text source.level (Collection c k)

abbrev pub iterate_printed : Iteration → ℕ → Printed → Printed → Printed
iterate_printed i n source body =
    printed (iterate_text i (variable_name n) (at_least 10 source) body.text) 10 (iteration_kind i source.kind body.kind)

-- the variables of a fold, up to the accumulator's first value
abbrev pub typed_fold_front : ℕ → List ℕ → List ℕ
typed_fold_front n type =
    codes "->iterate(" ++ (variable_name n ++ (codes "; " ++ (variable_name (suc n) ++ (codes " : " ++ (type ++ codes " = ")))))

abbrev pub fold_printed : Model → ScalarKind → ℕ → Printed → Printed → Printed → Printed
fold_printed m k n source start body =
    printed (at_least 10 source ++ (typed_fold_front n (scalar_name m k) ++ (at_least 1 start ++ (codes " | " ++ (body.text ++ 41 ∷ []))))) 10 (Scalar k)

-- what stands before the body of a `let` whose variable is of this kind
abbrev pub typed_let_front : Model → ℕ → Kind → Printed → List ℕ
typed_let_front m n k value =
    codes "let " ++ (variable_name n ++ (codes " : " ++ (type_text m k ++ (codes " = " ++ (at_least 1 value ++ codes " in ")))))

abbrev pub let_printed : Model → ℕ → Kind → Printed → Printed → Printed
let_printed m n k value body = printed (typed_let_front m n k value ++ body.text) 0 body.kind

abbrev pub if_printed : Kind → Printed → Printed → Printed → Printed
if_printed k condition first second = printed (choice_text (at_least 1 condition) first.text second.text) 10 k

-- ---- trees

module _ (m : Model) where
  -- by the kinds of the variables that are seen
  abbrev mutual
    pub printed_of : CoreTree → List Kind → Printed
    printed_of (tree.Value c) g = constant_printed m c
    printed_of (tree.Variable v) g = printed (variable_name v) 10 (variable_kind g v)
    printed_of (tree.AllInstances c) g = printed (instances_text m c) 10 (Collection collection.Set (element.Class c))
    printed_of (tree.Feature source f) g = feature_printed m f (printed_of source g)
    printed_of (tree.Operation operator first others) g =
        operation_printed m operator (printed_of first g) (others_printed (others_level (operator_form operator) operator) 0 others g)
    printed_of (tree.AsCollection c k source) g = collection_printed c k (printed_of source g)
    printed_of (tree.Iterate i source body) g =
        iterate_printed i (length g) (printed_of source g) (printed_of body (with_element g (printed_of source g).kind))
    printed_of (tree.Fold k source start body) g =
        fold_printed m k (length g) (printed_of source g) (printed_of start g) (printed_of body (with_accumulator g (printed_of source g).kind k))
    printed_of (tree.Let value body) g =
        let_printed m (length g) (let_kind m (length g) (printed_of value g).kind body) (printed_of value g) (printed_of body (with_value m g (printed_of value g).kind body))
    printed_of (tree.If k condition first second) g = if_printed k (printed_of condition g) (printed_of first g) (printed_of second g)

    -- the operands after the first, from the one of this number on
    pub others_printed : ℕ → ℕ → CoreTrees → List Kind → List ℕ
    others_printed level k tree.no_core g = []
    others_printed level k (tree.one_core first rest) g =
        before_element k ++ (at_least level (printed_of first g) ++ others_printed level (suc k) rest g)

  -- ---- nodes on a first operand that is printed so

  abbrev pub node_printed : CoreTree → List Kind → Printed → Printed
  node_printed (tree.Feature source f) g first = feature_printed m f first
  node_printed (tree.Operation operator source others) g first =
      operation_printed m operator first (others_printed (others_level (operator_form operator) operator) 0 others g)
  node_printed (tree.AsCollection c k source) g first = collection_printed c k first
  node_printed (tree.Iterate i source body) g first =
      iterate_printed i (length g) first (printed_of body (with_element g first.kind))
  node_printed (tree.Fold k source start body) g first =
      fold_printed m k (length g) first (printed_of start g) (printed_of body (with_accumulator g first.kind k))
  node_printed t g first = first

  abbrev pub link_printed : List Kind → CoreLink → Printed → Printed
  link_printed g link first = node_printed (on_null link) g first

  abbrev pub links_printed : List Kind → List CoreLink → Printed → Printed
  links_printed g [] first = first
  links_printed g (k ∷ ks) first = links_printed g ks (link_printed g k first)

  -- ---- values as variables

  -- what stands before the body of values
  abbrev pub lets_printed : List CoreTree → CoreTree → List Kind → List ℕ
  lets_printed [] body g = []
  lets_printed (v ∷ vs) body g =
      typed_let_front m (length g) (let_kind m (length g) (printed_of v g).kind (lets_of vs body)) (printed_of v g)
      ++ lets_printed vs body (with_value m g (printed_of v g).kind (lets_of vs body))

  -- the variables that it sees
  abbrev pub lets_kinds : List CoreTree → CoreTree → List Kind → List Kind
  lets_kinds [] body g = g
  lets_kinds (v ∷ vs) body g = lets_kinds vs body (with_value m g (printed_of v g).kind (lets_of vs body))

-- values and their body
abbrev pub closed_by : List CoreTree → List ℕ → Printed → Printed
closed_by [] front body = body
closed_by (v ∷ vs) front body = printed (front ++ body.text) 0 body.kind
