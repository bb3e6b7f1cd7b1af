-- Core trees as short OCL.
use Rattle.std.specs.Prelude.{ℕ, suc, ◌&&◌, Bool, true, false, List, [], ◌∷◌, ◌++◌, codes}
use Rattle.std.specs.Fmt.{decimal}
use Rattle.std.specs.Str.{chars}
use Rattle.ocl_base.specs.declared.collection_kind.CollectionKind.{CollectionKind}
use Rattle.imkl_model.specs.ClassModel.{Model, class_at, feature_at}
use Rattle.ocl_core.specs.declared.operator.PlainOperator.{PlainOperator}
use Rattle.ocl_core.specs.declared.operator.PlainOperator.TheVariants as plain
use Rattle.ocl_core.specs.declared.operator.ClassOperator.{ClassOperator}
use Rattle.ocl_core.specs.declared.operator.ClassOperator.TheVariants as of_class
use Rattle.ocl_core.specs.declared.operator.ElementOperator.{ElementOperator}
use Rattle.ocl_core.specs.declared.operator.ElementOperator.TheVariants as of_elements
use Rattle.ocl_core.specs.declared.operator.Operator.{Operator}
use Rattle.ocl_core.specs.declared.operator.Operator.TheVariants.{Plain, OfClass, OfElements, Equal}
use Rattle.ocl_core.specs.declared.core_tree.Iteration.{Iteration}
use Rattle.ocl_core.specs.declared.core_tree.Iteration.TheVariants as iteration
use Rattle.ocl_core.specs.Core as tree
use Rattle.ocl_core.specs.Core.{Constant, CoreTree, CoreTrees}
use Rattle.explain_why.specs.declared.words.Form as words
use Rattle.explain_why.specs.declared.words.Form.TheVariants as form
use Rattle.explain_why.specs.Names.{Naming, next_name, name_in, past, with_next}
use Rattle.explain_why.specs.Values.{truth_text, quoted_text, literal_text, kind_name, before_element}

-- ---- constants

abbrev pub constant_text : Model → Constant → List ℕ
constant_text m (tree.Boolean b) = truth_text b
constant_text m (tree.Integer n) = decimal n
constant_text m (tree.Text t) = quoted_text (chars t)
constant_text m (tree.Literal e l) = literal_text m e l
constant_text m tree.Null = codes "null"
constant_text m tree.Invalid = codes "invalid"

-- ---- how operators are written

-- between two operands, before one, or after it with what stands in parentheses
pub data Form : Type 0 where
  Between : Form
  Before : Form
  After : Form

abbrev pub form_of : words.Form → Form
form_of form.Between = Between
form_of form.Before = Before
form_of form.After = After

abbrev pub plain_form : PlainOperator → Form
plain_form plain.Minimum = After
plain_form plain.Maximum = After
plain_form plain.Negate = Before
plain_form plain.Absolute = After
plain_form plain.CharacterCount = After
plain_form plain.Substring = After
plain_form plain.Not = Before
plain_form plain.IsUndefined = After
plain_form plain.IsInvalid = After
plain_form plain.ElementCount = After
plain_form plain.IsEmpty = After
plain_form plain.Sum = After
plain_form operator = Between

abbrev pub plain_word : PlainOperator → List ℕ
plain_word plain.Add = codes " + "
plain_word plain.Subtract = codes " - "
plain_word plain.Multiply = codes " * "
plain_word plain.Divide = codes " div "
plain_word plain.Modulo = codes " mod "
plain_word plain.Minimum = codes ".min"
plain_word plain.Maximum = codes ".max"
plain_word plain.Negate = codes "-"
plain_word plain.Absolute = codes ".abs"
plain_word plain.Less = codes " < "
plain_word plain.LessEqual = codes " <= "
plain_word plain.Greater = codes " > "
plain_word plain.GreaterEqual = codes " >= "
plain_word plain.CharacterCount = codes ".size"
plain_word plain.Substring = codes ".substring"
plain_word plain.Not = codes "not "
plain_word plain.And = codes " and "
plain_word plain.Or = codes " or "
plain_word plain.Xor = codes " xor "
plain_word plain.Implies = codes " implies "
plain_word plain.IsUndefined = codes ".oclIsUndefined"
plain_word plain.IsInvalid = codes ".oclIsInvalid"
plain_word plain.BothNull = codes " = "
plain_word plain.ElementCount = codes "->size"
plain_word plain.IsEmpty = codes "->isEmpty"
plain_word plain.Sum = codes "->sum"

abbrev pub class_word : ClassOperator → List ℕ
class_word of_class.IsKindOf = codes ".oclIsKindOf"
class_word of_class.IsTypeOf = codes ".oclIsTypeOf"
class_word of_class.AsType = codes ".oclAsType"

abbrev pub element_word : ElementOperator → List ℕ
element_word of_elements.Includes = codes "->includes"
element_word of_elements.Occurrences = codes "->count"
element_word of_elements.IncludesAll = codes "->includesAll"
element_word of_elements.ExcludesAll = codes "->excludesAll"
element_word of_elements.AsSet = codes "->asSet"

abbrev pub operator_form : Operator → Form
operator_form (Plain operator) = plain_form operator
operator_form (OfClass operator c) = After
operator_form (OfElements operator k) = After
operator_form (Equal k) = Between

abbrev pub operator_word : Operator → List ℕ
operator_word (Plain operator) = plain_word operator
operator_word (OfClass operator c) = class_word operator
operator_word (OfElements operator k) = element_word operator
operator_word (Equal k) = codes " = "

-- the class that an operator asks for
abbrev pub class_asked : Model → Operator → List ℕ
class_asked m (Plain operator) = []
class_asked m (OfClass operator c) = (class_at m c).name
class_asked m (OfElements operator k) = []
class_asked m (Equal k) = []

abbrev pub iteration_word : Iteration → List ℕ
iteration_word iteration.ForAll = codes "->forAll("
iteration_word iteration.Exists = codes "->exists("
iteration_word iteration.One = codes "->one("
iteration_word iteration.Select = codes "->select("
iteration_word iteration.Reject = codes "->reject("
iteration_word iteration.Collect = codes "->collect("
iteration_word iteration.CollectFlat = codes "->collect("
iteration_word (iteration.IsUnique k) = codes "->isUnique("

-- ---- operands

abbrev pub is_form_open : Form → Bool
is_form_open Between = true
is_form_open Before = true
is_form_open After = false

-- what has to stand in parentheses as an operand
abbrev pub is_open : CoreTree → Bool
is_open (tree.Operation operator first others) = is_form_open (operator_form operator)
is_open (tree.Let value body) = true
is_open t = false

-- a text, in parentheses where it needs them
abbrev pub wrapped : Bool → List ℕ → List ℕ
wrapped true text = 40 ∷ (text ++ 41 ∷ [])
wrapped false text = text

-- ---- trees, by the texts of their parts

abbrev pub instances_text : Model → ℕ → List ℕ
instances_text m c = (class_at m c).name ++ codes ".allInstances()"

abbrev pub feature_text : Model → ℕ → List ℕ → List ℕ
feature_text m f source = source ++ (46 ∷ (feature_at m f).name)

abbrev pub operation_text : Form → List ℕ → List ℕ → List ℕ → List ℕ → List ℕ
operation_text Between word asked first others = first ++ (word ++ others)
operation_text Before word asked first others = word ++ (first ++ others)
operation_text After word asked first others = first ++ (word ++ (40 ∷ (asked ++ (others ++ 41 ∷ []))))

abbrev pub conversion_text : CollectionKind → List ℕ → List ℕ
conversion_text c source = source ++ (codes "->as" ++ (kind_name c ++ codes "()"))

-- by the name of the variable
abbrev pub iterate_text : Iteration → List ℕ → List ℕ → List ℕ → List ℕ
iterate_text i name source body = source ++ (iteration_word i ++ (name ++ (codes " | " ++ (body ++ 41 ∷ []))))

-- the variables of a fold, up to the accumulator's first value
abbrev pub fold_front : List ℕ → List ℕ → List ℕ
fold_front name accumulator = codes "->iterate(" ++ (name ++ (codes "; " ++ (accumulator ++ codes " = ")))

abbrev pub fold_text : List ℕ → List ℕ → List ℕ → List ℕ → List ℕ → List ℕ
fold_text name accumulator source start body =
    source ++ (fold_front name accumulator ++ (start ++ (codes " | " ++ (body ++ 41 ∷ []))))

-- what stands before the body of a `let`
abbrev pub let_front : List ℕ → List ℕ → List ℕ
let_front name value = codes "let " ++ (name ++ (codes " = " ++ (value ++ codes " in ")))

abbrev pub choice_text : List ℕ → List ℕ → List ℕ → List ℕ
choice_text condition first second =
    codes "if " ++ (condition ++ (codes " then " ++ (first ++ (codes " else " ++ (second ++ codes " endif")))))

-- the text of a tree, by the names that are known where it stands
module _ (m : Model) where
  abbrev mutual
    pub text_of : CoreTree → Naming → List ℕ
    text_of (tree.Value c) s = constant_text m c
    text_of (tree.Variable v) s = name_in s v
    text_of (tree.AllInstances c) s = instances_text m c
    text_of (tree.Feature source f) s = feature_text m f (wrapped (is_open source) (text_of source s))
    text_of (tree.Operation operator first others) s =
        operation_text (operator_form operator) (operator_word operator) (class_asked m operator) (wrapped (is_open first) (text_of first s)) (others_text (is_form_open (operator_form operator)) 0 others (past first s))
    text_of (tree.AsCollection c k source) s = conversion_text c (wrapped (is_open source) (text_of source s))
    text_of (tree.Iterate i source body) s =
        iterate_text i (next_name (past source s)) (wrapped (is_open source) (text_of source s)) (text_of body (with_next (past source s)))
    text_of (tree.Fold k source start body) s =
        fold_text (next_name (past start (past source s))) (next_name (with_next (past start (past source s)))) (wrapped (is_open source) (text_of source s)) (text_of start (past source s)) (text_of body (with_next (with_next (past start (past source s)))))
    text_of (tree.Let value body) s = let_front (next_name (past value s)) (text_of value s) ++ text_of body (with_next (past value s))
    text_of (tree.If k condition first second) s =
        choice_text (text_of condition s) (text_of first (past condition s)) (text_of second (past first (past condition s)))

    -- the operands after the first, from the one of this number on: one that is written between two, or those in parentheses
    pub others_text : Bool → ℕ → CoreTrees → Naming → List ℕ
    others_text b k tree.no_core s = []
    others_text b k (tree.one_core first rest) s =
        before_element k ++ (wrapped (b && is_open first) (text_of first s) ++ others_text b (suc k) rest (past first s))
