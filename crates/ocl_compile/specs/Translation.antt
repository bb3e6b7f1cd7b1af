-- The code of core trees, and the unit of rules.
use Rattle.std.specs.Prelude.{ℕ, zero, suc, pos, Bool, true, false, List, [], ◌∷◌, ◌++◌, map, if◌then◌else◌}
use Rattle.std.specs.List.{list_any}
use Rattle.imkl_model.specs.ClassModel.{Model, class_at, enumeration_at, feature_at}
use Rattle.ocl_kinds.specs.declared.kind.ScalarKind.{ScalarKind}
use Rattle.ocl_kinds.specs.declared.kind.ScalarKind.TheVariants as element
use Rattle.ocl_kinds.specs.declared.kind.Kind.{Kind}
use Rattle.ocl_kinds.specs.declared.kind.Kind.TheVariants.{Scalar, Collection}
use Rattle.ocl_core.specs.declared.operator.PlainOperator.{PlainOperator}
use Rattle.ocl_core.specs.declared.operator.PlainOperator.TheVariants as plain
use Rattle.ocl_core.specs.declared.operator.ClassOperator.{ClassOperator}
use Rattle.ocl_core.specs.declared.operator.ClassOperator.TheVariants as of_class
use Rattle.ocl_core.specs.declared.operator.ElementOperator.{ElementOperator}
use Rattle.ocl_core.specs.declared.operator.ElementOperator.TheVariants as of_elements
use Rattle.ocl_core.specs.declared.operator.Operator.{Operator}
use Rattle.ocl_core.specs.declared.operator.Operator.TheVariants.{Plain, OfClass, OfElements, Equal}
use Rattle.ocl_core.specs.declared.core_tree.Iteration.{Iteration}
use Rattle.ocl_core.specs.declared.core_tree.Iteration.TheVariants as iteration
use Rattle.ocl_core.specs.Core as tree
use Rattle.ocl_core.specs.Core.{Constant, CoreTree, CoreTrees, CheckedRule}
use Rattle.rule_code.specs.declared.instruction.Instr.{Instr}
use Rattle.rule_code.specs.declared.instruction.Instr.TheVariants as instrs
use Rattle.rule_code.specs.declared.kind.WrittenScalar.{WrittenScalar}
use Rattle.rule_code.specs.declared.kind.WrittenScalar.TheVariants as written
use Rattle.rule_code.specs.declared.kind.WrittenKind.{WrittenKind}
use Rattle.rule_code.specs.declared.kind.WrittenKind.TheVariants as kinds
use Rattle.rule_code.specs.declared.symbol.Symbol.{Symbol}
use Rattle.rule_code.specs.declared.symbol.Symbol.TheVariants as symbols
use Rattle.rule_code.specs.declared.symbol.SymbolNumber.{SymbolNumber}
use Rattle.rule_code.specs.declared.symbol.TextNumber.{TextNumber}
use Rattle.rule_code.specs.declared.version.Version.{Version}
use Rattle.rule_code.specs.declared.version.Version.TheVariants as versions
use Rattle.rule_code.specs.Content.{Content, RuleContent}
use Rattle.rule_verify.specs.declared.named.Named.{Named}
use Rattle.rule_verify.specs.declared.named.Named.TheVariants as named
use Rattle.rule_verify.specs.CodeTree as code
use Rattle.rule_verify.specs.CodeTree.{CodeTree, instr_count}
use Rattle.ocl_compile.specs.Numbering.{Numbering, text_number, symbol_number, literal_name, owned_feature, numbering_of}

-- ---- fields

abbrev pub text_of_unit : Numbering → List ℕ → TextNumber
text_of_unit n t = record { 0 = text_number n t }

abbrev pub symbol_of_unit : Numbering → Named → SymbolNumber
symbol_of_unit n s = record { 0 = symbol_number n s }

abbrev pub written_scalar : Numbering → ScalarKind → WrittenScalar
written_scalar n element.Void = written.Void
written_scalar n element.Boolean = written.Boolean
written_scalar n element.Integer = written.Integer
written_scalar n element.String = written.String
written_scalar n (element.Enumeration e) = written.Enumeration (symbol_of_unit n (named.Enumeration e))
written_scalar n (element.Class c) = written.Class (symbol_of_unit n (named.Class c))
written_scalar n element.AnyObject = written.AnyObject

abbrev pub written_kind : Numbering → Kind → WrittenKind
written_kind n (Scalar k) = kinds.Scalar (written_scalar n k)
written_kind n (Collection c k) = kinds.Collection c (written_scalar n k)

-- ---- instructions

abbrev pub constant_instr : Numbering → Constant → Instr
constant_instr n (tree.Boolean b) = instrs.Bool b
constant_instr n (tree.Integer i) = instrs.Int (pos i)
constant_instr n (tree.Text t) = instrs.Text (text_of_unit n t)
constant_instr n (tree.Literal e l) = instrs.Enum (symbol_of_unit n (named.Literal e l))
constant_instr n tree.Null = instrs.Null
constant_instr n tree.Invalid = instrs.Invalid

-- variable 0 is the object
abbrev pub variable_instr : ℕ → Instr
variable_instr zero = instrs.SelfObject
variable_instr (suc n) = instrs.Get (suc n)

abbrev pub plain_instr : PlainOperator → Instr
plain_instr plain.Add = instrs.Add
plain_instr plain.Subtract = instrs.Sub
plain_instr plain.Multiply = instrs.Mul
plain_instr plain.Divide = instrs.Div
plain_instr plain.Modulo = instrs.Mod
plain_instr plain.Minimum = instrs.Min
plain_instr plain.Maximum = instrs.Max
plain_instr plain.Negate = instrs.Neg
plain_instr plain.Absolute = instrs.Abs
plain_instr plain.Less = instrs.Lt
plain_instr plain.LessEqual = instrs.Le
plain_instr plain.Greater = instrs.Gt
plain_instr plain.GreaterEqual = instrs.Ge
plain_instr plain.CharacterCount = instrs.TLen
plain_instr plain.Substring = instrs.SubStr
plain_instr plain.Not = instrs.Not
plain_instr plain.And = instrs.And
plain_instr plain.Or = instrs.Or
plain_instr plain.Xor = instrs.Xor
plain_instr plain.Implies = instrs.Implies
plain_instr plain.IsUndefined = instrs.Undef
plain_instr plain.IsInvalid = instrs.IsInv
plain_instr plain.BothNull = instrs.Eqx
plain_instr plain.ElementCount = instrs.Size
plain_instr plain.IsEmpty = instrs.IsEmpty
plain_instr plain.Sum = instrs.Sum

abbrev pub class_instr : ClassOperator → SymbolNumber → Instr
class_instr of_class.IsKindOf c = instrs.KindOf c
class_instr of_class.IsTypeOf c = instrs.TypeOf c
class_instr of_class.AsType c = instrs.AsType c

abbrev pub element_instr : ElementOperator → WrittenScalar → Instr
element_instr of_elements.Includes k = instrs.Includes k
element_instr of_elements.Occurrences k = instrs.Count k
element_instr of_elements.IncludesAll k = instrs.IncAll k
element_instr of_elements.ExcludesAll k = instrs.ExcAll k
element_instr of_elements.AsSet k = instrs.AsSet k

abbrev pub operator_instr : Numbering → Operator → Instr
operator_instr n (Plain operator) = plain_instr operator
operator_instr n (OfClass operator c) = class_instr operator (symbol_of_unit n (named.Class c))
operator_instr n (OfElements operator k) = element_instr operator (written_scalar n k)
operator_instr n (Equal k) = instrs.Eq (written_kind n k)

-- with the length of its body
abbrev pub iteration_instr : Numbering → Iteration → ℕ → Instr
iteration_instr n iteration.ForAll len = instrs.ForAll len
iteration_instr n iteration.Exists len = instrs.Exists len
iteration_instr n iteration.One len = instrs.One len
iteration_instr n iteration.Select len = instrs.Select len
iteration_instr n iteration.Reject len = instrs.Reject len
iteration_instr n iteration.Collect len = instrs.Collect len
iteration_instr n iteration.CollectFlat len = instrs.CollectFlat len
iteration_instr n (iteration.IsUnique k) len = instrs.IsUnique (written_scalar n k) len

-- ---- trees

-- blocks, with the lengths of their bodies
abbrev pub iteration_block : Numbering → Iteration → CodeTree → CodeTree → CodeTree
iteration_block n i body rest = code.Block (iteration_instr n i (instr_count body)) body rest

abbrev pub fold_block : Numbering → ScalarKind → CodeTree → CodeTree → CodeTree
fold_block n k body rest = code.Block (instrs.Fold (written_scalar n k) (instr_count body)) body rest

abbrev pub let_block : CodeTree → CodeTree → CodeTree
let_block body rest = code.Block (instrs.Let (instr_count body)) body rest

abbrev pub if_block : Numbering → Kind → CodeTree → CodeTree → CodeTree → CodeTree
if_block n k first second rest =
    code.Branch (instrs.If (written_kind n k) (instr_count first) (instr_count second)) first second rest

-- The code of a tree before what follows it: operands in order, and then what takes them.
module _ (m : Model) (n : Numbering) where
  abbrev mutual
    pub translate : CoreTree → CodeTree → CodeTree
    translate (tree.Value c) rest = code.Plain (constant_instr n c) rest
    translate (tree.Variable v) rest = code.Plain (variable_instr v) rest
    translate (tree.AllInstances c) rest = code.Plain (instrs.All (symbol_of_unit n (named.Class c))) rest
    translate (tree.Feature source f) rest =
        translate source (code.Plain (instrs.Attr (symbol_of_unit n (owned_feature m f))) rest)
    translate (tree.Operation operator first others) rest =
        translate first (translate_all others (code.Plain (operator_instr n operator) rest))
    translate (tree.AsCollection c k source) rest = translate source (code.Plain (instrs.AsColl c (written_scalar n k)) rest)
    translate (tree.Iterate i source body) rest = translate source (iteration_block n i (translate body code.End) rest)
    translate (tree.Fold k source start body) rest =
        translate source (translate start (fold_block n k (translate body code.End) rest))
    translate (tree.Let v body) rest = translate v (let_block (translate body code.End) rest)
    translate (tree.If k condition first second) rest =
        translate condition (if_block n k (translate first code.End) (translate second code.End) rest)

    pub translate_all : CoreTrees → CodeTree → CodeTree
    translate_all tree.no_core rest = rest
    translate_all (tree.one_core first others) rest = translate first (translate_all others rest)

-- the instructions of a code tree, in order
abbrev pub instrs_of : CodeTree → List Instr
instrs_of code.End = []
instrs_of (code.Plain i rest) = i ∷ instrs_of rest
instrs_of (code.Block i body rest) = i ∷ (instrs_of body ++ instrs_of rest)
instrs_of (code.Branch i first second rest) = i ∷ (instrs_of first ++ (instrs_of second ++ instrs_of rest))
instrs_of (code.Torn i left) = i ∷ []

-- ---- units

abbrev pub rule_tree : Model → Numbering → CheckedRule → CodeTree
rule_tree m n r = translate m n r.tree code.End

abbrev pub translate_rule : Model → Numbering → CheckedRule → RuleContent
translate_rule m n r =
    record { name = text_number n r.name; context = symbol_number n (named.Class r.context); code = instrs_of (rule_tree m n r) }

abbrev pub translate_symbol : Model → Numbering → Named → Symbol
translate_symbol m n (named.Class c) = symbols.Class (text_of_unit n (class_at m c).name)
translate_symbol m n (named.Enumeration e) = symbols.Enumeration (text_of_unit n (enumeration_at m e).name)
translate_symbol m n (named.Feature c f) =
    symbols.Feature (text_of_unit n (class_at m c).name) (text_of_unit n (feature_at m f).name)
translate_symbol m n (named.Literal e l) =
    symbols.Literal (text_of_unit n (enumeration_at m e).name) (text_of_unit n (literal_name m e l))

abbrev pub is_fold : Instr → Bool
is_fold (instrs.Fold k len) = true
is_fold i = false

-- the first version, or the second where FOLD occurs, which the first has not
abbrev pub version_of : List RuleContent → Version
version_of rules = if list_any (λ r. list_any is_fold r.code) rules then versions.Two else versions.One

abbrev pub unit_with : Model → Numbering → List CheckedRule → Content
unit_with m n rs =
    record {
      version = version_of (map (translate_rule m n) rs);
      texts = n.texts;
      symbols = map (translate_symbol m n) n.symbols;
      rules = map (translate_rule m n) rs;
    }

-- the unit of rules
abbrev pub translate_rules : Model → List CheckedRule → Content
translate_rules m rs = unit_with m (numbering_of m rs) rs
