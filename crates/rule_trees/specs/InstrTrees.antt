-- What an instruction without a body makes of core trees: it takes those of its operands, the topmost first, and puts its own
-- tree in their place. Where they aren't there, or a symbol names nothing of the sort, it makes nothing.
use Rattle.std.specs.Prelude.{ℕ, suc, ℤ, pos, negsuc, Bool, true, false, List, [], ◌∷◌, Option, Some, None, if◌then◌else◌}
use Rattle.imkl_population.specs.Values.{is_integer}
use Rattle.ocl_core.specs.declared.operator.PlainOperator.TheVariants as plain
use Rattle.ocl_core.specs.declared.operator.ClassOperator.{ClassOperator}
use Rattle.ocl_core.specs.declared.operator.ClassOperator.TheVariants as of_class
use Rattle.ocl_core.specs.declared.operator.ElementOperator.TheVariants as of_elements
use Rattle.ocl_core.specs.declared.operator.Operator.{Operator}
use Rattle.ocl_core.specs.declared.operator.Operator.TheVariants.{Plain, OfClass, OfElements, Equal}
use Rattle.ocl_core.specs.Core as tree
use Rattle.ocl_core.specs.Core.{CoreTree, cores_of}
use Rattle.ocl_base.specs.declared.collection_kind.CollectionKind.{CollectionKind}
use Rattle.ocl_kinds.specs.declared.kind.ScalarKind.{ScalarKind}
use Rattle.rule_code.specs.declared.instruction.Instr.{Instr}
use Rattle.rule_code.specs.declared.instruction.Instr.TheVariants as instrs
use Rattle.rule_code.specs.Content.{text_at}
use Rattle.rule_verify.specs.declared.named.Named.{Named}
use Rattle.rule_verify.specs.declared.named.Named.TheVariants as named
use Rattle.rule_verify.specs.Symbols.{named_at}
use Rattle.rule_verify.specs.InstrKinds.{Surroundings, scalar_meant, kind_meant}

-- what a symbol names, by its number in the unit
abbrev pub symbol_meant : Surroundings → ℕ → Option Named
symbol_meant s n = named_at s.model s.unit n

-- ---- operations, on the trees of their operands

-- on a first operand and the others in order
abbrev pub operation_on : Operator → CoreTree → List CoreTree → CoreTree
operation_on o v ws = tree.Operation o v (cores_of ws)

-- on the topmost trees, of which the lowest is the first operand
abbrev pub on_one : Operator → List CoreTree → Option (List CoreTree)
on_one o (v ∷ cs) = Some (operation_on o v [] ∷ cs)
on_one o cs = None

abbrev pub on_two : Operator → List CoreTree → Option (List CoreTree)
on_two o (w ∷ v ∷ cs) = Some (operation_on o v (w ∷ []) ∷ cs)
on_two o cs = None

abbrev pub on_three : Operator → List CoreTree → Option (List CoreTree)
on_three o (x ∷ w ∷ v ∷ cs) = Some (operation_on o v (w ∷ x ∷ []) ∷ cs)
on_three o cs = None

-- a single value made a collection
abbrev pub collection_over : CollectionKind → ScalarKind → List CoreTree → Option (List CoreTree)
collection_over c k (v ∷ cs) = Some (tree.AsCollection c k v ∷ cs)
collection_over c k cs = None

-- ---- whole numbers

abbrev pub number : ℕ → CoreTree
number n = tree.Value (tree.Integer n)

abbrev pub negated : ℕ → CoreTree
negated n = operation_on (Plain plain.Negate) (number n) []

-- A number below zero is a negation, as in a text. The least one, of which there is no opposite, is one less than the next.
abbrev pub below_zero : ℕ → Bool → CoreTree
below_zero n true = negated (suc n)
below_zero n false = operation_on (Plain plain.Subtract) (negated n) (number 1 ∷ [])

abbrev pub integer_over : ℤ → List CoreTree → Option (List CoreTree)
integer_over (pos n) cs = Some (number n ∷ cs)
integer_over (negsuc n) cs = if is_integer (negsuc n) then Some (below_zero n (is_integer (pos (suc n))) ∷ cs) else None

-- ---- by what symbols name

abbrev pub literal_over : Option Named → List CoreTree → Option (List CoreTree)
literal_over (Some (named.Literal e l)) cs = Some (tree.Value (tree.Literal e l) ∷ cs)
literal_over n cs = None

abbrev pub instances_over : Option Named → List CoreTree → Option (List CoreTree)
instances_over (Some (named.Class c)) cs = Some (tree.AllInstances c ∷ cs)
instances_over n cs = None

-- a feature, whichever class its symbol names
abbrev pub feature_over : List CoreTree → Option Named → Option (List CoreTree)
feature_over (v ∷ cs) (Some (named.Feature c f)) = Some (tree.Feature v f ∷ cs)
feature_over cs n = None

abbrev pub class_over : ClassOperator → List CoreTree → Option Named → Option (List CoreTree)
class_over o (v ∷ cs) (Some (named.Class c)) = Some (operation_on (OfClass o c) v [] ∷ cs)
class_over o cs n = None

-- ---- instructions: the trees after each, from those before it

-- those that ask for the elements of collections
abbrev pub element_trees : Surroundings → Instr → List CoreTree → Option (List CoreTree)
element_trees s instrs.Size cs = on_one (Plain plain.ElementCount) cs
element_trees s instrs.IsEmpty cs = on_one (Plain plain.IsEmpty) cs
element_trees s instrs.Sum cs = on_one (Plain plain.Sum) cs
element_trees s (instrs.Includes k) cs = on_two (OfElements of_elements.Includes (scalar_meant s k)) cs
element_trees s (instrs.Count k) cs = on_two (OfElements of_elements.Occurrences (scalar_meant s k)) cs
element_trees s (instrs.IncAll k) cs = on_two (OfElements of_elements.IncludesAll (scalar_meant s k)) cs
element_trees s (instrs.ExcAll k) cs = on_two (OfElements of_elements.ExcludesAll (scalar_meant s k)) cs
element_trees s (instrs.AsSet k) cs = on_one (OfElements of_elements.AsSet (scalar_meant s k)) cs
element_trees s i cs = None

-- those that give a truth value by other operands, and the ones above
abbrev pub truth_trees : Surroundings → Instr → List CoreTree → Option (List CoreTree)
truth_trees s instrs.Lt cs = on_two (Plain plain.Less) cs
truth_trees s instrs.Le cs = on_two (Plain plain.LessEqual) cs
truth_trees s instrs.Gt cs = on_two (Plain plain.Greater) cs
truth_trees s instrs.Ge cs = on_two (Plain plain.GreaterEqual) cs
truth_trees s instrs.Not cs = on_one (Plain plain.Not) cs
truth_trees s instrs.And cs = on_two (Plain plain.And) cs
truth_trees s instrs.Or cs = on_two (Plain plain.Or) cs
truth_trees s instrs.Xor cs = on_two (Plain plain.Xor) cs
truth_trees s instrs.Implies cs = on_two (Plain plain.Implies) cs
truth_trees s (instrs.Eq k) cs = on_two (Equal (kind_meant s k)) cs
truth_trees s instrs.Eqx cs = on_two (Plain plain.BothNull) cs
truth_trees s instrs.Undef cs = on_one (Plain plain.IsUndefined) cs
truth_trees s instrs.IsInv cs = on_one (Plain plain.IsInvalid) cs
truth_trees s i cs = element_trees s i cs

-- those that work on numbers and texts, and the ones above
abbrev pub number_trees : Surroundings → Instr → List CoreTree → Option (List CoreTree)
number_trees s instrs.Add cs = on_two (Plain plain.Add) cs
number_trees s instrs.Sub cs = on_two (Plain plain.Subtract) cs
number_trees s instrs.Mul cs = on_two (Plain plain.Multiply) cs
number_trees s instrs.Div cs = on_two (Plain plain.Divide) cs
number_trees s instrs.Mod cs = on_two (Plain plain.Modulo) cs
number_trees s instrs.Neg cs = on_one (Plain plain.Negate) cs
number_trees s instrs.Abs cs = on_one (Plain plain.Absolute) cs
number_trees s instrs.Min cs = on_two (Plain plain.Minimum) cs
number_trees s instrs.Max cs = on_two (Plain plain.Maximum) cs
number_trees s instrs.TLen cs = on_one (Plain plain.CharacterCount) cs
number_trees s instrs.SubStr cs = on_three (Plain plain.Substring) cs
number_trees s i cs = truth_trees s i cs

-- those that read variables, constants and features, and the ones above
abbrev pub plain_trees : Surroundings → Instr → List CoreTree → Option (List CoreTree)
plain_trees s instrs.SelfObject cs = Some (tree.Variable 0 ∷ cs)
plain_trees s (instrs.Get n) cs = Some (tree.Variable n ∷ cs)
plain_trees s (instrs.Int n) cs = integer_over n cs
plain_trees s (instrs.Bool b) cs = Some (tree.Value (tree.Boolean b) ∷ cs)
plain_trees s (instrs.Text t) cs = Some (tree.Value (tree.Text (text_at s.unit.texts t.0)) ∷ cs)
plain_trees s (instrs.Enum l) cs = literal_over (symbol_meant s l.0) cs
plain_trees s instrs.Null cs = Some (tree.Value tree.Null ∷ cs)
plain_trees s instrs.Invalid cs = Some (tree.Value tree.Invalid ∷ cs)
plain_trees s (instrs.Attr a) cs = feature_over cs (symbol_meant s a.0)
plain_trees s (instrs.All c) cs = instances_over (symbol_meant s c.0) cs
plain_trees s (instrs.AsColl c k) cs = collection_over c (scalar_meant s k) cs
plain_trees s (instrs.KindOf c) cs = class_over of_class.IsKindOf cs (symbol_meant s c.0)
plain_trees s (instrs.TypeOf c) cs = class_over of_class.IsTypeOf cs (symbol_meant s c.0)
plain_trees s (instrs.AsType c) cs = class_over of_class.AsType cs (symbol_meant s c.0)
plain_trees s i cs = number_trees s i cs
