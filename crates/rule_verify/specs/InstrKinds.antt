-- What each instruction takes and gives. An instruction has its row in each table.
use Rattle.std.specs.Prelude.{ℕ, Bool, true, false, drop, List, [], ◌∷◌, ◌++◌, Option, Some, None, is_some}
use Rattle.std.specs.List.{list_all}
use Rattle.ocl_base.specs.Lists.{variable_at}
use Rattle.ocl_base.specs.declared.collection_kind.CollectionKind.{CollectionKind}
use Rattle.ocl_base.specs.declared.collection_kind.CollectionKind.TheVariants as collection
use Rattle.imkl_model.specs.ClassModel.{Model, feature_at}
use Rattle.ocl_kinds.specs.declared.kind.ScalarKind.{ScalarKind}
use Rattle.ocl_kinds.specs.declared.kind.ScalarKind.TheVariants as element
use Rattle.ocl_kinds.specs.declared.kind.Kind.{Kind}
use Rattle.ocl_kinds.specs.declared.kind.Kind.TheVariants.{Scalar, Collection}
use Rattle.ocl_kinds.specs.Kinds.{feature_kind, elements_kind, collected_kind}
use Rattle.rule_code.specs.declared.instruction.Instr.{Instr}
use Rattle.rule_code.specs.declared.instruction.Instr.TheVariants as instrs
use Rattle.rule_code.specs.declared.kind.WrittenScalar.{WrittenScalar}
use Rattle.rule_code.specs.declared.kind.WrittenScalar.TheVariants as written
use Rattle.rule_code.specs.declared.kind.WrittenKind.{WrittenKind}
use Rattle.rule_code.specs.declared.kind.WrittenKind.TheVariants as kinds
use Rattle.rule_code.specs.InstrRows.{FieldValue, symbol_field, scalar_field, collection_field, kind_field, row_of}
use Rattle.rule_code.specs.Content.{Content}
use Rattle.rule_verify.specs.declared.block_instr.BlockInstr.{BlockInstr}
use Rattle.rule_verify.specs.declared.block_instr.BlockInstr.TheVariants as blocks
use Rattle.rule_verify.specs.declared.named.Named.{Named}
use Rattle.rule_verify.specs.declared.named.Named.TheVariants as named
use Rattle.rule_verify.specs.declared.pattern.Pattern.{Pattern}
use Rattle.rule_verify.specs.declared.pattern.Pattern.TheVariants.{Fitting, Anything, AnySingle, AnyCollection, CollectionOf}
use Rattle.rule_verify.specs.Patterns.{a_boolean, an_integer, a_string, an_object}
use Rattle.rule_verify.specs.Symbols.{named_at}
use Rattle.rule_verify.specs.CodeTree.{block_of}

-- what the code of a rule is checked against: a class model, the unit, the rule's index and its context class
pub record Surroundings : Type 0 where
  pub model : Model
  pub unit : Content
  pub rule : ℕ
  pub context : ℕ

abbrev pub surroundings : Model → Content → ℕ → ℕ → Surroundings
surroundings m u r c = record { model = m; unit = u; rule = r; context = c }

-- ---- names

abbrev pub scalar_symbols : WrittenScalar → List ℕ
scalar_symbols (written.Enumeration s) = s.0 ∷ []
scalar_symbols (written.Class s) = s.0 ∷ []
scalar_symbols k = []

abbrev pub kind_symbols : WrittenKind → List ℕ
kind_symbols (kinds.Scalar k) = scalar_symbols k
kind_symbols (kinds.Collection c k) = scalar_symbols k

abbrev pub field_symbols : FieldValue → List ℕ
field_symbols (symbol_field tag s) = s ∷ []
field_symbols (scalar_field k) = scalar_symbols k
field_symbols (collection_field c k) = scalar_symbols k
field_symbols (kind_field k) = kind_symbols k
field_symbols f = []

abbrev pub fields_symbols : List FieldValue → List ℕ
fields_symbols [] = []
fields_symbols (f ∷ fs) = field_symbols f ++ fields_symbols fs

-- the symbols that an instruction uses, in the order of its fields
abbrev pub symbols_used : Instr → List ℕ
symbols_used i = fields_symbols (row_of i).fields

-- each of them names something of the class model
abbrev pub has_names : Surroundings → Instr → Bool
has_names s i = list_all (λ n. is_some (named_at s.model s.unit n)) (symbols_used i)

-- ---- kinds of the file, in the class model

abbrev pub class_kind : Option Named → ScalarKind
class_kind (Some (named.Class c)) = element.Class c
class_kind n = element.Void

abbrev pub enumeration_kind : Option Named → ScalarKind
enumeration_kind (Some (named.Enumeration e)) = element.Enumeration e
enumeration_kind n = element.Void

abbrev pub literal_kind : Option Named → ScalarKind
literal_kind (Some (named.Literal e l)) = element.Enumeration e
literal_kind n = element.Void

-- the class that a feature's symbol names
abbrev pub owner_kind : Option Named → ScalarKind
owner_kind (Some (named.Feature c f)) = element.Class c
owner_kind n = element.Void

abbrev pub feature_read : Model → Option Named → Kind
feature_read m (Some (named.Feature c f)) = feature_kind (feature_at m f)
feature_read m n = Scalar element.Void

-- the kind that a kind of the file means; its names are there (`has_names`)
abbrev pub scalar_meant : Surroundings → WrittenScalar → ScalarKind
scalar_meant s written.Void = element.Void
scalar_meant s written.Boolean = element.Boolean
scalar_meant s written.Integer = element.Integer
scalar_meant s written.String = element.String
scalar_meant s (written.Enumeration e) = enumeration_kind (named_at s.model s.unit e.0)
scalar_meant s (written.Class c) = class_kind (named_at s.model s.unit c.0)
scalar_meant s written.AnyObject = element.AnyObject

abbrev pub kind_meant : Surroundings → WrittenKind → Kind
kind_meant s (kinds.Scalar k) = Scalar (scalar_meant s k)
kind_meant s (kinds.Collection c k) = Collection c (scalar_meant s k)

-- ---- operands

-- the operands that an instruction without a body takes, the topmost first, where they depend on none of its fields
abbrev pub fixed_operands : Instr → List Pattern
fixed_operands instrs.SelfObject = []
fixed_operands (instrs.Get n) = []
fixed_operands (instrs.Int n) = []
fixed_operands (instrs.Bool b) = []
fixed_operands (instrs.Text t) = []
fixed_operands (instrs.Enum l) = []
fixed_operands instrs.Null = []
fixed_operands instrs.Invalid = []
fixed_operands (instrs.Attr a) = []
fixed_operands (instrs.All c) = []
fixed_operands (instrs.AsColl c k) = []
fixed_operands (instrs.KindOf c) = an_object ∷ []
fixed_operands (instrs.TypeOf c) = an_object ∷ []
fixed_operands (instrs.AsType c) = an_object ∷ []
fixed_operands instrs.Add = an_integer ∷ an_integer ∷ []
fixed_operands instrs.Sub = an_integer ∷ an_integer ∷ []
fixed_operands instrs.Mul = an_integer ∷ an_integer ∷ []
fixed_operands instrs.Div = an_integer ∷ an_integer ∷ []
fixed_operands instrs.Mod = an_integer ∷ an_integer ∷ []
fixed_operands instrs.Neg = an_integer ∷ []
fixed_operands instrs.Abs = an_integer ∷ []
fixed_operands instrs.Min = an_integer ∷ an_integer ∷ []
fixed_operands instrs.Max = an_integer ∷ an_integer ∷ []
fixed_operands instrs.Lt = an_integer ∷ an_integer ∷ []
fixed_operands instrs.Le = an_integer ∷ an_integer ∷ []
fixed_operands instrs.Gt = an_integer ∷ an_integer ∷ []
fixed_operands instrs.Ge = an_integer ∷ an_integer ∷ []
fixed_operands instrs.Not = a_boolean ∷ []
fixed_operands instrs.And = a_boolean ∷ a_boolean ∷ []
fixed_operands instrs.Or = a_boolean ∷ a_boolean ∷ []
fixed_operands instrs.Xor = a_boolean ∷ a_boolean ∷ []
fixed_operands instrs.Implies = a_boolean ∷ a_boolean ∷ []
fixed_operands (instrs.Eq k) = []
fixed_operands instrs.Eqx = Anything ∷ Anything ∷ []
fixed_operands instrs.Undef = Anything ∷ []
fixed_operands instrs.IsInv = Anything ∷ []
fixed_operands instrs.TLen = a_string ∷ []
fixed_operands instrs.SubStr = an_integer ∷ an_integer ∷ a_string ∷ []
fixed_operands instrs.Size = AnyCollection ∷ []
fixed_operands instrs.IsEmpty = AnyCollection ∷ []
fixed_operands (instrs.Includes k) = []
fixed_operands (instrs.Count k) = []
fixed_operands (instrs.IncAll k) = []
fixed_operands (instrs.ExcAll k) = []
fixed_operands instrs.Sum = CollectionOf element.Integer ∷ []
fixed_operands (instrs.AsSet k) = []
fixed_operands (instrs.Let n) = []
fixed_operands (instrs.If k n m) = []
fixed_operands (instrs.ForAll n) = []
fixed_operands (instrs.Exists n) = []
fixed_operands (instrs.One n) = []
fixed_operands (instrs.Select n) = []
fixed_operands (instrs.Reject n) = []
fixed_operands (instrs.Collect n) = []
fixed_operands (instrs.CollectFlat n) = []
fixed_operands (instrs.IsUnique k n) = []
fixed_operands (instrs.Fold k n) = []

-- the operands that a block takes, the topmost first; where the instruction is none, these others
abbrev pub block_takes : Surroundings → Option BlockInstr → List Pattern → List Pattern
block_takes s None others = others
block_takes s (Some (blocks.Let n)) others = Anything ∷ []
block_takes s (Some (blocks.If k n m)) others = a_boolean ∷ []
block_takes s (Some (blocks.ForAll n)) others = AnyCollection ∷ []
block_takes s (Some (blocks.Exists n)) others = AnyCollection ∷ []
block_takes s (Some (blocks.One n)) others = AnyCollection ∷ []
block_takes s (Some (blocks.Select n)) others = AnyCollection ∷ []
block_takes s (Some (blocks.Reject n)) others = AnyCollection ∷ []
block_takes s (Some (blocks.Collect n)) others = AnyCollection ∷ []
block_takes s (Some (blocks.CollectFlat n)) others = AnyCollection ∷ []
block_takes s (Some (blocks.IsUnique k n)) others = AnyCollection ∷ []
block_takes s (Some (blocks.Fold k n)) others = Fitting (Scalar (scalar_meant s k)) ∷ AnyCollection ∷ []

-- the operands that an instruction takes, the topmost first
abbrev pub operands_of : Surroundings → Instr → List Pattern
operands_of s (instrs.Attr a) = Fitting (Scalar (owner_kind (named_at s.model s.unit a.0))) ∷ []
operands_of s (instrs.AsColl c k) = Fitting (Scalar (scalar_meant s k)) ∷ []
operands_of s (instrs.Eq k) = Fitting (kind_meant s k) ∷ Fitting (kind_meant s k) ∷ []
operands_of s (instrs.Includes k) = Fitting (Scalar (scalar_meant s k)) ∷ CollectionOf (scalar_meant s k) ∷ []
operands_of s (instrs.Count k) = Fitting (Scalar (scalar_meant s k)) ∷ CollectionOf (scalar_meant s k) ∷ []
operands_of s (instrs.IncAll k) = CollectionOf (scalar_meant s k) ∷ CollectionOf (scalar_meant s k) ∷ []
operands_of s (instrs.ExcAll k) = CollectionOf (scalar_meant s k) ∷ CollectionOf (scalar_meant s k) ∷ []
operands_of s (instrs.AsSet k) = CollectionOf (scalar_meant s k) ∷ []
operands_of s i = block_takes s (block_of i) (fixed_operands i)

-- ---- variables

-- the variable that an instruction reads is there
abbrev pub has_variable : List Kind → Instr → Bool
has_variable vars (instrs.Get n) = is_some (variable_at vars n)
has_variable vars i = true

-- ---- results

abbrev pub topmost : List Kind → Kind
topmost [] = Scalar element.Void
topmost (k ∷ ks) = k

abbrev pub or_void : Option Kind → Kind
or_void None = Scalar element.Void
or_void (Some k) = k

-- what an instruction without a body gives, where it depends on nothing else
abbrev pub fixed_result : Instr → Kind
fixed_result instrs.SelfObject = Scalar element.Void
fixed_result (instrs.Get n) = Scalar element.Void
fixed_result (instrs.Int n) = Scalar element.Integer
fixed_result (instrs.Bool b) = Scalar element.Boolean
fixed_result (instrs.Text t) = Scalar element.String
fixed_result (instrs.Enum l) = Scalar element.Void
fixed_result instrs.Null = Scalar element.Void
fixed_result instrs.Invalid = Scalar element.Void
fixed_result (instrs.Attr a) = Scalar element.Void
fixed_result (instrs.All c) = Scalar element.Void
fixed_result (instrs.AsColl c k) = Scalar element.Void
fixed_result (instrs.KindOf c) = Scalar element.Boolean
fixed_result (instrs.TypeOf c) = Scalar element.Boolean
fixed_result (instrs.AsType c) = Scalar element.Void
fixed_result instrs.Add = Scalar element.Integer
fixed_result instrs.Sub = Scalar element.Integer
fixed_result instrs.Mul = Scalar element.Integer
fixed_result instrs.Div = Scalar element.Integer
fixed_result instrs.Mod = Scalar element.Integer
fixed_result instrs.Neg = Scalar element.Integer
fixed_result instrs.Abs = Scalar element.Integer
fixed_result instrs.Min = Scalar element.Integer
fixed_result instrs.Max = Scalar element.Integer
fixed_result instrs.Lt = Scalar element.Boolean
fixed_result instrs.Le = Scalar element.Boolean
fixed_result instrs.Gt = Scalar element.Boolean
fixed_result instrs.Ge = Scalar element.Boolean
fixed_result instrs.Not = Scalar element.Boolean
fixed_result instrs.And = Scalar element.Boolean
fixed_result instrs.Or = Scalar element.Boolean
fixed_result instrs.Xor = Scalar element.Boolean
fixed_result instrs.Implies = Scalar element.Boolean
fixed_result (instrs.Eq k) = Scalar element.Boolean
fixed_result instrs.Eqx = Scalar element.Boolean
fixed_result instrs.Undef = Scalar element.Boolean
fixed_result instrs.IsInv = Scalar element.Boolean
fixed_result instrs.TLen = Scalar element.Integer
fixed_result instrs.SubStr = Scalar element.String
fixed_result instrs.Size = Scalar element.Integer
fixed_result instrs.IsEmpty = Scalar element.Boolean
fixed_result (instrs.Includes k) = Scalar element.Boolean
fixed_result (instrs.Count k) = Scalar element.Integer
fixed_result (instrs.IncAll k) = Scalar element.Boolean
fixed_result (instrs.ExcAll k) = Scalar element.Boolean
fixed_result instrs.Sum = Scalar element.Integer
fixed_result (instrs.AsSet k) = Scalar element.Void
fixed_result (instrs.Let n) = Scalar element.Void
fixed_result (instrs.If k n m) = Scalar element.Void
fixed_result (instrs.ForAll n) = Scalar element.Void
fixed_result (instrs.Exists n) = Scalar element.Void
fixed_result (instrs.One n) = Scalar element.Void
fixed_result (instrs.Select n) = Scalar element.Void
fixed_result (instrs.Reject n) = Scalar element.Void
fixed_result (instrs.Collect n) = Scalar element.Void
fixed_result (instrs.CollectFlat n) = Scalar element.Void
fixed_result (instrs.IsUnique k n) = Scalar element.Void
fixed_result (instrs.Fold k n) = Scalar element.Void

-- what an instruction without a body gives, by the variables and by the operands before it
abbrev pub result_kind : Surroundings → List Kind → Instr → List Kind → Kind
result_kind s vars instrs.SelfObject ks = Scalar (element.Class s.context)
result_kind s vars (instrs.Get n) ks = or_void (variable_at vars n)
result_kind s vars (instrs.Enum l) ks = Scalar (literal_kind (named_at s.model s.unit l.0))
result_kind s vars (instrs.Attr a) ks = feature_read s.model (named_at s.model s.unit a.0)
result_kind s vars (instrs.All c) ks = Collection collection.Set (class_kind (named_at s.model s.unit c.0))
result_kind s vars (instrs.AsColl c k) ks = Collection c (scalar_meant s k)
result_kind s vars (instrs.AsType c) ks = Scalar (class_kind (named_at s.model s.unit c.0))
result_kind s vars (instrs.AsSet k) ks = Collection collection.Set (elements_kind (topmost ks))
result_kind s vars i ks = fixed_result i

-- ---- blocks

-- how many of the operands that a block takes lie above the one that it works on
abbrev pub block_operands_above : Option BlockInstr → ℕ
block_operands_above None = 0
block_operands_above (Some (blocks.Let n)) = 0
block_operands_above (Some (blocks.If k n m)) = 0
block_operands_above (Some (blocks.ForAll n)) = 0
block_operands_above (Some (blocks.Exists n)) = 0
block_operands_above (Some (blocks.One n)) = 0
block_operands_above (Some (blocks.Select n)) = 0
block_operands_above (Some (blocks.Reject n)) = 0
block_operands_above (Some (blocks.Collect n)) = 0
block_operands_above (Some (blocks.CollectFlat n)) = 0
block_operands_above (Some (blocks.IsUnique k n)) = 0
block_operands_above (Some (blocks.Fold k n)) = 1

abbrev pub operands_above : Instr → ℕ
operands_above i = block_operands_above (block_of i)

-- the operand that a block works on: what LET binds, what IF tests, what an iteration goes over
abbrev pub block_operand : Instr → List Kind → Kind
block_operand i ks = topmost (drop (operands_above i) ks)

-- the variable of the elements of what an iteration goes over
abbrev pub an_element : Kind → List Kind
an_element k = Scalar (elements_kind k) ∷ []

-- the variables that a block with one body binds, the newest first, by the operand that it works on; of no other
-- instruction this is asked
abbrev pub block_binds : Surroundings → Option BlockInstr → Kind → List Kind
block_binds s None k = an_element k
block_binds s (Some (blocks.Let n)) k = k ∷ []
block_binds s (Some (blocks.If w n m)) k = an_element k
block_binds s (Some (blocks.ForAll n)) k = an_element k
block_binds s (Some (blocks.Exists n)) k = an_element k
block_binds s (Some (blocks.One n)) k = an_element k
block_binds s (Some (blocks.Select n)) k = an_element k
block_binds s (Some (blocks.Reject n)) k = an_element k
block_binds s (Some (blocks.Collect n)) k = an_element k
block_binds s (Some (blocks.CollectFlat n)) k = an_element k
block_binds s (Some (blocks.IsUnique w n)) k = an_element k
block_binds s (Some (blocks.Fold w n)) k = Scalar (scalar_meant s w) ∷ an_element k

abbrev pub binds : Surroundings → Instr → Kind → List Kind
binds s i k = block_binds s (block_of i) k

-- how many these are
abbrev pub block_bound_count : Option BlockInstr → ℕ
block_bound_count None = 1
block_bound_count (Some (blocks.Let n)) = 1
block_bound_count (Some (blocks.If k n m)) = 1
block_bound_count (Some (blocks.ForAll n)) = 1
block_bound_count (Some (blocks.Exists n)) = 1
block_bound_count (Some (blocks.One n)) = 1
block_bound_count (Some (blocks.Select n)) = 1
block_bound_count (Some (blocks.Reject n)) = 1
block_bound_count (Some (blocks.Collect n)) = 1
block_bound_count (Some (blocks.CollectFlat n)) = 1
block_bound_count (Some (blocks.IsUnique k n)) = 1
block_bound_count (Some (blocks.Fold k n)) = 2

abbrev pub bound_count : Instr → ℕ
bound_count i = block_bound_count (block_of i)

-- what the bodies of a block end with
abbrev pub block_ends_with : Surroundings → Option BlockInstr → Pattern
block_ends_with s None = a_boolean
block_ends_with s (Some (blocks.Let n)) = Anything
block_ends_with s (Some (blocks.If k n m)) = Fitting (kind_meant s k)
block_ends_with s (Some (blocks.ForAll n)) = a_boolean
block_ends_with s (Some (blocks.Exists n)) = a_boolean
block_ends_with s (Some (blocks.One n)) = a_boolean
block_ends_with s (Some (blocks.Select n)) = a_boolean
block_ends_with s (Some (blocks.Reject n)) = a_boolean
block_ends_with s (Some (blocks.Collect n)) = AnySingle
block_ends_with s (Some (blocks.CollectFlat n)) = AnyCollection
block_ends_with s (Some (blocks.IsUnique k n)) = Fitting (Scalar (scalar_meant s k))
block_ends_with s (Some (blocks.Fold k n)) = Fitting (Scalar (scalar_meant s k))

abbrev pub ends_with : Surroundings → Instr → Pattern
ends_with s i = block_ends_with s (block_of i)

-- the kind of what is collected from the operand of a block; of a single value, which none takes, a Bag
abbrev pub collection_of : Kind → CollectionKind
collection_of (Scalar k) = collection.Bag
collection_of (Collection c k) = collected_kind c

-- what a block gives, by the operand that it works on and by what its body ends with
abbrev pub block_yields : Surroundings → Option BlockInstr → Kind → Kind → Kind
block_yields s None k r = Scalar element.Boolean
block_yields s (Some (blocks.Let n)) k r = r
block_yields s (Some (blocks.If w n m)) k r = kind_meant s w
block_yields s (Some (blocks.ForAll n)) k r = Scalar element.Boolean
block_yields s (Some (blocks.Exists n)) k r = Scalar element.Boolean
block_yields s (Some (blocks.One n)) k r = Scalar element.Boolean
block_yields s (Some (blocks.Select n)) k r = k
block_yields s (Some (blocks.Reject n)) k r = k
block_yields s (Some (blocks.Collect n)) k r = Collection (collection_of k) (elements_kind r)
block_yields s (Some (blocks.CollectFlat n)) k r = Collection (collection_of k) (elements_kind r)
block_yields s (Some (blocks.IsUnique w n)) k r = Scalar element.Boolean
block_yields s (Some (blocks.Fold w n)) k r = Scalar (scalar_meant s w)

abbrev pub yields : Surroundings → Instr → Kind → Kind → Kind
yields s i k r = block_yields s (block_of i) k r

-- ---- memory

-- a block that gathers a collection of its own when it is run
abbrev pub block_gathers : Option BlockInstr → Bool
block_gathers None = false
block_gathers (Some (blocks.Let n)) = false
block_gathers (Some (blocks.If k n m)) = false
block_gathers (Some (blocks.ForAll n)) = false
block_gathers (Some (blocks.Exists n)) = false
block_gathers (Some (blocks.One n)) = false
block_gathers (Some (blocks.Select n)) = true
block_gathers (Some (blocks.Reject n)) = true
block_gathers (Some (blocks.Collect n)) = true
block_gathers (Some (blocks.CollectFlat n)) = true
block_gathers (Some (blocks.IsUnique k n)) = true
block_gathers (Some (blocks.Fold k n)) = false

-- an instruction that does
abbrev pub gathers : Instr → Bool
gathers (instrs.AsColl c k) = true
gathers (instrs.AsSet k) = true
gathers i = block_gathers (block_of i)
