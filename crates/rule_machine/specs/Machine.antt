-- Configurations, their steps, and runs.
use Rattle.std.specs.Prelude.{ℕ, zero, suc, ◌&&◌, Bool, true, false, List, [], ◌∷◌, ◌++◌, length, drop, Option, Some, None, option_and_then, unwrap_or, nat_le, if◌then◌else◌}
use Rattle.std.specs.Option.{option_map}
use Rattle.std.specs.Str.{chars}
use Rattle.imkl_population.specs.declared.scalar.Scalar.TheVariants as scalar
use Rattle.imkl_population.specs.Population.{Population}
use Rattle.rule_code.specs.declared.instruction.Instr.{Instr}
use Rattle.rule_code.specs.declared.instruction.Instr.TheVariants as instrs
use Rattle.rule_code.specs.Content.{Content, text_at}
use Rattle.rule_verify.specs.declared.block_instr.BlockInstr.{BlockInstr}
use Rattle.rule_verify.specs.declared.block_instr.BlockInstr.TheVariants as blocks
use Rattle.rule_verify.specs.declared.named.Named.{Named}
use Rattle.rule_verify.specs.declared.named.Named.TheVariants as named
use Rattle.rule_verify.specs.declared.pattern.Pattern.{Pattern}
use Rattle.rule_verify.specs.declared.pattern.Pattern.TheVariants.{Fitting, Anything, AnySingle, AnyCollection, CollectionOf}
use Rattle.rule_verify.specs.Symbols.{named_at}
use Rattle.rule_verify.specs.CodeTree.{CodeTree, End, Plain, Block, Branch, Torn, block_of}
use Rattle.rule_verify.specs.UnitRules.{unit_rule, context_class}
use Rattle.ocl_base.specs.Lists.{variable_at}
use Rattle.rule_verify.specs.InstrKinds.{Surroundings, surroundings, has_names, operands_of, bound_count, ends_with}
use Rattle.rule_values.specs.Value as value
use Rattle.rule_values.specs.Value.{Element, Value, is_in, is_collection_in, truth_value, object_value, element_value}
use Rattle.rule_values.specs.Operations.{addition, subtraction, multiplication, division, remainder, lesser, greater, negative, absolute, less_than, at_most, negation, conjunction, disjunction, exclusive_disjunction, implication, equality, both_null, undefined_test, invalid_test, text_length, substring, kind_test, type_test, cast, value_read, all_instances, as_collection, collection_size, emptiness, membership, occurrence_count, inclusion, exclusion, summation, as_set}
use Rattle.rule_values.specs.Endings.{Source}
use Rattle.rule_machine.specs.IterationResults.{ending}

-- what code is run over: a unit, the index of a rule and its context class, and a population
pub record Setting : Type 0 where
  pub unit : Content
  pub rule : ℕ
  pub context : ℕ
  pub population : Population

-- the setting of a rule of a unit, by its index
abbrev pub setting_of : Content → Population → ℕ → Setting
setting_of u p n = record { unit = u; rule = n; context = unwrap_or (context_class p.model u (unit_rule u n)) 0; population = p }

abbrev pub judged_by : Setting → Surroundings
judged_by s = surroundings s.population.model s.unit s.rule s.context

-- ---- operands

-- a value is what an operand may be
abbrev pub is_what : Population → Pattern → Value → Bool
is_what p (Fitting k) v = is_in p v k
is_what p Anything v = true
is_what p AnySingle (value.Collection c es) = false
is_what p AnySingle v = true
is_what p AnyCollection (value.Collection c es) = true
is_what p AnyCollection v = is_invalid v
  where
    is_invalid : Value → Bool
    is_invalid value.Invalid = true
    is_invalid w = false
is_what p (CollectionOf k) (value.Collection c es) = is_collection_in p c es k
is_what p (CollectionOf k) value.Invalid = true
is_what p (CollectionOf k) v = false

-- the operands that are taken are there, and each is what it may be
abbrev pub are_what : Population → List Pattern → List Value → Bool
are_what p [] os = true
are_what p (w ∷ ws) [] = false
are_what p (w ∷ ws) (o ∷ os) = is_what p w o && are_what p ws os

-- the operands below those that an instruction takes, where its names are there and its operands are there and right
abbrev pub operands_below : Setting → Instr → List Value → Option (List Value)
operands_below s i os =
    if has_names (judged_by s) i && are_what s.population (operands_of (judged_by s) i) os
    then Some (drop (length (operands_of (judged_by s) i)) os)
    else None

-- ---- instructions without a body

abbrev pub literal_named : Option Named → Option Value
literal_named (Some (named.Literal e l)) = Some (value.Single (scalar.Literal e l))
literal_named n = None

abbrev pub on_class_named : (ℕ → Value) → Option Named → Option Value
on_class_named f (Some (named.Class c)) = Some (f c)
on_class_named f n = None

abbrev pub value_named_read : Population → Option Named → Value → Option Value
value_named_read p (Some (named.Feature c f)) v = value_read p f v
value_named_read p n v = None

-- what a symbol of the unit names
abbrev pub symbol_named : Setting → ℕ → Option Named
symbol_named s n = named_at s.population.model s.unit n

-- what an instruction makes of the variables and of its operands, the topmost first
abbrev pub result_of : Setting → List Value → Instr → List Value → Option Value
result_of s vars instrs.SelfObject os = variable_at vars 0
result_of s vars (instrs.Get n) os = variable_at vars n
result_of s vars (instrs.Int n) os = Some (value.Single (scalar.Int n))
result_of s vars (instrs.Bool b) os = Some (truth_value b)
result_of s vars (instrs.Text t) os = Some (value.Single (scalar.Text (chars (text_at s.unit.texts t.0))))
result_of s vars (instrs.Enum l) os = literal_named (symbol_named s l.0)
result_of s vars instrs.Null os = Some value.Null
result_of s vars instrs.Invalid os = Some value.Invalid
result_of s vars (instrs.Attr a) (v ∷ os) = value_named_read s.population (symbol_named s a.0) v
result_of s vars (instrs.All c) os = on_class_named (all_instances s.population) (symbol_named s c.0)
result_of s vars (instrs.AsColl c k) (v ∷ os) = Some (as_collection c v)
result_of s vars (instrs.KindOf c) (v ∷ os) = on_class_named (λ n. kind_test s.population n v) (symbol_named s c.0)
result_of s vars (instrs.TypeOf c) (v ∷ os) = on_class_named (λ n. type_test s.population n v) (symbol_named s c.0)
result_of s vars (instrs.AsType c) (v ∷ os) = on_class_named (λ n. cast s.population n v) (symbol_named s c.0)
result_of s vars instrs.Add (w ∷ v ∷ os) = Some (addition v w)
result_of s vars instrs.Sub (w ∷ v ∷ os) = Some (subtraction v w)
result_of s vars instrs.Mul (w ∷ v ∷ os) = Some (multiplication v w)
result_of s vars instrs.Div (w ∷ v ∷ os) = Some (division v w)
result_of s vars instrs.Mod (w ∷ v ∷ os) = Some (remainder v w)
result_of s vars instrs.Neg (v ∷ os) = Some (negative v)
result_of s vars instrs.Abs (v ∷ os) = Some (absolute v)
result_of s vars instrs.Min (w ∷ v ∷ os) = Some (lesser v w)
result_of s vars instrs.Max (w ∷ v ∷ os) = Some (greater v w)
result_of s vars instrs.Lt (w ∷ v ∷ os) = Some (less_than v w)
result_of s vars instrs.Le (w ∷ v ∷ os) = Some (at_most v w)
result_of s vars instrs.Gt (w ∷ v ∷ os) = Some (less_than w v)
result_of s vars instrs.Ge (w ∷ v ∷ os) = Some (at_most w v)
result_of s vars instrs.Not (v ∷ os) = Some (negation v)
result_of s vars instrs.And (w ∷ v ∷ os) = Some (conjunction v w)
result_of s vars instrs.Or (w ∷ v ∷ os) = Some (disjunction v w)
result_of s vars instrs.Xor (w ∷ v ∷ os) = Some (exclusive_disjunction v w)
result_of s vars instrs.Implies (w ∷ v ∷ os) = Some (implication v w)
result_of s vars (instrs.Eq k) (w ∷ v ∷ os) = Some (equality v w)
result_of s vars instrs.Eqx (w ∷ v ∷ os) = Some (both_null v w)
result_of s vars instrs.Undef (v ∷ os) = Some (undefined_test v)
result_of s vars instrs.IsInv (v ∷ os) = Some (invalid_test v)
result_of s vars instrs.TLen (v ∷ os) = Some (text_length v)
result_of s vars instrs.SubStr (upper ∷ lower ∷ v ∷ os) = Some (substring v lower upper)
result_of s vars instrs.Size (v ∷ os) = Some (collection_size v)
result_of s vars instrs.IsEmpty (v ∷ os) = Some (emptiness v)
result_of s vars (instrs.Includes k) (w ∷ v ∷ os) = Some (membership v w)
result_of s vars (instrs.Count k) (w ∷ v ∷ os) = Some (occurrence_count v w)
result_of s vars (instrs.IncAll k) (w ∷ v ∷ os) = Some (inclusion v w)
result_of s vars (instrs.ExcAll k) (w ∷ v ∷ os) = Some (exclusion v w)
result_of s vars instrs.Sum (v ∷ os) = Some (summation v)
result_of s vars (instrs.AsSet k) (v ∷ os) = Some (as_set v)
result_of s vars i os = None

-- the result in the place of the operands that are taken
abbrev pub performed : Setting → List Value → Instr → List Value → Option (List Value)
performed s vars i os = option_and_then (λ left. option_map (λ v. v ∷ left) (result_of s vars i os)) (operands_below s i os)

-- ---- configurations

-- What is pending: a sequence of instructions; the end of a LET; an iteration before its first turn, and one in a turn,
-- with the elements that are left and what is kept of the turns before, of FOLD the accumulator; an iteration over invalid.
pub data Piece : Type 0 where
  Sequence : CodeTree → Piece
  LetEnd : Piece
  Opened : Instr → CodeTree → Source → List Value → Piece
  Turning : Instr → CodeTree → Source → List Element → List Value → Piece
  Skipped : Piece

-- the pending code, the variables (the newest first) and the operands (the topmost first)
pub record Configuration : Type 0 where
  pub pending : List Piece
  pub variables : List Value
  pub operands : List Value

-- empty sequences drop out without a step
abbrev pub settle : List Piece → List Piece
settle (Sequence End ∷ ps) = settle ps
settle ps = ps

abbrev pub configuration : List Piece → List Value → List Value → Configuration
configuration ps vars os = record { pending = settle ps; variables = vars; operands = os }

-- ---- steps, by cases

-- a condition chooses a branch; null and invalid choose none, and the IF is invalid
abbrev pub branched : Value → CodeTree → CodeTree → List Piece → List Value → List Value → Option Configuration
branched (value.Single (scalar.Bool true)) first second ps vars os = Some (configuration (Sequence first ∷ ps) vars os)
branched (value.Single (scalar.Bool false)) first second ps vars os = Some (configuration (Sequence second ∷ ps) vars os)
branched value.Null first second ps vars os = Some (configuration ps vars (value.Invalid ∷ os))
branched value.Invalid first second ps vars os = Some (configuration ps vars (value.Invalid ∷ os))
branched v first second ps vars os = None

-- an iteration is opened over a collection, with what it keeps from its beginning on, and skipped over invalid
abbrev pub opened_over : Instr → CodeTree → Value → List Value → List Piece → List Value → List Value → Option Configuration
opened_over i body (value.Collection c es) kept ps vars os =
    Some (configuration (Opened i body (record { kind = c; elements = es }) kept ∷ ps) vars os)
opened_over i body value.Invalid kept ps vars os = Some (configuration (Skipped ∷ ps) vars os)
opened_over i body v kept ps vars os = None

-- FOLD goes over the collection below its start value, which it keeps
abbrev pub fold_opened : Instr → CodeTree → Value → List Value → List Piece → List Value → List Value → Option Configuration
fold_opened i body start [] ps vars left = None
fold_opened i body start (v ∷ os) ps vars left = opened_over i body v (start ∷ []) ps vars left

-- LET binds the value that it takes; every other block with one body is an iteration. By the topmost operand and those
-- below it.
abbrev pub block_opened_by : Option BlockInstr → Instr → CodeTree → Value → List Value → List Piece → List Value → List Value → Option Configuration
block_opened_by None i body v os ps vars left = opened_over i body v [] ps vars left
block_opened_by (Some (blocks.Let n)) i body v os ps vars left = Some (configuration (Sequence body ∷ LetEnd ∷ ps) (v ∷ vars) left)
block_opened_by (Some (blocks.If k n m)) i body v os ps vars left = opened_over i body v [] ps vars left
block_opened_by (Some (blocks.ForAll n)) i body v os ps vars left = opened_over i body v [] ps vars left
block_opened_by (Some (blocks.Exists n)) i body v os ps vars left = opened_over i body v [] ps vars left
block_opened_by (Some (blocks.One n)) i body v os ps vars left = opened_over i body v [] ps vars left
block_opened_by (Some (blocks.Select n)) i body v os ps vars left = opened_over i body v [] ps vars left
block_opened_by (Some (blocks.Reject n)) i body v os ps vars left = opened_over i body v [] ps vars left
block_opened_by (Some (blocks.Collect n)) i body v os ps vars left = opened_over i body v [] ps vars left
block_opened_by (Some (blocks.CollectFlat n)) i body v os ps vars left = opened_over i body v [] ps vars left
block_opened_by (Some (blocks.IsUnique k n)) i body v os ps vars left = opened_over i body v [] ps vars left
block_opened_by (Some (blocks.Fold k n)) i body v os ps vars left = fold_opened i body v os ps vars left

abbrev pub block_opened : Instr → CodeTree → List Value → List Piece → List Value → List Value → Option Configuration
block_opened i body [] ps vars left = None
block_opened i body (v ∷ os) ps vars left = block_opened_by (block_of i) i body v os ps vars left

-- what a turn binds, the newest first
abbrev pub block_bound_values : Option BlockInstr → Element → List Value → List Value
block_bound_values None e kept = element_value e ∷ []
block_bound_values (Some (blocks.Let n)) e kept = element_value e ∷ []
block_bound_values (Some (blocks.If k n m)) e kept = element_value e ∷ []
block_bound_values (Some (blocks.ForAll n)) e kept = element_value e ∷ []
block_bound_values (Some (blocks.Exists n)) e kept = element_value e ∷ []
block_bound_values (Some (blocks.One n)) e kept = element_value e ∷ []
block_bound_values (Some (blocks.Select n)) e kept = element_value e ∷ []
block_bound_values (Some (blocks.Reject n)) e kept = element_value e ∷ []
block_bound_values (Some (blocks.Collect n)) e kept = element_value e ∷ []
block_bound_values (Some (blocks.CollectFlat n)) e kept = element_value e ∷ []
block_bound_values (Some (blocks.IsUnique k n)) e kept = element_value e ∷ []
block_bound_values (Some (blocks.Fold k n)) e kept = kept ++ element_value e ∷ []

abbrev pub bound_values : Instr → Element → List Value → List Value
bound_values i e kept = block_bound_values (block_of i) e kept

-- what is kept with the value that a body gave: of FOLD that value alone, the accumulator of the next turn
abbrev pub block_keeping : Option BlockInstr → List Value → Value → List Value
block_keeping None kept v = kept ++ v ∷ []
block_keeping (Some (blocks.Let n)) kept v = kept ++ v ∷ []
block_keeping (Some (blocks.If k n m)) kept v = kept ++ v ∷ []
block_keeping (Some (blocks.ForAll n)) kept v = kept ++ v ∷ []
block_keeping (Some (blocks.Exists n)) kept v = kept ++ v ∷ []
block_keeping (Some (blocks.One n)) kept v = kept ++ v ∷ []
block_keeping (Some (blocks.Select n)) kept v = kept ++ v ∷ []
block_keeping (Some (blocks.Reject n)) kept v = kept ++ v ∷ []
block_keeping (Some (blocks.Collect n)) kept v = kept ++ v ∷ []
block_keeping (Some (blocks.CollectFlat n)) kept v = kept ++ v ∷ []
block_keeping (Some (blocks.IsUnique k n)) kept v = kept ++ v ∷ []
block_keeping (Some (blocks.Fold k n)) kept v = v ∷ []

abbrev pub keeping : Instr → List Value → Value → List Value
keeping i kept v = block_keeping (block_of i) kept v

-- the next turn of an iteration binds the next element; with none left it ends
abbrev pub turned : Instr → CodeTree → Source → List Element → List Value → List Piece → List Value → List Value → Configuration
turned i body source [] kept ps vars os = configuration ps vars (ending i source kept ∷ os)
turned i body source (e ∷ left) kept ps vars os =
    configuration (Sequence body ∷ Turning i body source left kept ∷ ps) (bound_values i e kept ++ vars) os

-- an IF takes its one operand
abbrev pub on_operand : Setting → Instr → List Value → (Value → List Value → Option Configuration) → Option Configuration
on_operand s i [] go = None
on_operand s i (o ∷ os) go = option_and_then (go o) (operands_below s i (o ∷ os))

-- the step of the first instruction of a sequence
abbrev pub advanced : Setting → CodeTree → List Piece → List Value → List Value → Option Configuration
advanced s End ps vars os = None
advanced s (Plain i rest) ps vars os = option_map (configuration (Sequence rest ∷ ps) vars) (performed s vars i os)
advanced s (Block i body rest) ps vars os =
    option_and_then (λ left. block_opened i body os (Sequence rest ∷ ps) vars left) (operands_below s i os)
advanced s (Branch i first second rest) ps vars os =
    on_operand s i os (λ o left. branched o first second (Sequence rest ∷ ps) vars left)
advanced s (Torn i length_left) ps vars os = None

-- the step of the first piece that is pending
abbrev pub piece_advanced : Setting → List Piece → List Value → List Value → Option Configuration
piece_advanced s [] vars os = None
piece_advanced s (Sequence t ∷ ps) vars os = advanced s t ps vars os
piece_advanced s (LetEnd ∷ ps) [] os = None
piece_advanced s (LetEnd ∷ ps) (v ∷ vars) os = Some (configuration ps vars os)
piece_advanced s (Opened i body source kept ∷ ps) vars os = Some (turned i body source source.elements kept ps vars os)
piece_advanced s (Turning i body source left kept ∷ ps) vars (o ∷ os) =
    if nat_le (bound_count i) (length vars) && is_what s.population (ends_with (judged_by s) i) o
    then Some (turned i body source left (keeping i kept o) ps (drop (bound_count i) vars) os)
    else None
piece_advanced s (Turning i body source left kept ∷ ps) vars os = None
piece_advanced s (Skipped ∷ ps) vars os = Some (configuration ps vars (value.Invalid ∷ os))

-- one step, or none where no case applies
abbrev pub step : Setting → Configuration → Option Configuration
step s c = piece_advanced s c.pending c.variables c.operands

-- n steps
abbrev pub run : Setting → ℕ → Configuration → Option Configuration
run s zero c = Some c
run s (suc n) c = option_and_then (run s n) (step s c)

-- a tree is pending, variable 0 is the object, there are no operands
abbrev pub start : CodeTree → ℕ → Configuration
start t o = configuration (Sequence t ∷ []) (object_value o ∷ []) []
