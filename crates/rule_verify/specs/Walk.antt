-- The verifier's walk: its code and how it stands to the definitions.
use Rattle.std.specs.Prelude.{◌≡◌, ℕ, ◌+◌, ◌<◌, ◌≤◌, List, [], ◌∷◌, length, Bool, true, false, Option, Some, None, Result, Ok, Err, slice_range}
use Rattle.imkl_model.specs.ClassModel.{Model}
use Rattle.imkl_model.specs.WellFormed.{IsClassModel}
use Rattle.ocl_base.specs.Steps.{◌>>=◌, Fails}
use Rattle.ocl_kinds.specs.declared.kind.Kind.{Kind}
use Rattle.rule_code.specs.declared.symbol.SymbolNumber.{SymbolNumber}
use Rattle.rule_code.specs.declared.instruction.Instr.{Instr}
use Rattle.rule_verify.specs.declared.fault.VerifyFault.{VerifyFault}
use Rattle.rule_verify.specs.declared.code.RuleCode.{RuleCode}
use Rattle.rule_verify.specs.declared.pattern.Pattern.{Pattern}
use Rattle.rule_verify.specs.declared.pattern.Operands.{Operands}
use Rattle.rule_verify.specs.declared.pattern.Operands.TheVariants.{Nothing, One, Two, Three}
use Rattle.rule_verify.specs.declared.depths.Depths.{Depths}
use Rattle.rule_verify.specs.declared.place.Place.{Place}
use Rattle.rule_verify.specs.declared.shape.Shape.{Shape}
use Rattle.rule_verify.specs.declared.shape.Shape.TheVariants.{Single, OneBody, TwoBodies}
use Rattle.rule_verify.specs.CodeTree.{code_tree}
use Rattle.rule_verify.specs.CodeDepths.{deeper, deepest}
use Rattle.rule_verify.specs.Faults.{verify_fault}
use Rattle.rule_verify.specs.InstrKinds.{Surroundings, surroundings, block_operand, ends_with}
use Rattle.rule_verify.specs.declared.limits.TheConstants.{MAX_BLOCKS, MAX_OPERANDS}
use Rattle.rule_verify.specs.KindRules.{InstrFault, Enclosing, taken, ended_with, kinds_after}
use Rattle.rule_verify.specs.Known.{AreKnownKinds}
use Rattle.rule_verify.specs.Patterns.{all_match, below}

-- ---- single instructions

-- the symbol that was found, in a list
abbrev pub symbol_list : Option SymbolNumber → List ℕ
symbol_list None = []
symbol_list (Some s) = s.0 ∷ []

-- what an instruction takes, in a list
abbrev pub operand_list : Operands → List Pattern
operand_list Nothing = []
operand_list (One p) = p ∷ []
operand_list (Two p q) = p ∷ q ∷ []
operand_list (Three p q r) = p ∷ q ∷ r ∷ []

abbrev pub surroundings_of : RuleCode → Surroundings
surroundings_of r = surroundings r.resolved.now.model r.resolved.now.unit r.index r.context

-- the operands are taken, if each is what it may be
abbrev pub AreTaken : Model → List Pattern → List Kind → Bool → List Kind → Type 0
AreTaken m ws old true new = (all_match m ws old ≡ true) × (new ≡ below ws old)
AreTaken m ws old false new = all_match m ws old ≡ false

-- what was returned is what is given: a fault, or what the value means
abbrev pub Leads : {X Y : Type 0} → Result X VerifyFault → Result Y InstrFault → (X → Result Y InstrFault) → Type 0
Leads (Ok x) given later = given ≡ later x
Leads (Err e) given later = Fails verify_fault e given

-- ---- places

-- the context class is one of the class model
pub record IsRuleCode (r : RuleCode) : Type 0 where
  pub model : IsClassModel r.resolved.now.model
  pub context : r.context < length r.resolved.now.model.classes

-- an instruction of the code or the end of its sequence, with operands and variables within the limits
pub record IsPlace (r : RuleCode) (variables : List Kind) (p : Place) (operands : List Kind) : Type 0 where
  pub before : p.at ≤ p.end
  pub within : p.end ≤ length r.code.now
  pub room : p.covered + length operands ≤ MAX_OPERANDS
  pub nested : p.open_blocks ≤ MAX_BLOCKS
  pub variables_known : AreKnownKinds r.resolved.now.model variables
  pub operands_known : AreKnownKinds r.resolved.now.model operands

abbrev pub enclosing : List Kind → Place → Enclosing
enclosing variables p = record { variables = variables; covered = p.covered; open_blocks = p.open_blocks }

-- the operands at the end of the sequence
abbrev pub kinds_from : RuleCode → List Kind → Place → List Kind → Result (List Kind) InstrFault
kinds_from r variables p operands =
    kinds_after (surroundings_of r) (code_tree (slice_range r.code.now p.at p.end)) (enclosing variables p) p.at operands

-- how deep a place is
abbrev pub depth_at : List Kind → Place → List Kind → Depths
depth_at variables p operands = record { operands = p.covered + length operands; variables = length variables; blocks = p.open_blocks }

-- how deep the sequence goes from a place on
abbrev pub depths_from : RuleCode → List Kind → Place → List Kind → Depths
depths_from r variables p operands =
    deepest (surroundings_of r) (code_tree (slice_range r.code.now p.at p.end)) (depth_at variables p operands)

-- another instruction of the same sequence
abbrev pub moved : Place → ℕ → Place
moved p at = record p { at = at }

-- a sequence inside a block that leaves these operands below it
abbrev pub place_inside : Place → List Kind → ℕ → ℕ → Place
place_inside p left at end = record { at = at; end = end; covered = p.covered + length left; open_blocks = p.open_blocks + 1 }

-- The walk came from a place on to the instruction at an index. What is left comes to the same, of operands and of
-- depths.
pub record Gone (r : RuleCode) (variables : List Kind) (old : Depths) (p : Place) (operands : List Kind) (next : ℕ) (left : List Kind) (new : Depths) (after : List Kind) : Type 0 where
  pub kinds : kinds_from r variables p operands ≡ kinds_from r variables (moved p next) after
  pub kept : left ≡ variables
  pub depths : deeper old (depths_from r variables p operands) ≡ deeper new (depths_from r variables (moved p next) after)
  pub forward : p.at ≤ next
  pub place : IsPlace r variables (moved p next) after

-- one instruction further, with its bodies, or the first fault
abbrev pub Goes : RuleCode → List Kind → Depths → Place → List Kind → Result ℕ VerifyFault → List Kind → Depths → List Kind → Type 0
Goes r variables old p operands (Ok next) left new after = Gone r variables old p operands next left new after × (p.at < next)
Goes r variables old p operands (Err e) left new after = Fails verify_fault e (kinds_from r variables p operands)

-- the instruction is a block, whose bodies have n instructions
abbrev pub IsBlock : Shape → ℕ → Type 0
IsBlock Single n = ⊥
IsBlock (OneBody m) n = n ≡ m
IsBlock (TwoBodies l m) n = n ≡ l + m

-- a block with n instructions in its bodies was opened, with this operand
pub record Opened (r : RuleCode) (variables : List Kind) (old : Depths) (p : Place) (operands : List Kind) (i : Instr) (n : ℕ) (operand : Kind) (left : List Kind) (new : Depths) (after : List Kind) : Type 0 where
  pub takes : taken (surroundings_of r) variables i p.at operands ≡ Ok after
  pub first : operand ≡ block_operand i operands
  pub nests : p.at + 1 + n ≤ p.end
  pub shallow : p.open_blocks < MAX_BLOCKS
  pub kept : left ≡ variables
  pub depths : new ≡ deeper old (depth_at variables p operands)
  pub known : AreKnownKinds r.resolved.now.model after

abbrev pub Opens : RuleCode → List Kind → Depths → Place → List Kind → Instr → ℕ → Result Kind VerifyFault → List Kind → Depths → List Kind → Type 0
Opens r variables old p operands i n (Ok operand) left new after = Opened r variables old p operands i n operand left new after
Opens r variables old p operands i n (Err e) left new after = Fails verify_fault e (kinds_from r variables p operands)

-- what a body ends with
abbrev pub body_ends : RuleCode → List Kind → Place → Instr → ℕ → Result Kind InstrFault
body_ends r variables p i at = kinds_from r variables p [] >>= ended_with (surroundings_of r) (ends_with (surroundings_of r) i) at

-- a sequence was walked to its end
pub record Walked (r : RuleCode) (variables : List Kind) (old : Depths) (p : Place) (left : List Kind) (new : Depths) : Type 0 where
  pub kept : left ≡ variables
  pub depths : new ≡ deeper old (depths_from r variables p [])
