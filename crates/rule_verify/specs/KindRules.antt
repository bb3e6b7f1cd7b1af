-- The rules of kinds, on code trees: the operands after code, or its first fault.
use Rattle.std.specs.Prelude.{ℕ, suc, ◌+◌, List, [], ◌∷◌, ◌++◌, length, Result, Ok, Err, nat_le, nat_lt}
use Rattle.ocl_base.specs.Steps.{◌>>=◌, check}
use Rattle.ocl_kinds.specs.declared.kind.Kind.{Kind}
use Rattle.ocl_kinds.specs.declared.kind.Kind.TheVariants.{Scalar}
use Rattle.ocl_kinds.specs.declared.kind.ScalarKind.TheVariants as element
use Rattle.rule_code.specs.declared.instruction.Instr.{Instr}
use Rattle.rule_verify.specs.declared.fault.VerifyFlaw.{VerifyFlaw}
use Rattle.rule_verify.specs.declared.fault.VerifyFlaw.TheVariants as flaws
use Rattle.rule_verify.specs.CodeTree.{CodeTree, End, Plain, Block, Branch, Torn, instr_count}
use Rattle.rule_verify.specs.declared.pattern.Pattern.{Pattern}
use Rattle.rule_verify.specs.Patterns.{matches, a_boolean, are_there, all_match, below}
use Rattle.rule_verify.specs.InstrKinds.{Surroundings, has_names, has_variable, operands_of, result_kind, block_operand, binds, ends_with, yields}
use Rattle.rule_verify.specs.declared.limits.TheConstants.{MAX_BLOCKS, MAX_OPERANDS}

-- a fault of the instruction at an index of a rule
pub record InstrFault : Type 0 where
  pub flaw : VerifyFlaw
  pub rule : ℕ
  pub at : ℕ

abbrev pub instr_fault : VerifyFlaw → ℕ → ℕ → InstrFault
instr_fault flaw rule at = record { flaw = flaw; rule = rule; at = at }

-- ---- what encloses a sequence

-- the variables, the newest first; how many operands lie below the blocks that are open; how many blocks are open
pub record Enclosing : Type 0 where
  pub variables : List Kind
  pub covered : ℕ
  pub open_blocks : ℕ

-- inside a block that leaves these operands below its body
abbrev pub in_block : Enclosing → List Kind → List Kind → Enclosing
in_block e variables left = record { variables = variables; covered = e.covered + length left; open_blocks = e.open_blocks + 1 }

-- ---- one instruction; the checks stand in the order of the faults

-- its names, its variable and its operands are there and right: the operands below
abbrev pub taken : Surroundings → List Kind → Instr → ℕ → List Kind → Result (List Kind) InstrFault
taken s variables i at ks = do
  _ ← check (has_names s i) (instr_fault flaws.NoSuchName s.rule at)
  _ ← check (has_variable variables i) (instr_fault flaws.BadVariable s.rule at)
  _ ← check (are_there (operands_of s i) ks) (instr_fault flaws.MissingOperand s.rule at)
  _ ← check (all_match s.model (operands_of s i) ks) (instr_fault flaws.WrongKind s.rule at)
  Ok (below (operands_of s i) ks)

-- the operands after an instruction without a body
abbrev pub after_plain : Surroundings → Enclosing → Instr → ℕ → List Kind → Result (List Kind) InstrFault
after_plain s e i at ks = do
  left ← taken s e.variables i at ks
  _ ← check (nat_le (e.covered + suc (length left)) MAX_OPERANDS) (instr_fault flaws.StackLimit s.rule at)
  Ok (result_kind s e.variables i ks ∷ left)

-- a block that nests is opened: the operands below
abbrev pub opened : Surroundings → Enclosing → Instr → ℕ → List Kind → Result (List Kind) InstrFault
opened s e i at ks = do
  left ← taken s e.variables i at ks
  _ ← check (nat_lt e.open_blocks MAX_BLOCKS) (instr_fault flaws.NestLimit s.rule at)
  Ok left

-- a body ends with exactly one value, which is what it may be; else the fault is that of the block
abbrev pub ended_with : Surroundings → Pattern → ℕ → List Kind → Result Kind InstrFault
ended_with s w at [] = Err (instr_fault flaws.LeftOver s.rule at)
ended_with s w at (k ∷ []) = do
  _ ← check (matches s.model w k) (instr_fault flaws.LeftOver s.rule at)
  Ok k
ended_with s w at (k ∷ l ∷ ks) = Err (instr_fault flaws.LeftOver s.rule at)

-- ---- code

-- the operands after a tree whose first instruction has this index
abbrev pub kinds_after : Surroundings → CodeTree → Enclosing → ℕ → List Kind → Result (List Kind) InstrFault
kinds_after s End e at ks = Ok ks
kinds_after s (Plain i rest) e at ks = do
  after ← after_plain s e i at ks
  kinds_after s rest e (at + 1) after
kinds_after s (Block i body rest) e at ks = do
  left ← opened s e i at ks
  ends ← kinds_after s body (in_block e (binds s i (block_operand i ks) ++ e.variables) left) (at + 1) []
  r ← ended_with s (ends_with s i) at ends
  kinds_after s rest e (at + 1 + instr_count body) (yields s i (block_operand i ks) r ∷ left)
kinds_after s (Branch i first second rest) e at ks = do
  left ← opened s e i at ks
  ends ← kinds_after s first (in_block e e.variables left) (at + 1) []
  r ← ended_with s (ends_with s i) at ends
  others ← kinds_after s second (in_block e e.variables left) (at + 1 + instr_count first) []
  _ ← ended_with s (ends_with s i) at others
  kinds_after s rest e (at + 1 + instr_count first + instr_count second) (yields s i (block_operand i ks) r ∷ left)
kinds_after s (Torn i length_left) e at ks = do
  _ ← taken s e.variables i at ks
  Err (instr_fault flaws.BadNesting s.rule at)

-- A rule begins with no operand, its object as variable 0, and ends with one value that fits Boolean.
abbrev pub rule_ends : Surroundings → CodeTree → Result Kind InstrFault
rule_ends s t = do
  ends ← kinds_after s t (record { variables = Scalar (element.Class s.context) ∷ []; covered = 0; open_blocks = 0 }) 0 []
  ended_with s a_boolean (instr_count t) ends
