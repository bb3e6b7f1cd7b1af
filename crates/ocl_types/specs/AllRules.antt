-- The rules of a text, checked in their order: all of them, or the first that is at fault.
use Rattle.std.specs.Prelude.{◌≡◌, ℕ, suc, false, bytes_eq, List, [], ◌∷◌, map, Result, Ok, Err}
use Rattle.ocl_base.specs.Lists.{repeats}
use Rattle.ocl_base.specs.Steps.{◌>>=◌, FaultMeaning, fault, out_of_memory}
use Rattle.imkl_model.specs.ClassModel.{Model}
use Rattle.ocl_text.specs.Tree.{Rule}
use Rattle.ocl_types.specs.declared.fault.TypeFlaw.{TypeFlaw}
use Rattle.ocl_types.specs.declared.rules_fault.RulesFault.{RulesFault}
use Rattle.ocl_types.specs.declared.rules_fault.RulesFault.TheVariants.{At, OutOfMemory}
use Rattle.ocl_core.specs.Core.{CheckedRule}
use Rattle.ocl_types.specs.Faults.{TypeFaultAt, type_flaw_number}
use Rattle.ocl_types.specs.Elaboration.{elaborate_rule}

-- what is wrong, in which rule, and at which byte of the text
pub record RulesFaultAt : Type 0 where
  pub flaw : TypeFlaw
  pub rule : ℕ
  pub offset : ℕ

abbrev pub in_rule : ℕ → Result CheckedRule TypeFaultAt → Result CheckedRule RulesFaultAt
in_rule rule (Ok r) = Ok r
in_rule rule (Err f) = Err (record { flaw = f.flaw; rule = rule; offset = f.offset })

-- rules that stand after i others
abbrev pub elaborate_rules : Model → ℕ → List Rule → Result (List CheckedRule) RulesFaultAt
elaborate_rules m i [] = Ok []
elaborate_rules m i (r ∷ rs) = do
  x ← in_rule i (elaborate_rule m r)
  xs ← elaborate_rules m (suc i) rs
  Ok (x ∷ xs)

-- ---- faults

abbrev pub rules_fault_number : RulesFault → ℕ
rules_fault_number (At flaw rule offset) = type_flaw_number flaw
rules_fault_number OutOfMemory = 8

-- what a fault that was returned means
abbrev pub rules_fault : RulesFault → FaultMeaning RulesFaultAt
rules_fault (At flaw rule offset) = fault (record { flaw = flaw; rule = rule; offset = offset })
rules_fault OutOfMemory = out_of_memory
