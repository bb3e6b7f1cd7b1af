-- Which units are accepted, and else their first fault.
use Rattle.std.specs.Prelude.{◌≡◌, ℕ, ◌+◌, ◌&&◌, Bool, List, [], ◌∷◌, length, Option, is_none, Result, Ok, nat_lt, slice_index_or, unwrap_or}
use Rattle.std.specs.List.{list_any}
use Rattle.imkl_model.specs.ClassModel.{Model}
use Rattle.ocl_base.specs.Steps.{◌>>=◌, found}
use Rattle.rule_code.specs.Content.{Content, RuleContent}
use Rattle.rule_verify.specs.declared.fault.VerifyFlaw.TheVariants as flaws
use Rattle.rule_verify.specs.declared.depths.Depths.{Depths}
use Rattle.rule_verify.specs.CodeTree.{code_tree}
use Rattle.rule_verify.specs.CodeDepths.{rule_depths}
use Rattle.rule_verify.specs.InstrKinds.{surroundings, gathers}
use Rattle.rule_verify.specs.KindRules.{InstrFault, instr_fault, rule_ends}
use Rattle.rule_verify.specs.Symbols.{named_at, class_in}

-- ---- one rule

abbrev pub empty_rule : RuleContent
empty_rule = record { name = 0; context = 0; code = [] }

-- the rule of an index
abbrev pub unit_rule : Content → ℕ → RuleContent
unit_rule u n = slice_index_or u.rules n empty_rule

-- the context class of a rule, if the class model has it
abbrev pub context_class : Model → Content → RuleContent → Option ℕ
context_class m u r = class_in (named_at m u r.context)

-- a rule of an index has a context class, and its code has kinds
abbrev pub check_rule : Model → Content → ℕ → RuleContent → Result (Unit {0}) InstrFault
check_rule m u n r = do
  c ← found (context_class m u r) (instr_fault flaws.NoSuchName n 0)
  _ ← rule_ends (surroundings m u n c) (code_tree r.code)
  Ok tt

-- ---- units

-- rules are checked in their order
abbrev pub check_rules : Model → Content → ℕ → List RuleContent → Result (Unit {0}) InstrFault
check_rules m u n [] = Ok tt
check_rules m u n (r ∷ rs) = do
  _ ← check_rule m u n r
  check_rules m u (n + 1) rs

abbrev pub check_unit : Model → Content → Result (Unit {0}) InstrFault
check_unit m u = check_rules m u 0 u.rules

-- no rule has a fault
abbrev pub IsAcceptedUnit : Model → Content → Type 0
IsAcceptedUnit m u = check_unit m u ≡ Ok tt

-- the class model doesn't have the context class of the first rule, which is known before anything is allocated
abbrev pub has_no_first_context : Model → Content → Bool
has_no_first_context m u = nat_lt 0 (length u.rules) && is_none (context_class m u (unit_rule u 0))

-- ---- what is known of the rules of accepted units

-- the most operands, variables and open blocks that the rule of an index has at once
abbrev pub depths_of : Model → Content → ℕ → RuleContent → Depths
depths_of m u n r = rule_depths (surroundings m u n (unwrap_or (context_class m u r) 0)) (code_tree r.code)

abbrev pub depths_of_rules : Model → Content → ℕ → List RuleContent → List Depths
depths_of_rules m u n [] = []
depths_of_rules m u n (r ∷ rs) = depths_of m u n r ∷ depths_of_rules m u (n + 1) rs

-- some instruction of the rule may take memory
abbrev pub takes_memory : RuleContent → Bool
takes_memory r = list_any gathers r.code
