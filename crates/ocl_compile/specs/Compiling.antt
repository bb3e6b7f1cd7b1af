-- Which rules compile, and else the first limit of a unit that is passed.
use Rattle.std.specs.Prelude.{ℕ, ◌||◌, Bool, List, [], ◌∷◌, ◌++◌, length, Option, Some, None, Result, Ok, Err, nat_le, nat_lt, if◌then◌else◌}
use Rattle.std.specs.List.{list_any}
use Rattle.imkl_model.specs.ClassModel.{Model}
use Rattle.ocl_core.specs.Core.{CheckedRule}
use Rattle.rule_code.specs.Content.{Content}
use Rattle.rule_verify.specs.declared.limits.TheConstants.{MAX_BLOCKS, MAX_OPERANDS}
use Rattle.rule_code.specs.declared.limits.TheConstants.{MAX_RULES, MAX_TEXT_BYTES}
use Rattle.ocl_compile.specs.declared.limits.TheConstants.{MAX_COUNTED}
use Rattle.rule_verify.specs.declared.depths.Depths.{Depths}
use Rattle.rule_verify.specs.CodeTree.{CodeTree, instr_count}
use Rattle.rule_verify.specs.CodeDepths.{rule_depths}
use Rattle.rule_verify.specs.InstrKinds.{surroundings}
use Rattle.ocl_compile.specs.declared.fault.Limit.{Limit}
use Rattle.ocl_compile.specs.declared.fault.Limit.TheVariants as limits
use Rattle.ocl_compile.specs.Numbering.{Numbering, Use, UsedText, UsedSymbol, names_of_symbol, rule_uses, numbering_of}
use Rattle.ocl_compile.specs.Translation.{rule_tree, translate_rules}

abbrev pub is_long_text : List ℕ → Bool
is_long_text t = nat_lt MAX_TEXT_BYTES (length t)

abbrev pub texts_of_use : Model → Use → List (List ℕ)
texts_of_use m (UsedText t) = t ∷ []
texts_of_use m (UsedSymbol s) = names_of_symbol m s

abbrev pub has_long_text : Model → List Use → Bool
has_long_text m us = list_any (λ u. list_any is_long_text (texts_of_use m u)) us

-- ---- one rule, after those before it

-- the texts and symbols of the rules so far
abbrev pub numbering_so_far : Model → List CheckedRule → CheckedRule → Numbering
numbering_so_far m before r = numbering_of m (before ++ r ∷ [])

-- the code of a rule in the unit of all rules
abbrev pub compiled_tree : Model → List CheckedRule → CheckedRule → CodeTree
compiled_tree m all r = rule_tree m (numbering_of m all) r

-- with it there are too many rules, texts or symbols, or a text that it uses is too long, or its code
abbrev pub is_too_large : Model → List CheckedRule → List CheckedRule → CheckedRule → Bool
is_too_large m all before r =
    nat_le MAX_RULES (length before)
    || nat_lt MAX_COUNTED (length (numbering_so_far m before r).texts)
    || nat_lt MAX_COUNTED (length (numbering_so_far m before r).symbols)
    || has_long_text m (rule_uses m r)
    || nat_lt MAX_COUNTED (instr_count (compiled_tree m all r))

-- the most operands, variables and open blocks that its code has at once
abbrev pub compiled_depths : Model → List CheckedRule → List CheckedRule → CheckedRule → Depths
compiled_depths m all before r =
    rule_depths (surroundings m (translate_rules m all) (length before) r.context) (compiled_tree m all r)

-- the limit that a rule passes, by its size first, then by its blocks, then by its operands
abbrev pub limit_passed : Model → List CheckedRule → List CheckedRule → CheckedRule → Option Limit
limit_passed m all before r =
    if is_too_large m all before r then Some limits.Size else (
    if nat_lt MAX_BLOCKS (compiled_depths m all before r).blocks then Some limits.Nesting else (
    if nat_lt MAX_OPERANDS (compiled_depths m all before r).operands then Some limits.Stack else None))

-- ---- rules

pub record LimitAt : Type 0 where
  pub limit : Limit
  pub rule : ℕ

abbrev pub limit_at : Limit → ℕ → LimitAt
limit_at limit rule = record { limit = limit; rule = rule }

abbrev pub or_later : ℕ → Option Limit → Option LimitAt → Option LimitAt
or_later rule (Some l) later = Some (limit_at l rule)
or_later rule None later = later

-- of the rules of a unit that stand after others
abbrev pub first_passed : Model → List CheckedRule → List CheckedRule → List CheckedRule → Option LimitAt
first_passed m all before [] = None
first_passed m all before (r ∷ rs) =
    or_later (length before) (limit_passed m all before r) (first_passed m all (before ++ r ∷ []) rs)

abbrev pub unless_passed : {A : Type 0} → Option LimitAt → A → Result A LimitAt
unless_passed (Some l) x = Err l
unless_passed None x = Ok x

-- the unit of rules, or the first limit that a rule passes
abbrev pub compile_of : Model → List CheckedRule → Result Content LimitAt
compile_of m rs = unless_passed (first_passed m rs [] rs) (translate_rules m rs)
