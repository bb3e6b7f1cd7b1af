-- Code whose symbols are present names has the same kinds, or the same first fault, whatever old names there are.
use Rattle.std.proofs.Common.{◌≡◌, ℕ, suc, ◌+◌, Bool, List, [], ◌∷◌, ◌++◌, All, length, Result, Ok, Err, refl}
use Rattle.std.specs.Prelude.{nat_le, nat_lt}
use Rattle.std.proofs.lemmas.List.Elements.{All-head, All-tail, All-weaker}
use Rattle.ocl_base.specs.Steps.{◌>>=◌, check, found}
use Rattle.ocl_kinds.specs.declared.kind.Kind.{Kind}
use Rattle.ocl_kinds.specs.declared.kind.Kind.TheVariants.{Scalar}
use Rattle.ocl_kinds.specs.declared.kind.ScalarKind.TheVariants as element
use Rattle.rule_code.specs.Content.{RuleContent}
use Rattle.rule_code.specs.declared.instruction.Instr.{Instr}
use Rattle.rule_verify.specs.declared.fault.VerifyFlaw.TheVariants as flaws
use Rattle.rule_verify.specs.declared.pattern.Pattern.{Pattern}
use Rattle.rule_verify.specs.CodeTree.{CodeTree, End, Plain, Block, Branch, Torn, instr_count, code_tree}
use Rattle.rule_verify.specs.Patterns.{a_boolean, are_there, all_match, below}
use Rattle.rule_verify.specs.InstrKinds.{Surroundings, has_variable, block_operand}
use Rattle.rule_verify.specs.declared.limits.TheConstants.{MAX_BLOCKS, MAX_OPERANDS}
use Rattle.rule_verify.specs.KindRules.{InstrFault, instr_fault, Enclosing, in_block, taken, after_plain, opened, ended_with, kinds_after, rule_ends}
use Rattle.rule_verify.specs.Symbols.{class_in}
use Rattle.rule_verify.specs.UnitRules.{empty_rule, unit_rule, check_rule, check_rules, check_unit}
use Rattle.old_name_laws.proofs.Symbols.{Case, other, IsAlike, RuleAgrees}
use Rattle.old_name_laws.proofs.Rows.{by_one, by_other, names_alike, operands_alike, results_alike, bindings_alike, ends_alike, yields_alike}
use Rattle.old_name_laws.proofs.Trees.{AllIn, at_any}

module _ (x : Case) (n c : ℕ) where
  abbrev s : Surroundings
  s = by_one x n c

  abbrev t : Surroundings
  t = by_other x n c

  -- ---- one instruction

  -- what is taken, by whether the names are there and by the operands
  abbrev taken_by : Bool → List Pattern → List Kind → Instr → ℕ → List Kind → Result (List Kind) InstrFault
  taken_by named ws vars i at ks = do
    _ ← check named (instr_fault flaws.NoSuchName n at)
    _ ← check (has_variable vars i) (instr_fault flaws.BadVariable n at)
    _ ← check (are_there ws ks) (instr_fault flaws.MissingOperand n at)
    _ ← check (all_match x.model ws ks) (instr_fault flaws.WrongKind n at)
    Ok (below ws ks)

  taken_alike : (vars : List Kind) (i : Instr) (at : ℕ) (ks : List Kind) → IsAlike x i → taken t vars i at ks ≡ taken s vars i at ks
  taken_alike vars i at ks h = λ j. taken_by (names_alike x n c i h j) (operands_alike x n c i h j) vars i at ks

  plain_alike : (e : Enclosing) (i : Instr) (at : ℕ) (ks : List Kind) → IsAlike x i → after_plain t e i at ks ≡ after_plain s e i at ks
  plain_alike e i at ks h =
      λ j. taken_alike e.variables i at ks h j >>= λ left. check (nat_le (e.covered + suc (length left)) MAX_OPERANDS) (instr_fault flaws.StackLimit n at)
      >>= λ _. Ok (results_alike x n c e.variables i ks h j ∷ left)

  opened_alike : (e : Enclosing) (i : Instr) (at : ℕ) (ks : List Kind) → IsAlike x i → opened t e i at ks ≡ opened s e i at ks
  opened_alike e i at ks h =
      λ j. taken_alike e.variables i at ks h j >>= λ left. check (nat_lt e.open_blocks MAX_BLOCKS) (instr_fault flaws.NestLimit n at) >>= λ _. Ok left

  -- ---- code

  -- a tree leaves operands of the same kinds, or has the same first fault
  pub kinds_alike : (tree : CodeTree) → AllIn (IsAlike x) tree → (e : Enclosing) (at : ℕ) (ks : List Kind) → kinds_after t tree e at ks ≡ kinds_after s tree e at ks
  kinds_alike End h e at ks = refl
  kinds_alike (Plain i rest) h e at ks = λ j. plain_alike e i at ks h.0 j >>= λ after. kinds_alike rest h.1 e (at + 1) after j
  kinds_alike (Block i body rest) h e at ks =
      λ j. opened_alike e i at ks h.0 j
      >>= λ left. kinds_alike body h.1 (in_block e (bindings_alike x n c i (block_operand i ks) h.0 j ++ e.variables) left) (at + 1) [] j
      >>= λ ends. ended_with s (ends_alike x n c i h.0 j) at ends
      >>= λ r. kinds_alike rest h.2 e (at + 1 + instr_count body) (yields_alike x n c i (block_operand i ks) r h.0 j ∷ left) j
  kinds_alike (Branch i first second rest) h e at ks =
      λ j. opened_alike e i at ks h.0 j
      >>= λ left. kinds_alike first h.1 (in_block e e.variables left) (at + 1) [] j
      >>= λ ends. ended_with s (ends_alike x n c i h.0 j) at ends
      >>= λ r. kinds_alike second h.2 (in_block e e.variables left) (at + 1 + instr_count first) [] j
      >>= λ others. ended_with s (ends_alike x n c i h.0 j) at others
      >>= λ _. kinds_alike rest h.3 e (at + 1 + instr_count first + instr_count second) (yields_alike x n c i (block_operand i ks) r h.0 j ∷ left) j
  kinds_alike (Torn i left) h e at ks = λ j. taken_alike e.variables i at ks h j >>= λ _. Err (instr_fault flaws.BadNesting n at)

  rule_alike : (tree : CodeTree) → AllIn (IsAlike x) tree → rule_ends t tree ≡ rule_ends s tree
  rule_alike tree h =
      λ j. kinds_alike tree h (record { variables = Scalar (element.Class c) ∷ []; covered = 0; open_blocks = 0 }) 0 [] j
      >>= λ ends. ended_with s a_boolean (instr_count tree) ends

-- ---- units

module _ (x : Case) where
  one_checked : (n : ℕ) (r : RuleContent) → RuleAgrees x r → check_rule (other x) x.unit n r ≡ check_rule x.model x.unit n r
  one_checked n r h =
      λ j. found (class_in (h.context j)) (instr_fault flaws.NoSuchName n 0)
      >>= λ c. rule_alike x n c (code_tree r.code) h.code j >>= λ _. Ok tt

  all_checked : (n : ℕ) (rs : List RuleContent) → All (RuleAgrees x) rs → check_rules (other x) x.unit n rs ≡ check_rules x.model x.unit n rs
  all_checked n [] h = refl
  all_checked n (r ∷ rs) h =
      λ j. one_checked n r (All-head (RuleAgrees x) r rs h) j >>= λ _. all_checked (n + 1) rs (All-tail (RuleAgrees x) r rs h) j

  -- the unit is accepted in both, or has the same first fault
  pub unit_checked : All (RuleAgrees x) x.unit.rules → check_unit (other x) x.unit ≡ check_unit x.model x.unit
  unit_checked h = all_checked 0 x.unit.rules h

  -- ---- the rule of an index

  -- the symbols of its code, also where there is no such rule
  pub code_agrees : All (RuleAgrees x) x.unit.rules → (k : ℕ) → AllIn (IsAlike x) (code_tree (unit_rule x.unit k).code)
  code_agrees h k =
      at_any (λ r. AllIn (IsAlike x) (code_tree r.code)) x.unit.rules empty_rule tt (All-weaker (RuleAgrees x) (λ r. AllIn (IsAlike x) (code_tree r.code)) (λ r a. a.code) x.unit.rules h) k
