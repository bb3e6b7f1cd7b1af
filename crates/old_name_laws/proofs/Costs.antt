-- Code whose symbols are present names has the same bounds, whatever old names there are.
use Rattle.std.proofs.Common.{◌≡◌, ◌∙◌, ℕ, ◌+◌, List, [], ◌∷◌, ◌++◌, All, length, drop, max, not, refl, ap}
use Rattle.std.proofs.lemmas.List.Elements.{All-head}
use Rattle.ocl_base.specs.Numbers.{least}
use Rattle.imkl_population.specs.declared.object.Object.{Object}
use Rattle.imkl_population.specs.Sizes.{Sizes, sizes_of}
use Rattle.rule_code.specs.declared.instruction.Instr.{Instr}
use Rattle.rule_code.specs.declared.instruction.Instr.TheVariants as instrs
use Rattle.rule_verify.specs.CodeTree.{CodeTree, End, Plain, Block, Branch, Torn, code_tree}
use Rattle.rule_verify.specs.InstrKinds.{Surroundings}
use Rattle.rule_verify.specs.UnitRules.{unit_rule}
use Rattle.rule_cost.specs.Bounds.{named_length, top_length, length_given, block_length, lengths_bound_by, length_yielded, extra_charge, block_charges, branch_charges, more_charges, cost_of}
use Rattle.rule_cost.specs.Limits.{limited_bound}
use Rattle.rule_cost.specs.Admission.{rule_step_bound, is_affordable, refused_at, admission}
use Rattle.old_name_laws.proofs.Symbols.{Case, other, in_one, in_other, Agrees, IsAlike, RuleAgrees}
use Rattle.old_name_laws.proofs.Rows.{by_one, by_other, operands_alike}
use Rattle.old_name_laws.proofs.Trees.{AllIn}
use Rattle.old_name_laws.proofs.Values.{sizes_alike}
use Rattle.old_name_laws.proofs.Checks.{code_agrees}

module _ (x : Case) (n c : ℕ) (z : Sizes) where
  abbrev s : Surroundings
  s = by_one x n c

  abbrev t : Surroundings
  t = by_other x n c

  lengths_alike : (vars : List ℕ) (i : Instr) (ls : List ℕ) → IsAlike x i → length_given t z vars i ls ≡ length_given s z vars i ls
  lengths_alike vars (instrs.Attr a) ls h = ap (named_length x.model z) (All-head (Agrees x) a.0 [] h)
  lengths_alike vars (instrs.All a) ls h = ap (named_length x.model z) (All-head (Agrees x) a.0 [] h)
  lengths_alike vars i ls h = refl

  -- a tree has the same charges, and leaves operands of the same lengths
  pub costs_alike : (tree : CodeTree) → AllIn (IsAlike x) tree → (vars ls : List ℕ) → cost_of t z tree vars ls ≡ cost_of s z tree vars ls
  costs_alike End h vars ls = refl
  costs_alike (Plain i rest) h vars ls =
      λ j. more_charges (1 + extra_charge i ls)
      (costs_alike rest h.1 vars (lengths_alike vars i ls h.0 j ∷ drop (length (operands_alike x n c i h.0 j)) ls) j)
  costs_alike (Block i body rest) h vars ls =
      let inner = costs_alike body h.1 (lengths_bound_by i (block_length i ls) ++ vars) [] in
      λ j. more_charges (block_charges i (block_length i ls) (inner j).charges (top_length (inner j).lengths))
      (costs_alike rest h.2 vars (length_yielded i (block_length i ls) (top_length (inner j).lengths) ∷ drop (length (operands_alike x n c i h.0 j)) ls) j)
  costs_alike (Branch i first second rest) h vars ls =
      let one = costs_alike first h.1 vars [] in
      let two = costs_alike second h.2 vars [] in
      λ j. more_charges (branch_charges (one j).charges (two j).charges)
      (costs_alike rest h.3 vars (max (top_length (one j).lengths) (top_length (two j).lengths) ∷ drop (length (operands_alike x n c i h.0 j)) ls) j)
  costs_alike (Torn i left) h vars ls = refl

-- ---- units

-- sizes in the class model, and in the other
abbrev sizes_in_one : Case → List ℕ → List ℕ → Sizes
sizes_in_one x counts longest = record { model = x.model; counts = counts; longest = longest }

abbrev sizes_in_other : Case → List ℕ → List ℕ → Sizes
sizes_in_other x counts longest = record { model = other x; counts = counts; longest = longest }

module _ (x : Case) (h : All (RuleAgrees x) x.unit.rules) where
  bound_alike : (counts longest : List ℕ) (k : ℕ) → rule_step_bound x.unit (sizes_in_other x counts longest) k ≡ rule_step_bound x.unit (sizes_in_one x counts longest) k
  bound_alike counts longest k =
      λ j. (costs_alike x k 0 (sizes_in_one x counts longest) (code_tree (unit_rule x.unit k).code) (code_agrees x h k) (0 ∷ []) [] j).charges

  -- each rule has one bound on populations with the same objects
  pub rule_bound_alike : (objects : List Object) (k : ℕ) → rule_step_bound x.unit (sizes_of (in_other x objects)) k ≡ rule_step_bound x.unit (sizes_of (in_one x objects)) k
  rule_bound_alike objects k =
      ap (λ (z : Sizes). rule_step_bound x.unit z k) (sizes_alike x.renames (in_one x objects))
      ∙ bound_alike (sizes_of (in_one x objects)).counts (sizes_of (in_one x objects)).longest k

  -- and so the unit is admitted within the same budgets
  pub admission_alike : (objects : List Object) (budget : ℕ) → admission x.unit (sizes_of (in_other x objects)) budget ≡ admission x.unit (sizes_of (in_one x objects)) budget
  admission_alike objects budget =
      λ j. refused_at (least (λ r. not (is_affordable budget (limited_bound (rule_bound_alike objects r j)))) (length x.unit.rules))
