-- The walk over code, by what the calls for its parts returned.
use Rattle.std.proofs.Common.{◌≡◌, ℕ, ◌+◌, ◌-◌, ◌<◌, ◌≤◌, List, [], length, map, Option, Some, None, refl, ap, subst, ◌∙◌, arith}
use Rattle.std.specs.Prelude.{IsSome, is_some, option_and_then, slice_get, slice_range}
use Rattle.std.proofs.lemmas.List.{take_all}
use Rattle.ocl_core.specs.declared.core_tree.Core.{Core}
use Rattle.ocl_core.specs.Core.{CoreTree}
use Rattle.ocl_core.specs.CoreView.{core_view}
use Rattle.rule_code.specs.declared.instruction.Instr.{Instr}
use Rattle.rule_code.specs.declared.instruction.Instr.TheVariants as instrs
use Rattle.rule_verify.specs.declared.shape.Shape.TheVariants.{Single, OneBody, TwoBodies}
use Rattle.rule_verify.specs.CodeTree.{CodeTree, shape_of, code_tree}
use Rattle.rule_verify.specs.InstrKinds.{Surroundings}
use Rattle.rule_verify.specs.Resolved.{ResolvedUnit}
use Rattle.rule_verify.specs.UnitRules.{unit_rule}
use Rattle.rule_verify.proofs.ForAbove.{stretch_none, tree_plain, tree_block, tree_branch, tree_torn, tree_torn_branch}
use Rattle.rule_trees.specs.declared.code.RuleCode.{RuleCode}
use Rattle.rule_trees.specs.declared.code.Place.{Place}
use Rattle.rule_trees.specs.InstrTrees.{plain_trees}
use Rattle.rule_trees.specs.CoreOf.{sole, block_trees, branch_trees, trees_after, surroundings_of_rule, core_of_rule}
use Rattle.rule_trees.specs.TreeWalk.{surroundings_in, trees_between, core_between, LeavesTrees}

-- ---- trees that are there

-- where a step after another made something, the first did
step_there : {A B : Type 0} (f : A → Option B) (o : Option A) → IsSome (option_and_then f o) → IsSome o
step_there f (Some x) h = refl
step_there f None h = h

-- a block whose body has no tree makes nothing
no_body : (s : Surroundings) (i : Instr) (cs : List CoreTree) → block_trees s i None cs ≡ None
no_body s (instrs.Let n) cs = refl
no_body s i cs = refl

body_there : (s : Surroundings) (i : Instr) (b : Option CoreTree) (cs : List CoreTree) → IsSome (block_trees s i b cs) → IsSome b
body_there s i (Some b) cs h = refl
body_there s i None cs h = subst (λ (o : Option (List CoreTree)). IsSome o) (no_body s i cs) h

no_first : (s : Surroundings) (i : Instr) (b : Option CoreTree) (cs : List CoreTree) → branch_trees s i None b cs ≡ None
no_first s (instrs.If k n m) b cs = refl
no_first s i b cs = refl

no_second : (s : Surroundings) (i : Instr) (a : Option CoreTree) (cs : List CoreTree) → branch_trees s i a None cs ≡ None
no_second s (instrs.If k n m) (Some a) cs = refl
no_second s (instrs.If k n m) None cs = refl
no_second s i a cs = refl

first_there : (s : Surroundings) (i : Instr) (a b : Option CoreTree) (cs : List CoreTree) → IsSome (branch_trees s i a b cs) → IsSome a
first_there s i (Some a) b cs h = refl
first_there s i None b cs h = subst (λ (o : Option (List CoreTree)). IsSome o) (no_first s i b cs) h

second_there : (s : Surroundings) (i : Instr) (a b : Option CoreTree) (cs : List CoreTree) → IsSome (branch_trees s i a b cs) → IsSome b
second_there s i a (Some b) cs h = refl
second_there s i a None cs h = subst (λ (o : Option (List CoreTree)). IsSome o) (no_second s i a cs) h

-- ---- one instruction

module _ (c : RuleCode) (p : Place) (i : Instr) (lt : p.at < p.end) (le : p.end ≤ length c.code.now) (here : slice_get c.code.now p.at ≡ Some i) (cs : List CoreTree) where
  by_tree : (t : CodeTree) → code_tree (slice_range c.code.now p.at p.end) ≡ t → trees_between c p.at p.end cs ≡ trees_after (surroundings_in c) t cs
  by_tree t e = ap (λ x. trees_after (surroundings_in c) x cs) e

  -- without a body
  plain_is : shape_of i ≡ Single → trees_between c p.at p.end cs ≡ option_and_then (trees_between c (p.at + 1) p.end) (plain_trees (surroundings_in c) i cs)
  plain_is is = by_tree _ (tree_plain c.code.now p.at p.end i lt le here is)

  pub plain_there : shape_of i ≡ Single → IsSome (trees_between c p.at p.end cs) → IsSome (plain_trees (surroundings_in c) i cs)
  plain_there is h = step_there (trees_between c (p.at + 1) p.end) _ (subst (λ (o : Option (List CoreTree)). IsSome o) (plain_is is) h)

  pub plain_advances : shape_of i ≡ Single → (ds : List CoreTree) → plain_trees (surroundings_in c) i cs ≡ Some ds → trees_between c p.at p.end cs ≡ trees_between c (p.at + 1) p.end ds
  plain_advances is ds made = plain_is is ∙ ap (option_and_then (trees_between c (p.at + 1) p.end)) made

  -- with one body
  block_is : (n : ℕ) → shape_of i ≡ OneBody n → p.at + 1 + n ≤ p.end
      → trees_between c p.at p.end cs ≡ option_and_then (trees_between c (p.at + 1 + n) p.end) (block_trees (surroundings_in c) i (core_between c (p.at + 1) (p.at + 1 + n)) cs)
  block_is n is nests = by_tree _ (tree_block c.code.now p.at p.end i lt le here n is nests)

  made_by_block : (n : ℕ) → shape_of i ≡ OneBody n → p.at + 1 + n ≤ p.end → IsSome (trees_between c p.at p.end cs) → IsSome (block_trees (surroundings_in c) i (core_between c (p.at + 1) (p.at + 1 + n)) cs)
  made_by_block n is nests h = step_there (trees_between c (p.at + 1 + n) p.end) _ (subst (λ (o : Option (List CoreTree)). IsSome o) (block_is n is nests) h)

  pub block_body_there : (n : ℕ) → shape_of i ≡ OneBody n → p.at + 1 + n ≤ p.end → IsSome (trees_between c p.at p.end cs) → IsSome (core_between c (p.at + 1) (p.at + 1 + n))
  block_body_there n is nests h = body_there (surroundings_in c) i _ cs (made_by_block n is nests h)

  pub block_there : (n : ℕ) → shape_of i ≡ OneBody n → p.at + 1 + n ≤ p.end → (b : CoreTree) → core_between c (p.at + 1) (p.at + 1 + n) ≡ Some b → IsSome (trees_between c p.at p.end cs) → IsSome (block_trees (surroundings_in c) i (Some b) cs)
  block_there n is nests b body h = subst (λ (o : Option CoreTree). IsSome (block_trees (surroundings_in c) i o cs)) body (made_by_block n is nests h)

  pub block_advances : (n : ℕ) → shape_of i ≡ OneBody n → p.at + 1 + n ≤ p.end → (b : CoreTree) → core_between c (p.at + 1) (p.at + 1 + n) ≡ Some b → (ds : List CoreTree) → block_trees (surroundings_in c) i (Some b) cs ≡ Some ds
      → trees_between c p.at p.end cs ≡ trees_between c (p.at + 1 + n) p.end ds
  block_advances n is nests b body ds made =
      let rest = option_and_then (trees_between c (p.at + 1 + n) p.end) in
      block_is n is nests ∙ ap (λ o. rest (block_trees (surroundings_in c) i o cs)) body ∙ ap rest made

  -- with two bodies
  branch_is : (n m : ℕ) → shape_of i ≡ TwoBodies n m → p.at + 1 + n + m ≤ p.end
      → trees_between c p.at p.end cs ≡ option_and_then (trees_between c (p.at + 1 + n + m) p.end) (branch_trees (surroundings_in c) i (core_between c (p.at + 1) (p.at + 1 + n)) (core_between c (p.at + 1 + n) (p.at + 1 + n + m)) cs)
  branch_is n m is nests = by_tree _ (tree_branch c.code.now p.at p.end i lt le here n m is nests)

  made_by_branches : (n m : ℕ) → shape_of i ≡ TwoBodies n m → p.at + 1 + n + m ≤ p.end → IsSome (trees_between c p.at p.end cs)
      → IsSome (branch_trees (surroundings_in c) i (core_between c (p.at + 1) (p.at + 1 + n)) (core_between c (p.at + 1 + n) (p.at + 1 + n + m)) cs)
  made_by_branches n m is nests h = step_there (trees_between c (p.at + 1 + n + m) p.end) _ (subst (λ (o : Option (List CoreTree)). IsSome o) (branch_is n m is nests) h)

  pub first_body_there : (n m : ℕ) → shape_of i ≡ TwoBodies n m → p.at + 1 + n + m ≤ p.end → IsSome (trees_between c p.at p.end cs) → IsSome (core_between c (p.at + 1) (p.at + 1 + n))
  first_body_there n m is nests h = first_there (surroundings_in c) i _ _ cs (made_by_branches n m is nests h)

  pub second_body_there : (n m : ℕ) → shape_of i ≡ TwoBodies n m → p.at + 1 + n + m ≤ p.end → IsSome (trees_between c p.at p.end cs) → IsSome (core_between c (p.at + 1 + n) (p.at + 1 + n + m))
  second_body_there n m is nests h = second_there (surroundings_in c) i _ _ cs (made_by_branches n m is nests h)

  pub branches_there : (n m : ℕ) → shape_of i ≡ TwoBodies n m → p.at + 1 + n + m ≤ p.end → (a b : CoreTree) → core_between c (p.at + 1) (p.at + 1 + n) ≡ Some a → core_between c (p.at + 1 + n) (p.at + 1 + n + m) ≡ Some b → IsSome (trees_between c p.at p.end cs)
      → IsSome (branch_trees (surroundings_in c) i (Some a) (Some b) cs)
  branches_there n m is nests a b first second h =
      let B : Option CoreTree → Option CoreTree → Type 0 = λ x y. IsSome (branch_trees (surroundings_in c) i x y cs) in
      subst (B (Some a)) second (subst (λ (x : Option CoreTree). B x (core_between c (p.at + 1 + n) (p.at + 1 + n + m))) first (made_by_branches n m is nests h))

  pub branches_advance : (n m : ℕ) → shape_of i ≡ TwoBodies n m → p.at + 1 + n + m ≤ p.end → (a b : CoreTree) → core_between c (p.at + 1) (p.at + 1 + n) ≡ Some a → core_between c (p.at + 1 + n) (p.at + 1 + n + m) ≡ Some b
      → (ds : List CoreTree) → branch_trees (surroundings_in c) i (Some a) (Some b) cs ≡ Some ds → trees_between c p.at p.end cs ≡ trees_between c (p.at + 1 + n + m) p.end ds
  branches_advance n m is nests a b first second ds made =
      let rest = option_and_then (trees_between c (p.at + 1 + n + m) p.end) in
      branch_is n m is nests ∙ ap (λ x. rest (branch_trees (surroundings_in c) i x (core_between c (p.at + 1 + n) (p.at + 1 + n + m)) cs)) first
      ∙ ap (λ y. rest (branch_trees (surroundings_in c) i (Some a) y cs)) second ∙ ap rest made

  -- a block that is longer than what is left has no trees, whether it has one body or two
  pub torn_never : (n : ℕ) → shape_of i ≡ OneBody n → p.end < p.at + 1 + n → IsSome (trees_between c p.at p.end cs) → ⊥
  torn_never n is long h =
      let bad = subst (λ (o : Option (List CoreTree)). IsSome o) (by_tree _ (tree_torn c.code.now p.at p.end i lt le here n is long)) h in
      cc

  pub torn_branch_never : (n m : ℕ) → shape_of i ≡ TwoBodies n m → p.end < p.at + 1 + n + m → IsSome (trees_between c p.at p.end cs) → ⊥
  torn_branch_never n m is long h =
      let bad = subst (λ (o : Option (List CoreTree)). IsSome o) (by_tree _ (tree_torn_branch c.code.now p.at p.end i lt le here n m is long)) h in
      cc

-- ---- sequences

-- the walk came from a place on to the instruction at an index, with these trees
pub record Reached (c : RuleCode) (p : Place) (at : ℕ) (left : List Core) : Type 0 where
  pub forward : p.at ≤ at
  pub before : at ≤ p.end
  pub trees : trees_between c p.at p.end [] ≡ trees_between c at p.end (map core_view left)

-- one instruction more
pub reached_next : (c : RuleCode) (p : Place) (at next : ℕ) (trees after : List Core) → Reached c p at trees → LeavesTrees c (record { at = at; end = p.end }) (map core_view trees) next (map core_view after) → Reached c p next after
reached_next c p at next trees after r a = record { forward = omega (arith, r.forward, a.forward); before = a.within; trees = r.trees ∙ a.trees }

-- ---- rules

whole_stretch : (code : List Instr) → slice_range code 0 (length code) ≡ code
whole_stretch code = take_all (length code - 0) code (omega arith)

-- the whole code of a rule has the rule's tree
whole_is : (c : RuleCode) (a : ResolvedUnit) (n : ℕ) → c.accepted.now ≡ a → c.rule ≡ n → c.code.now ≡ (unit_rule a.unit n).code → core_between c 0 (length c.code.now) ≡ core_of_rule a.model a.unit n
whole_is c a n unit rule code =
    let of_code : ResolvedUnit → ℕ → List Instr → Option CoreTree = λ b r is. sole (trees_after (surroundings_of_rule b.model b.unit r) (code_tree is) []) in
    ap (of_code c.accepted.now c.rule) (whole_stretch c.code.now ∙ code) ∙ ap (λ b. of_code b c.rule (unit_rule a.unit n).code) unit ∙ ap (λ r. of_code a r (unit_rule a.unit n).code) rule

pub whole_there : (c : RuleCode) (a : ResolvedUnit) (n : ℕ) → c.accepted.now ≡ a → c.rule ≡ n → c.code.now ≡ (unit_rule a.unit n).code → (t : CoreTree) → core_of_rule a.model a.unit n ≡ Some t → IsSome (core_between c 0 (length c.code.now))
whole_there c a n unit rule code t made = ap is_some (whole_is c a n unit rule code ∙ made)
