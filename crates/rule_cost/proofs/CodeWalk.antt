-- The walk over code, by what the calls for its parts returned.
use Rattle.std.proofs.Common.{◌≡◌, ℕ, ◌+◌, ◌<◌, ◌≤◌, List, [], ◌∷◌, ◌++◌, length, Some, refl, sym, ap, subst, ◌∙◌, arith}
use Rattle.std.specs.Prelude.{max, slice_get, slice_range}
use Rattle.rule_code.specs.declared.instruction.Instr.{Instr}
use Rattle.rule_verify.specs.declared.shape.Shape.TheVariants.{Single, OneBody, TwoBodies}
use Rattle.rule_verify.specs.CodeTree.{CodeTree, Torn, shape_of, code_tree}
use Rattle.rule_verify.proofs.ForAbove.{stretch_none, tree_plain, tree_block, tree_branch, tree_torn, tree_torn_branch}
use Rattle.rule_cost.specs.declared.sized.SizedCode.{SizedCode}
use Rattle.rule_cost.specs.declared.place.Place.{Place}
use Rattle.rule_cost.specs.declared.place.Advance.{Advance}
use Rattle.rule_cost.specs.declared.place.Total.{Total}
use Rattle.rule_cost.specs.Bounds.{Cost, more_charges, top_length, length_given, block_length, lengths_bound_by, length_yielded, extra_charge, block_charges, branch_charges, lengths_below, cost_of}
use Rattle.rule_cost.specs.Limits.{capped, SameCut}
use Rattle.rule_cost.specs.CostWalk.{surroundings_of_code, cost_between, SameLengths, SameCost, Advances, Totals}
use Rattle.rule_cost.proofs.Cuts.{plus_same, max_same, cut_again}
use Rattle.rule_cost.proofs.Costs.{same_lengths, lengths_back, top_same, yields_same, branch_same, block_same, more_same, cost_along, cost_same}

-- ---- one instruction

-- at the end of a sequence nothing is left
nothing_left : (c : SizedCode) (vars : List ℕ) (at end : ℕ) (ops : List ℕ) → end ≤ at → cost_between c vars at end ops ≡ record { charges = 0; lengths = ops }
nothing_left c vars at end ops past = ap (λ (x : CodeTree). cost_of (surroundings_of_code c) c.sizes.now x vars ops) (ap code_tree (stretch_none c.code.now at end past))

module _ (c : SizedCode) (vars : List ℕ) (p : Place) (i : Instr) (lt : p.at < p.end) (le : p.end ≤ length c.code.now) (here : slice_get c.code.now p.at ≡ Some i) (ops : List ℕ) where
  -- where the tree of what is left is known
  by_tree : (t : CodeTree) (k : Cost) → code_tree (slice_range c.code.now p.at p.end) ≡ t → SameCost (cost_of (surroundings_of_code c) c.sizes.now t vars ops) k → SameCost (cost_between c vars p.at p.end ops) k
  by_tree t k is h = subst (λ (x : CodeTree). SameCost (cost_of (surroundings_of_code c) c.sizes.now x vars ops) k) (sym is) h

  -- past an instruction without a body: the cost is its step and the cost of what follows
  pub plain_advances : shape_of i ≡ Single → (l charges next : ℕ) (after : List ℕ) → next ≡ p.at + 1 → SameCut charges (1 + extra_charge i ops) → SameCut l (length_given (surroundings_of_code c) c.sizes.now vars i ops) → after ≡ l ∷ lengths_below (surroundings_of_code c) i ops
      → SameCost (cost_between c vars p.at p.end ops) (more_charges charges (cost_between c vars next p.end after))
  plain_advances is l charges next after at one given pushed =
      rw (at, pushed)
      (by_tree _ _ (tree_plain c.code.now p.at p.end i lt le here is)
      (more_same (1 + extra_charge i ops) charges _ _ (sym one) (cost_same (surroundings_of_code c) c.sizes.now _ vars vars _ _ (same_lengths vars) (sym given, same_lengths (lengths_below (surroundings_of_code c) i ops)))))

  -- past a block with one body: the cost is its charges, by the body's total, and the cost of what follows
  pub block_advances : (n : ℕ) → shape_of i ≡ OneBody n → p.at + 1 + n ≤ p.end → (l charges next : ℕ) (vs after : List ℕ) (q : Place) (t : Total) → next ≡ p.at + 1 + n → q.at ≡ p.at + 1 → q.end ≡ p.at + 1 + n
      → SameLengths vs (lengths_bound_by i (block_length i ops) ++ vars) → Totals c vs q t → SameCut charges (block_charges i (block_length i ops) t.charges t.length) → SameCut l (length_yielded i (block_length i ops) t.length)
      → after ≡ l ∷ lengths_below (surroundings_of_code c) i ops → SameCost (cost_between c vars p.at p.end ops) (more_charges charges (cost_between c vars next p.end after))
  block_advances n is nests l charges next vs after q t at from to bound total takes yielded pushed =
      let top = block_length i ops in
      let body = cost_between c (lengths_bound_by i top ++ vars) (p.at + 1) (p.at + 1 + n) [] in
      let T : ℕ → ℕ → List ℕ → Type 0 = λ f g v. SameCut (cost_between c v f g []).charges t.charges × SameCut (top_length (cost_between c v f g []).lengths) t.length in
      let walked : T (p.at + 1) (p.at + 1 + n) vs = subst (λ f. T f (p.at + 1 + n) vs) from (subst (λ g. T q.at g vs) to (total.charges, total.length)) in
      let inner = cost_same (surroundings_of_code c) c.sizes.now (code_tree (slice_range c.code.now (p.at + 1) (p.at + 1 + n))) (lengths_bound_by i top ++ vars) vs [] [] (lengths_back vs _ bound) tt in
      let in_steps : SameCut body.charges t.charges = inner.charges ∙ walked.0 in
      let in_length : SameCut (top_length body.lengths) t.length = top_same _ _ inner.lengths ∙ walked.1 in
      rw (at, pushed)
      (by_tree _ _ (tree_block c.code.now p.at p.end i lt le here n is nests)
      (more_same (block_charges i top body.charges (top_length body.lengths)) charges _ _ (block_same i top top body.charges t.charges (top_length body.lengths) t.length refl in_steps in_length ∙ sym takes)
      (cost_same (surroundings_of_code c) c.sizes.now _ vars vars _ _ (same_lengths vars) (yields_same i top top (top_length body.lengths) t.length refl in_length ∙ sym yielded, same_lengths (lengths_below (surroundings_of_code c) i ops)))))

  -- and past one with two bodies, by the totals of both
  pub branches_advance : (n m : ℕ) → shape_of i ≡ TwoBodies n m → p.at + 1 + n + m ≤ p.end → (l charges next : ℕ) (after : List ℕ) (q r : Place) (t u : Total) → next ≡ p.at + 1 + n + m
      → q.at ≡ p.at + 1 → q.end ≡ p.at + 1 + n → r.at ≡ p.at + 1 + n → r.end ≡ p.at + 1 + n + m → Totals c vars q t → Totals c vars r u
      → SameCut charges (branch_charges t.charges u.charges) → SameCut l (max t.length u.length) → after ≡ l ∷ lengths_below (surroundings_of_code c) i ops
      → SameCost (cost_between c vars p.at p.end ops) (more_charges charges (cost_between c vars next p.end after))
  branches_advance n m is nests l charges next after q r t u at from middle again to one two takes greater pushed =
      let first = cost_between c vars (p.at + 1) (p.at + 1 + n) [] in
      let second = cost_between c vars (p.at + 1 + n) (p.at + 1 + n + m) [] in
      let T : Total → ℕ → ℕ → Type 0 = λ x f g. SameCut (cost_between c vars f g []).charges x.charges × SameCut (top_length (cost_between c vars f g []).lengths) x.length in
      let in_first : T t (p.at + 1) (p.at + 1 + n) = subst (λ f. T t f (p.at + 1 + n)) from (subst (T t q.at) middle (one.charges, one.length)) in
      let in_second : T u (p.at + 1 + n) (p.at + 1 + n + m) = subst (λ f. T u f (p.at + 1 + n + m)) again (subst (T u r.at) to (two.charges, two.length)) in
      rw (at, pushed)
      (by_tree _ _ (tree_branch c.code.now p.at p.end i lt le here n m is nests)
      (more_same (branch_charges first.charges second.charges) charges _ _ (branch_same first.charges second.charges t.charges u.charges in_first.0 in_second.0 ∙ sym takes)
      (cost_same (surroundings_of_code c) c.sizes.now _ vars vars _ _ (same_lengths vars)
      (max_same (top_length first.lengths) (top_length second.lengths) t.length u.length in_first.1 in_second.1 ∙ sym greater, same_lengths (lengths_below (surroundings_of_code c) i ops)))))

  -- a block that is longer than what is left ends its sequence
  torn_is : (n : ℕ) → code_tree (slice_range c.code.now p.at p.end) ≡ Torn i n → (charges : ℕ) → SameCut charges 0 → SameCost (cost_between c vars p.at p.end ops) (more_charges charges (cost_between c vars p.end p.end ops))
  torn_is n is charges none =
      let e = nothing_left c vars p.end p.end ops (omega arith) in
      rw e (by_tree _ _ is (record { charges = sym (plus_same charges 0 0 0 none refl); lengths = same_lengths ops }))

  -- it costs no step, whether it has one body or two
  pub torn_ends : (n : ℕ) → shape_of i ≡ OneBody n → p.end < p.at + 1 + n → (charges : ℕ) → SameCut charges 0 → SameCost (cost_between c vars p.at p.end ops) (more_charges charges (cost_between c vars p.end p.end ops))
  torn_ends n is long charges none = torn_is _ (tree_torn c.code.now p.at p.end i lt le here n is long) charges none

  pub torn_branch_ends : (n m : ℕ) → shape_of i ≡ TwoBodies n m → p.end < p.at + 1 + n + m → (charges : ℕ) → SameCut charges 0 → SameCost (cost_between c vars p.at p.end ops) (more_charges charges (cost_between c vars p.end p.end ops))
  torn_branch_ends n m is long charges none = torn_is _ (tree_torn_branch c.code.now p.at p.end i lt le here n m is long) charges none

-- ---- sequences

-- the walk came from a place on to the instruction at an index, after so many charges
pub record Reached (c : SizedCode) (vars : List ℕ) (p : Place) (charges at : ℕ) (left ops : List ℕ) : Type 0 where
  pub kept : left ≡ vars
  pub forward : p.at ≤ at
  pub before : at ≤ p.end
  pub cost : SameCost (cost_between c vars p.at p.end []) (more_charges charges (cost_between c vars at p.end ops))

-- at its beginning a walk has come to where it starts
pub reached_first : (c : SizedCode) (vars : List ℕ) (p : Place) (charges : ℕ) (ops : List ℕ) → p.at ≤ p.end → charges ≡ capped 0 → ops ≡ [] → Reached c vars p charges p.at vars ops
reached_first c vars p charges ops le none empty =
    let k = cost_between c vars p.at p.end [] in
    rw empty (record {
      kept = refl;
      forward = omega arith;
      before = le;
      cost = record { charges = ap capped (let whole : k.charges ≡ 0 + k.charges = omega arith in whole) ∙ sym (plus_same charges k.charges 0 k.charges (cut_again charges 0 none) refl); lengths = same_lengths k.lengths };
    })

-- one instruction more
pub reached_next : (c : SizedCode) (vars : List ℕ) (p q : Place) (charges more at : ℕ) (a : Advance) (left new ops after : List ℕ) → Reached c vars p charges at left ops → q.at ≡ at → q.end ≡ p.end → new ≡ left → Advances c left q ops a after → more ≡ capped (charges + a.charges)
    → Reached c vars p more a.next new after
reached_next c vars p q charges more at a left new ops after r from to same step added =
    let A : List ℕ → Type 0 = λ v. SameCost (cost_between c v q.at q.end ops) (more_charges a.charges (cost_between c v a.next q.end after)) in
    let B : ℕ → ℕ → Type 0 = λ f g. SameCost (cost_between c vars f g ops) (more_charges a.charges (cost_between c vars a.next g after)) in
    let here : B at p.end = subst (λ f. B f p.end) from (subst (B q.at) to (subst A r.kept step.cost)) in
    let rest = cost_between c vars a.next p.end after in
    let both = cost_along _ _ _ r.cost (more_same charges charges _ _ refl here) in
    let sum : SameCut (charges + (a.charges + rest.charges)) (more + rest.charges) =
    ap capped (let h : charges + (a.charges + rest.charges) ≡ charges + a.charges + rest.charges = omega arith in h) ∙ plus_same (charges + a.charges) rest.charges more rest.charges (sym (cut_again more (charges + a.charges) added)) refl
    in
    record {
      kept = same ∙ r.kept;
      forward = omega (arith, r.forward, step.forward, from);
      before = omega (arith, step.within, to);
      cost = record { charges = both.charges ∙ sum; lengths = both.lengths };
    }
