-- What the rules of kinds accept has kinds, at the places after code, and makes no more steps than its bound.
use Rattle.std.proofs.Common.{◌≡◌, ℕ, zero, suc, ◌+◌, ◌≤◌, Bool, true, false, List, [], ◌∷◌, ◌++◌, length, take, drop, Some, Ok, refl, sym, ap, ◌∙◌, subst, arith}
use Rattle.std.specs.Prelude.{nat_le, max, if◌then◌else◌}
use Rattle.std.specs.List.{AllByRecursion}
use Rattle.std.proofs.lemmas.Bool.{ne_eqb}
use Rattle.ocl_base.proofs.ForAbove.{both_steps}
use Rattle.ocl_kinds.specs.declared.kind.Kind.{Kind}
use Rattle.ocl_kinds.specs.Kinds.{fits}
use Rattle.ocl_kinds.proofs.ForAbove.{fits_along}
use Rattle.rule_code.specs.declared.instruction.Instr.{Instr}
use Rattle.rule_code.specs.declared.instruction.Instr.TheVariants as instrs
use Rattle.rule_code.specs.WellFormed.{InstrFits}
use Rattle.rule_verify.specs.declared.pattern.Pattern.TheVariants.{Fitting}
use Rattle.rule_verify.specs.declared.shape.Shape.{Shape}
use Rattle.rule_verify.specs.declared.shape.Shape.TheVariants.{Single, OneBody, TwoBodies}
use Rattle.rule_verify.specs.CodeTree.{CodeTree, End, Plain, Block, Branch, Torn, shape_of, instr_count, cut_one, cut, code_tree}
use Rattle.rule_verify.specs.Patterns.{matches, all_match, below, a_boolean}
use Rattle.ocl_base.specs.Lists.{variable_at}
use Rattle.rule_verify.specs.InstrKinds.{has_variable, operands_of, block_operand, binds, ends_with, yields, kind_meant}
use Rattle.rule_verify.specs.KindRules.{Enclosing, taken, after_plain, in_block, kinds_after}
use Rattle.rule_verify.proofs.ForAbove.{Takes}
use Rattle.rule_cost.specs.Bounds.{cost_of, top_length, length_given, length_yielded, lengths_below, lengths_bound_by, block_charges}
use Rattle.rule_machine.specs.Machine.{Setting, judged_by}
use Rattle.rule_machine.specs.Places.{Place, place, kinds_of, lengths_of, self_place, sizes_in, given, places_left, bound_by, operand_place, yielded, branch_place, places_after, end_place}
use Rattle.rule_machine.specs.Live.{AllBelow, IsTaken, HasBody, HasBranches, Kinded}
use Rattle.rule_machine.proofs.Blocks.{branch_takes}
use Rattle.rule_machine.proofs.InKinds.{below_itself}
use Rattle.rule_machine.proofs.KindsAfter.{plain_says, block_says, branch_says, lengths_dropped, kinds_below, operand_kind, operand_longest, bound_kinds, bound_lengths, cost, end_longest, given_kinds, body_ends_in}

-- ---- code trees are cut by the shapes of their instructions

abbrev pub Fits : Setting → Instr → Type 0
Fits s i = InstrFits (length s.unit.texts) s.unit.symbols i

abbrev pub AllFit : Setting → List Instr → Type 0
AllFit s is = AllByRecursion (Fits s) is

-- each node is of the shape of its instruction, which fits the unit
abbrev pub IsCut : Setting → CodeTree → Type 0
IsCut s End = Unit {0}
IsCut s (Plain i rest) = (shape_of i ≡ Single) × Fits s i × IsCut s rest
IsCut s (Block i body rest) = HasBody i × Fits s i × IsCut s body × IsCut s rest
IsCut s (Branch i first second rest) = HasBranches i × Fits s i × IsCut s first × IsCut s second × IsCut s rest
IsCut s (Torn i left) = Unit {0}

module _ (s : Setting) where
  all_taken : (n : ℕ) (is : List Instr) → AllFit s is → AllFit s (take n is)
  all_taken zero is a = tt
  all_taken (suc n) [] a = tt
  all_taken (suc n) (i ∷ is) a = (a.0, all_taken n is a.1)

  all_dropped : (n : ℕ) (is : List Instr) → AllFit s is → AllFit s (drop n is)
  all_dropped zero is a = a
  all_dropped (suc n) [] a = tt
  all_dropped (suc n) (i ∷ is) a = all_dropped n is a.1

  one_cut : (go : List Instr → CodeTree) (i : Instr) (is : List Instr) (shape : Shape) → shape_of i ≡ shape → Fits s i → AllFit s is → ((js : List Instr) → AllFit s js → IsCut s (go js)) → IsCut s (cut_one go i shape is)
  one_cut go i is Single e f a cuts = (e, f, cuts is a)
  one_cut go i is (OneBody n) e f a cuts = by_test (nat_le n (length is))
    where
      by_test : (b : Bool) → IsCut s (if b then Block i (go (take n is)) (go (drop n is)) else Torn i (length is))
      by_test true = ((n, e), f, cuts (take n is) (all_taken n is a), cuts (drop n is) (all_dropped n is a))
      by_test false = tt
  one_cut go i is (TwoBodies n m) e f a cuts = by_test (nat_le (n + m) (length is))
    where
      by_test : (b : Bool) → IsCut s (if b then Branch i (go (take n is)) (go (take m (drop n is))) (go (drop (n + m) is)) else Torn i (length is))
      by_test true = ((n, m, e), f, cuts (take n is) (all_taken n is a), cuts (take m (drop n is)) (all_taken m (drop n is) (all_dropped n is a)), cuts (drop (n + m) is) (all_dropped (n + m) is a))
      by_test false = tt

  all_cut : (levels : ℕ) (is : List Instr) → AllFit s is → IsCut s (cut levels is)
  all_cut zero is a = tt
  all_cut (suc levels) [] a = tt
  all_cut (suc levels) (i ∷ is) a = one_cut (cut levels) i is (shape_of i) refl a.0 a.1 (λ js b. all_cut levels js b)

  -- the tree of code that fits the unit is cut so
  pub code_is_cut : (code : List Instr) → AllFit s code → IsCut s (code_tree code)
  code_is_cut code a = all_cut (length code) code a

-- ---- places that more may stand at

module _ (s : Setting) where
  all_below_itself : (ps : List Place) → AllBelow s ps ps
  all_below_itself [] = tt
  all_below_itself (p ∷ ps) = (below_itself s p, all_below_itself ps)

  below_along : (ps qs rs : List Place) → AllBelow s ps qs → AllBelow s qs rs → AllBelow s ps rs
  below_along [] [] rs a b = b
  below_along [] (q ∷ qs) rs a b = absurd a
  below_along (p ∷ ps) [] rs a b = absurd a
  below_along (p ∷ ps) (q ∷ qs) [] a b = absurd b
  below_along (p ∷ ps) (q ∷ qs) (r ∷ rs) a b =
      (record { fit = fits_along s.population.model p.kind q.kind r.kind a.0.fit b.0.fit; shorter = omega (arith, a.0.shorter, b.0.shorter) }, below_along ps qs rs a.1 b.1)

  -- wider places afterwards, and more steps
  wider : (t : CodeTree) (vps ps out out' : List Place) (n n' : ℕ) → AllBelow s out out' → n ≤ n' → Kinded s t vps ps out n → Kinded s t vps ps out' n'
  wider End vps ps out out' n n' b le k = below_along ps out out' k b
  wider (Plain i rest) vps ps out out' n n' b le k = (k.0, k.1, k.2, wider rest vps _ out out' k.0 k.0 b (omega arith) k.3, omega (arith, le, k.4))
  wider (Block i body rest) vps ps out out' n n' b le k = (k.0, k.1, k.2, k.3, k.4, k.5, wider rest vps _ out out' k.1 k.1 b (omega arith) k.6, omega (arith, le, k.7))
  wider (Branch i first second rest) vps [] out out' n n' b le k = absurd k
  wider (Branch i first second rest) vps (p ∷ ps) out out' n n' b le k = (k.0, k.1, k.2, k.3, k.4, k.5, wider rest vps _ out out' k.1 k.1 b (omega arith) k.6, omega (arith, le, k.7))
  wider (Torn i left) vps ps out out' n n' b le k = absurd k

  -- ---- variable 0

  abbrev pub HasSelf : List Place → Type 0
  HasSelf vps = variable_at vps 0 ≡ Some (self_place s)

  self_inside : (p : Place) (vps : List Place) → HasSelf vps → HasSelf (p ∷ vps)
  self_inside p [] h = cc
  self_inside p (q ∷ vps) h =
      ap (λ b. if b then Some p else variable_at (q ∷ vps) 0) (ne_eqb 0 (suc (length vps)) (λ e. absurd (omega (arith, e)))) ∙ h

  -- ---- the bridge

  taken_place : (e : Enclosing) (i : Instr) (vps ps : List Place) (left : List Kind) → e.variables ≡ kinds_of vps → Fits s i → HasSelf vps → Takes (judged_by s) e.variables i (kinds_of ps) left → IsTaken s i vps ps
  taken_place e i vps ps left v f self t =
      record { names = t.names; read = subst (λ vs. has_variable vs i ≡ true) v t.variable; match = t.fitting; fits = f; object = self }

  abbrev pub Bridge : CodeTree → Type 0
  Bridge t = (e : Enclosing) (vps ps : List Place) (at : ℕ) (ks : List Kind) → e.variables ≡ kinds_of vps → IsCut s t → HasSelf vps → kinds_after (judged_by s) t e at (kinds_of ps) ≡ Ok ks → Kinded s t vps ps (places_after s t vps ps) (cost s t vps ps).charges

  bridge_plain : (i : Instr) (rest : CodeTree) → Bridge rest → Bridge (Plain i rest)
  bridge_plain i rest go e vps ps at ks v c self h =
      let sur = judged_by s in
      let a = both_steps (after_plain sur e i at (kinds_of ps)) _ ks h in
      let b = plain_says sur e i at (kinds_of ps) a.0 a.1 in
      let t = taken_place e i vps ps b.0 v c.1 self b.1 in
      let r = go e vps (given s vps i ps ∷ places_left s i ps) (at + 1) ks v c.2 self (ap (kinds_after sur rest e (at + 1)) (given_kinds s e i vps ps a.0 b.0 v b.1.left_is b.2) ∙ a.2) in
      let same = ap (λ l. cost_of sur (sizes_in s) rest (lengths_of vps) (length_given sur (sizes_in s) (lengths_of vps) i (lengths_of ps) ∷ l)) (lengths_dropped (length (operands_of sur i)) ps) in
      (_, c.0, t, r, omega (arith, ap (λ c. c.charges) same))

  -- a body that ends with one place has kinds
  body_kinded : (t : CodeTree) → Bridge t → (e : Enclosing) (vps : List Place) (at : ℕ) (ks : List Kind) (r : Kind) → e.variables ≡ kinds_of vps → IsCut s t → HasSelf vps → kinds_after (judged_by s) t e at [] ≡ Ok ks → ks ≡ r ∷ [] → Kinded s t vps [] (end_place s t vps ∷ []) (cost s t vps []).charges
  body_kinded t go e vps at ks r v c self h one =
      subst (λ ps. Kinded s t vps [] ps (cost s t vps []).charges) (body_ends_in s t e vps at ks r v h one).0 (go e vps [] at ks v c self h)

  self_among : (bs vps : List Place) → HasSelf vps → HasSelf (bs ++ vps)
  self_among [] vps h = h
  self_among (b ∷ bs) vps h = self_inside b (bs ++ vps) (self_among bs vps h)

  bridge_block : (i : Instr) (body rest : CodeTree) → Bridge body → Bridge rest → Bridge (Block i body rest)
  bridge_block i body rest inside go e vps ps at ks v c self h =
      let sur = judged_by s in
      let p = operand_place i ps in
      let b = block_says sur e i body rest at (kinds_of ps) ks h in
      let bound = bound_by s i p ++ vps in
      let inner = in_block e (binds sur i (block_operand i (kinds_of ps)) ++ e.variables) b.left in
      let vars : inner.variables ≡ kinds_of bound =
      ap (λ k. binds sur i k ++ e.variables) (sym (operand_kind i ps)) ∙ ap (λ vs. binds sur i p.kind ++ vs) v ∙ sym (bound_kinds s i p vps) in
      let r = end_place s body bound in
      let r_kind : r.kind ≡ b.gives = (body_ends_in s body inner bound (at + 1) b.ends b.gives vars b.body_ends b.one).1 in
      let kb = body_kinded body inside inner bound (at + 1) b.ends b.gives vars c.2 (self_among (bound_by s i p) vps self) b.body_ends b.one in
      let before : kinds_of (yielded s i p r ∷ places_left s i ps) ≡ yields sur i (block_operand i (kinds_of ps)) b.gives ∷ b.left =
      ap (λ k. yields sur i p.kind k ∷ kinds_of (places_left s i ps)) r_kind ∙ ap (λ k. yields sur i k b.gives ∷ kinds_of (places_left s i ps)) (operand_kind i ps)
      ∙ ap (λ l. yields sur i (block_operand i (kinds_of ps)) b.gives ∷ l) (kinds_below (operands_of sur i) ps ∙ sym b.takes.left_is) in
      let kr = go e vps (yielded s i p r ∷ places_left s i ps) (at + 1 + instr_count body) ks v c.3 self (ap (kinds_after sur rest e (at + 1 + instr_count body)) before ∙ b.rest_ends) in
      let inside_cost : ℕ → ℕ = λ n. (cost_of sur (sizes_in s) body (lengths_bound_by i n ++ lengths_of vps) []).charges in
      let body_same : (cost s body bound []).charges ≡ inside_cost p.longest = ap (λ vs. (cost_of sur (sizes_in s) body vs []).charges) (bound_lengths s i p vps) in
      let end_same : r.longest ≡ top_length (cost_of sur (sizes_in s) body (lengths_bound_by i p.longest ++ lengths_of vps) []).lengths =
      end_longest s body bound ∙ ap (λ vs. top_length (cost_of sur (sizes_in s) body vs []).lengths) (bound_lengths s i p vps) in
      let all : ℕ → ℕ → ℕ → List ℕ → ℕ = λ n m e l. block_charges i n m e + (cost_of sur (sizes_in s) rest (lengths_of vps) (length_yielded i n e ∷ l)).charges in
      let body_end : ℕ → ℕ = λ n. top_length (cost_of sur (sizes_in s) body (lengths_bound_by i n ++ lengths_of vps) []).lengths in
      let same : block_charges i p.longest (cost s body bound []).charges r.longest + (cost s rest vps (yielded s i p r ∷ places_left s i ps)).charges ≡ (cost s (Block i body rest) vps ps).charges =
      ap (λ m. all p.longest m r.longest (lengths_of (places_left s i ps))) body_same
      ∙ ap (λ e. all p.longest (inside_cost p.longest) e (lengths_of (places_left s i ps))) end_same
      ∙ ap (λ l. all p.longest (inside_cost p.longest) (body_end p.longest) l) (lengths_dropped (length (operands_of sur i)) ps)
      ∙ ap (λ n. all n (inside_cost n) (body_end n) (lengths_below sur i (lengths_of ps))) (operand_longest i ps) in (
        _,
        _,
        c.0,
        taken_place e i vps ps b.left v c.1 self b.takes,
        kb,
        ap (matches s.population.model (ends_with sur i)) r_kind ∙ b.fitting,
        kr,
        omega (arith, same),
      )

  -- a branch is an IF, whose bodies end with what fits its kind
  record IsIf (i : Instr) : Type 0 where
    kind : Kind
    ends : ends_with (judged_by s) i ≡ Fitting kind
    gives : (k r : Kind) → yields (judged_by s) i k r ≡ kind

  branch_is_if : (i : Instr) → HasBranches i → IsIf i
  branch_is_if (instrs.If k n m) h = record { kind = kind_meant (judged_by s) k; ends = refl; gives = λ j r. refl }
  branch_is_if i h = let bad = h.2 in cc

  bridge_branch : (i : Instr) (first second rest : CodeTree) → Bridge first → Bridge second → Bridge rest → Bridge (Branch i first second rest)
  bridge_branch i first second rest one two go e vps [] at ks v c self h =
      let b = branch_says (judged_by s) e i first second rest at [] ks h in
      let bad : all_match s.population.model (a_boolean ∷ []) [] ≡ true = subst (λ ws. all_match s.population.model ws [] ≡ true) (branch_takes (judged_by s) i c.0) b.takes.fitting in cc
  bridge_branch i first second rest one two go e vps (p ∷ ps) at ks v c self h =
      let sur = judged_by s in
      let w = branch_is_if i c.0 in
      let takes = branch_takes sur i c.0 in
      let b = branch_says sur e i first second rest at (p.kind ∷ kinds_of ps) ks h in
      let left : b.left ≡ kinds_of ps = b.takes.left_is ∙ ap (λ ws. below ws (p.kind ∷ kinds_of ps)) takes in
      let inner = in_block e e.variables b.left in
      let x = end_place s first vps in
      let y = end_place s second vps in
      let q = branch_place s i p x y in
      let x_kind : x.kind ≡ b.gives = (body_ends_in s first inner vps (at + 1) b.ends b.gives v b.first_ends b.one).1 in
      let y_kind : y.kind ≡ b.other = (body_ends_in s second inner vps (at + 1 + instr_count first) b.others b.other v b.second_ends b.other_one).1 in
      let bx = body_kinded first one inner vps (at + 1) b.ends b.gives v c.2 self b.first_ends b.one in
      let by = body_kinded second two inner vps (at + 1 + instr_count first) b.others b.other v c.3 self b.second_ends b.other_one in
      let cx = cost s first vps [] in
      let cy = cost s second vps [] in
      let q_kind : q.kind ≡ w.kind = w.gives p.kind x.kind in
      let x_fits : fits s.population.model x.kind q.kind ≡ true = ap (λ k. fits s.population.model k q.kind) x_kind ∙ ap (fits s.population.model b.gives) q_kind ∙ subst (λ u. matches s.population.model u b.gives ≡ true) w.ends b.fitting in
      let y_fits : fits s.population.model y.kind q.kind ≡ true = ap (λ k. fits s.population.model k q.kind) y_kind ∙ ap (fits s.population.model b.other) q_kind ∙ subst (λ u. matches s.population.model u b.other ≡ true) w.ends b.other_fitting in
      let kx = wider first vps [] (x ∷ []) (q ∷ []) cx.charges (max cx.charges cy.charges) (record { fit = x_fits; shorter = omega arith }, tt) (omega arith) bx in
      let ky = wider second vps [] (y ∷ []) (q ∷ []) cy.charges (max cx.charges cy.charges) (record { fit = y_fits; shorter = omega arith }, tt) (omega arith) by in
      let before : kinds_of (q ∷ ps) ≡ yields sur i (block_operand i (p.kind ∷ kinds_of ps)) b.gives ∷ b.left =
      ap (λ k. k ∷ kinds_of ps) (w.gives p.kind x.kind ∙ sym (w.gives (block_operand i (p.kind ∷ kinds_of ps)) b.gives)) ∙ ap (λ l. yields sur i (block_operand i (p.kind ∷ kinds_of ps)) b.gives ∷ l) (sym left) in
      let kr = go e vps (q ∷ ps) (at + 1 + instr_count first + instr_count second) ks v c.4 self (ap (kinds_after sur rest e (at + 1 + instr_count first + instr_count second)) before ∙ b.rest_ends) in
      let places : places_after s rest vps (q ∷ ps) ≡ places_after s (Branch i first second rest) vps (p ∷ ps) =
      ap (λ ws. places_after s rest vps (q ∷ drop (length ws) (p ∷ ps))) (sym takes) ∙ ap (λ k. places_after s rest vps (place k q.longest ∷ places_left s i (p ∷ ps))) (w.gives p.kind x.kind ∙ sym (w.gives (operand_place i (p ∷ ps)).kind x.kind)) in
      let dropped : lengths_below sur i (p.longest ∷ lengths_of ps) ≡ lengths_of ps = ap (λ ws. drop (length ws) (p.longest ∷ lengths_of ps)) takes in
      let longest : q.longest ≡ max (top_length cx.lengths) (top_length cy.lengths) = ap (λ n. max n y.longest) (end_longest s first vps) ∙ ap (max (top_length cx.lengths)) (end_longest s second vps) in
      let same : cost s rest vps (q ∷ ps) ≡ cost_of sur (sizes_in s) rest (lengths_of vps) (max (top_length cx.lengths) (top_length cy.lengths) ∷ lengths_below sur i (p.longest ∷ lengths_of ps)) =
      ap (λ n. cost_of sur (sizes_in s) rest (lengths_of vps) (n ∷ lengths_of ps)) longest
      ∙ ap (λ l. cost_of sur (sizes_in s) rest (lengths_of vps) (max (top_length cx.lengths) (top_length cy.lengths) ∷ l)) (sym dropped) in (
        _,
        _,
        c.0,
        taken_place e i vps (p ∷ ps) b.left v c.1 self b.takes,
        kx,
        ky,
        subst (λ out. Kinded s rest vps (q ∷ ps) out (cost s rest vps (q ∷ ps)).charges) places kr,
        omega (arith, ap (λ c. c.charges) same),
      )

  bridge_torn : (i : Instr) (left : ℕ) → Bridge (Torn i left)
  bridge_torn i left e vps ps at ks v c self h =
      let a = both_steps (taken (judged_by s) e.variables i at (kinds_of ps)) _ ks h in
      let bad = a.2 in cc

  -- what the rules of kinds accept has kinds, and makes no more steps than its bound
  pub bridge : (t : CodeTree) → Bridge t
  bridge End = λ e vps ps at ks v c self h. all_below_itself ps
  bridge (Plain i rest) = bridge_plain i rest (bridge rest)
  bridge (Block i body rest) = bridge_block i body rest (bridge body) (bridge rest)
  bridge (Branch i first second rest) = bridge_branch i first second rest (bridge first) (bridge second) (bridge rest)
  bridge (Torn i left) = bridge_torn i left
