-- What the rules of kinds say of their parts, and that the places after code are theirs.
use Rattle.std.proofs.Common.{◌≡◌, ℕ, zero, suc, ◌+◌, Bool, true, false, List, [], ◌∷◌, ◌++◌, length, drop, Ok, refl, sym, ap, ◌∙◌, subst, arith}
use Rattle.std.specs.Prelude.{nat_le, nat_lt, max}
use Rattle.ocl_base.specs.Steps.{◌>>=◌, check}
use Rattle.ocl_base.proofs.ForAbove.{ok_is, both_steps}
use Rattle.ocl_kinds.specs.declared.kind.Kind.{Kind}
use Rattle.rule_code.specs.declared.instruction.Instr.{Instr}
use Rattle.rule_code.specs.declared.instruction.Instr.TheVariants as instrs
use Rattle.rule_verify.specs.declared.pattern.Pattern.{Pattern}
use Rattle.rule_verify.specs.declared.fault.VerifyFlaw.TheVariants as flaws
use Rattle.rule_verify.specs.CodeTree.{CodeTree, End, Plain, Block, Branch, Torn, instr_count}
use Rattle.rule_verify.specs.Patterns.{matches, below}
use Rattle.rule_verify.specs.InstrKinds.{Surroundings, operands_of, result_kind, topmost, operands_above, block_operand, bound_count, binds, ends_with, yields}
use Rattle.rule_verify.specs.declared.limits.TheConstants.{MAX_BLOCKS, MAX_OPERANDS}
use Rattle.rule_verify.specs.KindRules.{instr_fault, Enclosing, taken, after_plain, opened, in_block, ended_with, kinds_after}
use Rattle.rule_verify.proofs.ForAbove.{Takes, takes_from}
use Rattle.rule_cost.specs.Bounds.{Cost, cost_of, top_length, length_given, length_yielded, lengths_below, block_length, lengths_bound_by}
use Rattle.rule_machine.specs.Machine.{Setting, judged_by}
use Rattle.rule_machine.specs.Places.{Place, kinds_of, lengths_of, sizes_in, given, places_left, bound_by, yielded, branch_place, top_place, operand_place, places_after, end_place}

-- ---- what the rules of kinds say of their parts

-- an instruction without a body that is accepted takes its operands, and leaves its result on those below
pub plain_says : (s : Surroundings) (e : Enclosing) (i : Instr) (at : ℕ) (ks out : List Kind) → after_plain s e i at ks ≡ Ok out → (left : List Kind) × Takes s e.variables i ks left × (out ≡ result_kind s e.variables i ks ∷ left)
plain_says s e i at ks out h =
    let a = both_steps (taken s e.variables i at ks) _ out h in
    let b = both_steps (check (nat_le (e.covered + suc (length a.0)) MAX_OPERANDS) (instr_fault flaws.StackLimit s.rule at)) _ out a.2 in
    (a.0, takes_from s e.variables i at ks a.0 a.1, sym (ok_is _ _ b.2))

opened_says : (s : Surroundings) (e : Enclosing) (i : Instr) (at : ℕ) (ks out : List Kind) → opened s e i at ks ≡ Ok out → Takes s e.variables i ks out
opened_says s e i at ks out h =
    let a = both_steps (taken s e.variables i at ks) _ out h in
    let b = both_steps (check (nat_lt e.open_blocks MAX_BLOCKS) (instr_fault flaws.NestLimit s.rule at)) _ out a.2 in
    subst (Takes s e.variables i ks) (ok_is _ _ b.2) (takes_from s e.variables i at ks a.0 a.1)

-- a body ends with one operand, which its block's pattern matches
pub ended_says : (s : Surroundings) (w : Pattern) (at : ℕ) (ks : List Kind) (r : Kind) → ended_with s w at ks ≡ Ok r → (ks ≡ r ∷ []) × (matches s.model w r ≡ true)
ended_says s w at [] r e = cc
ended_says s w at (k ∷ []) r e = by_match (matches s.model w k) refl e
  where
    by_match : (b : Bool) → matches s.model w k ≡ b → (check b (instr_fault flaws.LeftOver s.rule at) >>= (λ u. Ok k)) ≡ Ok r → (k ∷ [] ≡ r ∷ []) × (matches s.model w r ≡ true)
    by_match true m e = let same : k ≡ r = ok_is k r e in (ap (λ x. x ∷ []) same, subst (λ x. matches s.model w x ≡ true) same m)
    by_match false m e = cc
ended_says s w at (k ∷ l ∷ ks) r e = cc

-- the places below those that are taken are of the kinds below
pub kinds_below : (ws : List Pattern) (ps : List Place) → kinds_of (drop (length ws) ps) ≡ below ws (kinds_of ps)
kinds_below [] ps = refl
kinds_below (w ∷ ws) [] = refl
kinds_below (w ∷ ws) (p ∷ ps) = kinds_below ws ps

-- the lengths of places that are left are those left of the lengths
pub lengths_dropped : (n : ℕ) (ps : List Place) → lengths_of (drop n ps) ≡ drop n (lengths_of ps)
lengths_dropped zero ps = refl
lengths_dropped (suc n) [] = refl
lengths_dropped (suc n) (p ∷ ps) = lengths_dropped n ps

-- what the rules say of a block that nests
pub record BlockSays (s : Surroundings) (e : Enclosing) (i : Instr) (body rest : CodeTree) (at : ℕ) (ks out : List Kind) : Type 0 where
  pub left : List Kind
  pub ends : List Kind
  pub gives : Kind
  pub takes : Takes s e.variables i ks left
  pub body_ends : kinds_after s body (in_block e (binds s i (block_operand i ks) ++ e.variables) left) (at + 1) [] ≡ Ok ends
  pub one : ends ≡ gives ∷ []
  pub fitting : matches s.model (ends_with s i) gives ≡ true
  pub rest_ends : kinds_after s rest e (at + 1 + instr_count body) (yields s i (block_operand i ks) gives ∷ left) ≡ Ok out

-- the rules of kinds say this of each block that they accept
pub block_says : (s : Surroundings) (e : Enclosing) (i : Instr) (body rest : CodeTree) (at : ℕ) (ks out : List Kind) → kinds_after s (Block i body rest) e at ks ≡ Ok out → BlockSays s e i body rest at ks out
block_says s e i body rest at ks out h =
    let a = both_steps (opened s e i at ks) _ out h in
    let b = both_steps (kinds_after s body (in_block e (binds s i (block_operand i ks) ++ e.variables) a.0) (at + 1) []) _ out a.2 in
    let r = both_steps (ended_with s (ends_with s i) at b.0) _ out b.2 in
    let ended = ended_says s (ends_with s i) at b.0 r.0 r.1 in
    record { left = a.0; ends = b.0; gives = r.0; takes = opened_says s e i at ks a.0 a.1; body_ends = b.1; one = ended.0; fitting = ended.1; rest_ends = r.2 }

-- what they say of an IF that nests
pub record BranchSays (s : Surroundings) (e : Enclosing) (i : Instr) (first second rest : CodeTree) (at : ℕ) (ks out : List Kind) : Type 0 where
  pub left : List Kind
  pub ends : List Kind
  pub others : List Kind
  pub gives : Kind
  pub other : Kind
  pub takes : Takes s e.variables i ks left
  pub first_ends : kinds_after s first (in_block e e.variables left) (at + 1) [] ≡ Ok ends
  pub one : ends ≡ gives ∷ []
  pub fitting : matches s.model (ends_with s i) gives ≡ true
  pub second_ends : kinds_after s second (in_block e e.variables left) (at + 1 + instr_count first) [] ≡ Ok others
  pub other_one : others ≡ other ∷ []
  pub other_fitting : matches s.model (ends_with s i) other ≡ true
  pub rest_ends : kinds_after s rest e (at + 1 + instr_count first + instr_count second) (yields s i (block_operand i ks) gives ∷ left) ≡ Ok out

-- the rules of kinds say this of each IF that they accept
pub branch_says : (s : Surroundings) (e : Enclosing) (i : Instr) (first second rest : CodeTree) (at : ℕ) (ks out : List Kind) → kinds_after s (Branch i first second rest) e at ks ≡ Ok out → BranchSays s e i first second rest at ks out
branch_says s e i first second rest at ks out h =
    let a = both_steps (opened s e i at ks) _ out h in
    let b = both_steps (kinds_after s first (in_block e e.variables a.0) (at + 1) []) _ out a.2 in
    let r = both_steps (ended_with s (ends_with s i) at b.0) _ out b.2 in
    let d = both_steps (kinds_after s second (in_block e e.variables a.0) (at + 1 + instr_count first) []) _ out r.2 in
    let q = both_steps (ended_with s (ends_with s i) at d.0) _ out d.2 in
    let ended = ended_says s (ends_with s i) at b.0 r.0 r.1 in
    let others = ended_says s (ends_with s i) at d.0 q.0 q.1 in
    record {
      left = a.0;
      ends = b.0;
      others = d.0;
      gives = r.0;
      other = q.0;
      takes = opened_says s e i at ks a.0 a.1;
      first_ends = b.1;
      one = ended.0;
      fitting = ended.1;
      second_ends = d.1;
      other_one = others.0;
      other_fitting = others.1;
      rest_ends = q.2;
    }

-- ---- the places after code

-- the topmost place is as long as the topmost length
pub top_longest : (ps : List Place) → (top_place ps).longest ≡ top_length (lengths_of ps)
top_longest [] = refl
top_longest (p ∷ ps) = refl

top_kind : (ps : List Place) → (top_place ps).kind ≡ topmost (kinds_of ps)
top_kind [] = refl
top_kind (p ∷ ps) = refl

-- the operand that a block works on is as long as the bounds say, and of the kind of the rules
pub operand_longest : (i : Instr) (ps : List Place) → (operand_place i ps).longest ≡ block_length i (lengths_of ps)
operand_longest i ps = top_longest (drop (operands_above i) ps) ∙ ap top_length (lengths_dropped (operands_above i) ps)

kinds_dropped : (n : ℕ) (ps : List Place) → kinds_of (drop n ps) ≡ drop n (kinds_of ps)
kinds_dropped zero ps = refl
kinds_dropped (suc n) [] = refl
kinds_dropped (suc n) (p ∷ ps) = kinds_dropped n ps

pub operand_kind : (i : Instr) (ps : List Place) → (operand_place i ps).kind ≡ block_operand i (kinds_of ps)
operand_kind i ps = top_kind (drop (operands_above i) ps) ∙ ap topmost (kinds_dropped (operands_above i) ps)

-- and so are the variables that it binds
pub bound_kinds : (s : Setting) (i : Instr) (p : Place) (vps : List Place) → kinds_of (bound_by s i p ++ vps) ≡ binds (judged_by s) i p.kind ++ kinds_of vps
bound_kinds s (instrs.Let n) p vps = refl
bound_kinds s (instrs.Fold k n) p vps = refl
bound_kinds s i p vps = refl

pub bound_lengths : (s : Setting) (i : Instr) (p : Place) (vps : List Place) → lengths_of (bound_by s i p ++ vps) ≡ lengths_bound_by i p.longest ++ lengths_of vps
bound_lengths s (instrs.Let n) p vps = refl
bound_lengths s (instrs.Fold k n) p vps = refl
bound_lengths s i p vps = refl

pub bound_many : (s : Setting) (i : Instr) (p : Place) (vps : List Place) → length (bound_by s i p ++ vps) ≡ bound_count i + length vps
bound_many s (instrs.Let n) p vps = omega arith
bound_many s (instrs.Fold k n) p vps = omega arith
bound_many s i p vps = omega arith

-- one place is the topmost
one_place : (ps : List Place) (r : Kind) → kinds_of ps ≡ r ∷ [] → (ps ≡ top_place ps ∷ []) × ((top_place ps).kind ≡ r)
one_place [] r e = cc
one_place (p ∷ []) r e = (refl, cc)
one_place (p ∷ q ∷ ps) r e = cc

module _ (s : Setting) where
  abbrev pub cost : CodeTree → List Place → List Place → Cost
  cost t vps ps = cost_of (judged_by s) (sizes_in s) t (lengths_of vps) (lengths_of ps)

  -- they are as long as the bounds say
  pub lengths_after : (t : CodeTree) (vps ps : List Place) → lengths_of (places_after s t vps ps) ≡ (cost t vps ps).lengths
  lengths_after End vps ps = refl
  lengths_after (Plain i rest) vps ps =
      lengths_after rest vps (given s vps i ps ∷ places_left s i ps)
      ∙ ap (λ l. (cost_of (judged_by s) (sizes_in s) rest (lengths_of vps) (length_given (judged_by s) (sizes_in s) (lengths_of vps) i (lengths_of ps) ∷ l)).lengths) (lengths_dropped (length (operands_of (judged_by s) i)) ps)
  lengths_after (Block i body rest) vps ps =
      let sur = judged_by s in
      let below = lengths_below sur i (lengths_of ps) in
      let p = operand_place i ps in
      let r = end_place s body (bound_by s i p ++ vps) in
      let after : List ℕ → List ℕ = λ l. (cost_of sur (sizes_in s) rest (lengths_of vps) l).lengths in
      lengths_after rest vps (yielded s i p r ∷ places_left s i ps)
      ∙ ap (λ l. after (length_yielded i p.longest r.longest ∷ l)) (lengths_dropped (length (operands_of sur i)) ps)
      ∙ ap (λ n. after (length_yielded i p.longest n ∷ below)) (top_longest (places_after s body (bound_by s i p ++ vps) []) ∙ ap top_length (lengths_after body (bound_by s i p ++ vps) [] ∙ ap (λ vs. (cost_of sur (sizes_in s) body vs []).lengths) (bound_lengths s i p vps)))
      ∙ ap (λ n. after (length_yielded i n (top_length (cost_of sur (sizes_in s) body (lengths_bound_by i n ++ lengths_of vps) []).lengths) ∷ below)) (operand_longest i ps)
  lengths_after (Branch i first second rest) vps ps =
      let sur = judged_by s in
      let below = lengths_below sur i (lengths_of ps) in
      let a = end_place s first vps in
      let b = end_place s second vps in
      let after : List ℕ → List ℕ = λ l. (cost_of sur (sizes_in s) rest (lengths_of vps) l).lengths in
      lengths_after rest vps (branch_place s i (operand_place i ps) a b ∷ places_left s i ps)
      ∙ ap (λ l. after (max a.longest b.longest ∷ l)) (lengths_dropped (length (operands_of sur i)) ps)
      ∙ ap (λ n. after (max n b.longest ∷ below)) (top_longest (places_after s first vps []) ∙ ap top_length (lengths_after first vps []))
      ∙ ap (λ n. after (max (top_length (cost first vps []).lengths) n ∷ below)) (top_longest (places_after s second vps []) ∙ ap top_length (lengths_after second vps []))
  lengths_after (Torn i left) vps ps = refl

  -- and so is what a body ends with
  pub end_longest : (t : CodeTree) (vps : List Place) → (end_place s t vps).longest ≡ top_length (cost t vps []).lengths
  end_longest t vps = top_longest (places_after s t vps []) ∙ ap top_length (lengths_after t vps [])

  -- they have the kinds of the rules
  abbrev pub KindsAfter : CodeTree → Type 0
  KindsAfter t = (e : Enclosing) (vps ps : List Place) (at : ℕ) (ks : List Kind) → e.variables ≡ kinds_of vps → kinds_after (judged_by s) t e at (kinds_of ps) ≡ Ok ks → kinds_of (places_after s t vps ps) ≡ ks

  -- a body leaves one place
  ends_in : (t : CodeTree) → KindsAfter t → (e : Enclosing) (vps : List Place) (at : ℕ) (ks : List Kind) (r : Kind) → e.variables ≡ kinds_of vps → kinds_after (judged_by s) t e at [] ≡ Ok ks → ks ≡ r ∷ [] → (places_after s t vps [] ≡ end_place s t vps ∷ []) × ((end_place s t vps).kind ≡ r)
  ends_in t after e vps at ks r v h one = one_place (places_after s t vps []) r (after e vps [] at ks v h ∙ one)

  -- the kinds after an instruction without a body are those of the places
  pub given_kinds : (e : Enclosing) (i : Instr) (vps ps : List Place) (ks left : List Kind) → e.variables ≡ kinds_of vps → left ≡ below (operands_of (judged_by s) i) (kinds_of ps) → ks ≡ result_kind (judged_by s) e.variables i (kinds_of ps) ∷ left → kinds_of (given s vps i ps ∷ places_left s i ps) ≡ ks
  given_kinds e i vps ps ks left v left_is is =
      let sur = judged_by s in
      ap (λ l. result_kind sur (kinds_of vps) i (kinds_of ps) ∷ l) (kinds_below (operands_of sur i) ps ∙ sym left_is) ∙ ap (λ vs. result_kind sur vs i (kinds_of ps) ∷ left) (sym v) ∙ sym is

  after_plain_kinds : (i : Instr) (rest : CodeTree) → KindsAfter rest → KindsAfter (Plain i rest)
  after_plain_kinds i rest go e vps ps at ks v h =
      let sur = judged_by s in
      let a = both_steps (after_plain sur e i at (kinds_of ps)) _ ks h in
      let b = plain_says sur e i at (kinds_of ps) a.0 a.1 in
      go e vps (given s vps i ps ∷ places_left s i ps) (at + 1) ks v (ap (kinds_after sur rest e (at + 1)) (given_kinds e i vps ps a.0 b.0 v b.1.left_is b.2) ∙ a.2)

  after_block_kinds : (i : Instr) (body rest : CodeTree) → KindsAfter body → KindsAfter rest → KindsAfter (Block i body rest)
  after_block_kinds i body rest inside go e vps ps at ks v h =
      let sur = judged_by s in
      let b = block_says sur e i body rest at (kinds_of ps) ks h in
      let p = operand_place i ps in
      let variables : binds sur i (block_operand i (kinds_of ps)) ++ e.variables ≡ kinds_of (bound_by s i p ++ vps) =
      ap (λ k. binds sur i k ++ e.variables) (sym (operand_kind i ps)) ∙ ap (λ vs. binds sur i p.kind ++ vs) v ∙ sym (bound_kinds s i p vps) in
      let r = ends_in body inside (in_block e (binds sur i (block_operand i (kinds_of ps)) ++ e.variables) b.left) (bound_by s i p ++ vps) (at + 1) b.ends b.gives variables b.body_ends b.one in
      let before : kinds_of (yielded s i p (end_place s body (bound_by s i p ++ vps)) ∷ places_left s i ps) ≡ yields sur i (block_operand i (kinds_of ps)) b.gives ∷ b.left =
      ap (λ k. yields sur i p.kind k ∷ kinds_of (places_left s i ps)) r.1 ∙ ap (λ k. yields sur i k b.gives ∷ kinds_of (places_left s i ps)) (operand_kind i ps)
      ∙ ap (λ l. yields sur i (block_operand i (kinds_of ps)) b.gives ∷ l) (kinds_below (operands_of sur i) ps ∙ sym b.takes.left_is) in
      go e vps (yielded s i p (end_place s body (bound_by s i p ++ vps)) ∷ places_left s i ps) (at + 1 + instr_count body) ks v (ap (kinds_after sur rest e (at + 1 + instr_count body)) before ∙ b.rest_ends)

  after_branch_kinds : (i : Instr) (first second rest : CodeTree) → KindsAfter first → KindsAfter rest → KindsAfter (Branch i first second rest)
  after_branch_kinds i first second rest inside go e vps ps at ks v h =
      let sur = judged_by s in
      let b = branch_says sur e i first second rest at (kinds_of ps) ks h in
      let p = operand_place i ps in
      let r = ends_in first inside (in_block e e.variables b.left) vps (at + 1) b.ends b.gives v b.first_ends b.one in
      let before : kinds_of (branch_place s i p (end_place s first vps) (end_place s second vps) ∷ places_left s i ps) ≡ yields sur i (block_operand i (kinds_of ps)) b.gives ∷ b.left =
      ap (λ k. yields sur i p.kind k ∷ kinds_of (places_left s i ps)) r.1 ∙ ap (λ k. yields sur i k b.gives ∷ kinds_of (places_left s i ps)) (operand_kind i ps)
      ∙ ap (λ l. yields sur i (block_operand i (kinds_of ps)) b.gives ∷ l) (kinds_below (operands_of sur i) ps ∙ sym b.takes.left_is) in
      go e vps (branch_place s i p (end_place s first vps) (end_place s second vps) ∷ places_left s i ps) (at + 1 + instr_count first + instr_count second) ks v
      (ap (kinds_after sur rest e (at + 1 + instr_count first + instr_count second)) before ∙ b.rest_ends)

  after_torn_kinds : (i : Instr) (left : ℕ) → KindsAfter (Torn i left)
  after_torn_kinds i left e vps ps at ks v h =
      let a = both_steps (taken (judged_by s) e.variables i at (kinds_of ps)) _ ks h in
      let bad = a.2 in cc

  -- the places after any code that the rules of kinds accept are of the kinds that they give
  pub kinds_of_after : (t : CodeTree) → KindsAfter t
  kinds_of_after End = λ e vps ps at ks v h. ok_is _ _ h
  kinds_of_after (Plain i rest) = after_plain_kinds i rest (kinds_of_after rest)
  kinds_of_after (Block i body rest) = after_block_kinds i body rest (kinds_of_after body) (kinds_of_after rest)
  kinds_of_after (Branch i first second rest) = after_branch_kinds i first second rest (kinds_of_after first) (kinds_of_after rest)
  kinds_of_after (Torn i left) = after_torn_kinds i left

  -- what the rules say a body ends with is its place's kind
  pub body_ends_in : (t : CodeTree) (e : Enclosing) (vps : List Place) (at : ℕ) (ks : List Kind) (r : Kind) → e.variables ≡ kinds_of vps → kinds_after (judged_by s) t e at [] ≡ Ok ks → ks ≡ r ∷ [] → (places_after s t vps [] ≡ end_place s t vps ∷ []) × ((end_place s t vps).kind ≡ r)
  body_ends_in t = ends_in t (kinds_of_after t)
