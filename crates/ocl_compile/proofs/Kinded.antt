-- The code of typed core trees has kinds: each place has a kind that fits the one that the tree is typed with.
use Rattle.std.proofs.Common.{◌≡◌, ◌⊎◌, ℕ, zero, suc, ◌+◌, ◌<◌, ◌≤◌, ◌==◌, max, Bool, true, false, List, [], ◌∷◌, ◌++◌, length, Some, Result, Ok, refl, sym, ap, ◌∙◌, inl, inr, ⊎_elim, arith, length-append}
use Rattle.std.specs.Prelude.{slice_get, nat_le, nat_lt, if◌then◌else◌}
use Rattle.std.proofs.lemmas.Bool.{le-leb, lt-ltb, eq-eqb, ne_eqb}
use Rattle.rule_verify.proofs.ForAbove.{below_count}
use Rattle.ocl_base.specs.Steps.{◌>>=◌, check}
use Rattle.imkl_model.specs.ClassModel.{Model}
use Rattle.ocl_kinds.specs.declared.kind.Kind.{Kind}
use Rattle.ocl_kinds.specs.Kinds.{fits}
use Rattle.rule_code.specs.declared.instruction.Instr.{Instr}
use Rattle.rule_verify.specs.declared.depths.Depths.{Depths}
use Rattle.rule_verify.specs.declared.fault.VerifyFlaw.TheVariants as flaws
use Rattle.rule_verify.specs.CodeTree.{CodeTree, End, Plain, Block, Branch, Torn, instr_count}
use Rattle.rule_verify.specs.CodeDepths.{deeper, past_instr, in_binding, in_branch, deepest}
use Rattle.ocl_base.specs.Lists.{variable_at}
use Rattle.rule_verify.specs.InstrKinds.{Surroundings, has_names, has_variable, operands_of, result_kind, block_operand, binds, ends_with, yields}
use Rattle.rule_verify.specs.Patterns.{matches, are_there, all_match, below}
use Rattle.rule_verify.specs.declared.limits.TheConstants.{MAX_BLOCKS, MAX_OPERANDS}
use Rattle.rule_verify.specs.KindRules.{InstrFault, instr_fault, Enclosing, in_block, taken, after_plain, opened, ended_with, kinds_after}

-- ---- variables

-- each variable has a kind that fits the one that it is typed with
pub record Narrower (m : Model) (vars g : List Kind) : Type 0 where
  pub count : length vars ≡ length g
  pub each : (n : ℕ) (k : Kind) → slice_get g n ≡ Some k → (l : Kind) × (variable_at vars n ≡ Some l) × (fits m l k ≡ true)

-- of a list with one more, the last one or one before it
one_of : (g : List Kind) (x : Kind) (n : ℕ) (k : Kind) → slice_get (g ++ x ∷ []) n ≡ Some k → ((n ≡ length g) × (x ≡ k)) ⊎ ((n < length g) × (slice_get g n ≡ Some k))
one_of [] x zero k e = inl (refl, cc)
one_of [] x (suc n) k e = cc
one_of (y ∷ g) x zero k e = inr (omega arith, e)
one_of (y ∷ g) x (suc n) k e = ⊎_elim (λ h. inl (ap suc h.0, h.1)) (λ h. inr (omega (arith, h.0), h.1)) (one_of g x n k e)

-- one more variable
pub bound_too : (m : Model) (vars g : List Kind) (l x : Kind) → Narrower m vars g → fits m l x ≡ true → Narrower m (l ∷ vars) (g ++ x ∷ [])
bound_too m vars g l x h e =
    record {
      count = omega (arith, length-append g (x ∷ []), h.count);
      each = λ n k at. ⊎_elim (λ last. newest n k last.0 last.1) (λ before. older n k before.0 before.1) (one_of g x n k at);
    }
  where
    newest : (n : ℕ) (k : Kind) → n ≡ length g → x ≡ k → (j : Kind) × (variable_at (l ∷ vars) n ≡ Some j) × (fits m j k ≡ true)
    newest n k is same =
        let b : (n == length vars) ≡ true = eq-eqb n (length vars) (is ∙ sym h.count) in
        (l, ap (λ (t : Bool). if t then Some l else variable_at vars n) b, ap (fits m l) (sym same) ∙ e)

    older : (n : ℕ) (k : Kind) → n < length g → slice_get g n ≡ Some k → (j : Kind) × (variable_at (l ∷ vars) n ≡ Some j) × (fits m j k ≡ true)
    older n k lt at =
        let b : (n == length vars) ≡ false = ne_eqb n (length vars) (λ same. omega (arith, lt, same, h.count)) in
        let r = h.each n k at in
        (r.0, ap (λ (t : Bool). if t then Some l else variable_at vars n) b ∙ r.1, r.2)

-- ---- depths

-- how deep a place is
pub record StandsDeep (d : Depths) (e : Enclosing) (ks : List Kind) : Type 0 where
  pub operands : d.operands ≡ e.covered + length ks
  pub blocks : d.blocks ≡ e.open_blocks

-- code from a place on keeps within the limits
pub record IsShallow (s : Surroundings) (t : CodeTree) (d : Depths) : Type 0 where
  pub operands : (deepest s t d).operands ≤ MAX_OPERANDS
  pub blocks : (deepest s t d).blocks ≤ MAX_BLOCKS

-- what is no deeper than the deeper of two is no deeper than each
max_parts : (a b n : ℕ) → max a b ≤ n → (a ≤ n) × (b ≤ n)
max_parts a b n h = (omega (arith, h), omega (arith, h))

both_shallow : (c d : Depths) → (deeper c d).operands ≤ MAX_OPERANDS → (deeper c d).blocks ≤ MAX_BLOCKS → (d.operands ≤ MAX_OPERANDS) × (d.blocks ≤ MAX_BLOCKS)
both_shallow c d h g = ((max_parts c.operands d.operands MAX_OPERANDS h).1, (max_parts c.blocks d.blocks MAX_BLOCKS g).1)

-- where code is within the limits, so is its first place
begins_shallow : (s : Surroundings) (t : CodeTree) (d : Depths) → IsShallow s t d → (d.operands ≤ MAX_OPERANDS) × (d.blocks ≤ MAX_BLOCKS)
begins_shallow s End d h = (h.operands, h.blocks)
begins_shallow s (Plain i rest) d h = ((max_parts d.operands _ MAX_OPERANDS h.operands).0, (max_parts d.blocks _ MAX_BLOCKS h.blocks).0)
begins_shallow s (Block i body rest) d h = ((max_parts d.operands _ MAX_OPERANDS h.operands).0, (max_parts d.blocks _ MAX_BLOCKS h.blocks).0)
begins_shallow s (Branch i first second rest) d h = ((max_parts d.operands _ MAX_OPERANDS h.operands).0, (max_parts d.blocks _ MAX_BLOCKS h.blocks).0)
begins_shallow s (Torn i left) d h = (h.operands, h.blocks)

-- ---- one instruction

-- an instruction takes its operands from a stack of kinds, and leaves others
pub record TakesKinds (s : Surroundings) (vars : List Kind) (i : Instr) (stack left : List Kind) : Type 0 where
  pub names : has_names s i ≡ true
  pub variable : has_variable vars i ≡ true
  pub there : are_there (operands_of s i) stack ≡ true
  pub match : all_match s.model (operands_of s i) stack ≡ true
  pub leaves : below (operands_of s i) stack ≡ left

taken_is : (s : Surroundings) (vars : List Kind) (i : Instr) (at : ℕ) (stack left : List Kind) → TakesKinds s vars i stack left → taken s vars i at stack ≡ Ok left
taken_is s vars i at stack left t =
    let fault : _ → InstrFault = λ f. instr_fault f s.rule at in
    ap (λ (b : Bool). check b (fault flaws.NoSuchName) >>= (λ _. check (has_variable vars i) (fault flaws.BadVariable) >>= (λ _. check (are_there (operands_of s i) stack) (fault flaws.MissingOperand) >>= (λ _. check (all_match s.model (operands_of s i) stack) (fault flaws.WrongKind) >>= (λ _. Ok (below (operands_of s i) stack)))))) t.names
    ∙ ap (λ (b : Bool). check b (fault flaws.BadVariable) >>= (λ _. check (are_there (operands_of s i) stack) (fault flaws.MissingOperand) >>= (λ _. check (all_match s.model (operands_of s i) stack) (fault flaws.WrongKind) >>= (λ _. Ok (below (operands_of s i) stack))))) t.variable
    ∙ ap (λ (b : Bool). check b (fault flaws.MissingOperand) >>= (λ _. check (all_match s.model (operands_of s i) stack) (fault flaws.WrongKind) >>= (λ _. Ok (below (operands_of s i) stack)))) t.there
    ∙ ap (λ (b : Bool). check b (fault flaws.WrongKind) >>= (λ _. Ok (below (operands_of s i) stack))) t.match
    ∙ ap (λ (l : List Kind). Ok l) t.leaves

left_count : (s : Surroundings) (vars : List Kind) (i : Instr) (stack left : List Kind) → TakesKinds s vars i stack left → length stack ≡ length (operands_of s i) + length left
left_count s vars i stack left t = below_count (operands_of s i) stack t.there ∙ ap (λ (l : List Kind). length (operands_of s i) + length l) t.leaves

-- ---- code

-- from code to what follows it: one operand, of a kind that fits this one, on those that are left
pub record Past (s : Surroundings) (from rest : CodeTree) (e : Enclosing) (at : ℕ) (stack left : List Kind) (k : Kind) : Type 0 where
  pub kind : Kind
  pub is_narrower : fits s.model kind k ≡ true
  pub next : ℕ
  pub depths : Depths
  pub after : kinds_after s from e at stack ≡ kinds_after s rest e next (kind ∷ left)
  pub stands : StandsDeep depths e (kind ∷ left)
  pub shallow : IsShallow s rest depths

module _ (s : Surroundings) (e : Enclosing) (d : Depths) where
  -- past an instruction without a body
  pub past_plain : (i : Instr) (rest : CodeTree) (at : ℕ) (stack left : List Kind) (k : Kind) → TakesKinds s e.variables i stack left → fits s.model (result_kind s e.variables i stack) k ≡ true
      → StandsDeep d e stack → IsShallow s (Plain i rest) d
      → (depths : Depths) × (kinds_after s (Plain i rest) e at stack ≡ kinds_after s rest e (at + 1) (result_kind s e.variables i stack ∷ left)) × StandsDeep depths e (result_kind s e.variables i stack ∷ left) × IsShallow s rest depths
  past_plain i rest at stack left k t f stands shallow =
      let after : Depths = past_instr s i d in
      let deep = both_shallow d (deepest s rest after) shallow.operands shallow.blocks in
      let within : IsShallow s rest after = record { operands = deep.0; blocks = deep.1 } in
      let here = begins_shallow s rest after within in
      let result = result_kind s e.variables i stack in
      let counted = left_count s e.variables i stack left t in
      let room : nat_le (e.covered + suc (length left)) MAX_OPERANDS ≡ true = le-leb (e.covered + suc (length left)) MAX_OPERANDS (omega (arith, here.0, stands.operands, counted)) in
      let given : after_plain s e i at stack ≡ Ok (result ∷ left) =
      ap (λ (o : Result (List Kind) InstrFault). o >>= (λ l. check (nat_le (e.covered + suc (length l)) MAX_OPERANDS) (instr_fault flaws.StackLimit s.rule at) >>= (λ _. Ok (result ∷ l)))) (taken_is s e.variables i at stack left t)
      ∙ ap (λ (b : Bool). check b (instr_fault flaws.StackLimit s.rule at) >>= (λ _. Ok (result ∷ left))) room in
      (after, ap (λ (o : Result (List Kind) InstrFault). o >>= kinds_after s rest e (at + 1)) given, record { operands = omega (arith, stands.operands, counted); blocks = stands.blocks }, within)

  -- a block that nests is opened
  opened_is : (i : Instr) (at : ℕ) (stack left : List Kind) → TakesKinds s e.variables i stack left → e.open_blocks < MAX_BLOCKS → opened s e i at stack ≡ Ok left
  opened_is i at stack left t lt =
      ap (λ (o : Result (List Kind) InstrFault). o >>= (λ l. check (nat_lt e.open_blocks MAX_BLOCKS) (instr_fault flaws.NestLimit s.rule at) >>= (λ _. Ok l))) (taken_is s e.variables i at stack left t)
      ∙ ap (λ (b : Bool). check b (instr_fault flaws.NestLimit s.rule at) >>= (λ _. Ok left)) (lt-ltb e.open_blocks MAX_BLOCKS lt)

  -- past a block with one body, which ends with one operand
  pub past_block : (i : Instr) (body rest : CodeTree) (at : ℕ) (stack left : List Kind) (Ends : Kind → Type 0) → TakesKinds s e.variables i stack left
      → StandsDeep d e stack → IsShallow s (Block i body rest) d
      → ((inner : Depths) → StandsDeep inner (in_block e (binds s i (block_operand i stack) ++ e.variables) left) [] → IsShallow s body inner
      → (r : Kind) × (kinds_after s body (in_block e (binds s i (block_operand i stack) ++ e.variables) left) (at + 1) [] ≡ Ok (r ∷ [])) × (matches s.model (ends_with s i) r ≡ true) × Ends r)
      → (r : Kind) × (depths : Depths) × (kinds_after s (Block i body rest) e at stack ≡ kinds_after s rest e (at + 1 + instr_count body) (yields s i (block_operand i stack) r ∷ left))
      × StandsDeep depths e (yields s i (block_operand i stack) r ∷ left) × IsShallow s rest depths × Ends r
  past_block i body rest at stack left Ends t stands shallow ends =
      let inside : Depths = in_binding s i d in
      let after : Depths = past_instr s i d in
      let bodies = both_shallow d (deeper (deepest s body inside) (deepest s rest after)) shallow.operands shallow.blocks in
      let more = both_shallow (deepest s body inside) (deepest s rest after) bodies.0 bodies.1 in
      let in_body : IsShallow s body inside =
      record { operands = (max_parts (deepest s body inside).operands (deepest s rest after).operands MAX_OPERANDS bodies.0).0; blocks = (max_parts (deepest s body inside).blocks (deepest s rest after).blocks MAX_BLOCKS bodies.1).0 } in
      let here = begins_shallow s body inside in_body in
      let counted = left_count s e.variables i stack left t in
      let inner = in_block e (binds s i (block_operand i stack) ++ e.variables) left in
      let b = ends inside (record { operands = omega (arith, stands.operands, counted); blocks = ap (λ n. n + 1) stands.blocks }) in_body in
      let on : Result (List Kind) InstrFault → Result (List Kind) InstrFault = λ o. o >>= (λ l. kinds_after s body (in_block e (binds s i (block_operand i stack) ++ e.variables) l) (at + 1) [] >>= (λ x. ended_with s (ends_with s i) at x >>= (λ r. kinds_after s rest e (at + 1 + instr_count body) (yields s i (block_operand i stack) r ∷ l)))) in
      let to : Result (List Kind) InstrFault → Result (List Kind) InstrFault = λ o. o >>= (λ x. ended_with s (ends_with s i) at x >>= (λ r. kinds_after s rest e (at + 1 + instr_count body) (yields s i (block_operand i stack) r ∷ left))) in
      let by : Bool → Result (List Kind) InstrFault = λ x. (check x (instr_fault flaws.LeftOver s.rule at) >>= (λ _. Ok b.0)) >>= (λ r. kinds_after s rest e (at + 1 + instr_count body) (yields s i (block_operand i stack) r ∷ left)) in (
        b.0,
        after,
        ap on (opened_is i at stack left t (omega (arith, here.1, stands.blocks))) ∙ ap to b.1 ∙ ap by b.2,
        record { operands = omega (arith, stands.operands, counted); blocks = stands.blocks },
        record { operands = more.0; blocks = more.1 },
        b.3,
      )

  -- past a block with two bodies, which end with one operand each
  pub past_branch : (i : Instr) (first second rest : CodeTree) (at : ℕ) (stack left : List Kind) → TakesKinds s e.variables i stack left
      → StandsDeep d e stack → IsShallow s (Branch i first second rest) d
      → ((inner : Depths) (place : ℕ) → StandsDeep inner (in_block e e.variables left) [] → IsShallow s first inner
      → (r : Kind) × (kinds_after s first (in_block e e.variables left) place [] ≡ Ok (r ∷ [])) × (matches s.model (ends_with s i) r ≡ true))
      → ((inner : Depths) (place : ℕ) → StandsDeep inner (in_block e e.variables left) [] → IsShallow s second inner
      → (r : Kind) × (kinds_after s second (in_block e e.variables left) place [] ≡ Ok (r ∷ [])) × (matches s.model (ends_with s i) r ≡ true))
      → (r : Kind) × (next : ℕ) × (depths : Depths) × (kinds_after s (Branch i first second rest) e at stack ≡ kinds_after s rest e next (yields s i (block_operand i stack) r ∷ left))
      × StandsDeep depths e (yields s i (block_operand i stack) r ∷ left) × IsShallow s rest depths
  past_branch i first second rest at stack left t stands shallow first_ends second_ends =
      let inside : Depths = in_branch s i d in
      let after : Depths = past_instr s i d in
      let inner = in_block e e.variables left in
      let place = at + 1 + instr_count first in
      let last = at + 1 + instr_count first + instr_count second in
      let p = both_shallow d (deeper (deepest s first inside) (deeper (deepest s second inside) (deepest s rest after))) shallow.operands shallow.blocks in
      let q = both_shallow (deepest s first inside) (deeper (deepest s second inside) (deepest s rest after)) p.0 p.1 in
      let r = both_shallow (deepest s second inside) (deepest s rest after) q.0 q.1 in
      let in_first : IsShallow s first inside =
      record { operands = (max_parts (deepest s first inside).operands (deeper (deepest s second inside) (deepest s rest after)).operands MAX_OPERANDS p.0).0; blocks = (max_parts (deepest s first inside).blocks (deeper (deepest s second inside) (deepest s rest after)).blocks MAX_BLOCKS p.1).0 } in
      let in_second : IsShallow s second inside =
      record { operands = (max_parts (deepest s second inside).operands (deepest s rest after).operands MAX_OPERANDS q.0).0; blocks = (max_parts (deepest s second inside).blocks (deepest s rest after).blocks MAX_BLOCKS q.1).0 } in
      let here = begins_shallow s first inside in_first in
      let counted = left_count s e.variables i stack left t in
      let stands_in : StandsDeep inside inner [] = record { operands = omega (arith, stands.operands, counted); blocks = ap (λ n. n + 1) stands.blocks } in
      let a = first_ends inside (at + 1) stands_in in_first in
      let b = second_ends inside place stands_in in_second in
      let fault = instr_fault flaws.LeftOver s.rule at in
      let go : Kind → List Kind → Result (List Kind) InstrFault = λ x l. kinds_after s rest e last (yields s i (block_operand i stack) x ∷ l) in
      let on : Result (List Kind) InstrFault → Result (List Kind) InstrFault = λ o. o >>= (λ l. kinds_after s first (in_block e e.variables l) (at + 1) [] >>= (λ x. ended_with s (ends_with s i) at x >>= (λ r. kinds_after s second (in_block e e.variables l) place [] >>= (λ y. ended_with s (ends_with s i) at y >>= (λ _. go r l))))) in
      let to : Result (List Kind) InstrFault → Result (List Kind) InstrFault = λ o. o >>= (λ x. ended_with s (ends_with s i) at x >>= (λ r. kinds_after s second inner place [] >>= (λ y. ended_with s (ends_with s i) at y >>= (λ _. go r left)))) in
      let by : Bool → Result (List Kind) InstrFault = λ x. (check x fault >>= (λ _. Ok a.0)) >>= (λ r. kinds_after s second inner place [] >>= (λ y. ended_with s (ends_with s i) at y >>= (λ _. go r left))) in
      let too : Result (List Kind) InstrFault → Result (List Kind) InstrFault = λ o. o >>= (λ y. ended_with s (ends_with s i) at y >>= (λ _. go a.0 left)) in
      let also : Bool → Result (List Kind) InstrFault = λ x. (check x fault >>= (λ _. Ok b.0)) >>= (λ _. go a.0 left) in (
        a.0,
        last,
        after,
        ap on (opened_is i at stack left t (omega (arith, here.1, stands.blocks))) ∙ ap to a.1 ∙ ap by a.2 ∙ ap too b.1 ∙ ap also b.2,
        record { operands = omega (arith, stands.operands, counted); blocks = stands.blocks },
        record { operands = r.0; blocks = r.1 },
      )
