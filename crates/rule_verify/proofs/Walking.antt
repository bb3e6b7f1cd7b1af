-- The verifier's walk: what each instruction comes to, by its shape.
use Rattle.std.proofs.Common.{◌≡◌, ℕ, suc, ◌+◌, ◌<◌, ◌≤◌, inl, inr, Bool, true, false, List, [], ◌∷◌, ◌++◌, length, length-append, Result, Ok, Err, Some, refl, sym, ap, ◌∙◌, subst, arith}
use Rattle.std.specs.Prelude.{slice_get, slice_range, nat_le, nat_lt}
use Rattle.std.proofs.lemmas.Bool.{le-leb, lt-leb, le-ltb, lt-ltb}
use Rattle.std.proofs.lemmas.Bool.Decides.{leb_tells}
use Rattle.ocl_base.proofs.ForAbove.{max_assoc}
use Rattle.ocl_base.specs.Steps.{◌>>=◌, check, Fails}
use Rattle.ocl_kinds.specs.declared.kind.Kind.{Kind}
use Rattle.rule_code.specs.declared.instruction.Instr.{Instr}
use Rattle.rule_code.specs.declared.instruction.Instr.TheVariants as instrs
use Rattle.rule_verify.specs.declared.fault.VerifyFlaw.TheVariants as flaws
use Rattle.rule_verify.specs.declared.fault.VerifyFault.{VerifyFault}
use Rattle.rule_verify.specs.declared.fault.VerifyFault.TheVariants.{At, OutOfMemory}
use Rattle.rule_verify.specs.declared.code.RuleCode.{RuleCode}
use Rattle.rule_verify.specs.declared.depths.Depths.{Depths}
use Rattle.rule_verify.specs.declared.place.Place.{Place}
use Rattle.rule_verify.specs.declared.pattern.Pattern.{Pattern}
use Rattle.rule_verify.specs.declared.shape.Shape.{Shape}
use Rattle.rule_verify.specs.declared.shape.Shape.TheVariants.{Single, OneBody, TwoBodies}
use Rattle.rule_verify.specs.CodeTree.{CodeTree, Plain, Block, Branch, shape_of, instr_count, code_tree}
use Rattle.rule_verify.specs.CodeDepths.{deeper, past_instr, in_binding, in_branch, deepest}
use Rattle.rule_verify.specs.Faults.{verify_fault}
use Rattle.rule_verify.specs.InstrKinds.{Surroundings, has_names, has_variable, operands_of, result_kind, block_operand, binds, bound_count, ends_with, yields}
use Rattle.rule_verify.specs.declared.limits.TheConstants.{MAX_BLOCKS, MAX_OPERANDS}
use Rattle.rule_verify.specs.KindRules.{InstrFault, instr_fault, Enclosing, in_block, taken, opened, ended_with, kinds_after}
use Rattle.rule_verify.specs.Known.{AreKnownKinds}
use Rattle.rule_verify.specs.Patterns.{are_there, all_match, below}
use Rattle.rule_verify.specs.Walk.{surroundings_of, IsPlace, enclosing, kinds_from, depth_at, depths_from, moved, place_inside, Gone, IsBlock, body_ends}
use Rattle.rule_verify.proofs.Stretches.{code_tree_count, stretch_length, tree_plain, tree_block, tree_branch, tree_torn, tree_torn_branch}

-- ---- steps

-- two steps, and then a third
two_first : {A B C E : Type 0} (r : Result A E) (f : A → Result B E) (g : B → Result C E) → (r >>= (λ x. f x >>= g)) ≡ ((r >>= f) >>= g)
two_first (Ok x) f g = refl
two_first (Err e) f g = refl

-- where a step fails, so does what begins with it
fails_then : {A B E : Type 0} (r : Result A E) (f : A → Result B E) (e : E) → r ≡ Err e → (r >>= f) ≡ Err e
fails_then (Ok x) f e h = absurd cc
fails_then (Err d) f e h = cc

-- the same, if what follows is
then_same : {A B E : Type 0} (r : Result A E) (f g : A → Result B E) → ((x : A) → f x ≡ g x) → (r >>= f) ≡ (r >>= g)
then_same (Ok x) f g h = h x
then_same (Err e) f g h = refl

-- ---- depths

depths_are : (a b c a' b' c' : ℕ) → a ≡ a' → b ≡ b' → c ≡ c' → ◌≡◌ {A = Depths} (record { operands = a; variables = b; blocks = c }) (record { operands = a'; variables = b'; blocks = c' })
depths_are a b c a' b' c' e f g = rw (e, f, g) refl

deeper_assoc : (a b c : Depths) → deeper a (deeper b c) ≡ deeper (deeper a b) c
deeper_assoc a b c =
    depths_are _ _ _ _ _ _ (max_assoc a.operands b.operands c.operands) (max_assoc a.variables b.variables c.variables) (max_assoc a.blocks b.blocks c.blocks)

-- ---- operands that were taken

taken_by : {A E : Type 0} (a b c d : Bool) (f g h j : E) (x y : A)
    → (check a f >>= (λ u. check b g >>= (λ v. check c h >>= (λ w. check d j >>= (λ z. Ok x))))) ≡ Ok y → (a ≡ true) × (b ≡ true) × (c ≡ true) × (d ≡ true) × (x ≡ y)
taken_by true true true true f g h j x y e = (refl, refl, refl, refl, cc)
taken_by true true true false f g h j x y e = absurd cc
taken_by true true false d f g h j x y e = absurd cc
taken_by true false c d f g h j x y e = absurd cc
taken_by false b c d f g h j x y e = absurd cc

-- what an instruction that took its operands found
pub record Takes (s : Surroundings) (vars : List Kind) (i : Instr) (ks left : List Kind) : Type 0 where
  pub names : has_names s i ≡ true
  pub variable : has_variable vars i ≡ true
  pub there : are_there (operands_of s i) ks ≡ true
  pub fitting : all_match s.model (operands_of s i) ks ≡ true
  pub left_is : left ≡ below (operands_of s i) ks

-- an instruction that took its operands passed each check of names, variable and operands
pub takes_from : (s : Surroundings) (vars : List Kind) (i : Instr) (at : ℕ) (ks left : List Kind) → taken s vars i at ks ≡ Ok left → Takes s vars i ks left
takes_from s vars i at ks left e =
    let p = taken_by (has_names s i) (has_variable vars i) (are_there (operands_of s i) ks) (all_match s.model (operands_of s i) ks) _ _ _ _ (below (operands_of s i) ks) left e in
    record { names = p.0; variable = p.1; there = p.2; fitting = p.3; left_is = sym p.4 }

-- what is taken and what is left
pub below_count : (ws : List Pattern) (ks : List Kind) → are_there ws ks ≡ true → length ks ≡ length ws + length (below ws ks)
below_count [] ks e = omega arith
below_count (w ∷ ws) [] e = absurd cc
below_count (w ∷ ws) (k ∷ ks) e = omega (arith, below_count ws ks e)

-- as many are left as were not taken
pub taken_count : (s : Surroundings) (vars : List Kind) (i : Instr) (at : ℕ) (ks left : List Kind) → taken s vars i at ks ≡ Ok left → length ks ≡ length (operands_of s i) + length left
taken_count s vars i at ks left e =
    let t = takes_from s vars i at ks left e in
    below_count (operands_of s i) ks t.there ∙ ap (λ (l : List Kind). length (operands_of s i) + length l) (sym t.left_is)

-- a block takes an operand
one_operand : (s : Surroundings) (i : Instr) (n : ℕ) → IsBlock (shape_of i) n → 1 ≤ length (operands_of s i)
one_operand s (instrs.Let m) n h = omega arith
one_operand s (instrs.If k l m) n h = omega arith
one_operand s (instrs.ForAll m) n h = omega arith
one_operand s (instrs.Exists m) n h = omega arith
one_operand s (instrs.One m) n h = omega arith
one_operand s (instrs.Select m) n h = omega arith
one_operand s (instrs.Reject m) n h = omega arith
one_operand s (instrs.Collect m) n h = omega arith
one_operand s (instrs.CollectFlat m) n h = omega arith
one_operand s (instrs.IsUnique k m) n h = omega arith
one_operand s (instrs.Fold k m) n h = omega arith
one_operand s i n h = absurd h

-- a block binds as many variables as are counted
pub bound_many : (s : Surroundings) (i : Instr) (k : Kind) → length (binds s i k) ≡ bound_count i
bound_many s (instrs.Let n) k = refl
bound_many s (instrs.Fold w n) k = refl
bound_many s i k = refl

-- ---- a stretch has as many instructions as its tree

count_is : (code : List Instr) (from n : ℕ) → from + n ≤ length code → instr_count (code_tree (slice_range code from (from + n))) ≡ n
count_is code from n le = code_tree_count (slice_range code from (from + n)) ∙ omega (arith, stretch_length code from (from + n) le)

-- ---- one instruction

module _ (r : RuleCode) (vars : List Kind) (p : Place) (ks : List Kind) (i : Instr) (lt : p.at < p.end) (le : p.end ≤ length r.code.now) (here : slice_get r.code.now p.at ≡ Some i) where
  by_tree : (t : CodeTree) → code_tree (slice_range r.code.now p.at p.end) ≡ t → kinds_from r vars p ks ≡ kinds_after (surroundings_of r) t (enclosing vars p) p.at ks
  by_tree t is = ap (λ (x : CodeTree). kinds_after (surroundings_of r) x (enclosing vars p) p.at ks) is

  depths_by : (t : CodeTree) → code_tree (slice_range r.code.now p.at p.end) ≡ t → depths_from r vars p ks ≡ deepest (surroundings_of r) t (depth_at vars p ks)
  depths_by t is = ap (λ (x : CodeTree). deepest (surroundings_of r) x (depth_at vars p ks)) is

  -- what can't be taken is the fault, whatever the shape
  pub taken_fails : (f : InstrFault) → taken (surroundings_of r) vars i p.at ks ≡ Err f → kinds_from r vars p ks ≡ Err f
  taken_fails f fails = by_shape (shape_of i) refl
    where
      by_shape : (shape : Shape) → shape_of i ≡ shape → kinds_from r vars p ks ≡ Err f
      by_shape Single is = by_tree _ (tree_plain r.code.now p.at p.end i lt le here is) ∙ rw fails refl
      by_shape (OneBody n) is =
          elim (leb_tells (p.at + 1 + n) p.end) [
            | inl w ↦ by_tree _ (tree_block r.code.now p.at p.end i lt le here n is w.1) ∙ rw fails refl
            | inr w ↦ by_tree _ (tree_torn r.code.now p.at p.end i lt le here n is w.1) ∙ rw fails refl
          ]
      by_shape (TwoBodies n m) is =
          elim (leb_tells (p.at + 1 + n + m) p.end) [
            | inl w ↦ by_tree _ (tree_branch r.code.now p.at p.end i lt le here n m is w.1) ∙ rw fails refl
            | inr w ↦ by_tree _ (tree_torn_branch r.code.now p.at p.end i lt le here n m is w.1) ∙ rw fails refl
          ]

  -- the same, of the fault that a call returned, under variables that are those of the place
  pub take_wrong : (v : List Kind) (e : VerifyFault) → v ≡ vars → Fails verify_fault e (taken (surroundings_of r) v i p.at ks) → Fails verify_fault e (kinds_from r vars p ks)
  take_wrong v OutOfMemory same h = tt
  take_wrong v (At flaw rule n) same h = taken_fails (instr_fault flaw rule n) (ap (λ (w : List Kind). taken (surroundings_of r) w i p.at ks) (sym same) ∙ h)

  -- bodies that are longer than what is left
  pub torn_fails : (n : ℕ) (left : List Kind) → IsBlock (shape_of i) n → p.end < p.at + 1 + n → taken (surroundings_of r) vars i p.at ks ≡ Ok left → kinds_from r vars p ks ≡ Err (instr_fault flaws.BadNesting r.index p.at)
  torn_fails n left block long takes = by_shape (shape_of i) refl block
    where
      by_shape : (shape : Shape) → shape_of i ≡ shape → IsBlock shape n → kinds_from r vars p ks ≡ Err (instr_fault flaws.BadNesting r.index p.at)
      by_shape Single is b = absurd b
      by_shape (OneBody m) is b = by_tree _ (tree_torn r.code.now p.at p.end i lt le here m is (omega arith)) ∙ rw takes refl
      by_shape (TwoBodies l m) is b = by_tree _ (tree_torn_branch r.code.now p.at p.end i lt le here l m is (omega arith)) ∙ rw takes refl

  -- too many open blocks
  pub nest_fails : (n : ℕ) (left : List Kind) → IsBlock (shape_of i) n → p.at + 1 + n ≤ p.end → MAX_BLOCKS ≤ p.open_blocks → taken (surroundings_of r) vars i p.at ks ≡ Ok left → kinds_from r vars p ks ≡ Err (instr_fault flaws.NestLimit r.index p.at)
  nest_fails n left block nests deep takes = by_shape (shape_of i) refl block
    where
      test : nat_lt p.open_blocks MAX_BLOCKS ≡ false
      test = le-ltb p.open_blocks MAX_BLOCKS deep

      by_shape : (shape : Shape) → shape_of i ≡ shape → IsBlock shape n → kinds_from r vars p ks ≡ Err (instr_fault flaws.NestLimit r.index p.at)
      by_shape Single is b = absurd b
      by_shape (OneBody m) is b = by_tree _ (tree_block r.code.now p.at p.end i lt le here m is (omega arith)) ∙ rw (takes, test) refl
      by_shape (TwoBodies l m) is b = by_tree _ (tree_branch r.code.now p.at p.end i lt le here l m is (omega arith)) ∙ rw (takes, test) refl

  -- what was taken, where variables and operands are those of the place
  module _ (left : List Kind) (ok : IsPlace r vars p ks) (takes : taken (surroundings_of r) vars i p.at ks ≡ Ok left) where
    counted : length ks ≡ length (operands_of (surroundings_of r) i) + length left
    counted = taken_count (surroundings_of r) vars i p.at ks left takes

    fewer : length left ≤ length ks
    fewer = omega (arith, counted)

    -- depths after the instruction, and in its bodies
    past_is : (next : ℕ) (y : Kind) → past_instr (surroundings_of r) i (depth_at vars p ks) ≡ depth_at vars (moved p next) (y ∷ left)
    past_is next y = depths_are _ _ _ _ _ _ (omega (arith, counted)) refl refl

    binding_is : (k : Kind) (from to : ℕ) → in_binding (surroundings_of r) i (depth_at vars p ks) ≡ depth_at (binds (surroundings_of r) i k ++ vars) (place_inside p left from to) []
    binding_is k from to = depths_are _ _ _ _ _ _ (omega (arith, counted)) (omega (arith, bound_many (surroundings_of r) i k, length-append (binds (surroundings_of r) i k) vars)) refl

    branch_is : (from to : ℕ) → in_branch (surroundings_of r) i (depth_at vars p ks) ≡ depth_at vars (place_inside p left from to) []
    branch_is from to = depths_are _ _ _ _ _ _ (omega (arith, counted)) refl refl

    -- ---- an instruction without a body

    plain_tree : shape_of i ≡ Single → code_tree (slice_range r.code.now p.at p.end) ≡ Plain i (code_tree (slice_range r.code.now (p.at + 1) p.end))
    plain_tree is = tree_plain r.code.now p.at p.end i lt le here is

    -- an instruction without a body, at the limit of operands, is refused
    pub stack_fails : shape_of i ≡ Single → MAX_OPERANDS ≤ p.covered + length left → kinds_from r vars p ks ≡ Err (instr_fault flaws.StackLimit r.index p.at)
    stack_fails is full =
        let test : nat_le (p.covered + suc (length left)) MAX_OPERANDS ≡ false = lt-leb (p.covered + suc (length left)) MAX_OPERANDS (omega arith) in
        by_tree _ (plain_tree is) ∙ rw (takes, test) refl

    -- the walk goes past an instruction without a body that has room for its result
    pub plain_goes : (old new : Depths) (after kept : List Kind) (y : Kind) → shape_of i ≡ Single → p.covered + length left < MAX_OPERANDS → AreKnownKinds r.resolved.now.model (y ∷ left)
        → y ≡ result_kind (surroundings_of r) vars i ks → after ≡ y ∷ left → kept ≡ vars → new ≡ deeper old (depth_at vars p ks) → Gone r vars old p ks (p.at + 1) kept new after
    plain_goes old new after kept y is room known gives pushed same deep =
        let test : nat_le (p.covered + suc (length left)) MAX_OPERANDS ≡ true = le-leb (p.covered + suc (length left)) MAX_OPERANDS (omega arith) in
        let rest = code_tree (slice_range r.code.now (p.at + 1) p.end) in
        subst (λ (l : List Kind). Gone r vars old p ks (p.at + 1) kept new l) (sym pushed)
        (record {
          kinds = by_tree _ (plain_tree is) ∙ rw (takes, test) (ap (λ (k : Kind). kinds_after (surroundings_of r) rest (enclosing vars p) (p.at + 1) (k ∷ left)) (sym gives));
          kept = same;
          depths =
              ap (deeper old) (depths_by _ (plain_tree is) ∙ ap (λ (d : Depths). deeper (depth_at vars p ks) (deepest (surroundings_of r) rest d)) (past_is (p.at + 1) y))
              ∙ deeper_assoc old (depth_at vars p ks) (depths_from r vars (moved p (p.at + 1)) (y ∷ left))
              ∙ ap (λ (d : Depths). deeper d (depths_from r vars (moved p (p.at + 1)) (y ∷ left))) (sym deep);
          forward = omega arith;
          place = record { before = omega arith; within = le; room = omega arith; nested = ok.nested; variables_known = ok.variables_known; operands_known = known };
        })

    -- ---- a block with one body

    module _ (n : ℕ) (is : shape_of i ≡ OneBody n) (nests : p.at + 1 + n ≤ p.end) (shallow : p.open_blocks < MAX_BLOCKS) where
      is_open : opened (surroundings_of r) (enclosing vars p) i p.at ks ≡ Ok left
      is_open = let test : nat_lt p.open_blocks MAX_BLOCKS ≡ true = lt-ltb p.open_blocks MAX_BLOCKS shallow in rw (takes, test) refl

      block_tree : code_tree (slice_range r.code.now p.at p.end) ≡ Block i (code_tree (slice_range r.code.now (p.at + 1) (p.at + 1 + n))) (code_tree (slice_range r.code.now (p.at + 1 + n) p.end))
      block_tree = tree_block r.code.now p.at p.end i lt le here n is nests

      abbrev after_block : Kind → Result (List Kind) InstrFault
      after_block y = kinds_from r vars (moved p (p.at + 1 + n)) (yields (surroundings_of r) i (block_operand i ks) y ∷ left)

      block_is : kinds_from r vars p ks ≡ (body_ends r (binds (surroundings_of r) i (block_operand i ks) ++ vars) (place_inside p left (p.at + 1) (p.at + 1 + n)) i p.at >>= after_block)
      block_is =
          let s = surroundings_of r in
          let body = code_tree (slice_range r.code.now (p.at + 1) (p.at + 1 + n)) in
          let rest = code_tree (slice_range r.code.now (p.at + 1 + n) p.end) in
          let ends : Result (List Kind) InstrFault = kinds_from r (binds (surroundings_of r) i (block_operand i ks) ++ vars) (place_inside p left (p.at + 1) (p.at + 1 + n)) [] in
          let then : ℕ → Kind → Result (List Kind) InstrFault = λ at y. kinds_after s rest (enclosing vars p) at (yields s i (block_operand i ks) y ∷ left) in
          let F : List Kind → Result (List Kind) InstrFault = λ l. kinds_after s body (in_block (enclosing vars p) (binds (surroundings_of r) i (block_operand i ks) ++ vars) l) (p.at + 1) [] >>= (λ e. ended_with s (ends_with s i) p.at e >>= (λ y. kinds_after s rest (enclosing vars p) (p.at + 1 + instr_count body) (yields s i (block_operand i ks) y ∷ l))) in
          by_tree _ block_tree
          ∙ ap (λ (o : Result (List Kind) InstrFault). o >>= F) is_open
          ∙ two_first ends (ended_with s (ends_with s i) p.at) (then (p.at + 1 + instr_count body))
          ∙ ap (λ (m : ℕ). (ends >>= ended_with s (ends_with s i) p.at) >>= then (p.at + 1 + m)) (count_is r.code.now (p.at + 1) n (omega arith))

      -- a fault of the body, or of what it ends with, is the fault from the block on
      pub body_fails : (f : InstrFault) → body_ends r (binds (surroundings_of r) i (block_operand i ks) ++ vars) (place_inside p left (p.at + 1) (p.at + 1 + n)) i p.at ≡ Err f → kinds_from r vars p ks ≡ Err f
      body_fails f h = block_is ∙ fails_then _ after_block f h

      -- the walk goes past a block whose body ends as it has to
      pub block_goes : (old deep new : Depths) (after kept : List Kind) (k y : Kind) → body_ends r (binds (surroundings_of r) i (block_operand i ks) ++ vars) (place_inside p left (p.at + 1) (p.at + 1 + n)) i p.at ≡ Ok y
          → AreKnownKinds r.resolved.now.model (yields (surroundings_of r) i k y ∷ left) → k ≡ block_operand i ks → after ≡ yields (surroundings_of r) i k y ∷ left → kept ≡ vars → deep ≡ deeper old (depth_at vars p ks)
          → new ≡ deeper deep (depths_from r (binds (surroundings_of r) i (block_operand i ks) ++ vars) (place_inside p left (p.at + 1) (p.at + 1 + n)) []) → Gone r vars old p ks (p.at + 1 + n) kept new after
      block_goes old deep new after kept k y ends known top pushed same first second =
          let s = surroundings_of r in
          let d = depth_at vars p ks in
          let inner = depths_from r (binds (surroundings_of r) i (block_operand i ks) ++ vars) (place_inside p left (p.at + 1) (p.at + 1 + n)) [] in
          let last = depths_from r vars (moved p (p.at + 1 + n)) (yields s i k y ∷ left) in
          let body = code_tree (slice_range r.code.now (p.at + 1) (p.at + 1 + n)) in
          let rest = code_tree (slice_range r.code.now (p.at + 1 + n) p.end) in
          subst (λ (l : List Kind). Gone r vars old p ks (p.at + 1 + n) kept new l) (sym pushed)
          (record {
            kinds = block_is ∙ ap (λ (o : Result Kind InstrFault). o >>= after_block) ends ∙ ap (λ (j : Kind). kinds_from r vars (moved p (p.at + 1 + n)) (yields s i j y ∷ left)) (sym top);
            kept = same;
            depths =
                ap (deeper old)
                (depths_by _ block_tree
                ∙ ap (λ (x : Depths). deeper d (deeper (deepest s body x) (deepest s rest (past_instr s i d)))) (binding_is (block_operand i ks) (p.at + 1) (p.at + 1 + n))
                ∙ ap (λ (x : Depths). deeper d (deeper inner (deepest s rest x))) (past_is (p.at + 1 + n) (yields s i k y)))
                ∙ deeper_assoc old d (deeper inner last)
                ∙ ap (λ (x : Depths). deeper x (deeper inner last)) (sym first)
                ∙ deeper_assoc deep inner last
                ∙ ap (λ (x : Depths). deeper x last) (sym second);
            forward = omega arith;
            place = record { before = nests; within = le; room = omega (arith, counted, one_operand s i n (subst (λ (shape : Shape). IsBlock shape n) (sym is) refl), ok.room); nested = ok.nested; variables_known = ok.variables_known; operands_known = known };
          })

    -- ---- a block with two bodies

    module _ (n m : ℕ) (is : shape_of i ≡ TwoBodies n m) (nests : p.at + 1 + (n + m) ≤ p.end) (shallow : p.open_blocks < MAX_BLOCKS) where
      opens : opened (surroundings_of r) (enclosing vars p) i p.at ks ≡ Ok left
      opens = let test : nat_lt p.open_blocks MAX_BLOCKS ≡ true = lt-ltb p.open_blocks MAX_BLOCKS shallow in rw (takes, test) refl

      branch_tree : code_tree (slice_range r.code.now p.at p.end)
          ≡ Branch i (code_tree (slice_range r.code.now (p.at + 1) (p.at + 1 + n))) (code_tree (slice_range r.code.now (p.at + 1 + n) (p.at + 1 + n + m))) (code_tree (slice_range r.code.now (p.at + 1 + n + m) p.end))
      branch_tree = tree_branch r.code.now p.at p.end i lt le here n m is (omega arith)

      abbrev after_branches : Kind → Result (List Kind) InstrFault
      after_branches y = kinds_from r vars (moved p (p.at + 1 + n + m)) (yields (surroundings_of r) i (block_operand i ks) y ∷ left)

      abbrev first_ends : Result Kind InstrFault
      first_ends = body_ends r vars (place_inside p left (p.at + 1) (p.at + 1 + n)) i p.at

      abbrev second_ends : Result Kind InstrFault
      second_ends = body_ends r vars (place_inside p left (p.at + 1 + n) (p.at + 1 + n + m)) i p.at

      branches_are : kinds_from r vars p ks ≡ (first_ends >>= (λ y. second_ends >>= (λ z. after_branches y)))
      branches_are =
          let s = surroundings_of r in
          let first = code_tree (slice_range r.code.now (p.at + 1) (p.at + 1 + n)) in
          let second = code_tree (slice_range r.code.now (p.at + 1 + n) (p.at + 1 + n + m)) in
          let rest = code_tree (slice_range r.code.now (p.at + 1 + n + m) p.end) in
          let W : List Kind → Result Kind InstrFault = ended_with s (ends_with s i) p.at in
          let inner : List Kind → Enclosing = λ l. in_block (enclosing vars p) vars l in
          let F : List Kind → ℕ → ℕ → Result (List Kind) InstrFault = λ l a b. kinds_after s first (inner l) (p.at + 1) [] >>= (λ e. W e >>= (λ y. kinds_after s second (inner l) a [] >>= (λ o. W o >>= (λ z. kinds_after s rest (enclosing vars p) b (yields s i (block_operand i ks) y ∷ l))))) in
          let one : Result (List Kind) InstrFault = kinds_from r vars (place_inside p left (p.at + 1) (p.at + 1 + n)) [] in
          let two : Result (List Kind) InstrFault = kinds_from r vars (place_inside p left (p.at + 1 + n) (p.at + 1 + n + m)) [] in
          by_tree _ branch_tree
          ∙ ap (λ (o : Result (List Kind) InstrFault). o >>= (λ l. F l (p.at + 1 + instr_count first) (p.at + 1 + instr_count first + instr_count second))) opens
          ∙ ap (λ (k : ℕ). F left (p.at + 1 + k) (p.at + 1 + k + instr_count second)) (count_is r.code.now (p.at + 1) n (omega arith))
          ∙ ap (λ (k : ℕ). F left (p.at + 1 + n) (p.at + 1 + n + k)) (count_is r.code.now (p.at + 1 + n) m (omega arith))
          ∙ two_first one W (λ y. two >>= (λ o. W o >>= (λ z. after_branches y)))
          ∙ then_same first_ends (λ y. two >>= (λ o. W o >>= (λ z. after_branches y))) (λ y. second_ends >>= (λ z. after_branches y)) (λ y. two_first two W (λ z. after_branches y))

      -- a fault of the first body is the fault from the block on
      pub first_fails : (f : InstrFault) → first_ends ≡ Err f → kinds_from r vars p ks ≡ Err f
      first_fails f h = branches_are ∙ fails_then first_ends (λ y. second_ends >>= (λ z. after_branches y)) f h

      -- a fault of the second body is the fault from the block on, where the first one has none
      pub second_fails : (f : InstrFault) (y : Kind) → first_ends ≡ Ok y → second_ends ≡ Err f → kinds_from r vars p ks ≡ Err f
      second_fails f y h g = branches_are ∙ ap (λ (o : Result Kind InstrFault). o >>= (λ x. second_ends >>= (λ z. after_branches x))) h ∙ fails_then second_ends (λ z. after_branches y) f g

      -- the walk goes past a block with two bodies that both end as they have to
      pub branch_goes : (old deep deeper' new : Depths) (after kept : List Kind) (k y z : Kind) → first_ends ≡ Ok y → second_ends ≡ Ok z → AreKnownKinds r.resolved.now.model (yields (surroundings_of r) i k y ∷ left) → k ≡ block_operand i ks
          → after ≡ yields (surroundings_of r) i k y ∷ left → kept ≡ vars → deep ≡ deeper old (depth_at vars p ks) → deeper' ≡ deeper deep (depths_from r vars (place_inside p left (p.at + 1) (p.at + 1 + n)) [])
          → new ≡ deeper deeper' (depths_from r vars (place_inside p left (p.at + 1 + n) (p.at + 1 + n + m)) []) → Gone r vars old p ks (p.at + 1 + n + m) kept new after
      branch_goes old deep deeper' new after kept k y z ends others known top pushed same first second third =
          let s = surroundings_of r in
          let d = depth_at vars p ks in
          let one = depths_from r vars (place_inside p left (p.at + 1) (p.at + 1 + n)) [] in
          let two = depths_from r vars (place_inside p left (p.at + 1 + n) (p.at + 1 + n + m)) [] in
          let last = depths_from r vars (moved p (p.at + 1 + n + m)) (yields s i k y ∷ left) in
          let a = code_tree (slice_range r.code.now (p.at + 1) (p.at + 1 + n)) in
          let b = code_tree (slice_range r.code.now (p.at + 1 + n) (p.at + 1 + n + m)) in
          let rest = code_tree (slice_range r.code.now (p.at + 1 + n + m) p.end) in
          subst (λ (l : List Kind). Gone r vars old p ks (p.at + 1 + n + m) kept new l) (sym pushed)
          (record {
            kinds =
                branches_are
                ∙ ap (λ (o : Result Kind InstrFault). o >>= (λ x. second_ends >>= (λ w. after_branches x))) ends
                ∙ ap (λ (o : Result Kind InstrFault). o >>= (λ w. after_branches y)) others
                ∙ ap (λ (j : Kind). kinds_from r vars (moved p (p.at + 1 + n + m)) (yields s i j y ∷ left)) (sym top);
            kept = same;
            depths =
                ap (deeper old)
                (depths_by _ branch_tree
                ∙ ap (λ (x : Depths). deeper d (deeper (deepest s a x) (deeper (deepest s b (in_branch s i d)) (deepest s rest (past_instr s i d))))) (branch_is (p.at + 1) (p.at + 1 + n))
                ∙ ap (λ (x : Depths). deeper d (deeper one (deeper (deepest s b x) (deepest s rest (past_instr s i d))))) (branch_is (p.at + 1 + n) (p.at + 1 + n + m))
                ∙ ap (λ (x : Depths). deeper d (deeper one (deeper two (deepest s rest x)))) (past_is (p.at + 1 + n + m) (yields s i k y)))
                ∙ deeper_assoc old d (deeper one (deeper two last))
                ∙ ap (λ (x : Depths). deeper x (deeper one (deeper two last))) (sym first)
                ∙ deeper_assoc deep one (deeper two last)
                ∙ ap (λ (x : Depths). deeper x (deeper two last)) (sym second)
                ∙ deeper_assoc deeper' two last
                ∙ ap (λ (x : Depths). deeper x last) (sym third);
            forward = omega arith;
            place = record { before = omega arith; within = le; room = omega (arith, counted, one_operand s i (n + m) (subst (λ (shape : Shape). IsBlock shape (n + m)) (sym is) refl), ok.room); nested = ok.nested; variables_known = ok.variables_known; operands_known = known };
          })
