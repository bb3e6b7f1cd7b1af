-- The steps of instructions lead to the next configuration.
use Rattle.std.proofs.Common.{◌≡◌, ℕ, suc, ◌+◌, ◌-◌, ◌<◌, ◌≤◌, Bool, true, false, List, [], ◌∷◌, length, get_or, take, drop, Option, Some, None, refl, sym, ap, ◌∙◌, subst, arith}
use Rattle.std.specs.Prelude.{◌&&◌, IsSome, slice_get, slice_range, option_and_then, pos, if◌then◌else◌}
use Rattle.std.specs.Option.{option_map}
use Rattle.std.proofs.lemmas.Option.{slice_get-get_or}
use Rattle.ocl_base.specs.declared.collection_kind.CollectionKind.{CollectionKind}
use Rattle.ocl_kinds.specs.declared.kind.Kind.TheVariants as kind
use Rattle.rule_code.specs.declared.instruction.Instr.{Instr}
use Rattle.rule_code.specs.declared.instruction.Instr.TheVariants as instrs
use Rattle.rule_verify.specs.CodeTree.{CodeTree, End, Plain, Block, Branch, code_tree, shape_of}
use Rattle.rule_verify.specs.declared.shape.Shape.TheVariants.{Single, OneBody, TwoBodies}
use Rattle.rule_verify.specs.declared.pattern.Pattern.TheVariants.{Fitting, AnyCollection}
use Rattle.rule_verify.specs.InstrKinds.{has_names, scalar_meant, operands_of, operands_above}
use Rattle.rule_verify.proofs.ForAbove.{stretch_none, tree_plain, tree_block, tree_branch, tree_torn, tree_torn_branch}
use Rattle.rule_values.specs.Value as value
use Rattle.rule_values.specs.Value.{Element, Value}
use Rattle.rule_values.specs.Endings.{Source}
use Rattle.rule_machine.specs.Machine.{Setting, judged_by, is_what, are_what, operands_below, result_of, performed, Piece, Sequence, LetEnd, Opened, Skipped, Configuration, configuration, branched, opened_over, block_opened, on_operand, step}
use Rattle.rule_machine.specs.Live.{HasBody, is_iteration}
use Rattle.rule_machine.specs.declared.task.Task.{Task}
use Rattle.rule_machine.specs.Shown.{code_in, HasNext}
use Rattle.imkl_population.specs.declared.scalar.Scalar.TheVariants as scalar
use Rattle.std.specs.Ordering.{int_eq}
use Rattle.rule_machine.proofs.Blocks.{block_takes_one, branch_takes, none_opened, iteration_opens}
use Rattle.rule_slots.specs.declared.slot.Slot.{Slot}
use Rattle.rule_slots.specs.declared.slot.Mark.TheVariants as mark
use Rattle.rule_machine.specs.declared.piece.Piece.{Piece as Pending}
use Rattle.rule_machine.specs.declared.piece.Piece.TheVariants as piece
use Rattle.rule_slots.specs.Slots.{Lists, ElementsAre, PartIs, SlotIs, SlotsAre, plain_mark, invalid_slot}
use Rattle.rule_machine.specs.Counts.{Balanced, LeavesOne}
use Rattle.rule_machine.specs.StandFor.{IsNoCollection, KeepsStart, TurnIs, StandsFor, TopStandsFor, IsAt, GivesSlot, CanPerform, StepsTo, kept_elements, opening_turn, opening_mark, choice_slot}
use Rattle.rule_machine.proofs.KeptValues.{no_collection}
use Rattle.rule_machine.proofs.Segments.{stand_same}
use Rattle.rule_machine.proofs.Stacks.{ops_pop, ops_push, vars_push, ops_drop, all_vars, all_ops}
use Rattle.rule_machine.proofs.Counted.{body_above}

-- the instruction that a machine reads is that of its code
pub instr_here : (t : Task) (at end : ℕ) (code : List Instr) → at < end → end ≤ length (code_in t) → code ≡ code_in t → slice_get (code_in t) at ≡ Some (get_or code at instrs.SelfObject)
instr_here t at end code lt le same = slice_get-get_or (code_in t) at instrs.SelfObject (omega arith) ∙ ap (λ l. Some (get_or l at instrs.SelfObject)) (sym same)

nowhere : (o : Option (List Value)) (f : List Value → Option Configuration) → ((left : List Value) → f left ≡ None) → HasNext (option_and_then f o) → ⊥
nowhere None f none g = g
nowhere (Some left) f none g = subst HasNext (none left) g

-- an instruction that has a step takes its one operand
module _ (s : Setting) (i : Instr) (go : Value → List Value → Option Configuration) (one : length (operands_of (judged_by s) i) ≡ 1) where
  operand_taken : (o : Value) (left : List Value) → HasNext (on_operand s i (o ∷ left) go) → on_operand s i (o ∷ left) go ≡ go o left
  operand_taken o left g = by_test (has_names (judged_by s) i && are_what s.population (operands_of (judged_by s) i) (o ∷ left)) g
    where
      by_test : (b : Bool) → HasNext (option_and_then (go o) (if b then Some (drop (length (operands_of (judged_by s) i)) (o ∷ left)) else None)) → option_and_then (go o) (if b then Some (drop (length (operands_of (judged_by s) i)) (o ∷ left)) else None) ≡ go o left
      by_test true g = ap (λ n. go o (drop n (o ∷ left))) one
      by_test false g = absurd g

module _ (s : Setting) (l : Lists) (code : List Instr) where
  -- what stands without an iteration on top stands
  pub top_of : (p : List Slot) (v n : ℕ) (cs : List Pending) (vs os : List Slot) (ps : List Piece) (vars ops : List Value) → StandsFor s l code p (length p) v n cs vs os ps vars ops → TopStandsFor s l code p v n cs vs os ps vars ops
  top_of p v n [] vs os ps vars ops h = h
  top_of p v n (piece.Rest a b ∷ cs) vs os ps vars ops h = h
  top_of p v n (piece.LetEnd ∷ cs) vs os ps vars ops h = h
  top_of p v n (piece.Skipped ∷ cs) vs os ps vars ops h = h
  top_of p v n (piece.Turning t ∷ cs) vs os ps vars ops h = h
  top_of p v n (piece.Opened t ∷ cs) vs os ps vars ops h = absurd h

  -- a place with code before its end
  abbrev pub is_at : (p : List Slot) (at end : ℕ) (cs : List Pending) (vs os : List Slot) (ps : List Piece) (vars ops : List Value) (v n : ℕ) (t : CodeTree) → t ≡ code_tree (slice_range code at end) → LeavesOne s (Sequence t ∷ ps) v n → StandsFor s l code p (length p) v n cs vs os ps vars ops → IsAt s l code p at end cs vs os (configuration (Sequence t ∷ ps) vars ops)
  is_at p at end cs vs os ps vars ops v n t e ends h =
      record {
        pieces = ps;
        vars = vars;
        ops = ops;
        v = v;
        n = n;
        same = ap (λ x. configuration (Sequence x ∷ ps) vars ops) e;
        ends = subst (λ x. LeavesOne s (Sequence x ∷ ps) v n) e ends;
        top = top_of p v n cs vs os ps vars ops h;
        stand = λ lt. h;
      }

  -- a place at the end of its sequence
  abbrev pub is_past : (p : List Slot) (at end : ℕ) (cs : List Pending) (vs os : List Slot) (ps : List Piece) (vars ops : List Value) (v n : ℕ) → at ≡ end → LeavesOne s ps v n → TopStandsFor s l code p v n cs vs os ps vars ops → IsAt s l code p at end cs vs os (configuration ps vars ops)
  is_past p at end cs vs os ps vars ops v n e ends h =
      let none : slice_range code at end ≡ [] = stretch_none code at end (omega arith) in
      record {
        pieces = ps;
        vars = vars;
        ops = ops;
        v = v;
        n = n;
        same = ap (λ x. configuration (Sequence (code_tree x) ∷ ps) vars ops) (sym none);
        ends = subst (λ x. LeavesOne s (Sequence (code_tree x) ∷ ps) v n) (sym none) (n, refl, ends);
        top = h;
        stand = λ lt. absurd (omega arith);
      }

  -- what is known there
  abbrev pub Past : List Slot → List Pending → List Slot → List Slot → Configuration → Type 0
  Past p cs vs os c =
      (ps : List Piece) × (vars : List Value) × (ops : List Value) × (v : ℕ) × (n : ℕ) × (c ≡ configuration ps vars ops) × LeavesOne s ps v n × TopStandsFor s l code p v n cs vs os ps vars ops

  -- what is known of a machine at the end of its sequence
  pub past : (p : List Slot) (at end : ℕ) (cs : List Pending) (vs os : List Slot) (c : Configuration) → at ≡ end → IsAt s l code p at end cs vs os c → Past p cs vs os c
  past p at end cs vs os c e h =
      let none : slice_range code at end ≡ [] = stretch_none code at end (omega arith) in
      let ends : LeavesOne s (Sequence End ∷ h.pieces) h.v h.n = subst (λ x. LeavesOne s (Sequence (code_tree x) ∷ h.pieces) h.v h.n) none h.ends in (
        h.pieces,
        h.vars,
        h.ops,
        h.v,
        h.n,
        h.same ∙ ap (λ x. configuration (Sequence (code_tree x) ∷ h.pieces) h.vars h.ops) none,
        subst (λ m. LeavesOne s h.pieces h.v m) (sym ends.1) ends.2,
        h.top,
      )

  -- a block takes its operand
  record Taken (i : Instr) (o : Slot) (os1 : List Slot) (p : List Slot) (ops : List Value) (go : Value → List Value → Option Configuration) : Type 0 where
    value : Value
    rest : List Value
    are : ops ≡ value ∷ rest
    goes_on : on_operand s i ops go ≡ go value rest
    goes : HasNext (go value rest)

  taken : (i : Instr) (o : Slot) (os1 : List Slot) (p : List Slot) (ops : List Value) (go : Value → List Value → Option Configuration) → length (operands_of (judged_by s) i) ≡ 1 → SlotsAre l p (length p) (o ∷ os1) ops → HasNext (on_operand s i ops go) → Taken i o os1 p ops go
  taken i o os1 p [] go one are h = absurd are
  taken i o os1 p (x ∷ ops) go one are h =
      let e = operand_taken s i go one x ops h in
      record { value = x; rest = ops; are = refl; goes_on = e; goes = subst HasNext e h }

  -- ---- without a body

  -- what an instruction is carried out on
  record Done (i : Instr) (vars ops : List Value) (go : List Value → Configuration) : Type 0 where
    result : Value
    is_result : result_of s vars i ops ≡ Some result
    are : are_what s.population (operands_of (judged_by s) i) ops ≡ true
    done : option_map go (performed s vars i ops) ≡ Some (go (result ∷ drop (length (operands_of (judged_by s) i)) ops))

  carried_out : (i : Instr) (vars ops : List Value) (go : List Value → Configuration) → HasNext (option_map go (performed s vars i ops)) → Done i vars ops go
  carried_out i vars ops go h = by_parts (has_names (judged_by s) i) (are_what s.population (operands_of (judged_by s) i) ops) (result_of s vars i ops) refl refl h refl
    where
      left : List Value
      left = drop (length (operands_of (judged_by s) i)) ops

      by_parts : (a b : Bool) (r : Option Value) → are_what s.population (operands_of (judged_by s) i) ops ≡ b → result_of s vars i ops ≡ r
          → HasNext (option_map go (option_and_then (λ k. option_map (λ v. v ∷ k) r) (if a && b then Some left else None)))
          → performed s vars i ops ≡ option_and_then (λ k. option_map (λ v. v ∷ k) r) (if a && b then Some left else None) → Done i vars ops go
      by_parts true true (Some v) eb er h p = record { result = v; is_result = er; are = eb; done = ap (option_map go) p }
      by_parts true true None eb er h p = absurd h
      by_parts true false r eb er h p = absurd h
      by_parts false b r eb er h p = absurd h

  module _ (p : List Slot) (at end : ℕ) (cs : List Pending) (vs os : List Slot) (i : Instr) (c : Configuration) (lt : at < end) (le : end ≤ length code) (here : slice_get code at ≡ Some i) (h : IsAt s l code p at end cs vs os c) (goes : HasNext (step s c)) where
    at_tree : (x : CodeTree) → code_tree (slice_range code at end) ≡ x → step s c ≡ step s (configuration (Sequence x ∷ h.pieces) h.vars h.ops)
    at_tree x e = ap (step s) h.same ∙ ap (λ y. step s (configuration (Sequence y ∷ h.pieces) h.vars h.ops)) e

    ends_at : (x : CodeTree) → code_tree (slice_range code at end) ≡ x → LeavesOne s (Sequence x ∷ h.pieces) h.v h.n
    ends_at x e = subst (λ y. LeavesOne s (Sequence y ∷ h.pieces) h.v h.n) e h.ends

    vars_are : SlotsAre l p (length p) vs h.vars
    vars_are = all_vars s l code p (length p) h.v h.n cs vs os h.pieces h.vars h.ops (h.stand lt)

    -- and all operands
    pub ops_are : SlotsAre l p (length p) os h.ops
    ops_are = all_ops s l code p (length p) h.v h.n cs vs os h.pieces h.vars h.ops (h.stand lt)

    -- an instruction without a body can be carried out
    pub can_perform : shape_of i ≡ Single → CanPerform s l p vs os i
    can_perform shape =
        let rest = code_tree (slice_range code (at + 1) end) in
        let first = at_tree (Plain i rest) (tree_plain code at end i lt le here shape) in
        (h.vars, h.ops, vars_are, ops_are, by_result (configuration (Sequence rest ∷ h.pieces) h.vars) (performed s h.vars i h.ops) (subst HasNext first goes))
      where
        by_result : (go : List Value → Configuration) (r : Option (List Value)) → HasNext (option_map go r) → IsSome r
        by_result go (Some left) g = refl
        by_result go None g = absurd g

    -- and its operands are what it takes
    pub plain_fits : shape_of i ≡ Single → are_what s.population (operands_of (judged_by s) i) h.ops ≡ true
    plain_fits shape =
        let rest = code_tree (slice_range code (at + 1) end) in
        let first = at_tree (Plain i rest) (tree_plain code at end i lt le here shape) in
        (carried_out i h.vars h.ops (configuration (Sequence rest ∷ h.pieces) h.vars) (subst HasNext first goes)).are

    -- and with its result in the place of its operands the machine stands in the next configuration
    pub plain_steps : (q : List Slot) (o : Slot) → shape_of i ≡ Single → length p ≤ length q → take (length p) p ≡ take (length p) q → GivesSlot s l p q vs os i o
        → StepsTo s l code q (at + 1) end cs vs (o ∷ drop (length (operands_of (judged_by s) i)) os) c
    plain_steps q o shape longer same gives =
        let k = length (operands_of (judged_by s) i) in
        let rest = code_tree (slice_range code (at + 1) end) in
        let e = tree_plain code at end i lt le here shape in
        let first = at_tree (Plain i rest) e in
        let d = carried_out i h.vars h.ops (configuration (Sequence rest ∷ h.pieces) h.vars) (subst HasNext first goes) in
        let b = ends_at (Plain i rest) e in
        let st = subst (λ m. StandsFor s l code p (length p) h.v m cs vs os h.pieces h.vars h.ops) b.1.1 (h.stand lt) in
        let dropped = ops_drop s l code p (length p) h.v k b.1.0 cs vs os h.pieces h.vars h.ops st in
        let moved = stand_same s l code p q (length p) (length q) h.v b.1.0 cs vs (drop k os) h.pieces h.vars (drop k h.ops) longer same dropped in
        let pushed = ops_push s l code q (length q) h.v b.1.0 cs vs o (drop k os) h.pieces h.vars d.result (drop k h.ops) (gives h.vars h.ops vars_are ops_are d.result d.is_result d.are) moved in
        record {
          next = configuration (Sequence rest ∷ h.pieces) h.vars (d.result ∷ drop k h.ops);
          made = first ∙ d.done;
          stands = is_at q (at + 1) end cs vs (o ∷ drop k os) h.pieces h.vars (d.result ∷ drop k h.ops) h.v (suc b.1.0) rest refl (b.0, b.1.2, b.2) pushed;
        }

    -- ---- with one body

    module _ (n : ℕ) (shape : shape_of i ≡ OneBody n) where
      abbrev body : CodeTree
      body = code_tree (slice_range code (at + 1) (at + 1 + n))

      abbrev rest : CodeTree
      rest = code_tree (slice_range code (at + 1 + n) end)

      abbrev after : List Piece
      after = Sequence rest ∷ h.pieces

      abbrev opens : List Value → List Value → Option Configuration
      opens ops left = block_opened i body ops after h.vars left

      block_is : at + 1 + n ≤ end → step s c ≡ option_and_then (opens h.ops) (operands_below s i h.ops)
      block_is nests = at_tree (Block i body rest) (tree_block code at end i lt le here n shape nests)

      -- a block that has a step lies within its sequence
      pub block_nests : end < at + 1 + n → ⊥
      block_nests long = subst HasNext (at_tree _ (tree_torn code at end i lt le here n shape long)) goes

      -- and finds its operand there
      pub block_has_operand : at + 1 + n ≤ end → os ≡ [] → ⊥
      block_has_operand nests e = by_ops h.ops refl (subst (λ l'. SlotsAre l p (length p) l' h.ops) e ops_are)
        where
          by_ops : (ops : List Value) → h.ops ≡ ops → SlotsAre l p (length p) [] ops → ⊥
          by_ops [] f a =
              nowhere (operands_below s i []) (opens []) (λ left. none_opened i body after h.vars left)
              (subst HasNext (block_is nests ∙ ap (λ y. option_and_then (opens y) (operands_below s i y)) f) goes)
          by_ops (x ∷ ops) f a = a

      -- a block takes its operand
      record BlockTaken : Type 0 where
        value : Value
        rest_values : List Value
        are : h.ops ≡ value ∷ rest_values
        made : step s c ≡ block_opened i body (value ∷ rest_values) after h.vars rest_values

      block_taken : operands_above i ≡ 0 → at + 1 + n ≤ end → (o : Slot) (os1 : List Slot) → os ≡ o ∷ os1 → BlockTaken
      block_taken one nests o os1 e = by_ops h.ops refl (subst (λ l'. SlotsAre l p (length p) l' h.ops) e ops_are)
        where
          by_ops : (ops : List Value) → h.ops ≡ ops → SlotsAre l p (length p) (o ∷ os1) ops → BlockTaken
          by_ops [] f a = absurd a
          by_ops (x ∷ ops) f a =
              let first : step s c ≡ option_and_then (opens (x ∷ ops)) (operands_below s i (x ∷ ops)) = block_is nests ∙ ap (λ y. option_and_then (opens y) (operands_below s i y)) f in
              let made = first ∙ operand_taken s i (λ v. opens (x ∷ ops)) (block_takes_one (judged_by s) i (n, shape) one) x ops (subst HasNext first goes) in
              record { value = x; rest_values = ops; are = f; made = made }

      -- what the operand's slot stands for, and what stands below it
      record Below (o : Slot) (os1 : List Slot) (x : Value) (ops1 : List Value) : Type 0 where
        k : ℕ
        m : ℕ
        operand : SlotIs l p (length p) o x
        left : StandsFor s l code p (length p) h.v k cs vs os1 h.pieces h.vars ops1
        body_ends : Balanced s body 0 1
        rest_ends : Balanced s rest (suc k) m
        later : LeavesOne s h.pieces h.v m

      below : operands_above i ≡ 0 → at + 1 + n ≤ end → (o : Slot) (os1 : List Slot) (x : Value) (ops1 : List Value) → os ≡ o ∷ os1 → h.ops ≡ x ∷ ops1 → Below o os1 x ops1
      below above nests o os1 x ops1 e f =
          let b = ends_at (Block i body rest) (tree_block code at end i lt le here n shape nests) in
          let one : h.n ≡ suc b.1.0 = omega (arith, b.1.1, block_takes_one (judged_by s) i (n, shape) above) in
          let st = subst (λ m. StandsFor s l code p (length p) h.v m cs vs (o ∷ os1) h.pieces h.vars (x ∷ ops1)) one (subst (λ y. StandsFor s l code p (length p) h.v h.n cs vs y h.pieces h.vars (x ∷ ops1)) e (subst (λ y. StandsFor s l code p (length p) h.v h.n cs vs os h.pieces h.vars y) f (h.stand lt))) in
          let r = ops_pop s l code p (length p) h.v b.1.0 cs vs o os1 h.pieces h.vars x ops1 st in
          record { k = b.1.0; m = b.0; operand = r.0; left = r.1; body_ends = b.1.2; rest_ends = b.1.3; later = b.2 }

      -- a LET binds its operand and enters its body
      pub let_steps : operands_above i ≡ 0 → (y : ℕ) → i ≡ instrs.Let y → at + 1 + n ≤ end → (o : Slot) (os1 : List Slot) → os ≡ o ∷ os1 → StepsTo s l code p (at + 1) (at + 1 + n) (piece.LetEnd ∷ piece.Rest (at + 1 + n) end ∷ cs) (o ∷ vs) os1 c
      let_steps above y is nests o os1 e =
          let t = block_taken above nests o os1 e in
          let b = below above nests o os1 t.value t.rest_values e t.are in
          let pushed = vars_push s l code p (length p) h.v b.k cs o vs os1 h.pieces t.value h.vars t.rest_values b.operand b.left in
          record {
            next = configuration (Sequence body ∷ LetEnd ∷ after) (t.value ∷ h.vars) t.rest_values;
            made = t.made ∙ ap (λ j. block_opened j body (t.value ∷ t.rest_values) after h.vars t.rest_values) is;
            stands = is_at p (at + 1) (at + 1 + n) (piece.LetEnd ∷ piece.Rest (at + 1 + n) end ∷ cs) (o ∷ vs) os1 (LetEnd ∷ after) (t.value ∷ h.vars) t.rest_values (suc h.v) b.k body refl
                (suc b.k, body_above s body b.k b.body_ends, (h.v, refl, (b.m, b.rest_ends, b.later))) (refl, pushed);
          }

      -- nothing is kept before the first turn
      kept_none : (j : Instr) (es : List Element) → kept_elements j es [] ≡ []
      kept_none (instrs.Select x) [] = refl
      kept_none (instrs.Select x) (e ∷ es) = refl
      kept_none (instrs.Reject x) [] = refl
      kept_none (instrs.Reject x) (e ∷ es) = refl
      kept_none (instrs.Collect x) es = refl
      kept_none (instrs.IsUnique k x) es = refl
      kept_none (instrs.CollectFlat x) es = refl
      kept_none j es = refl

      -- before its first turn an iteration over a collection stands at its first element
      opened_turn : (o : Slot) (k : CollectionKind) (es : List Element) → PartIs l p (length p) o es → TurnIs s l code p (length p) (opening_turn i (at + 1) (at + 1 + n) o (length p)) i body (record { kind = k; elements = es }) es []
      opened_turn o k es part =
          let none : slice_range p (length p) (length p + 0) ≡ [] = let e : length p + 0 - length p ≡ 0 = omega arith in ap (λ x. take x (drop (length p) p)) e in
          let keeps : ElementsAre l (slice_range p (length p) (length p + 0)) (kept_elements i es []) = rw (none, kept_none i es) tt in
          record { same_instr = refl; same_body = refl; part = part; rest = refl; above = omega arith; keeps = keeps; trues = λ q. refl; falses = λ q. refl; invalids = refl; fitting = tt }

      -- its mark says that it is opened, and over invalid that it is skipped
      opened_mark : (o : Slot) → o.mark ≡ mark.Plain → opening_mark i (at + 1) (at + 1 + n) o (length p) ≡ piece.Opened (opening_turn i (at + 1) (at + 1 + n) o (length p))
      opened_mark o e = ap (λ m. if plain_mark m then piece.Opened (opening_turn i (at + 1) (at + 1 + n) o (length p)) else piece.Skipped) e

      skipped_mark : (o : Slot) → o.mark ≡ mark.Invalid → opening_mark i (at + 1) (at + 1 + n) o (length p) ≡ piece.Skipped
      skipped_mark o e = ap (λ m. if plain_mark m then piece.Opened (opening_turn i (at + 1) (at + 1 + n) o (length p)) else piece.Skipped) e

      -- an iteration that keeps no start value leaves none
      nothing_started : (j : Instr) (os1 : List Slot) → operands_above j ≡ 0 → KeepsStart l p j os1 []
      nothing_started (instrs.Fold k x) os1 one = cc
      nothing_started j os1 one = refl

      -- an iteration puts a mark that it is opened, or skipped over invalid
      pub iteration_steps : operands_above i ≡ 0 → is_iteration i ≡ true → at + 1 + n ≤ end → (o : Slot) (os1 : List Slot) → os ≡ o ∷ os1
          → StepsTo s l code p (at + 1 + n) (at + 1 + n) (opening_mark i (at + 1) (at + 1 + n) o (length p) ∷ piece.Rest (at + 1 + n) end ∷ cs) vs os1 c
      iteration_steps above it nests o os1 e =
          let t = block_taken above nests o os1 e in
          let b = below above nests o os1 t.value t.rest_values e t.are in
          let first = t.made ∙ iteration_opens i body t.value t.rest_values after h.vars t.rest_values it above in
          by_value t.value t.rest_values b first (subst HasNext first goes)
        where
          by_value : (x : Value) (ops1 : List Value) → Below o os1 x ops1 → step s c ≡ opened_over i body x [] after h.vars ops1 → HasNext (opened_over i body x [] after h.vars ops1)
              → StepsTo s l code p (at + 1 + n) (at + 1 + n) (opening_mark i (at + 1) (at + 1 + n) o (length p) ∷ piece.Rest (at + 1 + n) end ∷ cs) vs os1 c
          by_value (value.Collection k es) ops1 b first g =
              let source : Source = record { kind = k; elements = es } in
              let t = opening_turn i (at + 1) (at + 1 + n) o (length p) in
              let start = nothing_started i os1 above in
              let left = subst (λ k. StandsFor s l code p (length p) h.v b.k cs vs (drop k os1) h.pieces h.vars ops1) (sym above) b.left in
              record {
                next = configuration (Opened i body source [] ∷ after) h.vars ops1;
                made = first;
                stands = subst (λ m. IsAt s l code p (at + 1 + n) (at + 1 + n) (m ∷ piece.Rest (at + 1 + n) end ∷ cs) vs os1 (configuration (Opened i body source [] ∷ after) h.vars ops1)) (sym (opened_mark o b.operand.0))
                    (is_past p (at + 1 + n) (at + 1 + n) (piece.Opened t ∷ piece.Rest (at + 1 + n) end ∷ cs) vs os1 (Opened i body source [] ∷ after) h.vars ops1 h.v b.k refl (b.body_ends, (b.m, b.rest_ends, b.later)) (refl, start, opened_turn o k es b.operand.1, (refl, left), refl, b.body_ends));
              }
          by_value value.Invalid ops1 b first g =
              record {
                next = configuration (Skipped ∷ after) h.vars ops1;
                made = first;
                stands = subst (λ m. IsAt s l code p (at + 1 + n) (at + 1 + n) (m ∷ piece.Rest (at + 1 + n) end ∷ cs) vs os1 (configuration (Skipped ∷ after) h.vars ops1)) (sym (skipped_mark o b.operand))
                    (is_past p (at + 1 + n) (at + 1 + n) (piece.Skipped ∷ piece.Rest (at + 1 + n) end ∷ cs) vs os1 (Skipped ∷ after) h.vars ops1 h.v b.k refl (b.m, b.rest_ends, b.later) (refl, b.left));
              }
          by_value x ops1 b first g = absurd g

      -- FOLD takes its start value and its source
      record FoldTaken (a o : Slot) (os1 : List Slot) : Type 0 where
        start : Value
        source : Value
        rest_values : List Value
        k : ℕ
        m : ℕ
        start_is : SlotIs l p (length p) a start
        single : IsNoCollection start
        source_is : SlotIs l p (length p) o source
        left : StandsFor s l code p (length p) h.v k cs vs os1 h.pieces h.vars rest_values
        body_ends : Balanced s body 0 1
        rest_ends : Balanced s rest (suc k) m
        later : LeavesOne s h.pieces h.v m
        made : step s c ≡ opened_over i body source (start ∷ []) after h.vars rest_values
        goes_on : HasNext (opened_over i body source (start ∷ []) after h.vars rest_values)

      -- the two operands of FOLD
      fold_operands : (j : Instr) → (operands_above j ≡ 0 → ⊥) → (a o : Value) (left : List Value) → HasNext (option_and_then (λ x. block_opened j body (a ∷ o ∷ left) after h.vars x) (operands_below s j (a ∷ o ∷ left)))
          → (option_and_then (λ x. block_opened j body (a ∷ o ∷ left) after h.vars x) (operands_below s j (a ∷ o ∷ left)) ≡ opened_over j body o (a ∷ []) after h.vars left) × IsNoCollection a
      fold_operands (instrs.Fold w x) above a o left g = by_names (has_names (judged_by s) (instrs.Fold w x)) (is_what s.population (Fitting (kind.Scalar (scalar_meant (judged_by s) w))) a) (is_what s.population AnyCollection o && true) refl g
        where
          go : List Value → Option Configuration
          go y = opened_over (instrs.Fold w x) body o (a ∷ []) after h.vars y

          by_names : (b d e : Bool) → is_what s.population (Fitting (kind.Scalar (scalar_meant (judged_by s) w))) a ≡ d → HasNext (option_and_then go (if b && (d && e) then Some left else None)) → (option_and_then go (if b && (d && e) then Some left else None) ≡ go left) × IsNoCollection a
          by_names true true true is g = (refl, no_collection s.population (scalar_meant (judged_by s) w) a is)
          by_names true true false is g = absurd g
          by_names true false e is g = absurd g
          by_names false d e is g = absurd g
      fold_operands j above a o left g = absurd (above refl)

      fold_count : (j : Instr) → HasBody j → (operands_above j ≡ 0 → ⊥) → length (operands_of (judged_by s) j) ≡ 2
      fold_count (instrs.Fold w x) b above = refl
      fold_count j b above = absurd (above refl)

      fold_taken : (operands_above i ≡ 0 → ⊥) → at + 1 + n ≤ end → (a o : Slot) (os1 : List Slot) → os ≡ a ∷ o ∷ os1 → FoldTaken a o os1
      fold_taken above nests a o os1 e = by_ops h.ops refl (subst (λ l'. SlotsAre l p (length p) l' h.ops) e ops_are)
        where
          by_ops : (ops : List Value) → h.ops ≡ ops → SlotsAre l p (length p) (a ∷ o ∷ os1) ops → FoldTaken a o os1
          by_ops [] f q = absurd q
          by_ops (x ∷ []) f q = absurd q.1
          by_ops (x ∷ y ∷ ops) f q =
              let first : step s c ≡ option_and_then (opens (x ∷ y ∷ ops)) (operands_below s i (x ∷ y ∷ ops)) = block_is nests ∙ ap (λ z. option_and_then (opens z) (operands_below s i z)) f in
              let two = fold_operands i above x y ops (subst HasNext first goes) in
              let b = ends_at (Block i body rest) (tree_block code at end i lt le here n shape nests) in
              let count : h.n ≡ suc (suc b.1.0) = omega (arith, b.1.1, fold_count i (n, shape) above) in
              let st = subst (λ m. StandsFor s l code p (length p) h.v m cs vs (a ∷ o ∷ os1) h.pieces h.vars (x ∷ y ∷ ops)) count (subst (λ z. StandsFor s l code p (length p) h.v h.n cs vs z h.pieces h.vars (x ∷ y ∷ ops)) e (subst (λ z. StandsFor s l code p (length p) h.v h.n cs vs os h.pieces h.vars z) f (h.stand lt))) in
              let r = ops_pop s l code p (length p) h.v (suc b.1.0) cs vs a (o ∷ os1) h.pieces h.vars x (y ∷ ops) st in
              let r' = ops_pop s l code p (length p) h.v b.1.0 cs vs o os1 h.pieces h.vars y ops r.1 in
              record {
                start = x;
                source = y;
                rest_values = ops;
                k = b.1.0;
                m = b.0;
                start_is = r.0;
                single = two.1;
                source_is = r'.0;
                left = r'.1;
                body_ends = b.1.2;
                rest_ends = b.1.3;
                later = b.2;
                made = first ∙ two.0;
                goes_on = subst HasNext (first ∙ two.0) goes;
              }

      -- its source is there too
      pub fold_has_source : (operands_above i ≡ 0 → ⊥) → at + 1 + n ≤ end → (a : Slot) → os ≡ a ∷ [] → ⊥
      fold_has_source above nests a e = by_ops h.ops refl (subst (λ l'. SlotsAre l p (length p) l' h.ops) e ops_are)
        where
          one_short : (x : Value) (j : Instr) → (operands_above j ≡ 0 → ⊥) → (go : List Value → Option Configuration) → HasNext (option_and_then go (operands_below s j (x ∷ []))) → ⊥
          one_short x (instrs.Fold w y) above go g = by_names (has_names (judged_by s) (instrs.Fold w y)) (is_what s.population (Fitting (kind.Scalar (scalar_meant (judged_by s) w))) x) g
            where
              by_names : (b d : Bool) → HasNext (option_and_then go (if b && (d && false) then Some [] else None)) → ⊥
              by_names true true g = g
              by_names true false g = g
              by_names false d g = g
          one_short x j above go g = above refl

          by_ops : (ops : List Value) → h.ops ≡ ops → SlotsAre l p (length p) (a ∷ []) ops → ⊥
          by_ops [] f q = q
          by_ops (x ∷ []) f q = one_short x i above (opens (x ∷ [])) (subst HasNext (block_is nests ∙ ap (λ z. option_and_then (opens z) (operands_below s i z)) f) goes)
          by_ops (x ∷ y ∷ ops) f q = q.1

      -- FOLD puts a mark that it is opened, and leaves its start value; or that it is skipped over invalid
      pub fold_steps : (operands_above i ≡ 0 → ⊥) → at + 1 + n ≤ end → (a o : Slot) (os1 : List Slot) → os ≡ a ∷ o ∷ os1
          → StepsTo s l code p (at + 1 + n) (at + 1 + n) (opening_mark i (at + 1) (at + 1 + n) o (length p) ∷ piece.Rest (at + 1 + n) end ∷ cs) vs (if plain_mark o.mark then a ∷ os1 else os1) c
      fold_steps above nests a o os1 e =
          let t = fold_taken above nests a o os1 e in
          by_value t.source t t.source_is t.made t.goes_on
        where
          start_left : (j : Instr) → (operands_above j ≡ 0 → ⊥) → (x : Value) → SlotIs l p (length p) a x → IsNoCollection x → KeepsStart l p j (a ∷ os1) (x ∷ []) × (drop (operands_above j) (a ∷ os1) ≡ os1)
          start_left (instrs.Fold w y) above x is none = ((a, os1, x, refl, refl, is, none), refl)
          start_left j above x is none = absurd (above refl)

          by_value : (x : Value) → (t : FoldTaken a o os1) → SlotIs l p (length p) o x → step s c ≡ opened_over i body x (t.start ∷ []) after h.vars t.rest_values → HasNext (opened_over i body x (t.start ∷ []) after h.vars t.rest_values)
              → StepsTo s l code p (at + 1 + n) (at + 1 + n) (opening_mark i (at + 1) (at + 1 + n) o (length p) ∷ piece.Rest (at + 1 + n) end ∷ cs) vs (if plain_mark o.mark then a ∷ os1 else os1) c
          by_value (value.Collection k es) b is first g =
              let source : Source = record { kind = k; elements = es } in
              let t = opening_turn i (at + 1) (at + 1 + n) o (length p) in
              let start = start_left i above b.start b.start_is b.single in
              let left = subst (λ z. StandsFor s l code p (length p) h.v b.k cs vs z h.pieces h.vars b.rest_values) (sym start.1) b.left in
              let d = configuration (Opened i body source (b.start ∷ []) ∷ after) h.vars b.rest_values in
              let slots : (if plain_mark o.mark then a ∷ os1 else os1) ≡ a ∷ os1 = ap (λ z. if plain_mark z then a ∷ os1 else os1) is.0 in
              record {
                next = d;
                made = first;
                stands = subst (λ z. IsAt s l code p (at + 1 + n) (at + 1 + n) (opening_mark i (at + 1) (at + 1 + n) o (length p) ∷ piece.Rest (at + 1 + n) end ∷ cs) vs z d) (sym slots) (
                    subst (λ z. IsAt s l code p (at + 1 + n) (at + 1 + n) (z ∷ piece.Rest (at + 1 + n) end ∷ cs) vs (a ∷ os1) d) (sym (opened_mark o is.0))
                    (is_past p (at + 1 + n) (at + 1 + n) (piece.Opened t ∷ piece.Rest (at + 1 + n) end ∷ cs) vs (a ∷ os1) (Opened i body source (b.start ∷ []) ∷ after) h.vars b.rest_values h.v b.k refl (b.body_ends, (b.m, b.rest_ends, b.later)) (refl, start.0, opened_turn o k es is.1, (refl, left), refl, b.body_ends)));
              }
          by_value value.Invalid b is first g =
              let d = configuration (Skipped ∷ after) h.vars b.rest_values in
              let slots : (if plain_mark o.mark then a ∷ os1 else os1) ≡ os1 = ap (λ z. if plain_mark z then a ∷ os1 else os1) is in
              record {
                next = d;
                made = first;
                stands = subst (λ z. IsAt s l code p (at + 1 + n) (at + 1 + n) (opening_mark i (at + 1) (at + 1 + n) o (length p) ∷ piece.Rest (at + 1 + n) end ∷ cs) vs z d) (sym slots) (
                    subst (λ z. IsAt s l code p (at + 1 + n) (at + 1 + n) (z ∷ piece.Rest (at + 1 + n) end ∷ cs) vs os1 d) (sym (skipped_mark o is))
                    (is_past p (at + 1 + n) (at + 1 + n) (piece.Skipped ∷ piece.Rest (at + 1 + n) end ∷ cs) vs os1 (Skipped ∷ after) h.vars b.rest_values h.v b.k refl (b.m, b.rest_ends, b.later) (refl, b.left)));
              }
          by_value x b is first g = absurd g

    -- ---- with two bodies

    module _ (n m : ℕ) (shape : shape_of i ≡ TwoBodies n m) where
      abbrev first : CodeTree
      first = code_tree (slice_range code (at + 1) (at + 1 + n))

      abbrev second : CodeTree
      second = code_tree (slice_range code (at + 1 + n) (at + 1 + n + m))

      abbrev last : CodeTree
      last = code_tree (slice_range code (at + 1 + n + m) end)

      abbrev branches : Value → List Value → Option Configuration
      branches x left = branched x first second (Sequence last ∷ h.pieces) h.vars left

      branch_is : at + 1 + n + m ≤ end → step s c ≡ on_operand s i h.ops branches
      branch_is nests = at_tree (Branch i first second last) (tree_branch code at end i lt le here n m shape nests)

      -- an IF that has a step lies within its sequence
      pub branch_nests : end < at + 1 + n + m → ⊥
      branch_nests long = subst HasNext (at_tree _ (tree_torn_branch code at end i lt le here n m shape long)) goes

      -- and finds its operand there
      pub branch_has_operand : at + 1 + n + m ≤ end → os ≡ [] → ⊥
      branch_has_operand nests e = by_ops h.ops (subst (λ l'. SlotsAre l p (length p) l' h.ops) e ops_are) (subst HasNext (branch_is nests) goes)
        where
          by_ops : (ops : List Value) → SlotsAre l p (length p) [] ops → HasNext (on_operand s i ops branches) → ⊥
          by_ops [] a g = g
          by_ops (x ∷ ops) a g = a

      -- where a condition leads
      abbrev pub BranchSteps : List Slot → Option Bool → Type 0
      BranchSteps os1 (Some true) = StepsTo s l code p (at + 1) (at + 1 + n) (piece.Rest (at + 1 + n + m) end ∷ cs) vs os1 c
      BranchSteps os1 (Some false) = StepsTo s l code p (at + 1 + n) (at + 1 + n + m) (piece.Rest (at + 1 + n + m) end ∷ cs) vs os1 c
      BranchSteps os1 None = StepsTo s l code p (at + 1 + n + m) end cs vs (invalid_slot ∷ os1) c

      -- an IF goes where its condition leads
      pub branch_steps : at + 1 + n + m ≤ end → (o : Slot) (os1 : List Slot) → os ≡ o ∷ os1 → BranchSteps os1 (choice_slot o)
      branch_steps nests o os1 e =
          let t = taken i o os1 p h.ops branches (ap length (branch_takes (judged_by s) i (n, m, shape))) (subst (λ l'. SlotsAre l p (length p) l' h.ops) e ops_are) (subst HasNext (branch_is nests) goes) in
          let b = ends_at (Branch i first second last) (tree_branch code at end i lt le here n m shape nests) in
          let one : h.n ≡ suc b.1.0 = omega (arith, b.1.1, ap length (branch_takes (judged_by s) i (n, m, shape))) in
          let st = subst (λ k. StandsFor s l code p (length p) h.v k cs vs (o ∷ os1) h.pieces h.vars (t.value ∷ t.rest)) one (subst (λ y. StandsFor s l code p (length p) h.v h.n cs vs y h.pieces h.vars (t.value ∷ t.rest)) e (subst (λ y. StandsFor s l code p (length p) h.v h.n cs vs os h.pieces h.vars y) t.are (h.stand lt))) in
          let r = ops_pop s l code p (length p) h.v b.1.0 cs vs o os1 h.pieces h.vars t.value t.rest st in
          by_value t.value t.rest b r (branch_is nests ∙ t.goes_on) t.goes
        where
          neither : (ops1 : List Value) → (b : LeavesOne s (Sequence (Branch i first second last) ∷ h.pieces) h.v h.n) → StandsFor s l code p (length p) h.v b.1.0 cs vs os1 h.pieces h.vars ops1
              → step s c ≡ Some (configuration (Sequence last ∷ h.pieces) h.vars (value.Invalid ∷ ops1)) → BranchSteps os1 None
          neither ops1 b r e =
              record {
                next = configuration (Sequence last ∷ h.pieces) h.vars (value.Invalid ∷ ops1);
                made = e;
                stands = is_at p (at + 1 + n + m) end cs vs (invalid_slot ∷ os1) h.pieces h.vars (value.Invalid ∷ ops1) h.v (suc b.1.0) last refl
                    (b.0, b.1.4, b.2) (ops_push s l code p (length p) h.v b.1.0 cs vs invalid_slot os1 h.pieces h.vars value.Invalid ops1 refl r);
              }

          by_value : (x : Value) (ops1 : List Value) → (b : LeavesOne s (Sequence (Branch i first second last) ∷ h.pieces) h.v h.n) → SlotIs l p (length p) o x × StandsFor s l code p (length p) h.v b.1.0 cs vs os1 h.pieces h.vars ops1
              → step s c ≡ branched x first second (Sequence last ∷ h.pieces) h.vars ops1 → HasNext (branched x first second (Sequence last ∷ h.pieces) h.vars ops1) → BranchSteps os1 (choice_slot o)
          by_value (value.Single (scalar.Bool true)) ops1 b r e g =
              let choice : choice_slot o ≡ Some true = ap (λ k. if plain_mark k then Some (int_eq o.number (pos 1)) else None) r.0.0 ∙ ap (λ z. Some (int_eq z (pos 1))) r.0.1 in
              subst (BranchSteps os1) (sym choice) (record {
                next = configuration (Sequence first ∷ Sequence last ∷ h.pieces) h.vars ops1;
                made = e;
                stands = is_at p (at + 1) (at + 1 + n) (piece.Rest (at + 1 + n + m) end ∷ cs) vs os1 (Sequence last ∷ h.pieces) h.vars ops1 h.v b.1.0 first refl
                    (suc b.1.0, body_above s first b.1.0 b.1.2, (b.0, b.1.4, b.2)) (refl, r.1);
              })
          by_value (value.Single (scalar.Bool false)) ops1 b r e g =
              let choice : choice_slot o ≡ Some false = ap (λ k. if plain_mark k then Some (int_eq o.number (pos 1)) else None) r.0.0 ∙ ap (λ z. Some (int_eq z (pos 1))) r.0.1 in
              subst (BranchSteps os1) (sym choice) (record {
                next = configuration (Sequence second ∷ Sequence last ∷ h.pieces) h.vars ops1;
                made = e;
                stands = is_at p (at + 1 + n) (at + 1 + n + m) (piece.Rest (at + 1 + n + m) end ∷ cs) vs os1 (Sequence last ∷ h.pieces) h.vars ops1 h.v b.1.0 second refl
                    (suc b.1.0, body_above s second b.1.0 b.1.3, (b.0, b.1.4, b.2)) (refl, r.1);
              })
          by_value value.Null ops1 b r e g =
              let choice : choice_slot o ≡ None = ap (λ k. if plain_mark k then Some (int_eq o.number (pos 1)) else None) r.0 in
              subst (BranchSteps os1) (sym choice) (neither ops1 b r.1 e)
          by_value value.Invalid ops1 b r e g =
              let choice : choice_slot o ≡ None = ap (λ k. if plain_mark k then Some (int_eq o.number (pos 1)) else None) r.0 in
              subst (BranchSteps os1) (sym choice) (neither ops1 b r.1 e)
          by_value x ops1 b r e g = absurd g
