-- Runs of accepted code, an instruction or a block at a time: what it puts on the operands.
use Rattle.std.proofs.Common.{◌≡◌, ℕ, ◌+◌, Bool, true, false, List, [], ◌∷◌, ◌++◌, map, length, drop, Option, Some, None, refl, sym, ap, ◌∙◌, subst, append_assoc, append-nil, if◌then◌else◌}
use Rattle.std.specs.Prelude.{option_and_then, nat_le, ◌&&◌}
use Rattle.std.specs.Option.{option_map}
use Rattle.imkl_population.specs.declared.scalar.Scalar.TheVariants as scalar
use Rattle.rule_code.specs.declared.instruction.Instr.{Instr}
use Rattle.rule_code.specs.declared.instruction.Instr.TheVariants as instrs
use Rattle.rule_code.specs.declared.kind.WrittenScalar.{WrittenScalar}
use Rattle.rule_verify.specs.CodeTree.{CodeTree, Plain, Block, Branch}
use Rattle.rule_verify.specs.InstrKinds.{operands_of, bound_count, ends_with, operands_above}
use Rattle.ocl_core.specs.declared.core_tree.Iteration.{Iteration}
use Rattle.ocl_core.specs.declared.core_tree.Iteration.TheVariants as iteration
use Rattle.rule_values.specs.Value as value
use Rattle.rule_values.specs.Value.{Element, Value, element_value}
use Rattle.rule_values.specs.Operations.{or_invalid}
use Rattle.rule_values.specs.Endings.{Source}
use Rattle.rule_machine.specs.IterationResults.{ending}
use Rattle.rule_machine.specs.Machine.{Setting, judged_by, is_what, operands_below, result_of, performed, Piece, Sequence, LetEnd, Opened, Turning, Skipped, Configuration, configuration, branched, opened_over, block_opened, keeping, turned, on_operand, step, run}
use Rattle.rule_machine.specs.Outcome.{outcome}
use Rattle.rule_machine.proofs.ForAbove.{one_bound, element_bound, one_kept, run_more}
use Rattle.ocl_semantics.specs.Meaning.{iteration_value, iterated, fold_over, folded, chosen}
use Rattle.ocl_compile.specs.Numbering.{Numbering}
use Rattle.ocl_compile.specs.Translation.{iteration_instr}

-- a test that passed chose its first branch
test_passed : {A : Type 0} (b : Bool) (x d : A) → (if b then Some x else None) ≡ Some d → x ≡ d
test_passed true x d e = cc
test_passed false x d e = cc

-- a block takes one operand
one_operand : (s : Setting) (i : Instr) (o : Value) (os : List Value) (go : Value → List Value → Option Configuration) (d : Configuration) → length (operands_of (judged_by s) i) ≡ 1 → on_operand s i (o ∷ os) go ≡ Some d → go o os ≡ Some d
one_operand s i o os go d one e = by_below (operands_below s i (o ∷ os)) refl e
  where
    by_below : (b : Option (List Value)) → operands_below s i (o ∷ os) ≡ b → option_and_then (go o) b ≡ Some d → go o os ≡ Some d
    by_below None is e = cc
    by_below (Some left) is e =
        let kept : drop (length (operands_of (judged_by s) i)) (o ∷ os) ≡ left = test_passed _ _ left is in
        let same : os ≡ left = ap (λ n. drop n (o ∷ os)) (sym one) ∙ kept in
        rw same e

-- a FOLD takes two
two_operands : (s : Setting) (k : WrittenScalar) (len : ℕ) (a o : Value) (os : List Value) (go : List Value → Option Configuration) (d : Configuration) → option_and_then go (operands_below s (instrs.Fold k len) (a ∷ o ∷ os)) ≡ Some d → go os ≡ Some d
two_operands s k len a o os go d e = by_below (operands_below s (instrs.Fold k len) (a ∷ o ∷ os)) refl e
  where
    by_below : (b : Option (List Value)) → operands_below s (instrs.Fold k len) (a ∷ o ∷ os) ≡ b → option_and_then go b ≡ Some d → go os ≡ Some d
    by_below None is e = cc
    by_below (Some left) is e =
        let same : os ≡ left = test_passed _ _ left is in
        rw same e

-- an instruction without a body puts its result in the place of its operands
performs : (s : Setting) (i : Instr) (rest : CodeTree) (ps : List Piece) (vars os : List Value) (d : Configuration) → option_map (configuration (Sequence rest ∷ ps) vars) (performed s vars i os) ≡ Some d → configuration (Sequence rest ∷ ps) vars (or_invalid (result_of s vars i os) ∷ drop (length (operands_of (judged_by s) i)) os) ≡ d
performs s i rest ps vars os d e = by_below (operands_below s i os) refl e
  where
    by_result : (r : Option Value) (left : List Value) → option_map (configuration (Sequence rest ∷ ps) vars) (option_map (λ v. v ∷ left) r) ≡ Some d → configuration (Sequence rest ∷ ps) vars (or_invalid r ∷ left) ≡ d
    by_result (Some v) left e = cc
    by_result None left e = cc

    by_below : (b : Option (List Value)) → operands_below s i os ≡ b → option_map (configuration (Sequence rest ∷ ps) vars) (option_and_then (λ left. option_map (λ v. v ∷ left) (result_of s vars i os)) b) ≡ Some d → configuration (Sequence rest ∷ ps) vars (or_invalid (result_of s vars i os) ∷ drop (length (operands_of (judged_by s) i)) os) ≡ d
    by_below None is e = cc
    by_below (Some left) is e =
        let kept : drop (length (operands_of (judged_by s) i)) os ≡ left = test_passed _ _ left is in
        rw kept (by_result (result_of s vars i os) left e)

module _ (s : Setting) (first : Configuration) (goes_on : (k : ℕ) (c : Configuration) → run s k first ≡ Some c → outcome c ≡ None → (d : Configuration) × (step s c ≡ Some d)) where
  -- the run comes to a configuration
  abbrev pub Reached : Configuration → Type 0
  Reached c = (k : ℕ) × (run s k first ≡ Some c)

  -- then it comes to the next one
  on_to : (c d : Configuration) → Reached c → step s c ≡ Some d → Reached d
  on_to c d r e = (r.0 + 1, run_more s r.0 first c d r.1 e)

  -- a run that comes to an instruction without a body comes past it, with its result on the operands
  pub plain_reached : (i : Instr) (rest : CodeTree) (ps : List Piece) (vars os : List Value) → Reached (configuration (Sequence (Plain i rest) ∷ ps) vars os) → Reached (configuration (Sequence rest ∷ ps) vars (or_invalid (result_of s vars i os) ∷ drop (length (operands_of (judged_by s) i)) os))
  plain_reached i rest ps vars os r =
      let n = goes_on r.0 (configuration (Sequence (Plain i rest) ∷ ps) vars os) r.1 refl in
      subst Reached (sym (performs s i rest ps vars os n.0 n.1)) (on_to (configuration (Sequence (Plain i rest) ∷ ps) vars os) n.0 r n.1)

  -- one that comes to a LET comes past it, where its body puts a value on the operands
  pub let_reached : (n : ℕ) (body rest : CodeTree) (ps : List Piece) (vars os : List Value) (v w : Value)
      → Reached (configuration (Sequence (Block (instrs.Let n) body rest) ∷ ps) vars (v ∷ os))
      → ((q : List Piece) → Reached (configuration (Sequence body ∷ q) (v ∷ vars) os) → Reached (configuration q (v ∷ vars) (w ∷ os)))
      → Reached (configuration (Sequence rest ∷ ps) vars (w ∷ os))
  let_reached n body rest ps vars os v w r go =
      let i : Instr = instrs.Let n in
      let c = configuration (Sequence (Block i body rest) ∷ ps) vars (v ∷ os) in
      let m = goes_on r.0 c r.1 refl in
      let opened = one_operand s i v os (λ o left. block_opened i body (o ∷ os) (Sequence rest ∷ ps) vars left) m.0 refl m.1 in
      let begun : Reached (configuration (Sequence body ∷ LetEnd ∷ Sequence rest ∷ ps) (v ∷ vars) os) = subst Reached (some_is opened) (on_to c m.0 r m.1) in
      on_to (configuration (LetEnd ∷ Sequence rest ∷ ps) (v ∷ vars) (w ∷ os)) (configuration (Sequence rest ∷ ps) vars (w ∷ os)) (go (LetEnd ∷ Sequence rest ∷ ps) begun) refl
    where
      some_is : {x y : Configuration} → Some x ≡ Some y → y ≡ x
      some_is e = cc

  -- ---- if

  -- one that comes to an IF comes past it, with the value that its condition chooses
  pub if_reached : (i : Instr) (one : length (operands_of (judged_by s) i) ≡ 1) (first_body second_body rest : CodeTree) (ps : List Piece) (vars os : List Value) (v x y : Value)
      → Reached (configuration (Sequence (Branch i first_body second_body rest) ∷ ps) vars (v ∷ os))
      → ((q : List Piece) → Reached (configuration (Sequence first_body ∷ q) vars os) → Reached (configuration q vars (x ∷ os)))
      → ((q : List Piece) → Reached (configuration (Sequence second_body ∷ q) vars os) → Reached (configuration q vars (y ∷ os)))
      → Reached (configuration (Sequence rest ∷ ps) vars (chosen v x y ∷ os))
  if_reached i one a b rest ps vars os v x y r go_first go_second =
      let c = configuration (Sequence (Branch i a b rest) ∷ ps) vars (v ∷ os) in
      let m = goes_on r.0 c r.1 refl in
      by_value v m.0 (one_operand s i v os (λ o left. branched o a b (Sequence rest ∷ ps) vars left) m.0 one m.1) (on_to c m.0 r m.1)
    where
      by_value : (w : Value) (d : Configuration) → branched w a b (Sequence rest ∷ ps) vars os ≡ Some d → Reached d → Reached (configuration (Sequence rest ∷ ps) vars (chosen w x y ∷ os))
      by_value (value.Single (scalar.Bool true)) d e r = go_first (Sequence rest ∷ ps) (let same : d ≡ configuration (Sequence a ∷ Sequence rest ∷ ps) vars os = cc in subst Reached same r)
      by_value (value.Single (scalar.Bool false)) d e r = go_second (Sequence rest ∷ ps) (let same : d ≡ configuration (Sequence b ∷ Sequence rest ∷ ps) vars os = cc in subst Reached same r)
      by_value value.Null d e r = let same : d ≡ configuration (Sequence rest ∷ ps) vars (value.Invalid ∷ os) = cc in subst Reached same r
      by_value value.Invalid d e r = let same : d ≡ configuration (Sequence rest ∷ ps) vars (value.Invalid ∷ os) = cc in subst Reached same r
      by_value w d e r = cc

  -- ---- iterations

  -- all turns that are left, of an iteration that works on its topmost operand
  turns_reached : (i : Instr) → operands_above i ≡ 0 → (body : CodeTree) (source : Source) (ps : List Piece) (vars os : List Value) (f : Element → Value)
      → ((e : Element) (q : List Piece) → Reached (configuration (Sequence body ∷ q) (element_value e ∷ vars) os) → Reached (configuration q (element_value e ∷ vars) (f e ∷ os)))
      → (left : List Element) (kept : List Value)
      → Reached (turned i body source left kept ps vars os)
      → Reached (configuration ps vars (ending i source (kept ++ map f left) ∷ os))
  turns_reached i one body source ps vars os f go [] kept r = subst (λ l. Reached (configuration ps vars (ending i source l ∷ os))) (sym (append-nil kept)) r
  turns_reached i one body source ps vars os f go (e ∷ left) kept r =
      let c = configuration (Turning i body source left kept ∷ ps) (element_value e ∷ vars) (f e ∷ os) in
      let given = go e (Turning i body source left kept ∷ ps) (subst (λ vs. Reached (configuration (Sequence body ∷ Turning i body source left kept ∷ ps) (vs ++ vars) os)) (element_bound i e kept one) r) in
      let m = goes_on given.0 c given.1 refl in
      let after : List Value → ℕ → Configuration = λ l n. turned i body source left l ps (drop n (element_value e ∷ vars)) os in
      let same = test_passed (nat_le (bound_count i) (length (element_value e ∷ vars)) && is_what s.population (ends_with (judged_by s) i) (f e)) (after (keeping i kept (f e)) (bound_count i)) m.0 m.1 in
      let next = subst Reached (sym same ∙ ap (λ l. after l (bound_count i)) (one_kept i kept (f e) one) ∙ ap (after (kept ++ f e ∷ [])) (one_bound i one)) (on_to c m.0 given m.1) in
      subst (λ l. Reached (configuration ps vars (ending i source l ∷ os))) (append_assoc kept (f e ∷ []) (map f left))
      (turns_reached i one body source ps vars os f go left (kept ++ f e ∷ []) next)

  -- an iteration takes one operand, is opened over it, and ends as its value is defined
  pub record IsIterating (i : Instr) (it : Iteration) : Type 0 where
    pub topmost : operands_above i ≡ 0
    pub one : length (operands_of (judged_by s) i) ≡ 1
    pub opens : (body : CodeTree) (v : Value) (os : List Value) (ps : List Piece) (vars left : List Value) → block_opened i body (v ∷ os) ps vars left ≡ opened_over i body v [] ps vars left
    pub ends : (source : Source) (bs : List Value) → ending i source bs ≡ iteration_value it source bs

  -- so do those that stand for iterations
  pub is_iterating : (n : Numbering) (it : Iteration) (len : ℕ) → IsIterating (iteration_instr n it len) it
  is_iterating n iteration.ForAll len = record { topmost = refl; one = refl; opens = λ body v os ps vars left. refl; ends = λ source bs. refl }
  is_iterating n iteration.Exists len = record { topmost = refl; one = refl; opens = λ body v os ps vars left. refl; ends = λ source bs. refl }
  is_iterating n iteration.One len = record { topmost = refl; one = refl; opens = λ body v os ps vars left. refl; ends = λ source bs. refl }
  is_iterating n iteration.Select len = record { topmost = refl; one = refl; opens = λ body v os ps vars left. refl; ends = λ source bs. refl }
  is_iterating n iteration.Reject len = record { topmost = refl; one = refl; opens = λ body v os ps vars left. refl; ends = λ source bs. refl }
  is_iterating n iteration.Collect len = record { topmost = refl; one = refl; opens = λ body v os ps vars left. refl; ends = λ source bs. refl }
  is_iterating n iteration.CollectFlat len = record { topmost = refl; one = refl; opens = λ body v os ps vars left. refl; ends = λ source bs. refl }
  is_iterating n (iteration.IsUnique k) len = record { topmost = refl; one = refl; opens = λ body v os ps vars left. refl; ends = λ source bs. refl }

  -- and one that comes to an iteration comes past it, with the value over all turns
  pub iteration_reached : (i : Instr) (it : Iteration) (known : IsIterating i it) (body rest : CodeTree) (ps : List Piece) (vars os : List Value) (v : Value) (f : Element → Value)
      → Reached (configuration (Sequence (Block i body rest) ∷ ps) vars (v ∷ os))
      → ((e : Element) (q : List Piece) → Reached (configuration (Sequence body ∷ q) (element_value e ∷ vars) os) → Reached (configuration q (element_value e ∷ vars) (f e ∷ os)))
      → Reached (configuration (Sequence rest ∷ ps) vars (iterated it v f ∷ os))
  iteration_reached i it known body rest ps vars os v f r go =
      let c = configuration (Sequence (Block i body rest) ∷ ps) vars (v ∷ os) in
      let m = goes_on r.0 c r.1 refl in
      let opened = one_operand s i v os (λ o left. block_opened i body (o ∷ os) (Sequence rest ∷ ps) vars left) m.0 known.one m.1 in
      by_value v m.0 (sym (known.opens body v os (Sequence rest ∷ ps) vars os) ∙ opened) (on_to c m.0 r m.1)
    where
      by_value : (w : Value) (d : Configuration) → opened_over i body w [] (Sequence rest ∷ ps) vars os ≡ Some d → Reached d → Reached (configuration (Sequence rest ∷ ps) vars (iterated it w f ∷ os))
      by_value (value.Collection k es) d e r =
          let source : Source = record { kind = k; elements = es } in
          let c = configuration (Opened i body source [] ∷ Sequence rest ∷ ps) vars os in
          let same : d ≡ c = cc in
          let begun = on_to c (turned i body source es [] (Sequence rest ∷ ps) vars os) (subst Reached same r) refl in
          subst (λ x. Reached (configuration (Sequence rest ∷ ps) vars (x ∷ os))) (known.ends source (map f es)) (turns_reached i known.topmost body source (Sequence rest ∷ ps) vars os f go es [] begun)
      by_value value.Invalid d e r =
          let c = configuration (Skipped ∷ Sequence rest ∷ ps) vars os in
          let same : d ≡ c = cc in
          on_to c (configuration (Sequence rest ∷ ps) vars (value.Invalid ∷ os)) (subst Reached same r) refl
      by_value w d e r = cc

  -- ---- folds

  -- all turns that are left
  fold_turns : (k : WrittenScalar) (len : ℕ) (body : CodeTree) (source : Source) (ps : List Piece) (vars os : List Value) (next : Element → Value → Value)
      → ((e : Element) (a : Value) (q : List Piece) → Reached (configuration (Sequence body ∷ q) (a ∷ element_value e ∷ vars) os) → Reached (configuration q (a ∷ element_value e ∷ vars) (next e a ∷ os)))
      → (left : List Element) (a : Value)
      → Reached (turned (instrs.Fold k len) body source left (a ∷ []) ps vars os)
      → Reached (configuration ps vars (fold_over next a left ∷ os))
  fold_turns k len body source ps vars os next go [] a r = r
  fold_turns k len body source ps vars os next go (e ∷ left) a r =
      let i : Instr = instrs.Fold k len in
      let c = configuration (Turning i body source left (a ∷ []) ∷ ps) (a ∷ element_value e ∷ vars) (next e a ∷ os) in
      let given = go e a (Turning i body source left (a ∷ []) ∷ ps) r in
      let m = goes_on given.0 c given.1 refl in
      let same = test_passed (nat_le (bound_count i) (length (a ∷ element_value e ∷ vars)) && is_what s.population (ends_with (judged_by s) i) (next e a)) (turned i body source left (next e a ∷ []) ps vars os) m.0 m.1 in
      fold_turns k len body source ps vars os next go left (next e a) (subst Reached (sym same) (on_to c m.0 given m.1))

  -- one that comes to a FOLD, its start value above the source, comes past it, with the accumulator after all turns
  pub fold_reached : (k : WrittenScalar) (len : ℕ) (body rest : CodeTree) (ps : List Piece) (vars os : List Value) (v a : Value) (next : Element → Value → Value)
      → Reached (configuration (Sequence (Block (instrs.Fold k len) body rest) ∷ ps) vars (a ∷ v ∷ os))
      → ((e : Element) (b : Value) (q : List Piece) → Reached (configuration (Sequence body ∷ q) (b ∷ element_value e ∷ vars) os) → Reached (configuration q (b ∷ element_value e ∷ vars) (next e b ∷ os)))
      → Reached (configuration (Sequence rest ∷ ps) vars (folded v a next ∷ os))
  fold_reached k len body rest ps vars os v a next r go =
      let i : Instr = instrs.Fold k len in
      let c = configuration (Sequence (Block i body rest) ∷ ps) vars (a ∷ v ∷ os) in
      let m = goes_on r.0 c r.1 refl in
      by_value v m.0 (two_operands s k len a v os (λ left. block_opened i body (a ∷ v ∷ os) (Sequence rest ∷ ps) vars left) m.0 m.1) (on_to c m.0 r m.1)
    where
      by_value : (w : Value) (d : Configuration) → opened_over (instrs.Fold k len) body w (a ∷ []) (Sequence rest ∷ ps) vars os ≡ Some d → Reached d → Reached (configuration (Sequence rest ∷ ps) vars (folded w a next ∷ os))
      by_value (value.Collection j es) d e r =
          let i : Instr = instrs.Fold k len in
          let source : Source = record { kind = j; elements = es } in
          let c = configuration (Opened i body source (a ∷ []) ∷ Sequence rest ∷ ps) vars os in
          let same : d ≡ c = cc in
          fold_turns k len body source (Sequence rest ∷ ps) vars os next go es a (on_to c (turned i body source es (a ∷ []) (Sequence rest ∷ ps) vars os) (subst Reached same r) refl)
      by_value value.Invalid d e r =
          let c = configuration (Skipped ∷ Sequence rest ∷ ps) vars os in
          let same : d ≡ c = cc in
          on_to c (configuration (Sequence rest ∷ ps) vars (value.Invalid ∷ os)) (subst Reached same r) refl
      by_value w d e r = cc
