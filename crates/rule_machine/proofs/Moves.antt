-- Each step of a configuration that can go on leads to one that can, at the marks after the step, and takes its charge
-- from the bound.
use Rattle.std.proofs.Common.{◌≡◌, ◌⊎◌, ℕ, suc, ◌+◌, ◌-◌, ◌*◌, ◌≤◌, true, false, List, [], ◌∷◌, ◌++◌, length, drop, Option, Some, None, refl, sym, ap, ◌∙◌, subst, inl, inr, ⊎_elim, arith}
use Rattle.std.specs.Prelude.{IsSome, option_and_then, nat_le, ◌&&◌, if◌then◌else◌}
use Rattle.std.specs.Option.{option_map}
use Rattle.std.specs.List.{list_all}
use Rattle.std.proofs.Math.Nat.{mul-le-mul_left}
use Rattle.std.proofs.lemmas.Bool.{and_parts, and_from, le-leb}
use Rattle.std.proofs.lemmas.List.{length-append, length-drop}
use Rattle.ocl_base.specs.declared.collection_kind.CollectionKind.{CollectionKind}
use Rattle.imkl_model.specs.WellFormed.{IsClassModel}
use Rattle.imkl_population.specs.declared.scalar.Scalar.TheVariants as scalar
use Rattle.imkl_population.specs.Consistency.{IsConsistent}
use Rattle.ocl_kinds.specs.declared.kind.Kind.{Kind}
use Rattle.ocl_kinds.specs.declared.kind.Kind.TheVariants as kind
use Rattle.ocl_kinds.specs.declared.kind.ScalarKind.{ScalarKind}
use Rattle.ocl_kinds.specs.declared.kind.ScalarKind.TheVariants as element
use Rattle.ocl_kinds.specs.Kinds.{is_same_collection, elements_kind}
use Rattle.rule_code.specs.declared.instruction.Instr.{Instr}
use Rattle.rule_code.specs.declared.instruction.Instr.TheVariants as instrs
use Rattle.rule_code.specs.declared.kind.WrittenScalar.{WrittenScalar}
use Rattle.rule_verify.specs.declared.pattern.Pattern.{Pattern}
use Rattle.rule_verify.specs.declared.pattern.Pattern.TheVariants.{Fitting, AnyCollection}
use Rattle.rule_verify.specs.declared.depths.Depths.{Depths}
use Rattle.rule_verify.specs.CodeTree.{CodeTree, End, Plain, Block, Branch, Torn}
use Rattle.rule_verify.specs.Patterns.{matches, all_match, a_boolean}
use Rattle.rule_verify.specs.InstrKinds.{has_names, scalar_meant, operands_of, operands_above, bound_count, ends_with}
use Rattle.rule_cost.specs.Bounds.{taking_charge, ending_charge, block_charges}
use Rattle.rule_values.specs.Value as value
use Rattle.rule_values.specs.Value.{Element, Value, element_value, is_element_in, are_elements, is_collection_in, is_in}
use Rattle.rule_values.specs.Endings.{Source}
use Rattle.rule_machine.specs.IterationResults.{ending}
use Rattle.rule_machine.specs.Machine.{Setting, judged_by, is_what, are_what, operands_below, result_of, performed, Piece, Sequence, LetEnd, Opened, Turning, Skipped, Configuration, configuration, branched, opened_over, block_opened, bound_values, keeping, turned, step}
use Rattle.rule_machine.specs.Outcome.{outcome}
use Rattle.rule_machine.specs.Places.{Place, place, kinds_of, long, At, AllAt, EachAt, given, places_left, bound_by, top_place, operand_place, kept_place, block_marked, yielded, end_place, Stand, stand, Mark, Here, Iterating, now_at, sequence_marked, marked, marks_for, AllHeldAt}
use Rattle.rule_machine.specs.Charges.{turn_charge, charge_of}
use Rattle.rule_machine.specs.Live.{AllBelow, IsTaken, is_iteration, block_gives, branch_gives, Kinded, HasKept, turns_kept, IsOpenIteration, IsOneBoolean, GoesNoDeeper, HasRoom, Going, IsThere, IsSettled, Live}
use Rattle.rule_machine.proofs.Blocks.{BlockSort, is_let, iterates, folds, block_sort, iteration_takes, branch_takes, iteration_charges, iteration_opens, iteration_marked, nothing_kept, keeping_turns, keeping_has}
use Rattle.rule_machine.proofs.InKinds.{matches_in, match_all, left_at, left_above, invalid_at, single_at, all_below, each_joined}
use Rattle.rule_machine.proofs.Results.{results, given_above}
use Rattle.rule_machine.proofs.EndingKinds.{ending_at}
use Rattle.rule_machine.proofs.Marks.{marks_left, as_many, marks_are}
use Rattle.rule_machine.proofs.Charged.{extra_within, taking_within, ending_within}
use Rattle.rule_machine.proofs.Deep.{sequence_room, plain_deep, block_deep, branch_deep, as_many_below, as_many_at}
use Rattle.rule_machine.proofs.KindsAfter.{bound_many}

-- it has a verdict, or a next step, whose charge the bound pays for
abbrev pub Moves : Setting → Depths → Configuration → List Mark → ℕ → Type 0
Moves s deep c ms n = IsSome (outcome c) ⊎ ((d : Configuration) × (m : ℕ) × (step s c ≡ Some d) × (charge_of c + m ≤ n) × Live s deep d (marks_for d (marked s c.pending ms)) m)

-- ---- configurations

module _ (s : Setting) (deep : Depths) (model : IsClassModel s.population.model) (population : IsConsistent s.population) where
  dearer : (c : Configuration) (ms : List Mark) (m n : ℕ) → m ≤ n → Live s deep c ms m → Live s deep c ms n
  dearer c ms m n le l =
      record { variables_at = l.variables_at; operands_at = l.operands_at; settled = l.settled; room = l.room; cost = l.cost; within = omega (arith, le, l.within); going = l.going }

  -- what a sequence leaves has the same room
  left_room : (at : Stand) (own below out : List Place) (n : ℕ) → at.operands ≡ own ++ below → AllBelow s own out → HasRoom deep (suc n) at → HasRoom deep n (stand at.variables (out ++ below))
  left_room at own below out n e b h =
      record { operands = omega (arith, h.operands, ap length e, as_many_below s own out b, length-append own below, length-append out below); variables = h.variables; pieces = omega (arith, h.pieces) }

  -- empty sequences may drop out
  pub settled : (q : List Piece) (vars os : List Value) (n : ℕ) (ms : List Mark) → AllAt s vars (now_at s q ms).variables → AllAt s os (now_at s q ms).operands → HasRoom deep (length q) (now_at s q ms) → Going s deep q ms n → Live s deep (configuration q vars os) (marks_left q ms) n
  settled (Sequence End ∷ q) vars os n [] va oa h g = absurd g
  settled (Sequence End ∷ q) vars os n (Iterating p r below ∷ ms) va oa h g = absurd g
  settled (Sequence End ∷ q) vars os n (Here at ∷ ms) va oa h g =
      let next = sym g.7 in
      let wider = all_below s os g.2 g.4 g.3 g.6 (subst (AllAt s os) g.5 oa) in
      let room = left_room at g.2 g.3 g.4 (length q) g.5 g.6 h in
      dearer (configuration q vars os) (marks_left q ms) g.1 n (omega (arith, g.9))
      (settled q vars os g.1 ms (subst (λ st. AllAt s vars st.variables) next va) (subst (λ st. AllAt s os st.operands) next wider) (subst (HasRoom deep (length q)) next room) g.8)
  settled q vars os n ms va oa h g = record { variables_at = va; operands_at = oa; settled = tt; room = h; cost = n; within = omega arith; going = g }

  -- a step to a configuration that what is left pays for, whose marks are the last ones
  steps_to : (c : Configuration) (ms : List Mark) (n m : ℕ) (q : List Piece) (vars os : List Value) (dropped left : List Mark) → step s c ≡ Some (configuration q vars os) → marked s c.pending ms ≡ dropped ++ left → charge_of c + m ≤ n → AllAt s vars (now_at s q left).variables → AllAt s os (now_at s q left).operands → HasRoom deep (length q) (now_at s q left) → Going s deep q left m → Moves s deep c ms n
  steps_to c ms n m q vars os dropped left e marks paid va oa h g =
      let d = configuration q vars os in
      let are : marks_for d (marked s c.pending ms) ≡ marks_left q left = ap (marks_for d) marks ∙ marks_are q vars os dropped left (as_many s deep q left m g) in
      inr (d, m, e, paid, subst (λ l. Live s deep d l m) (sym are) (settled q vars os m left va oa h g))

  abbrev raw : List Piece → List Value → List Value → Configuration
  raw q vars os = record { pending = q; variables = vars; operands = os }

  -- the operands of an instruction are there and right
  taken_is : (i : Instr) (vps ps below : List Place) (os : List Value) → IsTaken s i vps ps → AllAt s os (ps ++ below) → operands_below s i os ≡ Some (drop (length (operands_of (judged_by s) i)) os)
  taken_is i vps ps below os t oa =
      ap (λ b. if b then Some (drop (length (operands_of (judged_by s) i)) os) else None)
      (and_from (has_names (judged_by s) i) (are_what s.population (operands_of (judged_by s) i) os) t.names (match_all s (operands_of (judged_by s) i) os ps below t.match oa))

  -- ---- iterations

  by_element : (k : ScalarKind) (e : Element) → is_element_in s.population k e ≡ true → At s (element_value e) (place (kind.Scalar k) 0)
  by_element k None h = record { in_kind = refl; within = omega arith }
  by_element k (Some v) h = record { in_kind = h; within = omega arith }

  -- a turn of FOLD binds its accumulator and its element
  fold_bound : (k j : ScalarKind) (x : Element) (kept : List Value) (v : Value) (vars : List Value) (vps : List Place) → kept ≡ v ∷ [] → EachAt s (place (kind.Scalar k) 0) kept → is_element_in s.population j x ≡ true → AllAt s vars vps
      → AllAt s ((kept ++ element_value x ∷ []) ++ vars) (place (kind.Scalar k) 0 ∷ place (kind.Scalar j) 0 ∷ vps)
  fold_bound k j x [] v vars vps e each h va = cc
  fold_bound k j x (a ∷ []) v vars vps e each h va = (each.0, (by_element j x h, va))
  fold_bound k j x (a ∷ b ∷ kept) v vars vps e each h va = cc

  -- what a turn binds
  bound_at : (i : Instr) (p r : Place) (x : Element) (kept vars : List Value) (vps : List Place) → is_iteration i ≡ true → is_element_in s.population (elements_kind p.kind) x ≡ true → EachAt s (kept_place s i r) kept → HasKept i kept → AllAt s vars vps
      → AllAt s (bound_values i x kept ++ vars) (bound_by s i p ++ vps)
  bound_at (instrs.Let n) p r x kept vars vps it h each has va = cc
  bound_at (instrs.Fold k n) p r x kept vars vps it h each has va = fold_bound (scalar_meant (judged_by s) k) (elements_kind p.kind) x kept has.0 vars vps has.1 each h va
  bound_at i p r x kept vars vps it h each has va = (by_element (elements_kind p.kind) x h, va)

  unbound_at : (bs : List Place) (vars : List Value) (vps : List Place) → AllAt s vars (bs ++ vps) → AllAt s (drop (length bs) vars) vps
  unbound_at [] vars vps va = va
  unbound_at (b ∷ bs) [] vps va = absurd va
  unbound_at (b ∷ bs) (v ∷ vars) vps va = unbound_at bs vars vps va.1

  -- what is kept stands at its place
  keeping_at : (i : Instr) (r : Place) (kept : List Value) (o : Value) → is_what s.population (ends_with (judged_by s) i) o ≡ true → At s o r → EachAt s (kept_place s i r) kept → EachAt s (kept_place s i r) (keeping i kept o)
  keeping_at (instrs.Fold k n) r kept o w a each = (single_at s o (scalar_meant (judged_by s) k) 0 w, tt)
  keeping_at i r kept o w a each = each_joined s r kept (o ∷ []) each (a, tt)

  -- a turn, or the end
  turning : (c : Configuration) (ms : List Mark) (n : ℕ) (i : Instr) (body : CodeTree) (source : Source) (left : List Element) (kept : List Value) (q : List Piece) (vars os : List Value) (p r : Place) (below : Stand) (later : List Mark) (m k b : ℕ)
      → step s c ≡ Some (turned i body source left kept q vars os) → marked s c.pending ms ≡ Here (stand (bound_by s i p ++ below.variables) below.operands) ∷ Iterating p r below ∷ later
      → AllAt s vars below.variables → AllAt s os below.operands → IsOpenIteration s i body source left kept below.variables p r m → turns_kept i kept + length left ≤ length source.elements
      → now_at s q later ≡ stand below.variables (yielded s i p r ∷ below.operands) → Going s deep q later k → charge_of c ≤ 1 + b + turn_charge i source left → 1 + b + length left * (1 + m + taking_charge i r.longest) + ending_charge i (length source.elements) + k ≤ n
      → GoesNoDeeper s deep body (length (bound_by s i p ++ below.variables)) (length below.operands) (suc (length q)) → suc (length below.operands) ≤ deep.operands → Moves s deep c ms n
  turning c ms n i body source [] kept q vars os p r below later m k b e marks va oa it le now g charge cost inside more =
      let room = sequence_room s deep body (stand (bound_by s i p ++ below.variables) below.operands) (suc (length q)) inside in
      let ended = ending_at s i source kept p r it.iterates it.stands.whole it.ends it.given it.has (omega (arith, le)) in
      steps_to c ms n k q vars (ending i source kept ∷ os) (Here (stand (bound_by s i p ++ below.variables) below.operands) ∷ Iterating p r below ∷ []) later e marks (omega (arith, cost, charge))
      (subst (λ st. AllAt s vars st.variables) (sym now) va) (subst (λ st. AllAt s (ending i source kept ∷ os) st.operands) (sym now) (ended, oa))
      (subst (HasRoom deep (length q)) (sym now) (record { operands = more; variables = omega (arith, room.variables, bound_many s i p below.variables); pieces = omega (arith, room.pieces) })) g
  turning c ms n i body source (x ∷ left) kept q vars os p r below later m k b e marks va oa it le now g charge cost inside more =
      let parts = and_parts (is_element_in s.population (elements_kind p.kind) x) (list_all (is_element_in s.population (elements_kind p.kind)) left) it.stands.rest in
      let next : IsOpenIteration s i body source left kept below.variables p r m = record { iterates = it.iterates; stands = record { whole = it.stands.whole; rest = parts.1 }; kinded = it.kinded; ends = it.ends; given = it.given; has = it.has } in
      let taking = taking_charge i r.longest in
      let ended = ending_charge i (length source.elements) in
      let paid : charge_of c + (m + (1 + taking + length left * (1 + m + taking) + ended + k)) ≤ n = omega (arith, cost, charge) in
      steps_to c ms n (m + (1 + taking + length left * (1 + m + taking) + ended + k)) (Sequence body ∷ Turning i body source left kept ∷ q) (bound_values i x kept ++ vars) os []
      (Here (stand (bound_by s i p ++ below.variables) below.operands) ∷ Iterating p r below ∷ later) e marks paid (bound_at i p r x kept vars below.variables it.iterates parts.0 it.given it.has va) oa
      (sequence_room s deep body (stand (bound_by s i p ++ below.variables) below.operands) (suc (length q)) inside)
      (m, 1 + taking + length left * (1 + m + taking) + ended + k, [], below.operands, r ∷ [], refl, it.kinded, refl, (m, k, next, omega (arith, le), now, g, omega arith, inside, more), omega arith, inside)

  -- ---- the first instruction of a sequence

  -- what is known before it, where it stands at these places
  record Before (t : CodeTree) (q : List Piece) (ms : List Mark) (vars os : List Value) (n : ℕ) (vps ps below : List Place) : Type 0 where
    variables_at : AllAt s vars vps
    operands_at : AllAt s os (ps ++ below)
    cost : ℕ
    later : ℕ
    out : List Place
    kinded : Kinded s t vps ps out cost
    next : now_at s q ms ≡ stand vps (out ++ below)
    going : Going s deep q ms later
    within : cost + later ≤ n
    inside : GoesNoDeeper s deep t (length vps) (length (ps ++ below)) (length q)

  abbrev at_tree : CodeTree → List Piece → List Mark → List Value → List Value → ℕ → List Place → List Place → List Place → Type 0
  at_tree t q ms vars os n vps ps below =
      Before t q ms vars os n vps ps below → Moves s deep (raw (Sequence t ∷ q) vars os) (Here (stand vps (ps ++ below)) ∷ ms) n

  from_plain : (i : Instr) (rest : CodeTree) (q : List Piece) (ms : List Mark) (vars os : List Value) (n : ℕ) (vps ps below : List Place) → at_tree (Plain i rest) q ms vars os n vps ps below
  from_plain i rest q ms vars os n vps ps below b =
      let k = b.kinded in
      let r = results s model population vars vps os ps below b.variables_at b.operands_at i k.1 k.2 in
      let left = drop (length (operands_of (judged_by s) i)) os in
      let e : performed s vars i os ≡ Some (r.0 ∷ left) =
      ap (option_and_then (λ l. option_map (λ v. v ∷ l) (result_of s vars i os))) (taken_is i vps ps below os k.2 b.operands_at) ∙ ap (option_map (λ v. v ∷ left)) r.1 in
      let after = given s vps i ps ∷ places_left s i ps in
      let marks : sequence_marked s (Plain i rest) vps (ps ++ below) ms ≡ Here (stand vps (after ++ below)) ∷ ms =
      ap (λ p. Here (stand vps (p ∷ places_left s i (ps ++ below))) ∷ ms) (given_above s i vps ps below k.2)
      ∙ ap (λ l. Here (stand vps (given s vps i ps ∷ l)) ∷ ms) (left_above s (operands_of (judged_by s) i) ps below k.2.match) in
      let count : length (after ++ below) ≡ suc (length (ps ++ below) - length (operands_of (judged_by s) i)) =
      omega (arith, ap length (left_above s (operands_of (judged_by s) i) ps below k.2.match), length-drop (length (operands_of (judged_by s) i)) (ps ++ below)) in
      let inside = plain_deep s deep i rest (length vps) (length (ps ++ below)) (length (after ++ below)) (length q) count b.inside in
      steps_to (raw (Sequence (Plain i rest) ∷ q) vars os) (Here (stand vps (ps ++ below)) ∷ ms) n (k.0 + b.later) (Sequence rest ∷ q) vars (r.0 ∷ left) [] (Here (stand vps (after ++ below)) ∷ ms)
      (ap (option_map (configuration (Sequence rest ∷ q) vars)) e) marks (omega (arith, k.4, b.within, extra_within s i vps ps below os k.2 b.operands_at)) b.variables_at (r.2, left_at s (operands_of (judged_by s) i) os ps below k.2.match b.operands_at)
      (sequence_room s deep rest (stand vps (after ++ below)) (length q) inside) (k.0, b.later, after, below, b.out, refl, k.3, b.next, b.going, omega arith, inside)

  -- the operand of a block with one operand is taken
  block_taken : (i : Instr) (w : Pattern) (vps ps below : List Place) (o : Value) (os : List Value) (go : Value → List Value → Option Configuration) → operands_of (judged_by s) i ≡ w ∷ [] → IsTaken s i vps ps → AllAt s (o ∷ os) (ps ++ below) → option_and_then (go o) (operands_below s i (o ∷ os)) ≡ go o os
  block_taken i w vps ps below o os go e t oa =
      ap (option_and_then (go o)) (taken_is i vps ps below (o ∷ os) t oa ∙ ap (λ ws. Some (drop (length ws) (o ∷ os))) e)

  source_rest : (c : CollectionKind) (es : List Element) (k : Kind) → is_in s.population (value.Collection c es) k ≡ true → list_all (is_element_in s.population (elements_kind k)) es ≡ true
  source_rest c es (kind.Scalar k) h = cc
  source_rest c es (kind.Collection d k) h =
      (and_parts (are_elements c es) (list_all (is_element_in s.population k) es) (and_parts (is_same_collection c d) (is_collection_in s.population c es k) h).1).1

  -- what is known of a block, and of the code after it: of the place of the operand that it works on, and of those below
  -- the operands that it takes
  record AfterBlock (i : Instr) (body rest : CodeTree) (q : List Piece) (ms : List Mark) (n : ℕ) (vps : List Place) (p : Place) (ps below : List Place) : Type 0 where
    inside : ℕ
    after : ℕ
    later : ℕ
    out : List Place
    body_kinded : Kinded s body (bound_by s i p ++ vps) [] (end_place s body (bound_by s i p ++ vps) ∷ []) inside
    ends : matches s.population.model (ends_with (judged_by s) i) (end_place s body (bound_by s i p ++ vps)).kind ≡ true
    rest_kinded : Kinded s rest vps (block_gives s i body vps p ∷ ps) out after
    next : now_at s q ms ≡ stand vps (out ++ below)
    going : Going s deep q ms later
    within : block_charges i p.longest inside (end_place s body (bound_by s i p ++ vps)).longest + after + later ≤ n
    body_deep : GoesNoDeeper s deep body (length (bound_by s i p ++ vps)) (length (ps ++ below)) (suc (suc (length q)))
    rest_deep : GoesNoDeeper s deep rest (length vps) (suc (length (ps ++ below))) (length q)

  -- it has room
  before_block : (i : Instr) (body rest : CodeTree) (q : List Piece) (ms : List Mark) (n : ℕ) (vps : List Place) (p : Place) (ps below : List Place) → AfterBlock i body rest q ms n vps p ps below → HasRoom deep (suc (length q)) (stand vps (p ∷ (ps ++ below)))
  before_block i body rest q ms n vps p ps below b = sequence_room s deep rest (stand vps (p ∷ (ps ++ below))) (length q) b.rest_deep

  -- a block that is open has room for its mark and for the code after it
  block_room : (i : Instr) (body rest : CodeTree) (q : List Piece) (ms : List Mark) (n : ℕ) (vps : List Place) (p : Place) (ps below : List Place) → AfterBlock i body rest q ms n vps p ps below → HasRoom deep (suc (suc (length q))) (stand vps (ps ++ below))
  block_room i body rest q ms n vps p ps below b =
      let h = sequence_room s deep body (stand (bound_by s i p ++ vps) (ps ++ below)) (suc (suc (length q))) b.body_deep in
      record { operands = h.operands; variables = omega (arith, h.variables, bound_many s i p vps); pieces = omega (arith, h.pieces) }

  -- an iteration is opened, or skipped over invalid
  from_iteration : (c : Configuration) (mm : List Mark) (i : Instr) (body rest : CodeTree) (q : List Piece) (ms : List Mark) (vars : List Value) (o : Value) (kept os : List Value) (n : ℕ) (vps : List Place) (p : Place) (ps below : List Place)
      → is_iteration i ≡ true → charge_of c ≡ 1 → step s c ≡ opened_over i body o kept (Sequence rest ∷ q) vars os
      → marked s c.pending mm ≡ Iterating p (end_place s body (bound_by s i p ++ vps)) (stand vps (ps ++ below)) ∷ Here (stand vps (block_gives s i body vps p ∷ (ps ++ below))) ∷ ms
      → is_what s.population AnyCollection o ≡ true → At s o p → EachAt s (kept_place s i (end_place s body (bound_by s i p ++ vps))) kept → HasKept i kept → turns_kept i kept ≡ 0 → AllAt s vars vps → AllAt s os (ps ++ below)
      → AfterBlock i body rest q ms n vps p ps below → Moves s deep c mm n
  from_iteration c mm i body rest q ms vars (value.Collection k es) kept os n vps p ps below it one e marks w at each has none va oa b =
      let source : Source = record { kind = k; elements = es } in
      let r = end_place s body (bound_by s i p ++ vps) in
      let m = b.inside in
      let taking = taking_charge i r.longest in
      let ended = ending_charge i (length es) in
      let times : (1 + m + taking) * length es ≤ (1 + m + taking) * p.longest = mul-le-mul_left (1 + m + taking) at.within in
      let charges : block_charges i p.longest m r.longest ≡ 2 + p.longest * (1 + m + taking) + ending_charge i p.longest = iteration_charges i p.longest m r.longest it in
      let iteration : IsOpenIteration s i body source es kept vps p r m = record { iterates = it; stands = record { whole = at; rest = source_rest k es p.kind at.in_kind }; kinded = b.body_kinded; ends = b.ends; given = each; has = has } in
      steps_to c mm n (1 + length es * (1 + m + taking) + ended + (b.after + b.later)) (Opened i body source kept ∷ Sequence rest ∷ q) vars os []
      (Iterating p r (stand vps (ps ++ below)) ∷ Here (stand vps (block_gives s i body vps p ∷ (ps ++ below))) ∷ ms) e marks (omega (arith, b.within, one, charges, times, ending_within i (length es) p.longest at.within)) va oa
      (block_room i body rest q ms n vps p ps below b)
      (m, b.after + b.later, iteration, none, refl, (b.after, b.later, block_gives s i body vps p ∷ ps, below, b.out, refl, b.rest_kinded, b.next, b.going, omega arith, b.rest_deep), omega arith, b.body_deep, (before_block i body rest q ms n vps p ps below b).operands)
  from_iteration c mm i body rest q ms vars value.Invalid kept os n vps p ps below it one e marks w at each has none va oa b =
      let r = end_place s body (bound_by s i p ++ vps) in
      let charges : block_charges i p.longest b.inside r.longest ≡ 2 + p.longest * (1 + b.inside + taking_charge i r.longest) + ending_charge i p.longest = iteration_charges i p.longest b.inside r.longest it in
      steps_to c mm n (1 + (b.after + b.later)) (Skipped ∷ Sequence rest ∷ q) vars os []
      (Iterating p r (stand vps (ps ++ below)) ∷ Here (stand vps (block_gives s i body vps p ∷ (ps ++ below))) ∷ ms) e marks (omega (arith, b.within, one, charges)) va oa
      (block_room i body rest q ms n vps p ps below b)
      (b.after + b.later, block_gives s i body vps p, refl, (b.after, b.later, block_gives s i body vps p ∷ ps, below, b.out, refl, b.rest_kinded, b.next, b.going, omega arith, b.rest_deep), omega arith, (before_block i body rest q ms n vps p ps below b).operands)
  from_iteration c mm i body rest q ms vars o kept os n vps p ps below it one e marks w at each has none va oa b = cc

  -- the places of the operands of a block
  block_after : (i : Instr) (body rest : CodeTree) (q : List Piece) (ms : List Mark) (vars os : List Value) (n : ℕ) (vps ps below : List Place) → Before (Block i body rest) q ms vars os n vps ps below → AfterBlock i body rest q ms n vps (operand_place i ps) (places_left s i ps) below
  block_after i body rest q ms vars os n vps ps below b =
      let k = b.kinded in
      let ops = operands_of (judged_by s) i in
      let count : length (places_left s i ps ++ below) ≡ length (ps ++ below) - length ops =
      omega (arith, ap length (left_above s ops ps below k.3.match), length-drop (length ops) (ps ++ below)) in
      let deeps = block_deep s deep i body rest (length vps) (length (ps ++ below)) (length (places_left s i ps ++ below)) (length q) count b.inside in
      record {
        inside = k.0;
        after = k.1;
        later = b.later;
        out = b.out;
        body_kinded = k.4;
        ends = k.5;
        rest_kinded = k.6;
        next = b.next;
        going = b.going;
        within = omega (arith, k.7, b.within);
        body_deep = subst (λ v. GoesNoDeeper s deep body v (length (places_left s i ps ++ below)) (suc (suc (length q)))) (sym (bound_many s i (operand_place i ps) vps)) deeps.0;
        rest_deep = deeps.1;
      }

  -- its step, where its operands are there and right
  block_step : (i : Instr) (body rest : CodeTree) (q : List Piece) (vars os : List Value) (vps ps below : List Place) → IsTaken s i vps ps → AllAt s os (ps ++ below)
      → step s (raw (Sequence (Block i body rest) ∷ q) vars os) ≡ block_opened i body os (Sequence rest ∷ q) vars (drop (length (operands_of (judged_by s) i)) os)
  block_step i body rest q vars os vps ps below t oa =
      ap (option_and_then (λ left. block_opened i body os (Sequence rest ∷ q) vars left)) (taken_is i vps ps below os t oa)

  from_let : (i : Instr) (x : ℕ) (body rest : CodeTree) (q : List Piece) (ms : List Mark) (vars os : List Value) (n : ℕ) (vps ps below : List Place) → i ≡ instrs.Let x → at_tree (Block i body rest) q ms vars os n vps ps below
  from_let (instrs.Let y) x body rest q ms vars os n vps [] below is b = let t = b.kinded.3.match in cc
  from_let (instrs.Let y) x body rest q ms vars [] n vps (p ∷ ps) below is b = absurd b.operands_at
  from_let (instrs.Let y) x body rest q ms vars (o ∷ os) n vps (p ∷ ps) below is b =
      let a = block_after (instrs.Let y) body rest q ms vars (o ∷ os) n vps (p ∷ ps) below b in
      let r = end_place s body (p ∷ vps) in
      steps_to (raw (Sequence (Block (instrs.Let y) body rest) ∷ q) vars (o ∷ os)) (Here (stand vps (p ∷ (ps ++ below))) ∷ ms) n (a.inside + (1 + (a.after + a.later))) (Sequence body ∷ LetEnd ∷ Sequence rest ∷ q) (o ∷ vars) os []
      (Here (stand (p ∷ vps) (ps ++ below)) ∷ Here (stand (p ∷ vps) (r ∷ (ps ++ below))) ∷ Here (stand vps (r ∷ (ps ++ below))) ∷ ms)
      (block_step (instrs.Let y) body rest q vars (o ∷ os) vps (p ∷ ps) below b.kinded.3 b.operands_at) refl (omega (arith, a.within)) (b.operands_at.0, b.variables_at) b.operands_at.1
      (sequence_room s deep body (stand (p ∷ vps) (ps ++ below)) (suc (suc (length q))) a.body_deep) (
        a.inside,
        1 + (a.after + a.later),
        [],
        ps ++ below,
        r ∷ [],
        refl,
        a.body_kinded,
        refl,
        (a.after + a.later, p, refl, refl, (a.after, a.later, r ∷ ps, below, a.out, refl, a.rest_kinded, a.next, a.going, omega arith, a.rest_deep), omega arith),
        omega arith,
        a.body_deep,
      )
  from_let i x body rest q ms vars os n vps ps below is b = cc

  -- FOLD: its start value lies above its source
  from_fold : (i : Instr) (k : WrittenScalar) (x : ℕ) (body rest : CodeTree) (q : List Piece) (ms : List Mark) (vars os : List Value) (n : ℕ) (vps ps below : List Place) → i ≡ instrs.Fold k x → at_tree (Block i body rest) q ms vars os n vps ps below
  from_fold (instrs.Fold j y) k x body rest q ms vars os n vps [] below is b = let t = b.kinded.3.match in cc
  from_fold (instrs.Fold j y) k x body rest q ms vars os n vps (pa ∷ []) below is b =
      let t = (and_parts (matches s.population.model (Fitting (kind.Scalar (scalar_meant (judged_by s) j))) pa.kind) false b.kinded.3.match).1 in cc
  from_fold (instrs.Fold j y) k x body rest q ms vars [] n vps (pa ∷ p ∷ ps) below is b = absurd b.operands_at
  from_fold (instrs.Fold j y) k x body rest q ms vars (a ∷ []) n vps (pa ∷ p ∷ ps) below is b = absurd b.operands_at.1
  from_fold (instrs.Fold j y) k x body rest q ms vars (a ∷ o ∷ os) n vps (pa ∷ p ∷ ps) below is b =
      let fold = instrs.Fold j y in
      let its = scalar_meant (judged_by s) j in
      let first = and_parts (matches s.population.model (Fitting (kind.Scalar its)) pa.kind) (matches s.population.model AnyCollection p.kind && true) b.kinded.3.match in
      let second = and_parts (matches s.population.model AnyCollection p.kind) true first.1 in
      let start = matches_in s.population (Fitting (kind.Scalar its)) pa.kind a first.0 b.operands_at.0.in_kind in
      let what = matches_in s.population AnyCollection p.kind o second.0 b.operands_at.1.0.in_kind in
      from_iteration (raw (Sequence (Block fold body rest) ∷ q) vars (a ∷ o ∷ os)) (Here (stand vps (pa ∷ p ∷ (ps ++ below))) ∷ ms) fold body rest q ms vars o (a ∷ []) os n vps p ps below refl refl
      (block_step fold body rest q vars (a ∷ o ∷ os) vps (pa ∷ p ∷ ps) below b.kinded.3 b.operands_at) refl what b.operands_at.1.0 (single_at s a its 0 start, tt) (a, refl) refl b.variables_at b.operands_at.1.1
      (block_after fold body rest q ms vars (a ∷ o ∷ os) n vps (pa ∷ p ∷ ps) below b)
  from_fold i k x body rest q ms vars os n vps ps below is b = cc

  from_turns : (i : Instr) (body rest : CodeTree) (q : List Piece) (ms : List Mark) (vars os : List Value) (n : ℕ) (vps ps below : List Place) → is_iteration i ≡ true → operands_above i ≡ 0 → at_tree (Block i body rest) q ms vars os n vps ps below
  from_turns i body rest q ms vars os n vps [] below it one b =
      let bad : all_match s.population.model (AnyCollection ∷ []) [] ≡ true = subst (λ ws. all_match s.population.model ws [] ≡ true) (iteration_takes (judged_by s) i it one) b.kinded.3.match in cc
  from_turns i body rest q ms vars [] n vps (p ∷ ps) below it one b = absurd b.operands_at
  from_turns i body rest q ms vars (o ∷ os) n vps (p ∷ ps) below it one b =
      let ops = operands_of (judged_by s) i in
      let t = b.kinded.3 in
      let takes = iteration_takes (judged_by s) i it one in
      let match : all_match s.population.model (AnyCollection ∷ []) (kinds_of (p ∷ ps)) ≡ true = subst (λ ws. all_match s.population.model ws (kinds_of (p ∷ ps)) ≡ true) takes t.match in
      let what = matches_in s.population AnyCollection p.kind o (and_parts (matches s.population.model AnyCollection p.kind) true match).0 b.operands_at.0.in_kind in
      let is : (rs : List Place) → operand_place i (p ∷ rs) ≡ p = λ rs. ap (λ c. top_place (drop c (p ∷ rs))) one in
      let its = operand_place i (p ∷ ps) in
      let left = places_left s i (p ∷ ps) in
      let kept = nothing_kept s i one in
      let marks : sequence_marked s (Block i body rest) vps (p ∷ (ps ++ below)) ms ≡ Iterating its (end_place s body (bound_by s i its ++ vps)) (stand vps (left ++ below)) ∷ Here (stand vps (block_gives s i body vps its ∷ (left ++ below))) ∷ ms =
      ap (λ x. block_marked s i body vps x (places_left s i (p ∷ (ps ++ below))) ++ Here (stand vps (block_gives s i body vps x ∷ places_left s i (p ∷ (ps ++ below)))) ∷ ms) (is (ps ++ below) ∙ sym (is ps))
      ∙ ap (λ l. block_marked s i body vps its l ++ Here (stand vps (block_gives s i body vps its ∷ l)) ∷ ms) (left_above s ops (p ∷ ps) below t.match)
      ∙ iteration_marked s i body vps its (left ++ below) ms it in
      from_iteration (raw (Sequence (Block i body rest) ∷ q) vars (o ∷ os)) (Here (stand vps (p ∷ (ps ++ below))) ∷ ms) i body rest q ms vars o [] (drop (length ops) (o ∷ os)) n vps its left below it refl
      (block_step i body rest q vars (o ∷ os) vps (p ∷ ps) below t b.operands_at ∙ iteration_opens i body o os (Sequence rest ∷ q) vars (drop (length ops) (o ∷ os)) it one) marks what
      (subst (At s o) (sym (is ps)) b.operands_at.0) tt kept.0 kept.1 b.variables_at (left_at s ops (o ∷ os) (p ∷ ps) below t.match b.operands_at)
      (block_after i body rest q ms vars (o ∷ os) n vps (p ∷ ps) below b)

  from_block : (i : Instr) (body rest : CodeTree) (q : List Piece) (ms : List Mark) (vars os : List Value) (n : ℕ) (vps ps below : List Place) → at_tree (Block i body rest) q ms vars os n vps ps below
  from_block i body rest q ms vars os n vps ps below b = by_sort (block_sort i b.kinded.2)
    where
      by_sort : BlockSort i → Moves s deep (raw (Sequence (Block i body rest) ∷ q) vars os) (Here (stand vps (ps ++ below)) ∷ ms) n
      by_sort (is_let x is) = from_let i x body rest q ms vars os n vps ps below is b
      by_sort (iterates it one) = from_turns i body rest q ms vars os n vps ps below it one b
      by_sort (folds k x is) = from_fold i k x body rest q ms vars os n vps ps below is b

  -- no branch is chosen: the IF is invalid
  from_no_branch : (i : Instr) (first second rest : CodeTree) (q : List Piece) (ms : List Mark) (vars : List Value) (o : Value) (os : List Value) (n : ℕ) (vps : List Place) (p : Place) (ps below : List Place)
      → step s (raw (Sequence (Branch i first second rest) ∷ q) vars (o ∷ os)) ≡ Some (configuration (Sequence rest ∷ q) vars (value.Invalid ∷ os)) → AllAt s vars vps → AllAt s os (ps ++ below)
      → Before (Branch i first second rest) q ms vars (o ∷ os) n vps (p ∷ ps) below → Moves s deep (raw (Sequence (Branch i first second rest) ∷ q) vars (o ∷ os)) (Here (stand vps (p ∷ (ps ++ below))) ∷ ms) n
  from_no_branch i first second rest q ms vars o os n vps p ps below e va oa b =
      let k = b.kinded in
      let r = branch_gives s i first second vps p in
      let deeps = branch_deep s deep i a_boolean first second rest (length vps) (length (ps ++ below)) (length q) (branch_takes (judged_by s) i k.2) b.inside in
      steps_to (raw (Sequence (Branch i first second rest) ∷ q) vars (o ∷ os)) (Here (stand vps (p ∷ (ps ++ below))) ∷ ms) n (k.1 + b.later) (Sequence rest ∷ q) vars (value.Invalid ∷ os) (Here (stand vps (ps ++ below)) ∷ [])
      (Here (stand vps (r ∷ (ps ++ below))) ∷ ms) e refl (omega (arith, k.7, b.within)) va (invalid_at s r, oa)
      (sequence_room s deep rest (stand vps (r ∷ (ps ++ below))) (length q) deeps.2) (k.1, b.later, r ∷ ps, below, b.out, refl, k.6, b.next, b.going, omega arith, deeps.2)

  -- a condition chooses a branch, or none
  from_condition : (i : Instr) (first second rest : CodeTree) (q : List Piece) (ms : List Mark) (vars : List Value) (o : Value) (os : List Value) (n : ℕ) (vps : List Place) (p : Place) (ps below : List Place)
      → step s (raw (Sequence (Branch i first second rest) ∷ q) vars (o ∷ os)) ≡ branched o first second (Sequence rest ∷ q) vars os → is_in s.population o (kind.Scalar element.Boolean) ≡ true → AllAt s vars vps → AllAt s os (ps ++ below)
      → Before (Branch i first second rest) q ms vars (o ∷ os) n vps (p ∷ ps) below → Moves s deep (raw (Sequence (Branch i first second rest) ∷ q) vars (o ∷ os)) (Here (stand vps (p ∷ (ps ++ below))) ∷ ms) n
  from_condition i first second rest q ms vars (value.Single (scalar.Bool true)) os n vps p ps below e h va oa b =
      let k = b.kinded in
      let r = branch_gives s i first second vps p in
      let deeps = branch_deep s deep i a_boolean first second rest (length vps) (length (ps ++ below)) (length q) (branch_takes (judged_by s) i k.2) b.inside in
      steps_to (raw (Sequence (Branch i first second rest) ∷ q) vars (value.Single (scalar.Bool true) ∷ os)) (Here (stand vps (p ∷ (ps ++ below))) ∷ ms) n (k.0 + (k.1 + b.later)) (Sequence first ∷ Sequence rest ∷ q) vars os []
      (Here (stand vps (ps ++ below)) ∷ Here (stand vps (r ∷ (ps ++ below))) ∷ ms) e refl (omega (arith, k.7, b.within)) va oa (sequence_room s deep first (stand vps (ps ++ below)) (suc (length q)) deeps.0)
      (k.0, k.1 + b.later, [], ps ++ below, r ∷ [], refl, k.4, refl, (k.1, b.later, r ∷ ps, below, b.out, refl, k.6, b.next, b.going, omega arith, deeps.2), omega arith, deeps.0)
  from_condition i first second rest q ms vars (value.Single (scalar.Bool false)) os n vps p ps below e h va oa b =
      let k = b.kinded in
      let r = branch_gives s i first second vps p in
      let deeps = branch_deep s deep i a_boolean first second rest (length vps) (length (ps ++ below)) (length q) (branch_takes (judged_by s) i k.2) b.inside in
      steps_to (raw (Sequence (Branch i first second rest) ∷ q) vars (value.Single (scalar.Bool false) ∷ os)) (Here (stand vps (p ∷ (ps ++ below))) ∷ ms) n (k.0 + (k.1 + b.later)) (Sequence second ∷ Sequence rest ∷ q) vars os []
      (Here (stand vps (ps ++ below)) ∷ Here (stand vps (r ∷ (ps ++ below))) ∷ ms) e refl (omega (arith, k.7, b.within)) va oa (sequence_room s deep second (stand vps (ps ++ below)) (suc (length q)) deeps.1)
      (k.0, k.1 + b.later, [], ps ++ below, r ∷ [], refl, k.5, refl, (k.1, b.later, r ∷ ps, below, b.out, refl, k.6, b.next, b.going, omega arith, deeps.2), omega arith, deeps.1)
  from_condition i first second rest q ms vars value.Null os n vps p ps below e h va oa b =
      from_no_branch i first second rest q ms vars value.Null os n vps p ps below e va oa b
  from_condition i first second rest q ms vars value.Invalid os n vps p ps below e h va oa b =
      from_no_branch i first second rest q ms vars value.Invalid os n vps p ps below e va oa b
  from_condition i first second rest q ms vars o os n vps p ps below e h va oa b = cc

  from_branch : (i : Instr) (first second rest : CodeTree) (q : List Piece) (ms : List Mark) (vars os : List Value) (n : ℕ) (vps ps below : List Place) → at_tree (Branch i first second rest) q ms vars os n vps ps below
  from_branch i first second rest q ms vars os n vps [] below b = absurd b.kinded
  from_branch i first second rest q ms vars [] n vps (p ∷ ps) below b = absurd b.operands_at
  from_branch i first second rest q ms vars (o ∷ os) n vps (p ∷ ps) below b =
      let k = b.kinded in
      let takes = branch_takes (judged_by s) i k.2 in
      let match : all_match s.population.model (a_boolean ∷ []) (kinds_of (p ∷ ps)) ≡ true = subst (λ ws. all_match s.population.model ws (kinds_of (p ∷ ps)) ≡ true) takes k.3.match in
      let what = matches_in s.population a_boolean p.kind o (and_parts (matches s.population.model a_boolean p.kind) true match).0 b.operands_at.0.in_kind in
      let e = block_taken i a_boolean vps (p ∷ ps) below o os (λ v left. branched v first second (Sequence rest ∷ q) vars left) takes k.3 b.operands_at in
      from_condition i first second rest q ms vars o os n vps p ps below e what b.variables_at b.operands_at.1 b

  from_tree : (t : CodeTree) (q : List Piece) (ms : List Mark) (vars os : List Value) (n : ℕ) (vps ps below : List Place) → IsThere t → at_tree t q ms vars os n vps ps below
  from_tree End q ms vars os n vps ps below there b = absurd there
  from_tree (Plain i rest) q ms vars os n vps ps below there b = from_plain i rest q ms vars os n vps ps below b
  from_tree (Block i body rest) q ms vars os n vps ps below there b = from_block i body rest q ms vars os n vps ps below b
  from_tree (Branch i first second rest) q ms vars os n vps ps below there b = from_branch i first second rest q ms vars os n vps ps below b
  from_tree (Torn i left) q ms vars os n vps ps below there b = absurd b.kinded

  -- ---- the first piece that is pending

  abbrev at_piece : List Piece → List Mark → List Value → List Value → ℕ → Type 0
  at_piece q ms vars os n =
      IsSettled q → AllAt s vars (now_at s q ms).variables → AllAt s os (now_at s q ms).operands → HasRoom deep (length q) (now_at s q ms) → Going s deep q ms n → Moves s deep (raw q vars os) ms n

  from_sequence : (t : CodeTree) (q : List Piece) (at : Stand) (ms : List Mark) (vars os : List Value) (n : ℕ) → at_piece (Sequence t ∷ q) (Here at ∷ ms) vars os n
  from_sequence t q at ms vars os n i va oa h g =
      let b : Before t q ms vars os n at.variables g.2 g.3 =
      record { variables_at = va; operands_at = subst (AllAt s os) g.5 oa; cost = g.0; later = g.1; out = g.4; kinded = g.6; next = g.7; going = g.8; within = g.9; inside = subst (λ l. GoesNoDeeper s deep t (length at.variables) (length l) (length q)) g.5 g.10 } in
      subst (λ ps. Moves s deep (raw (Sequence t ∷ q) vars os) (Here (stand at.variables ps) ∷ ms) n) (sym g.5) (from_tree t q ms vars os n at.variables g.2 g.3 i b)

  from_end : (at : Stand) (vars os : List Value) (n : ℕ) → at_piece [] (Here at ∷ []) vars os n
  from_end at vars os n i va oa h g = one at.operands os oa g
    where
      one : (ps : List Place) (os : List Value) → AllAt s os ps → IsOneBoolean s ps → Moves s deep (raw [] vars os) (Here at ∷ []) n
      one [] os oa g = absurd g
      one (p ∷ p' ∷ ps) os oa g = absurd g
      one (p ∷ []) [] oa g = absurd oa
      one (p ∷ []) (o ∷ []) oa g = inl refl
      one (p ∷ []) (o ∷ o' ∷ os) oa g = absurd oa.1

  from_let_end : (q : List Piece) (at : Stand) (ms : List Mark) (vars os : List Value) (n : ℕ) → at_piece (LetEnd ∷ q) (Here at ∷ ms) vars os n
  from_let_end q at ms vars os n i va oa h g = dropping vars (subst (AllAt s vars) g.2 va)
    where
      dropping : (vars : List Value) → AllAt s vars (g.1 ∷ (now_at s q ms).variables) → Moves s deep (raw (LetEnd ∷ q) vars os) (Here at ∷ ms) n
      dropping [] va = absurd va
      dropping (v ∷ vars) va =
          steps_to (raw (LetEnd ∷ q) (v ∷ vars) os) (Here at ∷ ms) n g.0 q vars os [] ms refl refl (omega (arith, g.5)) va.1 (subst (AllAt s os) g.3 oa)
          (record { operands = omega (arith, h.operands, ap length g.3); variables = omega (arith, h.variables, ap length g.2); pieces = omega (arith, h.pieces) }) g.4

  from_turn : (x : Instr) (body : CodeTree) (source : Source) (left : List Element) (kept : List Value) (q : List Piece) (p r : Place) (below : Stand) (ms : List Mark) (vars os : List Value) (n : ℕ) → at_piece (Turning x body source left kept ∷ q) (Iterating p r below ∷ ms) vars os n
  from_turn x body source left kept q p r below ms vars [] n i va oa h g = absurd oa
  from_turn x body source left kept q p r below ms vars (o ∷ os) n i va oa h g =
      let it = g.2 in
      let count = bound_count x in
      let what = matches_in s.population (ends_with (judged_by s) x) r.kind o it.ends oa.0.in_kind in
      let many : count + length below.variables ≡ length vars = sym (as_many_at s vars (bound_by s x p ++ below.variables) va ∙ bound_many s x p below.variables) in
      let there : nat_le count (length vars) ≡ true = le-leb count (length vars) (omega (arith, many)) in
      let e : step s (raw (Turning x body source left kept ∷ q) vars (o ∷ os)) ≡ Some (turned x body source left (keeping x kept o) q (drop count vars) os) =
      ap (λ t. if t then Some (turned x body source left (keeping x kept o) q (drop count vars) os) else None) (and_from _ _ there what) in
      let own : length (bound_by s x p) ≡ count = omega (arith, bound_many s x p below.variables, length-append (bound_by s x p) below.variables) in
      let left_vars = subst (λ c. AllAt s (drop c vars) below.variables) own (unbound_at (bound_by s x p) vars below.variables va) in
      let next : IsOpenIteration s x body source left (keeping x kept o) below.variables p r g.0 =
      record { iterates = it.iterates; stands = it.stands; kinded = it.kinded; ends = it.ends; given = keeping_at x r kept o what oa.0 it.given; has = keeping_has x kept o } in
      turning (raw (Turning x body source left kept ∷ q) vars (o ∷ os)) (Iterating p r below ∷ ms) n x body source left (keeping x kept o) q (drop count vars) os p r below ms g.0 g.1 (taking_charge x r.longest) e refl left_vars oa.1 next (omega (arith, g.3, keeping_turns x kept o)) g.4 g.5 (omega (arith, taking_within x (long o) r.longest oa.0.within)) g.6 g.7 g.8

  moves_on : (q : List Piece) (ms : List Mark) (vars os : List Value) (n : ℕ) → at_piece q ms vars os n
  moves_on [] (Here at ∷ []) vars os n i va oa h g = from_end at vars os n i va oa h g
  moves_on (Sequence t ∷ q) (Here at ∷ ms) vars os n i va oa h g = from_sequence t q at ms vars os n i va oa h g
  moves_on (LetEnd ∷ q) (Here at ∷ ms) vars os n i va oa h g = from_let_end q at ms vars os n i va oa h g
  moves_on (Opened x body source kept ∷ q) (Iterating p r below ∷ ms) vars os n i va oa h g =
      turning (raw (Opened x body source kept ∷ q) vars os) (Iterating p r below ∷ ms) n x body source source.elements kept q vars os p r below ms g.0 g.1 0 refl refl va oa g.2 (omega (arith, g.3)) g.4 g.5 (omega arith) g.6 g.7 g.8
  moves_on (Turning x body source left kept ∷ q) (Iterating p r below ∷ ms) vars os n i va oa h g =
      from_turn x body source left kept q p r below ms vars os n i va oa h g
  moves_on (Skipped ∷ q) (Iterating p r below ∷ ms) vars os n i va oa h g =
      steps_to (raw (Skipped ∷ q) vars os) (Iterating p r below ∷ ms) n g.0 q vars (value.Invalid ∷ os) [] ms refl refl (omega (arith, g.4))
      (subst (λ st. AllAt s vars st.variables) (sym g.2) va) (subst (λ st. AllAt s (value.Invalid ∷ os) st.operands) (sym g.2) (invalid_at s g.1, oa))
      (subst (HasRoom deep (length q)) (sym g.2) (record { operands = g.5; variables = h.variables; pieces = omega (arith, h.pieces) })) g.3
  moves_on q ms vars os n i va oa h g = absurd g

  -- a configuration that can go on has a verdict, or a next step to one that can go on for fewer
  pub moves : (c : Configuration) (ms : List Mark) (n : ℕ) → Live s deep c ms n → Moves s deep c ms n
  moves c ms n l =
      ⊎_elim (λ f. inl f) (λ m. inr (m.0, m.1, m.2, omega (arith, l.within, m.3), m.4))
      (moves_on c.pending ms c.variables c.operands l.cost l.settled l.variables_at l.operands_at l.room l.going)

  -- ---- what iterations hold

  -- what open iterations hold is at its places
  pub held : (q : List Piece) (ms : List Mark) (n : ℕ) → Going s deep q ms n → AllHeldAt s q ms
  held [] ms n g = tt
  held (Sequence t ∷ q) (Here at ∷ ms) n g = (tt, held q ms g.1 g.8)
  held (LetEnd ∷ q) (Here at ∷ ms) n g = (tt, held q ms g.0 g.4)
  held (Opened x body source kept ∷ q) (Iterating p r below ∷ ms) n g = ((g.2.stands, g.2.given), held q ms g.1 g.5)
  held (Turning x body source left kept ∷ q) (Iterating p r below ∷ ms) n g = ((g.2.stands, g.2.given), held q ms g.1 g.5)
  held (Skipped ∷ q) (Iterating p r below ∷ ms) n g = (tt, held q ms g.0 g.3)
  held q ms n g = absurd g
