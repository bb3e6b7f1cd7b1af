-- The steps of marks: the end of a LET, an iteration over invalid, and the turns of iterations.
use Rattle.std.proofs.Common.{◌≡◌, ◌⊎◌, inl, inr, ℕ, suc, ◌+◌, ◌≤◌, Bool, true, false, List, [], ◌∷◌, ◌++◌, length, take, drop, Some, None, refl, sym, ap, ◌∙◌, subst, arith, length-append}
use Rattle.std.specs.Prelude.{nat_le, ◌&&◌, slice_get, slice_range, if◌then◌else◌}
use Rattle.std.proofs.lemmas.Bool.{and_from, le-leb}
use Rattle.std.proofs.lemmas.List.{length-take-le}
use Rattle.std.specs.List.{AllByRecursion}
use Rattle.rule_code.specs.declared.instruction.Instr.{Instr}
use Rattle.rule_code.specs.declared.instruction.Instr.TheVariants as instrs
use Rattle.rule_verify.specs.CodeTree.{CodeTree}
use Rattle.rule_verify.specs.InstrKinds.{operands_above, bound_count, scalar_meant, ends_with}
use Rattle.rule_values.specs.Value as value
use Rattle.rule_values.specs.Value.{Element, Value, element_value}
use Rattle.rule_values.specs.Operations.{is_true, is_false, is_invalid}
use Rattle.rule_values.specs.Endings.{Source}
use Rattle.rule_machine.specs.IterationResults.{ending}
use Rattle.rule_machine.specs.Machine.{Setting, judged_by, is_what, Piece, Sequence, LetEnd, Opened, Turning, Skipped, Configuration, configuration, bound_values, keeping, turned, step}
use Rattle.rule_machine.specs.Shown.{HasNext}
use Rattle.rule_slots.specs.declared.slot.Slot.{Slot}
use Rattle.rule_machine.specs.declared.piece.Turn.{Turn}
use Rattle.rule_machine.specs.declared.piece.Piece.{Piece as Pending}
use Rattle.rule_machine.specs.declared.piece.Piece.TheVariants as piece
use Rattle.rule_slots.specs.Slots.{Lists, ElementsAre, SlotIs, SlotsAre, invalid_slot, held_slots}
use Rattle.rule_machine.specs.Counts.{Balanced, LeavesOne}
use Rattle.rule_machine.specs.StandFor.{Keeps, KeepsLast, KeepsStart, TurnIs, TurnKeeps, Cut, bound_slots, StandsFor, TopStandsFor, IsAt, StepsTo, Between, kept_elements, gives_truths, following_turn, count_passing}
use Rattle.rule_slots.proofs.ForAbove.{part_same, is_replaced, kept_more, as_many, element_next, element_slot, elements_join, none_left}
use Rattle.rule_machine.proofs.Segments.{stand_same}
use Rattle.rule_machine.proofs.Stacks.{cut_pop, cut_none, cut_dropped, cut_empty, ops_push, vars_pop, all_vars, ops_there}
use Rattle.rule_machine.proofs.KeptValues.{no_collection, anywhere}
use Rattle.rule_machine.proofs.InstrSteps.{is_at, is_past, past, top_of}

module _ (s : Setting) (l : Lists) (code : List Instr) (p : List Slot) where
  -- ---- the end of a LET

  -- the end of a LET drops its variable
  pub let_end_steps : (at end : ℕ) (cs : List Pending) (o : Slot) (vs os : List Slot) (c : Configuration) → at ≡ end → IsAt s l code p at end (piece.LetEnd ∷ cs) (o ∷ vs) os c → StepsTo s l code p at end cs vs os c
  let_end_steps at end cs o vs os c e h =
      let f = past s l code p at end (piece.LetEnd ∷ cs) (o ∷ vs) os c e h in
      by_pieces f.0 f.1 f.2 f.3 f.4 f.5 f.6 f.7
    where
      by_pieces : (ps : List Piece) (vars ops : List Value) (v n : ℕ) → c ≡ configuration ps vars ops → LeavesOne s ps v n → TopStandsFor s l code p v n (piece.LetEnd ∷ cs) (o ∷ vs) os ps vars ops → StepsTo s l code p at end cs vs os c
      by_pieces (LetEnd ∷ q) [] ops v n same ends h = absurd (all_vars s l code p (length p) v n cs (o ∷ vs) os q [] ops h)
      by_pieces (LetEnd ∷ q) (x ∷ vars) ops v n same ends h =
          let r = vars_pop s l code p (length p) ends.0 n cs o vs os q x vars ops (subst (λ m. StandsFor s l code p (length p) m n cs (o ∷ vs) os q (x ∷ vars) ops) ends.1 h) in
          record {
            next = configuration q vars ops;
            made = ap (step s) same;
            stands = is_past s l code p at end cs vs os q vars ops ends.0 n e ends.2 (top_of s l code p ends.0 n cs vs os q vars ops r.1);
          }
      by_pieces ps vars ops v n same ends h = absurd h

  -- a LET's end finds its variable
  pub let_end_has_variable : (at end : ℕ) (cs : List Pending) (os : List Slot) (c : Configuration) → at ≡ end → IsAt s l code p at end (piece.LetEnd ∷ cs) [] os c → HasNext (step s c) → ⊥
  let_end_has_variable at end cs os c e h g =
      let f = past s l code p at end (piece.LetEnd ∷ cs) [] os c e h in
      by_pieces f.0 f.1 f.2 f.3 f.4 f.5 f.7
    where
      by_pieces : (ps : List Piece) (vars ops : List Value) (v n : ℕ) → c ≡ configuration ps vars ops → TopStandsFor s l code p v n (piece.LetEnd ∷ cs) [] os ps vars ops → ⊥
      by_pieces (LetEnd ∷ q) [] ops v n same h = subst HasNext (ap (step s) same) g
      by_pieces (LetEnd ∷ q) (x ∷ vars) ops v n same h = all_vars s l code p (length p) v n cs [] os q (x ∷ vars) ops h
      by_pieces ps vars ops v n same h = absurd h

  -- ---- an iteration over invalid

  -- it gives invalid
  pub skip_steps : (at end : ℕ) (cs : List Pending) (vs os : List Slot) (c : Configuration) → at ≡ end → IsAt s l code p at end (piece.Skipped ∷ cs) vs os c → StepsTo s l code p at end cs vs (invalid_slot ∷ os) c
  skip_steps at end cs vs os c e h =
      let f = past s l code p at end (piece.Skipped ∷ cs) vs os c e h in
      by_pieces f.0 f.1 f.2 f.3 f.4 f.5 f.6 f.7
    where
      by_pieces : (ps : List Piece) (vars ops : List Value) (v n : ℕ) → c ≡ configuration ps vars ops → LeavesOne s ps v n → TopStandsFor s l code p v n (piece.Skipped ∷ cs) vs os ps vars ops → StepsTo s l code p at end cs vs (invalid_slot ∷ os) c
      by_pieces (Skipped ∷ q) vars ops v n same ends h =
          record {
            next = configuration q vars (value.Invalid ∷ ops);
            made = ap (step s) same;
            stands = is_past s l code p at end cs vs (invalid_slot ∷ os) q vars (value.Invalid ∷ ops) v (suc n) e ends (top_of s l code p v (suc n) cs vs (invalid_slot ∷ os) q vars (value.Invalid ∷ ops) (ops_push s l code p (length p) v n cs vs invalid_slot os q vars value.Invalid ops refl h));
          }
      by_pieces ps vars ops v n same ends h = absurd h

  -- ---- turns

  -- what a turn binds stands in its slots
  turn_bound : (i : Instr) (e last : Slot) (x : Element) (bodies kept : List Value) → KeepsLast l p i bodies last kept → SlotIs l p (length p) e (element_value x) → SlotsAre l p (length p) (bound_slots i e last) (bound_values i x kept) × (length (bound_values i x kept) ≡ bound_count i)
  turn_bound (instrs.Let n) e last x bodies kept k h = ((h, tt), refl)
  turn_bound (instrs.Fold w n) e last x bodies kept k h =
      subst (λ ks. SlotsAre l p (length p) (last ∷ e ∷ []) (ks ++ element_value x ∷ []) × (length (ks ++ element_value x ∷ []) ≡ 2)) (sym k.1) ((k.2, (h, tt)), refl)
  turn_bound i e last x bodies kept k h = ((h, tt), refl)

  -- what an iteration keeps in a turn, by what it kept before it
  kept_in_turn : (i : Instr) (last : Slot) (bodies kept : List Value) → KeepsLast l p i bodies last kept → Keeps i bodies kept
  kept_in_turn (instrs.Fold w n) last bodies kept k = (k.0, k.1)
  kept_in_turn i last bodies kept k = k

  -- its next turn begins
  pub turn_begins : (t : Turn) (last : Slot) (cs : List Pending) (vs os : List Slot) (d : Configuration) (e : Slot) → Between s l code p t last cs vs os d → slice_get (held_slots l p t.source) t.next ≡ Some e → IsAt s l code p t.from t.end (piece.Turning (following_turn t) ∷ cs) (bound_slots t.instr e last ++ vs) os d
  turn_begins t last cs vs os d e b g =
      let x = element_next l (held_slots l p t.source) b.source.elements t.next e b.turn.part.elements g in
      let left1 = drop (suc t.next) b.source.elements in
      let more : suc t.next ≡ t.next + 1 = omega arith in
      let left : b.left ≡ x.0 ∷ left1 = b.turn.rest ∙ x.1 in
      let turn : TurnIs s l code p (length p) (following_turn t) b.i b.body b.source left1 b.bodies =
      record {
        same_instr = b.turn.same_instr;
        same_body = b.turn.same_body;
        part = b.turn.part;
        rest = ap (λ k. drop k b.source.elements) more;
        above = b.turn.above;
        keeps = b.turn.keeps;
        trues = b.turn.trues;
        falses = b.turn.falses;
        invalids = b.turn.invalids;
        fitting = b.turn.fitting;
      } in
      let keeps : TurnKeeps s l code p (length p) (following_turn t) b.i b.body b.source left1 b.kept =
      record { bodies = b.bodies; keeps = kept_in_turn b.i last b.bodies b.kept b.keeps; turn = turn; turns = omega (arith, b.turns) } in
      let are = turn_bound b.i e last x.0 b.bodies b.kept b.keeps (element_slot l p (length p) e x.0 x.2) in
      let bound : Cut l p (length p) (bound_count b.i) (bound_slots b.i e last ++ vs) (bound_values b.i x.0 b.kept ++ b.vars) =
      record { here = bound_slots b.i e last; below = vs; here_values = bound_values b.i x.0 b.kept; below_values = b.vars; slots = refl; values = refl; are = are.0; long = are.1 } in
      let here : StandsFor s l code p (length p) (bound_count b.i) 0 (piece.Turning (following_turn t) ∷ cs) (bound_slots b.i e last ++ vs) os (Turning b.i b.body b.source left1 b.kept ∷ b.q) (bound_values b.i x.0 b.kept ++ b.vars) b.ops =
      (bound, cut_empty l p (length p) os b.ops, keeps, b.body_ends, b.w, b.m, b.later, b.stand) in
      let ed : d ≡ configuration (Sequence b.body ∷ Turning b.i b.body b.source left1 b.kept ∷ b.q) (bound_values b.i x.0 b.kept ++ b.vars) b.ops =
      b.same ∙ ap (λ y. turned b.i b.body b.source y b.kept b.q b.vars b.ops) left in
      let at = is_at s l code p t.from t.end (piece.Turning (following_turn t) ∷ cs) (bound_slots b.i e last ++ vs) os (Turning b.i b.body b.source left1 b.kept ∷ b.q) (bound_values b.i x.0 b.kept ++ b.vars) b.ops (bound_count b.i) 0 b.body b.turn.same_body (1, b.body_ends, (refl, refl)) here in
      subst (λ j. IsAt s l code p t.from t.end (piece.Turning (following_turn t) ∷ cs) (bound_slots j e last ++ vs) os d) b.turn.same_instr
      (subst (IsAt s l code p t.from t.end (piece.Turning (following_turn t) ∷ cs) (bound_slots b.i e last ++ vs) os) (sym ed) at)

  -- the start value of FOLD is the topmost operand; of every other iteration no slot is asked
  abbrev pub StartIs : Instr → List Slot → Slot → Type 0
  StartIs i os start = (operands_above i ≡ 0) ⊎ ((left : List Slot) × (os ≡ start ∷ left))

  -- what an iteration keeps before its first turn, by that slot
  start_kept : (i : Instr) (os : List Slot) (start : Slot) (kept : List Value) → KeepsStart l p i os kept → StartIs i os start → KeepsLast l p i [] start kept
  start_kept (instrs.Fold w n) os start kept k (inl one) = cc
  start_kept (instrs.Fold w n) os start kept k (inr top) =
      let same : k.0 ≡ start = (let both : k.0 ∷ k.1 ≡ start ∷ top.0 = sym k.3 ∙ top.1 in cc) in
      (k.2, k.4, subst (λ y. SlotIs l p (length p) y k.2) same k.5, k.6)
  start_kept i os start kept k top = k

  -- the step of an iteration that was opened leads to before its first turn, or its end
  pub open_steps : (at end : ℕ) (t : Turn) (start : Slot) (cs : List Pending) (vs os : List Slot) (c : Configuration) → at ≡ end → StartIs t.instr os start → IsAt s l code p at end (piece.Opened t ∷ cs) vs os c
      → (d : Configuration) × (step s c ≡ Some d) × Between s l code p t start cs vs (drop (operands_above t.instr) os) d
  open_steps at end t start cs vs os c e top h =
      let f = past s l code p at end (piece.Opened t ∷ cs) vs os c e h in
      by_pieces f.0 f.1 f.2 f.3 f.4 f.5 f.6 f.7
    where
      by_pieces : (ps : List Piece) (vars ops : List Value) (v n : ℕ) → c ≡ configuration ps vars ops → LeavesOne s ps v n → TopStandsFor s l code p v n (piece.Opened t ∷ cs) vs os ps vars ops → (d : Configuration) × (step s c ≡ Some d) × Between s l code p t start cs vs (drop (operands_above t.instr) os) d
      by_pieces (Opened i body source kept ∷ q) vars ops v n same ends h = (
        turned i body source source.elements kept q vars ops,
        ap (step s) same,
        record {
          i = i;
          body = body;
          source = source;
          left = source.elements;
          bodies = [];
          kept = kept;
          q = q;
          vars = vars;
          ops = ops;
          w = v;
          m = n;
          same = refl;
          keeps = start_kept i os start kept h.1 (subst (λ j. StartIs j os start) (sym h.2.same_instr) top);
          turn = h.2;
          body_ends = h.5;
          later = ends.1;
          stand = subst (λ k. StandsFor s l code p k v n cs vs (drop (operands_above t.instr) os) q vars ops) (sym h.0) (subst (λ j. StandsFor s l code p (length p) v n cs vs (drop (operands_above j) os) q vars ops) h.2.same_instr h.3);
          turns = sym h.4;
        },
      )
      by_pieces ps vars ops v n same ends h = absurd h

  -- an iteration that was opened with its start value finds it on the operands
  pub start_there : (at end : ℕ) (t : Turn) (cs : List Pending) (vs os : List Slot) (c : Configuration) → at ≡ end → IsAt s l code p at end (piece.Opened t ∷ cs) vs os c → (operands_above t.instr ≡ 0 → ⊥) → os ≡ [] → ⊥
  start_there at end t cs vs os c e h above none =
      let f = past s l code p at end (piece.Opened t ∷ cs) vs os c e h in
      by_pieces f.0 f.1 f.2 f.3 f.4 f.7
    where
      by_instr : (i : Instr) (kept : List Value) → i ≡ t.instr → KeepsStart l p i os kept → ⊥
      by_instr (instrs.Fold w n) kept is k = let bad : k.0 ∷ k.1 ≡ [] = sym k.3 ∙ none in cc
      by_instr i kept is k = above (sym (ap operands_above is))

      by_pieces : (ps : List Piece) (vars ops : List Value) (v n : ℕ) → TopStandsFor s l code p v n (piece.Opened t ∷ cs) vs os ps vars ops → ⊥
      by_pieces (Opened i body source kept ∷ q) vars ops v n h = by_instr i kept h.2.same_instr h.1
      by_pieces ps vars ops v n h = absurd h

  -- a turn's end: what its body gave, and what stands below
  pub record Leaving (t : Turn) (cs : List Pending) (vs : List Slot) (y : Slot) (os : List Slot) (c : Configuration) : Type 0 where
    pub i : Instr
    pub body : CodeTree
    pub source : Source
    pub left : List Element
    pub bodies : List Value
    pub kept : List Value
    pub q : List Piece
    pub vars : List Value
    pub value : Value
    pub ops : List Value
    pub w : ℕ
    pub m : ℕ
    pub vars_before : List Value
    pub before : c ≡ configuration (Turning i body source left kept ∷ q) vars_before (value ∷ ops)
    pub made : step s c ≡ Some (turned i body source left (keeping i kept value) q vars ops)
    pub keeps : Keeps i bodies kept
    pub operand : SlotIs l p (length p) y value
    pub what : is_what s.population (ends_with (judged_by s) t.instr) value ≡ true
    pub turn : TurnIs s l code p (length p) t i body source left bodies
    pub body_ends : Balanced s body 0 1
    pub later : LeavesOne s q w (suc m)
    pub stand : StandsFor s l code p t.opened w m cs vs os q vars ops
    pub turns : length bodies + 1 ≡ t.next

  -- the step of an iteration in a turn takes the value of its body
  pub leaves : (at end : ℕ) (t : Turn) (cs : List Pending) (vs : List Slot) (y : Slot) (os : List Slot) (c : Configuration) → at ≡ end → IsAt s l code p at end (piece.Turning t ∷ cs) vs (y ∷ os) c → HasNext (step s c) → Leaving t cs (drop (bound_count t.instr) vs) y os c
  leaves at end t cs vs y os c e h g =
      let f = past s l code p at end (piece.Turning t ∷ cs) vs (y ∷ os) c e h in
      by_pieces f.0 f.1 f.2 f.3 f.4 f.5 f.6 f.7 (subst HasNext (ap (step s) f.5) g)
    where
      both : (a b : Bool) (d : Configuration) → HasNext (if a && b then Some d else None) → b ≡ true
      both true true d g = refl
      both true false d g = absurd g
      both false b d g = absurd g

      by_pieces : (ps : List Piece) (vars ops : List Value) (v n : ℕ) → c ≡ configuration ps vars ops → LeavesOne s ps v n → TopStandsFor s l code p v n (piece.Turning t ∷ cs) vs (y ∷ os) ps vars ops → HasNext (step s (configuration ps vars ops)) → Leaving t cs (drop (bound_count t.instr) vs) y os c
      by_pieces (Turning i body source left kept ∷ q) vars [] v n same ends h g =
          absurd (omega (arith, ends.1, ops_there s l code p (length p) v n (piece.Turning t ∷ cs) vs (y ∷ os) (Turning i body source left kept ∷ q) vars [] h))
      by_pieces (Turning i body source left kept ∷ q) vars (z ∷ ops) v n same ends h g =
          let count = bound_count i in
          let b = cut_pop l p (length p) n 0 (omega (arith, ends.1)) y os z ops h.1 in
          let an = cut_dropped l p (length p) v vs vars h.0 in
          let bn = cut_none l p (length p) os ops b.1 in
          let d = turned i body source left (keeping i kept z) q (drop count vars) ops in
          let there : nat_le count (length vars) ≡ true = le-leb count (length vars) (omega (arith, ends.0, an.2)) in
          let what : is_what s.population (ends_with (judged_by s) i) z ≡ true = both (nat_le count (length vars)) (is_what s.population (ends_with (judged_by s) i) z) d g in
          let slots : h.0.below ≡ drop (bound_count t.instr) vs = sym an.0 ∙ ap (λ k. drop k vs) (ends.0 ∙ ap bound_count h.2.turn.same_instr) in
          let values : h.0.below_values ≡ drop count vars = sym an.1 ∙ ap (λ k. drop k vars) ends.0 in
          record {
            i = i;
            body = body;
            source = source;
            left = left;
            bodies = h.2.bodies;
            kept = kept;
            q = q;
            vars = drop count vars;
            value = z;
            ops = ops;
            w = h.4;
            m = h.5;
            vars_before = vars;
            before = same;
            made = ap (step s) same ∙ ap (λ b. if b then Some d else None) (and_from _ _ there what);
            keeps = h.2.keeps;
            operand = b.0;
            what = subst (λ j. is_what s.population (ends_with (judged_by s) j) z ≡ true) h.2.turn.same_instr what;
            turn = h.2.turn;
            body_ends = h.3;
            later = h.6;
            stand = subst (λ k. StandsFor s l code p t.opened h.4 h.5 cs k os q (drop count vars) ops) slots (
                subst (λ k. StandsFor s l code p t.opened h.4 h.5 cs h.0.below k q (drop count vars) ops) (sym b.2 ∙ bn.0) (
                subst (λ k. StandsFor s l code p t.opened h.4 h.5 cs h.0.below h.1.below q k ops) values (subst (λ k. StandsFor s l code p t.opened h.4 h.5 cs h.0.below h.1.below q h.0.below_values k) (sym b.3 ∙ bn.1) h.7)));
            turns = h.2.turns;
          }
      by_pieces ps vars ops v n same ends h g = absurd h

-- what an iteration keeps after a turn, by what it kept in the turn and by the slot of what its body gave
kept_after : (s : Setting) (l : Lists) (p p2 : List Slot) (hi : ℕ) (i : Instr) (y : Slot) (bodies kept : List Value) (v : Value) → Keeps i bodies kept → SlotIs l p hi y v → is_what s.population (ends_with (judged_by s) i) v ≡ true → KeepsLast l p2 i (bodies ++ v ∷ []) y (keeping i kept v)
kept_after s l p p2 hi (instrs.Fold w n) y bodies kept v k h what =
    let none = no_collection s.population (scalar_meant (judged_by s) w) v what in
    (v, refl, anywhere l p p2 hi (length p2) y v none h, none)
kept_after s l p p2 hi (instrs.Let n) y bodies kept v k h what = ap (λ bs. bs ++ v ∷ []) k
kept_after s l p p2 hi i y bodies kept v k h what = ap (λ bs. bs ++ v ∷ []) k

all_more : (P : Value → Type 0) (bs : List Value) (b : Value) → AllByRecursion P bs → P b → AllByRecursion P (bs ++ b ∷ [])
all_more P [] b a h = (h, tt)
all_more P (d ∷ bs) b a h = (a.0, all_more P bs b a.1 h)

-- the mark of an iteration that keeps n elements more
abbrev pub turn_keeping : Turn → ℕ → ℕ → ℕ → ℕ → Turn
turn_keeping t n a b c = record t { kept = t.kept + n; trues = a; falses = b; invalids = c }

module _ (s : Setting) (l : Lists) (code : List Instr) (p p2 : List Slot) where
  -- with what its body gave, and the pool cut back to what it keeps with more, an iteration stands between two turns
  pub left_behind : (t : Turn) (cs : List Pending) (vs : List Slot) (y : Slot) (os : List Slot) (c : Configuration) (more : List Slot) (es : List Element) (a b k : ℕ)
      → (h : Leaving s l code p t cs vs y os c) → p2 ≡ take (t.opened + t.kept) p ++ more → ElementsAre l more es
      → kept_elements t.instr h.source.elements (h.bodies ++ h.value ∷ []) ≡ kept_elements t.instr h.source.elements h.bodies ++ es
      → (gives_truths t.instr ≡ true → a ≡ count_passing is_true (h.bodies ++ h.value ∷ [])) → (gives_truths t.instr ≡ true → b ≡ count_passing is_false (h.bodies ++ h.value ∷ [])) → k ≡ count_passing is_invalid (h.bodies ++ h.value ∷ [])
      → (d : Configuration) × (step s c ≡ Some d) × Between s l code p2 (turn_keeping t (length more) a b k) y cs vs os d
  left_behind t cs vs y os c more es a b k h pe are kept ea eb ek =
      let lo : t.opened ≤ t.opened + t.kept = omega arith in
      let same : take t.opened p ≡ take t.opened p2 = is_replaced p more t.opened (t.opened + t.kept) lo h.turn.above ∙ ap (take t.opened) (sym pe) in
      let len : length p2 ≡ t.opened + t.kept + length more = ap length pe ∙ omega (arith, length-append (take (t.opened + t.kept) p) more, length-take-le (t.opened + t.kept) p h.turn.above) in
      let range : slice_range p2 t.opened (t.opened + (t.kept + length more)) ≡ slice_range p t.opened (t.opened + t.kept) ++ more =
      ap (λ x. slice_range x t.opened (t.opened + (t.kept + length more))) pe ∙ kept_more p more t.opened t.kept h.turn.above in
      let keeps : ElementsAre l (slice_range p2 t.opened (t.opened + (t.kept + length more))) (kept_elements t.instr h.source.elements (h.bodies ++ h.value ∷ [])) =
      rw (range, kept) (elements_join l (slice_range p t.opened (t.opened + t.kept)) more (kept_elements t.instr h.source.elements h.bodies) es h.turn.keeps are) in
      let low : t.opened ≤ t.opened = omega arith in
      let turn : TurnIs s l code p2 (length p2) (turn_keeping t (length more) a b k) h.i h.body h.source h.left (h.bodies ++ h.value ∷ []) =
      record {
        same_instr = h.turn.same_instr;
        same_body = h.turn.same_body;
        part = part_same l p p2 t.opened t.opened low same t.source h.source.elements h.turn.part;
        rest = h.turn.rest;
        above = omega (arith, len);
        keeps = keeps;
        trues = ea;
        falses = eb;
        invalids = ek;
        fitting = all_more (λ b. is_what s.population (ends_with (judged_by s) t.instr) b ≡ true) h.bodies h.value h.turn.fitting h.what;
      } in (
        turned h.i h.body h.source h.left (keeping h.i h.kept h.value) h.q h.vars h.ops,
        h.made,
        record {
          i = h.i;
          body = h.body;
          source = h.source;
          left = h.left;
          bodies = h.bodies ++ h.value ∷ [];
          kept = keeping h.i h.kept h.value;
          q = h.q;
          vars = h.vars;
          ops = h.ops;
          w = h.w;
          m = h.m;
          same = refl;
          keeps = kept_after s l p p2 (length p) h.i y h.bodies h.kept h.value h.keeps h.operand (subst (λ j. is_what s.population (ends_with (judged_by s) j) h.value ≡ true) (sym h.turn.same_instr) h.what);
          turn = turn;
          body_ends = h.body_ends;
          later = h.later;
          stand = stand_same s l code p p2 t.opened t.opened h.w h.m cs vs os h.q h.vars h.ops low same h.stand;
          turns = omega (arith, length-append h.bodies (h.value ∷ []), h.turns);
        },
      )

  -- with no element left an iteration ends, and its result is an operand
  pub turns_end : (at end : ℕ) (t : Turn) (last : Slot) (cs : List Pending) (vs os : List Slot) (r : Slot) (d : Configuration)
      → at ≡ end → (h : Between s l code p t last cs vs os d) → t.next ≡ t.source.count → take t.opened p ≡ take t.opened p2 → t.opened ≤ length p2 → SlotIs l p2 (length p2) r (ending h.i h.source h.kept)
      → IsAt s l code p2 at end cs vs (r ∷ os) d
  turns_end at end t last cs vs os r d e h all same le result =
      let many : length h.source.elements ≡ t.source.count = as_many l p t.opened t.source h.source.elements (omega (arith, h.turn.above)) h.turn.part in
      let none : h.left ≡ [] = h.turn.rest ∙ none_left h.source.elements t.next (omega (arith, all, many)) in
      let ed : d ≡ configuration h.q h.vars (ending h.i h.source h.kept ∷ h.ops) = h.same ∙ ap (λ x. turned h.i h.body h.source x h.kept h.q h.vars h.ops) none in
      let moved = stand_same s l code p p2 t.opened (length p2) h.w h.m cs vs os h.q h.vars h.ops le same h.stand in
      let pushed = ops_push s l code p2 (length p2) h.w h.m cs vs r os h.q h.vars (ending h.i h.source h.kept) h.ops result moved in
      subst (IsAt s l code p2 at end cs vs (r ∷ os)) (sym ed)
      (is_past s l code p2 at end cs vs (r ∷ os) h.q h.vars (ending h.i h.source h.kept ∷ h.ops) h.w (suc h.m) e h.later (top_of s l code p2 h.w (suc h.m) cs vs (r ∷ os) h.q h.vars (ending h.i h.source h.kept ∷ h.ops) pushed))
