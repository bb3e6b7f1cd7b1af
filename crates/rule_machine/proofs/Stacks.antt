-- The topmost variable and the topmost operands of the innermost segment.
use Rattle.std.proofs.Common.{◌≡◌, ℕ, zero, suc, ◌+◌, ◌≤◌, List, [], ◌∷◌, ◌++◌, length, drop, refl, sym, ap, ◌∙◌, subst, arith, length-append}
use Rattle.std.proofs.lemmas.List.{drop_at}
use Rattle.rule_code.specs.declared.instruction.Instr.{Instr}
use Rattle.rule_values.specs.Value.{Value}
use Rattle.rule_machine.specs.Machine.{Setting, Piece, Sequence, LetEnd, Turning, Skipped}
use Rattle.rule_slots.specs.declared.slot.Slot.{Slot}
use Rattle.rule_machine.specs.declared.piece.Piece.{Piece as Pending}
use Rattle.rule_machine.specs.declared.piece.Piece.TheVariants as piece
use Rattle.rule_slots.specs.Slots.{Lists, SlotIs, SlotsAre}
use Rattle.rule_machine.specs.StandFor.{Cut, StandsFor}
use Rattle.rule_slots.proofs.ForAbove.{slots_same, slots_long}

-- ---- cuts

module _ (l : Lists) (p : List Slot) (hi : ℕ) where
  -- one is popped from a cut, and what lies below stays
  abbrev pub Popped : ℕ → Slot → List Slot → Value → List Value → List Slot → List Value → Type 0
  Popped n s ss v vs below below_values =
      SlotIs l p hi s v × (d : Cut l p hi n ss vs) × (d.below ≡ below) × (d.below_values ≡ below_values)

  -- the topmost of what is cut off
  pub cut_pop : (k n : ℕ) → k ≡ suc n → (s : Slot) (ss : List Slot) (v : Value) (vs : List Value) (c : Cut l p hi k (s ∷ ss) (v ∷ vs)) → Popped n s ss v vs c.below c.below_values
  cut_pop k n ek s ss v vs c = by_here c.here c.here_values c.slots c.values c.are c.long
    where
      by_here : (here : List Slot) (hv : List Value) → s ∷ ss ≡ here ++ c.below → v ∷ vs ≡ hv ++ c.below_values → SlotsAre l p hi here hv → length hv ≡ k → Popped n s ss v vs c.below c.below_values
      by_here [] [] e f h g = absurd (omega arith)
      by_here [] (x ∷ hv) e f h g = absurd h
      by_here (u ∷ here) [] e f h g = absurd h
      by_here (u ∷ here) (x ∷ hv) e f h q =
          let a : s ≡ u = cc in
          let b : ss ≡ here ++ c.below = cc in
          let d : v ≡ x = cc in
          let g : vs ≡ hv ++ c.below_values = cc in (
            subst (λ y. SlotIs l p hi y v) (sym a) (subst (SlotIs l p hi u) (sym d) h.0),
            record { here = here; below = c.below; here_values = hv; below_values = c.below_values; slots = b; values = g; are = h.1; long = omega (arith, q, ek) },
            refl,
            refl,
          )

  -- a cut of none is the whole stack
  pub cut_none : (ss : List Slot) (vs : List Value) (c : Cut l p hi 0 ss vs) → (c.below ≡ ss) × (c.below_values ≡ vs)
  cut_none ss vs c = by_here c.here c.here_values c.slots c.values c.are c.long
    where
      by_here : (here : List Slot) (hv : List Value) → ss ≡ here ++ c.below → vs ≡ hv ++ c.below_values → SlotsAre l p hi here hv → length hv ≡ 0 → (c.below ≡ ss) × (c.below_values ≡ vs)
      by_here [] [] e f h k = (sym e, sym f)
      by_here [] (x ∷ hv) e f h k = absurd h
      by_here (u ∷ here) [] e f h k = absurd h
      by_here (u ∷ here) (x ∷ hv) e f h k = absurd (omega arith)

  -- with its n items dropped, what lies below a cut is left
  pub cut_dropped : (n : ℕ) (ss : List Slot) (vs : List Value) (c : Cut l p hi n ss vs) → (drop n ss ≡ c.below) × (drop n vs ≡ c.below_values) × (n ≤ length vs)
  cut_dropped n ss vs c = (
    ap (drop n) c.slots ∙ drop_at c.here c.below n (slots_long l p hi c.here c.here_values c.are ∙ c.long),
    ap (drop n) c.values ∙ drop_at c.here_values c.below_values n c.long,
    omega (arith, ap length c.values, length-append c.here_values c.below_values, c.long),
  )

  -- one more on top of it
  abbrev pub cut_push : (n : ℕ) (s : Slot) (ss : List Slot) (v : Value) (vs : List Value) → SlotIs l p hi s v → Cut l p hi n ss vs → Cut l p hi (suc n) (s ∷ ss) (v ∷ vs)
  cut_push n s ss v vs h c =
      record { here = s ∷ c.here; below = c.below; here_values = v ∷ c.here_values; below_values = c.below_values; slots = ap (λ x. s ∷ x) c.slots; values = ap (λ x. v ∷ x) c.values; are = (h, c.are); long = ap suc c.long }

  -- none is cut off
  abbrev pub cut_empty : (ss : List Slot) (vs : List Value) → Cut l p hi 0 ss vs
  cut_empty ss vs = record { here = []; below = ss; here_values = []; below_values = vs; slots = refl; values = refl; are = tt; long = refl }

  slots_join : (ss ts : List Slot) (vs ws : List Value) → SlotsAre l p hi ss vs → SlotsAre l p hi ts ws → SlotsAre l p hi (ss ++ ts) (vs ++ ws)
  slots_join [] ts [] ws h k = k
  slots_join [] ts (v ∷ vs) ws h k = absurd h
  slots_join (s ∷ ss) ts [] ws h k = absurd h
  slots_join (s ∷ ss) ts (v ∷ vs) ws h k = (h.0, slots_join ss ts vs ws h.1 k)

  -- a cut's slots with what lies below
  pub cut_joined : (n : ℕ) (ss : List Slot) (vs : List Value) (c : Cut l p hi n ss vs) → SlotsAre l p hi c.below c.below_values → SlotsAre l p hi ss vs
  cut_joined n ss vs c h = rw (c.slots, c.values) (slots_join c.here c.below c.here_values c.below_values c.are h)

-- ---- stacks

module _ (s : Setting) (l : Lists) (code : List Instr) (p : List Slot) where
  -- the topmost operand is taken
  pub ops_pop : (hi v n : ℕ) (cs : List Pending) (vs : List Slot) (o : Slot) (os : List Slot) (ps : List Piece) (vars : List Value) (x : Value) (ops : List Value) → StandsFor s l code p hi v (suc n) cs vs (o ∷ os) ps vars (x ∷ ops) → SlotIs l p hi o x × StandsFor s l code p hi v n cs vs os ps vars ops
  ops_pop hi v n [] vs o os [] vars x ops h = (h.3.0, (h.0, omega (arith, h.1), h.2, h.3.1))
  ops_pop hi v n (piece.Rest a b ∷ cs) vs o os (Sequence t ∷ ps) vars x ops h =
      let r = ops_pop hi v n cs vs o os ps vars x ops h.1 in
      (r.0, (h.0, r.1))
  ops_pop hi v n (piece.LetEnd ∷ cs) vs o os (LetEnd ∷ ps) vars x ops h = ops_pop hi v n cs vs o os ps vars x ops h
  ops_pop hi v n (piece.Skipped ∷ cs) vs o os (Skipped ∷ ps) vars x ops h = ops_pop hi v n cs vs o os ps vars x ops h
  ops_pop hi v n (piece.Turning t ∷ cs) vs o os (Turning i body source left kept ∷ ps) vars x ops h =
      let c = cut_pop l p hi (suc n) n refl o os x ops h.1 in
      (c.0, (h.0, c.1, h.2, h.3, h.4, h.5, h.6, subst (λ y. StandsFor s l code p t.opened h.4 h.5 cs h.0.below y ps h.0.below_values c.1.below_values) (sym c.2) (subst (λ y. StandsFor s l code p t.opened h.4 h.5 cs h.0.below h.1.below ps h.0.below_values y) (sym c.3) h.7)))
  ops_pop hi v n cs vs o os ps vars x ops h = absurd h

  -- an operand is put on top
  pub ops_push : (hi v n : ℕ) (cs : List Pending) (vs : List Slot) (o : Slot) (os : List Slot) (ps : List Piece) (vars : List Value) (x : Value) (ops : List Value) → SlotIs l p hi o x → StandsFor s l code p hi v n cs vs os ps vars ops → StandsFor s l code p hi v (suc n) cs vs (o ∷ os) ps vars (x ∷ ops)
  ops_push hi v n [] vs o os [] vars x ops k h = (h.0, ap suc h.1, h.2, (k, h.3))
  ops_push hi v n (piece.Rest a b ∷ cs) vs o os (Sequence t ∷ ps) vars x ops k h = (h.0, ops_push hi v n cs vs o os ps vars x ops k h.1)
  ops_push hi v n (piece.LetEnd ∷ cs) vs o os (LetEnd ∷ ps) vars x ops k h = ops_push hi v n cs vs o os ps vars x ops k h
  ops_push hi v n (piece.Skipped ∷ cs) vs o os (Skipped ∷ ps) vars x ops k h = ops_push hi v n cs vs o os ps vars x ops k h
  ops_push hi v n (piece.Turning t ∷ cs) vs o os (Turning i body source left kept ∷ ps) vars x ops k h =
      (h.0, cut_push l p hi n o os x ops k h.1, h.2, h.3, h.4, h.5, h.6, h.7)
  ops_push hi v n cs vs o os ps vars x ops k h = absurd h

  -- a variable is bound
  pub vars_push : (hi v n : ℕ) (cs : List Pending) (o : Slot) (vs os : List Slot) (ps : List Piece) (x : Value) (vars ops : List Value) → SlotIs l p hi o x → StandsFor s l code p hi v n cs vs os ps vars ops → StandsFor s l code p hi (suc v) n cs (o ∷ vs) os ps (x ∷ vars) ops
  vars_push hi v n [] o vs os [] x vars ops k h = (ap suc h.0, h.1, (k, h.2), h.3)
  vars_push hi v n (piece.Rest a b ∷ cs) o vs os (Sequence t ∷ ps) x vars ops k h = (h.0, vars_push hi v n cs o vs os ps x vars ops k h.1)
  vars_push hi v n (piece.LetEnd ∷ cs) o vs os (LetEnd ∷ ps) x vars ops k h = vars_push hi v n cs o vs os ps x vars ops k h
  vars_push hi v n (piece.Skipped ∷ cs) o vs os (Skipped ∷ ps) x vars ops k h = vars_push hi v n cs o vs os ps x vars ops k h
  vars_push hi v n (piece.Turning t ∷ cs) o vs os (Turning i body source left kept ∷ ps) x vars ops k h =
      (cut_push l p hi v o vs x vars k h.0, h.1, h.2, h.3, h.4, h.5, h.6, h.7)
  vars_push hi v n cs o vs os ps x vars ops k h = absurd h

  -- the newest variable is dropped
  pub vars_pop : (hi v n : ℕ) (cs : List Pending) (o : Slot) (vs os : List Slot) (ps : List Piece) (x : Value) (vars ops : List Value) → StandsFor s l code p hi (suc v) n cs (o ∷ vs) os ps (x ∷ vars) ops → SlotIs l p hi o x × StandsFor s l code p hi v n cs vs os ps vars ops
  vars_pop hi v n [] o vs os [] x vars ops h = (h.2.0, (omega (arith, h.0), h.1, h.2.1, h.3))
  vars_pop hi v n (piece.Rest a b ∷ cs) o vs os (Sequence t ∷ ps) x vars ops h =
      let r = vars_pop hi v n cs o vs os ps x vars ops h.1 in
      (r.0, (h.0, r.1))
  vars_pop hi v n (piece.LetEnd ∷ cs) o vs os (LetEnd ∷ ps) x vars ops h = vars_pop hi v n cs o vs os ps x vars ops h
  vars_pop hi v n (piece.Skipped ∷ cs) o vs os (Skipped ∷ ps) x vars ops h = vars_pop hi v n cs o vs os ps x vars ops h
  vars_pop hi v n (piece.Turning t ∷ cs) o vs os (Turning i body source left kept ∷ ps) x vars ops h =
      let c = cut_pop l p hi (suc v) v refl o vs x vars h.0 in
      (c.0, (c.1, h.1, h.2, h.3, h.4, h.5, h.6, subst (λ y. StandsFor s l code p t.opened h.4 h.5 cs y h.1.below ps c.1.below_values h.1.below_values) (sym c.2) (subst (λ y. StandsFor s l code p t.opened h.4 h.5 cs h.0.below h.1.below ps y h.1.below_values) (sym c.3) h.7)))
  vars_pop hi v n cs o vs os ps x vars ops h = absurd h

  -- ---- all of both stacks

  -- every variable stands for its value, those below open iterations too
  pub all_vars : (hi v n : ℕ) (cs : List Pending) (vs os : List Slot) (ps : List Piece) (vars ops : List Value) → StandsFor s l code p hi v n cs vs os ps vars ops → SlotsAre l p hi vs vars
  all_vars hi v n [] vs os [] vars ops h = h.2
  all_vars hi v n (piece.Rest a b ∷ cs) vs os (Sequence t ∷ ps) vars ops h = all_vars hi v n cs vs os ps vars ops h.1
  all_vars hi v n (piece.LetEnd ∷ cs) vs os (LetEnd ∷ ps) vars ops h = all_vars hi v n cs vs os ps vars ops h
  all_vars hi v n (piece.Skipped ∷ cs) vs os (Skipped ∷ ps) vars ops h = all_vars hi v n cs vs os ps vars ops h
  all_vars hi v n (piece.Turning t ∷ cs) vs os (Turning i body source left kept ∷ ps) vars ops h =
      let below = all_vars t.opened h.4 h.5 cs h.0.below h.1.below ps h.0.below_values h.1.below_values h.7 in
      cut_joined l p hi v vs vars h.0 (slots_same l p p t.opened hi (omega (arith, h.2.turn.above)) refl h.0.below h.0.below_values below)
  all_vars hi v n cs vs os ps vars ops h = absurd h

  -- and every operand
  pub all_ops : (hi v n : ℕ) (cs : List Pending) (vs os : List Slot) (ps : List Piece) (vars ops : List Value) → StandsFor s l code p hi v n cs vs os ps vars ops → SlotsAre l p hi os ops
  all_ops hi v n [] vs os [] vars ops h = h.3
  all_ops hi v n (piece.Rest a b ∷ cs) vs os (Sequence t ∷ ps) vars ops h = all_ops hi v n cs vs os ps vars ops h.1
  all_ops hi v n (piece.LetEnd ∷ cs) vs os (LetEnd ∷ ps) vars ops h = all_ops hi v n cs vs os ps vars ops h
  all_ops hi v n (piece.Skipped ∷ cs) vs os (Skipped ∷ ps) vars ops h = all_ops hi v n cs vs os ps vars ops h
  all_ops hi v n (piece.Turning t ∷ cs) vs os (Turning i body source left kept ∷ ps) vars ops h =
      let below = all_ops t.opened h.4 h.5 cs h.0.below h.1.below ps h.0.below_values h.1.below_values h.7 in
      cut_joined l p hi n os ops h.1 (slots_same l p p t.opened hi (omega (arith, h.2.turn.above)) refl h.1.below h.1.below_values below)
  all_ops hi v n cs vs os ps vars ops h = absurd h

  -- as many operands as the innermost segment has are there
  pub ops_there : (hi v n : ℕ) (cs : List Pending) (vs os : List Slot) (ps : List Piece) (vars ops : List Value) → StandsFor s l code p hi v n cs vs os ps vars ops → n ≤ length ops
  ops_there hi v n [] vs os [] vars ops h = omega (arith, h.1)
  ops_there hi v n (piece.Rest a b ∷ cs) vs os (Sequence t ∷ ps) vars ops h = ops_there hi v n cs vs os ps vars ops h.1
  ops_there hi v n (piece.LetEnd ∷ cs) vs os (LetEnd ∷ ps) vars ops h = ops_there hi v n cs vs os ps vars ops h
  ops_there hi v n (piece.Skipped ∷ cs) vs os (Skipped ∷ ps) vars ops h = ops_there hi v n cs vs os ps vars ops h
  ops_there hi v n (piece.Turning t ∷ cs) vs os (Turning i body source left kept ∷ ps) vars ops h =
      omega (arith, ap length h.1.values, length-append h.1.here_values h.1.below_values, h.1.long)
  ops_there hi v n cs vs os ps vars ops h = absurd h

  -- so many are dropped from the innermost segment
  pub ops_drop : (hi v k n : ℕ) (cs : List Pending) (vs os : List Slot) (ps : List Piece) (vars ops : List Value) → StandsFor s l code p hi v (k + n) cs vs os ps vars ops → StandsFor s l code p hi v n cs vs (drop k os) ps vars (drop k ops)
  ops_drop hi v zero n cs vs os ps vars ops h = let e : 0 + n ≡ n = omega arith in subst (λ m. StandsFor s l code p hi v m cs vs os ps vars ops) e h
  ops_drop hi v (suc k) n cs vs [] ps vars ops h =
      absurd (omega (arith, ops_there hi v (suc k + n) cs vs [] ps vars ops h, slots_long l p hi [] ops (all_ops hi v (suc k + n) cs vs [] ps vars ops h)))
  ops_drop hi v (suc k) n cs vs (o ∷ os) ps vars [] h = absurd (all_ops hi v (suc k + n) cs vs (o ∷ os) ps vars [] h)
  ops_drop hi v (suc k) n cs vs (o ∷ os) ps vars (x ∷ ops) h =
      let e : suc k + n ≡ suc (k + n) = omega arith in
      ops_drop hi v k n cs vs os ps vars ops (ops_pop hi v (k + n) cs vs o os ps vars x ops (subst (λ m. StandsFor s l code p hi v m cs vs (o ∷ os) ps vars (x ∷ ops)) e h)).1
