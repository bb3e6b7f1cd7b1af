-- The variables and the operands of an instruction without a body, and its result.
use Rattle.std.proofs.Common.{◌≡◌, ◌⊎◌, ⊎_elim, ℕ, ◌<◌, ◌≤◌, Bool, true, false, ◌&&◌, List, [], ◌∷◌, length, drop, Option, Some, None, refl, sym, ◌∙◌, subst, arith}
use Rattle.std.specs.Prelude.{◌==◌, slice_get, option_and_then, IsSome, if◌then◌else◌}
use Rattle.std.specs.Option.{option_map}
use Rattle.std.proofs.lemmas.Bool.{and_parts}
use Rattle.std.proofs.lemmas.Option.{same_Some}
use Rattle.imkl_population.specs.Population.{Population}
use Rattle.rule_code.specs.declared.instruction.Instr.{Instr}
use Rattle.rule_code.specs.declared.instruction.Instr.TheVariants as instrs
use Rattle.rule_verify.specs.declared.pattern.Pattern.{Pattern}
use Rattle.ocl_base.specs.Lists.{variable_at}
use Rattle.rule_verify.specs.InstrKinds.{Surroundings, has_names, operands_of}
use Rattle.rule_values.specs.Value.{Value}
use Rattle.rule_slots.specs.declared.slot.Slot.{Slot}
use Rattle.rule_slots.specs.Slots.{Lists, SlotIs, SlotsAre}
use Rattle.rule_slots.specs.Operands.{MadeInPool}
use Rattle.rule_slots.proofs.ForAbove.{slots_long}
use Rattle.rule_machine.specs.Machine.{Setting, judged_by, is_what, are_what, result_of, performed}
use Rattle.rule_machine.specs.StandFor.{GivesSlot, CanPerform}
use Rattle.rule_machine.specs.Applied.{TakesOne, TakesTwo, CanTakeOne, CanTakeTwo, GivesOfOne, GivesOfTwo}

-- ---- what can be carried out

-- its names are there, its operands are right, and it gives something
pub record Parts (s : Setting) (vars : List Value) (i : Instr) (os : List Value) : Type 0 where
  pub names : has_names (judged_by s) i ≡ true
  pub right : are_what s.population (operands_of (judged_by s) i) os ≡ true
  pub gives : IsSome (result_of s vars i os)

parts_by : (a b : Bool) (left : List Value) (r : Option Value) → IsSome (option_and_then (λ l. option_map (λ v. v ∷ l) r) (if a && b then Some left else None)) → (a ≡ true) × (b ≡ true) × IsSome r
parts_by true true left (Some v) h = (refl, refl, refl)
parts_by a b left r h = cc

pub parts_of : (s : Setting) (vars : List Value) (i : Instr) (os : List Value) → IsSome (performed s vars i os) → Parts s vars i os
parts_of s vars i os h =
    let all = parts_by (has_names (judged_by s) i) (are_what s.population (operands_of (judged_by s) i) os) (drop (length (operands_of (judged_by s) i)) os) (result_of s vars i os) h in
    record { names = all.0; right = all.1; gives = all.2 }

-- ---- operands

-- what is taken is there
enough : (p : Population) (ws : List Pattern) (os : List Value) → are_what p ws os ≡ true → length ws ≤ length os
enough p [] os h = omega arith
enough p (w ∷ ws) [] h = cc
enough p (w ∷ ws) (o ∷ os) h = omega (arith, enough p ws os (and_parts (is_what p w o) (are_what p ws os) h).1)

-- the operands of an instruction that can be carried out are there
pub operands_there : (s : Setting) (l : Lists) (p vs os : List Slot) (i : Instr) → CanPerform s l p vs os i → length (operands_of (judged_by s) i) ≤ length os
operands_there s l p vs os i h =
    let parts = parts_of s h.0 i h.1 h.4 in
    omega (arith, enough s.population (operands_of (judged_by s) i) h.1 parts.right, slots_long l p (length p) os h.1 h.3)

-- a list of two items at least, from its first and its second
pub two_are : {A : Type 0} (xs : List A) (x y : A) (rest : List A) → xs ≡ x ∷ rest → slice_get xs 1 ≡ Some y → (below : List A) × (xs ≡ x ∷ y ∷ below)
two_are [] x y rest e h = cc
two_are (a ∷ []) x y rest e h = cc
two_are (a ∷ b ∷ below) x y rest e h = (below, cc)

-- and one of three
pub three_are : {A : Type 0} (xs : List A) (x y z : A) (rest : List A) → xs ≡ x ∷ rest → slice_get xs 1 ≡ Some y → slice_get xs 2 ≡ Some z → (below : List A) × (xs ≡ x ∷ y ∷ z ∷ below)
three_are [] x y z rest e h k = cc
three_are (a ∷ []) x y z rest e h k = cc
three_are (a ∷ b ∷ []) x y z rest e h k = cc
three_are (a ∷ b ∷ c ∷ below) x y z rest e h k = (below, cc)

-- and what works on two takes two
two_taken : (s : Surroundings) (i : Instr) → TakesTwo i → length (operands_of s i) ≡ 2
two_taken s instrs.Add t = refl
two_taken s instrs.Sub t = refl
two_taken s instrs.Mul t = refl
two_taken s instrs.Div t = refl
two_taken s instrs.Mod t = refl
two_taken s instrs.Min t = refl
two_taken s instrs.Max t = refl
two_taken s instrs.Lt t = refl
two_taken s instrs.Le t = refl
two_taken s instrs.Gt t = refl
two_taken s instrs.Ge t = refl
two_taken s instrs.And t = refl
two_taken s instrs.Or t = refl
two_taken s instrs.Xor t = refl
two_taken s instrs.Implies t = refl
two_taken s (instrs.Eq k) t = refl
two_taken s instrs.Eqx t = refl
two_taken s (instrs.Includes k) t = refl
two_taken s (instrs.Count k) t = refl
two_taken s (instrs.IncAll k) t = refl
two_taken s (instrs.ExcAll k) t = refl
two_taken s i t = absurd t

-- two operands are there where two are taken, and not one
pub two_there : (s : Setting) (l : Lists) (p vs os : List Slot) (i : Instr) → (TakesOne i → ⊥) → TakesOne i ⊎ TakesTwo i → CanPerform s l p vs os i → 1 < length os
two_there s l p vs os i other t h =
    let there = operands_there s l p vs os i h in
    ⊎_elim (λ o. absurd (other o)) (λ o. omega (arith, two_taken (judged_by s) i o, there)) t

-- ---- operands that stand in slots

-- the topmost operand is one that is taken
pub can_one : (s : Setting) (l : Lists) (p vs os : List Slot) (i : Instr) (x : Slot) (rest : List Slot) → os ≡ x ∷ rest → CanPerform s l p vs os i → CanTakeOne s l p i x
can_one s l p vs os i x rest e h =
    by_values h.1 (subst (λ z. SlotsAre l p (length p) z h.1) e h.3) (parts_of s h.0 i h.1 h.4).right
  where
    by_values : (ops : List Value) → SlotsAre l p (length p) (x ∷ rest) ops → are_what s.population (operands_of (judged_by s) i) ops ≡ true → CanTakeOne s l p i x
    by_values [] g a = absurd g
    by_values (v ∷ ops) g a = record { value = v; rest = ops; is = g.0; right = a }

-- and so are the two topmost
pub can_two : (s : Setting) (l : Lists) (p vs os : List Slot) (i : Instr) (x y : Slot) (rest : List Slot) → os ≡ y ∷ x ∷ rest → CanPerform s l p vs os i → CanTakeTwo s l p i x y
can_two s l p vs os i x y rest e h =
    by_values h.1 (subst (λ z. SlotsAre l p (length p) z h.1) e h.3) (parts_of s h.0 i h.1 h.4).right
  where
    by_values : (ops : List Value) → SlotsAre l p (length p) (y ∷ x ∷ rest) ops → are_what s.population (operands_of (judged_by s) i) ops ≡ true → CanTakeTwo s l p i x y
    by_values [] g a = absurd g
    by_values (w ∷ []) g a = absurd g.1
    by_values (w ∷ v ∷ ops) g a = record { value = v; other = w; rest = ops; is = g.1.0; other_is = g.0; right = a }

-- ---- results

-- what is given of the topmost operand
pub of_one : (s : Setting) (l : Lists) (p vs os : List Slot) (i : Instr) (x o : Slot) (rest : List Slot) → os ≡ x ∷ rest → GivesOfOne s l p i x o → GivesSlot s l p p vs os i o
of_one s l p vs os i x o rest e g vars ops hv ho r er a = by_values ops (subst (λ z. SlotsAre l p (length p) z ops) e ho) er a
  where
    by_values : (zs : List Value) → SlotsAre l p (length p) (x ∷ rest) zs → result_of s vars i zs ≡ Some r → are_what s.population (operands_of (judged_by s) i) zs ≡ true → SlotIs l p (length p) o r
    by_values [] h f b = absurd h
    by_values (v ∷ zs) h f b = g vars v zs h.0 b r f

-- of the two topmost
pub of_two : (s : Setting) (l : Lists) (p vs os : List Slot) (i : Instr) (x y o : Slot) (rest : List Slot) → os ≡ y ∷ x ∷ rest → GivesOfTwo s l p i x y o → GivesSlot s l p p vs os i o
of_two s l p vs os i x y o rest e g vars ops hv ho r er a = by_values ops (subst (λ z. SlotsAre l p (length p) z ops) e ho) er a
  where
    by_values : (zs : List Value) → SlotsAre l p (length p) (y ∷ x ∷ rest) zs → result_of s vars i zs ≡ Some r → are_what s.population (operands_of (judged_by s) i) zs ≡ true → SlotIs l p (length p) o r
    by_values [] h f b = absurd h
    by_values (w ∷ []) h f b = absurd h.1
    by_values (w ∷ v ∷ zs) h f b = g vars v w zs h.1.0 h.0 b r f

-- of the three topmost
pub of_three : (s : Setting) (l : Lists) (p vs os : List Slot) (i : Instr) (x y z o : Slot) (rest : List Slot) → os ≡ z ∷ y ∷ x ∷ rest
    → ((vars : List Value) (v w u : Value) (more : List Value) → SlotIs l p (length p) x v → SlotIs l p (length p) y w → SlotIs l p (length p) z u → are_what s.population (operands_of (judged_by s) i) (u ∷ w ∷ v ∷ more) ≡ true → (r : Value) → result_of s vars i (u ∷ w ∷ v ∷ more) ≡ Some r → SlotIs l p (length p) o r)
    → GivesSlot s l p p vs os i o
of_three s l p vs os i x y z o rest e g vars ops hv ho r er a = by_values ops (subst (λ q. SlotsAre l p (length p) q ops) e ho) er a
  where
    by_values : (zs : List Value) → SlotsAre l p (length p) (z ∷ y ∷ x ∷ rest) zs → result_of s vars i zs ≡ Some r → are_what s.population (operands_of (judged_by s) i) zs ≡ true → SlotIs l p (length p) o r
    by_values [] h f b = absurd h
    by_values (u ∷ []) h f b = absurd h.1
    by_values (u ∷ w ∷ []) h f b = absurd h.1.1
    by_values (u ∷ w ∷ v ∷ zs) h f b = g vars v w u zs h.1.1.0 h.1.0 h.0 b r f

-- what is made in the pool of the topmost operand
pub of_one_made : (s : Setting) (l : Lists) (p q vs os : List Slot) (i : Instr) (test : Value → Bool) (f : Value → Value) (x o : Slot) (rest : List Slot) → os ≡ x ∷ rest → ((vars : List Value) (v : Value) (more : List Value) → result_of s vars i (v ∷ more) ≡ Some (f v)) → ((v : Value) (more : List Value) → are_what s.population (operands_of (judged_by s) i) (v ∷ more) ≡ true → test v ≡ true)
    → MadeInPool l p q test f x o → GivesSlot s l p q vs os i o
of_one_made s l p q vs os i test f x o rest e same tests made vars ops hv ho r er a = by_values ops (subst (λ z. SlotsAre l p (length p) z ops) e ho) er a
  where
    by_values : (zs : List Value) → SlotsAre l p (length p) (x ∷ rest) zs → result_of s vars i zs ≡ Some r → are_what s.population (operands_of (judged_by s) i) zs ≡ true → SlotIs l q (length q) o r
    by_values [] h g b = absurd h
    by_values (v ∷ zs) h g b = subst (SlotIs l q (length q) o) (same_Some (f v) r (sym (same vars v zs) ∙ g)) (made v h.0 (tests v zs b))

-- what goes by no operand
pub of_none : (s : Setting) (l : Lists) (p vs os : List Slot) (i : Instr) (o : Slot) (v : Value) → ((vars ops : List Value) → result_of s vars i ops ≡ Some v) → SlotIs l p (length p) o v → GivesSlot s l p p vs os i o
of_none s l p vs os i o v same h vars ops hv ho r e a = subst (SlotIs l p (length p) o) (same_Some v r (sym (same vars ops) ∙ e)) h

-- ---- variables

-- the slot of a variable stands for the variable
variable_is : (l : Lists) (p : List Slot) (hi : ℕ) (ss : List Slot) (vs : List Value) (n : ℕ) (s : Slot) (v : Value) → SlotsAre l p hi ss vs → variable_at ss n ≡ Some s → variable_at vs n ≡ Some v → SlotIs l p hi s v
variable_is l p hi [] vs n s v h e f = cc
variable_is l p hi (t ∷ ss) [] n s v h e f = absurd h
variable_is l p hi (t ∷ ss) (w ∷ vs) n s v h e f = by_test (n == length ss) (variable_is l p hi ss vs n s v h.1) e (rw (slots_long l p hi ss vs h.1) f)
  where
    by_test : (b : Bool) → (variable_at ss n ≡ Some s → variable_at vs n ≡ Some v → SlotIs l p hi s v) → (if b then Some t else variable_at ss n) ≡ Some s → (if b then Some w else variable_at vs n) ≡ Some v → SlotIs l p hi s v
    by_test true go e f = let q : t ≡ s = cc in let r : w ≡ v = cc in subst (λ x. SlotIs l p hi x v) q (subst (SlotIs l p hi t) r h.0)
    by_test false go e f = go e f

-- and is there where it is
variable_found : (l : Lists) (p : List Slot) (hi : ℕ) (ss : List Slot) (vs : List Value) (n : ℕ) → SlotsAre l p hi ss vs → IsSome (variable_at vs n) → IsSome (variable_at ss n)
variable_found l p hi [] [] n h e = e
variable_found l p hi [] (v ∷ vs) n h e = absurd h
variable_found l p hi (t ∷ ss) [] n h e = absurd h
variable_found l p hi (t ∷ ss) (w ∷ vs) n h e = by_test (n == length ss) (variable_found l p hi ss vs n h.1) (rw (slots_long l p hi ss vs h.1) e)
  where
    by_test : (b : Bool) → (IsSome (variable_at vs n) → IsSome (variable_at ss n)) → IsSome (if b then Some w else variable_at vs n) → IsSome (if b then Some t else variable_at ss n)
    by_test true go f = refl
    by_test false go f = go f

-- a variable
pub of_variable : (s : Setting) (l : Lists) (p vs os : List Slot) (i : Instr) (n : ℕ) (o : Slot) → ((vars ops : List Value) → result_of s vars i ops ≡ variable_at vars n) → variable_at vs n ≡ Some o → GivesSlot s l p p vs os i o
of_variable s l p vs os i n o same e vars ops hv ho r f a = variable_is l p (length p) vs vars n o r hv e (sym (same vars ops) ∙ f)

-- a variable that is read is there
pub variable_there : (s : Setting) (l : Lists) (p vs os : List Slot) (i : Instr) (n : ℕ) → ((vars ops : List Value) → result_of s vars i ops ≡ variable_at vars n) → CanPerform s l p vs os i → IsSome (variable_at vs n)
variable_there s l p vs os i n same h =
    variable_found l p (length p) vs h.0 n h.2 (subst IsSome (same h.0 h.1) (parts_of s h.0 i h.1 h.4).gives)

-- ---- names
