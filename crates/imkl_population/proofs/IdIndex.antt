-- How ids are found once one more has a number.
use Rattle.std.proofs.Common.{◌≡◌, ℕ, zero, suc, ◌+◌, ◌-◌, ◌*◌, ◌/◌, ◌%◌, ◌==◌, ◌&&◌, ◌<◌, ◌≤◌, Bool, true, false, cond, List, [], ◌∷◌, ◌++◌, length, get_or, replicate, Option, Some, None, refl, sym, ap, ap₂, subst, ◌∙◌, bytes_eq, arith, slice_index_or, if◌then◌else◌, ◌⊎◌, inl, inr, ◌≢◌, eqb}
use Rattle.std.specs.Option.{option_or}
use Rattle.std.proofs.lemmas.Bool.Decides.{eqb_tells}
use Rattle.std.proofs.lemmas.List.{get_or-set_same, get_or-set_other, get_or_default, length-set}
use Rattle.std.proofs.lemmas.Slice.Eq.{bytes_eq-Decides}
use Rattle.imkl_population.specs.declared.limits.TheConstants.{GROUP, NUMBERS, MAX_OBJECTS}
use Rattle.imkl_population.specs.declared.object.Head.{Head}
use Rattle.imkl_population.specs.IdIndex.{hash_of, group_start, group_size, mark_of, has_id, told_by_mark, told, told_from, number_found, IsEmpty, IsOfGroup, IsFilled, IsGuarded, TakesSlot, IsOccupied}

-- an object that is there has its own id
pub has_id-there : (hs : List Head) (k : ℕ) (d : Head) (q : List ℕ) → k < length hs → has_id hs k q ≡ bytes_eq (get_or hs k d).id q
has_id-there [] k d q there = absurd (omega arith)
has_id-there (g ∷ hs) zero d q there = refl
has_id-there (g ∷ hs) (suc k) d q there = has_id-there hs k d q (omega arith)

-- an object that isn't there has none
pub has_id-beyond : (hs : List Head) (k : ℕ) (q : List ℕ) → length hs ≤ k → has_id hs k q ≡ false
has_id-beyond [] k q beyond = refl
has_id-beyond (g ∷ hs) zero q beyond = absurd (omega arith)
has_id-beyond (g ∷ hs) (suc k) q beyond = has_id-beyond hs k q (omega arith)

-- the object behind the last has its own id
has_id-last : (hs : List Head) (h : Head) (q : List ℕ) → has_id (hs ++ h ∷ []) (length hs) q ≡ bytes_eq h.id q
has_id-last [] h q = refl
has_id-last (g ∷ hs) h q = has_id-last hs h q

-- an object of another id changes nothing
has_id-push : (hs : List Head) (h : Head) (k : ℕ) (q : List ℕ) → bytes_eq h.id q ≡ false → has_id (hs ++ h ∷ []) k q ≡ has_id hs k q
has_id-push [] h zero q differs = differs
has_id-push [] h (suc k) q differs = refl
has_id-push (g ∷ hs) h zero q differs = refl
has_id-push (g ∷ hs) h (suc k) q differs = has_id-push hs h k q differs

-- who has an id that nobody had is the last
has_id-new : (hs : List Head) (h : Head) (k : ℕ) (q : List ℕ) → has_id hs k q ≡ false → has_id (hs ++ h ∷ []) k q ≡ true → k ≡ length hs
has_id-new [] h zero q fails holds = refl
has_id-new [] h (suc k) q fails holds = cc
has_id-new (g ∷ hs) h zero q fails holds = cc
has_id-new (g ∷ hs) h (suc k) q fails holds = ap suc (has_id-new hs h k q fails holds)

-- what is said of an id that is found nowhere
or-none : (x y : Option ℕ) → option_or x y ≡ None → (x ≡ None) × (y ≡ None)
or-none None y none = (refl, none)
or-none (Some n) y none = cc

-- an object of another id changes nothing of what a slot says
told_by_mark-push : (m a : ℕ) (hs : List Head) (h : Head) (q : List ℕ) → bytes_eq h.id q ≡ false → told_by_mark m a (hs ++ h ∷ []) q ≡ told_by_mark m a hs q
told_by_mark-push m zero hs h q differs = refl
told_by_mark-push m (suc n) hs h q differs = ap (λ (b : Bool). if (m == mark_of q) && b then Some n else None) (has_id-push hs h n q differs)

new_by : (b x y : Bool) (k n ℓ : ℕ) → n ≡ ℓ → (x ≡ false → y ≡ true → k ≡ ℓ) → (if b && x then Some k else None) ≡ None → ((if b && y then Some k else None) ≡ None) ⊎ ((if b && y then Some k else None) ≡ Some n)
new_by false x y k n ℓ next last none = inl refl
new_by true true y k n ℓ next last none = cc
new_by true false false k n ℓ next last none = inl refl
new_by true false true k n ℓ next last none = inr (ap Some (last refl refl ∙ sym next))

-- a slot that says nothing of an id says that of the object behind the last, or nothing
told_by_mark-new : (m a n : ℕ) (hs : List Head) (h : Head) (q : List ℕ) → n ≡ length hs → told_by_mark m a hs q ≡ None → (told_by_mark m a (hs ++ h ∷ []) q ≡ None) ⊎ (told_by_mark m a (hs ++ h ∷ []) q ≡ Some n)
told_by_mark-new m zero n hs h q next none = inl refl
told_by_mark-new m (suc k) n hs h q next none = new_by (m == mark_of q) (has_id hs k q) (has_id (hs ++ h ∷ []) k q) k n (length hs) next (has_id-new hs h k q) none

-- one slot that says nothing
pub empty-told : (w : ℕ) (hs : List Head) (q : List ℕ) → w % NUMBERS ≡ 0 → told w hs q ≡ None
empty-told w hs q empty = ap (λ (a : ℕ). told_by_mark (w / NUMBERS) a hs q) empty

-- one more object of another id, where each slot says of it what it said
told_from-same : (k a : ℕ) (slots new : List ℕ) (others after : List ℕ → Option ℕ) (hs : List Head) (h : Head) (q : List ℕ) → ((j : ℕ) → told (slice_index_or new j 0) (hs ++ h ∷ []) q ≡ told (slice_index_or slots j 0) hs q) → after q ≡ others q → told_from k a new after (hs ++ h ∷ []) q ≡ told_from k a slots others hs q
told_from-same zero a slots new others after hs h q each rest = rest
told_from-same (suc k) a slots new others after hs h q each rest = ap₂ option_or (each a) (told_from-same k (a + 1) slots new others after hs h q each rest)

added_by : (x y : Option ℕ) (n : ℕ) → (x ≡ None) ⊎ (x ≡ Some n) → y ≡ Some n → option_or x y ≡ Some n
added_by x y n (inl none) is = ap (λ (z : Option ℕ). option_or z y) none ∙ is
added_by x y n (inr some) is = ap (λ (z : Option ℕ). option_or z y) some

-- an id of which nothing was said is given its number by the others
told_from-added : (k a n : ℕ) (slots : List ℕ) (others after : List ℕ → Option ℕ) (hs : List Head) (h : Head) (id : List ℕ) → n ≡ length hs → after id ≡ Some n → told_from k a slots others hs id ≡ None → told_from k a slots after (hs ++ h ∷ []) id ≡ Some n
told_from-added zero a n slots others after hs h id next there none = there
told_from-added (suc k) a n slots others after hs h id next there none =
    let w = slice_index_or slots a 0 in
    let apart = or-none (told w hs id) (told_from k (a + 1) slots others hs id) none in
    added_by (told w (hs ++ h ∷ []) id) (told_from k (a + 1) slots after (hs ++ h ∷ []) id) n (told_by_mark-new (w / NUMBERS) (w % NUMBERS) n hs h id next apart.0) (told_from-added k (a + 1) n slots others after hs h id next there apart.1)

-- slots of which the first is empty, and those behind it
told_from-empty : (k a : ℕ) (slots : List ℕ) (others : List ℕ → Option ℕ) (hs : List Head) (q : List ℕ) → ((j : ℕ) → a ≤ j → j < a + k → IsEmpty slots j) → told_from k a slots others hs q ≡ others q
told_from-empty zero a slots others hs q empty = refl
told_from-empty (suc k) a slots others hs q empty =
    ap (λ (x : Option ℕ). option_or x (told_from k (a + 1) slots others hs q)) (empty-told (slice_index_or slots a 0) hs q (empty a (omega arith) (omega arith)))
    ∙ told_from-empty k (a + 1) slots others hs q (λ j from to. empty j (omega (arith, from)) (omega (arith, to)))

none_by : (a b : Bool) (n : ℕ) → b ≡ false → (if a && b then Some n else None) ≡ None
none_by false b n fails = refl
none_by true b n fails = ap (λ (x : Bool). if x then Some n else None) fails

some_by : (a b : Bool) (n : ℕ) → a ≡ true → b ≡ true → (if a && b then Some n else None) ≡ Some n
some_by a b n one other = rw (one, other) refl

own_by : (n : ℕ) → ((eqb n n ≡ true) × (n ≡ n)) ⊎ ((eqb n n ≡ false) × (n ≢ n)) → (n == n) ≡ true
own_by n (inl at) = at.0
own_by n (inr apart) = absurd (apart.1 refl)

eqb-own : (n : ℕ) → (n == n) ≡ true
eqb-own n = own_by n (eqb_tells n n)

-- the parts of a slot's word
word-mark : (m n : ℕ) → n < MAX_OBJECTS → (m * NUMBERS + n + 1) / NUMBERS ≡ m
word-mark m n small = omega (arith, small)

word-above : (m n : ℕ) → n < MAX_OBJECTS → (m * NUMBERS + n + 1) % NUMBERS ≡ suc n
word-above m n small = omega (arith, small)

-- a group begins at a multiple of its size
times-round : (b : Bool) (x : ℕ) → (if b then 0 else x * GROUP) % GROUP ≡ 0
times-round true x = refl
times-round false x = omega arith

first-round : (id : List ℕ) (n : ℕ) → group_start id n % GROUP ≡ 0
unfolding group_start
first-round id n = times-round (n / GROUP == 0) _

module _ (slots new : List ℕ) (others : List ℕ → Option ℕ) (hs : List Head) (h : Head) (id : List ℕ) (n : ℕ) (next : n ≡ length hs) (named : h.id ≡ id) (takes : TakesSlot slots id n new) where
  same_length : length new ≡ length slots
  same_length = ap length takes.put ∙ length-set slots takes.slot _

  at-slot : slice_index_or new takes.slot 0 ≡ mark_of id * NUMBERS + n + 1
  at-slot = ap (λ (l : List ℕ). slice_index_or l takes.slot 0) takes.put ∙ get_or-set_same slots takes.slot _ 0 takes.place.there

  apart-slot : (j : ℕ) → (j ≡ takes.slot → ⊥) → slice_index_or new j 0 ≡ slice_index_or slots j 0
  apart-slot j apart = ap (λ (l : List ℕ). slice_index_or l j 0) takes.put ∙ get_or-set_other slots takes.slot j _ 0 apart

  -- what the slot says now
  at-told : (q : List ℕ) → told (slice_index_or new takes.slot 0) (hs ++ h ∷ []) q ≡ (if (mark_of id == mark_of q) && bytes_eq id q then Some n else None)
  at-told q =
      ap (λ (w : ℕ). told w (hs ++ h ∷ []) q) at-slot
      ∙ ap (λ (m : ℕ). told_by_mark m ((mark_of id * NUMBERS + n + 1) % NUMBERS) (hs ++ h ∷ []) q) (word-mark (mark_of id) n takes.room)
      ∙ ap (λ (a : ℕ). told_by_mark (mark_of id) a (hs ++ h ∷ []) q) (word-above (mark_of id) n takes.room)
      ∙ ap (λ (b : Bool). if (mark_of id == mark_of q) && b then Some n else None) (ap (λ (k : ℕ). has_id (hs ++ h ∷ []) k q) next ∙ has_id-last hs h q ∙ ap (λ (x : List ℕ). bytes_eq x q) named)

  each_by : (q : List ℕ) → bytes_eq id q ≡ false → (j : ℕ) → ((eqb j takes.slot ≡ true) × (j ≡ takes.slot)) ⊎ ((eqb j takes.slot ≡ false) × (j ≢ takes.slot)) → told (slice_index_or new j 0) (hs ++ h ∷ []) q ≡ told (slice_index_or slots j 0) hs q
  each_by q differs j (inl at) =
      ap (λ (i : ℕ). told (slice_index_or new i 0) (hs ++ h ∷ []) q) at.1
      ∙ at-told q
      ∙ none_by (mark_of id == mark_of q) (bytes_eq id q) n differs
      ∙ sym (ap (λ (i : ℕ). told (slice_index_or slots i 0) hs q) at.1 ∙ empty-told (slice_index_or slots takes.slot 0) hs q takes.place.empty)
  each_by q differs j (inr apart) =
      let w = slice_index_or slots j 0 in
      ap (λ (x : ℕ). told x (hs ++ h ∷ []) q) (apart-slot j apart.1)
      ∙ told_by_mark-push (w / NUMBERS) (w % NUMBERS) hs h q (ap (λ (x : List ℕ). bytes_eq x q) named ∙ differs)

  mine_by : (k a : ℕ) → told_from (suc k) a slots others hs id ≡ None → ((a ≡ takes.slot → ⊥) → told_from k (a + 1) slots others hs id ≡ None → told_from k (a + 1) new others (hs ++ h ∷ []) id ≡ Some n) → ((eqb a takes.slot ≡ true) × (a ≡ takes.slot)) ⊎ ((eqb a takes.slot ≡ false) × (a ≢ takes.slot)) → told_from (suc k) a new others (hs ++ h ∷ []) id ≡ Some n
  mine_by k a none rest (inl at) =
      ap (λ (x : Option ℕ). option_or x (told_from k (a + 1) new others (hs ++ h ∷ []) id))
      (ap (λ (i : ℕ). told (slice_index_or new i 0) (hs ++ h ∷ []) id) at.1 ∙ at-told id ∙ some_by (mark_of id == mark_of id) (bytes_eq id id) n (eqb-own (mark_of id)) ((bytes_eq-Decides id id).1 refl))
  mine_by k a none rest (inr apart) =
      let w = slice_index_or slots a 0 in
      let split = or-none (told w hs id) (told_from k (a + 1) slots others hs id) none in
      let now : slice_index_or new a 0 ≡ w = apart-slot a apart.1 in
      added_by (told (slice_index_or new a 0) (hs ++ h ∷ []) id) (told_from k (a + 1) new others (hs ++ h ∷ []) id) n
      (subst (λ (x : ℕ). (told x (hs ++ h ∷ []) id ≡ None) ⊎ (told x (hs ++ h ∷ []) id ≡ Some n)) (sym now) (told_by_mark-new (w / NUMBERS) (w % NUMBERS) n hs h id next split.0))
      (rest apart.1 split.1)

  mine : (k a : ℕ) → a ≤ takes.slot → takes.slot < a + k → told_from k a slots others hs id ≡ None → told_from k a new others (hs ++ h ∷ []) id ≡ Some n
  mine zero a from to none = absurd (omega (arith, from, to))
  mine (suc k) a from to none = mine_by k a none (λ apart rest. mine k (a + 1) (omega (arith, from, apart)) (omega (arith, to)) rest) (eqb_tells a takes.slot)

  found_by : (b : Bool) (q : List ℕ) → bytes_eq id q ≡ b → number_found slots others hs id ≡ None → told_from (group_size (length slots)) (group_start q (length slots)) new others (hs ++ h ∷ []) q ≡ cond b (Some n) (number_found slots others hs q)
  found_by true q same none =
      subst (λ (x : List ℕ). told_from (group_size (length slots)) (group_start x (length slots)) new others (hs ++ h ∷ []) x ≡ Some n) ((bytes_eq-Decides id q).0 same)
      (mine (group_size (length slots)) (group_start id (length slots)) takes.place.mine.0 takes.place.mine.1 none)
  found_by false q differs none = told_from-same (group_size (length slots)) (group_start q (length slots)) slots new others others hs h q (λ j. each_by q differs j (eqb_tells j takes.slot)) refl

  -- the next object's id is found by its slot, and all others as before
  pub found-taken : number_found slots others hs id ≡ None → (q : List ℕ) → number_found new others (hs ++ h ∷ []) q ≡ cond (bytes_eq id q) (Some n) (number_found slots others hs q)
  found-taken none q =
      ap (λ (ℓ : ℕ). told_from (group_size ℓ) (group_start q ℓ) new others (hs ++ h ∷ []) q) same_length ∙ found_by (bytes_eq id q) q refl none

-- a slot that was empty is empty no more, and the others are as they were
module _ (slots new : List ℕ) (id : List ℕ) (n : ℕ) (takes : TakesSlot slots id n new) where
  same_long : length new ≡ length slots
  same_long = ap length takes.put ∙ length-set slots takes.slot _

  full_now : (j : ℕ) → j ≡ takes.slot → IsEmpty new j → ⊥
  full_now j at empty =
      let word : slice_index_or new j 0 ≡ mark_of id * NUMBERS + n + 1 = ap (λ (i : ℕ). slice_index_or new i 0) at ∙ ap (λ (l : List ℕ). slice_index_or l takes.slot 0) takes.put ∙ get_or-set_same slots takes.slot _ 0 takes.place.there in
      omega (arith, sym (word-above (mark_of id) n takes.room) ∙ ap (λ (w : ℕ). w % NUMBERS) (sym word) ∙ empty)

  kept_at : (j : ℕ) → (j ≡ takes.slot → ⊥) → slice_index_or new j 0 ≡ slice_index_or slots j 0
  kept_at j apart = ap (λ (l : List ℕ). slice_index_or l j 0) takes.put ∙ get_or-set_other slots takes.slot j _ 0 apart

  was_empty : (j : ℕ) → IsEmpty new j → IsEmpty slots j
  was_empty j empty = ap (λ (w : ℕ). w % NUMBERS) (sym (kept_at j (λ at. full_now j at empty))) ∙ empty

  filled_by : (i : ℕ) → ((i + 1) % GROUP ≡ 0 → ⊥) → IsEmpty new i → IsFilled slots → ((eqb (i + 1) takes.slot ≡ true) × (i + 1 ≡ takes.slot)) ⊎ ((eqb (i + 1) takes.slot ≡ false) × (i + 1 ≢ takes.slot)) → IsEmpty new (i + 1)
  filled_by i inner empty filled (inl at) =
      let first = group_start id (length slots) in
      let before : first ≤ i = omega (arith, takes.place.mine.0, at.1, λ (e : first ≡ i + 1). inner (ap (λ (x : ℕ). x % GROUP) (sym e) ∙ first-round id (length slots))) in
      absurd (takes.place.first i before (omega (arith, at.1)) (was_empty i empty))
  filled_by i inner empty filled (inr apart) = ap (λ (w : ℕ). w % NUMBERS) (kept_at (i + 1) apart.1) ∙ filled i inner (was_empty i empty)

  -- behind an empty slot those of the same group are empty
  pub filled-taken : IsFilled slots → IsFilled new
  filled-taken filled i inner empty = filled_by i inner empty filled (eqb_tells (i + 1) takes.slot)

  -- an id whose group has an empty slot isn't among the others
  pub guarded-taken : (others : List ℕ → Option ℕ) → IsGuarded slots others → IsGuarded new others
  guarded-taken others guarded q i mine empty = guarded q i (subst (λ (ℓ : ℕ). (group_start q ℓ ≤ i) × (i < group_start q ℓ + group_size ℓ)) same_long mine) (was_empty i empty)

module _ (slots : List ℕ) (others after : List ℕ → Option ℕ) (id : List ℕ) (n : ℕ) (follows : (q : List ℕ) → after q ≡ cond (bytes_eq id q) (Some n) (others q)) where
  other_kept : (q : List ℕ) → bytes_eq id q ≡ false → after q ≡ others q
  other_kept q fails = follows q ∙ rw fails refl

  guard_by : (b : Bool) (q : List ℕ) → bytes_eq id q ≡ b → IsOccupied slots id → IsGuarded slots others → (i : ℕ) → IsOfGroup slots q i → IsEmpty slots i → after q ≡ None
  guard_by true q same taken guarded i mine empty = absurd (taken i (subst (λ (x : List ℕ). IsOfGroup slots x i) (sym ((bytes_eq-Decides id q).0 same)) mine) empty)
  guard_by false q apart taken guarded i mine empty = other_kept q apart ∙ guarded q i mine empty

  -- an id whose group has an empty slot isn't among the others
  pub guarded-other : IsOccupied slots id → IsGuarded slots others → IsGuarded slots after
  guarded-other taken guarded q i mine empty = guard_by (bytes_eq id q) q refl taken guarded i mine empty

  module _ (hs : List Head) (h : Head) (next : n ≡ length hs) (named : h.id ≡ id) where
    by_test : (b : Bool) (q : List ℕ) → bytes_eq id q ≡ b → number_found slots others hs id ≡ None → number_found slots after (hs ++ h ∷ []) q ≡ cond b (Some n) (number_found slots others hs q)
    by_test true q same none =
        let own : number_found slots after (hs ++ h ∷ []) id ≡ Some n =
        told_from-added (group_size (length slots)) (group_start id (length slots)) n slots others after hs h id next (follows id ∙ rw ((bytes_eq-Decides id id).1 refl) refl) none in
        subst (λ (x : List ℕ). number_found slots after (hs ++ h ∷ []) x ≡ Some n) ((bytes_eq-Decides id q).0 same) own
    by_test false q apart none =
        let differs : bytes_eq h.id q ≡ false = ap (λ (x : List ℕ). bytes_eq x q) named ∙ apart in
        told_from-same (group_size (length slots)) (group_start q (length slots)) slots slots others after hs h q
        (λ j. told_by_mark-push (slice_index_or slots j 0 / NUMBERS) (slice_index_or slots j 0 % NUMBERS) hs h q differs) (other_kept q apart)

    -- the next object's id is found among the others, and all others as before
    pub found-other : number_found slots others hs id ≡ None → (q : List ℕ) → number_found slots after (hs ++ h ∷ []) q ≡ cond (bytes_eq id q) (Some n) (number_found slots others hs q)
    found-other none q = by_test (bytes_eq id q) q refl none

-- ---- groups

none-by : (x y : ℕ) → x ≡ 0 → (if x == 0 then 0 else y) ≡ 0
none-by x y none = rw none refl

some-eq : (x : ℕ) → ((eqb x 0 ≡ true) × (x ≡ 0)) ⊎ ((eqb x 0 ≡ false) × (x ≢ 0)) → (x ≡ 0 → ⊥) → (x == 0) ≡ false
some-eq x (inl none) some = absurd (some none.1)
some-eq x (inr none) some = none.0

-- where there is no group
pub first-none : (id : List ℕ) (n : ℕ) → n / GROUP ≡ 0 → group_start id n ≡ 0
unfolding group_start
first-none id n none = none-by (n / GROUP) _ none

pub size-none : (n : ℕ) → n / GROUP ≡ 0 → group_size n ≡ 0
size-none n none = none-by (n / GROUP) GROUP none

-- where there is one
pub first-some : (id : List ℕ) (n : ℕ) → (n / GROUP ≡ 0 → ⊥) → group_start id n ≡ (hash_of id % (n / GROUP)) * GROUP
unfolding group_start
first-some id n some = ap (λ (b : Bool). if b then 0 else (hash_of id % (n / GROUP)) * GROUP) (some-eq (n / GROUP) (eqb_tells (n / GROUP) 0) some)

pub size-some : (n : ℕ) → (n / GROUP ≡ 0 → ⊥) → group_size n ≡ GROUP
size-some n some = ap (λ (b : Bool). if b then 0 else GROUP) (some-eq (n / GROUP) (eqb_tells (n / GROUP) 0) some)

-- ---- slots without numbers

zero-at : (n i : ℕ) → ◌≡◌ {A = ℕ} (slice_index_or (replicate n 0) i 0) 0
zero-at zero i = refl
zero-at (suc n) zero = refl
zero-at (suc n) (suc i) = zero-at n i

-- nothing is found
pub found-fresh : (slots : List ℕ) (n : ℕ) (others : List ℕ → Option ℕ) → slots ≡ replicate n 0 → ((q : List ℕ) → others q ≡ None) → (hs : List Head) (id : List ℕ) → number_found slots others hs id ≡ None
found-fresh slots n others fresh none hs id =
    told_from-empty (group_size (length slots)) (group_start id (length slots)) slots others hs id
    (λ j from to. ap (λ (w : ℕ). w % NUMBERS) (ap (λ (l : List ℕ). slice_index_or l j 0) fresh ∙ zero-at n j))
    ∙ none id

-- ---- a search

-- behind an empty slot of a group nothing is said
empty-from : (k a : ℕ) (slots : List ℕ) (others : List ℕ → Option ℕ) (hs : List Head) (q : List ℕ) → IsFilled slots → a % GROUP + suc k ≤ GROUP → IsEmpty slots a → told_from (suc k) a slots others hs q ≡ others q
empty-from zero a slots others hs q filled inside empty = ap (λ (x : Option ℕ). option_or x (others q)) (empty-told (slice_index_or slots a 0) hs q empty)
empty-from (suc k) a slots others hs q filled inside empty =
    ap (λ (x : Option ℕ). option_or x (told_from (suc k) (a + 1) slots others hs q)) (empty-told (slice_index_or slots a 0) hs q empty)
    ∙ empty-from k (a + 1) slots others hs q filled (omega (arith, inside)) (filled a (λ round. omega (arith, inside, round)) empty)

round-within : (a f k : ℕ) → f % GROUP ≡ 0 → f ≤ a → a + suc k ≤ f + GROUP → a % GROUP + suc k ≤ GROUP
round-within a f k round from to = omega (arith, round, from, to)

small-by : (b : Bool) → (if b then 0 else GROUP) ≤ GROUP
small-by true = omega arith
small-by false = omega arith

size-small : (n : ℕ) → group_size n ≤ GROUP
size-small n = small-by (n / GROUP == 0)

-- from an empty slot of an id's group on
told_from-nothing : (k a : ℕ) (slots : List ℕ) (others : List ℕ → Option ℕ) (hs : List Head) (q : List ℕ) → IsFilled slots → IsGuarded slots others → group_start q (length slots) ≤ a → a + suc k ≤ group_start q (length slots) + group_size (length slots) → IsEmpty slots a → told_from (suc k) a slots others hs q ≡ None
told_from-nothing k a slots others hs q filled guarded from to empty =
    empty-from k a slots others hs q filled (round-within a (group_start q (length slots)) k (first-round q (length slots)) from (omega (arith, to, size-small (length slots)))) empty
    ∙ guarded q a (from, omega (arith, to)) empty

-- the same where it is counted to the group's end
pub found-nothing : (a b : ℕ) (slots : List ℕ) (others : List ℕ → Option ℕ) (hs : List Head) (q : List ℕ) → IsFilled slots → IsGuarded slots others → group_start q (length slots) ≤ a → a < b → b ≡ group_start q (length slots) + group_size (length slots) → IsEmpty slots a → told_from (b - a) a slots others hs q ≡ None
found-nothing a b slots others hs q filled guarded from before end empty =
    let more : b - a ≡ suc (b - suc a) = omega (arith, before) in
    ap (λ (k : ℕ). told_from k a slots others hs q) more ∙ told_from-nothing (b - suc a) a slots others hs q filled guarded from (omega (arith, before, end)) empty

-- what a slot says, and then the next ones
pub told_from-step : (a b : ℕ) (slots : List ℕ) (others : List ℕ → Option ℕ) (hs : List Head) (q : List ℕ) → a < b → told_from (b - a) a slots others hs q ≡ option_or (told (slice_index_or slots a 0) hs q) (told_from (b - (a + 1)) (a + 1) slots others hs q)
told_from-step a b slots others hs q before =
    let more : b - a ≡ suc (b - (a + 1)) = omega (arith, before) in
    ap (λ (k : ℕ). told_from k a slots others hs q) more

told-by_some : (m a n : ℕ) (hs : List Head) (q : List ℕ) → a ≡ suc n → m ≡ mark_of q → has_id hs n q ≡ true → told_by_mark m a hs q ≡ Some n
told-by_some m a n hs q above mark has =
    ap (λ (x : ℕ). told_by_mark m x hs q) above ∙ some_by (m == mark_of q) (has_id hs n q) n (ap (λ (x : ℕ). x == mark_of q) mark ∙ eqb-own (mark_of q)) has

fails_by : (m r n : ℕ) (b : Bool) → ((eqb m r ≡ true) × (m ≡ r)) ⊎ ((eqb m r ≡ false) × (m ≢ r)) → (m ≡ r → b ≡ false) → (if (m == r) && b then Some n else None) ≡ None
fails_by m r n b (inl at) fails = none_by (m == r) b n (fails at.1)
fails_by m r n b (inr apart) fails = ap (λ (x : Bool). if x && b then Some n else None) apart.0

told-by_none : (m a n : ℕ) (hs : List Head) (q : List ℕ) → a ≡ suc n → (m ≡ mark_of q → has_id hs n q ≡ false) → told_by_mark m a hs q ≡ None
told-by_none m a n hs q above fails = ap (λ (x : ℕ). told_by_mark m x hs q) above ∙ fails_by m (mark_of q) n (has_id hs n q) (eqb_tells m (mark_of q)) fails

-- the slot at which a search stands: its word
module _ (slots : List ℕ) (others : List ℕ → Option ℕ) (hs : List Head) (q : List ℕ) (a b w : ℕ) (before : a < b) (at : w ≡ get_or slots a w) (there : a < length slots) where
  word : slice_index_or slots a 0 ≡ w
  word = get_or_default slots a 0 w there ∙ sym at

  -- it is empty
  pub found-at_empty : IsFilled slots → IsGuarded slots others → group_start q (length slots) ≤ a → b ≡ group_start q (length slots) + group_size (length slots) → w % NUMBERS ≡ 0 → told_from (b - a) a slots others hs q ≡ None
  found-at_empty filled guarded from end empty = found-nothing a b slots others hs q filled guarded from before end (ap (λ (x : ℕ). x % NUMBERS) word ∙ empty)

  -- it has the id's object
  pub found-at : (n : ℕ) → w % NUMBERS ≡ suc n → w / NUMBERS ≡ mark_of q → has_id hs n q ≡ true → told_from (b - a) a slots others hs q ≡ Some n
  found-at n above mark has =
      told_from-step a b slots others hs q before
      ∙ ap (λ (x : Option ℕ). option_or x (told_from (b - (a + 1)) (a + 1) slots others hs q))
      (ap (λ (x : ℕ). told x hs q) word ∙ told-by_some (w / NUMBERS) (w % NUMBERS) n hs q above mark has)

  -- it has another object
  pub found-behind : (n : ℕ) → w % NUMBERS ≡ suc n → (w / NUMBERS ≡ mark_of q → has_id hs n q ≡ false) → told_from (b - a) a slots others hs q ≡ told_from (b - (a + 1)) (a + 1) slots others hs q
  found-behind n above fails =
      told_from-step a b slots others hs q before
      ∙ ap (λ (x : Option ℕ). option_or x (told_from (b - (a + 1)) (a + 1) slots others hs q))
      (ap (λ (x : ℕ). told x hs q) word ∙ told-by_none (w / NUMBERS) (w % NUMBERS) n hs q above fails)
