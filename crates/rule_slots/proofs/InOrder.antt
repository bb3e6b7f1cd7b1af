-- Lists in an order: what stands in them, and when two of them have the same elements.
use Rattle.std.proofs.Common.{◌≡◌, ℕ, zero, suc, ◌+◌, ◌<◌, ◌≤◌, Bool, true, false, List, [], ◌∷◌, ◌++◌, length, Some, Ordering, Less, Equal, Greater, is_lt, is_eq, refl, sym, ap, subst, ◌∙◌, arith, inl, inr}
use Rattle.std.specs.Prelude.{◌&&◌, ◌||◌, ◌==◌, not, slice_get, if◌then◌else◌}
use Rattle.std.specs.Ordering.{is_gt, ordering_reverse}
use Rattle.std.specs.Cmp.{IsTotalOrder, tied_itself, tied_back, alike_right, upto}
use Rattle.std.specs.List.{list_all, list_any}
use Rattle.std.proofs.lemmas.Bool.{and_parts, eq-eqb, ne_eqb, eqb-true, eqb-false}
use Rattle.std.proofs.lemmas.Bool.Decides.{leb_tells}
use Rattle.ocl_base.specs.Lists.{is_among, repeats}
use Rattle.rule_slots.specs.Compared.{times_among, stand_as_often, pairwise_same, first_ones}
use Rattle.rule_slots.specs.Ordered.{begins_after, rises, may_precede}

-- ---- tests

less_is : (o : Ordering) → is_lt o ≡ true → o ≡ Less
less_is Less e = refl
less_is Equal e = cc
less_is Greater e = cc

pub not_true : (b : Bool) → not b ≡ true → b ≡ false
not_true true e = cc
not_true false e = refl

pub false_is_no_true : false ≡ true → ⊥
false_is_no_true e = cc

pub or_true : (b : Bool) → (b || true) ≡ true
or_true true = refl
or_true false = refl

pub or_false_left : (a b : Bool) → (a || b) ≡ false → a ≡ false
or_false_left false b e = refl
or_false_left true b e = cc

pub or_false_right : (a b : Bool) → (a || b) ≡ false → b ≡ false
or_false_right false b e = e
or_false_right true b e = cc

and_false : (b : Bool) → (b && false) ≡ false
and_false true = refl
and_false false = refl

-- a count and one more
pub never_none : (n : ℕ) → (suc n == 0) ≡ false
never_none n = ne_eqb (suc n) 0 (λ e. absurd (omega (arith, e)))

one_more_each : (n m : ℕ) → (suc n == suc m) ≡ (n == m)
one_more_each n m = by (n == m) refl
  where
    by : (b : Bool) → (n == m) ≡ b → (suc n == suc m) ≡ (n == m)
    by true e = eq-eqb (suc n) (suc m) (ap suc (eqb-true n m e)) ∙ sym e
    by false e = ne_eqb (suc n) (suc m) (λ q. eqb-false n m e (omega (arith, q))) ∙ sym e

-- two tests of heads and tails of which the tails fail together
tails_fail : (a b c d : Bool) → (b && d) ≡ false → ((a && b) && (c && d)) ≡ false
tails_fail true true true d e = e
tails_fail true true false d e = refl
tails_fail true false c d e = refl
tails_fail false b c d e = refl

-- each item has this
abbrev Each : {A : Type 0} → (A → Type 0) → List A → Type 0
Each P [] = Unit {0}
Each P (x ∷ xs) = P x × Each P xs

each_map : {A : Type 0} (P Q : A → Type 0) → ((x : A) → P x → Q x) → (xs : List A) → Each P xs → Each Q xs
each_map P Q f [] h = tt
each_map P Q f (x ∷ xs) h = (f x h.0, each_map P Q f xs h.1)

-- a test that answers alike for each item
all_alike : {A : Type 0} (f g : A → Bool) (xs : List A) → Each (λ x. f x ≡ g x) xs → list_all f xs ≡ list_all g xs
all_alike f g [] h = refl
all_alike f g (x ∷ xs) h = ap (λ z. z && list_all f xs) h.0 ∙ ap (λ z. g x && z) (all_alike f g xs h.1)

pub always_alike : {A : Type 0} (f g : A → Bool) → ((x : A) → f x ≡ g x) → (xs : List A) → list_all f xs ≡ list_all g xs
always_alike f g h [] = refl
always_alike f g h (x ∷ xs) = ap (λ z. z && list_all f xs) (h x) ∙ ap (λ z. g x && z) (always_alike f g h xs)

-- a list stands in order
abbrev pub IsRising : {A : Type 0} → (A → A → Ordering) → (A → Bool) → Bool → List A → Type 0
IsRising R valid strictly xs = rises valid (λ x y. may_precede strictly (R x y)) xs ≡ true

-- ---- an order, equality by it, and what may stand in a list

module _ {A : Type 0} (R : A → A → Ordering) (o : IsTotalOrder R) (same : A → A → Bool) (valid : A → Bool) (tie : (x y : A) → same x y ≡ (is_eq (R x y) && valid x)) (like : (x y : A) → R x y ≡ Equal → valid x ≡ valid y) where
  -- items that stand apart differ
  pub apart : (x y : A) → R x y ≡ Less → same x y ≡ false
  apart x y e = tie x y ∙ ap (λ z. is_eq z && valid x) e

  pub apart_back : (x y : A) → R x y ≡ Less → same y x ≡ false
  apart_back x y e = tie y x ∙ ap (λ z. is_eq z && valid y) (o.antisymm y x ∙ ap ordering_reverse e)

  -- the same items stand nowhere apart
  pub tied : (x y : A) → same x y ≡ true → R x y ≡ Equal
  tied x y e = by (R x y) refl
    where
      by : (r : Ordering) → R x y ≡ r → R x y ≡ Equal
      by Equal q = q
      by Less q = absurd (false_is_no_true (sym (apart x y q) ∙ e))
      by Greater q = absurd (false_is_no_true (sym (tie x y ∙ ap (λ z. is_eq z && valid x) q) ∙ e))

  -- what is tied to a valid item is the same
  pub same_tied : (x y : A) → R x y ≡ Equal → valid x ≡ true → same x y ≡ true
  same_tied x y e v = tie x y ∙ ap (λ z. is_eq z && valid x) e ∙ v

  -- a valid item is itself
  pub same_itself : (x : A) → valid x ≡ true → same x x ≡ true
  same_itself x v = same_tied x x (tied_itself o x) v

  pub same_back : (x y : A) → same x y ≡ true → same y x ≡ true
  same_back x y e =
      let q = tied x y e in
      let back = tied_back o x y q in
      let v : valid x ≡ true = sym (ap (λ z. is_eq z && valid x) q) ∙ sym (tie x y) ∙ e in
      same_tied y x back (sym (like x y q) ∙ v)

  -- the same items are the same as the same items
  pub same_alike : (x y z : A) → same x y ≡ true → same x z ≡ same y z
  same_alike x y z e =
      let q = tied x y e in
      tie x z ∙ ap (λ r. is_eq r && valid x) (o.congr x y z q) ∙ ap (λ v. is_eq (R y z) && v) (like x y q) ∙ sym (tie y z)

  -- before something that isn't before another thing
  pub before_not_after : (x y z : A) → R x y ≡ Less → is_gt (R y z) ≡ false → R x z ≡ Less
  before_not_after x y z e n = by (R y z) refl
    where
      by : (r : Ordering) → R y z ≡ r → R x z ≡ Less
      by Less q = o.trans x y z e q
      by Equal q = sym (alike_right o y z x q) ∙ e
      by Greater q = absurd (false_is_no_true (sym n ∙ ap is_gt q))

  -- the same where one stands first
  pub tied_before : (x y z : A) → R x y ≡ Equal → R x z ≡ Less → R y z ≡ Less
  tied_before x y z e f = sym (o.congr x y z e) ∙ f

  -- ---- lists in order

  rising_parts : (strictly : Bool) (x : A) (xs : List A) → IsRising R valid strictly (x ∷ xs) → ((valid x ≡ true) × (begins_after (λ a b. may_precede strictly (R a b)) x xs ≡ true)) × IsRising R valid strictly xs
  rising_parts strictly x xs e =
      let before = λ (a b : A). may_precede strictly (R a b) in
      let both = and_parts (valid x && begins_after before x xs) (rises valid before xs) e in
      let head = and_parts (valid x) (begins_after before x xs) both.0 in
      ((head.0, head.1), both.1)

  -- all that stands behind an item comes after it
  pub all_after : (x : A) (xs : List A) → IsRising R valid true (x ∷ xs) → Each (λ y. R x y ≡ Less) xs
  all_after x [] e = tt
  all_after x (y ∷ ys) e =
      let parts = rising_parts true x (y ∷ ys) e in
      let here = less_is (R x y) parts.0.1 in
      (here, each_map (λ z. R y z ≡ Less) (λ z. R x z ≡ Less) (λ z f. o.trans x y z here f) ys (all_after y ys parts.1))

  -- and nothing before it, where it may stand twice
  pub none_before : (x : A) (xs : List A) → IsRising R valid false (x ∷ xs) → Each (λ y. is_gt (R x y) ≡ false) xs
  none_before x [] e = tt
  none_before x (y ∷ ys) e =
      let parts = rising_parts false x (y ∷ ys) e in
      let here = not_true (is_gt (R x y)) parts.0.1 in
      (here, each_map (λ z. is_gt (R y z) ≡ false) (λ z. is_gt (R x z) ≡ false) (λ z f. upto o x y z here f) ys (none_before y ys parts.1))

  -- an item that comes before all of a list isn't among them
  pub not_among : (x : A) (ys : List A) → Each (λ y. R x y ≡ Less) ys → is_among same ys x ≡ false
  not_among x [] h = refl
  not_among x (y ∷ ys) h = ap (λ z. z || list_any (same x) ys) (apart x y h.0) ∙ not_among x ys h.1

  -- and it counts for nothing there
  pub never_among : (x : A) (ys : List A) → Each (λ y. R x y ≡ Less) ys → times_among same ys x ≡ 0
  never_among x [] h = refl
  never_among x (y ∷ ys) h = ap (λ z. if z then suc (times_among same ys x) else times_among same ys x) (apart_back x y h.0) ∙ never_among x ys h.1

  -- nothing stands twice in a list that rises strictly
  pub none_twice : (xs : List A) → IsRising R valid true xs → repeats same xs ≡ false
  none_twice [] e = refl
  none_twice (x ∷ xs) e = ap (λ z. z || repeats same xs) (not_among x xs (all_after x xs e)) ∙ none_twice xs (rising_parts true x xs e).1

  -- an item that is among none of a list, nor the same as one behind it
  among_behind : (before : List A) (y z : A) → is_among same before z ≡ false → same z y ≡ false → is_among same (before ++ y ∷ []) z ≡ false
  among_behind [] y z e n = ap (λ b. b || false) n
  among_behind (x ∷ before) y z e n = by (same z x) refl (λ h. among_behind before y z h n)
    where
      by : (b : Bool) → same z x ≡ b → (is_among same before z ≡ false → is_among same (before ++ y ∷ []) z ≡ false) → is_among same (x ∷ before ++ y ∷ []) z ≡ false
      by true q rest = absurd (false_is_no_true (sym e ∙ ap (λ b. b || list_any (same z) before) q))
      by false q rest = ap (λ b. b || list_any (same z) (before ++ y ∷ [])) q ∙ rest (sym (ap (λ b. b || list_any (same z) before) q) ∙ e)

  each_behind : (before : List A) (y : A) (ys : List A) → Each (λ z. is_among same before z ≡ false) ys → Each (λ z. same z y ≡ false) ys → Each (λ z. is_among same (before ++ y ∷ []) z ≡ false) ys
  each_behind before y [] h g = tt
  each_behind before y (z ∷ zs) h g = (among_behind before y z h.0 g.0, each_behind before y zs h.1 g.1)

  -- what an item isn't among is another than it
  each_other : (y : A) (zs : List A) → is_among same zs y ≡ false → Each (λ z. same z y ≡ false) zs
  each_other y [] n = tt
  each_other y (z ∷ zs) n = (other (same z y) refl, each_other y zs (or_false_right (same y z) (list_any (same y) zs) n))
    where
      other : (b : Bool) → same z y ≡ b → same z y ≡ false
      other false e = e
      other true e = absurd (false_is_no_true (sym n ∙ ap (λ b. b || list_any (same y) zs) (same_back z y e)))

  first_after : (before ys : List A) → repeats same ys ≡ false → Each (λ z. is_among same before z ≡ false) ys → first_ones same before ys ≡ ys
  first_after before [] e h = refl
  first_after before (y ∷ ys) e h =
      let here = or_false_left (is_among same ys y) (repeats same ys) e in
      let behind = or_false_right (is_among same ys y) (repeats same ys) e in
      ap (λ b. if b then first_ones same before ys else y ∷ first_ones same (before ++ y ∷ []) ys) h.0
      ∙ ap (λ z. y ∷ z) (first_after (before ++ y ∷ []) ys behind (each_behind before y ys h.1 (each_other y ys here)))

  -- where none stands twice, each is the first of its like
  pub first_are_all : (xs : List A) → repeats same xs ≡ false → first_ones same [] xs ≡ xs
  first_are_all xs e = first_after [] xs e (none xs)
    where
      none : (ys : List A) → Each (λ z. is_among same [] z ≡ false) ys
      none [] = tt
      none (y ∷ ys) = (refl, none ys)

  -- in a list that rises, but not strictly, two that stand side by side are the same
  pub some_twice : (xs : List A) → IsRising R valid false xs → rises valid (λ x y. may_precede true (R x y)) xs ≡ false → repeats same xs ≡ true
  some_twice [] e n = cc
  some_twice (x ∷ []) e n = absurd (false_is_no_true (sym n ∙ ap (λ b. (b && true) && true) (rising_parts false x [] e).0.0))
  some_twice (x ∷ y ∷ ys) e n = by (R x y) refl (some_twice (y ∷ ys) parts.1)
    where
      strict : A → A → Bool
      strict a b = may_precede true (R a b)

      parts : ((valid x ≡ true) × (not (is_gt (R x y)) ≡ true)) × IsRising R valid false (y ∷ ys)
      parts = rising_parts false x (y ∷ ys) e

      by : (r : Ordering) → R x y ≡ r → (rises valid strict (y ∷ ys) ≡ false → repeats same (y ∷ ys) ≡ true) → repeats same (x ∷ y ∷ ys) ≡ true
      by Less q rest =
          let tail : rises valid strict (y ∷ ys) ≡ false = sym (ap (λ b. (b && is_lt (R x y)) && rises valid strict (y ∷ ys)) parts.0.0 ∙ ap (λ r. is_lt r && rises valid strict (y ∷ ys)) q) ∙ n in
          ap (λ b. is_among same (y ∷ ys) x || b) (rest tail) ∙ or_true (is_among same (y ∷ ys) x)
      by Equal q rest = ap (λ b. (b || list_any (same x) ys) || repeats same (y ∷ ys)) (same_tied x y q parts.0.0)
      by Greater q rest = absurd (false_is_no_true (sym (ap (λ r. not (is_gt r)) q) ∙ parts.0.1))

  -- ---- lists that are the same one by one

  -- they have the same members
  pub pairs_among : (xs ys : List A) → pairwise_same same xs ys ≡ true → (list_all (is_among same ys) xs ≡ true) × (list_all (is_among same xs) ys ≡ true)
  pairs_among [] [] e = (refl, refl)
  pairs_among [] (y ∷ ys) e = cc
  pairs_among (x ∷ xs) [] e = cc
  pairs_among (x ∷ xs) (y ∷ ys) e =
      let both = and_parts (same x y) (pairwise_same same xs ys) e in
      let rest = pairs_among xs ys both.1 in (
        ap (λ z. (z || is_among same ys x) && list_all (is_among same (y ∷ ys)) xs) both.0 ∙ more y ys xs rest.0,
        ap (λ z. (z || is_among same xs y) && list_all (is_among same (x ∷ xs)) ys) (same_back x y both.0) ∙ more x xs ys rest.1,
      )
    where
      more : (z : A) (zs us : List A) → list_all (is_among same zs) us ≡ true → list_all (is_among same (z ∷ zs)) us ≡ true
      more z zs [] h = refl
      more z zs (u ∷ us) h =
          let both = and_parts (is_among same zs u) (list_all (is_among same zs) us) h in
          ap (λ b. (same u z || b) && list_all (is_among same (z ∷ zs)) us) both.0 ∙ ap (λ b. b && list_all (is_among same (z ∷ zs)) us) (or_true (same u z)) ∙ more z zs us both.1

  -- each item stands in them as often
  pub pairs_times : (xs ys : List A) → pairwise_same same xs ys ≡ true → (z : A) → times_among same xs z ≡ times_among same ys z
  pairs_times [] [] e z = refl
  pairs_times [] (y ∷ ys) e z = cc
  pairs_times (x ∷ xs) [] e z = cc
  pairs_times (x ∷ xs) (y ∷ ys) e z =
      let both = and_parts (same x y) (pairwise_same same xs ys) e in
      ap (λ b. if b then suc (times_among same xs z) else times_among same xs z) (same_alike x y z both.0) ∙ ap (λ n. if same y z then suc n else n) (pairs_times xs ys both.1 z)

  pub pairs_often : (xs ys : List A) → pairwise_same same xs ys ≡ true → (stand_as_often same xs ys ≡ true) × (stand_as_often same ys xs ≡ true)
  pairs_often xs ys e = (all_of xs (λ z. eq-eqb (times_among same xs z) (times_among same ys z) (pairs_times xs ys e z)), all_of ys (λ z. eq-eqb (times_among same ys z) (times_among same xs z) (sym (pairs_times xs ys e z))))
    where
      all_of : {f : A → Bool} (zs : List A) → ((z : A) → f z ≡ true) → list_all f zs ≡ true
      all_of [] h = refl
      all_of {f = f} (z ∷ zs) h = ap (λ b. b && list_all f zs) (h z) ∙ all_of {f = f} zs h

  -- ---- lists in order that differ somewhere

  -- two that rise strictly don't have the same members
  pub sets_differ : (xs ys : List A) → IsRising R valid true xs → IsRising R valid true ys → pairwise_same same xs ys ≡ false → (list_all (is_among same ys) xs && list_all (is_among same xs) ys) ≡ false
  sets_differ [] [] h g e = cc
  sets_differ [] (y ∷ ys) h g e = refl
  sets_differ (x ∷ xs) [] h g e = refl
  sets_differ (x ∷ xs) (y ∷ ys) h g e = by (sets_differ xs ys (rising_parts true x xs h).1 (rising_parts true y ys g).1) (R x y) refl (same x y) refl
    where
      first : Bool
      first = list_all (is_among same (y ∷ ys)) (x ∷ xs)

      second : Bool
      second = list_all (is_among same (x ∷ xs)) (y ∷ ys)

      left_out : is_among same (y ∷ ys) x ≡ false → (first && second) ≡ false
      left_out n = ap (λ b. (b && list_all (is_among same (y ∷ ys)) xs) && second) n

      right_out : is_among same (x ∷ xs) y ≡ false → (first && second) ≡ false
      right_out n = ap (λ b. first && (b && list_all (is_among same (x ∷ xs)) ys)) n ∙ and_false first

      -- what comes after both heads is among both tails alike
      behind : (u : A) (us vs : List A) → Each (λ z. R u z ≡ Less) vs → list_all (is_among same (u ∷ us)) vs ≡ list_all (is_among same us) vs
      behind u us vs k = all_alike (is_among same (u ∷ us)) (is_among same us) vs (each_map (λ z. R u z ≡ Less) (λ z. is_among same (u ∷ us) z ≡ is_among same us z) (λ z f. ap (λ b. b || list_any (same z) us) (apart_back u z f)) vs k)

      -- as the tails, or by the heads
      by : (pairwise_same same xs ys ≡ false → (list_all (is_among same ys) xs && list_all (is_among same xs) ys) ≡ false) → (r : Ordering) → R x y ≡ r → (b : Bool) → same x y ≡ b → (first && second) ≡ false
      by tails Less q b s = left_out (not_among x (y ∷ ys) (q, each_map (λ z. R y z ≡ Less) (λ z. R x z ≡ Less) (λ z f. o.trans x y z q f) ys (all_after y ys g)))
      by tails Greater q b s =
          let back : R y x ≡ Less = o.antisymm y x ∙ ap ordering_reverse q in
          right_out (not_among y (x ∷ xs) (back, each_map (λ z. R x z ≡ Less) (λ z. R y z ≡ Less) (λ z f. o.trans y x z back f) xs (all_after x xs h)))
      by tails Equal q false s =
          left_out (ap (λ b. b || list_any (same x) ys) s ∙ not_among x ys (each_map (λ z. R y z ≡ Less) (λ z. R x z ≡ Less) (λ z f. o.congr x y z q ∙ f) ys (all_after y ys g)))
      by tails Equal q true s =
          let rest : pairwise_same same xs ys ≡ false = sym (ap (λ b. b && pairwise_same same xs ys) s) ∙ e in
          let xs_after_y = each_map (λ z. R x z ≡ Less) (λ z. R y z ≡ Less) (λ z f. tied_before x y z q f) xs (all_after x xs h) in
          let ys_after_x = each_map (λ z. R y z ≡ Less) (λ z. R x z ≡ Less) (λ z f. o.congr x y z q ∙ f) ys (all_after y ys g) in
          tails_fail (is_among same (y ∷ ys) x) (list_all (is_among same (y ∷ ys)) xs) (is_among same (x ∷ xs) y) (list_all (is_among same (x ∷ xs)) ys)
          (ap (λ b. b && list_all (is_among same (x ∷ xs)) ys) (behind y ys xs xs_after_y) ∙ ap (λ b. list_all (is_among same ys) xs && b) (behind x xs ys ys_after_x) ∙ tails rest)

  -- in two that rise, not each item stands as often
  pub bags_differ : (xs ys : List A) → IsRising R valid false xs → IsRising R valid false ys → pairwise_same same xs ys ≡ false → (stand_as_often same xs ys && stand_as_often same ys xs) ≡ false
  bags_differ [] [] h g e = cc
  bags_differ [] (y ∷ ys) h g e = once_more y ys (rising_parts false y ys g).0.0
    where
      once_more : (u : A) (us : List A) → valid u ≡ true → stand_as_often same (u ∷ us) [] ≡ false
      once_more u us v = ap (λ b. ((if b then suc (times_among same us u) else times_among same us u) == 0) && list_all (λ z. times_among same (u ∷ us) z == 0) us) (same_itself u v) ∙ ap (λ b. b && list_all (λ z. times_among same (u ∷ us) z == 0) us) (never_none (times_among same us u))
  bags_differ (x ∷ xs) [] h g e = ap (λ b. (((if b then suc (times_among same xs x) else times_among same xs x) == 0) && list_all (λ z. times_among same (x ∷ xs) z == 0) xs) && true) (same_itself x (rising_parts false x xs h).0.0)
      ∙ ap (λ b. (b && list_all (λ z. times_among same (x ∷ xs) z == 0) xs) && true) (never_none (times_among same xs x))
  bags_differ (x ∷ xs) (y ∷ ys) h g e = by (bags_differ xs ys (rising_parts false x xs h).1 (rising_parts false y ys g).1) (R x y) refl
    where
      often : List A → List A → Bool
      often us vs = stand_as_often same us vs

      -- an item that comes before all of the other list stands there never, and in its own once more
      only_here : (u v : A) (us vs : List A) → valid u ≡ true → Each (λ z. R u z ≡ Less) (v ∷ vs) → often (u ∷ us) (v ∷ vs) ≡ false
      only_here u v us vs w k =
          ap (λ n. ((if same u u then suc (times_among same us u) else times_among same us u) == n) && list_all (λ z. times_among same (u ∷ us) z == times_among same (v ∷ vs) z) us) (never_among u (v ∷ vs) k)
          ∙ ap (λ b. ((if b then suc (times_among same us u) else times_among same us u) == 0) && list_all (λ z. times_among same (u ∷ us) z == times_among same (v ∷ vs) z) us) (same_itself u w)
          ∙ ap (λ b. b && list_all (λ z. times_among same (u ∷ us) z == times_among same (v ∷ vs) z) us) (never_none (times_among same us u))

      -- heads that are the same count alike
      heads : (u v : A) (us vs : List A) → same u v ≡ true → (z : A) → (times_among same (u ∷ us) z == times_among same (v ∷ vs) z) ≡ (times_among same us z == times_among same vs z)
      heads u v us vs s z =
          ap (λ b. (if b then suc (times_among same us z) else times_among same us z) == times_among same (v ∷ vs) z) (same_alike u v z s) ∙ counted (same v z)
        where
          counted : (b : Bool) → ((if b then suc (times_among same us z) else times_among same us z) == (if b then suc (times_among same vs z) else times_among same vs z)) ≡ (times_among same us z == times_among same vs z)
          counted true = one_more_each (times_among same us z) (times_among same vs z)
          counted false = refl

      -- as the tails, or by the heads
      by : (pairwise_same same xs ys ≡ false → (often xs ys && often ys xs) ≡ false) → (r : Ordering) → R x y ≡ r → (often (x ∷ xs) (y ∷ ys) && often (y ∷ ys) (x ∷ xs)) ≡ false
      by tails Less q =
          let after = each_map (λ z. is_gt (R y z) ≡ false) (λ z. R x z ≡ Less) (λ z f. before_not_after x y z q f) ys (none_before y ys g) in
          ap (λ b. b && often (y ∷ ys) (x ∷ xs)) (only_here x y xs ys (rising_parts false x xs h).0.0 (q, after))
      by tails Greater q =
          let back : R y x ≡ Less = o.antisymm y x ∙ ap ordering_reverse q in
          let after = each_map (λ z. is_gt (R x z) ≡ false) (λ z. R y z ≡ Less) (λ z f. before_not_after y x z back f) xs (none_before x xs h) in
          ap (λ b. often (x ∷ xs) (y ∷ ys) && b) (only_here y x ys xs (rising_parts false y ys g).0.0 (back, after)) ∙ and_false (often (x ∷ xs) (y ∷ ys))
      by tails Equal q =
          let s = same_tied x y q (rising_parts false x xs h).0.0 in
          let rest : pairwise_same same xs ys ≡ false = sym (ap (λ b. b && pairwise_same same xs ys) s) ∙ e in
          let f = λ (z : A). times_among same (x ∷ xs) z == times_among same (y ∷ ys) z in
          let k = λ (z : A). times_among same (y ∷ ys) z == times_among same (x ∷ xs) z in
          let one = always_alike f (λ z. times_among same xs z == times_among same ys z) (heads x y xs ys s) xs in
          let other = always_alike k (λ z. times_among same ys z == times_among same xs z) (heads y x ys xs (same_back x y s)) ys in
          tails_fail (f x) (list_all f xs) (k y) (list_all k ys) (ap (λ b. b && list_all k ys) one ∙ ap (λ b. often xs ys && b) other ∙ tails rest)

-- ---- searching

-- in a list in order, the first item that isn't before x stands from low to high
pub record IsNarrowed {A : Type 0} (R : A → A → Ordering) (xs : List A) (x : A) (low high : ℕ) : Type 0 where
  pub ordered : low ≤ high
  pub within : high ≤ length xs
  pub before : (k : ℕ) (y : A) → k < low → slice_get xs k ≡ Some y → is_lt (R y x) ≡ true
  pub after : (k : ℕ) (y : A) → high ≤ k → slice_get xs k ≡ Some y → is_lt (R y x) ≡ false

each_at : {A : Type 0} (P : A → Type 0) (xs : List A) (k : ℕ) (x : A) → Each P xs → slice_get xs k ≡ Some x → P x
each_at P [] k x h e = cc
each_at P (y ∷ ys) zero x h e = let q : y ≡ x = cc in subst P q h.0
each_at P (y ∷ ys) (suc k) x h e = each_at P ys k x h.1 e

pub get_within : {A : Type 0} (xs : List A) (k : ℕ) (x : A) → slice_get xs k ≡ Some x → k < length xs
get_within [] k x e = cc
get_within (y ∷ ys) zero x e = omega arith
get_within (y ∷ ys) (suc k) x e = let lt = get_within ys k x e in omega (arith, lt)

-- an item that passes a test
pub any_at : {A : Type 0} (f : A → Bool) (xs : List A) (k : ℕ) (x : A) → slice_get xs k ≡ Some x → f x ≡ true → list_any f xs ≡ true
any_at f [] k x e t = cc
any_at f (y ∷ ys) zero x e t = let q : y ≡ x = cc in ap (λ z. f z || list_any f ys) q ∙ ap (λ b. b || list_any f ys) t
any_at f (y ∷ ys) (suc k) x e t = ap (λ b. f y || b) (any_at f ys k x e t) ∙ or_true (f y)

-- no item passes it
none_at : {A : Type 0} (f : A → Bool) (xs : List A) → ((k : ℕ) (x : A) → slice_get xs k ≡ Some x → f x ≡ false) → list_any f xs ≡ false
none_at f [] h = refl
none_at f (y ∷ ys) h = ap (λ b. b || list_any f ys) (h zero y refl) ∙ none_at f ys (λ k x e. h (suc k) x e)

module _ {A : Type 0} (R : A → A → Ordering) (o : IsTotalOrder R) (same : A → A → Bool) (valid : A → Bool) (tie : (x y : A) → same x y ≡ (is_eq (R x y) && valid x)) (like : (x y : A) → R x y ≡ Equal → valid x ≡ valid y) (xs : List A) (up : IsRising R valid false xs) (x : A) where
  -- an item isn't after those that stand further on
  far : (ys : List A) → IsRising R valid false ys → (i j : ℕ) (a b : A) → i ≤ j → slice_get ys i ≡ Some a → slice_get ys j ≡ Some b → is_gt (R a b) ≡ false
  far [] h i j a b le e f = cc
  far (y ∷ ys) h zero zero a b le e f = let q : y ≡ a = cc in let p : y ≡ b = cc in ap is_gt (ap (R a) (sym p ∙ q) ∙ tied_itself o a)
  far (y ∷ ys) h zero (suc j) a b le e f = let q : y ≡ a = cc in ap (λ z. is_gt (R z b)) (sym q) ∙ each_at (λ z. is_gt (R y z) ≡ false) ys j b (none_before R o same valid tie like y ys h) f
  far (y ∷ ys) h (suc i) zero a b le e f = absurd (omega (arith, le))
  far (y ∷ ys) h (suc i) (suc j) a b le e f = far ys (rising_parts R o same valid tie like false y ys h).1 i j a b (omega (arith, le)) e f

  before_still : (a b : A) → is_gt (R a b) ≡ false → is_lt (R b x) ≡ true → is_lt (R a x) ≡ true
  before_still a b n e = by (R a b) refl
    where
      by : (r : Ordering) → R a b ≡ r → is_lt (R a x) ≡ true
      by Less q = ap is_lt (o.trans a b x q (less_is (R b x) e))
      by Equal q = ap is_lt (o.congr a b x q) ∙ e
      by Greater q = absurd (false_is_no_true (sym n ∙ ap is_gt q))

  -- the middle one is before x
  pub raised : (low high middle : ℕ) (y : A) → IsNarrowed R xs x low high → middle < high → slice_get xs middle ≡ Some y → is_lt (R y x) ≡ true → IsNarrowed R xs x (middle + 1) high
  raised low high middle y h lt is e =
      record {
        ordered = omega (arith, lt);
        within = h.within;
        before = λ k z less at. before_still z y (far xs up k middle z y (omega (arith, less)) at is) e;
        after = h.after;
      }

  -- it isn't
  pub lowered : (low high middle : ℕ) (y : A) → IsNarrowed R xs x low high → low ≤ middle → middle < high → slice_get xs middle ≡ Some y → is_lt (R y x) ≡ false → IsNarrowed R xs x low middle
  lowered low high middle y h le lt is e =
      record {
        ordered = le;
        within = omega (arith, lt, h.within);
        before = h.before;
        after = λ k z from at. not_before z (is_lt (R z x)) refl (far xs up middle k y z from is at);
      }
    where
      not_before : (z : A) (b : Bool) → is_lt (R z x) ≡ b → is_gt (R y z) ≡ false → is_lt (R z x) ≡ false
      not_before z false q n = q
      not_before z true q n = absurd (false_is_no_true (sym e ∙ before_still y z n q))

  -- all are before it
  pub past_all : (low high : ℕ) → IsNarrowed R xs x low high → low ≡ length xs → is_among same xs x ≡ false
  past_all low high h e = none_at (same x) xs (λ k y at. apart_back R o same valid tie like y x (less_is (R y x) (h.before k y (omega (arith, e, get_within xs k y at)) at)))

  -- it is there where it is the first that isn't before it
  pub stands_at : (low high : ℕ) (y : A) → IsNarrowed R xs x low high → high ≤ low → slice_get xs low ≡ Some y → same x y ≡ is_among same xs x
  stands_at low high y h le at = by (same x y) refl
    where
      later : (k : ℕ) (z : A) → low ≤ k → slice_get xs k ≡ Some z → same x y ≡ false → (b : Bool) → same x z ≡ b → same x z ≡ false
      later k z from there n false q = q
      later k z from there n true q =
          let xz = tied R o same valid tie like x z q in
          let zx = tied_back o x z xz in
          let v : valid x ≡ true = sym (ap (λ r. is_eq r && valid x) xz) ∙ sym (tie x z) ∙ q in
          elim_order (R y z) refl zx v (far xs up low k y z from at there)
        where
          elim_order : (r : Ordering) → R y z ≡ r → R z x ≡ Equal → valid x ≡ true → is_gt (R y z) ≡ false → same x z ≡ false
          elim_order Less p zx v m = absurd (false_is_no_true (sym (h.after low y le at) ∙ ap is_lt (sym (alike_right o z x y zx) ∙ p)))
          elim_order Equal p zx v m = absurd (false_is_no_true (sym n ∙ same_tied R o same valid tie like x y (tied_back o y x (sym (alike_right o z x y zx) ∙ p)) v))
          elim_order Greater p zx v m = absurd (false_is_no_true (sym m ∙ ap is_gt p))

      by : (b : Bool) → same x y ≡ b → same x y ≡ is_among same xs x
      by true q = q ∙ sym (any_at (same x) xs low y at q)
      by false q =
          q ∙ sym (none_at (same x) xs (λ k z there. elim (leb_tells low k) [
            | inl from ↦ later k z from.1 there q (same x z) refl
            | inr less ↦ apart_back R o same valid tie like z x (less_is (R z x) (h.before k z less.1 there))
          ]))
