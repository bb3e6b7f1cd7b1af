-- The pairs of an association, from the column of its source end; and its holders, from pairs in the order of their
-- targets.
use Rattle.std.proofs.Common.{◌≡◌, ℕ, zero, suc, ◌+◌, ◌<◌, ◌≤◌, ◌==◌, ◌&&◌, not, List, [], ◌∷◌, ◌++◌, length, map, take, filter, get_or, slice_range, Bool, true, false, cond, Option, Some, None, Less, refl, sym, ap, subst, ◌∙◌, arith, append_assoc, All, inl, inr, if◌then◌else◌}
use Rattle.std.specs.Prelude.{unwrap_or}
use Rattle.std.specs.List.{AllByRecursion}
use Rattle.std.specs.List.Sorted.{IsStrictlySortedBy, IsStableByKey, ties}
use Rattle.std.specs.Map.{lookup, keys_of}
use Rattle.std.specs.Ordering.{nat_cmp, is_lt}
use Rattle.std.specs.BTreeMap.{insert_entry, is_at}
use Rattle.std.proofs.lemmas.Bool.Decides.{nat_tests}
use Rattle.std.proofs.lemmas.Bool.{eq-eqb, ne_eqb, eqb-true, cases_eq}
use Rattle.std.proofs.lemmas.List.{append-nil, map-append, take_more}
use Rattle.std.proofs.lemmas.List.Elements.{All-nil, All-cons, All-append, All-head, All-tail, All-weaker, All-push, filter_map-append}
use Rattle.ocl_base.proofs.ForAbove.{all_weaker}
use Rattle.imkl_population.specs.declared.scalar.Scalar.{Scalar}
use Rattle.imkl_population.specs.declared.scalar.Scalar.TheVariants as scalar
use Rattle.imkl_population.specs.declared.object.Head.{Head}
use Rattle.imkl_model.specs.ClassModel.{Model}
use Rattle.imkl_population.specs.Written.{written_in, IsMap}
use Rattle.imkl_population.specs.Building.{as_objects}
use Rattle.imkl_population.specs.Population.{Population, target_of, targets, pairs_of, pairs_below, pairs, holders_of, written_at}
use Rattle.imkl_population.specs.declared.entries.Entry.{Entry}
use Rattle.imkl_population.specs.Store.{pairs_in, object_row, entry_of}
use Rattle.imkl_population.specs.Layout.{stored_content}
use Rattle.imkl_population.proofs.Encoded.{is_eq-nat_cmp}
use Rattle.imkl_population.proofs.ForAbove.{lookup-put}
use Rattle.imkl_population.proofs.Pairs.{holders_of-append}
use Rattle.imkl_population.proofs.Stored.{less_is}
use Rattle.imkl_population.proofs.Rows.{row-lookup}
use Rattle.imkl_population.proofs.Layouts.{length-content, written-column}

abbrev pub Map : Type 0
Map = List (ℕ × List Scalar)

-- ---- the holders of all pairs are objects that are there

pairs_of-known : (holder n : ℕ) (ts : List ℕ) → holder < n → All (λ (q : ℕ × ℕ). q.0 < n) (map (λ (t : ℕ). (holder, t)) ts)
pairs_of-known holder n [] lt = All-nil (λ (q : ℕ × ℕ). q.0 < n)
pairs_of-known holder n (t ∷ ts) lt = All-cons (λ (q : ℕ × ℕ). q.0 < n) (holder, t) (map (λ (t : ℕ). (holder, t)) ts) lt (pairs_of-known holder n ts lt)

pairs_below-known : (p : Population) (source n : ℕ) → All (λ q. q.0 < n) (pairs_below p source n)
pairs_below-known p source zero = All-nil (λ (q : ℕ × ℕ). q.0 < 0)
pairs_below-known p source (suc n) =
    let P : ℕ × ℕ → Type 0 = λ q. q.0 < suc n in
    All-append P (pairs_below p source n) (pairs_of n (written_at p n source))
    (All-weaker (λ q. q.0 < n) P (λ q lt. omega (arith, lt)) (pairs_below p source n) (pairs_below-known p source n))
    (pairs_of-known n (suc n) (targets (written_at p n source)) (omega arith))

pub pairs-known : (p : Population) (source : ℕ) → All (λ q. q.0 < length p.objects) (pairs p source)
pairs-known p source = pairs_below-known p source (length p.objects)

-- ---- all objects, or the entries of a column

-- the pairs of m objects from a on, by what a map has for each
abbrev pairs_from : Map → ℕ → ℕ → List (ℕ × ℕ)
pairs_from w a zero = []
pairs_from w a (suc m) = pairs_of a (written_in w a) ++ pairs_from w (suc a) m

-- nothing is at a key before all
pub absent : (w : Map) (a : ℕ) → AllByRecursion (λ k. a < k) (keys_of w) → lookup (is_at (nat_cmp a)) w ≡ None
absent [] a h = refl
absent (e ∷ w) a h =
    let apart : (e.0 == a) ≡ false = ne_eqb e.0 a (λ same. absurd (omega (arith, h.0, same))) in
    rw (is_eq-nat_cmp a e.0, apart) (absent w a h.1)

-- the first entry is met before the others
passed : (e : ℕ × List Scalar) (w : Map) (a m : ℕ) → e.0 < a → pairs_from (e ∷ w) a m ≡ pairs_from w a m
passed e w a zero lt = refl
passed e w a (suc m) lt =
    let apart : (e.0 == a) ≡ false = ne_eqb e.0 a (λ same. absurd (omega (arith, lt, same))) in
    rw (is_eq-nat_cmp a e.0, apart, passed e w (suc a) m (omega (arith, lt))) refl

nothing_from : (a m : ℕ) → pairs_from [] a m ≡ []
nothing_from a zero = refl
nothing_from a (suc m) = nothing_from (suc a) m

-- nothing is at a key from n on
abbrev pub IsBelow : ℕ → Map → Type 0
IsBelow n w = (o : ℕ) → n ≤ o → lookup (is_at (nat_cmp o)) w ≡ None

-- where nothing is at a key from n on, the first entry is below n
pub below_here : (e : ℕ × List Scalar) (w : Map) (n : ℕ) → IsBelow n (e ∷ w) → n ≤ e.0 → ⊥
below_here e w n below le =
    let here : lookup (is_at (nat_cmp e.0)) (e ∷ w) ≡ Some e.1 = rw (is_eq-nat_cmp e.0 e.0, eq-eqb e.0 e.0 refl) refl in
    let bad : Some e.1 ≡ None = sym here ∙ below e.0 le in
    cc

later_none : (b : Bool) (vs : List Scalar) (r : Option (List Scalar)) → cond b (Some vs) r ≡ None → r ≡ None
later_none true vs r h = absurd (let bad : Some vs ≡ None = h in cc)
later_none false vs r h = h

-- where nothing is at a key from n on, nothing is there among the later entries either
pub below_later : (e : ℕ × List Scalar) (w : Map) (n : ℕ) → IsBelow n (e ∷ w) → IsBelow n w
below_later e w n below o le =
    let b : Bool = e.0 == o in
    later_none b e.1 (lookup (is_at (nat_cmp o)) w) (rw (is_eq-nat_cmp o e.0) at (below o le))

-- keys that come after a in order are at least a + 1
pub above : (w : Map) (a : ℕ) → AllByRecursion (λ k. nat_cmp a k ≡ Less) (keys_of w) → AllByRecursion (λ k. suc a ≤ k) (keys_of w)
above w a h = all_weaker (λ k. nat_cmp a k ≡ Less) (λ k. suc a ≤ k) (λ k c. omega (arith, less_is a k c)) (keys_of w) h

-- each number is at least 0
pub all_from : (ks : List ℕ) → AllByRecursion (λ k. 0 ≤ k) ks
all_from [] = tt
all_from (k ∷ ks) = (omega arith, all_from ks)

-- the objects have the pairs of the entries
met : (w : Map) (a m : ℕ) → IsMap w → AllByRecursion (λ k. a ≤ k) (keys_of w) → IsBelow (a + m) w → pairs_from w a m ≡ pairs_in w
unfolding IsStrictlySortedBy
met [] a m sorted from below = nothing_from a m
met (e ∷ w) a zero sorted from below = absurd (below_here e w (a + 0) below (omega (arith, from.0)))
met (e ∷ w) a (suc m) sorted from below =
    let n : a + suc m ≡ suc a + m = omega arith in
    let below2 : IsBelow (suc a + m) (e ∷ w) = subst (λ (k : ℕ). IsBelow k (e ∷ w)) n below in
    elim (cases_eq e.0 a) [
      | inl same ↦
          let here : written_in (e ∷ w) a ≡ e.1 = rw (is_eq-nat_cmp a e.0, eq-eqb e.0 a same) refl in
          let rest : AllByRecursion (λ k. suc a ≤ k) (keys_of w) = subst (λ (k : ℕ). AllByRecursion (λ j. suc k ≤ j) (keys_of w)) same (above w e.0 sorted.0) in
          rw (here, passed e w (suc a) m (omega (arith, same)), met w (suc a) m sorted.1 rest (below_later e w (suc a + m) below2), same) refl
      | inr apart ↦
          let lt : a < e.0 = omega (arith, from.0, apart) in
          let all : AllByRecursion (λ k. suc a ≤ k) (keys_of (e ∷ w)) = (omega (arith, lt), all_weaker (λ k. suc e.0 ≤ k) (λ k. suc a ≤ k) (λ k le. omega (arith, le, lt)) (keys_of w) (above w e.0 sorted.0)) in
          let none : lookup (is_at (nat_cmp a)) (e ∷ w) ≡ None = absent (e ∷ w) a (all_weaker (λ k. suc a ≤ k) (λ k. a < k) (λ k le. omega (arith, le)) (keys_of (e ∷ w)) all) in
          let nothing : written_in (e ∷ w) a ≡ [] = ap (λ (r : Option (List Scalar)). unwrap_or r []) none in
          rw nothing (met (e ∷ w) (suc a) m sorted all below2)
    ]

-- the pairs of the objects below n, object by object
joined : (p : Population) (source : ℕ) (w : Map) (n : ℕ) → ((o : ℕ) → o < n → written_at p o source ≡ written_in w o) → (a m : ℕ) → a + m ≡ n → pairs_below p source n ≡ pairs_below p source a ++ pairs_from w a m
joined p source w n same a zero e =
    let here : a ≡ n = omega (arith, e) in
    ap (pairs_below p source) (sym here) ∙ sym (append-nil (pairs_below p source a))
joined p source w n same a (suc m) e =
    joined p source w n same (suc a) m (omega (arith, e))
    ∙ rw (same a (omega (arith, e))) (append_assoc (pairs_below p source a) (pairs_of a (written_in w a)) (pairs_from w (suc a) m))

-- the pairs of an association are those of the column of its source end
pub column-pairs : (p : Population) (source : ℕ) (w : Map) → IsMap w → ((o : ℕ) → o < length p.objects → written_at p o source ≡ written_in w o) → IsBelow (length p.objects) w → pairs_in w ≡ pairs p source
column-pairs p source w sorted same below =
    let n : ℕ = length p.objects in
    let none : 0 + n ≡ n = omega arith in
    sym (joined p source w n same 0 n none ∙ met w 0 n sorted (all_from (keys_of w)) (subst (λ (k : ℕ). IsBelow k w) (sym none) below))

-- the same, in a builder, whose columns have nothing for objects that aren't there
pub builder-pairs : (m : Model) (hs : List Head) (maps : List Map) (p : Population) (source : ℕ) → stored_content m hs maps ≡ p → ((o : ℕ) → length hs ≤ o → object_row maps o ≡ []) → IsMap (get_or maps source [])
    → pairs_in (get_or maps source []) ≡ pairs p source
builder-pairs m hs maps p source view idle sorted =
    let w : Map = get_or maps source [] in
    let count : length (stored_content m hs maps).objects ≡ length hs = length-content m hs maps in
    column-pairs (stored_content m hs maps) source w sorted
    (λ o lt. written-column m hs maps o source (omega (arith, lt, count)))
    (λ o le. sym (row-lookup maps source o) ∙ ap (λ (r : Map). lookup (is_at (nat_cmp source)) r) (idle o (omega (arith, le, count))))
    ∙ ap (λ (q : Population). pairs q source) view

-- ---- pairs in the order of their targets

tie_by : (a o : ℕ) → (not (is_lt (nat_cmp o a)) && not (is_lt (nat_cmp a o))) ≡ (a == o)
tie_by a o = grind (arith, nat_tests)

same_filter : {A : Type 0} (p q : A → Bool) → ((a : A) → p a ≡ q a) → (xs : List A) → filter p xs ≡ filter q xs
same_filter p q h [] = refl
same_filter p q h (x ∷ xs) = rw (h x, same_filter p q h xs) refl

-- a stable sort by target keeps the holders of each target in their order
pub sorted-holders : (qs rs : List (ℕ × ℕ)) → IsStableByKey (λ q. q.1) nat_cmp qs rs → (o : ℕ) → holders_of o rs ≡ holders_of o qs
sorted-holders qs rs stable o =
    let tied : (q : ℕ × ℕ) → ties (λ (x y : ℕ × ℕ). is_lt (nat_cmp x.1 y.1)) (0, o) q ≡ (q.1 == o) = λ q. tie_by q.1 o in
    let P : ℕ × ℕ → Bool = ties (λ (x y : ℕ × ℕ). is_lt (nat_cmp x.1 y.1)) (0, o) in
    let Q : ℕ × ℕ → Bool = λ q. q.1 == o in
    ap (map (λ (q : ℕ × ℕ). q.0)) (sym (same_filter P Q tied rs) ∙ stable (0, o) ∙ same_filter P Q tied qs)

-- one pair more
pub holders-push : (qs : List (ℕ × ℕ)) (q : ℕ × ℕ) (o : ℕ) → holders_of o (qs ++ q ∷ []) ≡ holders_of o qs ++ (if q.1 == o then q.0 ∷ [] else [])
holders-push qs q o = holders_of-append o qs (q ∷ []) ∙ ap (λ (l : List ℕ). holders_of o qs ++ l) (one (q.1 == o) refl)
  where
    one : (b : Bool) → (q.1 == o) ≡ b → holders_of o (q ∷ []) ≡ (if b then q.0 ∷ [] else [])
    one true e = rw e refl
    one false e = rw e refl

-- a target that all pairs come before has no holders
pub no_holders : (qs : List (ℕ × ℕ)) (o : ℕ) → All (λ q. q.1 < o) qs → holders_of o qs ≡ []
no_holders [] o h = refl
no_holders (q ∷ qs) o h =
    rw (ne_eqb q.1 o (λ same. absurd (omega (arith, same, All-head (λ (q : ℕ × ℕ). q.1 < o) q qs h)))) (no_holders qs o (All-tail (λ (q : ℕ × ℕ). q.1 < o) q qs h))

-- ---- pairs as they are gathered

pairs_of-append : (holder : ℕ) (vs ws : List Scalar) → pairs_of holder (vs ++ ws) ≡ pairs_of holder vs ++ pairs_of holder ws
pairs_of-append holder vs ws = ap (map (λ (t : ℕ). (holder, t))) (filter_map-append target_of vs ws) ∙ map-append (λ (t : ℕ). (holder, t)) (targets vs) (targets ws)

-- one value more
pub values-more : (qs old new : List (ℕ × ℕ)) (holder i : ℕ) (vs : List Scalar) (v : Scalar) → i < length vs → v ≡ get_or vs i v → old ≡ qs ++ pairs_of holder (take i vs) → new ≡ old ++ pairs_of holder (v ∷ [])
    → new ≡ qs ++ pairs_of holder (take (i + 1) vs)
values-more qs old new holder i vs v lt is before more =
    let grown : take (i + 1) vs ≡ take i vs ++ v ∷ [] = take_more vs i v lt ∙ ap (λ (x : Scalar). take i vs ++ x ∷ []) (sym is) in
    more ∙ ap (λ (l : List (ℕ × ℕ)). l ++ pairs_of holder (v ∷ [])) before ∙ append_assoc qs (pairs_of holder (take i vs)) (pairs_of holder (v ∷ []))
    ∙ ap (λ (l : List (ℕ × ℕ)). qs ++ l) (sym (ap (pairs_of holder) grown ∙ pairs_of-append holder (take i vs) (v ∷ [])))

pairs_in-push : (w : Map) (e : ℕ × List Scalar) → pairs_in (w ++ e ∷ []) ≡ pairs_in w ++ pairs_of e.0 e.1
pairs_in-push [] e = append-nil (pairs_of e.0 e.1)
pairs_in-push (x ∷ w) e = rw (pairs_in-push w e) (sym (append_assoc (pairs_of x.0 x.1) (pairs_in w) (pairs_of e.0 e.1)))

-- one entry more
pub entries-met : (s : List Scalar) (es : List Entry) (i : ℕ) (e : Entry) (old new : List (ℕ × ℕ)) (vs : List Scalar) → i < length es → e ≡ get_or es i e → old ≡ pairs_in (map (entry_of s) (take i es)) → vs ≡ slice_range s e.start e.end
    → new ≡ old ++ pairs_of e.object vs → new ≡ pairs_in (map (entry_of s) (take (i + 1) es))
entries-met s es i e old new vs lt is before shown more =
    let grown : take (i + 1) es ≡ take i es ++ e ∷ [] = take_more es i e lt ∙ ap (λ (x : Entry). take i es ++ x ∷ []) (sym is) in
    more ∙ ap (λ (l : List (ℕ × ℕ)). l ++ pairs_of e.object vs) before ∙ ap (λ (l : List Scalar). pairs_in (map (entry_of s) (take i es)) ++ pairs_of e.object l) shown
    ∙ sym (ap (λ (l : List Entry). pairs_in (map (entry_of s) l)) grown ∙ ap pairs_in (map-append (entry_of s) (take i es) (e ∷ [])) ∙ pairs_in-push (map (entry_of s) (take i es)) (entry_of s e))

-- ---- holders moved to their target

put_by : (b : Bool) (vs : List Scalar) (r : Option (List Scalar)) → (b ≡ true → unwrap_or r [] ≡ []) → unwrap_or (cond b (Some vs) r) [] ≡ unwrap_or r [] ++ (if b then vs else [])
put_by true vs r none = rw (none refl) refl
put_by false vs r none = sym (append-nil (unwrap_or r []))

-- values put at an object without any are behind what stands at each
pub put-written : (w new : Map) (t : ℕ) (vs : List Scalar) → new ≡ insert_entry nat_cmp w t vs → written_in w t ≡ [] → (o : ℕ) → written_in new o ≡ written_in w o ++ (if t == o then vs else [])
put-written w new t vs put none o =
    ap (λ (m : Map). written_in m o) put ∙ ap (λ (r : Option (List Scalar)). unwrap_or r []) (lookup-put t o vs w)
    ∙ put_by (t == o) vs (lookup (is_at (nat_cmp o)) w) (λ same. ap (written_in w) (sym (eqb-true t o same)) ∙ none)

-- ---- pairs met one by one

-- what the column and the holders that are not yet moved have
abbrev pub AreMet : Map → ℕ → List Scalar → List (ℕ × ℕ) → Type 0
AreMet w t vs qs = (o : ℕ) → written_in w o ++ (if t == o then vs else []) ≡ as_objects (holders_of o qs)

first_empty : (xs ys : List Scalar) → xs ++ ys ≡ [] → xs ≡ []
first_empty [] ys h = refl
first_empty (x ∷ xs) ys h = absurd (let bad : x ∷ (xs ++ ys) ≡ [] = h in cc)

-- a later target has nothing yet
pub none-ahead : (w : Map) (t next : ℕ) (vs : List Scalar) (qs : List (ℕ × ℕ)) → AreMet w t vs qs → written_in w t ≡ [] → All (λ q. q.1 ≤ t) qs → t ≤ next → written_in w next ≡ []
none-ahead w t next vs qs met none low ahead =
    elim (cases_eq t next) [
      | inl same ↦ ap (written_in w) (sym same) ∙ none
      | inr apart ↦ first_empty (written_in w next) (if t == next then vs else [])
          (met next ∙ ap as_objects (no_holders qs next (All-weaker (λ q. q.1 ≤ t) (λ q. q.1 < next) (λ q le. omega (arith, le, ahead, apart)) qs low)))
    ]

one_more : (b : Bool) (xs vs : List Scalar) (ys : List ℕ) (h : ℕ) → xs ++ (if b then vs else []) ≡ as_objects ys → xs ++ (if b then vs ++ scalar.Object h ∷ [] else []) ≡ as_objects (ys ++ (if b then h ∷ [] else []))
one_more true xs vs ys h met = sym (append_assoc xs vs (scalar.Object h ∷ [])) ∙ ap (λ (l : List Scalar). l ++ scalar.Object h ∷ []) met ∙ sym (map-append scalar.Object ys (h ∷ []))
one_more false xs vs ys h met = met ∙ ap as_objects (sym (append-nil ys))

-- one pair more
pub met-more : (w : Map) (vs : List Scalar) (qs : List (ℕ × ℕ)) (i : ℕ) (q d : ℕ × ℕ) → i < length qs → q ≡ get_or qs i q → AreMet w q.1 vs (take i qs) → AreMet w q.1 (vs ++ scalar.Object q.0 ∷ []) (take (i + 1) qs)
met-more w vs qs i q d lt is met o =
    let grown : take (i + 1) qs ≡ take i qs ++ q ∷ [] = take_more qs i q lt ∙ ap (λ (x : ℕ × ℕ). take i qs ++ x ∷ []) (sym is) in
    one_more (q.1 == o) (written_in w o) vs (holders_of o (take i qs)) q.0 (met o) ∙ ap as_objects (sym (holders-push (take i qs) q o) ∙ ap (holders_of o) (sym grown))

-- its target is the greatest, and none that follows is less
pub low-more : (qs : List (ℕ × ℕ)) (i t : ℕ) (q : ℕ × ℕ) → i < length qs → q ≡ get_or qs i q → All (λ r. r.1 ≤ t) (take i qs) → t ≤ q.1 → All (λ r. r.1 ≤ q.1) (take (i + 1) qs)
low-more qs i t q lt is low ahead =
    subst (All (λ r. r.1 ≤ q.1)) (sym (take_more qs i q lt ∙ ap (λ (x : ℕ × ℕ). take i qs ++ x ∷ []) (sym is)))
    (All-push (λ r. r.1 ≤ q.1) (take i qs) q (All-weaker (λ r. r.1 ≤ t) (λ r. r.1 ≤ q.1) (λ r le. omega (arith, le, ahead)) (take i qs) low) (omega arith))

-- a value that is no object has no pair
pub no-pair : (holder : ℕ) (v : Scalar) → ((t : ℕ) → v ≡ scalar.Object t → ⊥) → pairs_of holder (v ∷ []) ≡ []
no-pair holder (scalar.Object t) none = absurd (none t refl)
no-pair holder (scalar.Bool b) none = refl
no-pair holder (scalar.Int n) none = refl
no-pair holder (scalar.Text s) none = refl
no-pair holder (scalar.Literal e l) none = refl
