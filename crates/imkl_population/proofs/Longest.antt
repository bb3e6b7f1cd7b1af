-- The greatest length of what is written at a feature, from the feature's column.
use Rattle.std.proofs.Common.{◌≡◌, ℕ, zero, suc, ◌+◌, ◌-◌, ◌<◌, ◌≤◌, ◌==◌, List, [], ◌∷◌, ◌++◌, length, take, get_or, false, Option, None, refl, sym, ap, subst, ◌∙◌, arith, inl, inr}
use Rattle.std.specs.Prelude.{max, unwrap_or}
use Rattle.std.specs.List.{AllByRecursion}
use Rattle.std.specs.List.Sorted.{IsStrictlySortedBy}
use Rattle.std.specs.Map.{lookup, keys_of}
use Rattle.std.specs.Ordering.{nat_cmp}
use Rattle.std.specs.BTreeMap.{is_at}
use Rattle.std.proofs.Math.Nat.{max-zero, zero-max}
use Rattle.std.proofs.lemmas.Bool.{cases_eq, eq-eqb, ne_eqb}
use Rattle.std.proofs.lemmas.List.{take_more}
use Rattle.ocl_base.proofs.ForAbove.{max_assoc, all_weaker}
use Rattle.imkl_model.specs.ClassModel.{Model, feature_at}
use Rattle.imkl_model.specs.Features.{is_opposite}
use Rattle.imkl_population.specs.declared.scalar.Scalar.{Scalar}
use Rattle.imkl_population.specs.declared.object.Head.{Head}
use Rattle.imkl_population.specs.declared.entries.Entry.{Entry}
use Rattle.imkl_population.specs.Written.{written_in, IsMap}
use Rattle.imkl_population.specs.Population.{Population, values_of}
use Rattle.imkl_population.specs.Sizes.{longest_below}
use Rattle.imkl_population.specs.Store.{longest_in, object_row}
use Rattle.imkl_population.specs.Layout.{stored_content}
use Rattle.imkl_population.proofs.Encoded.{is_eq-nat_cmp}
use Rattle.imkl_population.proofs.EndLaws.{values_written}
use Rattle.imkl_population.proofs.Holdings.{Map, IsBelow, absent, above, all_from, below_here, below_later}
use Rattle.imkl_population.proofs.Layouts.{Maps, length-content, written-column}
use Rattle.imkl_population.proofs.Rows.{row-lookup}

-- ---- entry by entry

-- the greatest number of values of entries
abbrev pub longest_span : List Entry → ℕ
longest_span [] = 0
longest_span (e ∷ es) = max (e.end - e.start) (longest_span es)

span-push : (es : List Entry) (e : Entry) → longest_span (es ++ e ∷ []) ≡ max (longest_span es) (e.end - e.start)
span-push [] e = max-zero (e.end - e.start) ∙ sym (zero-max (e.end - e.start))
span-push (x ∷ es) e = ap (max (x.end - x.start)) (span-push es e) ∙ max_assoc (x.end - x.start) (longest_span es) (e.end - e.start)

-- one entry more
pub entry-longer : (es : List Entry) (i : ℕ) (e : Entry) (old new : ℕ) → i < length es → e ≡ get_or es i e → old ≡ longest_span (take i es) → new ≡ max old (e.end - e.start) → new ≡ longest_span (take (i + 1) es)
entry-longer es i e old new lt is before longer =
    let grown : take (i + 1) es ≡ take i es ++ e ∷ [] = take_more es i e lt ∙ ap (λ (x : Entry). take i es ++ x ∷ []) (sym is) in
    longer ∙ ap (λ (n : ℕ). max n (e.end - e.start)) before ∙ sym (ap longest_span grown ∙ span-push (take i es) e)

-- ---- object by object

-- the greatest of m objects from a on, by what a map has for each
abbrev longest_from : Map → ℕ → ℕ → ℕ
longest_from w a zero = 0
longest_from w a (suc m) = max (length (written_in w a)) (longest_from w (suc a) m)

passed : (e : ℕ × List Scalar) (w : Map) (a m : ℕ) → e.0 < a → longest_from (e ∷ w) a m ≡ longest_from w a m
passed e w a zero lt = refl
passed e w a (suc m) lt =
    let apart : (e.0 == a) ≡ false = ne_eqb e.0 a (λ same. absurd (omega (arith, lt, same))) in
    rw (is_eq-nat_cmp a e.0, apart, passed e w (suc a) m (omega (arith, lt))) refl

nothing_from : (a m : ℕ) → longest_from [] a m ≡ 0
nothing_from a zero = refl
nothing_from a (suc m) = zero-max (longest_from [] (suc a) m) ∙ nothing_from (suc a) m

-- the objects have the greatest of the entries
met : (w : Map) (a m : ℕ) → IsMap w → AllByRecursion (λ k. a ≤ k) (keys_of w) → IsBelow (a + m) w → longest_from w a m ≡ longest_in w
unfolding IsStrictlySortedBy
met [] a m sorted from below = nothing_from a m
met (e ∷ w) a zero sorted from below = absurd (below_here e w (a + 0) below (omega (arith, from.0)))
met (e ∷ w) a (suc m) sorted from below =
    let n : a + suc m ≡ suc a + m = omega arith in
    let below2 : IsBelow (suc a + m) (e ∷ w) = subst (λ (k : ℕ). IsBelow k (e ∷ w)) n below in
    elim (cases_eq e.0 a) [
      | inl same ↦
          let here : written_in (e ∷ w) a ≡ e.1 = rw (is_eq-nat_cmp a e.0, eq-eqb e.0 a same) refl in
          let rest : AllByRecursion (λ k. suc a ≤ k) (keys_of w) = subst (λ (k : ℕ). AllByRecursion (λ j. suc k ≤ j) (keys_of w)) same (above w e.0 sorted.0) in
          rw (here, passed e w (suc a) m (omega (arith, same)), met w (suc a) m sorted.1 rest (below_later e w (suc a + m) below2)) refl
      | inr apart ↦
          let lt : a < e.0 = omega (arith, from.0, apart) in
          let all : AllByRecursion (λ k. suc a ≤ k) (keys_of (e ∷ w)) = (omega (arith, lt), all_weaker (λ k. suc e.0 ≤ k) (λ k. suc a ≤ k) (λ k le. omega (arith, le, lt)) (keys_of w) (above w e.0 sorted.0)) in
          let none : lookup (is_at (nat_cmp a)) (e ∷ w) ≡ None = absent (e ∷ w) a (all_weaker (λ k. suc a ≤ k) (λ k. a < k) (λ k le. omega (arith, le)) (keys_of (e ∷ w)) all) in
          let nothing : written_in (e ∷ w) a ≡ [] = ap (λ (r : Option (List Scalar)). unwrap_or r []) none in
          rw nothing (zero-max (longest_from (e ∷ w) (suc a) m) ∙ met (e ∷ w) (suc a) m sorted all below2)
    ]

-- the greatest of the objects below n, object by object
joined : (p : Population) (f : ℕ) (w : Map) (n : ℕ) → ((o : ℕ) → o < n → values_of p o f ≡ written_in w o) → (a m : ℕ) → a + m ≡ n → longest_below p f n ≡ max (longest_below p f a) (longest_from w a m)
joined p f w n same a zero e =
    let here : a ≡ n = omega (arith, e) in
    ap (longest_below p f) (sym here) ∙ sym (max-zero (longest_below p f a))
joined p f w n same a (suc m) e =
    joined p f w n same (suc a) m (omega (arith, e))
    ∙ ap (λ (vs : List Scalar). max (max (longest_below p f a) (length vs)) (longest_from w (suc a) m)) (same a (omega (arith, e)))
    ∙ sym (max_assoc (longest_below p f a) (length (written_in w a)) (longest_from w (suc a) m))

-- the greatest length of what is written at a feature is that in its column
pub longest-stored : (m : Model) (hs : List Head) (maps : Maps) (f : ℕ) → IsMap (get_or maps f []) → ((o : ℕ) → length (stored_content m hs maps).objects ≤ o → object_row maps o ≡ []) → is_opposite (feature_at m f).role ≡ false
    → longest_in (get_or maps f []) ≡ longest_below (stored_content m hs maps) f (length (stored_content m hs maps).objects)
longest-stored m hs maps f sorted idle written =
    let p : Population = stored_content m hs maps in
    let w : Map = get_or maps f [] in
    let n : ℕ = length p.objects in
    let none : 0 + n ≡ n = omega arith in
    let same : (o : ℕ) → o < n → values_of p o f ≡ written_in w o = λ o lt. values_written p o f written ∙ written-column m hs maps o f (omega (arith, lt, length-content m hs maps)) in
    let below : IsBelow n w = λ o le. sym (row-lookup maps f o) ∙ ap (λ (r : Map). lookup (is_at (nat_cmp f)) r) (idle o le) in
    sym (joined p f w n same 0 n none ∙ ap (max 0) (met w 0 n sorted (all_from (keys_of w)) (subst (λ (k : ℕ). IsBelow k w) (sym none) below)) ∙ zero-max (longest_in w))
