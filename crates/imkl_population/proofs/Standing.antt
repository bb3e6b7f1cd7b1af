-- Values that stand: counted, and copied without those that were replaced.
use Rattle.std.proofs.Common.{◌≡◌, ℕ, zero, suc, ◌+◌, ◌-◌, ◌<◌, List, [], ◌∷◌, ◌++◌, length, map, take, set, get_or, sym, ap, subst, ◌∙◌, arith, length-append, slice_range, All}
use Rattle.std.proofs.lemmas.List.{take_more, take_more_set, map-append}
use Rattle.std.proofs.lemmas.List.Elements.{All-push}
use Rattle.std.specs.Prelude.{min}
use Rattle.std.specs.List.Sorted.{IsStrictlySortedBy}
use Rattle.std.specs.Map.{keys_of}
use Rattle.std.specs.Ordering.{nat_cmp}
use Rattle.imkl_population.specs.declared.scalar.Scalar.{Scalar}
use Rattle.imkl_population.specs.declared.entries.Entry.{Entry}
use Rattle.imkl_population.specs.declared.store.Segment.{Segment}
use Rattle.imkl_population.specs.Store.{Stored, entry_of, objects_in, range_of, map_of, maps_of, standing, AllStand, IsEntry, IsLaidOut}
use Rattle.imkl_population.proofs.Stored.{seen, map-seen, entries-more, within-more, slice_range-new, keys_of-entries}

-- one range more
standing-push : (rs : List (ℕ × Segment)) (r : ℕ × Segment) → standing (rs ++ r ∷ []) ≡ standing rs + (r.1.end - r.1.start)
standing-push [] r = omega arith
standing-push (x ∷ rs) r = omega (arith, standing-push rs r)

-- one entry more
ranges-push : (es : List Entry) (e : Entry) → standing (map range_of (es ++ e ∷ [])) ≡ standing (map range_of es) + (e.end - e.start)
ranges-push es e = ap standing (map-append range_of es (e ∷ [])) ∙ standing-push (map range_of es) (range_of e)

-- entries up to a place, and one more
entry_more : (es : List Entry) (i : ℕ) (e : Entry) → i < length es → e ≡ get_or es i e → take (i + 1) es ≡ take i es ++ e ∷ []
entry_more es i e lt is = take_more es i e lt ∙ ap (λ (x : Entry). take i es ++ x ∷ []) (sym is)

-- counted up to a number
pub standing-more : (es : List Entry) (i : ℕ) (e : Entry) (old most new : ℕ) → i < length es → e ≡ get_or es i e → old ≡ min (standing (map range_of (take i es))) most
    → new ≡ min (old + (e.end - e.start)) most → new ≡ min (standing (map range_of (take (i + 1) es))) most
standing-more es i e old most new lt is before sum =
    let more = ap (λ (l : List Entry). standing (map range_of l)) (entry_more es i e lt is) ∙ ranges-push (take i es) e in
    omega (arith, before, sum, more)

-- ---- copies

-- entries show in a list of copies what others show in another list, and no other values stand in it
pub record AreCopied (s0 : List Scalar) (from : List Entry) (s : List Scalar) (es : List Entry) : Type 0 where
  pub within : All (IsEntry (length s)) es
  pub shown : map (entry_of s) es ≡ map (entry_of s0) from
  pub count : length s ≡ standing (map range_of es)

module _ (s0 s s1 : List Scalar) (all es new : List Entry) (i : ℕ) (e x : Entry) (vs : List Scalar) (inside : i < length all) (is : e ≡ get_or all i e) (before : AreCopied s0 (take i all) s es)
    (shows : vs ≡ slice_range s0 e.start e.end) (grown : s1 ≡ s ++ vs) (object : x.object ≡ e.object) (start : x.start ≡ length s) (end : x.end ≡ length s1) (pushed : new ≡ es ++ x ∷ []) where
  so_long : length s1 ≡ length s + length vs
  so_long = ap length grown ∙ length-append s vs

  all_within : All (IsEntry (length s1)) new
  all_within =
      let earlier = within-more (length s) (length s1) es (omega (arith, so_long)) before.within in
      subst (All (IsEntry (length s1))) (sym pushed) (All-push (IsEntry (length s1)) es x earlier (omega (arith, start, end, so_long), omega (arith, end)))

  same_entries : map (entry_of s1) es ≡ map (entry_of s) es
  same_entries = rw grown (entries-more s vs es before.within)

  copy_shows : slice_range s1 x.start x.end ≡ vs
  copy_shows = rw grown (slice_range-new s vs x.start x.end start (end ∙ so_long))

  all_shown : map (entry_of s1) new ≡ map (entry_of s0) (take (i + 1) all)
  all_shown =
      ap (map (entry_of s1)) pushed ∙ map-append (entry_of s1) es (x ∷ [])
      ∙ ap (λ (l : List (ℕ × List Scalar)). l ++ entry_of s1 x ∷ []) (same_entries ∙ before.shown)
      ∙ ap (λ (o : ℕ). map (entry_of s0) (take i all) ++ (o, slice_range s1 x.start x.end) ∷ []) object
      ∙ ap (λ (l : List Scalar). map (entry_of s0) (take i all) ++ (e.object, l) ∷ []) (copy_shows ∙ shows)
      ∙ sym (ap (map (entry_of s0)) (entry_more all i e inside is) ∙ map-append (entry_of s0) (take i all) (e ∷ []))

  -- the values of one entry more are copied
  pub entry-copied : AreCopied s0 (take (i + 1) all) s1 new
  entry-copied =
      let more = ap (λ (l : List Entry). standing (map range_of l)) pushed ∙ ranges-push es x in
      record { within = all_within; shown = all_shown; count = omega (arith, more, before.count, start, end, so_long) }

module _ (s0 s : List Scalar) (all es : List Entry) (copied : AreCopied s0 all s es) where
  -- the copies are laid out
  pub copied-laid_out : IsLaidOut s0 all → IsLaidOut s es
  copied-laid_out laid =
      let objects : objects_in all ≡ objects_in es = sym (keys_of-entries s0 all) ∙ ap keys_of (sym copied.shown) ∙ keys_of-entries s es in
      record { within = copied.within; ascend = subst (IsStrictlySortedBy nat_cmp) objects laid.ascend }

  -- they have the same map
  pub copied-map : map_of (seen s es) ≡ map_of (seen s0 all)
  copied-map = map-seen s es ∙ copied.shown ∙ sym (map-seen s0 all)

-- ---- a column among others

-- a column of the same map leaves all maps
pub maps-kept : (cs : List Stored) (f : ℕ) (old new : Stored) → f < length cs → old ≡ get_or cs f old → map_of new ≡ map_of old → maps_of (set cs f new) ≡ maps_of cs
maps-kept [] f old new lt is same = absurd (omega arith)
maps-kept (c ∷ cs) zero old new lt is same = ap (λ (w : List (ℕ × List Scalar)). w ∷ maps_of cs) (same ∙ ap map_of is)
maps-kept (c ∷ cs) (suc f) old new lt is same = ap (λ (l : List (List (ℕ × List Scalar))). map_of c ∷ l) (maps-kept cs f old new (omega arith) is same)

-- where earlier columns have no replaced values, and this one has none, that holds up to it
pub stand-more : (cs : List Stored) (f : ℕ) (new : Stored) → f < length cs → AllStand new → All AllStand (take f cs) → All AllStand (take (f + 1) (set cs f new))
stand-more cs f new lt here before = subst (All AllStand) (sym (take_more_set cs f new lt)) (All-push AllStand (take f cs) new before here)
