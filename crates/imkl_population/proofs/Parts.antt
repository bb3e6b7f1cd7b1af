-- The values and instances of a finished population as parts of its two lists.
use Rattle.std.proofs.Common.{◌≡◌, ℕ, zero, suc, ◌<◌, Bool, true, false, cond, List, [], ◌∷◌, length, map, get_or, slice_range, Option, Some, All, refl, sym, ap, subst, ◌∙◌, arith, inl, inr}
use Rattle.std.specs.Prelude.{unwrap_or}
use Rattle.std.specs.Map.{lookup}
use Rattle.std.specs.Ordering.{nat_cmp, is_eq}
use Rattle.std.specs.BTreeMap.{is_at}
use Rattle.std.proofs.lemmas.Bool.{cases_Bool}
use Rattle.std.proofs.lemmas.List.Elements.{All-head, All-tail}
use Rattle.imkl_model.specs.ClassModel.{Model, feature_at}
use Rattle.imkl_model.specs.Features.{is_opposite}
use Rattle.imkl_population.specs.declared.scalar.Scalar.{Scalar}
use Rattle.imkl_population.specs.declared.object.Head.{Head}
use Rattle.imkl_population.specs.declared.store.Segment.{Segment}
use Rattle.imkl_population.specs.Written.{written_in}
use Rattle.imkl_population.specs.Population.{Population, values_of}
use Rattle.imkl_population.specs.Store.{AreSegments, IsSegment, maps_in, rows, values_in}
use Rattle.imkl_population.specs.Layout.{stored_content, finished_of, IsFinished}
use Rattle.imkl_population.specs.FinishedPopulation.{FinishedPopulation, no_segment, range_in, range_at, IsPart, AreValueRanges, AreInstanceRanges}
use Rattle.imkl_population.proofs.EndLaws.{ends_values, values_written}
use Rattle.imkl_population.proofs.Layouts.{length-content, written-column}
use Rattle.imkl_population.proofs.Rows.{row-lookup, rows-at}

no_part : (xs : List Scalar) → IsPart xs no_segment []
no_part xs = record { ordered = omega arith; within = omega arith; picked = refl }

part_first : (b : Bool) (xs : List Scalar) (s : Segment) (q : Option Segment) (r : Option (List Scalar)) → IsSegment (length xs) s → IsPart xs (unwrap_or q no_segment) (unwrap_or r [])
    → IsPart xs (unwrap_or (cond b (Some s) q) no_segment) (unwrap_or (cond b (Some (slice_range xs s.start s.end)) r) [])
part_first true xs s q r h later = record { ordered = h.0; within = h.1; picked = refl }
part_first false xs s q r h later = later

-- an object's values in a column are the part at its range
part_in : (xs : List Scalar) (rs : List (ℕ × Segment)) (o : ℕ) → AreSegments (length xs) rs → IsPart xs (range_in rs o) (written_in (map (values_in xs) rs) o)
part_in xs [] o h = no_part xs
part_in xs (r ∷ rs) o h =
    let P : ℕ × Segment → Type 0 = λ r. IsSegment (length xs) r.1 in
    part_first (is_eq (nat_cmp o r.0)) xs r.1 (lookup (is_at (nat_cmp o)) rs) (lookup (is_at (nat_cmp o)) (map (values_in xs) rs)) (All-head P r rs h) (part_in xs rs o (All-tail P r rs h))

-- the same, in all columns
part_at : (xs : List Scalar) (columns : List (List (ℕ × Segment))) (f o : ℕ) → All (AreSegments (length xs)) columns
    → IsPart xs (range_in (get_or columns f []) o) (written_in (get_or (maps_in xs columns) f []) o)
part_at xs [] zero o h = no_part xs
part_at xs [] (suc f) o h = no_part xs
part_at xs (c ∷ cs) zero o h = part_in xs c o (All-head (AreSegments (length xs)) c cs h)
part_at xs (c ∷ cs) (suc f) o h = part_at xs cs f o (All-tail (AreSegments (length xs)) c cs h)

same_part : (xs : List Scalar) (r t : Segment) (a b : List Scalar) → r ≡ t → a ≡ b → IsPart xs r a → IsPart xs t b
same_part xs r t a b range part h = subst (λ (x : Segment). IsPart xs x b) range (subst (IsPart xs r) part h)

-- the range of a feature in an object's row is that of the object in the feature's column
pub row-range : (rs : List (List (ℕ × Segment))) (n o f : ℕ) → o < n → range_in (get_or rs f []) o ≡ range_in (get_or (rows rs n) o []) f
row-range rs n o f lt =
    ap (λ (r : Option Segment). unwrap_or r no_segment) (sym (row-lookup rs f o)) ∙ ap (λ (r : List (ℕ × Segment)). range_in r f) (sym (rows-at rs n o lt))

module _ (m : Model) (hs : List Head) (scalars : List Scalar) (written ends : List (List (ℕ × Segment))) (all : List ℕ) (ranges : List Segment) where
  abbrev pub content : Population
  content = stored_content m hs (maps_in scalars written)

  abbrev finished : FinishedPopulation
  finished = finished_of m hs scalars written ends all ranges

  -- the range of a feature that is an opposite end, and of one that isn't
  pub end_range : (o f : ℕ) → o < length hs → is_opposite (feature_at m f).role ≡ true → range_in (get_or ends f []) o ≡ range_at finished o f
  end_range o f lt h = rw h (row-range ends (length hs) o f lt)

  pub written_range : (o f : ℕ) → o < length hs → is_opposite (feature_at m f).role ≡ false → range_in (get_or written f []) o ≡ range_at finished o f
  written_range o f lt h = rw h (row-range written (length hs) o f lt)

  module _ (is : IsFinished content scalars written ends all ranges) where
    written_part : (o f : ℕ) → o < length content.objects → is_opposite (feature_at m f).role ≡ false → IsPart scalars (range_at finished o f) (values_of content o f)
    written_part o f lt h =
        let inside : o < length hs = omega (arith, lt, length-content m hs (maps_in scalars written)) in
        let values : written_in (get_or (maps_in scalars written) f []) o ≡ values_of content o f =
        sym (written-column m hs (maps_in scalars written) o f inside) ∙ sym (values_written content o f h) in
        same_part _ _ _ _ _ (written_range o f inside h) values (part_at scalars written f o is.written_within)

    end_part : (o f : ℕ) → o < length content.objects → is_opposite (feature_at m f).role ≡ true → IsPart scalars (range_at finished o f) (values_of content o f)
    end_part o f lt h =
        let inside : o < length hs = omega (arith, lt, length-content m hs (maps_in scalars written)) in
        same_part _ _ _ _ _ (end_range o f inside h) (ends_values content (maps_in scalars ends) is.derived o f h) (part_at scalars ends f o is.ends_within)

    pub value_ranges : (p : FinishedPopulation) → finished ≡ p → AreValueRanges p
    value_ranges p view =
        subst AreValueRanges view (λ o f lt. elim (cases_Bool (is_opposite (feature_at m f).role)) [
          | inl h ↦ end_part o f lt h
          | inr h ↦ written_part o f lt h
        ])

    pub instance_ranges : (p : FinishedPopulation) → finished ≡ p → AreInstanceRanges p
    instance_ranges p view =
        subst AreInstanceRanges view (λ c lt. let h = is.instances_are c lt in record { ordered = h.0; within = h.1; picked = h.2 })
