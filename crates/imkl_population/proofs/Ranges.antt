-- Ranges of one list: a range more, a class more.
use Rattle.std.proofs.Common.{◌≡◌, ℕ, ◌+◌, ◌<◌, ◌≤◌, Bool, true, false, List, [], ◌∷◌, ◌++◌, Vec, Option, Some, cond, length, get_or, slice_range, refl, sym, ap, subst, ◌∙◌, arith, length-append, inl, inr}
use Rattle.std.specs.declared.alloc.Global.{Global}
use Rattle.std.specs.BTreeMap.{get, is_at}
use Rattle.std.proofs.lemmas.Bool.Decides.{leb_tells}
use Rattle.std.proofs.lemmas.Map.Text.{is_eq-slice_cmp}
use Rattle.std.proofs.lemmas.Slice.Eq.{bytes_eq-Decides}
use Rattle.std.proofs.Math.ListN.{get_or-append}
use Rattle.std.proofs.Math.Seq.{get_or-append_seam}
use Rattle.imkl_population.specs.declared.sharing.SharedLists.{SharedLists}
use Rattle.imkl_population.specs.declared.store.Segment.{Segment}
use Rattle.imkl_population.specs.Population.{Population, instances}
use Rattle.imkl_population.specs.FinishedPopulation.{no_segment}
use Rattle.imkl_population.specs.Instances.{AreShared, Begins, IsRangeOf, by_classes, objects_of_classes}
use Rattle.imkl_population.specs.Layout.{AreInstances}
use Rattle.imkl_population.proofs.Stored.{slice_range-more, slice_range-new}

-- ---- the range of some classes

-- a range stays where more stands behind it
pub range-kept : (p : Population) (xs all cs : List ℕ) (r : Segment) → Begins xs all → IsRangeOf p xs cs r → IsRangeOf p all cs r
range-kept p xs all cs r begins is =
    let ys : List ℕ = begins.0 in
    let so_long : length all ≡ length xs + length ys = ap length begins.1 ∙ length-append xs ys in
    record {
      ascends = is.ascends;
      within = omega (arith, is.within, so_long);
      part = ap (λ (l : List ℕ). slice_range l r.start r.end) begins.1 ∙ slice_range-more xs ys r.start r.end is.ascends is.within ∙ is.part;
    }

-- what is added is a range
pub range-new : (p : Population) (xs all cs : List ℕ) (r : Segment) → all ≡ xs ++ objects_of_classes p cs → r ≡ record { start = length xs; end = length all } → IsRangeOf p all cs r
range-new p xs all cs r grown is =
    let ys : List ℕ = objects_of_classes p cs in
    let so_long : length all ≡ length xs + length ys = ap length grown ∙ length-append xs ys in
    let whole : IsRangeOf p all cs (record { start = length xs; end = length all }) = record {
      ascends = omega (arith, so_long);
      within = omega arith;
      part = ap (λ (l : List ℕ). slice_range l (length xs) (length all)) grown ∙ slice_range-new xs ys (length xs) (length all) refl so_long;
    } in
    subst (IsRangeOf p all cs) (sym is) whole

-- ---- a range that is kept

found_by : (p : Population) (all : List ℕ) (old : Option Segment) (cs q : Vec ℕ Global) (r s : Segment) (b : Bool) → is_at (by_classes cs) q ≡ b → cond b (Some r) old ≡ Some s
    → IsRangeOf p all cs.items r → (old ≡ Some s → IsRangeOf p all q.items s) → IsRangeOf p all q.items s
found_by p all old cs q r s true same found here earlier =
    let classes : cs.items ≡ q.items = (bytes_eq-Decides cs.items q.items).0 (sym (is_eq-slice_cmp cs.items q.items) ∙ same) in
    let range : r ≡ s = cc in
    subst (λ (l : List ℕ). IsRangeOf p all l s) classes (subst (IsRangeOf p all cs.items) range here)
found_by p all old cs q r s false apart found here earlier = earlier found

-- one range more is kept
pub shared-more : (p : Population) (old new : SharedLists) (cs : Vec ℕ Global) (r : Segment) → AreShared p old → Begins old.list.items new.list.items → IsRangeOf p new.list.items cs.items r
    → ((q : Vec ℕ Global) → get by_classes new.ranges q ≡ cond (is_at (by_classes cs) q) (Some r) (get by_classes old.ranges q)) → AreShared p new
shared-more p old new cs r shared begins here updated = λ q s found.
    found_by p new.list.items (get by_classes old.ranges q) cs q r s (is_at (by_classes cs) q) refl (sym (updated q) ∙ found) here
    (λ before. range-kept p old.list.items new.list.items q.items s begins (shared q s before))

-- ---- the ranges of the classes

abbrev IsRange : Population → List ℕ → Segment → ℕ → Type 0
IsRange p all r c = (r.start ≤ r.end) × (r.end ≤ length all) × (slice_range all r.start r.end ≡ instances p c)

-- a class more
pub class_more : (p : Population) (xs all cs : List ℕ) (rs new : List Segment) (n : ℕ) (g : Segment) → length rs ≡ n → AreInstances p xs rs n → Begins xs all → IsRangeOf p all cs g
    → objects_of_classes p cs ≡ instances p n → new ≡ rs ++ g ∷ [] → AreInstances p all new (n + 1)
class_more p xs all cs rs new n g long before begins range is pushed = λ c lt.
    elim (leb_tells n c) [
      | inl le ↦
          let same : n ≡ c = omega arith in
          let last : get_or new (length rs) no_segment ≡ g = ap (λ (l : List Segment). get_or l (length rs) no_segment) pushed ∙ get_or-append_seam rs g [] no_segment in
          let r : get_or new c no_segment ≡ g = ap (λ (k : ℕ). get_or new k no_segment) (sym (long ∙ same)) ∙ last in
          let here : IsRange p all g n = (range.ascends, range.within, range.part ∙ is) in
          subst (λ (x : Segment). IsRange p all x c) (sym r) (subst (IsRange p all g) same here)
      | inr less ↦
          let h = before c less.1 in
          let inside : c < length rs = omega (arith, less.1) in
          let r : get_or new c no_segment ≡ get_or rs c no_segment = ap (λ (l : List Segment). get_or l c no_segment) pushed ∙ get_or-append rs (g ∷ []) no_segment c inside in
          let old : Segment = get_or rs c no_segment in
          let so_long : length all ≡ length xs + length begins.0 = ap length begins.1 ∙ length-append xs begins.0 in
          let part : slice_range all old.start old.end ≡ slice_range xs old.start old.end = ap (λ (l : List ℕ). slice_range l old.start old.end) begins.1 ∙ slice_range-more xs begins.0 old.start old.end h.0 h.1 in
          let kept : IsRange p all old c = (h.0, omega (arith, h.1, so_long), part ∙ h.2) in
          subst (λ (x : Segment). IsRange p all x c) (sym r) kept
    ]
