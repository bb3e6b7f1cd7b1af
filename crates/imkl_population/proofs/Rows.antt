-- What the columns have for each object, by their features.
use Rattle.std.proofs.Common.{◌≡◌, ℕ, zero, suc, ◌+◌, ◌<◌, ◌==◌, List, [], ◌∷◌, ◌++◌, length, set, get_or, false, cond, Option, Some, None, Less, refl, sym, ap, subst, ◌∙◌, arith, length-append, inl, inr, if◌then◌else◌}
use Rattle.std.specs.Prelude.{unwrap_or}
use Rattle.std.specs.List.{AllByRecursion}
use Rattle.std.specs.List.Sorted.{IsStrictlySortedBy}
use Rattle.std.specs.Map.{lookup, keys_of}
use Rattle.std.specs.Ordering.{nat_cmp}
use Rattle.std.specs.BTreeMap.{insert_entry, is_at}
use Rattle.std.proofs.lemmas.Bool.{eq-eqb, ne_eqb, cases_eq}
use Rattle.std.proofs.lemmas.List.{map-append, map-set, get_or-map, length-map}
use Rattle.std.proofs.lemmas.Bool.Decides.{leb_tells}
use Rattle.std.proofs.Math.ListN.{get_or-append}
use Rattle.std.proofs.Math.Seq.{get_or-append_seam}
use Rattle.imkl_population.specs.declared.scalar.Scalar.{Scalar}
use Rattle.imkl_population.specs.Written.{written_in}
use Rattle.imkl_population.specs.Store.{Stored, map_of, maps_of, cell, row_from, object_row, rows}
use Rattle.imkl_population.proofs.Encoded.{is_eq-nat_cmp}
use Rattle.imkl_population.proofs.ForAbove.{lookup-put}
use Rattle.imkl_population.proofs.Stored.{is_less, is_equal, is_greater}

module _ {A : Type 0} where
  apart_by : (r : Option A) (f g : ℕ) (later : List (ℕ × A)) → (f == g) ≡ false → lookup (is_at (nat_cmp g)) (cell f r ++ later) ≡ lookup (is_at (nat_cmp g)) later
  apart_by None f g later apart = refl
  apart_by (Some a) f g later apart = rw (is_eq-nat_cmp g f, apart) refl

  -- no feature before the first column is in a row
  before_row : (cs : List (List (ℕ × A))) (f g o : ℕ) → g < f → lookup (is_at (nat_cmp g)) (row_from f cs o) ≡ None
  before_row [] f g o lt = refl
  before_row (c ∷ cs) f g o lt =
      apart_by (lookup (is_at (nat_cmp o)) c) f g (row_from (suc f) cs o) (ne_eqb f g (λ e. absurd (omega arith))) ∙ before_row cs (suc f) g o (omega arith)

  here_by : (r : Option A) (f : ℕ) (later : List (ℕ × A)) → lookup (is_at (nat_cmp f)) later ≡ None → lookup (is_at (nat_cmp f)) (cell f r ++ later) ≡ r
  here_by None f later none = none
  here_by (Some a) f later none = rw (is_eq-nat_cmp f f, eq-eqb f f refl) refl

  -- what a row has at a feature is what its column has for the object
  pub row-at : (cs : List (List (ℕ × A))) (f k o : ℕ) → lookup (is_at (nat_cmp (f + k))) (row_from f cs o) ≡ lookup (is_at (nat_cmp o)) (get_or cs k [])
  row-at [] f zero o = refl
  row-at [] f (suc k) o = refl
  row-at (c ∷ cs) f zero o =
      let same : f + 0 ≡ f = omega arith in
      rw same (here_by (lookup (is_at (nat_cmp o)) c) f (row_from (suc f) cs o) (before_row cs (suc f) f o (omega arith)))
  row-at (c ∷ cs) f (suc k) o =
      let same : f + suc k ≡ suc f + k = omega arith in
      rw same (apart_by (lookup (is_at (nat_cmp o)) c) f (suc f + k) (row_from (suc f) cs o) (ne_eqb f (suc f + k) (λ e. absurd (omega arith))) ∙ row-at cs (suc f) k o)

  pub row-lookup : (cs : List (List (ℕ × A))) (f o : ℕ) → lookup (is_at (nat_cmp f)) (object_row cs o) ≡ lookup (is_at (nat_cmp o)) (get_or cs f [])
  row-lookup cs f o =
      let same : 0 + f ≡ f = omega arith in
      subst (λ (n : ℕ). lookup (is_at (nat_cmp n)) (object_row cs o) ≡ lookup (is_at (nat_cmp o)) (get_or cs f [])) same (row-at cs 0 f o)

  above_by : (r : Option A) (n f : ℕ) (later : List (ℕ × A)) → n < f → AllByRecursion (λ g. nat_cmp n g ≡ Less) (keys_of later) → AllByRecursion (λ g. nat_cmp n g ≡ Less) (keys_of (cell f r ++ later))
  above_by None n f later lt h = h
  above_by (Some a) n f later lt h = (is_less n f lt, h)

  -- the features of a row are not before its first column's
  row-above : (cs : List (List (ℕ × A))) (n f o : ℕ) → n < f → AllByRecursion (λ g. nat_cmp n g ≡ Less) (keys_of (row_from f cs o))
  row-above [] n f o lt = tt
  row-above (c ∷ cs) n f o lt = above_by (lookup (is_at (nat_cmp o)) c) n f (row_from (suc f) cs o) lt (row-above cs n (suc f) o (omega arith))

  ascend_by : (r : Option A) (f : ℕ) (later : List (ℕ × A)) → AllByRecursion (λ g. nat_cmp f g ≡ Less) (keys_of later) → IsStrictlySortedBy nat_cmp (keys_of later) → IsStrictlySortedBy nat_cmp (keys_of (cell f r ++ later))
  unfolding IsStrictlySortedBy
  ascend_by None f later above h = h
  ascend_by (Some a) f later above h = (above, h)

  -- the features of a row ascend
  pub row-ascends : (cs : List (List (ℕ × A))) (f o : ℕ) → IsStrictlySortedBy nat_cmp (keys_of (row_from f cs o))
  unfolding IsStrictlySortedBy
  row-ascends [] f o = tt
  row-ascends (c ∷ cs) f o = ascend_by (lookup (is_at (nat_cmp o)) c) f (row_from (suc f) cs o) (row-above cs f (suc f) o (omega arith)) (row-ascends cs (suc f) o)

  -- ---- values put into a column

  put_front : (w : List (ℕ × A)) (f : ℕ) (a : A) → AllByRecursion (λ g. nat_cmp f g ≡ Less) (keys_of w) → insert_entry nat_cmp w f a ≡ (f, a) ∷ w
  put_front [] f a h = refl
  put_front (e ∷ w) f a h = rw h.0 refl

  put_here : (r : Option A) (f : ℕ) (a : A) (later : List (ℕ × A)) → AllByRecursion (λ g. nat_cmp f g ≡ Less) (keys_of later) → (f, a) ∷ later ≡ insert_entry nat_cmp (cell f r ++ later) f a
  put_here None f a later above = sym (put_front later f a above)
  put_here (Some b) f a later above = rw (is_equal f) refl

  put_later : (r : Option A) (f g : ℕ) (a : A) (later : List (ℕ × A)) → f < g → cell f r ++ insert_entry nat_cmp later g a ≡ insert_entry nat_cmp (cell f r ++ later) g a
  put_later None f g a later lt = refl
  put_later (Some b) f g a later lt = rw (is_greater g f lt) refl

  -- a column that has a value for the object puts it into the row
  pub row-put : (cs : List (List (ℕ × A))) (f k o : ℕ) (c : List (ℕ × A)) (a : A) → k < length cs → lookup (is_at (nat_cmp o)) c ≡ Some a → row_from f (set cs k c) o ≡ insert_entry nat_cmp (row_from f cs o) (f + k) a
  row-put [] f k o c a lt is = absurd (omega arith)
  row-put (x ∷ cs) f zero o c a lt is =
      let same : f + 0 ≡ f = omega arith in
      rw (same, is) (put_here (lookup (is_at (nat_cmp o)) x) f a (row_from (suc f) cs o) (row-above cs f (suc f) o (omega arith)))
  row-put (x ∷ cs) f (suc k) o c a lt is =
      let same : f + suc k ≡ suc f + k = omega arith in
      rw (same, row-put cs (suc f) k o c a (omega arith) is) (put_later (lookup (is_at (nat_cmp o)) x) f (suc f + k) a (row_from (suc f) cs o) (omega arith))

  -- a column that has the same for the object leaves its row
  pub row-kept : (cs : List (List (ℕ × A))) (f k o : ℕ) (c : List (ℕ × A)) → lookup (is_at (nat_cmp o)) c ≡ lookup (is_at (nat_cmp o)) (get_or cs k []) → row_from f (set cs k c) o ≡ row_from f cs o
  row-kept [] f zero o c same = refl
  row-kept [] f (suc k) o c same = refl
  row-kept (x ∷ cs) f zero o c same = rw same refl
  row-kept (x ∷ cs) f (suc k) o c same = ap (λ (l : List (ℕ × A)). cell f (lookup (is_at (nat_cmp o)) x) ++ l) (row-kept cs (suc f) k o c same)

  -- so does one more that is empty
  pub row-grown : (cs : List (List (ℕ × A))) (f o : ℕ) → row_from f (cs ++ [] ∷ []) o ≡ row_from f cs o
  row-grown [] f o = refl
  row-grown (x ∷ cs) f o = ap (λ (l : List (ℕ × A)). cell f (lookup (is_at (nat_cmp o)) x) ++ l) (row-grown cs (suc f) o)

  -- ---- the rows of all objects

  pub length-rows : (cs : List (List (ℕ × A))) (n : ℕ) → length (rows cs n) ≡ n
  length-rows cs zero = refl
  length-rows cs (suc n) = omega (arith, length-append (rows cs n) (object_row cs n ∷ []), length-rows cs n)

  pub rows-at : (cs : List (List (ℕ × A))) (n k : ℕ) → k < n → get_or (rows cs n) k [] ≡ object_row cs k
  rows-at cs zero k lt = absurd (omega arith)
  rows-at cs (suc n) k lt =
      elim (leb_tells n k) [
        | inl h ↦
            let last : k ≡ n = omega (arith, h.1, lt) in
            let here : k ≡ length (rows cs n) = last ∙ sym (length-rows cs n) in
            ap (λ (i : ℕ). get_or (rows cs n ++ object_row cs n ∷ []) i []) here ∙ get_or-append_seam (rows cs n) (object_row cs n) [] [] ∙ ap (object_row cs) (sym last)
        | inr h ↦ get_or-append (rows cs n) (object_row cs n ∷ []) [] k (omega (arith, h.1, length-rows cs n)) ∙ rows-at cs n k h.1
      ]

-- what is written in a row at a feature is what its column has
pub row-written : (cs : List (List (ℕ × List Scalar))) (f o : ℕ) → written_in (object_row cs o) f ≡ written_in (get_or cs f []) o
row-written cs f o = ap (λ (r : Option (List Scalar)). unwrap_or r []) (row-lookup cs f o)

-- ---- the rows of columns

-- a column without values changes no row
pub row-more : (cs new : List Stored) (c : Stored) (o : ℕ) → new ≡ cs ++ c ∷ [] → map_of c ≡ [] → object_row (maps_of new) o ≡ object_row (maps_of cs) o
row-more cs new c o grown empty =
    ap (λ (l : List Stored). object_row (maps_of l) o) grown
    ∙ ap (λ (l : List (List (ℕ × List Scalar))). object_row l o) (map-append map_of cs (c ∷ []) ∙ ap (λ (w : List (ℕ × List Scalar)). maps_of cs ++ w ∷ []) empty)
    ∙ row-grown (maps_of cs) 0 o

module _ (cs : List Stored) (f o : ℕ) (old new : Stored) (inside : f < length cs) (there : old ≡ get_or cs f old) where
  changed : maps_of (set cs f new) ≡ set (maps_of cs) f (map_of new)
  changed = map-set map_of cs f new

  stands : get_or (maps_of cs) f [] ≡ map_of old
  stands = get_or-map map_of cs f old [] inside ∙ ap map_of (sym there)

  looked : (vs : List Scalar) → map_of new ≡ insert_entry nat_cmp (map_of old) o vs → (k : ℕ) → lookup (is_at (nat_cmp k)) (map_of new) ≡ cond (o == k) (Some vs) (lookup (is_at (nat_cmp k)) (map_of old))
  looked vs put k = ap (lookup (is_at (nat_cmp k))) put ∙ lookup-put o k vs (map_of old)

  -- values put into a column are put into the object's row
  pub rows-put : (vs : List Scalar) → map_of new ≡ insert_entry nat_cmp (map_of old) o vs
      → (k : ℕ) → object_row (maps_of (set cs f new)) k ≡ (if k == o then insert_entry nat_cmp (object_row (maps_of cs) k) f vs else object_row (maps_of cs) k)
  rows-put vs put k =
      let maps : List (List (ℕ × List Scalar)) = maps_of cs in
      let first : 0 + f ≡ f = omega arith in
      let within : f < length maps = omega (arith, inside, length-map cs map_of) in
      ap (λ (l : List (List (ℕ × List Scalar))). object_row l k) changed ∙
      elim (cases_eq k o) [
        | inl same ↦
            rw (eq-eqb k o same)
            (row-put maps 0 f k (map_of new) vs within (looked vs put k ∙ rw (eq-eqb o k (sym same)) refl) ∙ ap (λ (n : ℕ). insert_entry nat_cmp (object_row maps k) n vs) first)
        | inr apart ↦
            rw (ne_eqb k o apart)
            (row-kept maps 0 f k (map_of new) (looked vs put k ∙ rw (ne_eqb o k (λ e. apart (sym e))) refl ∙ ap (lookup (is_at (nat_cmp k))) (sym stands)))
      ]

  -- a column of the same map changes no row
  pub rows-kept : map_of new ≡ map_of old → (k : ℕ) → object_row (maps_of (set cs f new)) k ≡ object_row (maps_of cs) k
  rows-kept same k =
      ap (λ (l : List (List (ℕ × List Scalar))). object_row l k) changed
      ∙ row-kept (maps_of cs) 0 f k (map_of new) (ap (lookup (is_at (nat_cmp k))) (same ∙ sym stands))
