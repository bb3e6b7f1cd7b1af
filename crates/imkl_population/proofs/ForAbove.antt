-- What the crates above cite: a population after an object is added, and after values are put at a feature; how long
-- its sizes are; and tests of all elements.
pub use Rattle.imkl_population.proofs.Lengths.{length-list_below}
pub use Rattle.imkl_population.proofs.Fitting.{get_or-list_below}
pub use Rattle.imkl_population.proofs.Bools.{list_all-weaker}
use Rattle.std.proofs.Common.{◌≡◌, ℕ, ◌==◌, ◌<◌, ◌≢◌, Bool, true, false, cond, List, [], ◌∷◌, length, Option, Some, refl, sym, ap, subst, ◌∙◌, Ordering, Less, Equal, Greater}
use Rattle.std.specs.Prelude.{unwrap_or}
use Rattle.std.specs.Map.{lookup}
use Rattle.std.specs.BTreeMap.{insert_entry, is_at}
use Rattle.std.specs.Cmp.{nat_cmp_is}
use Rattle.std.specs.FinMap.{nat_cmp-IsAntisymmetric}
use Rattle.std.specs.Ordering.{nat_cmp, match_ordering}
use Rattle.std.proofs.lemmas.Bool.{ne_eqb, eqb-true}
use Rattle.std.proofs.lemmas.List.{get_or-set_same, get_or-set_other, length-set}
use Rattle.std.proofs.Math.ListN.{get_or-append}
use Rattle.std.proofs.Math.Seq.{get_or-append_seam}
use Rattle.imkl_population.specs.declared.object.Object.{Object}
use Rattle.imkl_population.specs.declared.scalar.Scalar.{Scalar}
use Rattle.imkl_population.specs.Population.{Population, object_at, written_at, no_object, object_number}
use Rattle.imkl_population.specs.Building.{with_object, with_written, with_values}
use Rattle.imkl_population.proofs.Encoded.{is_eq-nat_cmp}
use Rattle.imkl_population.proofs.Ids.{object_number_in-set}

-- ---- one object more

-- the objects before it stay
pub object_before : (p : Population) (id : List ℕ) (c o : ℕ) → o < length p.objects → object_at (with_object p id c) o ≡ object_at p o
object_before p id c o lt = get_or-append p.objects (record { id = id; class = c; written = [] } ∷ []) no_object o lt

-- it stands behind them
pub object_added : (p : Population) (id : List ℕ) (c : ℕ) → object_at (with_object p id c) (length p.objects) ≡ record { id = id; class = c; written = [] }
object_added p id c = get_or-append_seam p.objects (record { id = id; class = c; written = [] }) [] no_object

-- ---- values put at a feature

not_greater : (m n : ℕ) → m ≡ n → nat_cmp m n ≡ Greater → ⊥
not_greater m n same h = let equal : Equal ≡ nat_cmp m n = nat_cmp_is m n Equal same in let bad : Equal ≡ Greater = equal ∙ h in cc

module _ (f g : ℕ) (vs : List Scalar) where
  abbrev Looked : List (ℕ × List Scalar) → Type 0
  Looked w = lookup (is_at (nat_cmp g)) (insert_entry nat_cmp w f vs) ≡ cond (f == g) (Some vs) (lookup (is_at (nat_cmp g)) w)

  put_twice : (b : Bool) (xs : List Scalar) (r : Option (List Scalar)) → cond b (Some vs) r ≡ cond b (Some vs) (cond b (Some xs) r)
  put_twice true xs r = refl
  put_twice false xs r = refl

  put_first : (k : ℕ) (xs : List Scalar) (r : Option (List Scalar)) → f ≡ k → cond (k == g) (Some vs) r ≡ cond (f == g) (Some vs) (cond (k == g) (Some xs) r)
  put_first k xs r same = subst (λ (n : ℕ). cond (n == g) (Some vs) r ≡ cond (f == g) (Some vs) (cond (n == g) (Some xs) r)) same (put_twice (f == g) xs r)

  put_later : (b c : Bool) (xs : List Scalar) (r s : Option (List Scalar)) → (b ≡ true → c ≡ false) → s ≡ cond c (Some vs) r → cond b (Some xs) s ≡ cond c (Some vs) (cond b (Some xs) r)
  put_later true true xs r s apart later = absurd (let bad : true ≡ false = apart refl in cc)
  put_later true false xs r s apart later = refl
  put_later false c xs r s apart later = later

  lookup_by : (o : Ordering) (e : ℕ × List Scalar) (es : List (ℕ × List Scalar)) → nat_cmp f e.0 ≡ o → Looked es
      → lookup (is_at (nat_cmp g)) (match_ordering o ((f, vs) ∷ e ∷ es) ((e.0, vs) ∷ es) (e ∷ insert_entry nat_cmp es f vs)) ≡ cond (f == g) (Some vs) (lookup (is_at (nat_cmp g)) (e ∷ es))
  lookup_by Less e es c later = rw (is_eq-nat_cmp g f) refl
  lookup_by Equal e es c later = rw (is_eq-nat_cmp g e.0) (put_first e.0 e.1 (lookup (is_at (nat_cmp g)) es) (nat_cmp-IsAntisymmetric f e.0 c))
  lookup_by Greater e es c later =
      let apart : (e.0 == g) ≡ true → (f == g) ≡ false = λ h. ne_eqb f g (λ same. not_greater f e.0 (same ∙ sym (eqb-true e.0 g h)) c) in
      rw (is_eq-nat_cmp g e.0) (put_later (e.0 == g) (f == g) e.1 (lookup (is_at (nat_cmp g)) es) (lookup (is_at (nat_cmp g)) (insert_entry nat_cmp es f vs)) apart later)

  -- the values at a feature, after a list is put at one
  pub lookup-put : (w : List (ℕ × List Scalar)) → Looked w
  lookup-put [] = rw (is_eq-nat_cmp g f) refl
  lookup-put (e ∷ es) = lookup_by (nat_cmp f e.0) e es refl (lookup-put es)

written_by : (b : Bool) (vs : List Scalar) (r : Option (List Scalar)) → unwrap_or (cond b (Some vs) r) [] ≡ cond b vs (unwrap_or r [])
written_by true vs r = refl
written_by false vs r = refl

module _ (p : Population) (o f : ℕ) (vs : List Scalar) where
  -- other objects stay
  pub object_kept : (k : ℕ) → k ≢ o → object_at (with_values p o f vs) k ≡ object_at p k
  object_kept k apart = get_or-set_other p.objects o k (with_written (object_at p o) f vs) no_object apart

  -- the object keeps its id and class
  pub object_put : o < length p.objects → object_at (with_values p o f vs) o ≡ with_written (object_at p o) f vs
  object_put inside = get_or-set_same p.objects o (with_written (object_at p o) f vs) no_object inside

  -- as many objects
  pub objects_counted : length (with_values p o f vs).objects ≡ length p.objects
  objects_counted = length-set p.objects o (with_written (object_at p o) f vs)

  -- the values at each of its features
  pub written_put : (g : ℕ) → o < length p.objects → written_at (with_values p o f vs) o g ≡ cond (f == g) vs (written_at p o g)
  written_put g inside =
      ap (λ (x : Object). unwrap_or (lookup (is_at (nat_cmp g)) x.written) []) (object_put inside)
      ∙ ap (λ (r : Option (List Scalar)). unwrap_or r []) (lookup-put f g vs (object_at p o).written)
      ∙ written_by (f == g) vs (lookup (is_at (nat_cmp g)) (object_at p o).written)

  -- ids lead to the same objects
  pub number_kept : (id : List ℕ) → object_number (with_values p o f vs) id ≡ object_number p id
  number_kept id = object_number_in-set 0 p.objects o (with_written (object_at p o) f vs) id refl
