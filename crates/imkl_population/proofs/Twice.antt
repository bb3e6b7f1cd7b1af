-- Values that stand twice.
use Rattle.std.proofs.Common.{◌≡◌, ℕ, suc, ◌<◌, Bool, true, false, not, if◌then◌else◌, eqb, List, ◌∷◌, ◌++◌, length, take, drop, get_or, refl, sym, ap, ◌∙◌, drop-cons}
use Rattle.std.specs.Cmp.{int_eq_equiv}
use Rattle.std.proofs.lemmas.Bool.{false≢true, eqb-true, eq-eqb}
use Rattle.std.proofs.lemmas.Cmp.{nat_list_eq_equiv}
use Rattle.std.proofs.lemmas.List.{take-append-drop}
use Rattle.ocl_base.proofs.ForAbove.{found_again, same_test}
use Rattle.imkl_population.specs.declared.scalar.Scalar.{Scalar}
use Rattle.imkl_population.specs.declared.scalar.Scalar.TheVariants as scalar
use Rattle.imkl_population.specs.Values.{same_scalar, is_value_among, repeats_value}

eqb-sym : (m n : ℕ) → eqb m n ≡ eqb n m
eqb-sym m n = same_test (eqb m n) (eqb n m) (λ h. eq-eqb n m (sym (eqb-true m n h))) (λ h. eq-eqb m n (sym (eqb-true n m h)))

same_truth : (a b : Bool) → (if a then b else not b) ≡ (if b then a else not a)
same_truth true true = refl
same_truth true false = refl
same_truth false true = refl
same_truth false false = refl

-- whether two values are the same goes either way
pub same_scalar-sym : (v w : Scalar) → same_scalar v w ≡ same_scalar w v
same_scalar-sym (scalar.Bool a) (scalar.Bool b) = same_truth a b
same_scalar-sym (scalar.Int a) (scalar.Int b) = int_eq_equiv.symm a b
same_scalar-sym (scalar.Text a) (scalar.Text b) = nat_list_eq_equiv.symm a b
same_scalar-sym (scalar.Literal d a) (scalar.Literal e b) = rw (eqb-sym d e, eqb-sym a b) refl
same_scalar-sym (scalar.Object a) (scalar.Object b) = eqb-sym a b
same_scalar-sym (scalar.Bool a) (scalar.Int b) = refl
same_scalar-sym (scalar.Bool a) (scalar.Text b) = refl
same_scalar-sym (scalar.Bool a) (scalar.Literal e b) = refl
same_scalar-sym (scalar.Bool a) (scalar.Object b) = refl
same_scalar-sym (scalar.Int a) (scalar.Bool b) = refl
same_scalar-sym (scalar.Int a) (scalar.Text b) = refl
same_scalar-sym (scalar.Int a) (scalar.Literal e b) = refl
same_scalar-sym (scalar.Int a) (scalar.Object b) = refl
same_scalar-sym (scalar.Text a) (scalar.Bool b) = refl
same_scalar-sym (scalar.Text a) (scalar.Int b) = refl
same_scalar-sym (scalar.Text a) (scalar.Literal e b) = refl
same_scalar-sym (scalar.Text a) (scalar.Object b) = refl
same_scalar-sym (scalar.Literal d a) (scalar.Bool b) = refl
same_scalar-sym (scalar.Literal d a) (scalar.Int b) = refl
same_scalar-sym (scalar.Literal d a) (scalar.Text b) = refl
same_scalar-sym (scalar.Literal d a) (scalar.Object b) = refl
same_scalar-sym (scalar.Object a) (scalar.Bool b) = refl
same_scalar-sym (scalar.Object a) (scalar.Int b) = refl
same_scalar-sym (scalar.Object a) (scalar.Text b) = refl
same_scalar-sym (scalar.Object a) (scalar.Literal e b) = refl

-- where a value stands among those before it, the values have one twice
pub again : (xs : List Scalar) (i : ℕ) (y d : Scalar) → i < length xs → y ≡ get_or xs i d → is_value_among (take i xs) y ≡ true → repeats_value xs ≡ true
again xs i y d lt is a =
    let whole : xs ≡ take i xs ++ y ∷ drop (suc i) xs = sym (take-append-drop i xs) ∙ rw (drop-cons xs i d lt, ← is) refl in
    ap repeats_value whole ∙ found_again same_scalar same_scalar-sym (take i xs) y (drop (suc i) xs) a

-- a value that is new to the earlier ones
pub absent_of : (f b a : Bool) → f ≡ not b → f ≡ true → b ≡ a → a ≡ false
absent_of f true a e t s = absurd (false≢true (sym e ∙ t))
absent_of f false a e t s = sym s

-- a value that isn't new to the earlier ones
pub there_of : (f b a : Bool) → f ≡ not b → f ≡ false → b ≡ a → a ≡ true
there_of f true a e t s = sym s
there_of f false a e t s = absurd (false≢true (sym t ∙ e))
