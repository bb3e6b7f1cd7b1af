-- Whether numbers are the sizes of a population.
use Rattle.std.proofs.Common.{rules, ◌≡◌, ℕ, zero, suc, ◌<◌, ◌≤◌, List, [], ◌∷◌, ◌++◌, length, get_or, take, sym, ap, ◌∙◌, arith, inl, inr}
use Rattle.std.specs.Prelude.{max}
use Rattle.std.specs.Ordering.{nat_cmp, ord_max}
use Rattle.std.proofs.Math.ListN.{get_or-append}
use Rattle.std.proofs.Math.Seq.{get_or-append_seam}
use Rattle.std.proofs.lemmas.List.{take_all}
use Rattle.std.proofs.lemmas.Bool.Decides.{leb_tells}
use Rattle.imkl_population.specs.Sizes.{list_below}
use Rattle.imkl_population.proofs.Lengths.{length-list_below}

-- ---- numbers in a list

-- the number at an index
pub get_or-list_below : (g : ℕ → ℕ) (n i d : ℕ) → i < n → get_or (list_below g n) i d ≡ g i
get_or-list_below g zero i d lt = absurd (omega arith)
get_or-list_below g (suc n) i d lt =
    elim (leb_tells n i) [
      | inl h ↦
          let last : i ≡ n = omega (arith, h.1, lt) in
          let here : i ≡ length (list_below g n) = last ∙ sym (length-list_below g n) in
          ap (λ k. get_or (list_below g n ++ g n ∷ []) k d) here ∙ get_or-append_seam (list_below g n) (g n) [] d ∙ ap g (sym last)
      | inr h ↦ get_or-append (list_below g n) (g n ∷ []) d i (omega (arith, h.1, length-list_below g n)) ∙ get_or-list_below g n i d h.1
    ]

-- all numbers are the same
pub all_same : (g : ℕ → ℕ) (xs : List ℕ) (n : ℕ) → list_below g n ≡ take n xs → length xs ≤ n → list_below g n ≡ xs
all_same g xs n before le = before ∙ take_all n xs le

-- a number of all that are the same
pub reads_same : (g : ℕ → ℕ) (xs : List ℕ) (n i : ℕ) → i < n → list_below g n ≡ xs → get_or xs i 0 ≡ g i
reads_same g xs n i lt same = ap (λ l. get_or l i 0) (sym same) ∙ get_or-list_below g n i 0 lt

-- the greater of two numbers, as code takes it
pub greater : (a b : ℕ) → ord_max nat_cmp a b ≡ max a b
greater a b = search rules
