-- What iterations keep, and what they give at their end.
use Rattle.std.proofs.Common.{◌≡◌, ℕ, suc, ◌+◌, ◌≤◌, Bool, true, false, List, [], ◌∷◌, ◌++◌, length, drop, Option, Some, None, refl, sym, ap, ◌∙◌, arith, append-nil, append_assoc}
use Rattle.std.specs.Prelude.{not, ◌||◌, ◌&&◌, ◌==◌, nat_lt, if◌then◌else◌}
use Rattle.std.specs.List.{filter_map, list_all, list_any}
use Rattle.std.proofs.lemmas.Bool.{ne_eqb, lt-ltb}
use Rattle.std.proofs.Math.Dec.{eqb-suc-suc}
use Rattle.imkl_population.specs.declared.scalar.Scalar.TheVariants as scalar
use Rattle.rule_values.specs.Value as value
use Rattle.rule_values.specs.Value.{Element, Value, as_element}
use Rattle.rule_values.specs.Operations.{is_true, is_false}
use Rattle.rule_values.specs.Endings.{kept_by, joined, collection_elements, is_undecided}
use Rattle.rule_machine.specs.StandFor.{count_passing}

-- an element that is kept, in a list
abbrev pub kept_one : Bool → Element → List Element
kept_one keep e = if keep then e ∷ [] else []

-- an element that is there, in a list
abbrev pub element_list : Option Element → List Element
element_list None = []
element_list (Some e) = e ∷ []

-- ---- one body more

-- the elements kept by a test, with one body more
pub kept_by_more : (test : Value → Bool) (es : List Element) (bs : List Value) (b : Value) (x : Element) (rest : List Element) → drop (length bs) es ≡ x ∷ rest → kept_by test es (bs ++ b ∷ []) ≡ kept_by test es bs ++ kept_one (test b) x
kept_by_more test [] [] b x rest e = cc
kept_by_more test [] (d ∷ bs) b x rest e = cc
kept_by_more test (f ∷ es) [] b x rest e =
    let q : f ≡ x = cc in
    let none : kept_by test es [] ≡ [] = by_list es in
    by_test (test b) q none
  where
    by_list : (es : List Element) → kept_by test es [] ≡ []
    by_list [] = refl
    by_list (g ∷ es) = refl

    by_test : (t : Bool) → f ≡ x → kept_by test es [] ≡ [] → (if t then f ∷ kept_by test es [] else kept_by test es []) ≡ kept_one t x
    by_test true q none = ap (λ l. f ∷ l) none ∙ ap (λ g. g ∷ []) q
    by_test false q none = none
kept_by_more test (f ∷ es) (d ∷ bs) b x rest e = by_test (test d) (kept_by_more test es bs b x rest e)
  where
    by_test : (t : Bool) → kept_by test es (bs ++ b ∷ []) ≡ kept_by test es bs ++ kept_one (test b) x → (if t then f ∷ kept_by test es (bs ++ b ∷ []) else kept_by test es (bs ++ b ∷ [])) ≡ (if t then f ∷ kept_by test es bs else kept_by test es bs) ++ kept_one (test b) x
    by_test true h = ap (λ l. f ∷ l) h
    by_test false h = h

-- the bodies as elements, with one more
pub elements_more : (bs : List Value) (b : Value) → filter_map as_element (bs ++ b ∷ []) ≡ filter_map as_element bs ++ element_list (as_element b)
elements_more [] b = by_element (as_element b)
  where
    by_element : (o : Option Element) → filter_map as_element (b ∷ []) ≡ element_list (as_element b)
    by_element o = by_option (as_element b) refl
      where
        by_option : (o : Option Element) → as_element b ≡ o → filter_map as_element (b ∷ []) ≡ element_list (as_element b)
        by_option None e = rw e refl
        by_option (Some x) e = rw e refl
elements_more (d ∷ bs) b = by_option (as_element d) refl (elements_more bs b)
  where
    by_option : (o : Option Element) → as_element d ≡ o → filter_map as_element (bs ++ b ∷ []) ≡ filter_map as_element bs ++ element_list (as_element b) → filter_map as_element (d ∷ (bs ++ b ∷ [])) ≡ filter_map as_element (d ∷ bs) ++ element_list (as_element b)
    by_option None e h = rw e h
    by_option (Some x) e h = rw e (ap (λ l. x ∷ l) h)

-- the elements of the bodies, with one more
pub joined_more : (bs : List Value) (b : Value) → joined (bs ++ b ∷ []) ≡ joined bs ++ collection_elements b
joined_more [] b = append-nil (collection_elements b)
joined_more (d ∷ bs) b = ap (λ l. collection_elements d ++ l) (joined_more bs b) ∙ sym (append_assoc (collection_elements d) (joined bs) (collection_elements b))

swap_if : (t u : Bool) (n : ℕ) → (if t then suc (if u then suc n else n) else (if u then suc n else n)) ≡ (if u then suc (if t then suc n else n) else (if t then suc n else n))
swap_if true true n = refl
swap_if true false n = refl
swap_if false true n = refl
swap_if false false n = refl

-- how many pass a test, with one more
pub count_more : (p : Value → Bool) (bs : List Value) (b : Value) → count_passing p (bs ++ b ∷ []) ≡ (if p b then suc (count_passing p bs) else count_passing p bs)
count_more p [] b = refl
count_more p (d ∷ bs) b = ap (λ n. if p d then suc n else n) (count_more p bs b) ∙ swap_if (p d) (p b) (count_passing p bs)

-- ---- counts

-- no more pass than there are
pub count_low : (p : Value → Bool) (bs : List Value) → count_passing p bs ≤ length bs
count_low p [] = omega arith
count_low p (b ∷ bs) = by_test (p b) (count_low p bs)
  where
    by_test : (t : Bool) → count_passing p bs ≤ length bs → (if t then suc (count_passing p bs) else count_passing p bs) ≤ suc (length bs)
    by_test true h = omega (arith, h)
    by_test false h = omega (arith, h)

-- all pass where they are as many as there are
pub all_is_count : (p : Value → Bool) (bs : List Value) → list_all p bs ≡ (count_passing p bs == length bs)
all_is_count p [] = refl
all_is_count p (b ∷ bs) = by_test (p b) (all_is_count p bs) (count_low p bs)
  where
    by_test : (t : Bool) → list_all p bs ≡ (count_passing p bs == length bs) → count_passing p bs ≤ length bs → (t && list_all p bs) ≡ ((if t then suc (count_passing p bs) else count_passing p bs) == suc (length bs))
    by_test true h le = h ∙ sym (eqb-suc-suc (count_passing p bs) (length bs))
    by_test false h le = sym (ne_eqb (count_passing p bs) (suc (length bs)) (λ e. absurd (omega (arith, e, le))))

-- some passes where they are not none
pub any_is_count : (p : Value → Bool) (bs : List Value) → list_any p bs ≡ nat_lt 0 (count_passing p bs)
any_is_count p [] = refl
any_is_count p (b ∷ bs) = by_test (p b) (any_is_count p bs)
  where
    by_test : (t : Bool) → list_any p bs ≡ nat_lt 0 (count_passing p bs) → (t || list_any p bs) ≡ nat_lt 0 (if t then suc (count_passing p bs) else count_passing p bs)
    by_test true h = sym (lt-ltb 0 (suc (count_passing p bs)) (omega arith))
    by_test false h = h

-- ---- two gives_truths of which at most one passes

abbrev more_if : Bool → ℕ → ℕ
more_if t n = if t then suc n else n

-- by how many were true and how many false, whether some body was neither
abbrev pub AllDecided : List Value → ℕ → ℕ → Type 0
AllDecided bs ct cf = (ct + cf ≤ length bs) × (list_any is_undecided bs ≡ not (ct + cf == length bs))

one_more : (bs : List Value) (ct cf n : ℕ) → n ≡ suc (ct + cf) → list_any is_undecided bs ≡ not (ct + cf == length bs) → list_any is_undecided bs ≡ not (n == suc (length bs))
one_more bs ct cf n e r = r ∙ ap not (sym (eqb-suc-suc (ct + cf) (length bs))) ∙ ap (λ k. not (k == suc (length bs))) (sym e)

decided_more : (bs : List Value) (b : Value) (ct cf : ℕ) → AllDecided bs ct cf → (more_if (is_true b) ct + more_if (is_false b) cf ≤ suc (length bs)) × ((is_undecided b || list_any is_undecided bs) ≡ not (more_if (is_true b) ct + more_if (is_false b) cf == suc (length bs)))
decided_more bs (value.Single (scalar.Bool true)) ct cf h = (omega (arith, h.0), one_more bs ct cf (suc ct + cf) (omega arith) h.1)
decided_more bs (value.Single (scalar.Bool false)) ct cf h = (omega (arith, h.0), one_more bs ct cf (ct + suc cf) (omega arith) h.1)
decided_more bs b ct cf h = (omega (arith, h.0), ap not (sym (ne_eqb (ct + cf) (suc (length bs)) (λ q. absurd (omega (arith, q, h.0))))))

-- all are decided where the true and the false are as many as there are
pub undecided_is_count : (bs : List Value) → AllDecided bs (count_passing is_true bs) (count_passing is_false bs)
undecided_is_count [] = (omega arith, refl)
undecided_is_count (b ∷ bs) = decided_more bs b (count_passing is_true bs) (count_passing is_false bs) (undecided_is_count bs)
