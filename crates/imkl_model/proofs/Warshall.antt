-- The test `via` decides chains of superclass steps.
use Rattle.std.proofs.Common.{◌≡◌, ℕ, suc, zero, ◌<◌, ◌≤◌, ◌&&◌, true, eqb, List, [], ◌∷◌, length, get_or, refl, sym, ap, ◌∙◌, subst, arith, Decides, ◌⊎◌, inl, inr}
use Rattle.std.proofs.lemmas.Bool.{false≢true, and_from, and_parts, or_cases, or_left, or_right}
use Rattle.std.proofs.lemmas.Bool.Decides.{Decides-eqb, Decides-or, Decides-like, leb_tells}
use Rattle.std.specs.List.{list_any}
use Rattle.imkl_model.specs.Chains.{is_super, Chain, Reaches, IsOrReaches, via, reaches, is_or_reaches}

-- ---- tests

lt_or_le : (a b : ℕ) → (a < b) ⊎ (b ≤ a)
lt_or_le a b = elim (leb_tells b a) [ inl h ↦ inr h.1 | inr h ↦ inl h.1 ]

-- ---- a class with a superclass is in range

-- past the end of a list stands the default
pub row_at : {X : Type 0} (xs : List X) (d : X) (i : ℕ) → (length xs ≤ i → get_or xs i d ≡ d)
row_at [] d i le = refl
row_at (x ∷ xs) d zero le = absurd (omega (arith, le))
row_at (x ∷ xs) d (suc i) le = row_at xs d i (omega (arith, le))

-- a class with a direct superclass is one of the classes
pub in_range : (supers : List (List ℕ)) (c d : ℕ) → is_super supers c d ≡ true → c < length supers
in_range supers c d h =
    elim (lt_or_le c (length supers)) [ inl lt ↦ lt | inr le ↦ absurd (false≢true (ap (list_any (λ e. eqb e d)) (sym (row_at supers [] c le)) ∙ h)) ]

-- ---- from chains to the test

base : (supers : List (List ℕ)) (k c d : ℕ) → is_super supers c d ≡ true → via supers k c d ≡ true
base supers zero c d h = h
base supers (suc k) c d h = or_left (via supers k c d) (via supers k c k && via supers k k d) (base supers k c d h)

-- a step to a class below k, then steps through classes below k
step : (supers : List (List ℕ)) (k c e d : ℕ) → is_super supers c e ≡ true → e < k → via supers k e d ≡ true → via supers k c d ≡ true
step supers zero c e d s lt v = absurd (omega arith)
step supers (suc k) c e d s lt v =
    let direct = via supers k c d in
    let round = via supers k c k && via supers k k d in
    elim (lt_or_le e k) [
      | inl less ↦ elim (or_cases (via supers k e d) (via supers k e k && via supers k k d) v) [
        | inl a ↦ or_left direct round (step supers k c e d s less a)
        | inr b ↦ let p = and_parts (via supers k e k) (via supers k k d) b in or_right direct round (and_from _ _ (step supers k c e k s less p.0) p.1)
      ]
      | inr more ↦
          let same : e ≡ k = omega arith in
          let here : via supers k c k ≡ true = base supers k c k (subst (λ (x : ℕ). is_super supers c x ≡ true) same s) in
          let there : via supers (suc k) k d ≡ true = subst (λ (x : ℕ). via supers (suc k) x d ≡ true) same v in
          elim (or_cases (via supers k k d) (via supers k k k && via supers k k d) there) [
            | inl a ↦ or_right direct round (and_from _ _ here a)
            | inr b ↦ or_right direct round (and_from _ _ here (and_parts (via supers k k k) (via supers k k d) b).1)
          ]
    ]

complete : (supers : List (List ℕ)) (n c d : ℕ) → Chain supers (suc n) c d → reaches supers c d ≡ true
complete supers zero c d h = base supers (length supers) c d (subst (λ (x : ℕ). is_super supers c x ≡ true) h.2 h.1)
complete supers (suc n) c d h = step supers (length supers) c h.0 d h.1 (in_range supers h.0 h.2.0 h.2.1) (complete supers n h.0 d h.2)

-- ---- from the test to chains

join : (supers : List (List ℕ)) (n m c k d : ℕ) → Chain supers (suc n) c k → Chain supers (suc m) k d → Reaches supers c d
join supers zero m c k d a b = (suc m, (a.0, a.1, subst (λ (x : ℕ). Chain supers (suc m) x d) (sym a.2) b))
join supers (suc n) m c k d a b = let rest = join supers n m a.0 k d a.2 b in (suc rest.0, (a.0, a.1, rest.1))

sound : (supers : List (List ℕ)) (k c d : ℕ) → via supers k c d ≡ true → Reaches supers c d
sound supers zero c d h = (zero, (d, h, refl))
sound supers (suc k) c d h =
    elim (or_cases (via supers k c d) (via supers k c k && via supers k k d) h) [
      | inl a ↦ sound supers k c d a
      | inr b ↦
          let p = and_parts (via supers k c k) (via supers k k d) b in
          let x = sound supers k c k p.0 in
          let y = sound supers k k d p.1 in
          join supers x.0 y.0 c k d x.1 y.1
    ]

-- the test `reaches` decides whether a class reaches another
pub reaches-decides : (supers : List (List ℕ)) (c d : ℕ) → Decides (reaches supers c d) (Reaches supers c d)
reaches-decides supers c d = (λ h. sound supers (length supers) c d h, λ h. complete supers h.0 c d h.1)

chain_of : (supers : List (List ℕ)) (c d : ℕ) → (c ≡ d) ⊎ Reaches supers c d → IsOrReaches supers c d
chain_of supers c d (inl e) = (zero, e)
chain_of supers c d (inr r) = (suc r.0, r.1)

of_chain : (supers : List (List ℕ)) (n c d : ℕ) → Chain supers n c d → (c ≡ d) ⊎ Reaches supers c d
of_chain supers zero c d h = inl h
of_chain supers (suc n) c d h = inr (n, h)

-- the test `is_or_reaches` decides whether a class is another or reaches it: whether it conforms to it
pub is_or_reaches-decides : (supers : List (List ℕ)) (c d : ℕ) → Decides (is_or_reaches supers c d) (IsOrReaches supers c d)
is_or_reaches-decides supers c d =
    Decides-like (is_or_reaches supers c d) (chain_of supers c d) (λ h. of_chain supers h.0 c d h.1) (Decides-or (eqb c d) (reaches supers c d) (Decides-eqb c d) (reaches-decides supers c d))
