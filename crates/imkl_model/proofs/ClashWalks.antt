-- Owners compared one by one with those before them.
use Rattle.std.proofs.Common.{find, ◌≡◌, ◌∙◌, ℕ, ◌<◌, ◌≤◌, ◌+◌, ◌&&◌, ◌||◌, not, Bool, true, false, List, length, get_or, eqb, Option, None, Some, refl, sym, ap, arith, inl, inr}
use Rattle.std.specs.List.{list_any}
use Rattle.std.proofs.lemmas.Bool.{false≢true, and_parts, or_cases, or_left, or_right, cases_Bool, eq-eqb}
use Rattle.std.proofs.lemmas.Bool.Decides.{leb_tells, Decides-eqb}
use Rattle.imkl_model.specs.Chains.{any_below, is_or_reaches}
use Rattle.imkl_model.specs.ClassModel.{Model, supers, feature_at, belongs}
use Rattle.imkl_model.specs.Tables.{has_mark}
use Rattle.imkl_model.specs.Groups.{has_other_owner, meets, meets_after}
use Rattle.imkl_model.proofs.Below.{any_found, any_none}
use Rattle.imkl_model.proofs.ClashLaws.{different}
use Rattle.imkl_model.proofs.ClashGroups.{any_of, found_at, meets_at}

module _ (m : Model) (xs : List ℕ) where
  abbrev pub owner_at : ℕ → ℕ
  owner_at j = (feature_at m (get_or xs j 0)).owner

  -- what the first i features have marked: their owners, and the classes that they belong to; no two of different owners
  -- belong to one class
  pub record IsWalked (i : ℕ) (owners taken : List Bool) : Type 0 where
    pub owned : (j : ℕ) → j < i → has_mark owners (owner_at j) ≡ true
    pub owner_of : (o : ℕ) → has_mark owners o ≡ true → (j : ℕ) × (j < i) × (owner_at j ≡ o)
    pub took : (c j : ℕ) → c < length m.classes → j < i → belongs m c (get_or xs j 0) ≡ true → has_mark taken c ≡ true
    pub taken_by : (c : ℕ) → c < length m.classes → has_mark taken c ≡ true → (j : ℕ) × (j < i) × (belongs m c (get_or xs j 0) ≡ true)
    pub free : (c j k : ℕ) → c < length m.classes → j < i → k < i → belongs m c (get_or xs j 0) ≡ true → belongs m c (get_or xs k 0) ≡ true → owner_at j ≡ owner_at k

  pub begun : (owners taken : List Bool) → ((o : ℕ) → has_mark owners o ≡ false) → ((c : ℕ) → has_mark taken c ≡ false) → IsWalked 0 owners taken
  begun owners taken none free_of =
      record {
        owned = λ j lt. absurd (omega (arith, lt));
        owner_of = λ o e. absurd (false≢true (sym (none o) ∙ e));
        took = λ c j lc lt e. absurd (omega (arith, lt));
        taken_by = λ c lc e. absurd (false≢true (sym (free_of c) ∙ e));
        free = λ c j k lc lj lk e f. absurd (omega (arith, lj));
      }

  -- a feature of an owner that was seen adds nothing
  module _ (i : ℕ) (owners taken : List Bool) (h : IsWalked i owners taken) where
    pub seen_again : has_mark owners (owner_at i) ≡ true → IsWalked (i + 1) owners taken
    seen_again seen =
        let w = h.owner_of (owner_at i) seen in
        let same : (c : ℕ) → belongs m c (get_or xs i 0) ≡ true → belongs m c (get_or xs w.0 0) ≡ true = λ c e. ap (is_or_reaches (supers m) c) w.2 ∙ e in
        record {
          owned = λ j lt. elim (leb_tells i j) [
            | inl le ↦ let at : j ≡ i = omega (arith, le.1, lt) in ap (λ (k : ℕ). has_mark owners (owner_at k)) at ∙ seen
            | inr less ↦ h.owned j less.1
          ];
          owner_of = λ o e. let v = h.owner_of o e in (v.0, omega (arith, v.1), v.2);
          took = λ c j lc lt e. elim (leb_tells i j) [
            | inl le ↦ let at : j ≡ i = omega (arith, le.1, lt) in h.took c w.0 lc w.1 (same c (ap (λ (k : ℕ). belongs m c (get_or xs k 0)) (sym at) ∙ e))
            | inr less ↦ h.took c j lc less.1 e
          ];
          taken_by = λ c lc e. let v = h.taken_by c lc e in (v.0, omega (arith, v.1), v.2);
          free = λ c j k lc lj lk e f.
              let p = earlier c j lc lj e in
              let q = earlier c k lc lk f in
              sym p.3 ∙ h.free c p.0 q.0 lc p.1 q.1 p.2 q.2 ∙ q.3;
        }
      where
        -- an earlier feature of the same owner
        earlier : (c j : ℕ) → c < length m.classes → j < i + 1 → belongs m c (get_or xs j 0) ≡ true → (k : ℕ) × (k < i) × (belongs m c (get_or xs k 0) ≡ true) × (owner_at k ≡ owner_at j)
        earlier c j lc lt e =
            let w = h.owner_of (owner_at i) seen in
            elim (leb_tells i j) [
              | inl le ↦
                  let at : j ≡ i = omega (arith, le.1, lt) in
                  let owner : owner_at w.0 ≡ owner_at j = w.2 ∙ ap owner_at (sym at) in
                  (w.0, w.1, ap (is_or_reaches (supers m) c) owner ∙ e, owner)
              | inr less ↦ (j, less.1, e, refl)
            ]

    -- a feature of a new owner, of which no class was taken
    module _ (row new_owners new_taken : List Bool)
        (marks : (c : ℕ) → c < length m.classes → has_mark row c ≡ belongs m c (get_or xs i 0))
        (added : (o : ℕ) → has_mark new_owners o ≡ (has_mark owners o || eqb (owner_at i) o))
        (merged : (c : ℕ) → has_mark new_taken c ≡ (has_mark taken c || has_mark row c)) where
      pub one_more_owner : ((c : ℕ) → (has_mark taken c && has_mark row c) ≡ false) → IsWalked (i + 1) new_owners new_taken
      one_more_owner apart =
          record {
            owned = λ j lt. added (owner_at j) ∙ elim (leb_tells i j) [
              | inl le ↦ let at : j ≡ i = omega (arith, le.1, lt) in or_right (has_mark owners (owner_at j)) (eqb (owner_at i) (owner_at j)) (eq-eqb (owner_at i) (owner_at j) (ap owner_at (sym at)))
              | inr less ↦ or_left (has_mark owners (owner_at j)) (eqb (owner_at i) (owner_at j)) (h.owned j less.1)
            ];
            owner_of = λ o e. elim (or_cases (has_mark owners o) (eqb (owner_at i) o) (sym (added o) ∙ e)) [
              | inl old ↦ let v = h.owner_of o old in (v.0, omega (arith, v.1), v.2)
              | inr here ↦ (i, omega arith, (Decides-eqb (owner_at i) o).0 here)
            ];
            took = λ c j lc lt e. merged c ∙ elim (leb_tells i j) [
              | inl le ↦ let at : j ≡ i = omega (arith, le.1, lt) in or_right (has_mark taken c) (has_mark row c) (marks c lc ∙ ap (λ (k : ℕ). belongs m c (get_or xs k 0)) (sym at) ∙ e)
              | inr less ↦ or_left (has_mark taken c) (has_mark row c) (h.took c j lc less.1 e)
            ];
            taken_by = λ c lc e. elim (or_cases (has_mark taken c) (has_mark row c) (sym (merged c) ∙ e)) [
              | inl old ↦ let v = h.taken_by c lc old in (v.0, omega (arith, v.1), v.2)
              | inr here ↦ (i, omega arith, sym (marks c lc) ∙ here)
            ];
            free = λ c j k lc lj lk e f. elim (leb_tells i j) [
              | inl lej ↦ elim (leb_tells i k) [
                | inl lek ↦ ap owner_at (omega (arith, lej.1, lek.1, lj, lk))
                | inr lessk ↦ absurd (not_both c k j lc lessk.1 (omega (arith, lej.1, lj)) f e)
              ]
              | inr lessj ↦ elim (leb_tells i k) [
                | inl lek ↦ absurd (not_both c j k lc lessj.1 (omega (arith, lek.1, lk)) e f)
                | inr lessk ↦ h.free c j k lc lessj.1 lessk.1 e f
              ]
            ];
          }
        where
          not_both : (c j k : ℕ) → c < length m.classes → j < i → k ≡ i → belongs m c (get_or xs j 0) ≡ true → belongs m c (get_or xs k 0) ≡ true → ⊥
          not_both c j k lc lt at e f =
              let there : has_mark taken c ≡ true = h.took c j lc lt e in
              let here : has_mark row c ≡ true = marks c lc ∙ ap (λ (x : ℕ). belongs m c (get_or xs x 0)) (sym at) ∙ f in
              false≢true (sym (apart c) ∙ rw (there, here) refl)

    -- a class was taken of which a new owner has a feature too
    pub met : (c : ℕ) → c < length m.classes → i < length xs → i ≤ length xs → has_mark owners (owner_at i) ≡ false → has_mark taken c ≡ true → belongs m c (get_or xs i 0) ≡ true → any_below (λ k. meets m k xs) (length m.classes) ≡ true
    met c lc lt le new there here =
        let w = h.taken_by c lc there in
        any_found (λ k. meets m k xs) (length m.classes) c lc
        (meets_at m c xs (get_or xs w.0 0) (get_or xs i 0) (w.0, omega (arith, w.1, lt), refl) (i, lt, refl) w.2 here
        (λ e. false≢true (sym new ∙ ap (has_mark owners) (sym e) ∙ h.owned w.0 w.1)))

  -- none met among all
  not_met : (c : ℕ) (owners taken : List Bool) → IsWalked (length xs) owners taken → c < length m.classes → (o : Option ℕ) → find (belongs m c) xs ≡ o → meets_after m c xs o ≡ false
  not_met c owners taken h lc None e = refl
  not_met c owners taken h lc (Some f) e =
      elim (cases_Bool (list_any (has_other_owner m c (feature_at m f).owner) xs)) [
        | inl some ↦
            let a = found_at (belongs m c) xs f e in
            let b = any_of (has_other_owner m c (feature_at m f).owner) xs some in
            let p = and_parts (belongs m c (get_or xs b.0 0)) (not (eqb (feature_at m f).owner (owner_at b.0))) b.2 in
            let same : owner_at a.0 ≡ owner_at b.0 = h.free c a.0 b.0 lc a.1 b.1 (ap (belongs m c) a.2 ∙ a.3) p.0 in
            absurd (different (feature_at m f).owner (owner_at b.0) p.1 (ap (λ (x : ℕ). (feature_at m x).owner) (sym a.2) ∙ same))
        | inr none ↦ none
      ]

  pub none_met : (owners taken : List Bool) → IsWalked (length xs) owners taken → any_below (λ k. meets m k xs) (length m.classes) ≡ false
  none_met owners taken h = any_none (λ k. meets m k xs) (length m.classes) (λ c lc. not_met c owners taken h lc (find (belongs m c) xs) refl)
