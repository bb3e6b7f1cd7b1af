-- A spelling and the reader that goes with it: what is read was spelled so, and what is spelled so is read.
use Rattle.std.proofs.Common.{◌≡◌, ℕ, zero, suc, List, [], ◌∷◌, ◌++◌, length, Ok, refl, ap, subst, ◌∙◌, append_assoc, sym}
use Rattle.std.specs.List.{flat_map, AllByRecursion}
use Rattle.std.proofs.lemmas.List.Concat.{flat_map-cons}
use Rattle.rule_code.specs.Spelling.{counted_bytes}
use Rattle.rule_code.specs.NumberBytes.{number_bytes}
use Rattle.rule_code.specs.WellFormed.{EachFits}
use Rattle.ocl_base.specs.Steps.{◌>>=◌}
use Rattle.rule_code.specs.Reading.{FieldRead, many_from}
use Rattle.ocl_base.proofs.ForAbove.{both_steps, ok_is}
use Rattle.rule_code.proofs.Bytes.{IsBytes, Takes, Takes-then}

pub record IsCodec {A : Type 0} (item : A → List ℕ) (Fits : A → Type 0) (item_from : List ℕ → FieldRead A) : Type 0 where
  pub takes : (bytes : List ℕ) (x : A × List ℕ) → IsBytes bytes → item_from bytes ≡ Ok x → Takes bytes (item x.0) x.1 × Fits x.0
  pub again : (x : A) (rest : List ℕ) → Fits x → item_from (item x ++ rest) ≡ Ok (x, rest)

-- the same for things that are read knowing those before them
abbrev pub AreCodecs : {A : Type 0} → (A → List ℕ) → (List A → A → Type 0) → (List A → List ℕ → FieldRead A) → Type 0
AreCodecs {A} item Fits item_from = (before : List A) → IsCodec item (Fits before) (item_from before)

-- things that are read one after another were spelled so, are as many as were asked, and fit
pub many_takes : {A : Type 0} (item : A → List ℕ) (Fits : List A → A → Type 0) (item_from : List A → List ℕ → FieldRead A) → AreCodecs item Fits item_from
    → (before : List A) (n : ℕ) (bytes : List ℕ) (x : List A × List ℕ) → IsBytes bytes → many_from item_from before n bytes ≡ Ok x
    → Takes bytes (flat_map item x.0) x.1 × (length x.0 ≡ n) × EachFits Fits before x.0
unfolding many_from
many_takes {A} item Fits item_from codecs before zero bytes x fits e =
    subst (λ (y : List A × List ℕ). Takes bytes (flat_map item y.0) y.1 × (length y.0 ≡ 0) × EachFits Fits before y.0) (ok_is ([], bytes) x e) (record { parts = refl; rest_fits = fits }, refl, tt)
many_takes {A} item Fits item_from codecs before (suc n) bytes x fits e =
    let a = both_steps (item_from before bytes) (λ first. many_from item_from (before ++ first.0 ∷ []) n first.1 >>= λ others. Ok (first.0 ∷ others.0, others.1)) x e in
    let more = before ++ a.0.0 ∷ [] in
    let b = both_steps (many_from item_from more n a.0.1) (λ others. Ok (a.0.0 ∷ others.0, others.1)) x a.2 in
    let first = (codecs before).takes bytes a.0 fits a.1 in
    let second = many_takes item Fits item_from codecs more n a.0.1 b.0 first.0.rest_fits b.1 in
    let both = Takes-then bytes (item a.0.0) a.0.1 (flat_map item b.0.0) b.0.1 first.0 second.0 in
    let made : List A × List ℕ = (a.0.0 ∷ b.0.0, b.0.1) in
    subst (λ (y : List A × List ℕ). Takes bytes (flat_map item y.0) y.1 × (length y.0 ≡ suc n) × EachFits Fits before y.0) (ok_is made x b.2) (rw flat_map-cons both, ap suc second.1, (first.1, second.2))

-- things that fit and are spelled one after another are read again
pub many_again : {A : Type 0} (item : A → List ℕ) (Fits : List A → A → Type 0) (item_from : List A → List ℕ → FieldRead A) → AreCodecs item Fits item_from
    → (before xs : List A) (rest : List ℕ) → EachFits Fits before xs → many_from item_from before (length xs) (flat_map item xs ++ rest) ≡ Ok (xs, rest)
unfolding many_from
many_again item Fits item_from codecs before [] rest fits = refl
many_again item Fits item_from codecs before (x ∷ xs) rest fits =
    let more = before ++ x ∷ [] in
    let regrouped : flat_map item (x ∷ xs) ++ rest ≡ item x ++ (flat_map item xs ++ rest) = ap (λ (t : List ℕ). t ++ rest) (flat_map-cons item x xs) ∙ append_assoc (item x) (flat_map item xs) rest in
    ap (many_from item_from before (suc (length xs))) regrouped ∙ rw ((codecs before).again x (flat_map item xs ++ rest) fits.0, many_again item Fits item_from codecs more xs rest fits.1) refl

-- things behind their count
pub counted_codec : {A : Type 0} (item : A → List ℕ) (Fits : List A → A → Type 0) (item_from : List A → List ℕ → FieldRead A) → AreCodecs item Fits item_from
    → (Few : ℕ → Type 0) (count_from : List ℕ → FieldRead ℕ) → IsCodec number_bytes Few count_from
    → IsCodec (counted_bytes item) (λ xs. Few (length xs) × EachFits Fits [] xs) (λ bytes. count_from bytes >>= λ n. many_from item_from [] n.0 n.1)
counted_codec {A} item Fits item_from codecs Few count_from few = record {
  takes = λ bytes x fits e.
      let a = both_steps (count_from bytes) (λ n. many_from item_from [] n.0 n.1) x e in
      let first = few.takes bytes a.0 fits a.1 in
      let second = many_takes item Fits item_from codecs [] a.0.0 a.0.1 x first.0.rest_fits a.2 in
      let here : Takes bytes (number_bytes (length x.0)) a.0.1 = subst (λ (k : ℕ). Takes bytes (number_bytes k) a.0.1) (sym second.1) first.0 in
      (Takes-then bytes (number_bytes (length x.0)) a.0.1 (flat_map item x.0) x.1 here second.0, (subst Few (sym second.1) first.1, second.2));
  again = λ xs rest fits.
      let regrouped : counted_bytes item xs ++ rest ≡ number_bytes (length xs) ++ (flat_map item xs ++ rest) = append_assoc (number_bytes (length xs)) (flat_map item xs) rest in
      ap (λ (bytes : List ℕ). count_from bytes >>= λ n. many_from item_from [] n.0 n.1) regrouped
      ∙ ap (λ (r : FieldRead ℕ). r >>= λ n. many_from item_from [] n.0 n.1) (few.again (length xs) (flat_map item xs ++ rest) fits.0)
      ∙ many_again item Fits item_from codecs [] xs rest fits.1;
}

-- where what fits doesn't depend on the things before
pub AllByRecursion-from_each : {A : Type 0} (Fits : A → Type 0) (before xs : List A) → EachFits (λ earlier. Fits) before xs → AllByRecursion Fits xs
AllByRecursion-from_each Fits before [] h = tt
AllByRecursion-from_each Fits before (x ∷ xs) h = (h.0, AllByRecursion-from_each Fits (before ++ x ∷ []) xs h.1)

-- and back
pub EachFits-from_all : {A : Type 0} (Fits : A → Type 0) (before xs : List A) → AllByRecursion Fits xs → EachFits (λ earlier. Fits) before xs
EachFits-from_all Fits before [] h = tt
EachFits-from_all Fits before (x ∷ xs) h = (h.0, EachFits-from_all Fits (before ++ x ∷ []) xs h.1)
