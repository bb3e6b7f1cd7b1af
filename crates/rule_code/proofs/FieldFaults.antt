-- Readers by what they look at: a value comes from the bytes that were taken, a fault from those through its field.
use Rattle.std.proofs.Common.{◌≡◌, ◌⊎◌, ℕ, zero, suc, ◌+◌, ◌<◌, ◌≤◌, Bool, true, false, cond, ltb, List, [], ◌∷◌, ◌++◌, length, take, drop, Result, Ok, Err, Some, refl, sym, add_assoc, suc-add, zero-add, ap, subst, ◌∙◌, append_assoc, append-nil, inl, inr, arith}
use Rattle.std.specs.Int.{Width, byte_len, from_be_bytes}
use Rattle.std.proofs.lemmas.Bool.{ltb-false, ltb-true, le-ltb, lt-ltb}
use Rattle.std.proofs.lemmas.List.{take_at, drop_at, take-append-drop, length-append, length-take, length-take-le}
use Rattle.std.proofs.Math.Seq.{take-append-add}
use Rattle.ocl_base.specs.Steps.{◌>>=◌}
use Rattle.ocl_base.proofs.ForAbove.{both_steps, ok_is}
use Rattle.rule_code.specs.declared.fault.CodeFlaw.{CodeFlaw}
use Rattle.rule_code.specs.declared.fault.CodeFlaw.TheVariants as flaws
use Rattle.rule_code.specs.Reading.{Fault, FieldRead, wrong, number_from, many_from}
use Rattle.rule_code.specs.Laws.{most_field_bytes, may_be_cut, cut_flaw}
use Rattle.rule_code.proofs.Bytes.{guard_ok}

-- ---- what a value and a fault say of the bytes

pub record Passed {A : Type 0} (f : List ℕ → FieldRead A) (bytes : List ℕ) (x : A × List ℕ) : Type 0 where
  pub used : List ℕ
  pub parts : bytes ≡ used ++ x.1
  pub again : (more : List ℕ) → f (used ++ more) ≡ Ok (x.0, more)

abbrev pub fault_of : CodeFlaw → ℕ → Fault
fault_of flaw left = record { flaw = flaw; left = left }

pub record Stopped {B : Type 0} (f : List ℕ → Result B Fault) (bytes : List ℕ) (e : Fault) : Type 0 where
  pub through : List ℕ
  pub rest : List ℕ
  -- where the wrong field begins
  pub at : ℕ
  pub parts : bytes ≡ through ++ rest
  pub begins : at + e.left ≡ length bytes
  pub within : at ≤ length through
  pub short : length through ≤ at + most_field_bytes
  -- bytes that end within the field are cut where it begins
  pub cut : (k : ℕ) → at + k < length through → f (take (at + k) through) ≡ Err (fault_of flaws.Truncated k)
  pub stays : ((may_be_cut e.flaw ≡ true) × (rest ≡ [])) ⊎ ((more : List ℕ) (left : ℕ) → at + left ≡ length (through ++ more) → f (through ++ more) ≡ Err (fault_of e.flaw left))

abbrev pub Passes : {A : Type 0} → (List ℕ → FieldRead A) → Type 0
Passes {A} f = (bytes : List ℕ) (x : A × List ℕ) → f bytes ≡ Ok x → Passed f bytes x

abbrev pub Stops : {B : Type 0} → (List ℕ → Result B Fault) → Type 0
Stops f = (bytes : List ℕ) (e : Fault) → f bytes ≡ Err e → Stopped f bytes e

-- a flaw of a field, which is neither the file's magic nor what follows its last rule
abbrev pub IsOfSome : CodeFlaw → Type 0
IsOfSome flaw = cut_flaw flaw ≡ Some flaws.Truncated

abbrev pub Flawed : {B : Type 0} → (List ℕ → Result B Fault) → Type 0
Flawed f = (bytes : List ℕ) (e : Fault) → f bytes ≡ Err e → IsOfSome e.flaw

pub record IsReader {A : Type 0} (f : List ℕ → FieldRead A) : Type 0 where
  pub passes : Passes f
  pub stops : Stops f
  pub flawed : Flawed f

-- ---- one reader after another

abbrev pub then : {A B : Type 0} → (List ℕ → FieldRead A) → (A → List ℕ → Result B Fault) → List ℕ → Result B Fault
then f g bytes = f bytes >>= λ x. g x.0 x.1

-- a fault of two steps is one of the first, or of the second
pub err_of : {A B : Type 0} (r : Result A Fault) (k : A → Result B Fault) (e : Fault) → (r >>= k) ≡ Err e → (r ≡ Err e) ⊎ ((x : A) × (r ≡ Ok x) × (k x ≡ Err e))
err_of (Ok x) k e h = inr (x, refl, h)
err_of (Err z) k e h = inl (let same : z ≡ e = cc in ap (λ (w : Fault). Err w) same)

module _ {A B : Type 0} (f : List ℕ → FieldRead A) (g : A → List ℕ → Result B Fault) where
  then_goes_on : (bytes : List ℕ) (x : A × List ℕ) → f bytes ≡ Ok x → then f g bytes ≡ g x.0 x.1
  then_goes_on bytes x h = ap (λ (r : FieldRead A). r >>= λ y. g y.0 y.1) h

  -- a fault of the second reader
  stopped_after : (bytes : List ℕ) (x : A × List ℕ) (e : Fault) → Passed f bytes x → Stopped (g x.0) x.1 e → Stopped (then f g) bytes e
  stopped_after bytes x e p s =
      let len : length bytes ≡ length p.used + length x.1 = ap length p.parts ∙ length-append p.used x.1 in
      let all : length (p.used ++ s.through) ≡ length p.used + length s.through = length-append p.used s.through in
      record {
        through = p.used ++ s.through;
        rest = s.rest;
        at = length p.used + s.at;
        parts = p.parts ∙ ap (λ (t : List ℕ). p.used ++ t) s.parts ∙ sym (append_assoc p.used s.through s.rest);
        begins = omega (arith, len, s.begins);
        within = omega (arith, all, s.within);
        short = omega (arith, all, s.short);
        cut = λ k lt.
            let within : s.at + k < length s.through = omega (arith, lt, all) in
            let taken : take ((length p.used + s.at) + k) (p.used ++ s.through) ≡ p.used ++ take (s.at + k) s.through = ap (λ (n : ℕ). take n (p.used ++ s.through)) (add_assoc (length p.used) s.at k) ∙ take-append-add p.used s.through (s.at + k) in
            ap (then f g) taken ∙ then_goes_on (p.used ++ take (s.at + k) s.through) (x.0, take (s.at + k) s.through) (p.again (take (s.at + k) s.through)) ∙ s.cut k within;
        stays = elim s.stays [
          | inl cut ↦ inl cut
          | inr on ↦ inr (λ more left h.
              let regrouped : (p.used ++ s.through) ++ more ≡ p.used ++ (s.through ++ more) = append_assoc p.used s.through more in
              let h' : (length p.used + s.at) + left ≡ length (p.used ++ (s.through ++ more)) = h ∙ ap length regrouped in
              let here : s.at + left ≡ length (s.through ++ more) = omega (arith, h', length-append p.used (s.through ++ more)) in
              ap (then f g) regrouped ∙ then_goes_on (p.used ++ (s.through ++ more)) (x.0, s.through ++ more) (p.again (s.through ++ more)) ∙ on more left here)
        ];
      }

  -- a fault of the first
  stopped_before : (bytes : List ℕ) (e : Fault) → Stopped f bytes e → Stopped (then f g) bytes e
  stopped_before bytes e s = record {
    through = s.through;
    rest = s.rest;
    at = s.at;
    parts = s.parts;
    begins = s.begins;
    within = s.within;
    short = s.short;
    cut = λ k lt. ap (λ (r : FieldRead A). r >>= λ y. g y.0 y.1) (s.cut k lt);
    stays = elim s.stays [
      | inl cut ↦ inl cut
      | inr on ↦ inr (λ more left h. ap (λ (r : FieldRead A). r >>= λ y. g y.0 y.1) (on more left h))
    ];
  }

  -- a fault of two readers in a row comes from the bytes through its field, if theirs do
  pub stops_then : IsReader f → ((bytes : List ℕ) (x : A × List ℕ) → f bytes ≡ Ok x → Stops (g x.0)) → Stops (then f g)
  stops_then first second bytes e h =
      elim (err_of (f bytes) (λ x. g x.0 x.1) e h) [
        | inl stop ↦ stopped_before bytes e (first.stops bytes e stop)
        | inr p ↦ stopped_after bytes p.0 e (first.passes bytes p.0 p.1) (second bytes p.0 p.1 p.0.1 e p.2)
      ]

  -- a flaw of two readers in a row is one of theirs
  pub flawed_then : IsReader f → ((bytes : List ℕ) (x : A × List ℕ) → f bytes ≡ Ok x → Flawed (g x.0)) → Flawed (then f g)
  flawed_then first second bytes e h =
      elim (err_of (f bytes) (λ x. g x.0 x.1) e h) [
        | inl stop ↦ first.flawed bytes e stop
        | inr p ↦ second bytes p.0 p.1 p.0.1 e p.2
      ]

module _ {A B : Type 0} (f : List ℕ → FieldRead A) (g : A → List ℕ → FieldRead B) where
  passes_then : Passes f → ((bytes : List ℕ) (x : A × List ℕ) → f bytes ≡ Ok x → Passes (g x.0)) → Passes (then f g)
  passes_then first second bytes y h =
      let a = both_steps (f bytes) (λ x. g x.0 x.1) y h in
      let p = first bytes a.0 a.1 in
      let q = second bytes a.0 a.1 a.0.1 y a.2 in
      record {
        used = p.used ++ q.used;
        parts = p.parts ∙ ap (λ (t : List ℕ). p.used ++ t) q.parts ∙ sym (append_assoc p.used q.used y.1);
        again = λ more.
            ap (then f g) (append_assoc p.used q.used more) ∙ then_goes_on f g (p.used ++ (q.used ++ more)) (a.0.0, q.used ++ more) (p.again (q.used ++ more)) ∙ q.again more;
      }

  -- the second reader may count on what the first gave
  pub reader_given : IsReader f → ((bytes : List ℕ) (x : A × List ℕ) → f bytes ≡ Ok x → IsReader (g x.0)) → IsReader (then f g)
  reader_given first second = record {
    passes = passes_then first.passes (λ bytes x h. (second bytes x h).passes);
    stops = stops_then f g first (λ bytes x h. (second bytes x h).stops);
    flawed = flawed_then f g first (λ bytes x h. (second bytes x h).flawed);
  }

  -- the same, where the second reader counts on nothing
  pub reader_then : IsReader f → ((a : A) → IsReader (g a)) → IsReader (then f g)
  reader_then first second = reader_given first (λ bytes x h. second x.0)

-- a reader that takes nothing
pub reader_of : {A : Type 0} (a : A) → IsReader (λ bytes. Ok (a, bytes))
reader_of {A} a = record {
  passes = λ bytes x h. record { used = []; parts = ap (λ (y : A × List ℕ). y.1) (ok_is (a, bytes) x h); again = λ more. ap (λ (b : A). Ok (b, more)) (ap (λ (y : A × List ℕ). y.0) (ok_is (a, bytes) x h)) };
  stops = λ bytes e h. absurd cc;
  flawed = λ bytes e h. absurd cc;
}

-- what a reader gives, seen by a function
pub reader_map : {A B : Type 0} (f : List ℕ → FieldRead A) (make : A → B) → IsReader f → IsReader (then f (λ a bytes. Ok (make a, bytes)))
reader_map f make first = reader_then f (λ a bytes. Ok (make a, bytes)) first (λ a. reader_of (make a))

-- ---- single fields

-- one field: it is short, and bytes that end within it are cut where it begins
pub record IsField {A : Type 0} (f : List ℕ → FieldRead A) : Type 0 where
  pub short : (bytes : List ℕ) (x : A × List ℕ) → f bytes ≡ Ok x → length bytes ≤ length x.1 + most_field_bytes
  pub cut : (used rest : List ℕ) (a : A) → f (used ++ rest) ≡ Ok (a, rest) → (k : ℕ) → k < length used → f (take k used) ≡ Err (fault_of flaws.Truncated k)

-- a field that begins at the start
from_start : {B : Type 0} (f : List ℕ → Result B Fault) (through : List ℕ) → ((k : ℕ) → k < length through → f (take k through) ≡ Err (fault_of flaws.Truncated k)) → (k : ℕ) → 0 + k < length through → f (take (0 + k) through) ≡ Err (fault_of flaws.Truncated k)
from_start f through cut k lt = rw (zero-add k) (cut k (omega arith))

-- a field whose value is tested: it is wrong as a whole
module _ {A : Type 0} (f : List ℕ → FieldRead A) (test : A → Bool) (flaw : CodeFlaw) where
  abbrev pub tested : List ℕ → FieldRead A
  tested bytes = f bytes >>= λ x. cond (test x.0) (Ok x) (wrong flaw bytes)

  chosen_ok : (b : Bool) (bytes : List ℕ) (x y : A × List ℕ) → cond b (Ok x) (wrong flaw bytes) ≡ Ok y → (b ≡ true) × (x ≡ y)
  chosen_ok true bytes x y h = (refl, ok_is x y h)
  chosen_ok false bytes x y h = absurd cc

  chosen_err : (b : Bool) (bytes : List ℕ) (x : A × List ℕ) (e : Fault) → cond b (Ok x) (wrong flaw bytes) ≡ Err e → (b ≡ false) × (fault_of flaw (length bytes) ≡ e)
  chosen_err true bytes x e h = absurd cc
  chosen_err false bytes x e h = (refl, cc)

  tested_passes : Passes f → Passes tested
  tested_passes first bytes y h =
      let a = both_steps (f bytes) (λ x. cond (test x.0) (Ok x) (wrong flaw bytes)) y h in
      let c = chosen_ok (test a.0.0) bytes a.0 y a.2 in
      subst (λ (z : A × List ℕ). Passed tested bytes z) c.1 (
      let p = first bytes a.0 a.1 in
      record { used = p.used; parts = p.parts; again = λ more. rw (p.again more, c.0) refl })

  tested_wrong : (bytes : List ℕ) (x : A × List ℕ) → IsField f → Passed f bytes x → f bytes ≡ Ok x → test x.0 ≡ false → Stopped tested bytes (fault_of flaw (length bytes))
  tested_wrong bytes x field p h fails =
      let len : length bytes ≡ length p.used + length x.1 = ap length p.parts ∙ length-append p.used x.1 in
      record {
        through = p.used;
        rest = x.1;
        at = 0;
        parts = p.parts;
        begins = omega arith;
        within = omega arith;
        short = omega (arith, len, field.short bytes x h);
        cut = from_start tested p.used (λ k lt. rw (field.cut p.used x.1 x.0 (p.again x.1) k lt) refl);
        stays = inr (λ more left is. rw (p.again more, fails) (ap (λ (n : ℕ). Err (fault_of flaw n)) (omega (arith, is))));
      }

  tested_stops : IsReader f → IsField f → Stops tested
  tested_stops first field bytes e h =
      elim (err_of (f bytes) (λ x. cond (test x.0) (Ok x) (wrong flaw bytes)) e h) [
        | inl stop ↦ before (first.stops bytes e stop)
        | inr p ↦
            let c = chosen_err (test p.0.0) bytes p.0 e p.2 in
            subst (λ (d : Fault). Stopped tested bytes d) c.1 (tested_wrong bytes p.0 field (first.passes bytes p.0 p.1) p.1 c.0)
      ]
    where
      before : Stopped f bytes e → Stopped tested bytes e
      before s = record {
        through = s.through;
        rest = s.rest;
        at = s.at;
        parts = s.parts;
        begins = s.begins;
        within = s.within;
        short = s.short;
        cut = λ k lt. rw (s.cut k lt) refl;
        stays = elim s.stays [
          | inl cut ↦ inl cut
          | inr on ↦ inr (λ more left is. rw (on more left is) refl)
        ];
      }

  tested_flawed : IsOfSome flaw → Flawed f → Flawed tested
  tested_flawed of_some first bytes e h =
      elim (err_of (f bytes) (λ x. cond (test x.0) (Ok x) (wrong flaw bytes)) e h) [
        | inl stop ↦ first bytes e stop
        | inr p ↦ let c = chosen_err (test p.0.0) bytes p.0 e p.2 in subst (λ (d : Fault). IsOfSome d.flaw) c.1 of_some
      ]

  -- a field that is tested is read from its own bytes, if the field is
  pub reader_tested : IsOfSome flaw → IsReader f → IsField f → IsReader tested
  reader_tested of_some first field = record { passes = tested_passes first.passes; stops = tested_stops first field; flawed = tested_flawed of_some first.flawed }

  -- a field that is tested is one
  pub field_tested : IsField f → IsField tested
  field_tested field = record {
    short = λ bytes y h.
        let a = both_steps (f bytes) (λ x. cond (test x.0) (Ok x) (wrong flaw bytes)) y h in
        let c = chosen_ok (test a.0.0) bytes a.0 y a.2 in
        rw c.1 at (field.short bytes a.0 a.1);
    cut = λ used rest a h k lt.
        let b = both_steps (f (used ++ rest)) (λ x. cond (test x.0) (Ok x) (wrong flaw (used ++ rest))) (a, rest) h in
        let c = chosen_ok (test b.0.0) (used ++ rest) b.0 (a, rest) b.2 in
        rw (field.cut used rest a (b.1 ∙ ap (λ (y : A × List ℕ). Ok y) c.1) k lt) refl;
  }

-- a field that the end of the file cuts
cut_at_end : {A : Type 0} (f : List ℕ → FieldRead A) (bytes : List ℕ) → length bytes ≤ most_field_bytes → ((k : ℕ) → k < length bytes → f (take k bytes) ≡ Err (fault_of flaws.Truncated k)) → Stopped f bytes (fault_of flaws.Truncated (length bytes))
cut_at_end f bytes few shorter = record {
  through = bytes;
  rest = [];
  at = 0;
  parts = sym (append-nil bytes);
  begins = omega arith;
  within = omega arith;
  short = few;
  cut = from_start f bytes shorter;
  stays = inl (refl, refl);
}

-- so many bytes, and what they give
module _ {A : Type 0} (n : ℕ) (give : List ℕ → A) where
  abbrev pub piece : List ℕ → FieldRead A
  piece bytes = cond (ltb (length bytes) n) (wrong flaws.Truncated bytes) (Ok (give (take n bytes), drop n bytes))

  piece_err : (b : Bool) (bytes : List ℕ) (x : A × List ℕ) (e : Fault) → cond b (wrong flaws.Truncated bytes) (Ok x) ≡ Err e → (b ≡ true) × (fault_of flaws.Truncated (length bytes) ≡ e)
  piece_err true bytes x e h = (refl, cc)
  piece_err false bytes x e h = absurd cc

  long_enough : (bytes : List ℕ) (x : A × List ℕ) → piece bytes ≡ Ok x → (n ≤ length bytes) × ((give (take n bytes), drop n bytes) ≡ x)
  long_enough bytes x h =
      let g = guard_ok (ltb (length bytes) n) (fault_of flaws.Truncated (length bytes)) (give (take n bytes), drop n bytes) x h in
      (ltb-false _ _ g.0, g.1)

  piece_passes : Passes piece
  piece_passes bytes x h =
      let g = long_enough bytes x h in
      let len : length (take n bytes) ≡ n = omega (arith, length-take n bytes, g.0) in
      subst (λ (y : A × List ℕ). Passed piece bytes y) g.1 (record {
        used = take n bytes;
        parts = sym (take-append-drop n bytes);
        again = λ more.
            let long : ltb (length (take n bytes ++ more)) n ≡ false = le-ltb _ _ (omega (arith, length-append (take n bytes) more, len)) in
            rw (long, take_at (take n bytes) more n len, drop_at (take n bytes) more n len) refl;
      })

  -- fewer bytes are cut
  piece_short : (bytes : List ℕ) → length bytes < n → piece bytes ≡ Err (fault_of flaws.Truncated (length bytes))
  piece_short bytes lt = rw (lt-ltb (length bytes) n lt) refl

  piece_cut : (used : List ℕ) (k : ℕ) → k < length used → k < n → piece (take k used) ≡ Err (fault_of flaws.Truncated k)
  piece_cut used k lt few =
      let len : length (take k used) ≡ k = length-take-le k used (omega arith) in
      piece_short (take k used) (omega arith) ∙ ap (λ (m : ℕ). Err (fault_of flaws.Truncated m)) len

  -- a piece of so many bytes is read from those bytes alone
  pub reader_piece : n ≤ most_field_bytes → IsReader piece
  reader_piece few = record {
    passes = piece_passes;
    stops = λ bytes e h.
        let g = piece_err (ltb (length bytes) n) bytes (give (take n bytes), drop n bytes) e h in
        let short : length bytes < n = ltb-true _ _ g.0 in
        subst (λ (d : Fault). Stopped piece bytes d) g.1 (cut_at_end piece bytes (omega arith) (λ k lt. piece_cut bytes k lt (omega arith)));
    flawed = λ bytes e h.
        let g = piece_err (ltb (length bytes) n) bytes (give (take n bytes), drop n bytes) e h in
        subst (λ (d : Fault). IsOfSome d.flaw) g.1 refl;
  }

  piece_length : (bytes : List ℕ) (x : A × List ℕ) → piece bytes ≡ Ok x → length bytes ≡ n + length x.1
  piece_length bytes x h =
      let g = long_enough bytes x h in
      let len : length bytes ≡ n + length (drop n bytes) = omega (arith, length-take n bytes, g.0, ap length (take-append-drop n bytes), length-append (take n bytes) (drop n bytes)) in
      let after : drop n bytes ≡ x.1 = ap (λ (y : A × List ℕ). y.1) g.1 in
      omega (arith, len, ap length after)

  -- a piece of few bytes is one field
  pub field_piece : n ≤ most_field_bytes → IsField piece
  field_piece few = record {
    short = λ bytes x h. omega (arith, piece_length bytes x h);
    cut = λ used rest a h k lt.
        let len : length (used ++ rest) ≡ n + length rest = piece_length (used ++ rest) (a, rest) h in
        piece_cut used k lt (omega (arith, len, length-append used rest));
  }

-- a number of fixed width is read from its own bytes
pub reader_number : (w : Width) → byte_len w ≤ most_field_bytes → IsReader (number_from w)
reader_number w few = reader_piece (byte_len w) (from_be_bytes w) few

-- a number of fixed width is one field
pub field_number : (w : Width) → byte_len w ≤ most_field_bytes → IsField (number_from w)
field_number w few = field_piece (byte_len w) (from_be_bytes w) few

-- ---- a byte that says what follows it

-- what a byte leads to: a reader of what follows, or a fault at the byte
pub record Leads {A : Type 0} (f : List ℕ → FieldRead A) (b : ℕ) : Type 0 where
  pub leads : ((g : List ℕ → FieldRead A) × IsReader g × ((rest : List ℕ) → f (b ∷ rest) ≡ g rest)) ⊎ ((flaw : CodeFlaw) × ((rest : List ℕ) → f (b ∷ rest) ≡ wrong flaw (b ∷ rest)) × IsOfSome flaw)

module _ {A : Type 0} (f : List ℕ → FieldRead A) (ends : f [] ≡ wrong flaws.Truncated []) (each : (b : ℕ) → Leads f b) where
  byte_passes : Passes f
  byte_passes [] x h = absurd (let bad : wrong flaws.Truncated [] ≡ Ok x = sym ends ∙ h in cc)
  byte_passes (b ∷ rest) x h =
      elim (each b).leads [
        | inl r ↦
            let p = r.1.passes rest x (sym (r.2 rest) ∙ h) in
            record { used = b ∷ p.used; parts = ap (λ (t : List ℕ). b ∷ t) p.parts; again = λ more. r.2 (p.used ++ more) ∙ p.again more }
        | inr w ↦ absurd (let bad : wrong w.0 (b ∷ rest) ≡ Ok x = sym (w.1 rest) ∙ h in cc)
      ]

  first_cut : (b k : ℕ) → k < 1 → f (take k (b ∷ [])) ≡ Err (fault_of flaws.Truncated k)
  first_cut b zero lt = ends
  first_cut b (suc k) lt = absurd (omega arith)

  byte_stops : Stops f
  byte_stops [] e h = let same : fault_of flaws.Truncated 0 ≡ e = (let both : wrong flaws.Truncated [] ≡ Err e = sym ends ∙ h in cc) in subst (λ (d : Fault). Stopped f [] d) same (cut_at_end f [] (omega arith) (λ k lt. absurd (omega arith)))
  byte_stops (b ∷ rest) e h =
      elim (each b).leads [
        | inl r ↦
            let s = r.1.stops rest e (sym (r.2 rest) ∙ h) in
            record {
              through = b ∷ s.through;
              rest = s.rest;
              at = suc s.at;
              parts = ap (λ (t : List ℕ). b ∷ t) s.parts;
              begins = omega (arith, s.begins);
              within = omega (arith, s.within);
              short = omega (arith, s.short);
              cut = λ k lt. ap (λ (n : ℕ). f (take n (b ∷ s.through))) (suc-add s.at k) ∙ r.2 (take (s.at + k) s.through) ∙ s.cut k (omega arith);
              stays = elim s.stays [
                | inl cut ↦ inl cut
                | inr on ↦ inr (λ more left is. r.2 (s.through ++ more) ∙ on more left (omega (arith, is)))
              ];
            }
        | inr w ↦
            let same : fault_of w.0 (suc (length rest)) ≡ e = (let both : wrong w.0 (b ∷ rest) ≡ Err e = sym (w.1 rest) ∙ h in cc) in
            subst (λ (d : Fault). Stopped f (b ∷ rest) d) same (record {
              through = b ∷ [];
              rest = rest;
              at = 0;
              parts = refl;
              begins = omega arith;
              within = omega arith;
              short = omega arith;
              cut = from_start f (b ∷ []) (λ k lt. first_cut b k (omega (arith, lt)));
              stays = inr (λ more left is. w.1 more ∙ ap (λ (k : ℕ). Err (fault_of w.0 k)) (omega (arith, is)));
            })
      ]

  byte_flawed : Flawed f
  byte_flawed [] e h = let same : fault_of flaws.Truncated 0 ≡ e = (let both : wrong flaws.Truncated [] ≡ Err e = sym ends ∙ h in cc) in subst (λ (d : Fault). IsOfSome d.flaw) same refl
  byte_flawed (b ∷ rest) e h =
      elim (each b).leads [
        | inl r ↦ r.1.flawed rest e (sym (r.2 rest) ∙ h)
        | inr w ↦
            let same : fault_of w.0 (suc (length rest)) ≡ e = (let both : wrong w.0 (b ∷ rest) ≡ Err e = sym (w.1 rest) ∙ h in cc) in
            subst (λ (d : Fault). IsOfSome d.flaw) same w.2
      ]

  -- a first byte and what it leads to are read from their own bytes
  pub reader_byte : IsReader f
  reader_byte = record { passes = byte_passes; stops = byte_stops; flawed = byte_flawed }

-- ---- many things

-- things that are each read from their own bytes are so read one after another
pub reader_many : {A : Type 0} (item_from : List A → List ℕ → FieldRead A) → ((before : List A) → IsReader (item_from before)) → (before : List A) (n : ℕ) → IsReader (many_from item_from before n)
unfolding many_from
reader_many item_from each before zero = reader_of []
reader_many {A} item_from each before (suc n) =
    reader_then (item_from before) (λ x bytes. many_from item_from (before ++ x ∷ []) n bytes >>= λ others. Ok (x ∷ others.0, others.1)) (each before)
    (λ x. reader_map (many_from item_from (before ++ x ∷ []) n) (λ xs. x ∷ xs) (reader_many item_from each (before ++ x ∷ []) n))
