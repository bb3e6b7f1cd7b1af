-- The single fields: numbers, integers, Booleans, texts.
use Rattle.std.proofs.Common.{◌≡◌, ℕ, zero, suc, ℤ, ◌^◌, ◌<◌, ◌≤◌, Bool, true, false, cond, ltb, List, [], ◌∷◌, ◌++◌, length, take, drop, Ok, Fits, refl, sym, ap, subst, ◌∙◌, append_assoc, arith}
use Rattle.std.specs.Prelude.{if◌then◌else◌}
use Rattle.std.specs.Int.{Width, w16, w64, byte_len, from_be_bytes, to_be_bytes, cast_signed, cast_unsigned}
use Rattle.std.specs.Int.RustNames.{FitsSigned}
use Rattle.std.specs.Str.{is_utf8}
use Rattle.std.proofs.lemmas.Bool.{ltb-false, ltb-true, le-ltb, lt-ltb, false≢true}
use Rattle.std.proofs.lemmas.List.{take_at, drop_at, take-append-drop, length-append, length-take}
use Rattle.std.proofs.lemmas.Nat.{be_bytes_2, be_bytes_8, from_be_bytes-to_be_bytes_2, from_be_bytes-to_be_bytes_8}
use Rattle.std.proofs.lemmas.Int.{of_z-to_z, to_z-of_z}
use borrow.Author.Gap.{read_sfits}
use mir.Facts.{Fits-of_z}
use Rattle.rule_code.specs.declared.fault.CodeFlaw.TheVariants as flaws
use Rattle.rule_code.specs.declared.symbol.Symbol.{Symbol}
use Rattle.rule_code.specs.declared.symbol.SymbolTag.{SymbolTag}
use Rattle.rule_code.specs.SymbolTag.{is_symbol_of}
use Rattle.rule_code.specs.Spelling.{text}
use Rattle.rule_code.specs.NumberBytes.{number_bytes}
use Rattle.rule_code.specs.WellFormed.{IsTextOfUnit}
use Rattle.rule_code.specs.Reading.{wrong, number_from, count_from, text_number_from, symbol_number_from, text_bytes_from}
use Rattle.rule_code.specs.Opcodes.{integer_from, boolean_from}
use Rattle.rule_code.specs.Parts.{text_from}
use Rattle.ocl_base.proofs.ForAbove.{both_steps, ok_is}
use Rattle.rule_code.proofs.Bytes.{IsBytes, IsBytes-drop, IsBytes-take, IsBytes-rest, guard_ok, pass_ok, go_on, Takes, Takes-then}
use Rattle.rule_code.proofs.Codec.{IsCodec}

-- ---- numbers of fixed width

pub record IsWide (w : Width) (limit : ℕ) : Type 0 where
  pub len : (n : ℕ) → length (to_be_bytes w n) ≡ byte_len w
  pub back : (bytes : List ℕ) → length bytes ≡ byte_len w → IsBytes bytes → to_be_bytes w (from_be_bytes w bytes) ≡ bytes
  pub again : (n : ℕ) → n < limit → from_be_bytes w (to_be_bytes w n) ≡ n
  pub below : (bytes : List ℕ) → IsBytes bytes → from_be_bytes w bytes < limit

-- numbers of 16 bits have two bytes, and are read back from them
pub wide16 : IsWide w16 (2 ^ 16)
wide16 = record {
  len = λ n. refl;
  back = λ bytes len fits. be_bytes_2 bytes _ len fits.small refl;
  again = λ n lt. from_be_bytes-to_be_bytes_2 n lt;
  below = λ bytes fits. omega (arith, fits.small 0, fits.small 1);
}

-- numbers of 64 bits have eight bytes, and are read back from them
pub wide64 : IsWide w64 (2 ^ 64)
wide64 = record {
  len = λ n. refl;
  back = λ bytes len fits. be_bytes_8 bytes _ len fits.small refl;
  again = λ n lt. from_be_bytes-to_be_bytes_8 n lt;
  below = λ bytes fits.
      omega (arith, fits.small 0, fits.small 1, fits.small 2, fits.small 3, fits.small 4, fits.small 5, fits.small 6, fits.small 7);
}

-- a number of fixed width: what is read was spelled so, and what is spelled so is read
pub wide_codec : (w : Width) (limit : ℕ) → IsWide w limit → IsCodec (to_be_bytes w) (λ n. n < limit) (number_from w)
wide_codec w limit wide = record {
  takes = λ bytes x fits e.
      let g = guard_ok (ltb (length bytes) (byte_len w)) (record { flaw = flaws.Truncated; left = length bytes }) (from_be_bytes w (take (byte_len w) bytes), drop (byte_len w) bytes) x e in
      let long : byte_len w ≤ length bytes = ltb-false _ _ g.0 in
      let front : to_be_bytes w (from_be_bytes w (take (byte_len w) bytes)) ≡ take (byte_len w) bytes = wide.back (take (byte_len w) bytes) (omega (arith, length-take (byte_len w) bytes)) (IsBytes-take (byte_len w) bytes fits) in
      subst (λ (p : ℕ × List ℕ). Takes bytes (to_be_bytes w p.0) p.1 × (p.0 < limit)) g.1
      (record { parts = rw front (sym (take-append-drop (byte_len w) bytes)); rest_fits = IsBytes-drop (byte_len w) bytes fits }, wide.below (take (byte_len w) bytes) (IsBytes-take (byte_len w) bytes fits));
  again = λ n rest lt.
      let len = wide.len n in
      let long : ltb (length (to_be_bytes w n ++ rest)) (byte_len w) ≡ false = le-ltb _ _ (omega (arith, length-append (to_be_bytes w n) rest)) in
      rw (long, take_at (to_be_bytes w n) rest (byte_len w) len, drop_at (to_be_bytes w n) rest (byte_len w) len, wide.again n lt) refl;
}

-- the same of a number of 16 bits
pub number_codec : IsCodec number_bytes (λ n. n < 2 ^ 16) (number_from w16)
number_codec = wide_codec w16 (2 ^ 16) wide16

-- the same of a count within its limit
pub count_codec : (limit : ℕ) → limit < 2 ^ 16 → IsCodec number_bytes (λ n. n ≤ limit) (count_from limit)
unfolding count_from
count_codec limit small = record {
  takes = λ bytes x fits e.
      let a = both_steps (number_from w16 bytes) (λ n. cond (ltb limit n.0) (wrong flaws.Limit bytes) (Ok n)) x e in
      let g = guard_ok (ltb limit a.0.0) (record { flaw = flaws.Limit; left = length bytes }) a.0 x a.2 in
      let t = number_codec.takes bytes a.0 fits a.1 in
      subst (λ (p : ℕ × List ℕ). Takes bytes (number_bytes p.0) p.1 × (p.0 ≤ limit)) g.1 (t.0, ltb-false _ _ g.0);
  again = λ n rest le.
      let fine : ltb limit n ≡ false = le-ltb _ _ le in
      rw (number_codec.again n rest (omega arith), fine) refl;
}

-- the same of the number of a text that is there
pub text_number_codec : (texts : ℕ) → texts < 2 ^ 16 → IsCodec number_bytes (λ n. n < texts) (text_number_from texts)
unfolding text_number_from
text_number_codec texts few = record {
  takes = λ bytes x fits e.
      let a = both_steps (number_from w16 bytes) (λ n. cond (ltb n.0 texts) (Ok n) (wrong flaws.BadNumber bytes)) x e in
      let g = pass_ok (ltb a.0.0 texts) (record { flaw = flaws.BadNumber; left = length bytes }) a.0 x a.2 in
      let t = number_codec.takes bytes a.0 fits a.1 in
      subst (λ (p : ℕ × List ℕ). Takes bytes (number_bytes p.0) p.1 × (p.0 < texts)) g.1 (t.0, ltb-true _ _ g.0);
  again = λ n rest lt.
      let below : ltb n texts ≡ true = lt-ltb _ _ lt in
      rw (number_codec.again n rest (omega arith), below) refl;
}

-- a symbol that is there has a number in range
pub is_symbol_of-lt : (tag : SymbolTag) (symbols : List Symbol) (n : ℕ) → is_symbol_of tag symbols n ≡ true → n < length symbols
is_symbol_of-lt tag [] n e = absurd (false≢true e)
is_symbol_of-lt tag (s ∷ symbols) zero e = omega arith
is_symbol_of-lt tag (s ∷ symbols) (suc n) e = let below = is_symbol_of-lt tag symbols n e in omega arith

-- the same of the number of a symbol that is there and has this tag
pub symbol_number_codec : (tag : SymbolTag) (symbols : List Symbol) → length symbols < 2 ^ 16 → IsCodec number_bytes (λ n. is_symbol_of tag symbols n ≡ true) (symbol_number_from tag symbols)
unfolding symbol_number_from
symbol_number_codec tag symbols few = record {
  takes = λ bytes x fits e.
      let a = both_steps (number_from w16 bytes) (λ n. cond (is_symbol_of tag symbols n.0) (Ok n) (wrong flaws.BadNumber bytes)) x e in
      let g = pass_ok (is_symbol_of tag symbols a.0.0) (record { flaw = flaws.BadNumber; left = length bytes }) a.0 x a.2 in
      let t = number_codec.takes bytes a.0 fits a.1 in
      subst (λ (p : ℕ × List ℕ). Takes bytes (number_bytes p.0) p.1 × (is_symbol_of tag symbols p.0 ≡ true)) g.1 (t.0, g.0);
  again = λ n rest is.
      let below = is_symbol_of-lt tag symbols n is in
      rw (number_codec.again n rest (omega arith), is) refl;
}

-- ---- integers and Booleans

abbrev pub integer : ℤ → List ℕ
integer n = to_be_bytes w64 (cast_unsigned w64 n)

cast_unsigned-lt : (n : ℤ) → FitsSigned w64 n → cast_unsigned w64 n < 2 ^ 64
cast_unsigned-lt n fits = let h : Fits w64 (cast_unsigned w64 n) = Fits-of_z fits in omega (arith, h)

-- the same of an integer
pub integer_codec : IsCodec integer (FitsSigned w64) integer_from
unfolding integer_from
integer_codec = record {
  takes = λ bytes x fits e.
      let a = both_steps (number_from w64 bytes) (λ n. Ok (cast_signed w64 n.0, n.1)) x e in
      let t = (wide_codec w64 (2 ^ 64) wide64).takes bytes a.0 fits a.1 in
      let back : cast_unsigned w64 (cast_signed w64 a.0.0) ≡ a.0.0 = of_z-to_z w64 a.0.0 t.1 in
      subst (λ (y : ℤ × List ℕ). Takes bytes (integer y.0) y.1 × FitsSigned w64 y.0) (ok_is (cast_signed w64 a.0.0, a.0.1) x a.2)
      (subst (λ (k : ℕ). Takes bytes (to_be_bytes w64 k) a.0.1) (sym back) t.0, read_sfits w64 a.0.0);
  again = λ n rest fits. rw ((wide_codec w64 (2 ^ 64) wide64).again (cast_unsigned w64 n) rest (cast_unsigned-lt n fits), to_z-of_z w64 n fits) refl;
}

abbrev pub boolean : Bool → List ℕ
boolean b = (if b then 1 else 0) ∷ []

boolean_takes : (bytes : List ℕ) (x : Bool × List ℕ) → IsBytes bytes → boolean_from bytes ≡ Ok x → Takes bytes (boolean x.0) x.1 × Unit {0}
unfolding boolean_from
boolean_takes [] x fits e = absurd cc
boolean_takes (zero ∷ bytes) x fits e =
    subst (λ (y : Bool × List ℕ). Takes (0 ∷ bytes) (boolean y.0) y.1 × Unit {0}) (ok_is (false, bytes) x e) (record { parts = refl; rest_fits = IsBytes-rest 0 bytes fits }, tt)
boolean_takes (suc zero ∷ bytes) x fits e =
    subst (λ (y : Bool × List ℕ). Takes (1 ∷ bytes) (boolean y.0) y.1 × Unit {0}) (ok_is (true, bytes) x e) (record { parts = refl; rest_fits = IsBytes-rest 1 bytes fits }, tt)
boolean_takes (suc (suc b) ∷ bytes) x fits e = absurd cc

boolean_again : (b : Bool) (rest : List ℕ) → Unit {0} → boolean_from (boolean b ++ rest) ≡ Ok (b, rest)
unfolding boolean_from
boolean_again true rest fits = refl
boolean_again false rest fits = refl

-- the same of a Boolean
pub boolean_codec : IsCodec boolean (λ b. Unit {0}) boolean_from
boolean_codec = record { takes = boolean_takes; again = boolean_again }

-- ---- texts

-- the same of a text
pub text_codec : IsCodec text IsTextOfUnit text_from
unfolding text_from text_bytes_from
text_codec = record {
  takes = λ bytes x fits e.
      let a = both_steps (count_from 4096 bytes) (λ n. text_bytes_from n.0 n.1) x e in
      let n = a.0.0 in
      let rest = a.0.1 in
      let t = (count_codec 4096 (omega arith)).takes bytes a.0 fits a.1 in
      let k = go_on (ltb (length rest) n) (cond (is_utf8 (take n rest)) (Ok (take n rest, drop n rest)) (wrong flaws.BadText rest)) (record { flaw = flaws.Truncated; left = length rest }) x a.2 in
      let g = pass_ok (is_utf8 (take n rest)) (record { flaw = flaws.BadText; left = length rest }) (take n rest, drop n rest) x k.1 in
      let long : n ≤ length rest = ltb-false _ _ k.0 in
      let len : length (take n rest) ≡ n = omega (arith, length-take n rest) in
      let second : Takes rest (take n rest) (drop n rest) = record { parts = sym (take-append-drop n rest); rest_fits = IsBytes-drop n rest t.0.rest_fits } in
      let both = Takes-then bytes (number_bytes n) rest (take n rest) (drop n rest) t.0 second in
      let whole : Takes bytes (text (take n rest)) (drop n rest) = subst (λ (k : ℕ). Takes bytes (number_bytes k ++ take n rest) (drop n rest)) (sym len) both in
      subst (λ (p : List ℕ × List ℕ). Takes bytes (text p.0) p.1 × IsTextOfUnit p.0) g.1 (whole, (omega (arith, t.1), g.0));
  again = λ bytes rest fits.
      let regrouped : text bytes ++ rest ≡ number_bytes (length bytes) ++ (bytes ++ rest) = append_assoc (number_bytes (length bytes)) bytes rest in
      let long : ltb (length (bytes ++ rest)) (length bytes) ≡ false = le-ltb _ _ (omega (arith, length-append bytes rest)) in
      let one = take_at bytes rest (length bytes) refl in
      let two = drop_at bytes rest (length bytes) refl in
      ap text_from regrouped ∙ rw ((count_codec 4096 (omega arith)).again (length bytes) (bytes ++ rest) fits.0, long, one, two, fits.1) refl;
}
