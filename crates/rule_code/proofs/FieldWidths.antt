-- How many bytes a field takes that is read.
use Rattle.std.proofs.Common.{◌≡◌, ℕ, zero, suc, ◌+◌, ◌/◌, ◌%◌, ◌<◌, Bool, true, false, cond, ltb, List, ◌∷◌, length, drop, take, Option, Some, None, Ok, Err, refl, sym, arith}
use Rattle.std.specs.Int.{Width, w16, w64, byte_len, from_be_bytes, cast_signed}
use Rattle.std.proofs.lemmas.Bool.{ltb-true}
use Rattle.ocl_base.specs.declared.collection_kind.CollectionKind.{CollectionKind}
use Rattle.ocl_base.specs.Steps.{◌>>=◌}
use Rattle.ocl_base.proofs.ForAbove.{ok_is}
use Rattle.rule_code.specs.declared.fault.CodeFlaw.TheVariants as flaws
use Rattle.rule_code.specs.declared.kind.WrittenScalar.{WrittenScalar}
use Rattle.rule_code.specs.declared.kind.WrittenKind.{WrittenKind}
use Rattle.rule_code.specs.declared.kind.WrittenKind.TheVariants as kinds
use Rattle.rule_code.specs.declared.symbol.Symbol.{Symbol}
use Rattle.rule_code.specs.declared.symbol.SymbolTag.{SymbolTag}
use Rattle.rule_code.specs.SymbolTag.{is_symbol_of}
use Rattle.rule_code.specs.Reading.{Fault, FieldRead, wrong, number_from, text_number_from, symbol_number_from}
use Rattle.rule_code.specs.KindReading.{row_numbered, ScalarSort, itself, of_symbol, scalar_sorts, collection_sorts, sort_from, element_from, single_kind_from, elements_from, collection_kind_from, kind_from}
use Rattle.rule_code.specs.Opcodes.{integer_from, boolean_from}
use Rattle.rule_code.specs.FieldSorts.{rest_of, symbol_width}

-- ---- steps

-- a value made from what was read leaves the same bytes
made_of : {A B : Type 0} (make : A → B) (read : FieldRead A) (after : List ℕ) → rest_of (read >>= λ x. Ok (make x.0, x.1)) ≡ Ok after → rest_of read ≡ Ok after
made_of make (Ok x) after e = e
made_of make (Err f) after e = absurd cc

-- so does a value that passes a test
passed : {A : Type 0} (test : A × List ℕ → Bool) (f : Fault) (read : FieldRead A) (after : List ℕ) → rest_of (read >>= λ x. cond (test x) (Ok x) (Err f)) ≡ Ok after → rest_of read ≡ Ok after
passed {A} test f (Ok x) after e = by_test (test x) e
  where
    by_test : (b : Bool) → rest_of {A = A} (cond b (Ok x) (Err f)) ≡ Ok after → rest_of {A = A} (Ok x) ≡ Ok after
    by_test true h = h
    by_test false h = absurd cc
passed test f (Err g) after e = absurd cc

-- ---- single fields

-- a number of fixed width
number_rest : (w : Width) (bytes after : List ℕ) → rest_of (number_from w bytes) ≡ Ok after → after ≡ drop (byte_len w) bytes
number_rest w bytes after e = by_test (ltb (length bytes) (byte_len w)) e
  where
    by_test : (b : Bool) → rest_of {A = ℕ} (cond b (wrong flaws.Truncated bytes) (Ok (from_be_bytes w (take (byte_len w) bytes), drop (byte_len w) bytes))) ≡ Ok after → after ≡ drop (byte_len w) bytes
    by_test true h = absurd cc
    by_test false h = sym (ok_is (drop (byte_len w) bytes) after h)

pub integer_rest : (bytes after : List ℕ) → rest_of (integer_from bytes) ≡ Ok after → after ≡ drop 8 bytes
unfolding integer_from
integer_rest bytes after e = number_rest w64 bytes after (made_of (cast_signed w64) (number_from w64 bytes) after e)

pub boolean_rest : (first : ℕ) (rest after : List ℕ) → rest_of (boolean_from (first ∷ rest)) ≡ Ok after → after ≡ rest
unfolding boolean_from
boolean_rest zero rest after e = sym (ok_is rest after e)
boolean_rest (suc zero) rest after e = sym (ok_is rest after e)
boolean_rest (suc (suc b)) rest after e = absurd cc

pub text_rest : (texts : ℕ) (bytes after : List ℕ) → rest_of (text_number_from texts bytes) ≡ Ok after → after ≡ drop 2 bytes
unfolding text_number_from
text_rest texts bytes after e =
    number_rest w16 bytes after (passed (λ n. ltb n.0 texts) (record { flaw = flaws.BadNumber; left = length bytes }) (number_from w16 bytes) after e)

pub symbol_rest : (tag : SymbolTag) (symbols : List Symbol) (bytes after : List ℕ) → rest_of (symbol_number_from tag symbols bytes) ≡ Ok after → after ≡ drop 2 bytes
unfolding symbol_number_from
symbol_rest tag symbols bytes after e =
    number_rest w16 bytes after (passed (λ n. is_symbol_of tag symbols n.0) (record { flaw = flaws.BadNumber; left = length bytes }) (number_from w16 bytes) after e)

-- ---- kinds

-- what stands behind the byte of a kind
sort_rest : (symbols : List Symbol) (o : Option ScalarSort) (here rest after : List ℕ) → rest_of (sort_from symbols o here rest) ≡ Ok after → after ≡ drop (symbol_width o) rest
sort_rest symbols None here rest after e = absurd cc
sort_rest symbols (Some (itself k)) here rest after e = sym (ok_is rest after e)
sort_rest symbols (Some (of_symbol tag make)) here rest after e =
    symbol_rest tag symbols rest after (made_of (λ (n : ℕ). make (record { 0 = n })) (symbol_number_from tag symbols rest) after e)

pub single_rest : (symbols : List Symbol) (first : ℕ) (rest after : List ℕ) → rest_of (single_kind_from symbols (first ∷ rest)) ≡ Ok after → after ≡ drop (symbol_width (row_numbered scalar_sorts first)) rest
unfolding single_kind_from
single_rest symbols first rest after e = sort_rest symbols (row_numbered scalar_sorts first) (first ∷ rest) rest after e

elements_rest : (symbols : List Symbol) (o : Option CollectionKind) (n : ℕ) (here rest after : List ℕ) → rest_of (elements_from symbols o n here rest) ≡ Ok after → after ≡ drop (symbol_width (row_numbered scalar_sorts n)) rest
elements_rest symbols None n here rest after e = absurd cc
elements_rest symbols (Some c) n here rest after e =
    sort_rest symbols (row_numbered scalar_sorts n) here rest after (made_of (λ (k : WrittenScalar). (c, k)) (element_from symbols n here rest) after e)

pub collection_rest : (symbols : List Symbol) (first : ℕ) (rest after : List ℕ) → rest_of (collection_kind_from symbols (first ∷ rest)) ≡ Ok after → after ≡ drop (symbol_width (row_numbered scalar_sorts (first % 16))) rest
unfolding collection_kind_from
collection_rest symbols first rest after e = elements_rest symbols (row_numbered collection_sorts (first / 16)) (first % 16) (first ∷ rest) rest after e

pub kind_rest : (symbols : List Symbol) (first : ℕ) (rest after : List ℕ) → rest_of (kind_from symbols (first ∷ rest)) ≡ Ok after → after ≡ drop (symbol_width (row_numbered scalar_sorts (first % 16))) rest
unfolding kind_from
kind_rest symbols first rest after e = by_test (ltb first 16) refl e
  where
    single : FieldRead WrittenKind
    single = single_kind_from symbols (first ∷ rest) >>= λ k. Ok (kinds.Scalar k.0, k.1)

    several : FieldRead WrittenKind
    several = collection_kind_from symbols (first ∷ rest) >>= λ k. Ok (kinds.Collection k.0.0 k.0.1, k.1)

    by_test : (b : Bool) → ltb first 16 ≡ b → rest_of (cond b single several) ≡ Ok after → after ≡ drop (symbol_width (row_numbered scalar_sorts (first % 16))) rest
    by_test true small h =
        let below : first < 16 = ltb-true first 16 small in
        let same : first % 16 ≡ first = omega arith in
        rw same (single_rest symbols first rest after (made_of (λ (k : WrittenScalar). kinds.Scalar k) (single_kind_from symbols (first ∷ rest)) after h))
    by_test false large h = collection_rest symbols first rest after (made_of (λ (k : CollectionKind × WrittenScalar). kinds.Collection k.0 k.1) (collection_kind_from symbols (first ∷ rest)) after h)

-- one byte more in front
pub behind_first : (width more first : ℕ) (rest after : List ℕ) → more ≡ width → after ≡ drop width rest → after ≡ drop (1 + more) (first ∷ rest)
behind_first width more first rest after same e =
    let one : 1 + more ≡ suc width = omega arith in
    rw one e
