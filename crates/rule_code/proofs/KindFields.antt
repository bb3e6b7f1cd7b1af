-- Kinds: a byte, then a symbol, if they have one.
use Rattle.std.proofs.Common.{◌≡◌, ℕ, ◌+◌, ◌*◌, ◌/◌, ◌%◌, ◌<◌, ◌≤◌, ◌^◌, Bool, true, false, cond, eqb, ltb, List, [], ◌∷◌, ◌++◌, length, Option, Some, None, Ok, refl, sym, subst, arith}
use Rattle.std.specs.List.{AllByRecursion}
use Rattle.std.proofs.lemmas.Bool.{eqb-true, le-ltb, lt-ltb}
use Rattle.std.proofs.lemmas.Nat.{div-mul-add, mod-mul-add, div-add-mod'}
use Rattle.ocl_base.specs.declared.collection_kind.CollectionKind.{CollectionKind}
use Rattle.ocl_base.specs.declared.collection_kind.CollectionKind.TheVariants as collection
use Rattle.ocl_base.specs.Steps.{◌>>=◌}
use Rattle.ocl_base.proofs.ForAbove.{both_steps, ok_is}
use Rattle.rule_code.specs.declared.fault.CodeFlaw.TheVariants as flaws
use Rattle.rule_code.specs.declared.kind.WrittenScalar.{WrittenScalar}
use Rattle.rule_code.specs.declared.kind.WrittenScalar.TheVariants as scalars
use Rattle.rule_code.specs.declared.kind.WrittenKind.{WrittenKind}
use Rattle.rule_code.specs.declared.kind.WrittenKind.TheVariants as kinds
use Rattle.rule_code.specs.declared.symbol.Symbol.{Symbol}
use Rattle.rule_code.specs.declared.symbol.SymbolNumber.{SymbolNumber}
use Rattle.rule_code.specs.declared.symbol.SymbolTag.TheVariants as tags
use Rattle.rule_code.specs.SymbolTag.{is_symbol_of}
use Rattle.rule_code.specs.NumberBytes.{number_bytes}
use Rattle.rule_code.specs.WrittenKinds.{scalar_number, collection_number, scalar_symbol, scalar_bytes, collection_bytes, kind_bytes}
use Rattle.rule_code.specs.WellFormed.{ScalarKindFits, KindFits}
use Rattle.rule_code.specs.Reading.{wrong, symbol_number_from}
use Rattle.rule_code.specs.KindReading.{row_numbered, ScalarSort, itself, of_symbol, scalar_sorts, collection_sorts, sort_from, element_from, single_kind_from, elements_from, collection_kind_from, kind_from}
use Rattle.rule_code.proofs.Bytes.{IsBytes, IsBytes-rest, Takes, Takes-behind}
use Rattle.rule_code.proofs.Codec.{IsCodec}
use Rattle.rule_code.proofs.Fields.{symbol_number_codec}

-- ---- tables

-- a row that is found has what each row has
pub numbered_right : {R : Type 0} (Right : ℕ → R → Type 0) (rows : List (ℕ × R)) → AllByRecursion (λ row. Right row.0 row.1) rows → (n : ℕ) (r : R) → row_numbered rows n ≡ Some r → Right n r
numbered_right Right [] right n r e = absurd cc
numbered_right {R} Right (row ∷ rows) right n r e = by_test (eqb n row.0) refl e (λ later. numbered_right Right rows right.1 n r later)
  where
    by_test : (b : Bool) → eqb n row.0 ≡ b → cond b (Some row.1) (row_numbered rows n) ≡ Some r → (row_numbered rows n ≡ Some r → Right n r) → Right n r
    by_test true is found later =
        let same : row.1 ≡ r = cc in
        subst (λ (s : R). Right n s) same (subst (λ (k : ℕ). Right k row.1) (sym (eqb-true n row.0 is)) right.0)
    by_test false is found later = later found

-- ---- single values

module _ (symbols : List Symbol) (few : length symbols < 2 ^ 16) where
  abbrev IsRightSort : ℕ → ScalarSort → Type 0
  IsRightSort n (itself k) = (scalar_number k ≡ n) × (scalar_symbol k ≡ []) × ScalarKindFits symbols k
  IsRightSort n (of_symbol tag make) =
      (s : SymbolNumber) → (scalar_number (make s) ≡ n) × (scalar_symbol (make s) ≡ number_bytes s.0) × (is_symbol_of tag symbols s.0 ≡ true → ScalarKindFits symbols (make s))

  sorts_right : AllByRecursion (λ row. IsRightSort row.0 row.1) scalar_sorts
  sorts_right = ((refl, refl, tt), ((refl, refl, tt), ((refl, refl, tt), ((refl, refl, tt), ((λ s. (refl, refl, λ is. is)), ((λ s. (refl, refl, λ is. is)), ((refl, refl, tt), tt)))))))

  -- what is read behind a kind's byte
  abbrev IsElement : ℕ → List ℕ → WrittenScalar × List ℕ → Type 0
  IsElement n rest x = (scalar_number x.0 ≡ n) × Takes rest (scalar_symbol x.0) x.1 × ScalarKindFits symbols x.0

  sort_takes : (n : ℕ) (o : Option ScalarSort) → ((sort : ScalarSort) → o ≡ Some sort → IsRightSort n sort) → (here rest : List ℕ) (x : WrittenScalar × List ℕ) → IsBytes rest → sort_from symbols o here rest ≡ Ok x → IsElement n rest x
  sort_takes n None right here rest x fits e = absurd (let bad : wrong flaws.BadNumber here ≡ Ok x = e in cc)
  sort_takes n (Some (itself k)) right here rest x fits e =
      let r = right (itself k) refl in
      subst (λ (y : WrittenScalar × List ℕ). IsElement n rest y) (ok_is (k, rest) x e) (r.0, rw r.1 (record { parts = refl; rest_fits = fits }), r.2)
  sort_takes n (Some (of_symbol tag make)) right here rest x fits e =
      let a = both_steps (symbol_number_from tag symbols rest) (λ s. Ok (make (record { 0 = s.0 }), s.1)) x e in
      let t = (symbol_number_codec tag symbols few).takes rest a.0 fits a.1 in
      let s : SymbolNumber = record { 0 = a.0.0 } in
      let r = right (of_symbol tag make) refl s in
      subst (λ (y : WrittenScalar × List ℕ). IsElement n rest y) (ok_is (make s, a.0.1) x a.2) (r.0, rw r.1 t.0, r.2 t.1)

  element_takes : (n : ℕ) (here rest : List ℕ) (x : WrittenScalar × List ℕ) → IsBytes rest → element_from symbols n here rest ≡ Ok x → IsElement n rest x
  element_takes n here rest x fits e = sort_takes n (row_numbered scalar_sorts n) (λ sort found. numbered_right IsRightSort scalar_sorts sorts_right n sort found) here rest x fits e

  element_again : (k : WrittenScalar) (here rest : List ℕ) → ScalarKindFits symbols k → element_from symbols (scalar_number k) here (scalar_symbol k ++ rest) ≡ Ok (k, rest)
  element_again (scalars.Enumeration s) here rest fits = rw ((symbol_number_codec tags.Enumeration symbols few).again s.0 rest fits) refl
  element_again (scalars.Class s) here rest fits = rw ((symbol_number_codec tags.Class symbols few).again s.0 rest fits) refl
  element_again k here rest fits = refl

  scalar_takes : (bytes : List ℕ) (x : WrittenScalar × List ℕ) → IsBytes bytes → single_kind_from symbols bytes ≡ Ok x → Takes bytes (scalar_bytes x.0) x.1 × ScalarKindFits symbols x.0
  unfolding single_kind_from
  scalar_takes [] x fits e = absurd cc
  scalar_takes (b ∷ rest) x fits e =
      let t = element_takes b (b ∷ rest) rest x (IsBytes-rest b rest fits) e in
      (rw t.0 (Takes-behind b rest (scalar_symbol x.0) x.1 t.1), t.2)

  scalar_again : (k : WrittenScalar) (rest : List ℕ) → ScalarKindFits symbols k → single_kind_from symbols (scalar_bytes k ++ rest) ≡ Ok (k, rest)
  unfolding single_kind_from
  scalar_again k rest fits = element_again k (scalar_bytes k ++ rest) rest fits

  -- a kind of single values: what is read was spelled so, and what is spelled so is read
  pub scalar_codec : IsCodec scalar_bytes (ScalarKindFits symbols) (single_kind_from symbols)
  scalar_codec = record { takes = scalar_takes; again = scalar_again }

  -- ---- collections

  abbrev pub pair_bytes : CollectionKind × WrittenScalar → List ℕ
  pair_bytes p = collection_bytes p.0 p.1

  abbrev pub PairFits : CollectionKind × WrittenScalar → Type 0
  PairFits p = ScalarKindFits symbols p.1

  collections_right : AllByRecursion (λ row. collection_number row.1 ≡ row.0) collection_sorts
  collections_right = (refl, (refl, (refl, (refl, tt))))

  abbrev AreElements : ℕ → ℕ → List ℕ → (CollectionKind × WrittenScalar) × List ℕ → Type 0
  AreElements high low rest x = (collection_number x.0.0 ≡ high) × IsElement low rest (x.0.1, x.1)

  elements_takes : (high low : ℕ) (o : Option CollectionKind) → ((c : CollectionKind) → o ≡ Some c → collection_number c ≡ high) → (here rest : List ℕ) (x : (CollectionKind × WrittenScalar) × List ℕ) → IsBytes rest → elements_from symbols o low here rest ≡ Ok x → AreElements high low rest x
  elements_takes high low None right here rest x fits e = absurd (let bad : wrong flaws.BadNumber here ≡ Ok x = e in cc)
  elements_takes high low (Some c) right here rest x fits e =
      let a = both_steps (element_from symbols low here rest) (λ k. Ok ((c, k.0), k.1)) x e in
      subst (λ (y : (CollectionKind × WrittenScalar) × List ℕ). AreElements high low rest y) (ok_is ((c, a.0.0), a.0.1) x a.2) (right c refl, element_takes low here rest a.0 fits a.1)

  collection_takes : (bytes : List ℕ) (x : (CollectionKind × WrittenScalar) × List ℕ) → IsBytes bytes → collection_kind_from symbols bytes ≡ Ok x → Takes bytes (pair_bytes x.0) x.1 × PairFits x.0
  unfolding collection_kind_from
  collection_takes [] x fits e = absurd cc
  collection_takes (b ∷ rest) x fits e =
      let t = elements_takes (b / 16) (b % 16) (row_numbered collection_sorts (b / 16)) (λ c found. numbered_right (λ n c. collection_number c ≡ n) collection_sorts collections_right (b / 16) c found) (b ∷ rest) rest x (IsBytes-rest b rest fits) e in
      let byte : collection_number x.0.0 * 16 + scalar_number x.0.1 ≡ b = rw (t.0, t.1.0) (div-add-mod' b 16) in
      (rw byte (Takes-behind b rest (scalar_symbol x.0.1) x.1 t.1.1), t.1.2)

  scalar_small : (k : WrittenScalar) → scalar_number k ≤ 6
  scalar_small scalars.Void = omega arith
  scalar_small k = omega arith

  found_again : (c : CollectionKind) → row_numbered collection_sorts (collection_number c) ≡ Some c
  found_again collection.Set = refl
  found_again c = refl

  collection_again : (p : CollectionKind × WrittenScalar) (rest : List ℕ) → PairFits p → collection_kind_from symbols (pair_bytes p ++ rest) ≡ Ok (p, rest)
  unfolding collection_kind_from
  collection_again p rest fits =
      let small : scalar_number p.1 < 16 = omega (arith, scalar_small p.1) in
      rw (div-mul-add (collection_number p.0) 16 (scalar_number p.1) small, mod-mul-add (collection_number p.0) 16 (scalar_number p.1) small, found_again p.0)
      (rw (element_again p.1 (pair_bytes p ++ rest) rest fits) refl)

  -- the same of a kind of collections
  pub collection_codec : IsCodec pair_bytes PairFits (collection_kind_from symbols)
  collection_codec = record { takes = collection_takes; again = collection_again }

  -- ---- either

  single_or_many : (bytes : List ℕ) (b : Bool) (x : WrittenKind × List ℕ) → IsBytes bytes
      → cond b (single_kind_from symbols bytes >>= λ k. Ok (kinds.Scalar k.0, k.1)) (collection_kind_from symbols bytes >>= λ k. Ok (kinds.Collection k.0.0 k.0.1, k.1)) ≡ Ok x
      → Takes bytes (kind_bytes x.0) x.1 × KindFits symbols x.0
  single_or_many bytes true x fits e =
      let a = both_steps (single_kind_from symbols bytes) (λ k. Ok (kinds.Scalar k.0, k.1)) x e in
      subst (λ (y : WrittenKind × List ℕ). Takes bytes (kind_bytes y.0) y.1 × KindFits symbols y.0) (ok_is (kinds.Scalar a.0.0, a.0.1) x a.2) (scalar_codec.takes bytes a.0 fits a.1)
  single_or_many bytes false x fits e =
      let a = both_steps (collection_kind_from symbols bytes) (λ k. Ok (kinds.Collection k.0.0 k.0.1, k.1)) x e in
      subst (λ (y : WrittenKind × List ℕ). Takes bytes (kind_bytes y.0) y.1 × KindFits symbols y.0) (ok_is (kinds.Collection a.0.0.0 a.0.0.1, a.0.1) x a.2) (collection_codec.takes bytes a.0 fits a.1)

  kind_takes : (bytes : List ℕ) (x : WrittenKind × List ℕ) → IsBytes bytes → kind_from symbols bytes ≡ Ok x → Takes bytes (kind_bytes x.0) x.1 × KindFits symbols x.0
  unfolding kind_from
  kind_takes [] x fits e = absurd cc
  kind_takes (b ∷ rest) x fits e = single_or_many (b ∷ rest) (ltb b 16) x fits e

  collection_large : (c : CollectionKind) → 1 ≤ collection_number c
  collection_large collection.Set = omega arith
  collection_large c = omega arith

  kind_again : (k : WrittenKind) (rest : List ℕ) → KindFits symbols k → kind_from symbols (kind_bytes k ++ rest) ≡ Ok (k, rest)
  unfolding kind_from
  kind_again (kinds.Scalar k) rest fits =
      let low : ltb (scalar_number k) 16 ≡ true = lt-ltb _ _ (omega (arith, scalar_small k)) in
      rw (low, scalar_again k rest fits) refl
  kind_again (kinds.Collection c k) rest fits =
      let high : ltb (collection_number c * 16 + scalar_number k) 16 ≡ false = le-ltb _ _ (omega (arith, collection_large c)) in
      rw (high, collection_again (c, k) rest fits) refl

  -- the same of a kind of either sort
  pub kind_codec : IsCodec kind_bytes (KindFits symbols) (kind_from symbols)
  kind_codec = record { takes = kind_takes; again = kind_again }
