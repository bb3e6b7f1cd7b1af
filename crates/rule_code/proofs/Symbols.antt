-- Symbols: a tag, then one or two texts.
use Rattle.std.proofs.Common.{◌≡◌, ℕ, ◌^◌, ◌<◌, true, cond, eqb, List, [], ◌∷◌, ◌++◌, Ok, refl, sym, subst, inl, inr}
use Rattle.std.proofs.lemmas.Bool.{eqb-true}
use Rattle.rule_code.specs.declared.fault.CodeFlaw.TheVariants as flaws
use Rattle.rule_code.specs.declared.symbol.Symbol.{Symbol}
use Rattle.rule_code.specs.declared.symbol.Symbol.TheVariants as symbols
use Rattle.rule_code.specs.Spelling.{symbol}
use Rattle.rule_code.specs.NumberBytes.{number_bytes}
use Rattle.rule_code.specs.WellFormed.{SymbolFits}
use Rattle.ocl_base.specs.Steps.{◌>>=◌}
use Rattle.rule_code.specs.Reading.{FieldRead, wrong, text_number_from}
use Rattle.rule_code.specs.Parts.{named_once_from, named_twice_from, symbol_from}
use Rattle.ocl_base.proofs.ForAbove.{both_steps, ok_is}
use Rattle.rule_code.proofs.Bytes.{IsBytes, IsBytes-rest, chosen, Takes, Takes-then, Takes-behind}
use Rattle.rule_code.proofs.Codec.{IsCodec}
use Rattle.rule_code.proofs.Fields.{text_number_codec}

-- a symbol that is read behind its tag
abbrev Behind : ℕ → ℕ → List ℕ → Symbol × List ℕ → Type 0
Behind texts tag rest x = Takes (tag ∷ rest) (symbol x.0) x.1 × SymbolFits texts x.0

module _ (texts : ℕ) (few : texts < 2 ^ 16) where
  named_takes : (tag : ℕ) (make : ℕ → Symbol) → ((n : ℕ) → symbol (make n) ≡ tag ∷ number_bytes n) → ((n : ℕ) → n < texts → SymbolFits texts (make n))
      → (rest : List ℕ) (x : Symbol × List ℕ) → IsBytes rest → named_once_from texts make rest ≡ Ok x → Behind texts tag rest x
  named_takes tag make spelled holds rest x fits e =
      let a = both_steps (text_number_from texts rest) (λ n. Ok (make n.0, n.1)) x e in
      let t = (text_number_codec texts few).takes rest a.0 fits a.1 in
      subst (λ (y : Symbol × List ℕ). Behind texts tag rest y) (ok_is (make a.0.0, a.0.1) x a.2) (rw (spelled a.0.0) (Takes-behind tag rest (number_bytes a.0.0) a.0.1 t.0), holds a.0.0 t.1)

  named_twice_takes : (tag : ℕ) (make : ℕ → ℕ → Symbol) → ((m n : ℕ) → symbol (make m n) ≡ tag ∷ (number_bytes m ++ number_bytes n)) → ((m n : ℕ) → m < texts → n < texts → SymbolFits texts (make m n))
      → (rest : List ℕ) (x : Symbol × List ℕ) → IsBytes rest → named_twice_from texts make rest ≡ Ok x → Behind texts tag rest x
  named_twice_takes tag make spelled holds rest x fits e =
      let a = both_steps (text_number_from texts rest) (λ m. text_number_from texts m.1 >>= λ n. Ok (make m.0 n.0, n.1)) x e in
      let b = both_steps (text_number_from texts a.0.1) (λ n. Ok (make a.0.0 n.0, n.1)) x a.2 in
      let s = (text_number_codec texts few).takes rest a.0 fits a.1 in
      let t = (text_number_codec texts few).takes a.0.1 b.0 s.0.rest_fits b.1 in
      let both = Takes-then rest (number_bytes a.0.0) a.0.1 (number_bytes b.0.0) b.0.1 s.0 t.0 in
      subst (λ (y : Symbol × List ℕ). Behind texts tag rest y) (ok_is (make a.0.0 b.0.0, b.0.1) x b.2)
      (rw (spelled a.0.0 b.0.0) (Takes-behind tag rest (number_bytes a.0.0 ++ number_bytes b.0.0) b.0.1 both), holds a.0.0 b.0.0 s.1 t.1)

  -- what is read at each tag
  abbrev class_from : List ℕ → FieldRead Symbol
  class_from = named_once_from texts (λ c. symbols.Class (record { 0 = c }))

  abbrev enumeration_from : List ℕ → FieldRead Symbol
  enumeration_from = named_once_from texts (λ e. symbols.Enumeration (record { 0 = e }))

  abbrev feature_from : List ℕ → FieldRead Symbol
  feature_from = named_twice_from texts (λ c f. symbols.Feature (record { 0 = c }) (record { 0 = f }))

  abbrev literal_from : List ℕ → FieldRead Symbol
  literal_from = named_twice_from texts (λ e l. symbols.Literal (record { 0 = e }) (record { 0 = l }))

  -- what is read at tags from the second, the third and the fourth on
  abbrev from_literal : ℕ → List ℕ → FieldRead Symbol
  from_literal tag rest = cond (eqb tag 4) (literal_from rest) (wrong flaws.BadNumber (tag ∷ rest))

  abbrev from_feature : ℕ → List ℕ → FieldRead Symbol
  from_feature tag rest = cond (eqb tag 3) (feature_from rest) (from_literal tag rest)

  abbrev from_enumeration : ℕ → List ℕ → FieldRead Symbol
  from_enumeration tag rest = cond (eqb tag 2) (enumeration_from rest) (from_feature tag rest)

  tagged_takes : (tag : ℕ) (rest : List ℕ) (x : Symbol × List ℕ) → IsBytes rest → cond (eqb tag 1) (class_from rest) (from_enumeration tag rest) ≡ Ok x → Behind texts tag rest x
  tagged_takes tag rest x fits e =
      let at_tag : ℕ → Type 0 = λ t. Behind texts t rest x in
      let is = λ (k : ℕ) (h : eqb tag k ≡ true). sym (eqb-true tag k h) in
      elim (chosen (eqb tag 1) (class_from rest) (from_enumeration tag rest) (Ok x) e) [
        | inl h ↦ subst at_tag (is 1 h.0) (named_takes 1 (λ c. symbols.Class (record { 0 = c })) (λ n. refl) (λ n lt. lt) rest x fits h.1)
        | inr h ↦
            elim (chosen (eqb tag 2) (enumeration_from rest) (from_feature tag rest) (Ok x) h.1) [
              | inl h ↦ subst at_tag (is 2 h.0) (named_takes 2 (λ e. symbols.Enumeration (record { 0 = e })) (λ n. refl) (λ n lt. lt) rest x fits h.1)
              | inr h ↦
                  elim (chosen (eqb tag 3) (feature_from rest) (from_literal tag rest) (Ok x) h.1) [
                    | inl h ↦ subst at_tag (is 3 h.0) (named_twice_takes 3 (λ c f. symbols.Feature (record { 0 = c }) (record { 0 = f })) (λ m n. refl) (λ m n l k. (l, k)) rest x fits h.1)
                    | inr h ↦
                        elim (chosen (eqb tag 4) (literal_from rest) (wrong flaws.BadNumber (tag ∷ rest)) (Ok x) h.1) [
                          | inl h ↦ subst at_tag (is 4 h.0) (named_twice_takes 4 (λ e l. symbols.Literal (record { 0 = e }) (record { 0 = l })) (λ m n. refl) (λ m n l k. (l, k)) rest x fits h.1)
                          | inr h ↦ absurd (let bad : wrong flaws.BadNumber (tag ∷ rest) ≡ Ok x = h.1 in cc)
                        ]
                  ]
            ]
      ]

  symbol_takes : (bytes : List ℕ) (x : Symbol × List ℕ) → IsBytes bytes → symbol_from texts bytes ≡ Ok x → Takes bytes (symbol x.0) x.1 × SymbolFits texts x.0
  unfolding symbol_from
  symbol_takes [] x fits e = absurd cc
  symbol_takes (tag ∷ rest) x fits e = tagged_takes tag rest x (IsBytes-rest tag rest fits) e

  symbol_again : (x : Symbol) (rest : List ℕ) → SymbolFits texts x → symbol_from texts (symbol x ++ rest) ≡ Ok (x, rest)
  unfolding symbol_from
  symbol_again (symbols.Class c) rest fits = rw ((text_number_codec texts few).again c.0 rest fits) refl
  symbol_again (symbols.Enumeration e) rest fits = rw ((text_number_codec texts few).again e.0 rest fits) refl
  symbol_again (symbols.Feature c f) rest fits =
      rw ((text_number_codec texts few).again c.0 (number_bytes f.0 ++ rest) fits.0, (text_number_codec texts few).again f.0 rest fits.1) refl
  symbol_again (symbols.Literal e l) rest fits =
      rw ((text_number_codec texts few).again e.0 (number_bytes l.0 ++ rest) fits.0, (text_number_codec texts few).again l.0 rest fits.1) refl

  -- a symbol whose texts are there: what is read was spelled so, and what is spelled so is read
  pub symbol_codec : IsCodec symbol (SymbolFits texts) (symbol_from texts)
  symbol_codec = record { takes = symbol_takes; again = symbol_again }
