-- The laws of whole files: what is read is spelled so, and what is spelled so is read.
use Rattle.std.proofs.Common.{◌≡◌, ℕ, ◌^◌, ◌<◌, ◌≤◌, Bool, true, false, cond, eqb, ◌&&◌, not, List, [], ◌∷◌, ◌++◌, length, get_or, take, drop, Result, Ok, Err, refl, sym, ap, subst, ◌∙◌, append_assoc, inl, inr, arith}
use Rattle.std.specs.Prelude.{bytes_eq, ◌↔◌}
use Rattle.std.specs.Int.{w16}
use Rattle.std.specs.List.{AllByRecursion}
use Rattle.std.proofs.lemmas.Bool.{eqb-true}
use Rattle.std.proofs.lemmas.List.{append-nil, take-append-drop}
use Rattle.std.proofs.lemmas.Slice.Eq.{bytes_eq-Decides}
use Rattle.rule_code.specs.declared.fault.CodeFlaw.TheVariants as flaws
use Rattle.rule_code.specs.declared.instruction.Instr.{Instr}
use Rattle.rule_code.specs.declared.symbol.SymbolTag.TheVariants as tags
use Rattle.rule_code.specs.declared.version.Version.{Version}
use Rattle.rule_code.specs.declared.version.Version.TheVariants as versions
use Rattle.ocl_base.specs.Lists.{is_among}
use Rattle.ocl_base.specs.Words.{is_name}
use Rattle.rule_code.specs.Content.{RuleContent, Content, text_at, names_of}
use Rattle.rule_code.specs.FileVersion.{version_number, has_instr}
use Rattle.rule_code.specs.Preamble.{Preamble}
use Rattle.rule_code.specs.NumberBytes.{number_bytes}
use Rattle.rule_code.specs.Spelling.{counted_bytes, text, symbol, instr, rule, magic, spelling}
use Rattle.rule_code.specs.WellFormed.{EachFits, IsTextOfUnit, SymbolFits, InstrFits, RuleFits, IsUnit}
use Rattle.ocl_base.specs.Steps.{◌>>=◌}
use Rattle.rule_code.specs.Reading.{Fault, wrong, number_from, count_from, text_number_from, symbol_number_from}
use Rattle.rule_code.specs.Opcodes.{instr_from}
use Rattle.rule_code.specs.Parts.{text_from, symbol_from, rule_name_from, code_from, rule_from, next_rule_from}
use Rattle.rule_code.specs.CodeFile.{version_from, head_from, texts_from, symbols_from, rules_from, ended, whole_from, with_offset, unit_of}
use Rattle.ocl_base.proofs.ForAbove.{both_steps, okay, ok_is}
use Rattle.rule_code.proofs.Bytes.{IsBytes, IsBytes-drop, chosen, pass_ok, pass_on, Takes, Takes-then}
use Rattle.rule_code.proofs.Codec.{IsCodec, counted_codec, AllByRecursion-from_each, EachFits-from_all}
use Rattle.rule_code.proofs.Fields.{number_codec, count_codec, text_number_codec, symbol_number_codec, text_codec}
use Rattle.rule_code.proofs.Symbols.{symbol_codec}
use Rattle.rule_code.proofs.Instructions.{StandsIn, instr_codec}

-- ---- names

-- what a name keeps
abbrev NameFits : List (List ℕ) → (List ℕ → Bool) → ℕ → Type 0
NameFits texts is_name_taken n = (n < length texts) × (is_name (text_at texts n) ≡ true) × (is_name_taken (text_at texts n) ≡ false)

both_true : (a b : Bool) → (a && not b) ≡ true → (a ≡ true) × (b ≡ false)
both_true true true e = absurd cc
both_true true false e = (refl, refl)
both_true false b e = absurd cc

name_codec : (texts : List (List ℕ)) (is_name_taken : List ℕ → Bool) → length texts < 2 ^ 16 → IsCodec number_bytes (NameFits texts is_name_taken) (rule_name_from texts is_name_taken)
unfolding rule_name_from
name_codec texts is_name_taken few = record {
  takes = λ bytes x fits e.
      let a = both_steps (text_number_from (length texts) bytes) (λ n. cond (is_name (text_at texts n.0) && not (is_name_taken (text_at texts n.0))) (Ok n) (wrong flaws.BadText bytes)) x e in
      let g = pass_ok (is_name (text_at texts a.0.0) && not (is_name_taken (text_at texts a.0.0))) (record { flaw = flaws.BadText; left = length bytes }) a.0 x a.2 in
      let t = (text_number_codec (length texts) few).takes bytes a.0 fits a.1 in
      let b = both_true (is_name (text_at texts a.0.0)) (is_name_taken (text_at texts a.0.0)) g.0 in
      subst (λ (p : ℕ × List ℕ). Takes bytes (number_bytes p.0) p.1 × NameFits texts is_name_taken p.0) g.1 (t.0, (t.1, b.0, b.1));
  again = λ n rest fits. rw ((text_number_codec (length texts) few).again n rest fits.0, fits.1, fits.2) refl;
}

-- ---- lists behind their counts

code_codec : (p : Preamble) → length p.texts < 2 ^ 16 → length p.symbols < 2 ^ 16 → IsCodec (counted_bytes instr) (λ code. (length code < 2 ^ 16) × EachFits (λ before. StandsIn p) [] code) (code_from p)
unfolding code_from
code_codec p few_texts few =
    counted_codec instr (λ before. StandsIn p) (λ before. instr_from p) (λ before. instr_codec p few_texts few) (λ n. n < 2 ^ 16) (number_from w16) number_codec

texts_codec : IsCodec (counted_bytes text) (λ texts. (length texts < 2 ^ 16) × EachFits (λ before. IsTextOfUnit) [] texts) texts_from
unfolding texts_from
texts_codec = counted_codec text (λ before. IsTextOfUnit) (λ before. text_from) (λ before. text_codec) (λ n. n < 2 ^ 16) (number_from w16) number_codec

symbols_codec : (texts : ℕ) → texts < 2 ^ 16 → IsCodec (counted_bytes symbol) (λ symbols. (length symbols < 2 ^ 16) × EachFits (λ before. SymbolFits texts) [] symbols) (symbols_from texts)
unfolding symbols_from
symbols_codec texts few = counted_codec symbol (λ before. SymbolFits texts) (λ before. symbol_from texts) (λ before. symbol_codec texts few) (λ n. n < 2 ^ 16) (number_from w16) number_codec

-- ---- rules

-- instructions that fit and are of the version, in one and apart
all_fit : (p : Preamble) (code : List Instr) → AllByRecursion (StandsIn p) code → AllByRecursion (InstrFits (length p.texts) p.symbols) code
all_fit p [] h = tt
all_fit p (i ∷ is) h = (h.0.0, all_fit p is h.1)

all_known : (p : Preamble) (code : List Instr) → AllByRecursion (StandsIn p) code → AllByRecursion (λ i. has_instr p.version i ≡ true) code
all_known p [] h = tt
all_known p (i ∷ is) h = (h.0.1, all_known p is h.1)

all_stand : (p : Preamble) (code : List Instr) → AllByRecursion (InstrFits (length p.texts) p.symbols) code → AllByRecursion (λ i. has_instr p.version i ≡ true) code → AllByRecursion (StandsIn p) code
all_stand p [] h k = tt
all_stand p (i ∷ is) h k = ((h.0, k.0), all_stand p is h.1 k.1)

rule_codec : (p : Preamble) → length p.texts < 2 ^ 16 → length p.symbols < 2 ^ 16 → (before : List RuleContent)
    → IsCodec rule (RuleFits p.version p.texts p.symbols before) (next_rule_from p before)
unfolding rule_from
rule_codec p few_texts few_symbols before =
    let is_name_taken = is_among bytes_eq (names_of p.texts before) in
    record {
      takes = λ bytes x fits e.
          let a = both_steps (rule_name_from p.texts is_name_taken bytes) (λ name. symbol_number_from tags.Class p.symbols name.1 >>= λ context. code_from p context.1 >>= λ code. Ok (record { name = name.0; context = context.0; code = code.0 }, code.1)) x e in
          let b = both_steps (symbol_number_from tags.Class p.symbols a.0.1) (λ context. code_from p context.1 >>= λ code. Ok (record { name = a.0.0; context = context.0; code = code.0 }, code.1)) x a.2 in
          let d = both_steps (code_from p b.0.1) (λ code. Ok (record { name = a.0.0; context = b.0.0; code = code.0 }, code.1)) x b.2 in
          let t0 = (name_codec p.texts is_name_taken few_texts).takes bytes a.0 fits a.1 in
          let t1 = (symbol_number_codec tags.Class p.symbols few_symbols).takes a.0.1 b.0 t0.0.rest_fits b.1 in
          let t2 = (code_codec p few_texts few_symbols).takes b.0.1 d.0 t1.0.rest_fits d.1 in
          let first = Takes-then bytes (number_bytes a.0.0) a.0.1 (number_bytes b.0.0) b.0.1 t0.0 t1.0 in
          let all = Takes-then bytes (number_bytes a.0.0 ++ number_bytes b.0.0) b.0.1 (counted_bytes instr d.0.0) d.0.1 first t2.0 in
          let stand = AllByRecursion-from_each (StandsIn p) [] d.0.0 t2.1.1 in
          let made : RuleContent × List ℕ = (record { name = a.0.0; context = b.0.0; code = d.0.0 }, d.0.1) in
          subst (λ (y : RuleContent × List ℕ). Takes bytes (rule y.0) y.1 × RuleFits p.version p.texts p.symbols before y.0) (ok_is made x d.2)
          (all, record { name = t0.1.0; is_name = t0.1.1; is_new = t0.1.2; context = t1.1; len = t2.1.0; code = all_fit p d.0.0 stand; instrs = all_known p d.0.0 stand });
      again = λ r rest fits.
          let regrouped : rule r ++ rest ≡ number_bytes r.name ++ (number_bytes r.context ++ (counted_bytes instr r.code ++ rest)) = append_assoc (number_bytes r.name ++ number_bytes r.context) (counted_bytes instr r.code) rest ∙ append_assoc (number_bytes r.name) (number_bytes r.context) (counted_bytes instr r.code ++ rest) in
          ap (rule_from p is_name_taken) regrouped
          ∙ rw ((name_codec p.texts is_name_taken few_texts).again r.name (number_bytes r.context ++ (counted_bytes instr r.code ++ rest)) (fits.name, fits.is_name, fits.is_new), (symbol_number_codec tags.Class p.symbols few_symbols).again r.context (counted_bytes instr r.code ++ rest) fits.context, (code_codec p few_texts few_symbols).again r.code rest (fits.len, EachFits-from_all (StandsIn p) [] r.code (all_stand p r.code fits.code fits.instrs))) refl;
    }

rules_codec : (p : Preamble) → length p.texts < 2 ^ 16 → length p.symbols < 2 ^ 16
    → IsCodec (counted_bytes rule) (λ rules. (length rules ≤ 4096) × EachFits (RuleFits p.version p.texts p.symbols) [] rules) (rules_from p)
unfolding rules_from
rules_codec p few_texts few_symbols =
    counted_codec rule (RuleFits p.version p.texts p.symbols) (next_rule_from p) (rule_codec p few_texts few_symbols) (λ n. n ≤ 4096) (count_from 4096) (count_codec 4096 (omega arith))

-- ---- the whole file

-- a version, as a file has it
abbrev version_bytes : Version → List ℕ
version_bytes v = number_bytes (version_number v)

-- the version that a number is read as has that number
version_is : (n : ℕ) (rest bytes : List ℕ) (x : Version × List ℕ) → cond (eqb n 1) (Ok (versions.One, rest)) (cond (eqb n 2) (Ok (versions.Two, rest)) (wrong flaws.Version bytes)) ≡ Ok x → (n ≡ version_number x.0) × (rest ≡ x.1)
version_is n rest bytes x e =
    elim (chosen (eqb n 1) (Ok (versions.One, rest)) (cond (eqb n 2) (Ok (versions.Two, rest)) (wrong flaws.Version bytes)) (Ok x) e) [
      | inl one ↦ subst (λ (y : Version × List ℕ). (n ≡ version_number y.0) × (rest ≡ y.1)) (ok_is (versions.One, rest) x one.1) (eqb-true n 1 one.0, refl)
      | inr other ↦
          let two = pass_ok (eqb n 2) (record { flaw = flaws.Version; left = length bytes }) (versions.Two, rest) x other.1 in
          subst (λ (y : Version × List ℕ). (n ≡ version_number y.0) × (rest ≡ y.1)) two.1 (eqb-true n 2 two.0, refl)
    ]

version_again : (v : Version) (rest : List ℕ) → version_from (version_bytes v ++ rest) ≡ Ok (v, rest)
unfolding version_from
version_again versions.One rest = rw (number_codec.again 1 rest (omega arith)) refl
version_again versions.Two rest = rw (number_codec.again 2 rest (omega arith)) refl

version_codec : IsCodec version_bytes (λ v. Unit {0}) version_from
unfolding version_from
version_codec = record {
  takes = λ bytes x fits e.
      let a = both_steps (number_from w16 bytes) (λ n. cond (eqb n.0 1) (Ok (versions.One, n.1)) (cond (eqb n.0 2) (Ok (versions.Two, n.1)) (wrong flaws.Version bytes))) x e in
      let is = version_is a.0.0 a.0.1 bytes x a.2 in
      let t = number_codec.takes bytes a.0 fits a.1 in
      (subst (λ (r : List ℕ). Takes bytes (version_bytes x.0) r) is.1 (subst (λ (n : ℕ). Takes bytes (number_bytes n) a.0.1) is.0 t.0), tt);
  again = λ v rest fits. version_again v rest;
}

-- what stands before the texts
abbrev head : Version → List ℕ
head v = magic ++ version_bytes v

head_takes : (bytes : List ℕ) (x : Version × List ℕ) → IsBytes bytes → head_from bytes ≡ Ok x → Takes bytes (head x.0) x.1
unfolding head_from
head_takes bytes x fits e =
    let h = pass_on (bytes_eq (take 4 bytes) magic) (version_from (drop 4 bytes)) (record { flaw = flaws.Magic; left = length bytes }) x e in
    let here : take 4 bytes ≡ magic = (bytes_eq-Decides (take 4 bytes) magic).0 h.0 in
    let first : Takes bytes magic (drop 4 bytes) = record { parts = sym (take-append-drop 4 bytes) ∙ ap (λ (t : List ℕ). t ++ drop 4 bytes) here; rest_fits = IsBytes-drop 4 bytes fits } in
    let second = version_codec.takes (drop 4 bytes) x first.rest_fits h.1 in
    Takes-then bytes magic (drop 4 bytes) (version_bytes x.0) x.1 first second.0

head_again : (v : Version) (rest : List ℕ) → head_from (head v ++ rest) ≡ Ok (v, rest)
unfolding head_from
head_again v rest = version_codec.again v rest tt

regrouped : (u : Content) (rest : List ℕ) → spelling u ++ rest ≡ head u.version ++ (counted_bytes text u.texts ++ (counted_bytes symbol u.symbols ++ (counted_bytes rule u.rules ++ rest)))
regrouped u rest =
    append_assoc (head u.version ++ counted_bytes text u.texts ++ counted_bytes symbol u.symbols) (counted_bytes rule u.rules) rest
    ∙ append_assoc (head u.version ++ counted_bytes text u.texts) (counted_bytes symbol u.symbols) (counted_bytes rule u.rules ++ rest)
    ∙ append_assoc (head u.version) (counted_bytes text u.texts) (counted_bytes symbol u.symbols ++ (counted_bytes rule u.rules ++ rest))

ended_ok : (u v : Content) (rest : List ℕ) → ended u rest ≡ Ok v → (rest ≡ []) × (u ≡ v)
ended_ok u v [] e = (refl, cc)
ended_ok u v (b ∷ rest) e = absurd (let bad : wrong flaws.Trailing (b ∷ rest) ≡ Ok v = e in cc)

-- a file that is read is the spelling of a unit
pub whole_takes : (bytes : List ℕ) (u : Content) → IsBytes bytes → whole_from bytes ≡ Ok u → IsUnit u × (bytes ≡ spelling u)
unfolding whole_from
whole_takes bytes u fits e =
    let a = both_steps (head_from bytes) (λ version. texts_from version.1 >>= λ texts. symbols_from (length texts.0) texts.1 >>= λ symbols. rules_from (record { version = version.0; texts = texts.0; symbols = symbols.0 }) symbols.1 >>= λ rules. ended (record { version = version.0; texts = texts.0; symbols = symbols.0; rules = rules.0 }) rules.1) u e in
    let b = both_steps (texts_from a.0.1) (λ texts. symbols_from (length texts.0) texts.1 >>= λ symbols. rules_from (record { version = a.0.0; texts = texts.0; symbols = symbols.0 }) symbols.1 >>= λ rules. ended (record { version = a.0.0; texts = texts.0; symbols = symbols.0; rules = rules.0 }) rules.1) u a.2 in
    let d = both_steps (symbols_from (length b.0.0) b.0.1) (λ symbols. rules_from (record { version = a.0.0; texts = b.0.0; symbols = symbols.0 }) symbols.1 >>= λ rules. ended (record { version = a.0.0; texts = b.0.0; symbols = symbols.0; rules = rules.0 }) rules.1) u b.2 in
    let p : Preamble = record { version = a.0.0; texts = b.0.0; symbols = d.0.0 } in
    let f = both_steps (rules_from p d.0.1) (λ rules. ended (record { version = a.0.0; texts = b.0.0; symbols = d.0.0; rules = rules.0 }) rules.1) u d.2 in
    let made : Content = record { version = a.0.0; texts = b.0.0; symbols = d.0.0; rules = f.0.0 } in
    let g = ended_ok made u f.0.1 f.2 in
    let t0 = head_takes bytes a.0 fits a.1 in
    let t1 = texts_codec.takes a.0.1 b.0 t0.rest_fits b.1 in
    let t2 = (symbols_codec (length b.0.0) t1.1.0).takes b.0.1 d.0 t1.0.rest_fits d.1 in
    let t3 = (rules_codec p t1.1.0 t2.1.0).takes d.0.1 f.0 t2.0.rest_fits f.1 in
    let two = Takes-then bytes (head a.0.0) a.0.1 (counted_bytes text b.0.0) b.0.1 t0 t1.0 in
    let three = Takes-then bytes (head a.0.0 ++ counted_bytes text b.0.0) b.0.1 (counted_bytes symbol d.0.0) d.0.1 two t2.0 in
    let four = Takes-then bytes (head a.0.0 ++ counted_bytes text b.0.0 ++ counted_bytes symbol d.0.0) d.0.1 (counted_bytes rule f.0.0) f.0.1 three t3.0 in
    let whole : bytes ≡ spelling made = four.parts ∙ ap (λ (r : List ℕ). spelling made ++ r) g.0 ∙ append-nil (spelling made) in
    subst (λ (v : Content). IsUnit v × (bytes ≡ spelling v)) g.1
    (record { text_count = t1.1.0; texts = AllByRecursion-from_each IsTextOfUnit [] b.0.0 t1.1.1; symbol_count = t2.1.0; symbols = AllByRecursion-from_each (SymbolFits (length b.0.0)) [] d.0.0 t2.1.1; rule_count = t3.1.0; rules = t3.1.1 }, whole)

-- whatever follows a unit, its parts are read
whole_again_then : (u : Content) (rest : List ℕ) → IsUnit u → whole_from (spelling u ++ rest) ≡ ended u rest
unfolding whole_from
whole_again_then u rest fits =
    let three : List ℕ = counted_bytes rule u.rules ++ rest in
    let two : List ℕ = counted_bytes symbol u.symbols ++ three in
    let one : List ℕ = counted_bytes text u.texts ++ two in
    ap whole_from (regrouped u rest)
    ∙ rw (head_again u.version one, texts_codec.again u.texts two (fits.text_count, EachFits-from_all IsTextOfUnit [] u.texts fits.texts), (symbols_codec (length u.texts) fits.text_count).again u.symbols three (fits.symbol_count, EachFits-from_all (SymbolFits (length u.texts)) [] u.symbols fits.symbols), (rules_codec (record { version = u.version; texts = u.texts; symbols = u.symbols }) fits.text_count fits.symbol_count).again u.rules rest (fits.rule_count, fits.rules)) refl

-- the spelling of a unit is read as the unit
pub whole_again : (u : Content) → IsUnit u → whole_from (spelling u) ≡ Ok u
whole_again u fits = ap whole_from (sym (append-nil (spelling u))) ∙ whole_again_then u [] fits

-- the spelling of a unit is the beginning of no other's
pub no_beginning : (u v : Content) (rest : List ℕ) → IsUnit u → IsUnit v → spelling v ≡ spelling u ++ rest → (rest ≡ []) × (u ≡ v)
no_beginning u v rest fits more e = ended_ok u v rest (sym (whole_again_then u rest fits) ∙ ap whole_from (sym e) ∙ whole_again v more)

abbrev refused : Fault → Result Content Fault
refused fault = Err fault

-- bytes of a unit are read as it, and as nothing else
whole_is : (bytes : List ℕ) (u : Content) (read : Result Content Fault) → IsUnit u → bytes ≡ spelling u → whole_from bytes ≡ read → read ≡ Ok u
whole_is bytes u read fits e is = sym is ∙ ap whole_from e ∙ whole_again u fits

no_fault : (u : Content) (fault : Fault) → refused fault ≡ okay u → ⊥
no_fault u fault e = cc

-- the spelling of a unit is read as no other unit
pub read_is : (bytes : List ℕ) (u v : Content) → IsUnit u → bytes ≡ spelling u → whole_from bytes ≡ Ok v → v ≡ u
read_is bytes u v fits e is = ok_is v u (whole_is bytes u (Ok v) fits e is)

-- the spelling of a unit is never refused
pub never_refused : (bytes : List ℕ) (u : Content) (fault : Fault) → IsUnit u → bytes ≡ spelling u → whole_from bytes ≡ Err fault → ⊥
never_refused bytes u fault fits e is = no_fault u fault (whole_is bytes u (Err fault) fits e is)

with_offset_ok : (size : ℕ) (read : Result Content Fault) (u : Content) → with_offset size read ≡ Ok u → read ≡ Ok u
with_offset_ok size (Ok v) u e = ap (λ (w : Content). Ok w) cc
with_offset_ok size (Err fault) u e = absurd cc

-- a file is read as a unit just where it is the unit's spelling
pub unit_of-iff : (bytes : List ℕ) (u : Content) → ((i : ℕ) → get_or bytes i 0 < 256) → (unit_of bytes ≡ Ok u) ↔ (IsUnit u × (bytes ≡ spelling u))
unit_of-iff bytes u small = (
  λ e. whole_takes bytes u (record { small = small }) (with_offset_ok (length bytes) (whole_from bytes) u e),
  λ h. ap (with_offset (length bytes)) (ap whole_from h.1 ∙ whole_again u h.0),
)
