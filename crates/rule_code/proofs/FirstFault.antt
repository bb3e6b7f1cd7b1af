-- The first fault of a code file is that of its field.
use Rattle.std.proofs.Common.{◌≡◌, ◌⊎◌, ℕ, zero, suc, ◌+◌, ◌-◌, ◌/◌, ◌%◌, ◌<◌, ◌≤◌, ◌&&◌, not, Bool, true, false, cond, ltb, eqb, List, [], ◌∷◌, ◌++◌, length, take, drop, Result, Ok, Err, Option, Some, None, refl, sym, ap, subst, ◌∙◌, append_assoc, add_assoc, append-nil, inl, inr, arith}
use Rattle.std.specs.Prelude.{bytes_eq}
use Rattle.std.specs.Int.{w16, w64, cast_signed}
use Rattle.std.specs.Str.{is_utf8}
use Rattle.std.proofs.lemmas.Bool.{ltb-false, cases_lt}
use Rattle.std.proofs.lemmas.Slice.Eq.{bytes_eq-Decides}
use Rattle.std.proofs.lemmas.List.{take_at, drop_at, take-append-drop, length-append, length-take, length-take-le}
use Rattle.ocl_base.specs.Steps.{◌>>=◌}
use Rattle.ocl_base.specs.Words.{is_name}
use Rattle.ocl_base.proofs.ForAbove.{both_steps, ok_is}
use Rattle.rule_code.specs.declared.fault.CodeFlaw.{CodeFlaw}
use Rattle.rule_code.specs.declared.fault.CodeFlaw.TheVariants as flaws
use Rattle.ocl_base.specs.declared.collection_kind.CollectionKind.{CollectionKind}
use Rattle.rule_code.specs.declared.kind.WrittenKind.TheVariants as kinds
use Rattle.rule_code.specs.declared.symbol.Symbol.{Symbol}
use Rattle.rule_code.specs.declared.symbol.Symbol.TheVariants as symbols
use Rattle.rule_code.specs.declared.symbol.SymbolTag.{SymbolTag}
use Rattle.rule_code.specs.declared.symbol.SymbolTag.TheVariants as tags
use Rattle.rule_code.specs.declared.version.Version.{Version}
use Rattle.rule_code.specs.declared.version.Version.TheVariants as versions
use Rattle.rule_code.specs.SymbolTag.{is_symbol_of}
use Rattle.rule_code.specs.Content.{RuleContent, Content, text_at}
use Rattle.rule_code.specs.Preamble.{Preamble}
use Rattle.rule_code.specs.Spelling.{magic}
use Rattle.rule_code.specs.Reading.{Fault, FieldRead, wrong, number_from, count_from, text_number_from, symbol_number_from, text_bytes_from, many_from}
use Rattle.rule_code.specs.KindReading.{row_numbered, ScalarSort, itself, of_symbol, scalar_sorts, collection_sorts, sort_from, element_from, single_kind_from, elements_from, collection_kind_from, kind_from}
use Rattle.rule_code.specs.Opcodes.{Fields, made, integer, boolean, number, text, symbol, scalar, collection, kind, opcodes, integer_from, boolean_from, fields_from, behind, instr_from}
use Rattle.rule_code.specs.Parts.{text_from, named_once_from, named_twice_from, symbol_from, rule_name_from, code_from, rule_from, next_rule_from}
use Rattle.rule_code.specs.CodeFile.{version_from, head_from, texts_from, symbols_from, rules_from, ended, whole_from, code_fault_at, with_offset, fault_part, CodeFaultAt}
use Rattle.rule_code.specs.Laws.{most_field_bytes, may_be_cut, cut_flaw, FaultsAreOfFields}
use Rattle.std.specs.Option.{option_map}
use Rattle.std.proofs.Math.Seq.{take-append-add}
use Rattle.rule_code.proofs.FieldFaults.{Passed, fault_of, err_of, IsReader, IsOfSome, then, reader_given, reader_then, reader_of, reader_map, IsField, tested, reader_tested, field_tested, piece, reader_piece, field_piece, reader_number, field_number, reader_byte, reader_many}

-- ---- fields

wide : 2 ≤ most_field_bytes
wide = omega arith

number_reader : IsReader (number_from w16)
number_reader = reader_number w16 wide

number_field : IsField (number_from w16)
number_field = field_number w16 wide

abbrev within : ℕ → ℕ → Bool
within limit n = not (ltb limit n)

-- a test that goes on where it is false
flipped : {A : Type 0} (b : Bool) (x y : A) → cond b y x ≡ cond (not b) x y
flipped true x y = refl
flipped false x y = refl

-- two readers that give the same
pub reader_same : {A : Type 0} (f g : List ℕ → FieldRead A) → ((bytes : List ℕ) → g bytes ≡ f bytes) → IsReader f → IsReader g
reader_same f g same r = record {
  passes = λ bytes x h. let p = r.passes bytes x (sym (same bytes) ∙ h) in record { used = p.used; parts = p.parts; again = λ more. same (p.used ++ more) ∙ p.again more };
  stops = λ bytes e h.
      let s = r.stops bytes e (sym (same bytes) ∙ h) in
      record {
        through = s.through;
        rest = s.rest;
        at = s.at;
        parts = s.parts;
        begins = s.begins;
        within = s.within;
        short = s.short;
        cut = λ k lt. same (take (s.at + k) s.through) ∙ s.cut k lt;
        stays = elim s.stays [
          | inl cut ↦ inl cut
          | inr on ↦ inr (λ more left is. same (s.through ++ more) ∙ on more left is)
        ];
      };
  flawed = λ bytes e h. r.flawed bytes e (sym (same bytes) ∙ h);
}

-- a count is tested against its limit
count_is : (limit : ℕ) (bytes : List ℕ) → count_from limit bytes ≡ tested (number_from w16) (within limit) flaws.Limit bytes
unfolding count_from
count_is limit bytes = by_read (number_from w16 bytes)
  where
    by_read : (r : FieldRead ℕ) → (r >>= λ n. cond (ltb limit n.0) (wrong flaws.Limit bytes) (Ok n)) ≡ (r >>= λ n. cond (within limit n.0) (Ok n) (wrong flaws.Limit bytes))
    by_read (Ok n) = flipped (ltb limit n.0) (Ok n) (wrong flaws.Limit bytes)
    by_read (Err e) = refl

count_reader : (limit : ℕ) → IsReader (count_from limit)
count_reader limit = reader_same (tested (number_from w16) (within limit) flaws.Limit) (count_from limit) (count_is limit) (reader_tested (number_from w16) (within limit) flaws.Limit refl number_reader number_field)

count_within : (limit : ℕ) (bytes : List ℕ) (x : ℕ × List ℕ) → count_from limit bytes ≡ Ok x → x.0 ≤ limit
unfolding count_from
count_within limit bytes x h =
    let a = both_steps (number_from w16 bytes) (λ n. cond (ltb limit n.0) (wrong flaws.Limit bytes) (Ok n)) x h in
    by_test (ltb limit a.0.0) refl a.2
  where
    by_test : (b : Bool) → ltb limit (both_steps (number_from w16 bytes) (λ n. cond (ltb limit n.0) (wrong flaws.Limit bytes) (Ok n)) x h).0.0 ≡ b → cond b (wrong flaws.Limit bytes) (Ok (both_steps (number_from w16 bytes) (λ n. cond (ltb limit n.0) (wrong flaws.Limit bytes) (Ok n)) x h).0) ≡ Ok x → x.0 ≤ limit
    by_test true e g = absurd cc
    by_test false e g = let same = ok_is _ x g in subst (λ (y : ℕ × List ℕ). y.0 ≤ limit) same (ltb-false _ _ e)

text_number_reader : (texts : ℕ) → IsReader (text_number_from texts)
unfolding text_number_from
text_number_reader texts = reader_tested (number_from w16) (λ n. ltb n texts) flaws.BadNumber refl number_reader number_field

text_number_field : (texts : ℕ) → IsField (text_number_from texts)
unfolding text_number_from
text_number_field texts = field_tested (number_from w16) (λ n. ltb n texts) flaws.BadNumber number_field

symbol_number_reader : (tag : SymbolTag) (symbols : List Symbol) → IsReader (symbol_number_from tag symbols)
unfolding symbol_number_from
symbol_number_reader tag symbols = reader_tested (number_from w16) (is_symbol_of tag symbols) flaws.BadNumber refl number_reader number_field

-- the bytes of a text that isn't too long
text_bytes_is : (n : ℕ) (bytes : List ℕ) → text_bytes_from n bytes ≡ tested (piece n (λ t. t)) is_utf8 flaws.BadText bytes
unfolding text_bytes_from
text_bytes_is n bytes = by_test (ltb (length bytes) n)
  where
    given : FieldRead (List ℕ)
    given = Ok (take n bytes, drop n bytes)

    by_test : (b : Bool) → cond b (wrong flaws.Truncated bytes) (cond (is_utf8 (take n bytes)) given (wrong flaws.BadText bytes)) ≡ (cond b (wrong flaws.Truncated bytes) given >>= λ x. cond (is_utf8 x.0) (Ok x) (wrong flaws.BadText bytes))
    by_test true = refl
    by_test false = refl

text_bytes_reader : (n : ℕ) → n ≤ most_field_bytes → IsReader (text_bytes_from n)
text_bytes_reader n few =
    reader_same (tested (piece n (λ t. t)) is_utf8 flaws.BadText) (text_bytes_from n) (text_bytes_is n)
    (reader_tested (piece n (λ t. t)) is_utf8 flaws.BadText refl (reader_piece n (λ t. t) few) (field_piece n (λ t. t) few))

text_reader : IsReader text_from
unfolding text_from
text_reader = reader_given (count_from 4096) text_bytes_from (count_reader 4096) (λ bytes x h. text_bytes_reader x.0 (count_within 4096 bytes x h))

-- ---- symbols

once_reader : (texts : ℕ) (make : ℕ → Symbol) → IsReader (named_once_from texts make)
once_reader texts make = reader_map (text_number_from texts) make (text_number_reader texts)

twice_reader : (texts : ℕ) (make : ℕ → ℕ → Symbol) → IsReader (named_twice_from texts make)
twice_reader texts make =
    reader_then (text_number_from texts) (λ m bytes. text_number_from texts bytes >>= λ n. Ok (make m n.0, n.1)) (text_number_reader texts)
    (λ m. reader_map (text_number_from texts) (make m) (text_number_reader texts))

symbol_reader : (texts : ℕ) → IsReader (symbol_from texts)
unfolding symbol_from
symbol_reader texts = reader_byte (symbol_from texts) refl (λ tag. record { leads = leads tag (eqb tag 1) refl (eqb tag 2) refl (eqb tag 3) refl (eqb tag 4) refl })
  where
    leads : (tag : ℕ) (a : Bool) → eqb tag 1 ≡ a → (b : Bool) → eqb tag 2 ≡ b → (c : Bool) → eqb tag 3 ≡ c → (d : Bool) → eqb tag 4 ≡ d
        → ((g : List ℕ → FieldRead Symbol) × IsReader g × ((rest : List ℕ) → symbol_from texts (tag ∷ rest) ≡ g rest)) ⊎ ((flaw : CodeFlaw) × ((rest : List ℕ) → symbol_from texts (tag ∷ rest) ≡ wrong flaw (tag ∷ rest)) × IsOfSome flaw)
    leads tag true e b f c g d h = inl (named_once_from texts (λ n. symbols.Class (record { 0 = n })), once_reader texts (λ n. symbols.Class (record { 0 = n })), λ rest. rw e refl)
    leads tag false e true f c g d h = inl (named_once_from texts (λ n. symbols.Enumeration (record { 0 = n })), once_reader texts (λ n. symbols.Enumeration (record { 0 = n })), λ rest. rw (e, f) refl)
    leads tag false e false f true g d h = inl (named_twice_from texts (λ m n. symbols.Feature (record { 0 = m }) (record { 0 = n })), twice_reader texts (λ m n. symbols.Feature (record { 0 = m }) (record { 0 = n })), λ rest. rw (e, f, g) refl)
    leads tag false e false f false g true h = inl (named_twice_from texts (λ m n. symbols.Literal (record { 0 = m }) (record { 0 = n })), twice_reader texts (λ m n. symbols.Literal (record { 0 = m }) (record { 0 = n })), λ rest. rw (e, f, g, h) refl)
    leads tag false e false f false g false h = inr (flaws.BadNumber, (λ rest. rw (e, f, g, h) refl), refl)

-- ---- instructions

integer_reader : IsReader integer_from
unfolding integer_from
integer_reader = reader_map (number_from w64) (cast_signed w64) (reader_number w64 (omega arith))

boolean_reader : IsReader boolean_from
unfolding boolean_from
boolean_reader = reader_byte boolean_from refl (λ b. record { leads = leads b })
  where
    leads : (b : ℕ) → ((g : List ℕ → FieldRead Bool) × IsReader g × ((rest : List ℕ) → boolean_from (b ∷ rest) ≡ g rest)) ⊎ ((flaw : CodeFlaw) × ((rest : List ℕ) → boolean_from (b ∷ rest) ≡ wrong flaw (b ∷ rest)) × IsOfSome flaw)
    leads zero = inl ((λ rest. Ok (false, rest)), reader_of false, λ rest. refl)
    leads (suc zero) = inl ((λ rest. Ok (true, rest)), reader_of true, λ rest. refl)
    leads (suc (suc b)) = inr (flaws.BadNumber, (λ rest. refl), refl)

-- what follows a byte: a reader, or the fault of the byte
abbrev Goes : {A : Type 0} → (List ℕ → FieldRead A) → ℕ → Type 0
Goes {A} f b = ((g : List ℕ → FieldRead A) × IsReader g × ((rest : List ℕ) → f rest ≡ g rest)) ⊎ ((flaw : CodeFlaw) × ((rest : List ℕ) → f rest ≡ wrong flaw (b ∷ rest)) × IsOfSome flaw)

goes_map : {A B : Type 0} (f : List ℕ → FieldRead A) (make : A → B) (b : ℕ) → Goes f b → Goes (λ rest. f rest >>= λ x. Ok (make x.0, x.1)) b
goes_map {A} f make b goes = elim goes [
  | inl r ↦ inl (then r.0 (λ a bytes. Ok (make a, bytes)), reader_map r.0 make r.1, λ rest. ap (λ (x : FieldRead A). x >>= λ y. Ok (make y.0, y.1)) (r.2 rest))
  | inr w ↦ inr (w.0, (λ rest. ap (λ (x : FieldRead A). x >>= λ y. Ok (make y.0, y.1)) (w.1 rest)), w.2)
]

sort_goes : (symbols : List Symbol) (sort : Option ScalarSort) (b : ℕ) → Goes (λ rest. sort_from symbols sort (b ∷ rest) rest) b
sort_goes symbols None b = inr (flaws.BadNumber, (λ rest. refl), refl)
sort_goes symbols (Some (itself k)) b = inl ((λ rest. Ok (k, rest)), reader_of k, λ rest. refl)
sort_goes symbols (Some (of_symbol tag make)) b =
    inl (then (symbol_number_from tag symbols) (λ n bytes. Ok (make (record { 0 = n }), bytes)), reader_map (symbol_number_from tag symbols) (λ n. make (record { 0 = n })) (symbol_number_reader tag symbols), λ rest. refl)

elements_goes : (symbols : List Symbol) (c : Option CollectionKind) (n b : ℕ) → Goes (λ rest. elements_from symbols c n (b ∷ rest) rest) b
elements_goes symbols None n b = inr (flaws.BadNumber, (λ rest. refl), refl)
elements_goes symbols (Some c) n b = goes_map (λ rest. element_from symbols n (b ∷ rest) rest) (λ k. (c, k)) b (sort_goes symbols (row_numbered scalar_sorts n) b)

scalar_reader : (symbols : List Symbol) → IsReader (single_kind_from symbols)
unfolding single_kind_from
scalar_reader symbols = reader_byte (single_kind_from symbols) refl (λ b. record { leads = sort_goes symbols (row_numbered scalar_sorts b) b })

collection_reader : (symbols : List Symbol) → IsReader (collection_kind_from symbols)
unfolding collection_kind_from
collection_reader symbols = reader_byte (collection_kind_from symbols) refl (λ b. record { leads = elements_goes symbols (row_numbered collection_sorts (b / 16)) (b % 16) b })

kind_reader : (symbols : List Symbol) → IsReader (kind_from symbols)
unfolding kind_from single_kind_from collection_kind_from
kind_reader symbols = reader_byte (kind_from symbols) refl (λ b. record { leads = leads b (ltb b 16) })
  where
    leads : (b : ℕ) (low : Bool) → Goes (λ rest. cond low (single_kind_from symbols (b ∷ rest) >>= λ k. Ok (kinds.Scalar k.0, k.1)) (collection_kind_from symbols (b ∷ rest) >>= λ k. Ok (kinds.Collection k.0.0 k.0.1, k.1))) b
    leads b true = goes_map (λ rest. single_kind_from symbols (b ∷ rest)) (λ k. kinds.Scalar k) b (sort_goes symbols (row_numbered scalar_sorts b) b)
    leads b false = goes_map (λ rest. collection_kind_from symbols (b ∷ rest)) (λ k. kinds.Collection k.0 k.1) b (elements_goes symbols (row_numbered collection_sorts (b / 16)) (b % 16) b)

fields_reader : (p : Preamble) (row : Fields) → IsReader (fields_from p row)
fields_reader p (made i) = reader_of i
fields_reader p (integer next) = reader_then integer_from (λ n bytes. fields_from p (next n) bytes) integer_reader (λ n. fields_reader p (next n))
fields_reader p (boolean next) = reader_then boolean_from (λ b bytes. fields_from p (next b) bytes) boolean_reader (λ b. fields_reader p (next b))
fields_reader p (number next) = reader_then (number_from w16) (λ n bytes. fields_from p (next n) bytes) number_reader (λ n. fields_reader p (next n))
fields_reader p (text next) =
    reader_then (text_number_from (length p.texts)) (λ t bytes. fields_from p (next (record { 0 = t })) bytes) (text_number_reader (length p.texts)) (λ t. fields_reader p (next (record { 0 = t })))
fields_reader p (symbol tag next) =
    reader_then (symbol_number_from tag p.symbols) (λ s bytes. fields_from p (next (record { 0 = s })) bytes) (symbol_number_reader tag p.symbols) (λ s. fields_reader p (next (record { 0 = s })))
fields_reader p (scalar next) = reader_then (single_kind_from p.symbols) (λ k bytes. fields_from p (next k) bytes) (scalar_reader p.symbols) (λ k. fields_reader p (next k))
fields_reader p (collection next) =
    reader_then (collection_kind_from p.symbols) (λ k bytes. fields_from p (next k.0 k.1) bytes) (collection_reader p.symbols) (λ k. fields_reader p (next k.0 k.1))
fields_reader p (kind next) = reader_then (kind_from p.symbols) (λ k bytes. fields_from p (next k) bytes) (kind_reader p.symbols) (λ k. fields_reader p (next k))

opcode_goes : (p : Preamble) (row : Option Fields) (opcode : ℕ) → Goes (λ rest. behind p row (opcode ∷ rest) rest) opcode
opcode_goes p None opcode = inr (flaws.BadOpcode, (λ rest. refl), refl)
opcode_goes p (Some row) opcode = inl (fields_from p row, fields_reader p row, λ rest. refl)

instr_reader : (p : Preamble) → IsReader (instr_from p)
unfolding instr_from
instr_reader p = reader_byte (instr_from p) refl (λ opcode. record { leads = opcode_goes p (row_numbered (opcodes p.version) opcode) opcode })

-- ---- rules

rule_name_reader : (texts : List (List ℕ)) (is_name_taken : List ℕ → Bool) → IsReader (rule_name_from texts is_name_taken)
unfolding rule_name_from
rule_name_reader texts is_name_taken =
    reader_tested (text_number_from (length texts)) (λ n. is_name (text_at texts n) && not (is_name_taken (text_at texts n))) flaws.BadText refl (text_number_reader (length texts)) (text_number_field (length texts))

code_reader : (p : Preamble) → IsReader (code_from p)
unfolding code_from
code_reader p =
    reader_then (number_from w16) (λ n bytes. many_from (λ before. instr_from p) [] n bytes) number_reader (λ n. reader_many (λ before. instr_from p) (λ before. instr_reader p) [] n)

rule_reader : (p : Preamble) (is_name_taken : List ℕ → Bool) → IsReader (rule_from p is_name_taken)
unfolding rule_from
rule_reader p is_name_taken =
    let behind_context : ℕ → ℕ → List ℕ → FieldRead RuleContent = λ name context bytes. code_from p bytes >>= λ code. Ok (record { name = name; context = context; code = code.0 }, code.1) in
    let behind_name : ℕ → List ℕ → FieldRead RuleContent = λ name bytes. symbol_number_from tags.Class p.symbols bytes >>= λ context. behind_context name context.0 context.1 in
    reader_then (rule_name_from p.texts is_name_taken) behind_name (rule_name_reader p.texts is_name_taken)
    (λ name. reader_then (symbol_number_from tags.Class p.symbols) (behind_context name) (symbol_number_reader tags.Class p.symbols)
    (λ context. reader_map (code_from p) (λ code. record { name = name; context = context; code = code }) (code_reader p)))

-- ---- the file

texts_reader : IsReader texts_from
unfolding texts_from
texts_reader = reader_then (number_from w16) (λ n bytes. many_from (λ before. text_from) [] n bytes) number_reader (λ n. reader_many (λ before. text_from) (λ before. text_reader) [] n)

symbols_reader : (texts : ℕ) → IsReader (symbols_from texts)
unfolding symbols_from
symbols_reader texts = reader_then (number_from w16) (λ n bytes. many_from (λ before. symbol_from texts) [] n bytes) number_reader (λ n. reader_many (λ before. symbol_from texts) (λ before. symbol_reader texts) [] n)

rules_reader : (p : Preamble) → IsReader (rules_from p)
unfolding rules_from
rules_reader p =
    reader_then (count_from 4096) (λ n bytes. many_from (next_rule_from p) [] n bytes) (count_reader 4096)
    (λ n. reader_many (next_rule_from p) (λ before. rule_reader p _) [] n)

-- the texts, the symbols and the rules, as one reader
abbrev pub parts_from : Version → List ℕ → FieldRead Content
parts_from version bytes = do
  texts ← texts_from bytes
  symbols ← symbols_from (length texts.0) texts.1
  rules ← rules_from (record { version = version; texts = texts.0; symbols = symbols.0 }) symbols.1
  Ok (record { version = version; texts = texts.0; symbols = symbols.0; rules = rules.0 }, rules.1)

parts_reader : (version : Version) → IsReader (parts_from version)
parts_reader version =
    let preamble : List (List ℕ) → List Symbol → Preamble = λ texts symbols. record { version = version; texts = texts; symbols = symbols } in
    let behind_symbols : List (List ℕ) → List Symbol → List ℕ → FieldRead Content = λ texts symbols bytes. rules_from (preamble texts symbols) bytes >>= λ rules. Ok (record { version = version; texts = texts; symbols = symbols; rules = rules.0 }, rules.1) in
    let behind_texts : List (List ℕ) → List ℕ → FieldRead Content = λ texts bytes. symbols_from (length texts) bytes >>= λ symbols. behind_symbols texts symbols.0 symbols.1 in
    reader_then texts_from behind_texts texts_reader
    (λ texts. reader_then (symbols_from (length texts)) (behind_symbols texts) (symbols_reader (length texts))
    (λ symbols. reader_map (rules_from (preamble texts symbols)) (λ rules. record { version = version; texts = texts; symbols = symbols; rules = rules }) (rules_reader (preamble texts symbols))))

-- the number of a version
abbrev is_version : ℕ → Bool
is_version n = cond (eqb n 1) true (eqb n 2)

-- the version of a number
abbrev version_of : ℕ → Version
version_of n = cond (eqb n 1) versions.One versions.Two

-- a version's number is tested, and then it is a version
version_is : (bytes : List ℕ) → version_from bytes ≡ then (tested (number_from w16) is_version flaws.Version) (λ n rest. Ok (version_of n, rest)) bytes
unfolding version_from
version_is bytes = by_read (number_from w16 bytes)
  where
    by_number : (n : ℕ × List ℕ) (one two : Bool) → eqb n.0 1 ≡ one → cond {A = FieldRead Version} one (Ok (versions.One, n.1)) (cond two (Ok (versions.Two, n.1)) (wrong flaws.Version bytes)) ≡ (cond (cond one true two) (Ok n) (wrong flaws.Version bytes) >>= λ x. Ok (version_of x.0, x.1))
    by_number n true two is = rw is refl
    by_number n false true is = rw is refl
    by_number n false false is = refl

    by_read : (r : FieldRead ℕ) → (r >>= λ n. cond {A = FieldRead Version} (eqb n.0 1) (Ok (versions.One, n.1)) (cond (eqb n.0 2) (Ok (versions.Two, n.1)) (wrong flaws.Version bytes))) ≡ ((r >>= λ n. cond (is_version n.0) (Ok n) (wrong flaws.Version bytes)) >>= λ n. Ok (version_of n.0, n.1))
    by_read (Ok n) = by_number n (eqb n.0 1) (eqb n.0 2) refl
    by_read (Err e) = refl

version_reader : IsReader version_from
version_reader =
    reader_same (then (tested (number_from w16) is_version flaws.Version) (λ n rest. Ok (version_of n, rest))) version_from version_is
    (reader_map (tested (number_from w16) is_version flaws.Version) version_of (reader_tested (number_from w16) is_version flaws.Version refl number_reader number_field))

-- what follows the magic
abbrev pub after_magic : List ℕ → FieldRead Content
after_magic = then version_from parts_from

after_magic_reader : IsReader after_magic
after_magic_reader = reader_then version_from parts_from version_reader parts_reader

-- what is read, and nothing after it
abbrev pub whole_of : FieldRead Content → Result Content Fault
whole_of read = read >>= λ u. ended u.0 u.1

-- the texts, the symbols and the rules, and nothing after them
abbrev body_from : Version → List ℕ → Result Content Fault
body_from version bytes = do
  texts ← texts_from bytes
  symbols ← symbols_from (length texts.0) texts.1
  rules ← rules_from (record { version = version; texts = texts.0; symbols = symbols.0 }) symbols.1
  ended (record { version = version; texts = texts.0; symbols = symbols.0; rules = rules.0 }) rules.1

abbrev preamble : Version → List (List ℕ) → List Symbol → Preamble
preamble version texts symbols = record { version = version; texts = texts; symbols = symbols }

abbrev made_of : Version → List (List ℕ) → List Symbol → List RuleContent → Content
made_of version texts symbols rules = record { version = version; texts = texts; symbols = symbols; rules = rules }

body_is : (version : Version) (bytes : List ℕ) → body_from version bytes ≡ whole_of (parts_from version bytes)
body_is version bytes = by_texts (texts_from bytes)
  where
    by_rules : (t : List (List ℕ) × List ℕ) (s : List Symbol × List ℕ) (r : FieldRead (List RuleContent)) → (r >>= λ rules. ended (made_of version t.0 s.0 rules.0) rules.1) ≡ whole_of (r >>= λ rules. Ok (made_of version t.0 s.0 rules.0, rules.1))
    by_rules t s (Ok r) = refl
    by_rules t s (Err e) = refl

    by_symbols : (t : List (List ℕ) × List ℕ) (s : FieldRead (List Symbol)) → (s >>= λ symbols. rules_from (preamble version t.0 symbols.0) symbols.1 >>= λ rules. ended (made_of version t.0 symbols.0 rules.0) rules.1) ≡ whole_of (s >>= λ symbols. rules_from (preamble version t.0 symbols.0) symbols.1 >>= λ rules. Ok (made_of version t.0 symbols.0 rules.0, rules.1))
    by_symbols t (Ok s) = by_rules t s (rules_from (preamble version t.0 s.0) s.1)
    by_symbols t (Err e) = refl

    by_texts : (t : FieldRead (List (List ℕ))) → (t >>= λ texts. symbols_from (length texts.0) texts.1 >>= λ symbols. rules_from (preamble version texts.0 symbols.0) symbols.1 >>= λ rules. ended (made_of version texts.0 symbols.0 rules.0) rules.1) ≡ whole_of (t >>= λ texts. symbols_from (length texts.0) texts.1 >>= λ symbols. rules_from (preamble version texts.0 symbols.0) symbols.1 >>= λ rules. Ok (made_of version texts.0 symbols.0 rules.0, rules.1))
    by_texts (Ok t) = by_symbols t (symbols_from (length t.0) t.1)
    by_texts (Err e) = refl

-- the file by its magic
whole_is : (bytes : List ℕ) → whole_from bytes ≡ cond (bytes_eq (take 4 bytes) magic) (whole_of (after_magic (drop 4 bytes))) (wrong flaws.Magic bytes)
unfolding whole_from head_from
whole_is bytes = by_test (bytes_eq (take 4 bytes) magic)
  where
    by_version : (r : FieldRead Version) → (r >>= λ v. body_from v.0 v.1) ≡ whole_of (r >>= λ v. parts_from v.0 v.1)
    by_version (Ok v) = body_is v.0 v.1
    by_version (Err e) = refl

    by_test : (b : Bool) → (cond b (version_from (drop 4 bytes)) (wrong flaws.Magic bytes) >>= λ v. body_from v.0 v.1) ≡ cond b (whole_of (after_magic (drop 4 bytes))) (wrong flaws.Magic bytes)
    by_test true = by_version (version_from (drop 4 bytes))
    by_test false = refl

-- ---- the first fault of the file

-- what a file gives that ends within the field
abbrev CutAs : Option CodeFlaw → Result Content Fault → ℕ → Type 0
CutAs None r left = (u : Content) × (r ≡ Ok u)
CutAs (Some flaw) r left = r ≡ Err (fault_of flaw left)

record StoppedFile (bytes : List ℕ) (e : Fault) : Type 0 where
  pub through : List ℕ
  pub rest : List ℕ
  -- where the wrong field begins
  pub at : ℕ
  pub parts : bytes ≡ through ++ rest
  pub begins : at + e.left ≡ length bytes
  pub within : at ≤ length through
  pub short : length through ≤ at + most_field_bytes
  pub cut : (k : ℕ) → at + k < length through → CutAs (cut_flaw e.flaw) (whole_from (take (at + k) through)) k
  pub stays : ((may_be_cut e.flaw ≡ true) × (rest ≡ [])) ⊎ ((more : List ℕ) (left : ℕ) → at + left ≡ length (through ++ more) → whole_from (through ++ more) ≡ Err (fault_of e.flaw left))

-- a file of fewer than four bytes has no magic
no_magic : (bytes : List ℕ) → length bytes < 4 → whole_from bytes ≡ Err (fault_of flaws.Magic (length bytes))
no_magic bytes few = by_test (bytes_eq (take 4 bytes) magic) refl
  where
    by_test : (b : Bool) → bytes_eq (take 4 bytes) magic ≡ b → whole_from bytes ≡ Err (fault_of flaws.Magic (length bytes))
    by_test true is =
        let four : length (take 4 bytes) ≡ 4 = ap length ((bytes_eq-Decides (take 4 bytes) magic).0 is) in
        absurd (omega (arith, four, length-take 4 bytes))
    by_test false is = whole_is bytes ∙ rw is refl

-- a file that ends within its first four bytes has no magic
magic_cut : (bytes : List ℕ) (k : ℕ) → 0 + k < length bytes → length bytes ≤ 4 → whole_from (take (0 + k) bytes) ≡ Err (fault_of flaws.Magic k)
magic_cut bytes k lt few =
    let len : length (take (0 + k) bytes) ≡ k = omega (arith, length-take (0 + k) bytes) in
    no_magic (take (0 + k) bytes) (omega (arith, len)) ∙ ap (λ (n : ℕ). Err (fault_of flaws.Magic n)) len

-- the magic is not there
magic_stops : (bytes : List ℕ) → bytes_eq (take 4 bytes) magic ≡ false → StoppedFile bytes (fault_of flaws.Magic (length bytes))
magic_stops bytes not_there =
    elim (cases_lt (length bytes) 4) [
      | inl few ↦ record {
        through = bytes;
        rest = [];
        at = 0;
        parts = sym (append-nil bytes);
        begins = omega arith;
        within = omega arith;
        short = omega arith;
        cut = λ k lt. magic_cut bytes k lt (omega arith);
        stays = inl (refl, refl);
      }
      | inr enough ↦
          let four : length (take 4 bytes) ≡ 4 = omega (arith, length-take 4 bytes) in
          record {
            through = take 4 bytes;
            rest = drop 4 bytes;
            at = 0;
            parts = sym (take-append-drop 4 bytes);
            begins = omega arith;
            within = omega arith;
            short = omega (arith, four);
            cut = λ k lt. magic_cut (take 4 bytes) k lt (omega (arith, four));
            stays = inr (λ more left at_left.
                whole_is (take 4 bytes ++ more) ∙ rw (take_at (take 4 bytes) more 4 four, not_there) (ap (λ (n : ℕ). Err (fault_of flaws.Magic n)) (omega (arith, at_left))));
          }
    ]

-- the magic is there: what follows it is read
module _ (bytes : List ℕ) (is : bytes_eq (take 4 bytes) magic ≡ true) where
  four : length (take 4 bytes) ≡ 4
  four = ap length ((bytes_eq-Decides (take 4 bytes) magic).0 is)

  behind_magic : (tail : List ℕ) → whole_from (take 4 bytes ++ tail) ≡ whole_of (after_magic tail)
  behind_magic tail = whole_is (take 4 bytes ++ tail) ∙ rw (take_at (take 4 bytes) tail 4 four, drop_at (take 4 bytes) tail 4 four, is) refl

  len : length bytes ≡ 4 + length (drop 4 bytes)
  len = omega (arith, four, ap length (take-append-drop 4 bytes), length-append (take 4 bytes) (drop 4 bytes))

  all : (tail : List ℕ) → length (take 4 bytes ++ tail) ≡ 4 + length tail
  all tail = omega (arith, four, length-append (take 4 bytes) tail)

  taken : (n : ℕ) (tail : List ℕ) → take (4 + n) (take 4 bytes ++ tail) ≡ take 4 bytes ++ take n tail
  taken n tail = ap (λ (m : ℕ). take (m + n) (take 4 bytes ++ tail)) (sym four) ∙ take-append-add (take 4 bytes) tail n

  -- the fault of a field
  field_stops : (e : Fault) → after_magic (drop 4 bytes) ≡ Err e → StoppedFile bytes e
  field_stops e h =
      let s = after_magic_reader.stops (drop 4 bytes) e h in
      record {
        through = take 4 bytes ++ s.through;
        rest = s.rest;
        at = 4 + s.at;
        parts = sym (take-append-drop 4 bytes) ∙ ap (λ (t : List ℕ). take 4 bytes ++ t) s.parts ∙ sym (append_assoc (take 4 bytes) s.through s.rest);
        begins = omega (arith, len, s.begins);
        within = omega (arith, all s.through, s.within);
        short = omega (arith, all s.through, s.short);
        cut = λ k lt.
            let inside : s.at + k < length s.through = omega (arith, lt, all s.through) in
            let here : whole_from (take ((4 + s.at) + k) (take 4 bytes ++ s.through)) ≡ Err (fault_of flaws.Truncated k) =
            ap (λ (n : ℕ). whole_from (take n (take 4 bytes ++ s.through))) (add_assoc 4 s.at k) ∙ ap whole_from (taken (s.at + k) s.through) ∙ behind_magic (take (s.at + k) s.through) ∙ ap whole_of (s.cut k inside) in
            rw (after_magic_reader.flawed (drop 4 bytes) e h) here;
        stays = elim s.stays [
          | inl cut ↦ inl cut
          | inr on ↦ inr (λ more left at_left.
              let regrouped : (take 4 bytes ++ s.through) ++ more ≡ take 4 bytes ++ (s.through ++ more) = append_assoc (take 4 bytes) s.through more in
              let whole_length : (4 + s.at) + left ≡ length (take 4 bytes ++ (s.through ++ more)) = at_left ∙ ap length regrouped in
              let here : s.at + left ≡ length (s.through ++ more) = omega (arith, whole_length, all (s.through ++ more)) in
              ap whole_from regrouped ∙ behind_magic (s.through ++ more) ∙ ap whole_of (on more left here))
        ];
      }

  -- bytes behind the last rule
  trailing_stops : (u : Content) (b : ℕ) (rest : List ℕ) → Passed after_magic (drop 4 bytes) (u, b ∷ rest) → StoppedFile bytes (fault_of flaws.Trailing (suc (length rest)))
  trailing_stops u b rest p =
      let one : List ℕ = b ∷ [] in
      let tail : List ℕ = p.used ++ one in
      let tail_length : length tail ≡ length p.used + 1 = omega (arith, length-append p.used one) in
      let more_is : (more : List ℕ) → tail ++ more ≡ p.used ++ (b ∷ more) = λ more. append_assoc p.used one more in
      record {
        through = take 4 bytes ++ tail;
        rest = rest;
        at = 4 + length p.used;
        parts = sym (take-append-drop 4 bytes) ∙ ap (λ (t : List ℕ). take 4 bytes ++ t) (p.parts ∙ sym (more_is rest)) ∙ sym (append_assoc (take 4 bytes) tail rest);
        begins = omega (arith, len, ap length p.parts, length-append p.used (b ∷ rest));
        within = omega (arith, all tail, tail_length);
        short = omega (arith, all tail, tail_length);
        cut = λ k lt.
            let none : k ≡ 0 = omega (arith, lt, all tail, tail_length) in
            let before : take (length p.used + k) tail ≡ p.used ++ [] = ap (λ (n : ℕ). take (length p.used + n) tail) none ∙ take-append-add p.used one 0 in
            let here : whole_from (take ((4 + length p.used) + k) (take 4 bytes ++ tail)) ≡ Ok u =
            ap (λ (n : ℕ). whole_from (take n (take 4 bytes ++ tail))) (add_assoc 4 (length p.used) k) ∙ ap whole_from (taken (length p.used + k) tail) ∙ behind_magic (take (length p.used + k) tail) ∙ ap (λ (t : List ℕ). whole_of (after_magic t)) before ∙ ap whole_of (p.again []) in
            (u, here);
        stays = inr (λ more left at_left.
            let left_is : left ≡ suc (length more) = omega (arith, at_left, length-append (take 4 bytes ++ tail) more, all tail, tail_length) in
            ap whole_from (append_assoc (take 4 bytes) tail more) ∙ behind_magic (tail ++ more) ∙ ap (λ (t : List ℕ). whole_of (after_magic t)) (more_is more) ∙ ap whole_of (p.again (b ∷ more)) ∙ ap (λ (n : ℕ). Err (fault_of flaws.Trailing n)) (sym left_is));
      }

  behind_stops : (u : Content) (rest : List ℕ) (e : Fault) → after_magic (drop 4 bytes) ≡ Ok (u, rest) → ended u rest ≡ Err e → StoppedFile bytes e
  behind_stops u [] e read h = absurd cc
  behind_stops u (b ∷ rest) e read h =
      let same : fault_of flaws.Trailing (suc (length rest)) ≡ e = cc in
      subst (λ (d : Fault). StoppedFile bytes d) same (trailing_stops u b rest (after_magic_reader.passes (drop 4 bytes) (u, b ∷ rest) read))

  after_stops : (e : Fault) → whole_of (after_magic (drop 4 bytes)) ≡ Err e → StoppedFile bytes e
  after_stops e h =
      elim (err_of (after_magic (drop 4 bytes)) (λ u. ended u.0 u.1) e h) [
        | inl stop ↦ field_stops e stop
        | inr p ↦ behind_stops p.0.0 p.0.1 e p.1 p.2
      ]

file_stops : (bytes : List ℕ) (e : Fault) → whole_from bytes ≡ Err e → StoppedFile bytes e
file_stops bytes e h = by_test (bytes_eq (take 4 bytes) magic) refl
  where
    chosen : cond (bytes_eq (take 4 bytes) magic) (whole_of (after_magic (drop 4 bytes))) (wrong flaws.Magic bytes) ≡ Err e
    chosen = sym (whole_is bytes) ∙ h

    by_test : (b : Bool) → bytes_eq (take 4 bytes) magic ≡ b → StoppedFile bytes e
    by_test true is = after_stops bytes is e (rw is at chosen)
    by_test false is =
        let wrong_magic : wrong {A = Content} flaws.Magic bytes ≡ Err e = rw is at chosen in
        let same : fault_of flaws.Magic (length bytes) ≡ e = cc in
        subst (λ (d : Fault). StoppedFile bytes d) same (magic_stops bytes is)

-- ---- the law

-- a fault is that of the file read
fault_is : (r : Result Content Fault) (size : ℕ) (fault : CodeFaultAt) → fault_part (with_offset size r) ≡ Some fault → (e : Fault) × (r ≡ Err e) × (code_fault_at size e ≡ fault)
fault_is (Ok u) size fault h = absurd cc
fault_is (Err e) size fault h = (e, refl, cc)

-- the first fault of a file that ends within the field
cut_is : (cut : Option CodeFlaw) (size at k : ℕ) (r : Result Content Fault) → CutAs cut r k → size ≡ at + k → fault_part (with_offset size r) ≡ option_map (λ flaw. record { flaw = flaw; offset = at }) cut
cut_is None size at k r h e = rw h.1 refl
cut_is (Some flaw) size at k r h e =
    let offset : size - k ≡ at = omega (arith, e) in
    rw h (ap (λ (n : ℕ). Some (record { flaw = flaw; offset = n })) offset)

-- the first fault begins at its offset, and what follows its field doesn't matter, unless the end of the file cuts the field
pub faults_are_of_fields : FaultsAreOfFields
faults_are_of_fields bytes fault h =
    let f = fault_is (whole_from bytes) (length bytes) fault h in
    let s = file_stops bytes f.0 f.1 in
    let flaw_is : f.0.flaw ≡ fault.flaw = ap (λ (c : CodeFaultAt). c.flaw) f.2 in
    let offset_is : length bytes - f.0.left ≡ fault.offset = ap (λ (c : CodeFaultAt). c.offset) f.2 in
    let at_offset : s.at ≡ fault.offset = omega (arith, offset_is, s.begins) in
    record {
      through = s.through;
      rest = s.rest;
      parts = s.parts;
      begins = omega (arith, at_offset, s.within);
      short = omega (arith, at_offset, s.short);
      cut = λ k lt.
          let part : List ℕ = take (fault.offset + k) s.through in
          let size : length part ≡ fault.offset + k = length-take-le (fault.offset + k) s.through (omega arith) in
          let here = rw (at_offset, flaw_is) at (s.cut k (omega (arith, lt, at_offset))) in
          cut_is (cut_flaw fault.flaw) (length part) fault.offset k (whole_from part) here size;
      stays = elim s.stays [
        | inl cut ↦ inl (rw flaw_is at cut.0, cut.1)
        | inr on ↦ inr (λ more.
            let size = length (s.through ++ more) in
            let left_is : s.at + (size - s.at) ≡ size = omega (arith, s.within, length-append s.through more) in
            let again : whole_from (s.through ++ more) ≡ Err (fault_of f.0.flaw (size - s.at)) = on more (size - s.at) left_is in
            let offset_again : size - (size - s.at) ≡ fault.offset = omega (arith, at_offset, s.within, length-append s.through more) in
            ap (λ (r : Result Content Fault). fault_part (with_offset size r)) again ∙ ap (λ (n : ℕ). Some (record { flaw = f.0.flaw; offset = n })) offset_again ∙ ap (λ (w : CodeFlaw). Some (record { flaw = w; offset = fault.offset })) flaw_is)
      ];
    }
