-- The conditions of the format, which every unit satisfies.
use Rattle.std.specs.Prelude.{bytes_eq, ℕ, ◌<◌, ◌≤◌, ◌^◌, ◌≡◌, List, [], ◌∷◌, ◌++◌, length, true, false}
use Rattle.std.specs.List.{AllByRecursion}
use Rattle.std.specs.Int.{w64}
use Rattle.std.specs.Str.{is_utf8}
use Rattle.std.specs.Int.RustNames.{FitsSigned}
use Rattle.rule_code.specs.declared.instruction.Instr.{Instr}
use Rattle.rule_code.specs.declared.kind.WrittenScalar.{WrittenScalar}
use Rattle.rule_code.specs.declared.kind.WrittenScalar.TheVariants as scalars
use Rattle.rule_code.specs.declared.kind.WrittenKind.{WrittenKind}
use Rattle.rule_code.specs.declared.kind.WrittenKind.TheVariants as kinds
use Rattle.rule_code.specs.declared.symbol.Symbol.{Symbol}
use Rattle.rule_code.specs.declared.symbol.Symbol.TheVariants as symbols
use Rattle.rule_code.specs.declared.symbol.SymbolTag.TheVariants as tags
use Rattle.rule_code.specs.declared.version.Version.{Version}
use Rattle.rule_code.specs.FileVersion.{has_instr}
use Rattle.rule_code.specs.SymbolTag.{is_symbol_of}
use Rattle.ocl_base.specs.Lists.{is_among}
use Rattle.ocl_base.specs.Words.{is_name}
use Rattle.rule_code.specs.Content.{RuleContent, Content, text_at, names_of}
use Rattle.rule_code.specs.InstrRows.{FieldValue, integer_field, boolean_field, number_field, text_field, symbol_field, scalar_field, collection_field, kind_field, row_of}
use Rattle.rule_code.specs.declared.limits.TheConstants.{MAX_RULES, MAX_TEXT_BYTES}

-- ---- what fits

-- each of the things fits, given those before it
abbrev pub EachFits : {A : Type 0} → (List A → A → Type 0) → List A → List A → Type 0
EachFits Fits before [] = Unit {0}
EachFits Fits before (x ∷ xs) = Fits before x × EachFits Fits (before ++ x ∷ []) xs

-- UTF-8, of at most `MAX_TEXT_BYTES` bytes
abbrev pub IsTextOfUnit : List ℕ → Type 0
IsTextOfUnit bytes = (length bytes ≤ MAX_TEXT_BYTES) × (is_utf8 bytes ≡ true)

-- a symbol names texts that are there
abbrev pub SymbolFits : ℕ → Symbol → Type 0
SymbolFits texts (symbols.Class c) = c.0 < texts
SymbolFits texts (symbols.Enumeration e) = e.0 < texts
SymbolFits texts (symbols.Feature c f) = (c.0 < texts) × (f.0 < texts)
SymbolFits texts (symbols.Literal e l) = (e.0 < texts) × (l.0 < texts)

-- the symbol of a kind is there
abbrev pub ScalarKindFits : List Symbol → WrittenScalar → Type 0
ScalarKindFits symbols (scalars.Enumeration s) = is_symbol_of tags.Enumeration symbols s.0 ≡ true
ScalarKindFits symbols (scalars.Class s) = is_symbol_of tags.Class symbols s.0 ≡ true
ScalarKindFits symbols k = Unit {0}

abbrev pub KindFits : List Symbol → WrittenKind → Type 0
KindFits symbols (kinds.Scalar k) = ScalarKindFits symbols k
KindFits symbols (kinds.Collection c k) = ScalarKindFits symbols k

-- an Integer has 64 bits, a number 16, and each text and each symbol is there
abbrev pub FieldFits : ℕ → List Symbol → FieldValue → Type 0
FieldFits texts symbols (integer_field n) = FitsSigned w64 n
FieldFits texts symbols (boolean_field b) = Unit {0}
FieldFits texts symbols (number_field n) = n < 2 ^ 16
FieldFits texts symbols (text_field n) = n < texts
FieldFits texts symbols (symbol_field tag n) = is_symbol_of tag symbols n ≡ true
FieldFits texts symbols (scalar_field k) = ScalarKindFits symbols k
FieldFits texts symbols (collection_field c k) = ScalarKindFits symbols k
FieldFits texts symbols (kind_field k) = KindFits symbols k

-- what an instruction has in its fields fits them
abbrev pub InstrFits : ℕ → List Symbol → Instr → Type 0
InstrFits texts symbols i = AllByRecursion (FieldFits texts symbols) (row_of i).fields

-- a rule of a version, given the rules before it
pub record RuleFits (version : Version) (texts : List (List ℕ)) (symbols : List Symbol) (before : List RuleContent) (r : RuleContent) : Type 0 where
  pub name : r.name < length texts
  pub is_name : is_name (text_at texts r.name) ≡ true
  pub is_new : is_among bytes_eq (names_of texts before) (text_at texts r.name) ≡ false
  pub context : is_symbol_of tags.Class symbols r.context ≡ true
  pub len : length r.code < 2 ^ 16
  pub code : AllByRecursion (InstrFits (length texts) symbols) r.code
  pub instrs : AllByRecursion (λ i. has_instr version i ≡ true) r.code

pub record IsUnit (u : Content) : Type 0 where
  pub text_count : length u.texts < 2 ^ 16
  pub texts : AllByRecursion IsTextOfUnit u.texts
  pub symbol_count : length u.symbols < 2 ^ 16
  pub symbols : AllByRecursion (SymbolFits (length u.texts)) u.symbols
  pub rule_count : length u.rules ≤ MAX_RULES
  pub rules : EachFits (RuleFits u.version u.texts u.symbols) [] u.rules
