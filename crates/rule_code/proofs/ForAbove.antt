-- What every unit keeps, at each of its parts. The crates above cite this file alone.
use Rattle.std.proofs.Common.{◌≡◌, ℕ, zero, suc, ◌<◌, ◌^◌, true, List, [], ◌∷◌, ◌++◌, length, get_or, map, string_bytes, String, Some, refl, sym, ap, ◌∙◌, subst, arith}
use Rattle.std.specs.Prelude.{slice_get, All}
use Rattle.std.specs.List.{AllByRecursion}
use Rattle.std.specs.declared.alloc.Global.{Global}
use Rattle.std.proofs.lemmas.List.{length-map, get_or-map}
use Rattle.std.proofs.lemmas.Option.{same_Some, slice_get_read}
use Rattle.std.proofs.lemmas.List.Elements.{All-from_recursion}
use Rattle.std.proofs.Props.{props}
use Rattle.std.proofs.Math.Logic.{∥∥₁_elim}
use Rattle.rule_code.specs.declared.symbol.Symbol.{Symbol}
use Rattle.rule_code.specs.declared.symbol.Symbol.TheVariants as symbols
use Rattle.rule_code.specs.declared.symbol.SymbolTag.TheVariants as tags
use Rattle.rule_code.specs.declared.instruction.Instr.{Instr}
use Rattle.rule_code.specs.declared.kind.WrittenScalar.{WrittenScalar}
use Rattle.rule_code.specs.declared.kind.WrittenScalar.TheVariants as scalars
use Rattle.rule_code.specs.declared.kind.WrittenKind.TheVariants as kinds
use Rattle.rule_code.specs.declared.unit.Rule.{Rule}
use Rattle.rule_code.specs.declared.version.Version.{Version}
use Rattle.rule_code.specs.FileVersion.{has_instr}
use Rattle.rule_code.specs.SymbolTag.{is_symbol_of}
use Rattle.rule_code.specs.Content.{RuleContent, Content, content_of, rule_content}
use Rattle.rule_code.specs.InstrRows.{FieldValue, integer_field, boolean_field, number_field, text_field, symbol_field, scalar_field, collection_field, kind_field, row_of}
use Rattle.rule_code.specs.WellFormed.{EachFits, IsTextOfUnit, SymbolFits, ScalarKindFits, FieldFits, InstrFits, RuleFits, IsUnit}
use Rattle.rule_code.proofs.Codec.{EachFits-from_all}
pub use Rattle.rule_code.proofs.Fields.{is_symbol_of-lt}

texts_small : (ts : List (String Global)) → AllByRecursion IsTextOfUnit (map string_bytes ts) → AllByRecursion (λ t. length (string_bytes t) < 2 ^ 16) ts
texts_small [] h = tt
texts_small (t ∷ ts) h = (omega (arith, h.0.0), texts_small ts h.1)

rules_small : (version : Version) (texts : List (List ℕ)) (symbols : List Symbol) (before : List RuleContent) (rs : List Rule) → EachFits (RuleFits version texts symbols) before (map rule_content rs) → AllByRecursion (λ r. length r.code.items < 2 ^ 16) rs
rules_small version texts symbols before [] h = tt
rules_small version texts symbols before (r ∷ rs) h = (h.0.len, rules_small version texts symbols (before ++ rule_content r ∷ []) rs h.1)

module _ (v : Version) (ts : List (String Global)) (ss : List Symbol) (rs : List Rule) (held : ∥ IsUnit (content_of v ts ss rs) ∥₁) where
  -- each text of a unit has fewer than 2^16 bytes
  pub text_small : (i : ℕ) (d : String Global) → i < length ts → length (string_bytes (get_or ts i d)) < 2 ^ 16
  text_small i d lt = ∥∥₁_elim held (hlevel props) (λ h. All-from_recursion (λ t. length (string_bytes t) < 2 ^ 16) ts (texts_small ts h.texts) i d lt)

  -- the code of each rule has fewer than 2^16 instructions
  pub rule_small : (i : ℕ) (d : Rule) → i < length rs → length (get_or rs i d).code.items < 2 ^ 16
  rule_small i d lt = ∥∥₁_elim held (hlevel props) (λ h. All-from_recursion (λ r. length r.code.items < 2 ^ 16) rs (rules_small _ _ _ [] rs h.rules) i d lt)

  -- a unit has fewer than 2^16 texts, symbols and rules
  pub texts_few : length ts < 2 ^ 16
  texts_few = ∥∥₁_elim held (hlevel props) (λ h. omega (arith, h.text_count, length-map ts string_bytes))

  pub symbols_few : length ss < 2 ^ 16
  symbols_few = ∥∥₁_elim held (hlevel props) (λ h. h.symbol_count)

  pub rules_few : length rs < 2 ^ 16
  rules_few = ∥∥₁_elim held (hlevel props) (λ h. omega (arith, h.rule_count, length-map rs rule_content))

-- the thing at a place fits, given some things before it
pub EachFits-at : {A : Type 0} (Fits : List A → A → Type 0) (before xs : List A) (i : ℕ) (x : A) → slice_get xs i ≡ Some x → EachFits Fits before xs → (earlier : List A) × Fits earlier x
EachFits-at Fits before [] i x e h = absurd cc
EachFits-at Fits before (y ∷ ys) zero x e h = (before, subst (Fits before) (same_Some y x e) h.0)
EachFits-at Fits before (y ∷ ys) (suc i) x e h = EachFits-at Fits (before ++ y ∷ []) ys i x e h.1

-- the same, where the things before it don't matter
pub AllByRecursion-at : {A : Type 0} (Fits : A → Type 0) (xs : List A) (i : ℕ) (x : A) → slice_get xs i ≡ Some x → AllByRecursion Fits xs → Fits x
AllByRecursion-at Fits xs i x e h = (EachFits-at (λ before. Fits) [] xs i x e (EachFits-from_all Fits [] xs h)).1

SymbolFits-is_prop : (texts : ℕ) (s : Symbol) → IsProp (SymbolFits texts s)
SymbolFits-is_prop texts (symbols.Class c) = hlevel props
SymbolFits-is_prop texts (symbols.Enumeration e) = hlevel props
SymbolFits-is_prop texts (symbols.Feature c f) = hlevel props
SymbolFits-is_prop texts (symbols.Literal e l) = hlevel props

ScalarKindFits-is_prop : (symbols : List Symbol) (k : WrittenScalar) → IsProp (ScalarKindFits symbols k)
ScalarKindFits-is_prop symbols (scalars.Enumeration s) = hlevel props
ScalarKindFits-is_prop symbols (scalars.Class s) = hlevel props
ScalarKindFits-is_prop symbols k = hlevel props

FieldFits-is_prop : (texts : ℕ) (symbols : List Symbol) (f : FieldValue) → IsProp (FieldFits texts symbols f)
FieldFits-is_prop texts symbols (integer_field n) = hlevel props
FieldFits-is_prop texts symbols (boolean_field b) = hlevel props
FieldFits-is_prop texts symbols (number_field n) = hlevel props
FieldFits-is_prop texts symbols (text_field n) = hlevel props
FieldFits-is_prop texts symbols (symbol_field tag n) = hlevel props
FieldFits-is_prop texts symbols (scalar_field k) = ScalarKindFits-is_prop symbols k
FieldFits-is_prop texts symbols (collection_field c k) = ScalarKindFits-is_prop symbols k
FieldFits-is_prop texts symbols (kind_field (kinds.Scalar k)) = ScalarKindFits-is_prop symbols k
FieldFits-is_prop texts symbols (kind_field (kinds.Collection c k)) = ScalarKindFits-is_prop symbols k

fields_fit-is_prop : (texts : ℕ) (symbols : List Symbol) (fs : List FieldValue) → IsProp (AllByRecursion (FieldFits texts symbols) fs)
fields_fit-is_prop texts symbols [] = hlevel props
fields_fit-is_prop texts symbols (f ∷ fs) = hlevel (props, FieldFits-is_prop texts symbols f, fields_fit-is_prop texts symbols fs)

InstrFits-is_prop : (texts : ℕ) (symbols : List Symbol) (i : Instr) → IsProp (InstrFits texts symbols i)
InstrFits-is_prop texts symbols i = fields_fit-is_prop texts symbols (row_of i).fields

AllByRecursion-is_prop : {A : Type 0} (P : A → Type 0) → ((x : A) → IsProp (P x)) → (xs : List A) → IsProp (AllByRecursion P xs)
AllByRecursion-is_prop P each [] = hlevel props
AllByRecursion-is_prop P each (x ∷ xs) = hlevel (props, each x, AllByRecursion-is_prop P each xs)

EachFits-is_prop : {A : Type 0} (Fits : List A → A → Type 0) → ((before : List A) (x : A) → IsProp (Fits before x)) → (before xs : List A) → IsProp (EachFits Fits before xs)
EachFits-is_prop Fits each before [] = hlevel props
EachFits-is_prop Fits each before (x ∷ xs) = hlevel (props, each before x, EachFits-is_prop Fits each (before ++ x ∷ []) xs)

RuleFits-is_prop : (version : Version) (texts : List (List ℕ)) (symbols : List Symbol) (before : List RuleContent) (r : RuleContent) → IsProp (RuleFits version texts symbols before r)
RuleFits-is_prop version texts symbols before r =
    hlevel (props, AllByRecursion-is_prop (InstrFits (length texts) symbols) (InstrFits-is_prop (length texts) symbols) r.code, AllByRecursion-is_prop (λ i. has_instr version i ≡ true) (λ i. hlevel props) r.code)

IsTextOfUnit-is_prop : (bytes : List ℕ) → IsProp (IsTextOfUnit bytes)
IsTextOfUnit-is_prop bytes = hlevel props

IsUnit-is_prop : (u : Content) → IsProp (IsUnit u)
IsUnit-is_prop u =
    hlevel (props, AllByRecursion-is_prop IsTextOfUnit IsTextOfUnit-is_prop u.texts, AllByRecursion-is_prop (SymbolFits (length u.texts)) (SymbolFits-is_prop (length u.texts)) u.symbols, EachFits-is_prop (RuleFits u.version u.texts u.symbols) (RuleFits-is_prop u.version u.texts u.symbols) [] u.rules)

-- what a unit's type keeps holds of it
pub unit_holds : (u : Content) → ∥ IsUnit u ∥₁ → IsUnit u
unit_holds u held = ∥∥₁_elim held (IsUnit-is_prop u) (λ h. h)

module _ (u : Content) (held : ∥ IsUnit u ∥₁) where
  -- the texts of a symbol are there
  pub symbol_fits : (n : ℕ) (s : Symbol) → slice_get u.symbols n ≡ Some s → SymbolFits (length u.texts) s
  symbol_fits n s e = ∥∥₁_elim held (SymbolFits-is_prop (length u.texts) s) (λ h. AllByRecursion-at (SymbolFits (length u.texts)) u.symbols n s e h.symbols)

  module _ (i : ℕ) (r : RuleContent) (is : slice_get u.rules i ≡ Some r) where
    rule_fits : IsUnit u → (before : List RuleContent) × RuleFits u.version u.texts u.symbols before r
    rule_fits h = EachFits-at (RuleFits u.version u.texts u.symbols) [] u.rules i r is h.rules

    -- the text of a rule's name is there
    pub name_in_range : r.name < length u.texts
    name_in_range = ∥∥₁_elim held (hlevel props) (λ h. (rule_fits h).1.name)

    -- the symbol of a rule's context is a class
    pub context_is_class : is_symbol_of tags.Class u.symbols r.context ≡ true
    context_is_class = ∥∥₁_elim held (hlevel props) (λ h. (rule_fits h).1.context)

    -- the symbol of a rule's context is there
    pub context_in_range : r.context < length u.symbols
    context_in_range = is_symbol_of-lt tags.Class u.symbols r.context context_is_class

    -- the instructions fit the unit
    pub code_fits : All (InstrFits (length u.texts) u.symbols) r.code
    code_fits =
        ∥∥₁_elim held (hlevel (props, InstrFits-is_prop (length u.texts) u.symbols))
        (λ h. All-from_recursion (InstrFits (length u.texts) u.symbols) r.code (rule_fits h).1.code)

-- what indexing gives is what stands at the place
pub symbol_at_number : (ss : List Symbol) (n i : ℕ) (s : Symbol) → i ≡ n → n < length ss → s ≡ get_or ss i s → slice_get ss n ≡ Some s
symbol_at_number ss n i s e lt is = slice_get_read ss (length ss) n s refl lt (is ∙ ap (λ (k : ℕ). get_or ss k s) e)

-- the same of a rule, by its content
pub rule_at_place : (rs : List Rule) (i : ℕ) (r : Rule) → i < length (map rule_content rs) → r ≡ get_or rs i r → slice_get (map rule_content rs) i ≡ Some (rule_content r)
rule_at_place rs i r lt is =
    let within : i < length rs = omega (arith, length-map rs rule_content) in
    slice_get_read (map rule_content rs) (length (map rule_content rs)) i (rule_content r) refl lt (sym (get_or-map rule_content rs i r (rule_content r) within ∙ ap rule_content (sym is)))
