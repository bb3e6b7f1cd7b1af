-- A rule text: the rules that it spells, and its faults.
use Rattle.std.specs.Prelude.{◌≡◌, ℕ, Bool, true, false, List, [], ◌∷◌, ◌++◌, length}
use Rattle.std.specs.List.{list_any}
use Rattle.std.specs.Str.{bytes_eq}
use Rattle.ocl_tokens.specs.declared.fault.TextFlaw.TheVariants.{Syntax, TooDeep, DuplicateRule}
use Rattle.ocl_tokens.specs.declared.fault.TextFault.{TextFault}
use Rattle.ocl_tokens.specs.declared.fault.TextFault.TheVariants.{At, OutOfMemory}
use Rattle.ocl_tokens.specs.Terminals.{Terminal}
use Rattle.ocl_tokens.specs.Lexical.{Lexes, HasFlaw}
use Rattle.ocl_text.specs.Tree.{Rule}
use Rattle.ocl_text.specs.Grammar.{Spells, SpellsWithin}

-- the tokens of the text spell the rules, within these limits and within some
abbrev pub TextSpellsWithin : ℕ → ℕ → List ℕ → List Rule → Type 0
TextSpellsWithin nesting chain text rules = (ts : List Terminal) × Lexes text ts × SpellsWithin nesting chain ts rules

abbrev pub TextSpells : List ℕ → List Rule → Type 0
TextSpells text rules = (ts : List Terminal) × Lexes text ts × Spells ts rules

-- the name stands on one of these rules
abbrev pub has_name : List Rule → List ℕ → Bool
has_name rules name = list_any (λ r. bytes_eq r.name name) rules

-- after the rules before: no rule has the name of an earlier one
abbrev pub AreNamedApart : List Rule → List Rule → Type 0
AreNamedApart before [] = Unit {0}
AreNamedApart before (r ∷ rs) = (has_name before r.name ≡ false) × AreNamedApart (before ++ r ∷ []) rs

-- no two of the rules have one name
abbrev pub NamesDiffer : List Rule → Type 0
NamesDiffer rules = AreNamedApart [] rules

-- after the rules before: the first rule whose name stands on an earlier one, by the offset of its `inv`
pub data RepeatsAt : List Rule → List Rule → ℕ → Type 0 where
  here : {r : Rule} {before rs : List Rule} → has_name before r.name ≡ true → RepeatsAt before (r ∷ rs) r.offset
  later : {offset : ℕ} {r : Rule} {before rs : List Rule} → has_name before r.name ≡ false → RepeatsAt (before ++ r ∷ []) rs offset → RepeatsAt before (r ∷ rs) offset

-- the offset of the first token, or the length of the text
abbrev pub first_offset : ℕ → List Terminal → ℕ
first_offset end [] = end
first_offset end (t ∷ ts) = t.offset

-- a list that agrees with this one through its first token, or is empty where this one is
abbrev pub Agrees : List Terminal → List Terminal → Type 0
Agrees [] other = other ≡ []
Agrees (t ∷ ts) other = (more : List Terminal) × (other ≡ t ∷ more)

-- the tokens begin a list that spells rules
abbrev pub BeginsRules : List Terminal → Type 0
BeginsRules before = (more : List Terminal) × (rules : List Rule) × Spells (before ++ more) rules

-- The tokens before the rest begin a list that spells rules, and no list that agrees with these through the rest's
-- first token does: where nothing is left, the whole list spells none.
pub record IsWrongAt (ts rest : List Terminal) : Type 0 where
  pub before : List Terminal
  pub split : ts ≡ before ++ rest
  pub begins : BeginsRules before
  pub cannot : (other : List Terminal) (rules : List Rule) → Agrees rest other → Spells (before ++ other) rules → ⊥

-- The tokens through the rest's first begin a list that spells rules, but none that does within these limits.
pub record IsTooDeepAt (nesting chain : ℕ) (ts rest : List Terminal) : Type 0 where
  pub before : List Terminal
  pub first : Terminal
  pub after : List Terminal
  pub is : rest ≡ first ∷ after
  pub split : ts ≡ before ++ rest
  pub begins : BeginsRules (before ++ first ∷ [])
  pub cannot : (more : List Terminal) (rules : List Rule) → SpellsWithin nesting chain (before ++ first ∷ more) rules → ⊥

-- the text's tokens are wrong at this offset
pub record IsWrong (text : List ℕ) (offset : ℕ) : Type 0 where
  pub tokens : List Terminal
  pub rest : List Terminal
  pub lexes : Lexes text tokens
  pub stands : offset ≡ first_offset (length text) rest
  pub wrong : IsWrongAt tokens rest

-- the text's tokens are too deep at this offset
pub record IsTooDeep (nesting chain : ℕ) (text : List ℕ) (offset : ℕ) : Type 0 where
  pub tokens : List Terminal
  pub rest : List Terminal
  pub lexes : Lexes text tokens
  pub stands : offset ≡ first_offset (length text) rest
  pub too_deep : IsTooDeepAt nesting chain tokens rest

-- the text spells rules, and at this offset is the first whose name stands on an earlier one
pub record IsRepeated (nesting chain : ℕ) (text : List ℕ) (offset : ℕ) : Type 0 where
  pub rules : List Rule
  pub spells : TextSpellsWithin nesting chain text rules
  pub repeats : RepeatsAt [] rules offset

-- ---- what a refusal says of the text, flaw by flaw; nothing where memory ran out

-- 1 to 5
abbrev pub IfLexical : List ℕ → TextFault → Type 0
IfLexical text OutOfMemory = Unit {0}
IfLexical text (At Syntax offset) = Unit {0}
IfLexical text (At TooDeep offset) = Unit {0}
IfLexical text (At DuplicateRule offset) = Unit {0}
IfLexical text (At flaw offset) = HasFlaw text flaw offset

-- 6
abbrev pub IfSyntax : List ℕ → TextFault → Type 0
IfSyntax text (At Syntax offset) = IsWrong text offset
IfSyntax text fault = Unit {0}

-- 7
abbrev pub IfTooDeep : ℕ → ℕ → List ℕ → TextFault → Type 0
IfTooDeep nesting chain text (At TooDeep offset) = IsTooDeep nesting chain text offset
IfTooDeep nesting chain text fault = Unit {0}

-- 8
abbrev pub IfDuplicate : ℕ → ℕ → List ℕ → TextFault → Type 0
IfDuplicate nesting chain text (At DuplicateRule offset) = IsRepeated nesting chain text offset
IfDuplicate nesting chain text fault = Unit {0}
