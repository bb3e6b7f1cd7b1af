-- What holds of every list of tokens, whatever the code does.
use Rattle.std.specs.Prelude.{◌≡◌, ℕ, ◌+◌, List, ◌⊎◌}
use Rattle.ocl_tokens.specs.Terminals.{Terminal}
use Rattle.ocl_text.specs.Tree.{Rule}
use Rattle.ocl_text.specs.Grammar.{Spells, SpellsWithin}
use Rattle.ocl_text.specs.RuleText.{IsWrongAt, IsTooDeepAt}

abbrev pub SpellsOneList : Type 0
SpellsOneList = (ts : List Terminal) (some others : List Rule) → Spells ts some → Spells ts others → some ≡ others

abbrev pub KeepsUnderWiderLimits : Type 0
KeepsUnderWiderLimits =
    (nesting chain deeper longer : ℕ) (ts : List Terminal) (rules : List Rule) → SpellsWithin nesting chain ts rules
    → SpellsWithin (nesting + deeper) (chain + longer) ts rules

-- within each limits: rules, or a first token that is wrong or too deep
abbrev pub SpellsOrIsRefused : Type 0
SpellsOrIsRefused =
    (nesting chain : ℕ) (ts : List Terminal)
    → ((rules : List Rule) × SpellsWithin nesting chain ts rules) ⊎ ((rest : List Terminal) × (IsWrongAt ts rest ⊎ IsTooDeepAt nesting chain ts rest))
