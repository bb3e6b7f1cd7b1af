-- The symbols that code uses, and whether they are present names.
use Rattle.std.specs.Prelude.{ℕ, All, IsSome, List, ◌∷◌, Option, slice_get, option_and_then}
use Rattle.std.specs.List.{flat_map}
use Rattle.imkl_model.specs.ClassModel.{Model}
use Rattle.rule_code.specs.Content.{Content, RuleContent}
use Rattle.rule_verify.specs.declared.named.Named.{Named}
use Rattle.rule_verify.specs.Symbols.{names_in, named_in}
use Rattle.rule_verify.specs.InstrKinds.{symbols_used}

-- what the symbol of a number names as it is written, by present names alone
abbrev pub named_as_written : Model → Content → ℕ → Option Named
named_as_written m u n = option_and_then (λ s. named_in m (names_in u.texts s)) (slice_get u.symbols n)

-- the symbols that a rule uses: that of its context class, and those of its instructions
abbrev pub rule_symbols : RuleContent → List ℕ
rule_symbols r = r.context ∷ flat_map symbols_used r.code

-- as it is written, each symbol that a rule uses names something of the class model
abbrev pub RuleUsesPresentNames : Model → Content → RuleContent → Type 0
RuleUsesPresentNames m u r = All (λ n. IsSome (named_as_written m u n)) (rule_symbols r)

-- the same of all rules of a unit
abbrev pub UsesPresentNames : Model → Content → Type 0
UsesPresentNames m u = All (RuleUsesPresentNames m u) u.rules
