-- A unit without where it lies in memory.
use Rattle.std.specs.Prelude.{ℕ, List, map, slice_index_or, [], String, string_bytes}
use Rattle.std.specs.declared.alloc.Global.{Global}
use Rattle.rule_code.specs.declared.instruction.Instr.{Instr}
use Rattle.rule_code.specs.declared.symbol.Symbol.{Symbol}
use Rattle.rule_code.specs.declared.unit.Rule.{Rule}
use Rattle.rule_code.specs.declared.version.Version.{Version}

-- a rule: the number of its name's text, the number of its context class's symbol, its instructions
pub record RuleContent : Type 0 where
  pub name : ℕ
  pub context : ℕ
  pub code : List Instr

pub record Content : Type 0 where
  pub version : Version
  pub texts : List (List ℕ)
  pub symbols : List Symbol
  pub rules : List RuleContent

abbrev pub rule_content : Rule → RuleContent
rule_content r = record { name = r.name.0; context = r.context.0; code = r.code.items }

abbrev pub content_of : Version → List (String Global) → List Symbol → List Rule → Content
content_of version texts symbols rules = record { version = version; texts = map string_bytes texts; symbols = symbols; rules = map rule_content rules }

-- the text of a number
abbrev pub text_at : List (List ℕ) → ℕ → List ℕ
text_at texts n = slice_index_or texts n []

-- the names of rules
abbrev pub names_of : List (List ℕ) → List RuleContent → List (List ℕ)
names_of texts rules = map (λ r. text_at texts r.name) rules
