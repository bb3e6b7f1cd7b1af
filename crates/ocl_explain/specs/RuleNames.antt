-- The names that a text gives to the variables of its rules.
use Rattle.std.specs.Prelude.{ℕ, List, [], ◌∷◌, Ok, Err, map, bytes_eq, string_bytes, if◌then◌else◌}
use Rattle.ocl_text.specs.Tree.{Rule}
use Rattle.ocl_core.specs.Core.{CheckedRule}
use Rattle.ocl_pipeline.specs.TextReading.{TextReading}
use Rattle.text_names.specs.GivenNames.{given_names}
use Rattle.ocl_explain.specs.declared.given_names.RuleNames as declared

-- those of a rule, in the order in which its variables are bound, an empty one where the text gives none
pub record RuleNames : Type 0 where
  pub rule : List ℕ
  pub given : List (List ℕ)

abbrev pub rule_names : declared.RuleNames → RuleNames
rule_names n = record { rule = string_bytes n.rule; given = map string_bytes n.given.items }

-- those of the rule of a name; none, where none are known
abbrev pub given_for : List RuleNames → List ℕ → List (List ℕ)
given_for [] name = []
given_for (n ∷ ns) name = if bytes_eq n.rule name then n.given else given_for ns name

-- those that a rule of a text gives to the variables of the typed rule that it is
abbrev pub names_of_rule : Rule → CheckedRule → RuleNames
names_of_rule w r = record { rule = r.name; given = given_names w.tree r.tree }

-- and so of all rules of a text, which are typed in the same order
abbrev pub names_of_rules : List Rule → List CheckedRule → List RuleNames
names_of_rules (w ∷ ws) (r ∷ rs) = names_of_rule w r ∷ names_of_rules ws rs
names_of_rules ws rs = []

-- and by what the bytes of the text are read as
abbrev pub names_by : TextReading → List CheckedRule → List RuleNames
names_by (Ok ws) rs = names_of_rules ws rs
names_by (Err fault) rs = []
