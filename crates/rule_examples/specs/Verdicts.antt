-- The verdict of a rule for the object of a number.
use Rattle.std.specs.Prelude.{◌≡◌, ◌<◌, ℕ, length, true}
use Rattle.imkl_population.specs.Population.{Population, is_instance}
use Rattle.ocl_core.specs.Core.{CheckedRule}
use Rattle.rule_values.specs.declared.verdict.Verdict.{Verdict}
use Rattle.ocl_semantics.specs.Meaning.{meant_verdict}

-- this is the object of the number, and the rule judges it
abbrev pub IsJudged : Population → CheckedRule → ℕ → ℕ → Type 0
IsJudged p r number o = (o ≡ number) × (o < length p.objects) × (is_instance p r.context o ≡ true)

-- the rule judges the object of the number, and this is what it means of it
abbrev pub IsVerdictAt : Population → CheckedRule → ℕ → Verdict → Type 0
IsVerdictAt p r number v = (number < length p.objects) × (is_instance p r.context number ≡ true) × (meant_verdict p r number ≡ v)
