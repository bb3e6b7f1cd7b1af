-- A verdict that is told of a class model, a delivery and the rules of a text is what the rule means of the object.
use Rattle.std.proofs.Common.{◌≡◌, ℕ, List, Option, Some, None, Result, Ok, Err, IfSome, refl}
use Rattle.rule_values.specs.declared.verdict.Verdict.{Verdict}
use Rattle.ocl_check.specs.declared.commands.judge.TheConstants.{MAX_BUDGET}
use Rattle.ocl_pipeline.specs.declared.refusal.Refusal.{Refusal}
use Rattle.ocl_pipeline.specs.TextReading.{TextReading, ReadsAs}
use Rattle.ocl_pipeline.specs.Asked.{PopulationAndRules}
use Rattle.imkl_population.specs.Population.{Population}
use Rattle.ocl_core.specs.Core.{CheckedRule}
use Rattle.ocl_explain.specs.WhyAnswers.{rule_named}
use Rattle.ocl_explain.specs.Examples.{HasVerdict, IsShownOf, MeansOf, ShowsVerdict}
use Rattle.ocl_explain.proofs.Answering.{asked, are_judged}

module _ (model delivery rules : List ℕ) (t : TextReading) (reads : ReadsAs rules t) (name id : List ℕ) where
  by_given : (g : Result PopulationAndRules Refusal) → asked MAX_BUDGET model delivery rules t reads ≡ g → (v : Verdict) → IsShownOf name id g v → HasVerdict model delivery rules name id v
  by_given (Ok (p, c)) is v shown = (p, c.rules, are_judged MAX_BUDGET model delivery rules t reads p c is tt shown.0, shown.1)
  by_given (Err r) is v shown = elim shown [ ]

  pub has_verdict : (v : Option Verdict) → IfSome v (IsShownOf name id (asked MAX_BUDGET model delivery rules t reads)) → IfSome v (HasVerdict model delivery rules name id)
  has_verdict None shown = tt
  has_verdict (Some v) shown = by_given (asked MAX_BUDGET model delivery rules t reads) refl v shown

-- what a rule of the name means is what the first rule of the name means
pub shown_by : (p : Population) (rs : List CheckedRule) (name id : List ℕ) (r : CheckedRule) (v : Option Verdict) → rule_named rs name ≡ Some r → IfSome v (MeansOf p r id) → IfSome v (ShowsVerdict p rs name id)
shown_by p rs name id r None is means = tt
shown_by p rs name id r (Some v) is means = (r, is, means)
