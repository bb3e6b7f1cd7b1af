-- What a delivery shows: the verdict of a rule for an object.
use Rattle.std.specs.Prelude.{◌≡◌, ℕ, List, Some, Result, Ok, Err, true}
use Rattle.imkl_population.specs.Population.{Population, is_instance, object_number}
use Rattle.imkl_population.specs.Sizes.{sizes_of}
use Rattle.rule_values.specs.declared.verdict.Verdict.{Verdict}
use Rattle.rule_cost.specs.Admission.{admission}
use Rattle.ocl_core.specs.Core.{CheckedRule}
use Rattle.ocl_semantics.specs.Meaning.{meant_verdict}
use Rattle.ocl_check.specs.declared.commands.judge.TheConstants.{MAX_BUDGET}
use Rattle.ocl_pipeline.specs.declared.refusal.Refusal.{Refusal}
use Rattle.ocl_pipeline.specs.Asked.{PopulationAndRules}
use Rattle.ocl_explain.specs.Judged.{AreJudged}
use Rattle.ocl_explain.specs.WhyAnswers.{rule_named}

-- a rule judges the object of an id, and this is what it means of it
abbrev pub MeansOf : Population → CheckedRule → List ℕ → Verdict → Type 0
MeansOf p r id v = (o : ℕ) × (object_number p id ≡ Some o) × (is_instance p r.context o ≡ true) × (meant_verdict p r o ≡ v)

-- the same of the first rule of a name
abbrev pub ShowsVerdict : Population → List CheckedRule → List ℕ → List ℕ → Verdict → Type 0
ShowsVerdict p rs name id v = (r : CheckedRule) × (rule_named rs name ≡ Some r) × MeansOf p r id v

-- `judge` loads the bytes of the delivery and refuses none of the inputs, and the rule of the name means this verdict of the
-- object of the id
abbrev pub HasVerdict : List ℕ → List ℕ → List ℕ → List ℕ → List ℕ → Verdict → Type 0
HasVerdict model delivery rules name id v =
    (p : Population) × (rs : List CheckedRule) × AreJudged MAX_BUDGET model delivery rules p rs × ShowsVerdict p rs name id v

-- the same of what the pipeline gives: each rule is within the largest budget
abbrev pub IsShownOf : List ℕ → List ℕ → Result PopulationAndRules Refusal → Verdict → Type 0
IsShownOf name id (Ok (p, c)) v = (admission c.unit (sizes_of p) MAX_BUDGET ≡ Ok tt) × ShowsVerdict p c.rules name id v
IsShownOf name id (Err r) v = ⊥
