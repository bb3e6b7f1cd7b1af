-- What is said of an object that breaks a rule.
use Rattle.std.specs.Prelude.{◌≡◌, ℕ, List, All, Some, Result, Ok, Err}
use Rattle.imkl_population.specs.Population.{Population}
use Rattle.rule_code.specs.Content.{Content}
use Rattle.rule_values.specs.declared.verdict.Verdict.TheVariants.{Fails}
use Rattle.rule_machine.specs.Laws.{verdict_at}
use Rattle.rule_cost.specs.Admission.{Admission}
use Rattle.ocl_pipeline.specs.declared.refusal.Refusal.{Refusal}
use Rattle.ocl_pipeline.specs.Asked.{PopulationAndUnit, admitted_in}
use Rattle.embedding.specs.declared.judging.Broken.{Broken}

-- the machine's verdict on the rule for the object is that it fails
abbrev pub Breaks : Content → Population → Broken → Type 0
Breaks u p b = verdict_at u p b.rule b.object ≡ Some Fails

-- each breaks a rule of the unit that is admitted; where none is, nothing is listed
abbrev pub AreBroken : Population → Result Admission Refusal → List Broken → Type 0
AreBroken p (Ok a) bs = All (Breaks a.resolved.unit p) bs
AreBroken p (Err e) bs = ⊥

-- the same of a population and accepted code, within a budget
abbrev pub AreBrokenWithin : ℕ → Result PopulationAndUnit Refusal → List Broken → Type 0
AreBrokenWithin budget (Ok given) bs = AreBroken given.0 (admitted_in budget given.0 given.1) bs
AreBrokenWithin budget (Err e) bs = ⊥
