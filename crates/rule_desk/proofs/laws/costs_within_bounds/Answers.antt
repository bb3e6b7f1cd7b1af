use Rattle.rule_desk.proofs.Costs.{total_within}
use Rattle.rule_desk.proofs.laws.costs_within_bounds.Goals as goal

-- src/laws.rt
pub returns : goal.returns
returns c = λ j can. total_within j.admission.resolved.unit j.population can
