use Rattle.ocl_core.specs.CoreView.{core_view}
use Rattle.ocl_semantics.proofs.ForAbove.{typed_resolved}
use Rattle.rule_examples.proofs.verdicts.verdict_for.Goals as goal

-- in the tree of a typed rule each name is one of the class model
pub evaluate-requires-clause-resolved : goal.evaluate-requires-clause-resolved
evaluate-requires-clause-resolved c =
    typed_resolved c.args.population.now.content.model _ (core_view c.args.rule.now.tree) c.requires.rule.1.0 c.requires.rule.1.1
