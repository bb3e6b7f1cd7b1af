use Rattle.ocl_core.specs.CoreView.{core_view}
use Rattle.ocl_semantics.proofs.ForAbove.{typed_resolved}
use Rattle.ocl_explain.proofs.verdicts.find_judged.Goals as goal

-- in the tree of a typed rule each name is one of the class model
pub explain_named_verdict-requires-clause-resolved : goal.explain_named_verdict-requires-clause-resolved
explain_named_verdict-requires-clause-resolved c =
    typed_resolved c.args.population.now.content.model _ (core_view c.args.rule.now.tree) c.requires.rule.1.0 c.requires.rule.1.1
