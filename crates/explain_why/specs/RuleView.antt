-- The rule whose verdict is explained.
use Rattle.ocl_core.specs.Core.{CheckedRule}
use Rattle.ocl_core.specs.CoreView.{core_view}
use Rattle.explain_why.specs.declared.verdicts.ExplainedRule.{ExplainedRule}

abbrev pub explained_rule : ExplainedRule → CheckedRule
explained_rule r = record { name = r.name.now; context = r.context; tree = core_view r.tree.now }
