use Rattle.std.proofs.Common.{sym}
use Rattle.report_forms.proofs.Objects.{named_is}
use Rattle.report_forms.proofs.search.object_named.Goals as goal

pub returns-in-Some-clause-number : goal.returns-in-Some-clause-number
returns-in-Some-clause-number c =
    sym (named_is c.args.population.now.content c.consistent.ensures c.in-Some.object c.args.id.now c.in-Some.ensures.there c.in-Some.ensures.named)
