use Rattle.std.proofs.Common.{rules}
use Rattle.ocl_core.specs.CoreView.{core_view}
use Rattle.explain_why.proofs.NameNodes.{links_bound}
use Rattle.explain_why.proofs.names.past_spine.Goals as goal

pub returns : goal.returns
returns c =
    let bound = links_bound c.args.links.now (core_view c.args.first.now) c.args.naming.at in
    search rules
