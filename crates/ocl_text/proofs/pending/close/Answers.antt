use Rattle.std.proofs.Common.{sym, ◌∙◌}
use Rattle.ocl_text.specs.Pending.{pending_of, waiting}
use Rattle.ocl_text.specs.View.{view}
use Rattle.ocl_text.proofs.Reduced.{waiting_none, waiting_push, closed_none, closed_more}
use Rattle.ocl_text.proofs.pending.close.Goals as goal

pub close-preserved : goal.close-preserved
close-preserved c =
    c.close.invariant
    ∙ closed_more (waiting c.close.pending) (waiting c.pop.new.self) (pending_of c.in-Some.last) (view c.close.value) (view c.in_ok-value.value) (waiting_push c.pop.new.self c.close.pending c.in-Some.last c.in-Some.ensures.items) c.in_ok-value.ensures

pub returns : goal.returns
returns c = sym (c.close.invariant ∙ closed_none (waiting c.close.pending) (view c.close.value) (waiting_none c.close.pending c.in_default.ensures.cases.0))
