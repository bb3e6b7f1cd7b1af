use Rattle.std.proofs.Common.{sym, ◌∙◌, arith}
use Rattle.ocl_text.specs.Pending.{pending_of, waiting}
use Rattle.ocl_text.specs.View.{view}
use Rattle.ocl_text.proofs.Reduced.{waiting_none, waiting_push, reduce_none, reduce_looser, reduce_same, reduce_tighter}
use Rattle.ocl_text.proofs.pending.reduce.Goals as goal

pub returns-then-last-height : goal.returns-then-last-height
returns-then-last-height c =
    let before = waiting_push c.pop.new.self c.reduce.pending c.in-Some.last c.in-Some.ensures.items in
    let again = waiting_push c.pop.new.self c.push.new.self c.in-Some.last c.in_ok-push.ensures.items in
    sym (c.reduce.invariant ∙ reduce_looser c.args.chain c.args.height (waiting c.reduce.pending) (waiting c.push.new.self) (waiting c.pop.new.self) (pending_of c.in-Some.last) (view c.reduce.left) before again c.if-last-height.true)

pub returns-then-in_chain : goal.returns-then-in_chain
returns-then-in_chain c =
    sym (c.reduce.invariant
    ∙ reduce_same c.args.chain c.args.height (waiting c.reduce.pending) (waiting c.pop.new.self) (pending_of c.in-Some.last) (view c.reduce.left) (view c.in_ok-left.left) (waiting_push c.pop.new.self c.reduce.pending c.in-Some.last c.in-Some.ensures.items) c.if-in_chain.true c.in_ok-left.ensures)

pub reduce-preserved : goal.reduce-preserved
reduce-preserved c =
    c.reduce.invariant
    ∙ reduce_tighter c.args.chain c.args.height (waiting c.reduce.pending) (waiting c.pop.new.self) (pending_of c.in-Some.last) (view c.reduce.left) (view c.in_ok-left.left) (waiting_push c.pop.new.self c.reduce.pending c.in-Some.last c.in-Some.ensures.items) (omega (arith, c.if-last-height.false)) c.if-in_chain.false c.in_ok-left.ensures

pub returns : goal.returns
returns c = sym (c.reduce.invariant ∙ reduce_none c.args.chain c.args.height (waiting c.reduce.pending) (waiting c.pop.new.self) (view c.reduce.left) (waiting_none c.reduce.pending c.in_default.ensures.cases.0) (waiting_none c.pop.new.self c.in_default.ensures.cases.1))
