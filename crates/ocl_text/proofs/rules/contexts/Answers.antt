use Rattle.std.proofs.Common.{sym, ◌∙◌, length, map}
use Rattle.std.proofs.lemmas.Result.{err_from_is_err_and}
use Rattle.ocl_text.specs.View.{rule_of}
use Rattle.ocl_text.specs.Parses.{left, whole}
use Rattle.ocl_text.proofs.Turns.{contexts_over, contexts_err, contexts_wrong, contexts_more, moves_on, fails_on}
use Rattle.ocl_text.proofs.rules.contexts.Goals as goal

pub returns-in_err-class : goal.returns-in_err-class
returns-in_err-class c =
    let p = err_from_is_err_and c.from_residual.result c.from_residual.ensures.1 in
    let turn = rw c.count-left.ensures at c.contexts-test.true in
    rw (p.1, p.2, c.contexts.invariant.reads) (fails_on c.args.cursor.now c.contexts.cursor c.in_err-class.field-0.0 _ _ c.contexts.invariant.moves (λ s h. contexts_err (whole c.args.cursor.now c.args.depth) (length (left c.args.cursor.now)) c.contexts._turn (map rule_of c.contexts.all.items) (left c.contexts.cursor) s turn (sym c.is_done.ensures ∙ c.if-is_done.false) h) c.in_err-class.ensures)

pub returns-in_err-all : goal.returns-in_err-all
returns-in_err-all c =
    let p = err_from_is_err_and c.from_residual-in_err-all.result c.from_residual-in_err-all.ensures.1 in
    let turn = rw c.count-left.ensures at c.contexts-test.true in
    let moved = moves_on c.args.cursor.now c.contexts.cursor c.context.new.cursor c.contexts.invariant.moves c.in_ok-class.ensures.1 in
    let refused = rw moved.1 at c.in_err-all.ensures in
    rw (p.1, p.2, c.contexts.invariant.reads) (fails_on c.args.cursor.now c.context.new.cursor c.in_err-all.field-0.0 _ _ moved (λ s h. contexts_wrong (whole c.args.cursor.now c.args.depth) (length (left c.args.cursor.now)) c.contexts._turn (map rule_of c.contexts.all.items) (left c.contexts.cursor) _ _ s turn (sym c.is_done.ensures ∙ c.if-is_done.false) c.in_ok-class.ensures.0 h) refused)

pub contexts-preserved : goal.contexts-preserved
contexts-preserved c =
    let turn = rw c.count-left.ensures at c.contexts-test.true in
    let moved = moves_on c.args.cursor.now c.contexts.cursor c.context.new.cursor c.contexts.invariant.moves c.in_ok-class.ensures.1 in
    let read = rw moved.1 at c.in_ok-all.ensures.0 in
    record {
      reads = c.contexts.invariant.reads ∙ contexts_more (whole c.args.cursor.now c.args.depth) (length (left c.args.cursor.now)) c.contexts._turn (map rule_of c.contexts.all.items) _ (left c.contexts.cursor) _ _ _ turn (sym c.is_done.ensures ∙ c.if-is_done.false) c.in_ok-class.ensures.0 read;
      moves = moves_on c.args.cursor.now c.context.new.cursor c.invariants.new.cursor moved c.in_ok-all.ensures.1;
    }

pub returns-else-is_done-2 : goal.returns-else-is_done-2
returns-else-is_done-2 c =
    let turns = rw c.count-left.ensures at c.contexts-test.false in
    rw c.contexts.invariant.moves.0 at (c.contexts.invariant.reads
    ∙ contexts_over (whole c.args.cursor.now c.args.depth) (length (left c.args.cursor.now)) c.contexts._turn (map rule_of c.contexts.all.items) (left c.contexts.cursor) turns (sym c.is_done-2.ensures ∙ c.if-is_done-2.false))
