use Rattle.std.proofs.Common.{refl, sym, ◌∙◌, map, length}
use Rattle.std.proofs.lemmas.List.{map_push}
use Rattle.std.proofs.lemmas.Result.{err_from_is_err_and}
use Rattle.ocl_tokens.specs.Terminals.{terminal}
use Rattle.ocl_text.specs.Parse as spec
use Rattle.ocl_text.specs.Parses.{left, after_next, operand, whole}
use Rattle.ocl_text.specs.View.{view, bound_of}
use Rattle.ocl_text.proofs.Turns.{expr_plain, unary_plain, steps_err, items_err, items_last, items_more, moves_on, fails_on}
use Rattle.ocl_text.specs.Pending.{waiting}
use Rattle.ocl_text.proofs.Resumed.{turn_begins, turn_closes, turn_waits, turn_refused, turn_takes}
use Rattle.ocl_text.proofs.Reduced.{waiting_new}
use Rattle.ocl_text.proofs.parser.+parser.Goals as goal

pub operators-operators-init : goal.operators-operators-init
operators-operators-init t c = record {
  reads = turn_begins c.args.cursor.now.chain (spec.unary c.args.cursor.now.chain c.args.depth) (left c.args.cursor.now) (waiting c.new-waiting.result) (waiting_new c.new-waiting.result c.new-waiting.ensures.items);
  moves = (refl, refl);
}

pub operators-returns-in_default : goal.operators-returns-in_default
operators-returns-in_default t c =
    let read = rw c.operators.invariant.moves.1 at c.in_ok-operand.ensures.0 in (
      c.operators.invariant.reads
          ∙ turn_closes c.args.cursor.now.chain (spec.unary c.args.cursor.now.chain c.args.depth) (left c.operators.cursor) (left c.unary.new.cursor) (waiting c.operators.waiting) (view c.in_ok-operand.operand) (view c.in_ok-close.field-0) read c.in_default.ensures.value c.in_ok-close.ensures,
      moves_on c.args.cursor.now c.operators.cursor c.unary.new.cursor c.operators.invariant.moves c.in_ok-operand.ensures.1,
    )

pub operators-returns-in_err-waiting : goal.operators-returns-in_err-waiting
operators-returns-in_err-waiting t c =
    let p = err_from_is_err_and c.from_residual-in_err-waiting.result c.from_residual-in_err-waiting.ensures.1 in
    let read = rw c.operators.invariant.moves.1 at c.in_ok-operand.ensures.0 in
    let moved = moves_on c.args.cursor.now c.operators.cursor c.unary.new.cursor c.operators.invariant.moves c.in_ok-operand.ensures.1 in
    let refused = rw moved.1 at c.in_err-waiting.ensures in
    rw (p.1, p.2, c.operators.invariant.reads) (fails_on c.args.cursor.now c.unary.new.cursor c.in_err-waiting.field-0.0 _ _ moved (λ s h. turn_refused c.args.cursor.now.chain (spec.unary c.args.cursor.now.chain c.args.depth) (left c.operators.cursor) (left c.unary.new.cursor) (after_next c.unary.new.cursor) (waiting c.operators.waiting) (view c.in_ok-operand.operand) c.in-Some.operator read c.in-Some.ensures.value s h) refused)

pub operators-operators-smaller : goal.operators-operators-smaller
operators-operators-smaller t c = rw c.advance.ensures (turn_takes c.operators.cursor.chain c.args.depth (left c.operators.cursor) (left c.unary.new.cursor) (after_next c.unary.new.cursor) (view c.in_ok-operand.operand) c.in-Some.operator c.in_ok-operand.ensures.0 c.in-Some.ensures.value)

pub operators-operators-preserved : goal.operators-operators-preserved
operators-operators-preserved t c =
    let read = rw c.operators.invariant.moves.1 at c.in_ok-operand.ensures.0 in
    let moved = moves_on c.args.cursor.now c.operators.cursor c.unary.new.cursor c.operators.invariant.moves c.in_ok-operand.ensures.1 in
    let waits = rw moved.1 at c.in_ok-waiting.ensures in
    rw c.advance.ensures (record {
      reads = c.operators.invariant.reads ∙ turn_waits c.args.cursor.now.chain (spec.unary c.args.cursor.now.chain c.args.depth) (left c.operators.cursor) (left c.unary.new.cursor) (after_next c.unary.new.cursor) (waiting c.operators.waiting) (view c.in_ok-operand.operand) c.in-Some.operator read c.in-Some.ensures.value (waiting c.in_ok-waiting.waiting) waits;
      moves = moved;
    })

pub steps-returns-in_err-source : goal.steps-returns-in_err-source
steps-returns-in_err-source t c =
    let p = err_from_is_err_and c.from_residual.result c.from_residual.ensures.1 in
    let refused = rw c.steps.invariant.moves.1 at c.in_err-source.ensures in
    rw (p.1, p.2, c.steps.invariant.reads) (fails_on c.args.cursor.now c.steps.cursor c.in_err-source.field-0.0 _ _ c.steps.invariant.moves (λ s h. steps_err c.args.depth (operand c.args.cursor.now c.args.depth) (whole c.args.cursor.now c.args.depth) c.steps.left (view c.steps.source) (left c.steps.cursor) s (sym c.begins_step.ensures ∙ c.steps-test.true) (λ z. c.if-left-eq0.false z) h) refused)

pub expr-returns-in_default-kind : goal.expr-returns-in_default-kind
expr-returns-in_default-kind t c = rw (expr_plain c.args.cursor.now.chain c.args.depth (left c.args.cursor.now) (terminal c.in-Some.t) _ (λ z. c.if-depth-eq0.false z) c.in-Some.ensures.tokens c.in_default-kind.not-Let) c.operators-in_default-kind.ensures

pub unary-returns-in_default-kind : goal.unary-returns-in_default-kind
unary-returns-in_default-kind t c = rw (unary_plain c.args.cursor.now.chain c.args.depth (left c.args.cursor.now) (terminal c.in-Some.t) _ (λ z. c.if-depth-eq0.false z) c.in-Some.ensures.tokens c.in_default-kind.not-Minus c.in_default-kind.not-Not) c.post.ensures

pub items-returns-in_err-item : goal.items-returns-in_err-item
items-returns-in_err-item t c =
    let p = err_from_is_err_and c.from_residual.result c.from_residual.ensures.1 in
    let turn = rw c.count-left.ensures at c.items-test.true in
    let refused = rw c.items.invariant.moves.1 at c.in_err-item.ensures in
    rw (p.1, p.2, c.items.invariant.reads) (fails_on c.args.cursor.now c.items.cursor c.in_err-item.field-0.0 _ _ c.items.invariant.moves (λ s h. items_err (operand c.args.cursor.now c.args.depth) (length (left c.args.cursor.now)) c.items._turn (map view c.items.all.items) (left c.items.cursor) s turn h) refused)

pub items-returns-then-not-take : goal.items-returns-then-not-take
items-returns-then-not-take t c =
    let turn = rw c.count-left.ensures at c.items-test.true in
    let kept = c.take.ensures.kept c.if-not-take.true in
    let read = rw (c.items.invariant.moves.1, kept) at c.in_ok-item.ensures.0 in
    let ends = rw kept at (sym c.take.ensures.value ∙ c.if-not-take.true) in
    let moved = moves_on c.args.cursor.now c.items.cursor c.operators.new.cursor c.items.invariant.moves c.in_ok-item.ensures.1 in (
      c.items.invariant.reads
          ∙ items_last (operand c.args.cursor.now c.args.depth) (length (left c.args.cursor.now)) c.items._turn (map view c.items.all.items) _ (left c.items.cursor) (view c.in_ok-item.item) (left c.take.new.self) turn read ends (rw c.in_ok-push.ensures.items (map_push view c.items.all.items c.in_ok-item.item)),
      moves_on c.args.cursor.now c.operators.new.cursor c.take.new.self moved c.take.ensures.moves,
    )

pub items-items-preserved : goal.items-items-preserved
items-items-preserved t c =
    let turn = rw c.count-left.ensures at c.items-test.true in
    let read = rw c.items.invariant.moves.1 at c.in_ok-item.ensures.0 in
    let moved = moves_on c.args.cursor.now c.items.cursor c.operators.new.cursor c.items.invariant.moves c.in_ok-item.ensures.1 in
    record {
      reads = c.items.invariant.reads ∙ items_more (operand c.args.cursor.now c.args.depth) (length (left c.args.cursor.now)) c.items._turn (map view c.items.all.items) _ (left c.items.cursor) (view c.in_ok-item.item) _ _ turn read (sym c.take.ensures.value ∙ c.if-not-take.false) (rw c.in_ok-push.ensures.items (map_push view c.items.all.items c.in_ok-item.item)) (c.take.ensures.taken c.if-not-take.false);
      moves = moves_on c.args.cursor.now c.operators.new.cursor c.take.new.self moved c.take.ensures.moves;
    }

pub bindings-returns-in_err-binding-clause-all : goal.bindings-returns-in_err-binding-clause-all
bindings-returns-in_err-binding-clause-all t c =
    let p = err_from_is_err_and c.from_residual.result c.from_residual.ensures.1 in
    let turn = rw c.count-left.ensures at c.bindings-test.true in
    let refused = rw c.bindings.invariant.moves.1 at c.in_err-binding.ensures in
    rw (p.1, p.2, c.bindings.invariant.reads) (fails_on c.args.cursor.now c.bindings.cursor c.in_err-binding.field-0.0 _ _ c.bindings.invariant.moves (λ s h. items_err (spec.a_bind c.args.depth (operand c.args.cursor.now c.args.depth)) (length (left c.args.cursor.now)) c.bindings._turn (map bound_of c.bindings.all.items) (left c.bindings.cursor) s turn h) refused)

pub bindings-returns-then-not-take-clause-all : goal.bindings-returns-then-not-take-clause-all
bindings-returns-then-not-take-clause-all t c =
    let turn = rw c.count-left.ensures at c.bindings-test.true in
    let kept = c.take.ensures.kept c.if-not-take.true in
    let read = rw (c.bindings.invariant.moves.1, kept) at c.in_ok-binding.ensures.0 in
    let ends = rw kept at (sym c.take.ensures.value ∙ c.if-not-take.true) in
    let moved = moves_on c.args.cursor.now c.bindings.cursor c.a_bind.new.cursor c.bindings.invariant.moves c.in_ok-binding.ensures.1 in (
      c.bindings.invariant.reads
          ∙ items_last (spec.a_bind c.args.depth (operand c.args.cursor.now c.args.depth)) (length (left c.args.cursor.now)) c.bindings._turn (map bound_of c.bindings.all.items) _ (left c.bindings.cursor) (bound_of c.in_ok-binding.binding) (left c.take.new.self) turn read ends (rw c.in_ok-push.ensures.items (map_push bound_of c.bindings.all.items c.in_ok-binding.binding)),
      moves_on c.args.cursor.now c.a_bind.new.cursor c.take.new.self moved c.take.ensures.moves,
    )

pub bindings-bindings-preserved : goal.bindings-bindings-preserved
bindings-bindings-preserved t c =
    let turn = rw c.count-left.ensures at c.bindings-test.true in
    let read = rw c.bindings.invariant.moves.1 at c.in_ok-binding.ensures.0 in
    let moved = moves_on c.args.cursor.now c.bindings.cursor c.a_bind.new.cursor c.bindings.invariant.moves c.in_ok-binding.ensures.1 in
    record {
      reads = c.bindings.invariant.reads ∙ items_more (spec.a_bind c.args.depth (operand c.args.cursor.now c.args.depth)) (length (left c.args.cursor.now)) c.bindings._turn (map bound_of c.bindings.all.items) _ (left c.bindings.cursor) (bound_of c.in_ok-binding.binding) _ _ turn read (sym c.take.ensures.value ∙ c.if-not-take.false) (rw c.in_ok-push.ensures.items (map_push bound_of c.bindings.all.items c.in_ok-binding.binding)) (c.take.ensures.taken c.if-not-take.false);
      moves = moves_on c.args.cursor.now c.a_bind.new.cursor c.take.new.self moved c.take.ensures.moves;
    }
