use Rattle.std.proofs.Common.{◌≡◌, ◌-◌, ◌+◌, ◌*◌, length, map, []}
use Rattle.ocl_text.specs.View.{view, bound_of}
use Rattle.ocl_text.specs.Parses.{left, Moves, operand, whole}
use Rattle.ocl_base.specs.Steps.{◌>>=◌}
use Rattle.ocl_text.specs.Parse as spec
use Rattle.ocl_text.specs.Pending.{waiting}
use Rattle.ocl_text.proofs.Resumed.{resume}
use Rattle.ocl_text.proofs.parser.+parser.Given as goal

abbrev pub decreases-unary : goal.decreases-unary
decreases-unary l = 40 * l.depth

abbrev pub decreases-operators : goal.decreases-operators
decreases-operators l = 40 * l.depth + 1

abbrev pub decreases-expr : goal.decreases-expr
decreases-expr l = 40 * l.depth + 20

abbrev pub decreases-items : goal.decreases-items
decreases-items l = 40 * l.depth + 21

abbrev pub decreases-arguments : goal.decreases-arguments
decreases-arguments l = 40 * l.depth + 22

abbrev pub decreases-iteration : goal.decreases-iteration
decreases-iteration l = 40 * l.depth + 22

abbrev pub decreases-fold : goal.decreases-fold
decreases-fold l = 40 * l.depth + 22

abbrev pub decreases-fold_body : goal.decreases-fold_body
decreases-fold_body l = 40 * l.depth + 21

abbrev pub decreases-after_dot : goal.decreases-after_dot
decreases-after_dot l = 40 * l.depth + 24

abbrev pub decreases-operation_call : goal.decreases-operation_call
decreases-operation_call l = 40 * l.depth + 23

abbrev pub decreases-after_arrow : goal.decreases-after_arrow
decreases-after_arrow l = 40 * l.depth + 24

abbrev pub decreases-step : goal.decreases-step
decreases-step l = 40 * l.depth + 25

abbrev pub decreases-steps : goal.decreases-steps
decreases-steps l = 40 * l.depth + 26

abbrev pub decreases-if_expression : goal.decreases-if_expression
decreases-if_expression l = 40 * l.depth + 21

abbrev pub decreases-prim : goal.decreases-prim
decreases-prim l = 40 * l.depth + 22

abbrev pub decreases-post : goal.decreases-post
decreases-post l = 40 * l.depth + 27

abbrev pub decreases-a_bind : goal.decreases-a_bind
decreases-a_bind l = 40 * l.depth + 21

abbrev pub decreases-bindings : goal.decreases-bindings
decreases-bindings l = 40 * l.depth + 22

abbrev pub decreases-let_expression : goal.decreases-let_expression
decreases-let_expression l = 40 * l.depth + 23

abbrev pub invariant-operators-operators : goal.invariant-operators-operators
invariant-operators-operators l = record {
  reads : operand l.fn.cursor l.depth (left l.fn.cursor)
      ≡ (spec.unary l.fn.cursor.chain l.depth (left l.cursor) >>= λ x. resume l.fn.cursor.chain (spec.unary l.fn.cursor.chain l.depth) (waiting l.waiting) 0 x.0 x.1);
  moves : Moves l.fn.cursor l.cursor;
}

abbrev pub decreases-operators-operators : goal.decreases-operators-operators
decreases-operators-operators l = length (left l.cursor)

abbrev pub invariant-steps-steps : goal.invariant-steps-steps
invariant-steps-steps l = record {
  reads : spec.step_list l.depth (operand l.fn.cursor l.depth) (whole l.fn.cursor l.depth) l.fn.cursor.chain (view l.fn.first) (left l.fn.cursor)
      ≡ spec.step_list l.depth (operand l.fn.cursor l.depth) (whole l.fn.cursor l.depth) l.left (view l.source) (left l.cursor);
  moves : Moves l.fn.cursor l.cursor;
}

abbrev pub decreases-steps-steps : goal.decreases-steps-steps
decreases-steps-steps l = l.left

abbrev pub invariant-items-items : goal.invariant-items-items
invariant-items-items l = record {
  reads : spec.items (operand l.fn.cursor l.depth) (length (left l.fn.cursor)) [] (left l.fn.cursor)
      ≡ spec.items (operand l.fn.cursor l.depth) (length (left l.fn.cursor) - l._turn) (map view l.all.items) (left l.cursor);
  moves : Moves l.fn.cursor l.cursor;
}

abbrev pub invariant-bindings-bindings : goal.invariant-bindings-bindings
invariant-bindings-bindings l = record {
  reads : spec.items (spec.a_bind l.depth (operand l.fn.cursor l.depth)) (length (left l.fn.cursor)) [] (left l.fn.cursor)
      ≡ spec.items (spec.a_bind l.depth (operand l.fn.cursor l.depth)) (length (left l.fn.cursor) - l._turn) (map bound_of l.all.items) (left l.cursor);
  moves : Moves l.fn.cursor l.cursor;
}
