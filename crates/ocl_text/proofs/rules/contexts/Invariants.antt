use Rattle.std.proofs.Common.{◌≡◌, ◌-◌, length, map, []}
use Rattle.ocl_text.specs.View.{rule_of}
use Rattle.ocl_text.specs.Parses.{left, Moves, whole}
use Rattle.ocl_text.specs.Parse as spec
use Rattle.ocl_text.proofs.rules.contexts.Given as goal

abbrev pub invariant-contexts : goal.invariant-contexts
invariant-contexts l = record {
  reads : spec.contexts (whole l.fn.cursor l.depth) (length (left l.fn.cursor)) [] (left l.fn.cursor)
      ≡ spec.contexts (whole l.fn.cursor l.depth) (length (left l.fn.cursor) - l._turn) (map rule_of l.all.items) (left l.cursor);
  moves : Moves l.fn.cursor l.cursor;
}
