use Rattle.std.proofs.Common.{◌≡◌, ◌-◌, length, map}
use Rattle.ocl_text.specs.View.{rule_of}
use Rattle.ocl_text.specs.Parses.{left, Moves, whole}
use Rattle.ocl_text.specs.Parse as spec
use Rattle.ocl_text.proofs.rules.invariants.Given as goal

abbrev pub invariant-invariants : goal.invariant-invariants
invariant-invariants l = record {
  reads : spec.invariants (whole l.fn.cursor l.depth) (l.class.name, l.class.offset) (length (left l.fn.cursor)) (map rule_of l.fn.before.items) (left l.fn.cursor)
      ≡ spec.invariants (whole l.fn.cursor l.depth) (l.class.name, l.class.offset) (length (left l.fn.cursor) - l._turn) (map rule_of l.all.items) (left l.cursor);
  moves : Moves l.fn.cursor l.cursor;
}
