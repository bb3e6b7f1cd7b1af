use Rattle.std.proofs.Common.{◌≡◌, length, ◌≤◌, false}
use Rattle.std.specs.Io.KnownBytes.{Consumes}
use Rattle.ocl_check.proofs.input.read_input.Given as goal

-- so many bytes by so many reads, each of which gave some
abbrev pub invariant-loop : goal.invariant-loop
invariant-loop g l = record {
  read : Consumes (g.R.Source.remaining l.initial.source) (g.R.Source.remaining l.source) l.found.items;
  few : length l.found.items ≤ l.fn.limit;
  reads : g.R.Source.reads l.source ≡ l.counter;
  some : l.counter ≤ length l.found.items;
  well : g.R.Source.has_failed l.source ≡ false;
}
