use Rattle.std.proofs.Common.{◌≡◌, string_bytes}
use Rattle.ocl_check.specs.Bound.{bounds_below}
use Rattle.ocl_check.proofs.commands.bound.bounds_reply.Given as goal

abbrev pub invariant-loop-rule : goal.invariant-loop-rule
invariant-loop-rule l = record { text : string_bytes l.text ≡ bounds_below l.accepted.unit l.sizes l.rule }
