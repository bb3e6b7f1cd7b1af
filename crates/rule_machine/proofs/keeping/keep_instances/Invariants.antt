use Rattle.std.proofs.Common.{◌≡◌, ◌≤◌, ◌+◌, ◌++◌, length, map, take, slice_range, vec_capacity}
use Rattle.rule_slots.specs.Slots.{lists_in, index_slot}
use Rattle.rule_machine.proofs.keeping.keep_instances.Given as goal

-- so many are put behind what is kept, and there is room for the others
abbrev pub invariant-loop-offset : goal.invariant-loop-offset
invariant-loop-offset l =
    record {
      put : l.pool.items ≡ take l.at l.fn.pool.items ++ map index_slot (slice_range (lists_in l.lists).instances l.value.start (l.value.start + l.offset));
      long : length l.pool.items ≡ l.at + l.offset;
      room : l.at + l.value.count ≤ vec_capacity l.pool;
    }
