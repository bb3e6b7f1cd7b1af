use Rattle.std.proofs.Common.{◌≡◌, ◌+◌, ◌*◌, ap, ℕ, set}
use Rattle.std.specs.BTreeMap.{get_by_text}
use Rattle.imkl_population.specs.IdIndex.{TakesSlot, mark_of}
use Rattle.imkl_population.proofs.IdIndex.{filled-taken, guarded-taken}
use Rattle.imkl_population.proofs.id_index.IdIndex.take_slot.Goals as goal

pub invariant_of-self : goal.invariant_of-self
invariant_of-self c =
    let s = c.args.self.now in
    let id = c.args.id.text.now in
    let n = c.args.number in
    let new = set s.slots.items c.in-Some.slot (c.mark.result * 1048576 + n + 1) in
    let takes : TakesSlot s.slots.items id n new = record {
      slot = c.in-Some.slot;
      place = c.in-Some.ensures.found;
      room = c.requires;
      put = ap (λ (m : ℕ). set s.slots.items c.in-Some.slot (m * 1048576 + n + 1)) c.mark.ensures.mark;
    } in
    record {
      filled = filled-taken s.slots.items new id n takes s.filled;
      guarded = guarded-taken s.slots.items new id n takes (get_by_text s.others) s.guarded;
    }
