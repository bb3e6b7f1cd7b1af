use Rattle.std.proofs.Common.{◌≡◌, ◌-◌, length}
use Rattle.std.specs.BTreeMap.{get_by_text}
use Rattle.imkl_population.specs.IdIndex.{number_found, told_from}
use Rattle.imkl_population.proofs.id_index.IdIndex.find.Given as goal

-- the slots that are left say what all of them say
abbrev pub invariant-loop-slot : goal.invariant-loop-slot
invariant-loop-slot l =
    number_found l.self.slots.items (get_by_text l.self.others) l.heads l.id.text.now ≡ told_from (l.end - l.slot) l.slot l.self.slots.items (get_by_text l.self.others) l.heads l.id.text.now
