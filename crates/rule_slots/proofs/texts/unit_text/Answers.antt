use Rattle.rule_slots.specs.Slots.{lists_in}
use Rattle.rule_slots.proofs.Stood.{unit_text_is}
use Rattle.rule_slots.proofs.texts.unit_text.Goals as goal

pub returns : goal.returns
returns c = λ pool hi.
    unit_text_is (lists_in c.args.lists) pool hi c.text_slot.result c.from.result c.args.number.0 c.text-text.result.now c.text_slot.ensures c.from.ensures c.text-text.ensures c.text-text.utf8 c.requires
