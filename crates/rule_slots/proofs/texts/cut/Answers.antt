use Rattle.std.proofs.Common.{sym, subst}
use Rattle.std.specs.Prelude.{slice_range}
use Rattle.std.specs.Str.{chars}
use Rattle.rule_slots.specs.Slots.{TextIs}
use Rattle.rule_slots.proofs.Characters.{cut_is}
use Rattle.rule_slots.proofs.texts.cut.Goals as goal

pub returns-clause-text : goal.returns-clause-text
returns-clause-text c = λ l h.
    let t = cut_is l c.args.v c.args.text.now c.after-left.result.now c.first-part.result.now c.args.from c.args.to c.requires.order c.utf8.text c.after-left.utf8 c.first-part.utf8 c.after-left.ensures.left c.first-part.ensures h in
    subst (λ z. TextIs l z (slice_range (chars c.args.text.now) c.args.from c.args.to)) (sym c.text_slot.ensures)
    (record { front = t.front; rest = t.rest; there = t.there; start = t.start; count = t.count })
