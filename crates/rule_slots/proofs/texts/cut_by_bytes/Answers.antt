use Rattle.std.proofs.Common.{◌≡◌, ◌+◌, ◌-◌, length, take, sym, subst, arith}
use Rattle.std.specs.Prelude.{slice_range, encode_utf8_all}
use Rattle.rule_slots.specs.Slots.{TextIs}
use Rattle.rule_slots.proofs.SingleBytes.{single-take, single-between}
use Rattle.rule_slots.proofs.Stood.{part_of_text}
use Rattle.rule_slots.proofs.texts.cut_by_bytes.Goals as goal

pub returns-clause-text : goal.returns-clause-text
returns-clause-text c = λ l t is single le room.
    let v = c.args.v in
    let from = c.args.from in
    let to = c.args.to in
    let before = single-take t from single (omega (arith, c.requires, le)) in
    let between = single-between t from to single c.requires le in
    let start : c.saturating_add.result ≡ v.start + length (encode_utf8_all (take from t)) = omega (arith, c.saturating_add.ensures, before, c.requires, le, room) in
    let part = part_of_text l v t from to c.saturating_add.result (to - from) c.requires is start (sym between) in
    subst (λ z. TextIs l z (slice_range t from to)) (sym c.text_slot.ensures)
    (record { front = part.front; rest = part.rest; there = part.there; start = part.start; count = part.count })
