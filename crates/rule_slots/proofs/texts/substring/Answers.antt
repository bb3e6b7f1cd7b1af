use Rattle.std.proofs.Common.{length, sym, ◌∙◌}
use Rattle.rule_slots.specs.Slots.{lists_in}
use Rattle.rule_slots.proofs.Characters.{substring_is}
use Rattle.rule_slots.proofs.texts.substring.Goals as goal

pub returns-then-is_plain-3 : goal.returns-then-is_plain-3
returns-then-is_plain-3 c = λ pool t x y h g k i j q.
    substring_is (lists_in c.args.lists) pool (length pool) c.args.v c.args.lower c.args.upper c.characters.result (sym c.is_plain.ensures ∙ c.if-is_plain.true) (sym c.is_plain-then-is_plain.ensures ∙ c.if-is_plain-2.true) (sym c.is_plain-then-is_plain-2.ensures ∙ c.if-is_plain-3.true)
    (c.characters.ensures pool) t x y h g k i j q
