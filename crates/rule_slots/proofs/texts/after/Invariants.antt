use Rattle.std.proofs.Common.{◌≡◌, drop}
use Rattle.std.specs.Str.{chars}
use Rattle.rule_slots.specs.Cut.{IsRestOf}
use Rattle.rule_slots.proofs.texts.after.Given as goal

-- so many characters are passed
abbrev pub invariant-loop : goal.invariant-loop
invariant-loop l = IsRestOf l.left.rest.now l.text × (chars l.left.rest.now ≡ drop l.counter (chars l.text))
