use Rattle.std.proofs.Common.{◌≡◌, drop}
use Rattle.std.specs.Str.{chars}
use Rattle.owned_values.specs.Walks.{IsSuffix}
use Rattle.owned_values.proofs.texts.after.Given as goal

-- so many characters are passed
abbrev pub invariant-loop : goal.invariant-loop
invariant-loop l = IsSuffix l.left.rest.now l.text × (chars l.left.rest.now ≡ drop l.counter (chars l.text))
