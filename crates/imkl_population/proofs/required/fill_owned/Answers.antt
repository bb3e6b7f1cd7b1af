use Rattle.std.proofs.Common.{arith, inl, inr, length, ap}
use Rattle.imkl_population.proofs.required.fill_owned.Goals as goal

pub returns-else-is_empty-clause-filled : goal.returns-else-is_empty-clause-filled
returns-else-is_empty-clause-filled c =
    elim c.requires [
      | inl none ↦ absurd (grind (arith, none, ap length none, c.is_empty.ensures, c.if-is_empty.false))
      | inr owned ↦ owned
    ]
