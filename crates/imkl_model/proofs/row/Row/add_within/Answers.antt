use Rattle.std.proofs.Common.{eqb, arith}
use Rattle.std.proofs.lemmas.Bool.{ne_eqb}
use Rattle.imkl_model.specs.Tables.{has_mark}
use Rattle.imkl_model.proofs.Marks.{row_length, or_untouched}
use Rattle.imkl_model.proofs.row.Row.add_within.Goals as goal

pub add-requires : goal.add-requires
add-requires c = omega (arith, c.if-number-self.true, row_length c.self.inside.words.items c.self.inside.count c.args.self.now c.self.view_is)

pub returns-else-number-self-clause-marks : goal.returns-else-number-self-clause-marks
returns-else-number-self-clause-marks c = λ j lt.
    let long = row_length c.self.inside.words.items c.self.inside.count c.args.self.now c.self.view_is in
    or_untouched (has_mark c.args.self.now j) (eqb c.args.number j) (ne_eqb c.args.number j (λ e. absurd (omega (arith, e, lt, long, c.if-number-self.false))))
