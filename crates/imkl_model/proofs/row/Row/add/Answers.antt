use Rattle.std.proofs.Common.{ℕ, ◌∙◌, ◌<◌, eqb, sym, subst}
use Rattle.imkl_model.proofs.Marks.{in_words, length-marks, row_length, row_joined, apart_past}
use Rattle.imkl_model.proofs.row.Row.add.Goals as goal

pub mark-requires : goal.mark-requires
mark-requires c = (in_words c.self.inside.words.items c.self.inside.count c.args.number c.args.self.now c.self.view_is c.self.invariant c.requires)

pub returns-clause-same : goal.returns-clause-same
returns-clause-same c = length-marks c.mark.new.words.items c.self.inside.count ∙ sym (row_length c.self.inside.words.items c.self.inside.count c.args.self.now c.self.view_is)

pub returns-clause-marks : goal.returns-clause-marks
returns-clause-marks c =
    let ws = c.self.inside.words.items in
    let n = c.self.inside.count in
    let within : c.args.number < n = subst (λ (k : ℕ). c.args.number < k) (row_length ws n c.args.self.now c.self.view_is) c.requires in
    row_joined ws c.mark.new.words.items n (eqb c.args.number) c.args.self.now c.self.view_is (λ j lt. c.mark.ensures.marks j) (λ j le. apart_past c.args.number n j within le)
