use Rattle.std.proofs.Common.{◌≡◌, ◌/◌, get_or, arith}
use Rattle.std.proofs.lemmas.Grind.{get_or_default_zero}
use Rattle.imkl_model.proofs.Marks.{is_marked-set}
use Rattle.imkl_model.proofs.row.mark.Goals as goal

pub returns-clause-marks : goal.returns-clause-marks
returns-clause-marks c = λ j.
    let word : c.index_mut.result.now ≡ get_or c.args.words.now.items (c.args.number / 64) 0 = grind (arith, get_or_default_zero) in
    rw word (is_marked-set c.args.words.now.items c.args.number j (omega arith) c.requires)
