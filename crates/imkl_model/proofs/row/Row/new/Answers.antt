use Rattle.std.proofs.Common.{◌≡◌, ◌+◌, ◌/◌, rules}
use Rattle.imkl_model.proofs.Marks.{length-marks, new_row, zeros}
use Rattle.imkl_model.proofs.row.Row.new.Goals as goal

pub returns : goal.returns
returns c =
    let k = c.args.count / 64 + 1 in
    let items : c.resize.new.self.items ≡ zeros k = search rules in
    (length-marks c.resize.new.self.items c.args.count, λ j. rw items (new_row k c.args.count j))
