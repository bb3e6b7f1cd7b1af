use Rattle.std.proofs.Common.{sym}
use Rattle.imkl_model.proofs.Marks.{row_length}
use Rattle.imkl_model.proofs.row.Row.len.Goals as goal

pub returns : goal.returns
returns c = sym (row_length c.self.inside.words.items c.self.inside.count c.args.self.now c.self.view_is)
