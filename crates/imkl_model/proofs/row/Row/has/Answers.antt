use Rattle.std.proofs.Common.{◌∙◌}
use Rattle.imkl_model.proofs.Marks.{in_words, row_has}
use Rattle.imkl_model.proofs.row.Row.has.Goals as goal

pub is_marked-requires : goal.is_marked-requires
is_marked-requires c = rw c.as_slice.ensures.value (in_words c.self.inside.words.items c.self.inside.count c.args.number c.args.self.now c.self.view_is c.self.invariant c.requires)

pub returns : goal.returns
returns c =
    c.is_marked.ensures ∙ rw c.as_slice.ensures.value (row_has c.self.inside.words.items c.self.inside.count c.args.number c.args.self.now c.self.view_is c.requires)
