use Rattle.std.proofs.Common.{◌∙◌, map, sym, string_bytes}
use Rattle.imkl_model.proofs.Ranks.{number_of_rank, number_of_none}
use Rattle.imkl_model.proofs.names.Names.number_of.Goals as goal

pub returns-in-Some : goal.returns-in-Some
returns-in-Some c =
    let sorted = map string_bytes c.self.inside.sorted.items in
    rw (← c.self.view_is) (c.get_index_of.ensures.index ∙ sym (number_of_rank sorted c.args.name.now c.in-Some.rank c.self.inside.ranks.keys (sym (rw c.as_slice.ensures.value at c.in-Some.ensures)) c.self.invariant.ranks))

pub returns-in-None : goal.returns-in-None
returns-in-None c =
    let sorted = map string_bytes c.self.inside.sorted.items in
    rw (← c.self.view_is) (sym (number_of_none sorted c.args.name.now c.self.inside.ranks.keys (sym (rw c.as_slice.ensures.value at c.in-None.ensures)) c.self.invariant.ranks))
