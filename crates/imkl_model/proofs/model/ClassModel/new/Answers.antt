use Rattle.std.proofs.Common.{sym, ◌∙◌}
use Rattle.imkl_model.specs.Drafts.{model_of_draft}
use Rattle.imkl_model.proofs.Sound.{made_of, owned, renamed_owned, well_formed}
use Rattle.imkl_model.proofs.model.ClassModel.new.Goals as goal

pub names_clash-requires-clause-features : goal.names_clash-requires-clause-features
names_clash-requires-clause-features c =
    let m = model_of_draft c.args.draft in
    owned c.requires.written m c.requires.limits c.requires.distinct (made_of c.requires.written m c.requires.numbered)

pub names_clash-requires-clause-renames : goal.names_clash-requires-clause-renames
names_clash-requires-clause-renames c =
    let m = model_of_draft c.args.draft in
    renamed_owned c.requires.written m c.requires.limits c.requires.distinct (made_of c.requires.written m c.requires.numbered)

pub invariant_of-result : goal.invariant_of-result
invariant_of-result c =
    let m = model_of_draft c.args.draft in
    let bounds = rw c.entries.ensures at c.have_multiplicities.ensures in
    well_formed m c.requires (sym c.is_cyclic.ensures ∙ c.if-is_cyclic.false) (sym c.in_ok-names_clash.ensures ∙ c.if-branch.false) (sym bounds ∙ c.if-not-have_multiplicities.false)
