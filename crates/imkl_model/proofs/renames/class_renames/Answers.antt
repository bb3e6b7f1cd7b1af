use Rattle.imkl_model.proofs.Entries.{classes_spelled}
use Rattle.imkl_model.proofs.renames.class_renames.Goals as goal

pub returns-clause-fits : goal.returns-clause-fits
returns-clause-fits c = classes_spelled c.loop-rename.found.items c.args.renames.now c.loop-rename.rename-index c.loop-rename.invariant c.loop-rename-test.false c.requires
