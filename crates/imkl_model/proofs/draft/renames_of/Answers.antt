use Rattle.std.proofs.Common.{◌∙◌, ap, bytes_eq}
use Rattle.ocl_base.specs.Lists.{repeats}
use Rattle.imkl_model.proofs.Parts.{old_names_kept, old_names_differ}
use Rattle.imkl_model.proofs.draft.renames_of.Goals as goal

pub new-requires : goal.new-requires
new-requires c =
    let kept = old_names_kept c.args.scope.now c.args.written.now.class_renames c.in_ok-old_classes.old_classes.items (rw c.as_slice.ensures at c.in_ok-old_classes.ensures) in
    ap (repeats bytes_eq) kept ∙ old_names_differ c.args.written.now c.requires
