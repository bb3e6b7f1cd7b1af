use Rattle.std.proofs.Common.{length}
use Rattle.imkl_model.proofs.Rows.{row_within}
use Rattle.imkl_model.proofs.ancestors.direct_rows.Goals as goal

pub direct_row-requires : goal.direct_row-requires
direct_row-requires c =
    let cs = c.args.classes.now in
    let within = row_within (length cs) (λ k. k.supers) cs c.loop-class.class-index c.class-item.result c.loop-class-test.true c.class-item.is c.requires in
    rw c.as_slice.ensures within
