use Rattle.std.proofs.Common.{subst}
use Rattle.imkl_population.specs.Store.{AreRangesWithin}
use Rattle.imkl_population.proofs.Stored.{ranges-within}
use Rattle.imkl_population.proofs.column.Column.within.Goals as goal

pub returns : goal.returns
returns c =
    let i = c.self.inside in
    subst AreRangesWithin c.self.view_is (ranges-within i.scalars.items i.entries.items c.self.invariant.within)
