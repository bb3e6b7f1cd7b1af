use Rattle.std.proofs.lemmas.List.Elements.{All-set}
use Rattle.imkl_population.specs.Store.{AreRangesWithin}
use Rattle.imkl_population.proofs.store.Store.rank_column.Goals as goal

pub invariant_of-self : goal.invariant_of-self
invariant_of-self c = All-set AreRangesWithin c.self.inside.columns.items c.args.feature c.rank-result.new.self c.within.ensures c.self.invariant
