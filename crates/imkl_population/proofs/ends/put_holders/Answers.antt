use Rattle.imkl_population.specs.Store.{map_of}
use Rattle.imkl_population.proofs.Stored.{on_ok}
use Rattle.imkl_population.proofs.Holdings.{put-written}
use Rattle.imkl_population.proofs.ends.put_holders.Goals as goal

pub returns-clause-put : goal.returns-clause-put
returns-clause-put c = on_ok c.set.result c.set.ensures.ok (λ put. put-written (map_of c.args.column.now) (map_of c.set.new.self) c.args.target c.args.holders.now.items put c.requires)
