use Rattle.std.proofs.lemmas.Map.Text.{btree_map_updates_str}
use Rattle.ocl_types.proofs.scope.set_number.Goals as goal

pub returns-clause-set : goal.returns-clause-set
returns-clause-set c = btree_map_updates_str c.args.name.now c.args.named.now c.insert.new.self _ c.in_ok-insert.ensures.updates
