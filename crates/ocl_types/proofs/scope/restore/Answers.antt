use Rattle.std.proofs.lemmas.Map.Text.{btree_map_updates_str}
use Rattle.ocl_types.proofs.scope.restore.Goals as goal

pub returns-in-Ok : goal.returns-in-Ok
returns-in-Ok c = rw c.in-Some.is (btree_map_updates_str c.args.name.now c.args.named.now c.insert.new.self _ c.in-Ok.ensures.updates)

pub returns-in-None : goal.returns-in-None
returns-in-None c = rw c.in-None.is (btree_map_updates_str c.args.name.now c.args.named.now c.remove.new.self _ c.remove.ensures.updates)
