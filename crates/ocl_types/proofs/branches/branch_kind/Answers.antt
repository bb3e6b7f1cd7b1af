use Rattle.ocl_types.proofs.KnownKinds.{wider_known}
use Rattle.ocl_types.proofs.branches.branch_kind.Goals as goal

pub returns-else-is_empty_for-2-clause-known : goal.returns-else-is_empty_for-2-clause-known
returns-else-is_empty_for-2-clause-known c = rw c.wider_kind.ensures (wider_known c.args.model.now c.args.one.now c.args.other.now c.requires.one c.requires.other)
