use Rattle.rule_verify.specs.Walk.{surroundings_of}
use Rattle.rule_verify.proofs.KnownKinds.{wanted_known}
use Rattle.rule_verify.proofs.taking.take.Goals as goal

pub take_operands-requires-clause-wanted : goal.take_operands-requires-clause-wanted
take_operands-requires-clause-wanted c = wanted_known (surroundings_of c.args.rule.now) c.args.instr _ _ c.model.ensures c.operands_of.ensures
