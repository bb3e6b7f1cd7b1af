use Rattle.std.proofs.Common.{ap, arith, length, List}
use Rattle.rule_code.specs.declared.instruction.Instr.{Instr}
use Rattle.rule_code.specs.declared.instruction.Instr.TheVariants as instrs
use Rattle.rule_machine.proofs.InstrSteps.{instr_here}
use Rattle.rule_machine.proofs.state.State.instruct.Goals as goal

pub carry_out-requires-clause-fits : goal.carry_out-requires-clause-fits
carry_out-requires-clause-fits c =
    c.code.ensures.fits c.args.self.now.at instrs.SelfObject (omega (arith, c.requires.before_end, c.requires.place.within, ap (λ (l : List Instr). length l) c.code.ensures.code))

pub carry_out-requires-clause-here : goal.carry_out-requires-clause-here
carry_out-requires-clause-here c =
    let m = c.args.self.now in
    let r = c.requires in
    instr_here c.args.task m.at m.end c.code.result.now r.before_end r.place.within c.code.ensures.code

pub open-requires-clause-here : goal.open-requires-clause-here
open-requires-clause-here c =
    let m = c.args.self.now in
    let r = c.requires in
    instr_here c.args.task m.at m.end c.code.result.now r.before_end r.place.within c.code.ensures.code
