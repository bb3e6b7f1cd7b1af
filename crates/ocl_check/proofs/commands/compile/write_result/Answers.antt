use Rattle.std.proofs.Common.{true, subst}
use Rattle.ocl_check.specs.Compile.{CompileAnswer}
use Rattle.ocl_check.specs.Answers.{IsAnswered}
use Rattle.ocl_check.proofs.Endings.{kept_whole}
use Rattle.ocl_check.proofs.commands.compile.write_result.Goals as goal

pub returns-in-Ok-Refused-clause-said : goal.returns-in-Ok-Refused-clause-said
returns-in-Ok-Refused-clause-said g c = λ a h.
    let seen = rw (c.in-Ok-Refused.is, c.in-Ok-Refused.field-0-is) at h in
    subst (λ (x : CompileAnswer). IsAnswered x.said (g.S.Sink.contents c.args.sink.now) (g.S.Sink.contents c.say.new.sink) c.say.result) seen (c.say.ensures true).answered

pub returns-in-Ok-Refused-clause-sinks : goal.returns-in-Ok-Refused-clause-sinks
returns-in-Ok-Refused-clause-sinks g c = rw c.requires.out_well (c.say.ensures true).sink

pub returns-in-Ok-Refused-clause-kept : goal.returns-in-Ok-Refused-clause-kept
returns-in-Ok-Refused-clause-kept g c = kept_whole c.say.result c.args.sink.now c.say.new.sink (c.say.ensures true).kept

pub returns-in-Ok-Refused-clause-flushed : goal.returns-in-Ok-Refused-clause-flushed
returns-in-Ok-Refused-clause-flushed g c = (c.say.ensures true).flushed

pub returns-in-Ok-Refused-clause-read : goal.returns-in-Ok-Refused-clause-read
returns-in-Ok-Refused-clause-read g c = (c.say.ensures true).read
