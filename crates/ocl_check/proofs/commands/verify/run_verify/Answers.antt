use Rattle.std.proofs.Common.{sym, ◌∙◌}
use Rattle.ocl_check.specs.Verify.{verify_answer}
use Rattle.ocl_check.proofs.Endings.{ending_as, two_alike, within, kept_whole, untouched, no_write, nothing_said, unflushed}
use Rattle.ocl_check.proofs.Inputs.{known_bytes, has_known}
use Rattle.ocl_check.proofs.Sources.{failing, had_all}
use Rattle.ocl_check.proofs.commands.verify.run_verify.Goals as goal

pub returns-in-Ok-clause-answered : goal.returns-in-Ok-clause-answered
returns-in-Ok-clause-answered g c =
    let model = c.in-Ok.model.items in
    let code = c.in-Ok.code.items in
    let o = c.verify_inputs.result in
    let ending = ending_as (two_alike verify_answer _ _ model code c.deref.ensures.value c.deref-in-Ok.ensures.value) c.verify_inputs.ensures in (
      model,
      c.in-Ok.ensures.first.0,
      within o model c.in-Ok.ensures.first.1,
      (code, c.in-Ok.ensures.second.0, within o code c.in-Ok.ensures.second.1, ending.answered),
    )

pub returns-in-Ok-clause-kept : goal.returns-in-Ok-clause-kept
returns-in-Ok-clause-kept g c = kept_whole c.verify_inputs.result c.args.sink.now c.verify_inputs.new.sink c.verify_inputs.ensures.kept

pub returns-in-Err-clause-answered : goal.returns-in-Err-clause-answered
returns-in-Err-clause-answered g c =
    let model = g.M.Source.remaining c.args.model.now in
    let code = g.C.Source.remaining c.args.code.now in (
      known_bytes model,
      has_known model,
      tt,
      (known_bytes code, has_known code, tt, nothing_said _ c.from.result (g.S.Sink.contents c.args.sink.now)),
    )

pub returns-in-Err-clause-sink : goal.returns-in-Err-clause-sink
returns-in-Err-clause-sink g c = c.requires.sink ∙ sym (no_write c.from.result c.in-Err.fault c.from.ensures)

pub returns-in-Err-clause-kept : goal.returns-in-Err-clause-kept
returns-in-Err-clause-kept g c = untouched c.from.result c.args.sink.now

pub returns-in-Err-clause-flushed : goal.returns-in-Err-clause-flushed
returns-in-Err-clause-flushed g c = unflushed g.S.Sink.flushes g.S.Sink.has_pending c.from.result c.args.sink.now

pub returns-in-Ok-clause-read : goal.returns-in-Ok-clause-read
returns-in-Ok-clause-read g c = had_all _ _ c.verify_inputs.ensures.read c.in-Ok.ensures.read

pub returns-in-Err-clause-read : goal.returns-in-Err-clause-read
returns-in-Err-clause-read g c = failing _ c.in-Err.fault c.from.result c.from.ensures c.in-Err.ensures.read
