use Rattle.std.proofs.Common.{ℕ, List}
use Rattle.ocl_pipeline.specs.TextReading.{TextReading, ReadsAs}
use Rattle.ocl_check.specs.Answers.{IsAnswered}
use Rattle.ocl_check.specs.Compile.{compile_answer, IsCodeWritten, IsOfUnit}
use Rattle.ocl_check.proofs.Compiling.{nothing_written}
use Rattle.ocl_check.proofs.Endings.{two_known, within, untouched, no_write, nothing_said, unflushed}
use Rattle.ocl_check.proofs.Inputs.{known_bytes, has_known}
use Rattle.ocl_check.proofs.Sources.{failing, had_all}
use Rattle.ocl_check.proofs.commands.compile.run_compile.Goals as goal

pub returns-in-Ok-clause-answered : goal.returns-in-Ok-clause-answered
returns-in-Ok-clause-answered g c =
    let model = c.in-Ok.model.items in
    let rules = c.in-Ok.rules.items in
    let o = c.compile_inputs.result in
    let IsWritten : List ℕ → List ℕ → Type 0 = λ xs ys. (t : TextReading) × ReadsAs ys t × IsOfUnit o xs t
    × IsCodeWritten g.O.Sink.contents g.O.Sink.has_failed (compile_answer xs t).code c.args.out.now c.compile_inputs.new.out o
    × IsAnswered (compile_answer xs t).said (g.S.Sink.contents c.args.sink.now) (g.S.Sink.contents c.compile_inputs.new.sink) o in
    let written = two_known IsWritten c.deref.result.now c.deref-in-Ok.result.now model rules c.deref.ensures.value c.deref-in-Ok.ensures.value c.compile_inputs.ensures.answered in (
      model,
      c.in-Ok.ensures.first.0,
      within o model c.in-Ok.ensures.first.1,
      (rules, c.in-Ok.ensures.second.0, within o rules c.in-Ok.ensures.second.1, written),
    )

pub returns-in-Err-clause-answered : goal.returns-in-Err-clause-answered
returns-in-Err-clause-answered g c =
    let model = known_bytes (g.M.Source.remaining c.args.model.now) in
    let rules = known_bytes (g.R.Source.remaining c.args.rules.now) in
    let t = c.each_text_is_read.ensures rules in (
      model,
      has_known (g.M.Source.remaining c.args.model.now),
      tt,
      (
        rules,
        has_known (g.R.Source.remaining c.args.rules.now),
        tt,
        (
          t.0,
          t.1,
          tt,
          nothing_written g.O.Sink.contents g.O.Sink.has_failed (compile_answer model t.0).code c.args.out.now c.from.result (no_write c.from.result c.in-Err.fault c.from.ensures),
          nothing_said _ c.from.result (g.S.Sink.contents c.args.sink.now),
        ),
      ),
    )

pub returns-in-Err-clause-kept : goal.returns-in-Err-clause-kept
returns-in-Err-clause-kept g c = untouched c.from.result c.args.sink.now

pub returns-in-Err-clause-flushed : goal.returns-in-Err-clause-flushed
returns-in-Err-clause-flushed g c = unflushed g.S.Sink.flushes g.S.Sink.has_pending c.from.result c.args.sink.now

pub returns-in-Ok-clause-read : goal.returns-in-Ok-clause-read
returns-in-Ok-clause-read g c = had_all _ _ c.compile_inputs.ensures.read c.in-Ok.ensures.read

pub returns-in-Err-clause-read : goal.returns-in-Err-clause-read
returns-in-Err-clause-read g c = failing _ c.in-Err.fault c.from.result c.from.ensures c.in-Err.ensures.read
