use Rattle.std.proofs.Common.{false, sym, ◌∙◌}
use Rattle.ocl_check.specs.declared.outcome.Outcome.TheVariants.{Failed}
use Rattle.ocl_check.specs.Desk.{desk_answer}
use Rattle.ocl_check.proofs.Endings.{ending_as, four_alike, within, kept_unread, kept_untouched, no_write, nothing_said, unflushed}
use Rattle.ocl_check.proofs.Inputs.{known_bytes, has_known}
use Rattle.ocl_check.proofs.Sources.{failing, had_all}
use Rattle.ocl_check.proofs.commands.desk.run_desk.Goals as goal

pub returns-in-Ok-clause-answered : goal.returns-in-Ok-clause-answered
returns-in-Ok-clause-answered g c =
    let i = c.in-Ok.inputs in
    let script = c.in-Ok.script.items in
    let read = c.in-Ok.ensures in
    let o = c.reply_inputs.result in
    let whole = ending_as (four_alike desk_answer _ _ _ _ i.model.items i.delivery.items i.rules.items script c.deref.ensures.value c.deref-in-Ok.ensures.value c.deref-in-Ok-2.ensures.value c.deref-in-Ok-3.ensures.value) c.reply_inputs.ensures in (
      i.model.items,
      read.model.0,
      within o i.model.items read.model.1,
      (
        i.delivery.items,
        read.delivery.0,
        within o i.delivery.items read.delivery.1,
        (
          i.rules.items,
          read.code.0,
          within o i.rules.items read.code.1,
          (script, read.script.0, within o script read.script.1, whole.answered),
        ),
      ),
    )

pub returns-in-Ok-clause-kept : goal.returns-in-Ok-clause-kept
returns-in-Ok-clause-kept g c = kept_unread false c.reply_inputs.result c.args.sink.now c.reply_inputs.new.sink c.reply_inputs.ensures.kept

pub returns-in-Err-clause-answered : goal.returns-in-Err-clause-answered
returns-in-Err-clause-answered g c =
    let model = g.M.Source.remaining c.args.model.now in
    let delivery = g.D.Source.remaining c.args.delivery.now in
    let code = g.C.Source.remaining c.args.code.now in
    let script = g.P.Source.remaining c.args.script.now in (
      known_bytes model,
      has_known model,
      tt,
      (
        known_bytes delivery,
        has_known delivery,
        tt,
        (known_bytes code, has_known code, tt, (known_bytes script, has_known script, tt, nothing_said _ c.from.result (g.S.Sink.contents c.args.sink.now))),
      ),
    )

pub returns-in-Err-clause-sink : goal.returns-in-Err-clause-sink
returns-in-Err-clause-sink g c = c.requires.sink ∙ sym (no_write c.from.result c.in-Err.fault c.from.ensures)

pub returns-in-Err-clause-kept : goal.returns-in-Err-clause-kept
returns-in-Err-clause-kept g c = kept_unread false (Failed c.from.result) c.args.sink.now c.args.sink.now (kept_untouched false c.from.result c.args.sink.now)

pub returns-in-Err-clause-flushed : goal.returns-in-Err-clause-flushed
returns-in-Err-clause-flushed g c = unflushed g.S.Sink.flushes g.S.Sink.has_pending c.from.result c.args.sink.now

pub returns-in-Ok-clause-read : goal.returns-in-Ok-clause-read
returns-in-Ok-clause-read g c = had_all _ _ c.reply_inputs.ensures.read c.in-Ok.ensures.read

pub returns-in-Err-clause-read : goal.returns-in-Err-clause-read
returns-in-Err-clause-read g c = failing _ c.in-Err.fault c.from.result c.from.ensures c.in-Err.ensures.read
