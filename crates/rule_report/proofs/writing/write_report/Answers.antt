use Rattle.std.proofs.Common.{◌∙◌, sym}
use Rattle.ocl_base.proofs.ForAbove.{anyway_on_err}
use Rattle.rule_machine.specs.Laws.{verdict_at}
use Rattle.rule_report.specs.Cursor.{told_pairs}
use Rattle.rule_report.proofs.Written.{appends_none, nearer, told_more, written_pair, written_prefix, written_stops, written_waiting, written_all, all_told}
use Rattle.rule_report.proofs.writing.write_report.Goals as goal

-- src/writing.rt:97:9
pub returns-in_err-report_pair-clause-prefix : goal.returns-in_err-report_pair-clause-prefix
returns-in_err-report_pair-clause-prefix g c =
    let u = c.args.admitted.now.resolved.unit in
    let p = c.args.population.now.content in
    let now = g.S.Sink.contents c.loop-pair.sink in
    anyway_on_err _ _ (written_stops u p (verdict_at u p) (told_pairs c.loop-pair.cursor) _ now _ (appends_none now) c.loop-pair.invariant.written)

-- src/writing.rt:96:5
pub loop-pair-smaller : goal.loop-pair-smaller
loop-pair-smaller g c =
    let more = c.in_ok-report_pair.ensures.reported in
    nearer c.loop-pair.cursor c.report_pair.new.cursor c.in-Some.pair (sym c.in-Some.ensures.due) more.unit more.population more.more

-- src/writing.rt:96:5
pub loop-pair-preserved : goal.loop-pair-preserved
loop-pair-preserved g c =
    let u = c.args.admitted.now.resolved.unit in
    let p = c.args.population.now.content in
    let i = c.loop-pair.invariant in
    let more = c.in_ok-report_pair.ensures.reported in
    let told = told_more u p c.loop-pair.cursor c.report_pair.new.cursor _ _ i.unit i.population more i.told in
    record {
      unit = more.unit ∙ i.unit;
      population = more.population ∙ i.population;
      machine_unit = c.report_pair.ensures.task.unit ∙ i.machine_unit;
      machine_population = c.report_pair.ensures.task.population ∙ i.machine_population;
      told = told.0;
      written = written_pair u p c.loop-pair.cursor c.report_pair.new.cursor c.in-Some.pair _ _ _ _ _ _ i.unit i.population (sym c.in-Some.ensures.due) more.more i.written told.1 c.in_ok-write_piece.ensures.ok;
      well = c.in_ok-write_piece.ensures.failed;
      flushes = c.write_piece.ensures.flushes ∙ i.flushes;
    }

-- src/writing.rt:98:9
pub returns-in_err-write_piece-clause-prefix : goal.returns-in_err-write_piece-clause-prefix
returns-in_err-write_piece-clause-prefix g c =
    let u = c.args.admitted.now.resolved.unit in
    let p = c.args.population.now.content in
    let i = c.loop-pair.invariant in
    anyway_on_err _ _ (written_waiting u p c.loop-pair.cursor c.report_pair.new.cursor c.in-Some.pair _ _ _ _ _ i.unit i.population (sym c.in-Some.ensures.due) c.in_ok-report_pair.ensures.reported i.told i.written c.in_err-write_piece.ensures.err)

-- src/writing.rt:100:5
pub returns-in_err-write_and_flush-clause-prefix : goal.returns-in_err-write_and_flush-clause-prefix
returns-in_err-write_and_flush-clause-prefix g c =
    let u = c.args.admitted.now.resolved.unit in
    let p = c.args.population.now.content in
    let i = c.loop-pair.invariant in
    let waiting = c.deref.ensures.value in
    anyway_on_err _ _ (written_prefix u p (verdict_at u p) (told_pairs c.loop-pair.cursor) _ _ _ _ i.written (rw (sym waiting) c.in_err-write_and_flush.ensures.err))

-- src/writing.rt:73:1
pub returns-clause-report : goal.returns-clause-report
returns-clause-report g c =
    let u = c.args.admitted.now.resolved.unit in
    let p = c.args.population.now.content in
    let i = c.loop-pair.invariant in
    let all = all_told u p (verdict_at u p) c.loop-pair.cursor c.next.result i.unit i.population c.next.ensures.due c.in_default.not-Some in
    rw (sym all) (written_all _ _ _ _ _ i.written (rw (sym c.deref.ensures.value) c.in_ok-write_and_flush.ensures.ok))
