use Rattle.rule_report.proofs.Writes.{prefix_kept}
use Rattle.rule_report.proofs.put.write_and_flush.Goals as goal

pub returns-in-Err-clause-err : goal.returns-in-Err-clause-err
returns-in-Err-clause-err g c =
    prefix_kept (g.S.Sink.contents c.args.sink.now) (g.S.Sink.contents c.write_whole.new.sink) (g.S.Sink.contents c.flush.new.self) c.args.bytes.now c.in_ok-write_whole.ensures.ok c.flush.ensures.bytes
