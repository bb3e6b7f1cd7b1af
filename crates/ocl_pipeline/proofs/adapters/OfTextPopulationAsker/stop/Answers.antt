use Rattle.ocl_pipeline.specs.Asked.{text_with, with_text}
use Rattle.ocl_pipeline.proofs.Stopping.{stops_then}
use Rattle.ocl_pipeline.proofs.adapters.OfTextPopulationAsker.stop.Goals as goal

pub returns : goal.returns
returns g c = λ given fails.
    let t = c.each_text_is_read.ensures c.args.self.now.text.now in
    (t.0, t.1, c.stop.ensures (text_with t.0 given) (stops_then c.args.why given (with_text t.0) fails))
