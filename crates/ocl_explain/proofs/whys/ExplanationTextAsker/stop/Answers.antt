use Rattle.std.proofs.Common.{false}
use Rattle.ocl_check.specs.Given.{given_answer}
use Rattle.ocl_check.proofs.ForAbove.{due}
use Rattle.ocl_explain.specs.Explained.{why_of}
use Rattle.ocl_explain.proofs.whys.ExplanationTextAsker.stop.Goals as goal

pub returns : goal.returns
returns g c = λ given fails.
    let asked = c.args.self.now.asked in
    let h = c.each_text_is_read.ensures asked.rules.bytes.now in
    let f = why_of h.0 asked.rule.now asked.id.now asked.lines in
    (h.0, h.1, c.stop.ensures false (given_answer f given) (due c.args.why given f fails))
