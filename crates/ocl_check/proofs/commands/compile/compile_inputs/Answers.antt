use Rattle.ocl_check.specs.Compile.{compile_answer}
use Rattle.ocl_check.proofs.Compiling.{of_unit}
use Rattle.ocl_check.proofs.commands.compile.compile_inputs.Goals as goal

pub returns-clause-answered : goal.returns-clause-answered
returns-clause-answered g c =
    let o = c.write_result.result in
    let h = c.compile_both.ensures in
    let written = c.write_result.ensures in
    let a = compile_answer c.args.model.now h.0 in
    (h.0, h.1, of_unit o c.compile_both.result c.args.model.now h.0 written.ended h.3, written.code a h.2, written.said a h.2)
