use Rattle.std.proofs.Common.{ap, ◌∙◌}
use Rattle.ocl_check.specs.CodeRules.{code_answer}
use Rattle.ocl_check.specs.Judge.{budget_answer}
use Rattle.ocl_check.proofs.TextReports.{text_report}
use Rattle.ocl_check.proofs.laws.compiled_file_is_judged_as_its_text.Goals as goal

pub returns : goal.returns
returns c = λ budget p t compiled code file.
    ap (code_answer (budget_answer budget) p) ((c.reading_undoes_spelling.ensures code compiled.unit file.bytes).1 (file.unit, file.spelled))
    ∙ text_report budget p t compiled file.model file.population file.compiled file.unit
