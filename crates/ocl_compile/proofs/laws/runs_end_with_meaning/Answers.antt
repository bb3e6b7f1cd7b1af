use Rattle.ocl_compile.proofs.laws.runs_end_with_meaning.Goals as goal
use Rattle.ocl_compile.proofs.CompiledRuns.{runs_end_with_meaning}

-- src/laws.rt
pub returns : goal.returns
returns c = runs_end_with_meaning
