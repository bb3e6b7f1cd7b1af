use Rattle.ocl_compile.proofs.laws.verdicts_are_meant.Goals as goal
use Rattle.ocl_compile.proofs.CompiledRuns.{verdicts_are_meant}

-- src/laws.rt
pub returns : goal.returns
returns c = verdicts_are_meant
