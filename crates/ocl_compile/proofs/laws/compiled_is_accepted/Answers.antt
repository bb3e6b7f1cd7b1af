use Rattle.ocl_compile.proofs.laws.compiled_is_accepted.Goals as goal
use Rattle.ocl_compile.proofs.CompiledRuns.{compiled_is_accepted}

-- src/laws.rt
pub returns : goal.returns
returns c = compiled_is_accepted
