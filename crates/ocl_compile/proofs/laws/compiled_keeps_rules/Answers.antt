use Rattle.ocl_compile.proofs.laws.compiled_keeps_rules.Goals as goal
use Rattle.ocl_compile.proofs.CompiledRuns.{compiled_keeps_rules}

-- src/laws.rt
pub returns : goal.returns
returns c = compiled_keeps_rules
