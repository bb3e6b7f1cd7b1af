-- What private contracts say of compiling.
use Rattle.std.specs.Prelude.{◌≡◌, Bool, true, false, Some}
use Rattle.ocl_pipeline.specs.declared.stopped.Stopped.{Stopped}
use Rattle.ocl_pipeline.specs.declared.stopped.Stopped.TheVariants.{Refused, OutOfMemory}
use Rattle.ocl_check.specs.declared.outcome.Outcome.{Outcome}
use Rattle.ocl_check.specs.declared.outcome.Outcome.TheVariants.{Status, Failed}
use Rattle.ocl_check.specs.declared.commands.compile.Compiled.{Compiled}
use Rattle.ocl_check.specs.declared.commands.compile.Compiled.TheVariants as compiled
use Rattle.ocl_check.specs.Reply.{said, refused}
use Rattle.ocl_check.specs.Compile.{CompileAnswer, nothing_compiled}

-- what compiling came to
abbrev pub compiled_seen : Compiled → CompileAnswer
compiled_seen (compiled.Code code reply) = record { code = Some code.items; said = said reply }
compiled_seen (compiled.Refused reply) = nothing_compiled (said reply)

-- nothing is compiled of a refused input; running out of memory is not a refusal
abbrev pub IsNothingFor : Stopped → CompileAnswer → Type 0
IsNothingFor (Refused r) answer = answer ≡ nothing_compiled (refused r)
IsNothingFor OutOfMemory answer = ⊥

-- a command ended with a status
abbrev pub is_ended : Outcome → Bool
is_ended (Status s) = true
is_ended (Failed cause) = false
