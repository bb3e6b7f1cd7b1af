-- What a run says of an object.
use Rattle.std.specs.Prelude.{List, [], ◌∷◌, Option, Some, None}
use Rattle.rule_values.specs.declared.verdict.Verdict.{Verdict}
use Rattle.rule_values.specs.Value.{Value}
use Rattle.rule_values.specs.Verdict.{verdict_of}
use Rattle.rule_machine.specs.Machine.{Piece, Configuration}

-- a configuration with nothing pending and one operand is final
abbrev pub final_verdict : List Piece → List Value → Option Verdict
final_verdict [] (o ∷ []) = Some (verdict_of o)
final_verdict ps os = None

-- the verdict of a final configuration
abbrev pub outcome : Configuration → Option Verdict
outcome c = final_verdict c.pending c.operands
