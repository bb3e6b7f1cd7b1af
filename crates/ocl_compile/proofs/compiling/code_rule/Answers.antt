use Rattle.std.proofs.Common.{arith}
use Rattle.rule_verify.specs.CodeTree as code
use Rattle.ocl_core.specs.CoreView.{core_view}
use Rattle.ocl_compile.proofs.Measured.{count_is}
use Rattle.ocl_compile.proofs.TypedCode.{typed_known, variables_below}
use Rattle.ocl_compile.proofs.compiling.code_rule.Goals as goal

-- src/compiling.rt
pub emit-requires-clause-known : goal.emit-requires-clause-known
emit-requires-clause-known c =
    let typed = c.requires.0 in
    typed_known c.args.model.now (core_view c.args.rule.now.tree) _ typed.1.0 typed.1.1

pub emit-requires-clause-variables : goal.emit-requires-clause-variables
emit-requires-clause-variables c =
    let typed = c.requires.0 in
    let t = core_view c.args.rule.now.tree in
    variables_below c.args.model.now t _ typed.1.0 typed.1.1 (omega (arith, count_is c.args.model.now c.args.numbers.now t code.End, c.requires.1))
