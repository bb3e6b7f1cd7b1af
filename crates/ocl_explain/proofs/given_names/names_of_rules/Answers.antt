use Rattle.std.proofs.Common.{◌≤◌, length, min, arith}
use Rattle.ocl_explain.proofs.RulesNamed.{all_named}
use Rattle.ocl_explain.proofs.given_names.names_of_rules.Goals as goal

pub returns : goal.returns
returns c =
    let enough : min (length c.args.written.now) (length c.args.rules.now) ≤ c.rules.index = omega (arith, c.rules-test.false, c.min-count.ensures) in
    all_named c.args.written.now c.args.rules.now c.rules.index _ _ enough c.rules.invariant
