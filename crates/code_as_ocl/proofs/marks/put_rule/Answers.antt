use Rattle.std.proofs.Common.{inl, inr, refl}
use Rattle.std.proofs.lemmas.Result.{on_ok_weaker}
use Rattle.code_as_ocl.specs.ShownRules.{rule_marked}
use Rattle.code_as_ocl.proofs.marks.put_rule.Goals as goal

pub returns : goal.returns
returns c =
    let why = c.deref-in-Some.result.now in
    on_ok_weaker c.put_marked.result (λ put. (rule_marked c.args.accepted.now.model c.args.accepted.now.unit why c.args.rule, inr (inl (why, refl)), put)) c.put_marked.ensures
