use Rattle.std.proofs.Common.{Ok, Err, map, ap}
use Rattle.std.proofs.lemmas.Result.{IfOk-weaker}
use Rattle.ocl_text.specs.View.{rule_of}
use Rattle.ocl_pipeline.specs.TextReading.{text_fault_at}
use Rattle.ocl_explain.specs.RuleNames.{rule_names}
use Rattle.ocl_explain.proofs.given_names.names_in.Goals as goal

pub returns-in-Ok : goal.returns-in-Ok
returns-in-Ok c =
    let given = rw c.deref.ensures.value at c.names_of_rules.ensures in
    IfOk-weaker c.names_of_rules.result _ _ (λ names h. (Ok (map rule_of c.in-Ok.written.items), c.in-Ok.ensures.rules, h)) given

pub returns-in-At : goal.returns-in-At
returns-in-At c = (Err (text_fault_at c.in-At.flaw c.in-At.offset), rw c.in-At.is at c.in-Err.ensures.fault, ap (map rule_names) c.new.ensures.items)
