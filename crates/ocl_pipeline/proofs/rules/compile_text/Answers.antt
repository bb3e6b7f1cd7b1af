use Rattle.std.proofs.Common.{List, map, sym, subst}
use Rattle.ocl_core.specs.declared.core_tree.CoreRule.{CoreRule}
use Rattle.ocl_core.specs.CoreView.{checked_rule_of}
use Rattle.rule_code.specs.View.{content}
use Rattle.ocl_pipeline.specs.TypedRules.{AreRulesOf}
use Rattle.ocl_pipeline.proofs.TextCompiled.{unit_of_rules}
use Rattle.ocl_pipeline.proofs.rules.compile_text.Goals as goal

pub returns-in-Ok : goal.returns-in-Ok
returns-in-Ok c =
    let m = c.args.model.now in
    let h = c.in-Ok.ensures.read in
    let rs = map checked_rule_of c.deref.result.now in
    let are = subst (λ (l : List CoreRule). AreRulesOf m h.0 (map checked_rule_of l)) (sym c.deref.ensures.value) h.2 in
    let made = unit_of_rules content (λ e. e) c.compile_rules.result m h.0 rs are c.compile_rules.ensures.unit c.compile_rules.ensures.fault in
    (h.0, h.1, made.0, made.1)
