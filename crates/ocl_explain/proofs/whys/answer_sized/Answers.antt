use Rattle.std.proofs.Common.{◌≡◌, ℕ, false, map, Result, Ok, sym, ap, subst}
use Rattle.ocl_base.specs.Steps.{◌>>=◌}
use Rattle.imkl_population.specs.Sizes.{Sizes}
use Rattle.ocl_core.specs.CoreView.{checked_rule_of}
use Rattle.rule_cost.specs.Admission.{Admission, admission}
use Rattle.ocl_pipeline.specs.declared.refusal.Refusal.TheVariants.{Cost}
use Rattle.ocl_pipeline.specs.Steps.{refused_as}
use Rattle.ocl_pipeline.specs.Asked.{admission_for, admitted_in}
use Rattle.ocl_pipeline.proofs.ForAbove.{cost_stops}
use Rattle.ocl_check.specs.declared.commands.judge.TheConstants.{MAX_BUDGET}
use Rattle.ocl_check.specs.Reply.{Answer}
use Rattle.ocl_check.specs.Given.{given_answer}
use Rattle.ocl_check.proofs.ForAbove.{due, ending_as}
use Rattle.ocl_explain.specs.RuleNames.{names_by}
use Rattle.ocl_explain.specs.WhyAnswers.{shown_answer, why_answer, why_text}
use Rattle.ocl_explain.proofs.whys.answer_sized.Goals as goal

pub returns-in-Ok : goal.returns-in-Ok
returns-in-Ok g c = λ t named.
    let p = c.args.population.now.content in
    let u = c.args.accepted.now.unit in
    let asked = c.args.explanation.asked in
    let f : Admission → Answer = λ _. shown_answer asked.lines (why_answer (why_text p (names_by t (map checked_rule_of c.args.rules.now)) (map checked_rule_of c.args.rules.now) asked.rule.now asked.id.now)) in
    let within = subst (λ (z : Sizes). admission u z MAX_BUDGET ≡ Ok tt) c.requires.sizes c.in-Ok.ensures.admitted in
    ending_as (sym (ap (λ (o : Result (Unit {0}) ℕ). given_answer f (refused_as Cost o >>= (λ _. Ok (admission_for MAX_BUDGET p u)))) within)) (rw named at c.answer_judged.ensures)

pub returns-in-Err : goal.returns-in-Err
returns-in-Err g c = λ t named.
    let p = c.args.population.now.content in
    let u = c.args.accepted.now.unit in
    let asked = c.args.explanation.asked in
    let f : Admission → Answer = λ _. shown_answer asked.lines (why_answer (why_text p (names_by t (map checked_rule_of c.args.rules.now)) (map checked_rule_of c.args.rules.now) asked.rule.now asked.id.now)) in
    let given = admitted_in MAX_BUDGET p u in
    c.stop.ensures false (given_answer f given)
    (due c.from.result given f (cost_stops MAX_BUDGET p u c.args.sizes.now c.in-Err.fault c.from.result c.from.ensures c.requires.sizes c.in-Err.ensures.admitted))
