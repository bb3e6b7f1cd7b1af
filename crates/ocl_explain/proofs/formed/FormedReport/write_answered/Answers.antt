use Rattle.std.proofs.Common.{rules, tests, ◌≡◌, ◌==◌, ℕ, List, Bool, true, false, ap, sym, if◌then◌else◌}
use Rattle.imkl_population.specs.Population.{Population}
use Rattle.ocl_check.proofs.ForAbove.{ending_as}
use Rattle.explain_faults.specs.declared.fault.Fault.{Fault}
use Rattle.report_forms.specs.declared.beside.RuleMessage.{RuleMessage}
use Rattle.report_forms.specs.declared.form.Form.{Form}
use Rattle.report_forms.specs.Forms.{form_of_refusal, form_of_report}
use Rattle.ocl_explain.specs.FormedReport.{context_in, formed_in}
use Rattle.ocl_explain.proofs.formed.FormedReport.write_answered.Goals as goal

-- the form by whether `judge` refuses an input
form_by : (form : Form) (path delivery : List ℕ) (messages : List RuleMessage) (faults : List Fault) (p : Population) (text : List ℕ) (status : ℕ) (b : Bool) → (status == 2) ≡ b
    → formed_in form path delivery messages faults p (text, status)
    ≡ (if b then form_of_refusal form path faults text else form_of_report form (context_in path delivery messages p) text, status)
form_by form path delivery messages faults p text status b is =
    ap (λ (x : Bool). (if x then form_of_refusal form path faults text else form_of_report form (context_in path delivery messages p) text, status)) is

pub returns-then-status-eq2 : goal.returns-then-status-eq2
returns-then-status-eq2 g c =
    let self = c.args.self.now in
    ending_as (sym (form_by self.form self.delivery.path.now self.delivery.bytes.now c.args.messages.now c.args.faults.now c.args.population.now.content c.args.text.now c.args.status true (search (tests, rules)))) c.write_line.ensures

pub returns : goal.returns
returns g c =
    let self = c.args.self.now in
    ending_as (sym (form_by self.form self.delivery.path.now self.delivery.bytes.now c.args.messages.now c.args.faults.now c.args.population.now.content c.args.text.now c.args.status false (search (tests, rules)))) c.write_report.ensures
