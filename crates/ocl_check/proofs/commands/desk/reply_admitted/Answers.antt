use Rattle.std.proofs.Common.{◌≡◌, rules, false, Ok, Err, List, ap, sym, ◌∙◌}
use Rattle.desk_script.specs.declared.call.Call.{Call}
use Rattle.desk_script.specs.Script.{script_of}
use Rattle.ocl_check.specs.Desk.{script_answer}
use Rattle.ocl_check.proofs.Endings.{ending_as}
use Rattle.ocl_check.proofs.commands.desk.reply_admitted.Goals as goal

pub returns-in-Ok : goal.returns-in-Ok
returns-in-Ok g c =
    let a = c.args.admitted.now in
    let p = c.args.population.now.content in
    ending_as (ap (λ (calls : List Call). script_answer a p (Ok calls)) c.deref.ensures.value ∙ sym (ap (script_answer a p) c.in-Ok.ensures.gives))
    c.reply_calls.ensures

pub returns-in-Err-At : goal.returns-in-Err-At
returns-in-Err-At g c =
    let answer = script_answer c.args.admitted.now c.args.population.now.content in
    let wrong : script_of c.args.script.now ≡ Err c.in-Err-At.line = search rules in
    c.stop.ensures false (answer (script_of c.args.script.now)) (sym (ap answer wrong))
