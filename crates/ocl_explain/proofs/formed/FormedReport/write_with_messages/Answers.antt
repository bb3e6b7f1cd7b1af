use Rattle.std.proofs.Common.{rules, tests, []}
use Rattle.ocl_explain.proofs.formed.FormedReport.write_with_messages.Goals as goal

pub returns-in-Ok : goal.returns-in-Ok
returns-in-Ok g c = λ said answered. (c.in-Ok.messages.items, rw (← c.deref.ensures.value) (c.write_judged.ensures said answered))

pub returns-in-Err : goal.returns-in-Err
returns-in-Err g c = λ said answered. ([], search (rules, tests))
