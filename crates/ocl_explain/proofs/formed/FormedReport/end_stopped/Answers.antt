use Rattle.std.proofs.Common.{rules, tests, []}
use Rattle.ocl_check.proofs.ForAbove.{ending_as}
use Rattle.ocl_explain.proofs.formed.FormedReport.end_stopped.Goals as goal

pub returns-in-Refused : goal.returns-in-Refused
returns-in-Refused g c =
    let h = c.end_refused.ensures in
    (h.0, λ a due. let line = rw c.in-Refused.is at due in ending_as line h.1)

pub returns-in-OutOfMemory : goal.returns-in-OutOfMemory
returns-in-OutOfMemory g c = ([], λ a due. search (rules, tests))
