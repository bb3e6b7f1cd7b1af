-- One reply for another that is equal.
use Rattle.std.proofs.Common.{◌≡◌, Result, Ok, Err, ◌∙◌, IfOk}
use Rattle.ocl_check.specs.declared.reply.Reply as reply
use Rattle.ocl_check.specs.Reply.{Answer, said}

pub said_as : {E : Type 0} (result : Result reply.Reply E) (a b : Answer) → a ≡ b → IfOk result (λ r. said r ≡ a) → IfOk result (λ r. said r ≡ b)
said_as (Ok r) a b same h = h ∙ same
said_as (Err e) a b same h = tt
