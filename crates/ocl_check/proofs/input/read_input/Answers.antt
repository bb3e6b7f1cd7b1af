use Rattle.std.proofs.Common.{◌++◌, take, arith, inr, length-append, length-take}
use Rattle.std.proofs.KnownBytes.{Consumes-trans}
use Rattle.ocl_check.proofs.input.read_input.Goals as goal

pub returns-then-limit-len-clause-consumed : goal.returns-then-limit-len-clause-consumed
returns-then-limit-len-clause-consumed g c =
    let found = c.loop.found.items in
    let more = take c.in-Ok.n c.read.new.piece in
    (found ++ more, Consumes-trans _ _ _ found more c.loop.invariant.read c.in-Ok.ensures.bytes.0, omega (arith, c.in-Ok.ensures.bound, c.read.auto.piece, c.min-room.ensures, c.len.ensures, length-take c.min-room.result c.loop.piece, length-append found more, length-take c.in-Ok.n c.read.new.piece))

pub returns-then-limit-len-clause-read_fault : goal.returns-then-limit-len-clause-read_fault
returns-then-limit-len-clause-read_fault g c = λ same.
    let found = c.loop.found.items in
    let more = take c.in-Ok.n c.read.new.piece in
    inr (found ++ more, Consumes-trans _ _ _ found more c.loop.invariant.read c.in-Ok.ensures.bytes.0, omega (arith, c.in-Ok.ensures.bound, c.if-limit-len.true, c.len-in-loop.ensures, length-append found more, length-take c.in-Ok.n c.read.new.piece))

pub returns-then-is_err-clause-consumed : goal.returns-then-is_err-clause-consumed
returns-then-is_err-clause-consumed g c =
    let found = c.loop.found.items in
    let more = take c.in-Ok.n c.read.new.piece in
    (found ++ more, Consumes-trans _ _ _ found more c.loop.invariant.read c.in-Ok.ensures.bytes.0, omega (arith, c.in-Ok.ensures.bound, c.if-limit-len.false, c.len-in-loop.ensures, length-append found more, length-take c.in-Ok.n c.read.new.piece))

pub returns-then-is_err-clause-within : goal.returns-then-is_err-clause-within
returns-then-is_err-clause-within g c = λ other.
    let found = c.loop.found.items in
    let more = take c.in-Ok.n c.read.new.piece in
    (found ++ more, Consumes-trans _ _ _ found more c.loop.invariant.read c.in-Ok.ensures.bytes.0, omega (arith, c.in-Ok.ensures.bound, c.if-limit-len.false, c.len-in-loop.ensures, length-append found more, length-take c.in-Ok.n c.read.new.piece))

pub returns-clause-read_fault : goal.returns-clause-read_fault
returns-clause-read_fault g c = λ same. absurd (omega (arith, c.loop-test.false, c.loop.invariant.some, c.loop.invariant.few))
