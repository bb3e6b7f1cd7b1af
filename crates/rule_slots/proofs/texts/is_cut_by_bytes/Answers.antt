use Rattle.std.proofs.Common.{◌++◌, length, ap, subst, arith}
use Rattle.rule_slots.specs.Cut.{AreSingleBytes}
use Rattle.rule_slots.proofs.SingleBytes.{single-part, single-fits}
use Rattle.rule_slots.proofs.texts.is_cut_by_bytes.Goals as goal

pub returns-in-Some-clause-single : goal.returns-in-Some-clause-single
returns-in-Some-clause-single c = λ h t is.
    let whole = is.front ++ (t ++ is.rest) in
    single-part is.front t is.rest (subst AreSingleBytes (c.in-Some.ensures whole is.there) (c.is_single_bytes.ensures.single h))

pub returns-in-Some-clause-room : goal.returns-in-Some-clause-room
returns-in-Some-clause-room c = λ h t is.
    let whole = is.front ++ (t ++ is.rest) in
    let same = c.in-Some.ensures whole is.there in
    let fits = single-fits is.front t is.rest (subst AreSingleBytes same (c.is_single_bytes.ensures.single h)) in
    omega (arith, is.start, fits, ap length same, c.is_single_bytes.ensures.room)
