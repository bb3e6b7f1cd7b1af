use Rattle.std.proofs.Common.{◌∙◌, ap, sym, List, arith, ◌≤◌, ◌<◌, ◌+◌}
use Rattle.std.proofs.lemmas.Result.{err_from_is_err_and}
use Rattle.ocl_kinds.specs.declared.kind.Kind.{Kind}
use Rattle.rule_verify.specs.KindRules.{taken}
use Rattle.rule_verify.specs.Walk.{surroundings_of}
use Rattle.rule_verify.proofs.Walking.{take_wrong, torn_fails, nest_fails}
use Rattle.rule_verify.proofs.walk.open_block.Goals as goal

pub returns-in_err-take : goal.returns-in_err-take
returns-in_err-take g c =
    let p = err_from_is_err_and c.from_residual.result c.from_residual.ensures.1 in
    rw (p.1, p.2) (take_wrong c.args.rule.now c.args.walk.now.variables c.args.place c.args.operands.now c.args.instr c.requires.inside c.requires.place.within c.requires.here _ _ c.reach.ensures.variables c.in_err-take.ensures.taken)

pub returns-then-length-place : goal.returns-then-length-place
returns-then-length-place g c =
    let long : c.args.place.end < c.args.place.at + 1 + c.args.length = omega (arith, c.if-length-place.true, c.requires.inside) in
    rw c.fault.ensures
    (torn_fails c.args.rule.now c.args.walk.now.variables c.args.place c.args.operands.now c.args.instr c.requires.inside c.requires.place.within c.requires.here c.args.length c.take.new.operands c.requires.shape long
    (ap (λ (v : List Kind). taken (surroundings_of c.args.rule.now) v c.args.instr c.args.place.at c.args.operands.now) (sym c.reach.ensures.variables) ∙ c.in_ok-take.ensures.taken))

pub returns-then-place-ge-MAX_BLOCKS : goal.returns-then-place-ge-MAX_BLOCKS
returns-then-place-ge-MAX_BLOCKS g c =
    let nests : c.args.place.at + 1 + c.args.length ≤ c.args.place.end = omega (arith, c.if-length-place.false, c.requires.inside) in
    rw c.fault-then-place-ge-MAX_BLOCKS.ensures
    (nest_fails c.args.rule.now c.args.walk.now.variables c.args.place c.args.operands.now c.args.instr c.requires.inside c.requires.place.within c.requires.here c.args.length c.take.new.operands c.requires.shape nests c.if-place-ge-MAX_BLOCKS.true
    (ap (λ (v : List Kind). taken (surroundings_of c.args.rule.now) v c.args.instr c.args.place.at c.args.operands.now) (sym c.reach.ensures.variables) ∙ c.in_ok-take.ensures.taken))
