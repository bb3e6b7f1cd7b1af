use Rattle.std.proofs.Common.{◌∙◌, ap, sym, List, arith, ◌≡◌, ◌≤◌, ◌<◌, ◌+◌, length}
use Rattle.std.proofs.lemmas.Result.{err_from_is_err_and}
use Rattle.ocl_kinds.specs.declared.kind.Kind.{Kind}
use Rattle.rule_verify.specs.InstrKinds.{result_kind}
use Rattle.rule_verify.specs.declared.limits.TheConstants.{MAX_OPERANDS}
use Rattle.rule_verify.specs.KindRules.{taken}
use Rattle.rule_verify.specs.Walk.{surroundings_of}
use Rattle.rule_verify.proofs.KnownKinds.{result_known}
use Rattle.rule_verify.proofs.Walking.{take_wrong, stack_fails, plain_goes}
use Rattle.rule_verify.proofs.walk.plain.Goals as goal

pub returns-in_err-take : goal.returns-in_err-take
returns-in_err-take g c =
    let p = err_from_is_err_and c.from_residual.result c.from_residual.ensures.1 in
    rw (p.1, p.2) (take_wrong c.args.rule.now c.args.walk.now.variables c.args.place c.args.operands.now c.args.instr c.requires.inside c.requires.place.within c.requires.here _ _ c.reach.ensures.variables c.in_err-take.ensures.taken)

pub returns-then-len-place : goal.returns-then-len-place
returns-then-len-place g c =
    let full : MAX_OPERANDS ≤ c.args.place.covered + length c.take.new.operands = omega (arith, c.if-len-place.true, c.len.ensures) in
    rw c.fault.ensures
    (stack_fails c.args.rule.now c.args.walk.now.variables c.args.place c.args.operands.now c.args.instr c.requires.inside c.requires.place.within c.requires.here c.take.new.operands c.requires.place
    (ap (λ (v : List Kind). taken (surroundings_of c.args.rule.now) v c.args.instr c.args.place.at c.args.operands.now) (sym c.reach.ensures.variables) ∙ c.in_ok-take.ensures.taken) c.requires.shape full)

pub returns : goal.returns
returns g c =
    let s = surroundings_of c.args.rule.now in
    let room : c.args.place.covered + length c.take.new.operands < MAX_OPERANDS = omega (arith, c.if-len-place.false, c.len.ensures, c.requires.place.room) in
    let gives : c.result_kind.result ≡ result_kind s c.args.walk.now.variables c.args.instr c.args.operands.now = c.result_kind.ensures c.args.operands.now c.topmost-operand.ensures ∙ ap (λ (v : List Kind). result_kind s v c.args.instr c.args.operands.now) c.reach.ensures.variables in
    let known = result_known s c.requires.rule.model c.requires.rule.context c.args.walk.now.variables c.args.instr c.args.operands.now c.requires.place.variables_known c.requires.place.operands_known in (
      plain_goes c.args.rule.now c.args.walk.now.variables c.args.place c.args.operands.now c.args.instr c.requires.inside c.requires.place.within c.requires.here c.take.new.operands c.requires.place
          (ap (λ (v : List Kind). taken s v c.args.instr c.args.place.at c.args.operands.now) (sym c.reach.ensures.variables) ∙ c.in_ok-take.ensures.taken) c.args.walk.now.depths _ _ _ c.result_kind.result c.requires.shape room
          (rw gives known, c.in_ok-take.ensures.known) gives c.in_ok-put.ensures c.reach.ensures.variables c.reach.ensures.depths,
      omega arith,
    )
