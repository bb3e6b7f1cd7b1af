use Rattle.std.proofs.Common.{◌≡◌, ◌+◌, ◌∷◌, List, sym, subst, ap, ◌∙◌, arith, ℕ}
use Rattle.std.proofs.lemmas.Result.{err_from_is_err_and}
use Rattle.ocl_kinds.specs.declared.kind.Kind.{Kind}
use Rattle.ocl_kinds.specs.Kinds.{IsKindOf}
use Rattle.rule_verify.specs.declared.pattern.Pattern.{Pattern}
use Rattle.rule_verify.specs.declared.place.Place.{Place}
use Rattle.rule_verify.specs.InstrKinds.{yields, block_operand}
use Rattle.rule_verify.specs.Known.{AreKnownKinds}
use Rattle.rule_verify.specs.Patterns.{IsPatternOf}
use Rattle.rule_verify.specs.Walk.{surroundings_of, Opened}
use Rattle.rule_verify.proofs.KnownKinds.{ends_known, binds_known, yields_known, block_operand_known}
use Rattle.rule_verify.proofs.WalkingBlocks.{room_left, inner_place, bound, block_wrong, block_gone, first_wrong, second_wrong, branches_gone}
use Rattle.rule_verify.proofs.walk.+walk.Goals as goal

pub body-ended_with-requires-clause-wanted : goal.body-ended_with-requires-clause-wanted
body-ended_with-requires-clause-wanted g t c =
    let P : Pattern → Type 0 = λ w. IsPatternOf c.args.rule.now.resolved.now.model w in
    subst P (sym c.ends_with.ensures) (ends_known (surroundings_of c.args.rule.now) c.args.instr)

pub block-inside-inner-requires-clause-room : goal.block-inside-inner-requires-clause-room
block-inside-inner-requires-clause-room g t c =
    room_left c.args.rule.now c.args.walk.now.variables c.args.place c.args.operands.now c.args.instr c.requires.inside c.requires.here c.requires.place c.args.walk.now.depths c.open_block.new.walk.depths c.args.length c.in_ok-operand.operand c.open_block.new.walk.variables c.open_block.new.operands c.in_ok-operand.ensures

pub block-body-requires : goal.block-body-requires
block-body-requires g t c =
    let r = c.args.rule.now in
    let o = c.in_ok-operand.ensures in
    let m = r.resolved.now.model in
    let s = surroundings_of r in
    let v = bound r c.args.walk.now.variables c.args.place c.args.operands.now c.args.instr c.requires.inside c.requires.here c.requires.place c.args.walk.now.depths c.open_block.new.walk.depths c.args.length c.in_ok-operand.operand c.open_block.new.walk.variables c.open_block.new.operands o _ c.in_ok-bind.ensures in
    let P : List Kind → Type 0 = λ l. AreKnownKinds m l in
    let known : AreKnownKinds m c.bind.new.variables = subst P (sym v) (binds_known s c.args.instr (block_operand c.args.instr c.args.operands.now) c.args.walk.now.variables (block_operand_known m c.args.instr c.args.operands.now c.requires.place.operands_known) c.requires.place.variables_known) in
    let place = inner_place r c.args.walk.now.variables c.args.place c.args.operands.now c.args.instr c.requires.inside c.requires.here c.requires.place c.args.walk.now.depths c.open_block.new.walk.depths c.args.length c.in_ok-operand.operand c.open_block.new.walk.variables c.open_block.new.operands o c.bind.new.variables c.inside-inner.result _ _ (omega arith) o.nests known c.inside-inner.ensures in
    let from = ap (λ (q : Place). q.at) c.inside-inner.ensures in
    let to = ap (λ (q : Place). q.end) c.inside-inner.ensures in
    λ κs lives. (omega (arith, from, to, o.nests), (lives, (c.requires.rule, place)))

pub block-returns-in_err-ended : goal.block-returns-in_err-ended
block-returns-in_err-ended g t c =
    let r = c.args.rule.now in
    let o = c.in_ok-operand.ensures in
    let p = err_from_is_err_and c.from_residual-in_err-ended.result c.from_residual-in_err-ended.ensures.1 in
    let v = bound r c.args.walk.now.variables c.args.place c.args.operands.now c.args.instr c.requires.inside c.requires.here c.requires.place c.args.walk.now.depths c.open_block.new.walk.depths c.args.length c.in_ok-operand.operand c.open_block.new.walk.variables c.open_block.new.operands o _ c.in_ok-bind.ensures in
    rw (p.1, p.2)
    (block_wrong r c.args.walk.now.variables c.args.place c.args.operands.now c.args.instr c.requires.inside c.requires.here c.requires.place c.args.walk.now.depths c.open_block.new.walk.depths c.args.length c.in_ok-operand.operand c.open_block.new.walk.variables c.open_block.new.operands o c.requires.shape _ _ v c.inside-inner.ensures _ c.in_err-ended.ensures.gives)

pub block-returns : goal.block-returns
block-returns g t c =
    let r = c.args.rule.now in
    let s = surroundings_of r in
    let m = r.resolved.now.model in
    let o = c.in_ok-operand.ensures in
    let v = bound r c.args.walk.now.variables c.args.place c.args.operands.now c.args.instr c.requires.inside c.requires.here c.requires.place c.args.walk.now.depths c.open_block.new.walk.depths c.args.length c.in_ok-operand.operand c.open_block.new.walk.variables c.open_block.new.operands o _ c.in_ok-bind.ensures in
    let P : Kind → Type 0 = λ k. IsKindOf m k in
    let operand = subst P (sym o.first) (block_operand_known m c.args.instr c.args.operands.now c.requires.place.operands_known) in
    let known : AreKnownKinds m (yields s c.args.instr c.in_ok-operand.operand c.in_ok-ended.ended ∷ c.open_block.new.operands) = (yields_known s c.args.instr c.in_ok-operand.operand c.in_ok-ended.ended operand c.in_ok-ended.ensures.known, o.known) in
    let pushed = c.in_ok-put.ensures ∙ ap (λ (k : Kind). k ∷ c.open_block.new.operands) c.yields.ensures in (
      block_gone r c.args.walk.now.variables c.args.place c.args.operands.now c.args.instr c.requires.inside c.requires.here c.requires.place c.args.walk.now.depths c.open_block.new.walk.depths c.args.length c.in_ok-operand.operand c.open_block.new.walk.variables c.open_block.new.operands o c.requires.shape _ _ v c.inside-inner.ensures c.in_ok-ended.ended _ _ _ _ c.in_ok-ended.ensures.gives c.in_ok-ended.ensures.walked known c.unbind.ensures pushed,
      omega arith,
    )

pub branches-inside-second-requires-clause-room : goal.branches-inside-second-requires-clause-room
branches-inside-second-requires-clause-room g t c =
    room_left c.args.rule.now c.args.walk.now.variables c.args.place c.args.operands.now c.args.instr c.requires.inside c.requires.here c.requires.place c.args.walk.now.depths c.open_block.new.walk.depths c.in-Some.length c.in_ok-operand.operand c.open_block.new.walk.variables c.open_block.new.operands c.in_ok-operand.ensures

pub branches-returns-in_err-ended : goal.branches-returns-in_err-ended
branches-returns-in_err-ended g t c =
    let r = c.args.rule.now in
    let n = c.args.lengths.0 in
    let m = c.args.lengths.1 in
    let same : c.in-Some.length ≡ n + m = omega (arith, c.in-Some.ensures) in
    let P : ℕ → Type 0 = λ l. Opened r c.args.walk.now.variables c.args.walk.now.depths c.args.place c.args.operands.now c.args.instr l c.in_ok-operand.operand c.open_block.new.walk.variables c.open_block.new.walk.depths c.open_block.new.operands in
    let o = subst P same c.in_ok-operand.ensures in
    let p = err_from_is_err_and c.from_residual-in_err-ended.result c.from_residual-in_err-ended.ensures.1 in
    rw (p.1, p.2) (first_wrong r c.args.walk.now.variables c.args.place c.args.operands.now c.args.instr c.requires.inside c.requires.here c.requires.place c.args.walk.now.depths c.open_block.new.walk.depths n m c.in_ok-operand.operand c.open_block.new.walk.variables c.open_block.new.operands o c.requires.shape c.inside-first.result c.inside-first.ensures _ c.in_err-ended.ensures.gives)

pub branches-body-requires-2 : goal.branches-body-requires-2
branches-body-requires-2 g t c =
    let r = c.args.rule.now in
    let n = c.args.lengths.0 in
    let m = c.args.lengths.1 in
    let same : c.in-Some.length ≡ n + m = omega (arith, c.in-Some.ensures) in
    let P : ℕ → Type 0 = λ l. Opened r c.args.walk.now.variables c.args.walk.now.depths c.args.place c.args.operands.now c.args.instr l c.in_ok-operand.operand c.open_block.new.walk.variables c.open_block.new.walk.depths c.open_block.new.operands in
    let o = subst P same c.in_ok-operand.ensures in
    let Q : List Kind → Type 0 = λ l. AreKnownKinds r.resolved.now.model l in
    let known = subst Q (sym (c.in_ok-ended.ensures.walked.kept ∙ o.kept)) c.requires.place.variables_known in
    let place = inner_place r c.args.walk.now.variables c.args.place c.args.operands.now c.args.instr c.requires.inside c.requires.here c.requires.place c.args.walk.now.depths c.open_block.new.walk.depths (n + m) c.in_ok-operand.operand c.open_block.new.walk.variables c.open_block.new.operands o c.body.new.walk.variables c.inside-second.result _ _ (omega arith) (omega (arith, o.nests)) known c.inside-second.ensures in
    let from = ap (λ (q : Place). q.at) c.inside-second.ensures in
    let to = ap (λ (q : Place). q.end) c.inside-second.ensures in
    λ κs lives. (omega (arith, from, to, o.nests), (lives, (c.requires.rule, place)))

pub branches-returns-in_err-body : goal.branches-returns-in_err-body
branches-returns-in_err-body g t c =
    let r = c.args.rule.now in
    let n = c.args.lengths.0 in
    let m = c.args.lengths.1 in
    let same : c.in-Some.length ≡ n + m = omega (arith, c.in-Some.ensures) in
    let P : ℕ → Type 0 = λ l. Opened r c.args.walk.now.variables c.args.walk.now.depths c.args.place c.args.operands.now c.args.instr l c.in_ok-operand.operand c.open_block.new.walk.variables c.open_block.new.walk.depths c.open_block.new.operands in
    let o = subst P same c.in_ok-operand.ensures in
    let p = err_from_is_err_and c.from_residual-in_err-body.result c.from_residual-in_err-body.ensures.1 in
    rw (p.1, p.2) (second_wrong r c.args.walk.now.variables c.args.place c.args.operands.now c.args.instr c.requires.inside c.requires.here c.requires.place c.args.walk.now.depths c.open_block.new.walk.depths n m c.in_ok-operand.operand c.open_block.new.walk.variables c.open_block.new.operands o c.requires.shape c.inside-first.result c.inside-first.ensures c.in_ok-ended.ended c.body.new.walk.depths c.body.new.walk.variables c.in_ok-ended.ensures.gives c.in_ok-ended.ensures.walked c.inside-second.result c.inside-second.ensures _ c.in_err-body.ensures.gives)

pub branches-returns : goal.branches-returns
branches-returns g t c =
    let r = c.args.rule.now in
    let n = c.args.lengths.0 in
    let m = c.args.lengths.1 in
    let same : c.in-Some.length ≡ n + m = omega (arith, c.in-Some.ensures) in
    let P : ℕ → Type 0 = λ l. Opened r c.args.walk.now.variables c.args.walk.now.depths c.args.place c.args.operands.now c.args.instr l c.in_ok-operand.operand c.open_block.new.walk.variables c.open_block.new.walk.depths c.open_block.new.operands in
    let o = subst P same c.in_ok-operand.ensures in
    let s = surroundings_of r in
    let K : Kind → Type 0 = λ k. IsKindOf r.resolved.now.model k in
    let operand = subst K (sym o.first) (block_operand_known r.resolved.now.model c.args.instr c.args.operands.now c.requires.place.operands_known) in
    let known : AreKnownKinds r.resolved.now.model (yields s c.args.instr c.in_ok-operand.operand c.in_ok-ended.ended ∷ c.open_block.new.operands) = (yields_known s c.args.instr c.in_ok-operand.operand c.in_ok-ended.ended operand c.in_ok-ended.ensures.known, o.known) in
    let pushed = c.in_ok-put.ensures ∙ ap (λ (k : Kind). k ∷ c.open_block.new.operands) c.yields.ensures in (
      branches_gone r c.args.walk.now.variables c.args.place c.args.operands.now c.args.instr c.requires.inside c.requires.here c.requires.place c.args.walk.now.depths c.open_block.new.walk.depths n m c.in_ok-operand.operand c.open_block.new.walk.variables c.open_block.new.operands o c.requires.shape c.inside-first.result c.inside-first.ensures c.in_ok-ended.ended c.body.new.walk.depths c.body.new.walk.variables c.in_ok-ended.ensures.gives c.in_ok-ended.ensures.walked c.inside-second.result c.inside-second.ensures _ _ _ _ c.in_ok-body.ensures.gives c.in_ok-body.ensures.walked known pushed,
      omega arith,
    )
