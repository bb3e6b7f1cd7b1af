use Rattle.std.proofs.Common.{rules, ◌+◌, ◌<◌, ◌≤◌, length, map, sym, ◌∙◌, arith}
use Rattle.std.proofs.lemmas.Option.{slice_get-get_or}
use Rattle.ocl_core.specs.CoreView.{core_view}
use Rattle.rule_trees.proofs.Walked.{plain_there, plain_advances, block_body_there, block_there, block_advances, first_body_there, second_body_there, branches_there, branches_advance, torn_never, torn_branch_never}
use Rattle.rule_trees.proofs.walk.+walk.Goals.{step-in_default-via-in-OneBody+else-length-left, step-in_default-via-in-TwoBodies+then-first-left+else-second-left, step-in_default-via-in-TwoBodies+else-first-left}
use Rattle.rule_trees.proofs.walk.+walk.Goals as goal

pub block-sequence-requires : goal.block-sequence-requires
block-sequence-requires t c =
    let there = block_body_there c.args.code.now c.args.place c.args.instr c.requires.inside c.requires.place.within c.requires.here (map core_view c.args.trees.now) c.args.length c.requires.shape c.requires.nests c.requires.there in
    (search rules, (c.requires.fits, (record { before = omega arith; within = omega (arith, c.requires.nests, c.requires.place.within) }, there)))

pub block-close_block-requires : goal.block-close_block-requires
block-close_block-requires t c =
    block_there c.args.code.now c.args.place c.args.instr c.requires.inside c.requires.place.within c.requires.here (map core_view c.args.trees.now) c.args.length c.requires.shape c.requires.nests (core_view c.in_ok-body.body) c.in_ok-body.ensures c.requires.there

pub block-returns : goal.block-returns
block-returns t c = record {
  forward = omega arith;
  within = omega (arith, c.requires.nests);
  trees = block_advances c.args.code.now c.args.place c.args.instr c.requires.inside c.requires.place.within c.requires.here (map core_view c.args.trees.now) c.args.length c.requires.shape c.requires.nests (core_view c.in_ok-body.body) c.in_ok-body.ensures _ c.in_ok-close_block.ensures;
}

pub branches-sequence-requires : goal.branches-sequence-requires
branches-sequence-requires t c =
    let there = first_body_there c.args.code.now c.args.place c.args.instr c.requires.inside c.requires.place.within c.requires.here (map core_view c.args.trees.now) c.args.lengths.0 c.args.lengths.1 c.requires.shape c.requires.nests c.requires.there in
    (search rules, (c.requires.fits, (record { before = omega arith; within = omega (arith, c.requires.nests, c.requires.place.within) }, there)))

pub branches-sequence-requires-2 : goal.branches-sequence-requires-2
branches-sequence-requires-2 t c =
    let there = second_body_there c.args.code.now c.args.place c.args.instr c.requires.inside c.requires.place.within c.requires.here (map core_view c.args.trees.now) c.args.lengths.0 c.args.lengths.1 c.requires.shape c.requires.nests c.requires.there in
    (search rules, (c.requires.fits, (record { before = omega arith; within = omega (arith, c.requires.nests, c.requires.place.within) }, there)))

pub branches-close_branches-requires : goal.branches-close_branches-requires
branches-close_branches-requires t c =
    branches_there c.args.code.now c.args.place c.args.instr c.requires.inside c.requires.place.within c.requires.here (map core_view c.args.trees.now) c.args.lengths.0 c.args.lengths.1 c.requires.shape c.requires.nests (core_view c.in_ok-first.first) (core_view c.in_ok-second.second) c.in_ok-first.ensures c.in_ok-second.ensures c.requires.there

pub branches-returns : goal.branches-returns
branches-returns t c = record {
  forward = omega arith;
  within = omega (arith, c.requires.nests);
  trees = branches_advance c.args.code.now c.args.place c.args.instr c.requires.inside c.requires.place.within c.requires.here (map core_view c.args.trees.now) c.args.lengths.0 c.args.lengths.1 c.requires.shape c.requires.nests (core_view c.in_ok-first.first) (core_view c.in_ok-second.second) c.in_ok-first.ensures c.in_ok-second.ensures _ c.in_ok-close_branches.ensures;
}

pub step-plain-requires-clause-there : goal.step-plain-requires-clause-there
step-plain-requires-clause-there t c =
    let lt : c.args.place.at < length c.args.code.now.code.now = omega (arith, c.requires.inside, c.requires.place.within) in
    plain_there c.args.code.now c.args.place _ c.requires.inside c.requires.place.within (slice_get-get_or c.args.code.now.code.now c.args.place.at _ lt) (map core_view c.args.trees.now) (sym c.shape_of.ensures ∙ c.in-Single.is) c.requires.there

pub step-block-requires : goal.step-block-requires
step-block-requires t c =
    let lt : c.args.place.at < length c.args.code.now.code.now = omega (arith, c.requires.inside, c.requires.place.within) in
    let nests : c.args.place.at + 1 + c.in-OneBody.length ≤ c.args.place.end = omega (arith, c.if-length-left.true, c.requires.inside) in
    (search rules, (c.requires.fits, (c.requires.place, (c.requires.inside, (slice_get-get_or c.args.code.now.code.now c.args.place.at _ lt, (sym c.shape_of.ensures ∙ c.in-OneBody.is, (nests, c.requires.there)))))))

pub step-branches-requires : goal.step-branches-requires
step-branches-requires t c =
    let lt : c.args.place.at < length c.args.code.now.code.now = omega (arith, c.requires.inside, c.requires.place.within) in
    let nests : c.args.place.at + 1 + c.in-TwoBodies.first + c.in-TwoBodies.second ≤ c.args.place.end = omega (arith, c.if-first-left.true, c.if-second-left.true, c.requires.inside) in
    (search rules, (c.requires.fits, (c.requires.place, (c.requires.inside, (slice_get-get_or c.args.code.now.code.now c.args.place.at _ lt, (sym c.shape_of.ensures ∙ c.in-TwoBodies.is, (nests, c.requires.there)))))))

pub step-unreachable-requires : goal.step-unreachable-requires
step-unreachable-requires t c =
    let code = c.args.code.now in
    let lt : c.args.place.at < length code.code.now = omega (arith, c.requires.inside, c.requires.place.within) in
    elim c.in_default.branch [
      | step-in_default-via-in-OneBody+else-length-left w ↦ torn_never code c.args.place _ c.requires.inside c.requires.place.within (slice_get-get_or code.code.now c.args.place.at _ lt) (map core_view c.args.trees.now) w.in-OneBody.length (sym c.shape_of.ensures ∙ w.in-OneBody.is) (omega (arith, w.if-length-left.false, c.requires.inside)) c.requires.there
      | step-in_default-via-in-TwoBodies+then-first-left+else-second-left w ↦ torn_branch_never code c.args.place _ c.requires.inside c.requires.place.within (slice_get-get_or code.code.now c.args.place.at _ lt) (map core_view c.args.trees.now) w.in-TwoBodies.first w.in-TwoBodies.second (sym c.shape_of.ensures ∙ w.in-TwoBodies.is) (omega (arith, w.if-first-left.true, w.if-second-left.false, c.requires.inside)) c.requires.there
      | step-in_default-via-in-TwoBodies+else-first-left w ↦ torn_branch_never code c.args.place _ c.requires.inside c.requires.place.within (slice_get-get_or code.code.now c.args.place.at _ lt) (map core_view c.args.trees.now) w.in-TwoBodies.first w.in-TwoBodies.second (sym c.shape_of.ensures ∙ w.in-TwoBodies.is) (omega (arith, w.if-first-left.false, c.requires.inside)) c.requires.there
    ]

pub step-returns-in_ok-plain-in-Single : goal.step-returns-in_ok-plain-in-Single
step-returns-in_ok-plain-in-Single t c =
    let lt : c.args.place.at < length c.args.code.now.code.now = omega (arith, c.requires.inside, c.requires.place.within) in
    record {
      forward = omega arith;
      within = omega (arith, c.requires.inside);
      trees = plain_advances c.args.code.now c.args.place _ c.requires.inside c.requires.place.within (slice_get-get_or c.args.code.now.code.now c.args.place.at _ lt) (map core_view c.args.trees.now) (sym c.shape_of.ensures ∙ c.in-Single.is) _ c.in_ok-plain-in-Single.ensures;
    }
