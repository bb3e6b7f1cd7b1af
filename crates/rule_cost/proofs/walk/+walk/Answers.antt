use Rattle.std.proofs.lemmas.Option.{slice_get-get_or}
use Rattle.std.proofs.Common.{◌+◌, ◌<◌, ◌∷◌, ◌++◌, length, refl, sym, ap, ◌∙◌, subst, arith}
use Rattle.rule_cost.specs.Bounds as spec
use Rattle.rule_cost.specs.Limits.{SameCut, capped}
use Rattle.rule_cost.specs.CostWalk.{surroundings_of_code, SameLengths, Totals}
use Rattle.rule_cost.proofs.CodeWalk.{block_advances, branches_advance, torn_ends, torn_branch_ends, reached_first, reached_next}
use Rattle.rule_cost.proofs.walk.+walk.Goals.{step-in_default-via-in-OneBody+else-length-left, step-in_default-via-in-TwoBodies+then-first-left+else-second-left, step-in_default-via-in-TwoBodies+else-first-left}
use Rattle.rule_cost.proofs.walk.+walk.Goals as goal

-- src/walk.rt:121:1
pub block-returns-clause-advances : goal.block-returns-clause-advances
block-returns-clause-advances g t c =
    let code = c.args.code.now in
    let at = c.args.place.at + 1 in
    let source = c.block_length-source.ensures in
    let yielded = c.length_yielded.result in
    let total = c.in_ok-body.body in
    record {
      forward = omega arith;
      within = omega (arith, c.requires.nests);
      cost = block_advances code c.args.variables.now c.args.place c.args.instr c.requires.inside c.requires.place.within c.requires.here c.args.operands.now c.args.length c.requires.shape c.requires.nests yielded c.block_charges-charges.result (at + c.args.length) c.bind.new.variables c.put.new.lengths (record { at = at; end = at + c.args.length }) total refl refl refl
          (subst (λ l. SameLengths c.bind.new.variables (spec.lengths_bound_by c.args.instr l ++ c.args.variables.now)) source c.in_ok-bind.ensures.bound) c.in_ok-body.ensures.totals
          (subst (λ l. SameCut c.block_charges-charges.result (spec.block_charges c.args.instr l total.charges total.length)) source (subst (λ b. SameCut c.block_charges-charges.result (spec.block_body_charges b c.block_length-source.result total.charges (spec.block_taking_charge b total.length) (spec.block_ending_charge b c.block_length-source.result))) c.block_of-opened.ensures c.block_charges-charges.ensures))
          (subst (λ l. SameCut yielded (spec.length_yielded c.args.instr l total.length)) source (subst (λ b. SameCut yielded (spec.block_yields_length b c.block_length-source.result total.length)) c.block_of-opened.ensures c.length_yielded.ensures))
          (c.in_ok-put.ensures ∙ ap (λ l. yielded ∷ l) (c.take_operands.ensures (surroundings_of_code code)));
    }

-- src/walk.rt:156:1
pub branches-returns-clause-advances : goal.branches-returns-clause-advances
branches-returns-clause-advances g t c =
    let code = c.args.code.now in
    let at = c.args.place.at + 1 in
    let middle = at + c.args.lengths.0 in
    let end = middle + c.args.lengths.1 in
    record {
      forward = omega arith;
      within = omega (arith, c.requires.nests);
      cost = branches_advance code c.args.variables.now c.args.place c.args.instr c.requires.inside c.requires.place.within c.requires.here c.args.operands.now c.args.lengths.0 c.args.lengths.1 c.requires.shape c.requires.nests c.max.result c.branch_charges-charges.result end c.put.new.lengths (record { at = at; end = middle }) (record { at = middle; end = end }) c.in_ok-first.first c.in_ok-second.second refl refl refl refl refl
          c.in_ok-first.ensures.totals (subst (λ vs. Totals code vs (record { at = middle; end = end }) c.in_ok-second.second) c.in_ok-first.ensures.kept c.in_ok-second.ensures.totals) c.branch_charges-charges.ensures (ap capped c.max.ensures)
          (c.in_ok-put.ensures ∙ ap (λ l. c.max.result ∷ l) (c.take_operands.ensures (surroundings_of_code code)));
    }

-- src/walk.rt:66:5
pub sequence-instructions-init : goal.sequence-instructions-init
sequence-instructions-init g t c =
    reached_first c.args.code.now c.args.variables.now c.args.place c.new-charges.result c.new-operands.result c.requires.place.before c.new-charges.ensures c.new-operands.ensures

-- src/walk.rt:66:5
pub sequence-instructions-preserved : goal.sequence-instructions-preserved
sequence-instructions-preserved g t c =
    reached_next c.args.code.now c.args.variables.now c.args.place (record { at = c.instructions.at; end = c.args.place.end }) c.instructions.charges c.plus-charges.result c.instructions.at c.in_ok-advance.advance c.instructions.variables c.step.new.variables c.instructions.operands c.step.new.operands c.instructions.invariant refl refl
    c.in_ok-advance.ensures.kept c.in_ok-advance.ensures.advances c.plus-charges.ensures

-- src/walk.rt:80:1
pub step-returns-in_default-clause-advances : goal.step-returns-in_default-clause-advances
step-returns-in_default-clause-advances g t c =
    let code = c.args.code.now in
    let lt : c.args.place.at < length code.code.now = omega (arith, c.requires.inside, c.requires.place.within) in
    record {
      forward = c.requires.inside;
      within = omega arith;
      cost = elim c.in_default.branch [
        | step-in_default-via-in-OneBody+else-length-left w ↦ torn_ends code c.args.variables.now c.args.place _ c.requires.inside c.requires.place.within (slice_get-get_or code.code.now c.args.place.at _ lt) c.args.operands.now w.in-OneBody.length (sym c.shape_of.ensures ∙ w.in-OneBody.is) (omega (arith, w.if-length-left.false, c.requires.inside)) c.new.result (ap capped c.new.ensures)
        | step-in_default-via-in-TwoBodies+then-first-left+else-second-left w ↦ torn_branch_ends code c.args.variables.now c.args.place _ c.requires.inside c.requires.place.within (slice_get-get_or code.code.now c.args.place.at _ lt) c.args.operands.now w.in-TwoBodies.first w.in-TwoBodies.second (sym c.shape_of.ensures ∙ w.in-TwoBodies.is) (omega (arith, w.if-first-left.true, w.if-second-left.false, c.requires.inside)) c.new.result (ap capped c.new.ensures)
        | step-in_default-via-in-TwoBodies+else-first-left w ↦ torn_branch_ends code c.args.variables.now c.args.place _ c.requires.inside c.requires.place.within (slice_get-get_or code.code.now c.args.place.at _ lt) c.args.operands.now w.in-TwoBodies.first w.in-TwoBodies.second (sym c.shape_of.ensures ∙ w.in-TwoBodies.is) (omega (arith, w.if-first-left.false, c.requires.inside)) c.new.result (ap capped c.new.ensures)
      ];
    }
