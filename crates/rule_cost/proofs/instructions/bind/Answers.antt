use Rattle.std.proofs.Common.{◌-◌, [], ◌∷◌, drop, ap, ◌∙◌, sym, subst}
use Rattle.rule_verify.specs.InstrKinds.{block_bound_count}
use Rattle.rule_cost.specs.Bounds.{block_binds_lengths}
use Rattle.rule_cost.specs.CostWalk.{SameLengths}
use Rattle.rule_cost.proofs.Costs.{one_bound, two_bound}
use Rattle.rule_cost.proofs.Cuts.{cut_again}
use Rattle.rule_cost.proofs.instructions.bind.Goals as goal

pub returns-in_ok-push-2-clause-bound : goal.returns-in_ok-push-2-clause-bound
returns-in_ok-push-2-clause-bound c =
    let x = c.bound_length.result in
    let first = subst (λ b. SameLengths (x ∷ []) (drop (block_bound_count b - 1) (block_binds_lengths b c.args.source))) c.block_of.ensures c.bound_length.ensures in
    let items = c.in_ok-push-2.ensures.ok ∙ ap (λ l. c.new.result ∷ l) c.in_ok-push.ensures.ok in
    two_bound c.args.instr c.args.source x c.new.result c.push-then-bound_count-eq2.new.self c.args.variables.now (sym c.bound_count.ensures ∙ c.if-bound_count-eq2.true) first (cut_again c.new.result 0 c.new.ensures) items

pub returns-else-bound_count-eq2-clause-bound : goal.returns-else-bound_count-eq2-clause-bound
returns-else-bound_count-eq2-clause-bound c =
    let x = c.bound_length.result in
    let first = subst (λ b. SameLengths (x ∷ []) (drop (block_bound_count b - 1) (block_binds_lengths b c.args.source))) c.block_of.ensures c.bound_length.ensures in
    one_bound c.args.instr c.args.source x c.push.new.self c.args.variables.now (λ e. c.if-bound_count-eq2.false (c.bound_count.ensures ∙ e)) first c.in_ok-push.ensures.ok
