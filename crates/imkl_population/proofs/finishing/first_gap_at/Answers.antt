use Rattle.std.proofs.Common.{◌∙◌, sym, ap}
use Rattle.std.proofs.lemmas.List.{take_all}
use Rattle.imkl_population.specs.Finishing.{gap}
use Rattle.imkl_population.specs.Order.{first_in}
use Rattle.imkl_population.proofs.Firsts.{first_in-found, first_in-more}
use Rattle.imkl_population.proofs.finishing.first_gap_at.Goals as goal

pub returns-then-is_some : goal.returns-then-is_some
returns-then-is_some c =
    first_in-found (gap c.args.builder.now c.args.object) c.args.features.now c.loop-feature.feature-index c.feature-item.result c.gap-found.result c.loop-feature-test.true c.feature-item.is c.loop-feature.invariant c.gap-found.ensures (sym c.if-is_some.ensures)

pub loop-feature-preserved : goal.loop-feature-preserved
loop-feature-preserved c =
    first_in-more (gap c.args.builder.now c.args.object) c.args.features.now c.loop-feature.feature-index c.feature-item.result c.gap-found.result c.loop-feature-test.true c.feature-item.is c.loop-feature.invariant c.gap-found.ensures (sym c.if-is_some.ensures)

pub returns : goal.returns
returns c = sym c.loop-feature.invariant ∙ ap (first_in (gap c.args.builder.now c.args.object)) (take_all c.loop-feature.feature-index c.args.features.now c.loop-feature-test.false)
