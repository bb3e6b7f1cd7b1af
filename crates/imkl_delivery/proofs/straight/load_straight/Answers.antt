use Rattle.imkl_delivery.proofs.Describing.{description_is}
use Rattle.imkl_delivery.proofs.straight.load_straight.Goals as goal

pub returns-in-Ok-clause-described : goal.returns-in-Ok-clause-described
returns-in-Ok-clause-described c =
    let written = c.in_ok-builder.ensures in
    (written.0, written.1, written.2 c.in-Ok.population.content c.in-Ok.ensures.finished)

pub returns-in-Ok-clause-model : goal.returns-in-Ok-clause-model
returns-in-Ok-clause-model c =
    let written = c.in_ok-builder.ensures in
    (description_is c.args.model.now written.0 c.in-Ok.population.content (written.2 c.in-Ok.population.content c.in-Ok.ensures.finished)).3.model
