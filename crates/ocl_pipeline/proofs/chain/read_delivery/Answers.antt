use Rattle.std.proofs.Common.{Ok}
use Rattle.ocl_pipeline.proofs.Described.{population_is}
use Rattle.ocl_pipeline.proofs.Stopping.{population_read, delivery_stops}
use Rattle.ocl_pipeline.proofs.chain.read_delivery.Goals as goal

pub returns-in-Ok-clause-gives : goal.returns-in-Ok-clause-gives
returns-in-Ok-clause-gives c =
    let p = c.in-Ok.population.content in
    population_read c.args.model.now c.args.bytes.now p (population_is c.args.model.now c.args.bytes.now (Ok p) c.in-Ok.ensures.exact)

pub returns-in-Err-clause-gives : goal.returns-in-Err-clause-gives
returns-in-Err-clause-gives c = delivery_stops c.args.model.now c.args.bytes.now c.in-Err.fault c.from.result c.from.ensures c.in-Err.ensures.exact
