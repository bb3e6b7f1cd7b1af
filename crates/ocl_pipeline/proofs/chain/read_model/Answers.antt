use Rattle.ocl_pipeline.proofs.Stopping.{model_read, model_stops}
use Rattle.ocl_pipeline.proofs.chain.read_model.Goals as goal

pub returns-in-Ok : goal.returns-in-Ok
returns-in-Ok c = model_read c.args.bytes.now c.in-Ok.model c.in-Ok.ensures.answers

pub returns-in-Err : goal.returns-in-Err
returns-in-Err c = model_stops c.args.bytes.now c.in-Err.fault c.from.result c.from.ensures c.in-Err.ensures.answers
