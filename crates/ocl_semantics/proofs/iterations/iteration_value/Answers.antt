use Rattle.std.proofs.lemmas.Result.{IfOk-weaker}
use Rattle.owned_values.specs.Meant.{meant_elements}
use Rattle.ocl_semantics.proofs.iterations.iteration_value.Goals as goal

pub returns-in-Collect : goal.returns-in-Collect
returns-in-Collect c = rw c.in-Collect.is (IfOk-weaker c.collect.result _ _ (λ v h. h (meant_elements c.args.elements.now)) c.collect.ensures)

pub returns-in-CollectFlat : goal.returns-in-CollectFlat
returns-in-CollectFlat c = rw c.in-CollectFlat.is (IfOk-weaker c.collect_flat.result _ _ (λ v h. h (meant_elements c.args.elements.now)) c.collect_flat.ensures)
