use Rattle.owned_values.specs.Meant.{meant, meant_elements}
use Rattle.rule_values.specs.Value.{element_value}
use Rattle.rule_values.specs.Operations.{is_true, membership}
use Rattle.explain_why.proofs.Left.{filter_there}
use Rattle.explain_why.proofs.differences.put_had.Goals as goal

pub put_listed-requires : goal.put_listed-requires
put_listed-requires c =
    let p = c.args.population.now.content in
    let there = rw c.in-Collection.is at c.requires in
    let had = filter_there p (λ e. is_true (membership (meant c.args.v.now) (element_value e))) (meant_elements c.in-Collection.elements.items) there in
    let is = rw c.deref.ensures.value at c.in_ok-had.ensures in
    rw (c.deref-2.ensures.value, is) had
