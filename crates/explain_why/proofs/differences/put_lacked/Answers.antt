use Rattle.owned_values.specs.Meant.{meant, meant_elements}
use Rattle.rule_values.specs.Value.{element_value}
use Rattle.rule_values.specs.Operations.{is_false, membership}
use Rattle.explain_why.proofs.Left.{filter_there}
use Rattle.explain_why.proofs.differences.put_lacked.Goals as goal

pub put_listed-requires : goal.put_listed-requires
put_listed-requires c =
    let p = c.args.population.now.content in
    let there = rw c.in-Collection.is at c.requires in
    let lacked = filter_there p (λ e. is_false (membership (meant c.args.v.now) (element_value e))) (meant_elements c.in-Collection.elements.items) there in
    let is = rw c.deref.ensures.value at c.in_ok-lacked.ensures in
    rw (c.deref-2.ensures.value, is) lacked
