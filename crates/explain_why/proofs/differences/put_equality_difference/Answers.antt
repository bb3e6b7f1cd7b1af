use Rattle.owned_values.specs.Meant.{meant, meant_elements}
use Rattle.rule_values.specs.Value.{element_value}
use Rattle.rule_values.specs.Operations.{is_false, membership}
use Rattle.explain_why.proofs.Left.{filter_there}
use Rattle.explain_why.proofs.differences.put_equality_difference.Goals as goal

pub put_unequal-requires-clause-first : goal.put_unequal-requires-clause-first
put_unequal-requires-clause-first c =
    let p = c.args.population.now.content in
    let there = rw c.in-Collection-Collection.is-1 at c.requires.second in
    let lacked = filter_there p (λ e. is_false (membership (meant c.args.v.now) (element_value e))) (meant_elements c.in-Collection-Collection.others.items) there in
    let is = rw c.deref.ensures.value at c.in_ok-first_lacks.ensures in
    rw (c.deref-3.ensures.value, is) lacked

pub put_unequal-requires-clause-second : goal.put_unequal-requires-clause-second
put_unequal-requires-clause-second c =
    let p = c.args.population.now.content in
    let there = rw c.in-Collection-Collection.is-0 at c.requires.first in
    let lacked = filter_there p (λ e. is_false (membership (meant c.args.w.now) (element_value e))) (meant_elements c.in-Collection-Collection.elements.items) there in
    let is = rw c.deref-2.ensures.value at c.in_ok-second_lacks.ensures in
    rw (c.deref-4.ensures.value, is) lacked
