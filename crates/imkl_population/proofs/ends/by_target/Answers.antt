use Rattle.std.proofs.Common.{rules, ◌∙◌, ◌<◌, ap, length}
use Rattle.std.proofs.lemmas.List.Sorted.{All-permutation, answers_always, IsNonDecreasingBy-from_sort_by_key}
use Rattle.imkl_population.specs.Population.{holders_of}
use Rattle.imkl_population.proofs.Holdings.{pairs-known, sorted-holders}
use Rattle.imkl_population.proofs.ends.by_target.Goals as goal

pub returns-clause-ascend : goal.returns-clause-ascend
returns-clause-ascend c = IsNonDecreasingBy-from_sort_by_key (λ q. q.1) _ c.in_ok-sort_by_key.ensures.sorted (λ a r q k. search rules)

pub returns-clause-same : goal.returns-clause-same
returns-clause-same c = λ o.
    sorted-holders c.in_ok-pairs.pairs.items c.sort_by_key.new.self.items (c.sort_by_key.ensures.stable (λ q. q.1) (answers_always _ _ _ (λ f a r g h. search rules))) o
    ∙ ap (holders_of o) c.in_ok-pairs.ensures

pub returns-clause-known : goal.returns-clause-known
returns-clause-known c =
    let p = c.args.builder.now in
    All-permutation (λ q. q.0 < length p.objects) c.in_ok-pairs.pairs.items c.sort_by_key.new.self.items c.sort_by_key.ensures.permutation
    (rw c.in_ok-pairs.ensures (pairs-known p c.args.source))
