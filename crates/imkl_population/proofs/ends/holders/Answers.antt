use Rattle.std.proofs.Common.{◌≡◌, ◌∙◌, ◌+◌, ℕ, List, ◌∷◌, [], ◌++◌, ap, arith, take, get_or}
use Rattle.std.proofs.lemmas.List.{get_or_default, take_all}
use Rattle.imkl_population.specs.declared.scalar.Scalar.{Scalar}
use Rattle.imkl_population.specs.declared.scalar.Scalar.TheVariants as scalar
use Rattle.imkl_population.specs.Building.{as_objects}
use Rattle.imkl_population.specs.Population.{holders_of}
use Rattle.imkl_population.specs.Store.{map_of}
use Rattle.imkl_population.proofs.Holdings.{AreMet, none-ahead, met-more, low-more}
use Rattle.imkl_population.proofs.ends.holders.Goals as goal

pub go_on-requires-clause-next : goal.go_on-requires-clause-next
go_on-requires-clause-next c =
    let i = c.loop-pair.pair-index in
    let qs : List (ℕ × ℕ) = c.args.pairs.now in
    let so_far = c.loop-pair.invariant in
    none-ahead (map_of c.loop-pair.column) c.loop-pair.target (get_or qs i (0, 0)).1 c.loop-pair.holders.items (take i qs) so_far.met so_far.none so_far.low (so_far.ahead (0, 0) c.loop-pair-test.true)

pub loop-pair-preserved : goal.loop-pair-preserved
loop-pair-preserved c =
    let i = c.loop-pair.pair-index in
    let qs : List (ℕ × ℕ) = c.args.pairs.now in
    let q : ℕ × ℕ = get_or qs i (0, 0) in
    let so_far = c.loop-pair.invariant in
    let lt = c.loop-pair-test.true in
    let is : q ≡ get_or qs i q = get_or_default qs i (0, 0) q lt in
    let w = map_of c.go_on.new.column in
    let vs : List Scalar = c.go_on.new.holders.items in
    let met : AreMet w q.1 vs (take i qs) = λ o. c.in_ok-go_on.ensures.same o ∙ so_far.met o in
    let items : c.push.new.self.items ≡ vs ++ scalar.Object q.0 ∷ [] = c.in_ok-push.ensures.items ∙ ap (λ (o : ℕ). vs ++ scalar.Object o ∷ []) c.new.ensures in
    record {
      met = rw items (met-more w vs qs i q q lt is met);
      none = c.in_ok-go_on.ensures.none;
      low = low-more qs i c.loop-pair.target q lt is so_far.low (so_far.ahead (0, 0) lt);
      ahead = λ d next.
          let rises = c.requires.ascend i (i + 1) d (omega arith) next in
          rw (get_or_default qs i (0, 0) d lt) rises;
    }

pub returns : goal.returns
returns c o =
    c.in_ok-put_holders.ensures.put o ∙ c.loop-pair.invariant.met o
    ∙ ap (λ (qs : List (ℕ × ℕ)). as_objects (holders_of o qs)) (take_all c.loop-pair.pair-index c.args.pairs.now c.loop-pair-test.false)
