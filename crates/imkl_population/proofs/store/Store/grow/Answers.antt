use Rattle.std.proofs.Common.{◌∙◌, List, [], ◌∷◌, ap, arith, length, length-append}
use Rattle.imkl_population.specs.Store.{Stored, maps_of, object_row}
use Rattle.imkl_population.proofs.Rows.{row-more}
use Rattle.imkl_population.proofs.store.Store.grow.Goals as goal

pub returns-in_err-push-clause-same : goal.returns-in_err-push-clause-same
returns-in_err-push-clause-same c = λ o. ap (λ (s : List Stored). object_row (maps_of s) o) c.in_err-push.ensures.err ∙ c.loop.invariant.same o

pub loop-preserved : goal.loop-preserved
loop-preserved c = record {
  long = omega (arith, c.loop.invariant.long, ap length c.in_ok-push.ensures.ok, length-append c.loop.self (c.new.result ∷ []));
  same = λ o. row-more c.loop.self c.push.new.self c.new.result o c.in_ok-push.ensures.ok c.new.ensures ∙ c.loop.invariant.same o;
}
