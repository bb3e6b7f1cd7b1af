use Rattle.std.proofs.Common.{◌∙◌, ◌==◌, ◌<◌, List, ap, arith, length, if◌then◌else◌}
use Rattle.std.specs.Ordering.{nat_cmp}
use Rattle.std.specs.BTreeMap.{insert_entry}
use Rattle.std.proofs.lemmas.List.Elements.{All-set}
use Rattle.imkl_population.specs.Given.{given_values}
use Rattle.imkl_population.specs.Store.{Stored, AreRangesWithin, maps_of, object_row}
use Rattle.imkl_population.proofs.Stored.{on_ok, on_err}
use Rattle.imkl_population.proofs.Rows.{rows-put, rows-kept}
use Rattle.imkl_population.proofs.store.Store.set.Goals as goal

pub invariant_of-self : goal.invariant_of-self
invariant_of-self c = All-set AreRangesWithin c.self.inside.columns.items c.args.feature c.put-result.new.self c.within.ensures c.self.invariant

pub returns-clause-ok : goal.returns-clause-ok
returns-clause-ok c =
    let cs : List Stored = c.self.inside.columns.items in
    let f = c.args.feature in
    let o = c.args.object in
    let vs = (given_values c.args.values) in
    let inside : f < length cs = omega (arith, c.requires, ap length c.self.view_is) in
    on_ok c.put-result.result c.put-result.ensures.ok (λ put k.
    rows-put cs f o c.index_mut-column.result.now c.put-result.new.self inside c.index_mut-column.ensures.value vs put k
    ∙ ap (λ (s : List Stored). if k == o then insert_entry nat_cmp (object_row (maps_of s) k) f vs else object_row (maps_of s) k) c.self.view_is)

pub returns-clause-err : goal.returns-clause-err
returns-clause-err c =
    let cs : List Stored = c.self.inside.columns.items in
    let f = c.args.feature in
    let inside : f < length cs = omega (arith, c.requires, ap length c.self.view_is) in
    on_err c.put-result.result c.put-result.ensures.err (λ same k.
    rows-kept cs f c.args.object c.index_mut-column.result.now c.put-result.new.self inside c.index_mut-column.ensures.value same k
    ∙ ap (λ (s : List Stored). object_row (maps_of s) k) c.self.view_is)
