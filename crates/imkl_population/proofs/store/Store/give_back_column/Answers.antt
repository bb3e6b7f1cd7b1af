use Rattle.std.proofs.Common.{◌∙◌, ◌<◌, List, All, take, ap, sym, subst, arith, length}
use Rattle.std.proofs.lemmas.List.Elements.{All-set}
use Rattle.imkl_population.specs.Store.{Stored, AllStand, AreRangesWithin, maps_of}
use Rattle.imkl_population.proofs.Stored.{on_ok}
use Rattle.imkl_population.proofs.Standing.{maps-kept, stand-more}
use Rattle.imkl_population.proofs.store.Store.give_back_column.Goals as goal

pub invariant_of-self : goal.invariant_of-self
invariant_of-self c = All-set AreRangesWithin c.self.inside.columns.items c.args.feature c.give_back-result.new.self c.within.ensures c.self.invariant

pub returns-clause-same : goal.returns-clause-same
returns-clause-same c =
    let cs : List Stored = c.self.inside.columns.items in
    let f = c.args.feature in
    let inside : f < length cs = omega (arith, c.requires, ap length c.self.view_is) in
    maps-kept cs f c.index_mut-column.result.now c.give_back-result.new.self inside c.index_mut-column.ensures.value c.give_back-result.ensures.same ∙ ap maps_of c.self.view_is

pub returns-clause-stand : goal.returns-clause-stand
returns-clause-stand c =
    let cs : List Stored = c.self.inside.columns.items in
    let f = c.args.feature in
    let inside : f < length cs = omega (arith, c.requires, ap length c.self.view_is) in
    on_ok c.give_back-result.result c.give_back-result.ensures.stand
    (λ here before. stand-more cs f c.give_back-result.new.self inside here (subst (λ (s : List Stored). All AllStand (take f s)) (sym c.self.view_is) before))
