use Rattle.std.proofs.Common.{◌≡◌, All, take}
use Rattle.imkl_population.specs.Store.{AllStand, maps_of}
use Rattle.imkl_population.proofs.store.Store.give_back.Given as goal

abbrev pub invariant-loop-feature : goal.invariant-loop-feature
invariant-loop-feature l = record {
  same : maps_of l.self ≡ maps_of l.initial.self;
  stand : All AllStand (take l.feature l.self);
}
