use Rattle.std.proofs.Common.{◌≡◌, map, drop, All}
use Rattle.serde_json.specs.View.{view}
use Rattle.ocl_base.specs.Steps.{each}
use Rattle.ocl_base.proofs.ForAbove.{with_front}
use Rattle.imkl_model.proofs.lists.each_of.Given as goal

abbrev pub invariant-loop-value : goal.invariant-loop-value
invariant-loop-value g l = record {
  read : with_front l.found.items (each g.T.Spelled.spelled (map view (drop l.value-index l.values))) ≡ each g.T.Spelled.spelled (map view l.values);
  fits : All g.T.Spelled.fits l.found.items;
}
