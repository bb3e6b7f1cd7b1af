use Rattle.std.proofs.Common.{◌≡◌, map, drop}
use Rattle.serde_json.specs.Find.{as_str}
use Rattle.serde_json.specs.View.{view}
use Rattle.imkl_delivery.specs.Scalars.{all_found}
use Rattle.imkl_delivery.specs.Seen.{texts_view}
use Rattle.imkl_delivery.proofs.Alls.{after}
use Rattle.imkl_delivery.proofs.scalars.texts_of.Given as goal

abbrev pub invariant-loop-value : goal.invariant-loop-value
invariant-loop-value l = after (texts_view l.texts.items) (all_found as_str (map view (drop l.value-index l.values))) ≡ all_found as_str (map view l.values)
