use Rattle.std.proofs.Common.{◌≡◌, map, drop}
use Rattle.serde_json.specs.Find.{as_str}
use Rattle.token_tree.specs.Single.{single_view}
use Rattle.imkl_delivery.specs.Scalars.{all_found}
use Rattle.imkl_delivery.specs.Seen.{texts_view}
use Rattle.imkl_delivery.proofs.Alls.{after}
use Rattle.imkl_delivery.proofs.scalars.texts_of_singles.Given as goal

abbrev pub invariant-loop-single : goal.invariant-loop-single
invariant-loop-single l = after (texts_view l.texts.items) (all_found as_str (map single_view (drop l.single-index l.singles))) ≡ all_found as_str (map single_view l.singles)
