use Rattle.std.proofs.Common.{◌≡◌, map, drop}
use Rattle.token_tree.specs.Single.{single_view}
use Rattle.imkl_delivery.specs.Scalars.{scalar_from, all_found}
use Rattle.imkl_delivery.proofs.Alls.{after}
use Rattle.imkl_delivery.proofs.scalars.scalars_of_singles.Given as goal

abbrev pub invariant-loop-single : goal.invariant-loop-single
invariant-loop-single l = after l.scalars.items (all_found (scalar_from l.model l.info.element) (map single_view (drop l.single-index l.singles))) ≡ all_found (scalar_from l.model l.info.element) (map single_view l.singles)
