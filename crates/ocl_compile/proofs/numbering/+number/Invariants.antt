use Rattle.std.proofs.Common.{◌≡◌, map, drop}
use Rattle.ocl_core.specs.Core.{cores_of}
use Rattle.ocl_core.specs.CoreView.{core_view}
use Rattle.ocl_compile.specs.Numbering.{trees_uses, with_uses}
use Rattle.ocl_compile.specs.NumberWalk.{AreUsesOf, links_uses}
use Rattle.ocl_compile.proofs.numbering.+number.Given as goal

abbrev pub invariant-number_links-links : goal.invariant-number_links-links
invariant-number_links-links l =
    (with_uses l.model l.numbers (links_uses l.model (drop l.link-index l.links)) ≡ with_uses l.model l.initial.numbers (links_uses l.model l.links))
    × AreUsesOf l.model (links_uses l.model (drop l.link-index l.links))

abbrev pub invariant-number_trees-trees : goal.invariant-number_trees-trees
invariant-number_trees-trees l =
    (with_uses l.model l.numbers (trees_uses l.model (cores_of (map core_view (drop l.tree-index l.trees)))) ≡ with_uses l.model l.initial.numbers (trees_uses l.model (cores_of (map core_view l.trees))))
    × AreUsesOf l.model (trees_uses l.model (cores_of (map core_view (drop l.tree-index l.trees))))
