use Rattle.std.proofs.Common.{◌≡◌, map, take}
use Rattle.ocl_core.specs.CoreView.{core_view, core_link_of}
use Rattle.same_trees.proofs.trees.+same.Given as goal

-- the links so far are the same
abbrev pub invariant-are_same_links-links : goal.invariant-are_same_links-links
invariant-are_same_links-links l = map core_link_of (take l.index l.links) ≡ map core_link_of (take l.index l.others)

-- the trees so far are the same
abbrev pub invariant-are_same_trees-trees : goal.invariant-are_same_trees-trees
invariant-are_same_trees-trees l = map core_view (take l.index l.left) ≡ map core_view (take l.index l.right)
