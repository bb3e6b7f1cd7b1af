use Rattle.std.proofs.Common.{◌≡◌, ◌++◌, map, drop}
use Rattle.ocl_core.specs.Core.{cores_of}
use Rattle.ocl_core.specs.CoreView.{core_view}
use Rattle.text_names.specs.GivenNames.{all_marks}
use Rattle.text_names.specs.ReadingWalk.{links_marks, values_marks}
use Rattle.text_names.proofs.marks.+marks.Given as goal

-- the marks so far, and those of the links that are left
abbrev pub invariant-put_links-links : goal.invariant-put_links-links
invariant-put_links-links l = l.marks.items ++ links_marks (drop l.link-index l.links) ≡ l.initial.marks.items ++ links_marks l.links

-- and of the trees
abbrev pub invariant-put_all-cores : goal.invariant-put_all-cores
invariant-put_all-cores l =
    l.marks.items ++ all_marks (cores_of (map core_view (drop l.core-index l.cores))) ≡ l.initial.marks.items ++ all_marks (cores_of (map core_view l.cores))

-- and of the values
abbrev pub invariant-put_values-values : goal.invariant-put_values-values
invariant-put_values-values l =
    l.marks.items ++ values_marks (map core_view (drop l.value-index l.values)) ≡ l.initial.marks.items ++ values_marks (map core_view l.values)
