use Rattle.std.proofs.Common.{◌≡◌, map, drop}
use Rattle.ocl_core.specs.Core.{cores_of}
use Rattle.ocl_core.specs.CoreView.{core_view}
use Rattle.code_as_ocl.specs.WantedKinds.{wanted_of_each}
use Rattle.code_as_ocl.specs.WantedLinks.{wanted_in_links}
use Rattle.code_as_ocl.proofs.wanted.+wanted.Given as goal

-- no tree before wants a kind
abbrev pub invariant-wanted_of_each-cores : goal.invariant-wanted_of_each-cores
invariant-wanted_of_each-cores l =
    wanted_of_each l.model l.variable (cores_of (map core_view (drop l.core-index l.cores))) l.wanted
    ≡ wanted_of_each l.model l.variable (cores_of (map core_view l.cores)) l.wanted

-- no link before wants a kind
abbrev pub invariant-wanted_in_links-links : goal.invariant-wanted_in_links-links
invariant-wanted_in_links-links l = wanted_in_links l.model l.variable (drop l.link-index l.links) ≡ wanted_in_links l.model l.variable l.links
