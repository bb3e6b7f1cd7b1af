use Rattle.std.proofs.Common.{◌≡◌, ◌++◌, map, drop, string_bytes}
use Rattle.std.specs.List.{AllByRecursion}
use Rattle.ocl_core.specs.Core.{cores_of}
use Rattle.ocl_core.specs.CoreView.{core_view}
use Rattle.ocl_semantics.specs.Resolved.{IsResolved, AreResolved}
use Rattle.ocl_semantics.specs.Evaluated.{AreLinksResolved}
use Rattle.code_as_ocl.specs.TypedTexts.{lets_printed, lets_kinds, links_printed, others_printed}
use Rattle.code_as_ocl.specs.PrintedView.{printed_view}
use Rattle.code_as_ocl.proofs.typed.+typed.Given as goal

-- what was put, the variables, and the values that are left
abbrev pub invariant-front_of-values : goal.invariant-front_of-values
invariant-front_of-values l =
    (string_bytes l.front.text ++ lets_printed l.model (map core_view (drop l.index l.values)) (core_view l.body) l.front.kinds.items
    ≡ lets_printed l.model (map core_view l.values) (core_view l.body) l.kinds)
    × ((lets_kinds l.model (map core_view (drop l.index l.values)) (core_view l.body) l.front.kinds.items
    ≡ lets_kinds l.model (map core_view l.values) (core_view l.body) l.kinds)
    × AllByRecursion (IsResolved l.model) (map core_view (drop l.index l.values)))

-- the text so far, and the links that are left
abbrev pub invariant-links_printed-links : goal.invariant-links_printed-links
invariant-links_printed-links l =
    (links_printed l.model l.kinds (drop l.link-index l.links) (printed_view l.text) ≡ links_printed l.model l.kinds l.links (printed_view l.fn.first))
    × AreLinksResolved l.model (drop l.link-index l.links)

-- what was put, and the operands that are left
abbrev pub invariant-others_printed-others : goal.invariant-others_printed-others
invariant-others_printed-others l =
    (string_bytes l.text ++ others_printed l.model l.level l.index (cores_of (map core_view (drop l.index l.others))) l.kinds
    ≡ others_printed l.model l.level 0 (cores_of (map core_view l.others)) l.kinds)
    × AreResolved l.model (cores_of (map core_view (drop l.index l.others)))
