use Rattle.std.proofs.Common.{◌≡◌, ◌++◌, map, drop}
use Rattle.std.specs.List.{AllByRecursion}
use Rattle.ocl_core.specs.Core.{cores_of}
use Rattle.ocl_core.specs.CoreView.{core_view}
use Rattle.ocl_compile.specs.EmitWalk.{AreEmittable, AreEmittableLinks, codes_of, link_node, links_code, lets_code}
use Rattle.ocl_compile.specs.Written.{IsWritten, AreWritten}
use Rattle.ocl_compile.proofs.emitting.+emit.Given as goal

abbrev pub invariant-emit_links-links : goal.invariant-emit_links-links
invariant-emit_links-links l =
    (l.code.items ++ links_code l.model l.numbers (drop l.link-index l.links) ≡ l.initial.code.items ++ links_code l.model l.numbers l.links)
    × AreEmittableLinks l.model l.numbers (drop l.link-index l.links)
    × (AllByRecursion (λ x. IsWritten (link_node x)) (drop l.link-index l.links) → AllByRecursion (λ x. IsWritten (link_node x)) l.links)

abbrev pub invariant-emit_operands-operands : goal.invariant-emit_operands-operands
invariant-emit_operands-operands l =
    (l.code.items ++ codes_of l.model l.numbers (cores_of (map core_view (drop l.operand-index l.operands)))
    ≡ l.initial.code.items ++ codes_of l.model l.numbers (cores_of (map core_view l.operands)))
    × AreEmittable l.model l.numbers (cores_of (map core_view (drop l.operand-index l.operands)))
    × (AreWritten (cores_of (map core_view (drop l.operand-index l.operands))) → AreWritten (cores_of (map core_view l.operands)))

abbrev pub invariant-code_of_lets-loop-i : goal.invariant-code_of_lets-loop-i
invariant-code_of_lets-loop-i l =
    (l.code.items ≡ lets_code l.model l.numbers (map core_view (drop l.i l.values)) l.fn.body.items)
    × AllByRecursion IsWritten (map core_view (drop l.i l.values))
