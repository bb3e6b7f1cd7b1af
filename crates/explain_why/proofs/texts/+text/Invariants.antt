use Rattle.std.proofs.Common.{◌≡◌, ◌++◌, map, drop, string_bytes}
use Rattle.std.specs.List.{AllByRecursion}
use Rattle.ocl_core.specs.Core.{cores_of}
use Rattle.ocl_core.specs.CoreView.{core_view}
use Rattle.ocl_semantics.specs.Resolved.{IsResolved, AreResolved}
use Rattle.ocl_semantics.specs.Evaluated.{AreLinksResolved}
use Rattle.explain_why.specs.NameWalk.{naming_view, inner_view, with_all}
use Rattle.explain_why.specs.Texts.{others_text}
use Rattle.explain_why.specs.TextWalk.{written_text, links_text, lets_front}
use Rattle.explain_why.proofs.texts.+text.Given as goal

-- what was put, the names that are known, and the values that are left
abbrev pub invariant-put_lets-values : goal.invariant-put_lets-values
invariant-put_lets-values l =
    (string_bytes l.out ++ lets_front l.model (map core_view (drop l.value-index l.values)) (inner_view l.inner)
    ≡ string_bytes l.initial.out ++ lets_front l.model (map core_view l.values) (naming_view l.naming))
    × ((with_all (map core_view (drop l.value-index l.values)) (inner_view l.inner) ≡ with_all (map core_view l.values) (naming_view l.naming))
    × AllByRecursion (IsResolved l.model) (map core_view (drop l.value-index l.values)))

-- the text so far, and the links that are left
abbrev pub invariant-links_text-links : goal.invariant-links_text-links
invariant-links_text-links l =
    (links_text l.model (naming_view l.behind) (drop l.link-index l.links) (written_text l.text) ≡ links_text l.model (naming_view l.naming) l.links (written_text l.fn.first))
    × AreLinksResolved l.model (drop l.link-index l.links)

-- what was put, and the operands that are left
abbrev pub invariant-put_others-others : goal.invariant-put_others-others
invariant-put_others-others l =
    (string_bytes l.out ++ others_text l.model l.wraps l.index (cores_of (map core_view (drop l.index l.others))) (naming_view l.behind)
    ≡ string_bytes l.initial.out ++ others_text l.model l.wraps 0 (cores_of (map core_view l.others)) (naming_view l.naming))
    × AreResolved l.model (cores_of (map core_view (drop l.index l.others)))
