use Rattle.std.proofs.Common.{List, map, None, sym, ap, ◌∙◌}
use Rattle.std.specs.Prelude.{Option}
use Rattle.std.specs.Option.{option_or}
use Rattle.ocl_kinds.specs.declared.kind.ScalarKind.{ScalarKind}
use Rattle.ocl_core.specs.declared.core_tree.Core.{Core}
use Rattle.ocl_core.specs.declared.core_tree.CoreLink.{CoreLink}
use Rattle.ocl_core.specs.Core.{cores_of}
use Rattle.ocl_core.specs.CoreView.{core_view}
use Rattle.code_as_ocl.specs.WantedKinds.{wanted_of, wanted_of_each}
use Rattle.code_as_ocl.specs.WantedLinks.{before_links, wanted_in_links}
use Rattle.code_as_ocl.proofs.WantedNodes.{spine_is, let_is}
use Rattle.code_as_ocl.proofs.wanted.+wanted.Goals as goal

-- a first operand with its links

pub wanted_of-returns-in-Some : goal.wanted_of-returns-in-Some
wanted_of-returns-in-Some t c =
    let m = c.args.model.now in
    let n = c.args.variable in
    let w = c.args.wanted in
    let links = c.in-Spine.links.items in
    let of-first = c.before_links-of_first.ensures ∙ ap (λ (l : List CoreLink). before_links m l w) c.deref.ensures.value in
    let in-first = c.wanted_of.ensures
    ∙ ap (λ (x : Core). wanted_of m n (core_view x) c.before_links-of_first.result) c.deref-in-Spine.ensures
    ∙ ap (wanted_of m n (core_view c.in-Spine.first.value)) of-first in
    ap (λ (o : Option ScalarKind). option_or o (wanted_in_links m n links)) (sym c.in-Some.is ∙ in-first)
    ∙ spine_is c.args.core.now c.in-Spine.first c.in-Spine.links c.in-Spine.is m n w

pub wanted_of-returns-in-None : goal.wanted_of-returns-in-None
wanted_of-returns-in-None t c =
    let m = c.args.model.now in
    let n = c.args.variable in
    let w = c.args.wanted in
    let links = c.in-Spine.links.items in
    let of-first = c.before_links-of_first.ensures ∙ ap (λ (l : List CoreLink). before_links m l w) c.deref.ensures.value in
    let in-first = c.wanted_of.ensures
    ∙ ap (λ (x : Core). wanted_of m n (core_view x) c.before_links-of_first.result) c.deref-in-Spine.ensures
    ∙ ap (wanted_of m n (core_view c.in-Spine.first.value)) of-first in
    c.wanted_in_links.ensures
    ∙ ap (wanted_in_links m n) c.deref-in-None.ensures.value
    ∙ ap (λ (o : Option ScalarKind). option_or o (wanted_in_links m n links)) (sym c.in-None.is ∙ in-first)
    ∙ spine_is c.args.core.now c.in-Spine.first c.in-Spine.links c.in-Spine.is m n w

-- values and the body that sees them

pub wanted_of-returns-in-Some-wanted_of_each : goal.wanted_of-returns-in-Some-wanted_of_each
wanted_of-returns-in-Some-wanted_of_each t c =
    let m = c.args.model.now in
    let n = c.args.variable in
    let w = c.args.wanted in
    let in-values = c.wanted_of_each.ensures
    ∙ ap (λ (l : List Core). wanted_of_each m n (cores_of (map core_view l)) None) c.deref-in-Let.ensures.value in
    ap (λ (o : Option ScalarKind). option_or o (wanted_of m n (core_view c.in-Let.body.value) w)) (sym c.in-Some-wanted_of_each.is ∙ in-values)
    ∙ let_is c.args.core.now c.in-Let.values c.in-Let.body c.in-Let.is m n w

pub wanted_of-returns-in-None-wanted_of_each : goal.wanted_of-returns-in-None-wanted_of_each
wanted_of-returns-in-None-wanted_of_each t c =
    let m = c.args.model.now in
    let n = c.args.variable in
    let w = c.args.wanted in
    let in-values = c.wanted_of_each.ensures
    ∙ ap (λ (l : List Core). wanted_of_each m n (cores_of (map core_view l)) None) c.deref-in-Let.ensures.value in
    c.wanted_of-in-None-wanted_of_each.ensures
    ∙ ap (λ (x : Core). wanted_of m n (core_view x) w) c.deref-in-None-wanted_of_each.ensures
    ∙ ap (λ (o : Option ScalarKind). option_or o (wanted_of m n (core_view c.in-Let.body.value) w)) (sym c.in-None-wanted_of_each.is ∙ in-values)
    ∙ let_is c.args.core.now c.in-Let.values c.in-Let.body c.in-Let.is m n w
