use Rattle.std.proofs.Common.{◌∙◌, Some, ap, sym, true, false, bytes_eq, arith}
use Rattle.report_forms.proofs.Objects.{next_object, no_object_left}
use Rattle.report_forms.proofs.search.object_from.Goals as goal

pub returns-then-eq-clause-number : goal.returns-then-eq-clause-number
returns-then-eq-clause-number c =
    let os = c.args.population.now.content.objects in
    let test = sym c.eq.ensures ∙ c.if-eq.true in
    let here = c.as_bytes.ensures.value ∙ c.id.ensures in
    ap Some c.new-object.ensures
    ∙ sym (c.loop-index.invariant ∙ next_object os c.loop-index.index c.new-object.result c.args.id.now c.as_bytes.result.now true (omega arith) c.new-object.ensures here test)

pub returns-then-eq-clause-named : goal.returns-then-eq-clause-named
returns-then-eq-clause-named c = ap (bytes_eq c.args.id.now) (sym (c.as_bytes.ensures.value ∙ c.id.ensures)) ∙ (sym c.eq.ensures ∙ c.if-eq.true)

pub returns-clause-number : goal.returns-clause-number
returns-clause-number c =
    let os = c.args.population.now.content.objects in
    sym (c.loop-index.invariant ∙ no_object_left os c.loop-index.index c.args.id.now (omega (arith, c.objects-index-end.ensures, c.loop-index-test.false)))

pub loop-index-preserved : goal.loop-index-preserved
loop-index-preserved c =
    let os = c.args.population.now.content.objects in
    let test = sym c.eq.ensures ∙ c.if-eq.false in
    let here = c.as_bytes.ensures.value ∙ c.id.ensures in
    c.loop-index.invariant ∙ next_object os c.loop-index.index c.new-object.result c.args.id.now c.as_bytes.result.now false (omega arith) c.new-object.ensures here test
