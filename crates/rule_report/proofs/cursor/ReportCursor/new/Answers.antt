use Rattle.std.proofs.Common.{◌≡◌, ◌++◌, ◌∙◌, List, ℕ, sym, ap, subst, arith}
use Rattle.rule_report.specs.Cursor.{part_of, lines_between}
use Rattle.rule_report.proofs.Pairs.{next_is, placed_at_first, told_none, told_first, part_first}
use Rattle.rule_report.proofs.cursor.ReportCursor.new.Goals as goal

pub between_length-requires-clause-next : goal.between_length-requires-clause-next
between_length-requires-clause-next c =
    omega (arith, c.next_rule-rule.ensures, (next_is c.accepted-accepted.result.now.unit c.args.population.now.content 0 (omega arith)).within)

pub put_between-requires-clause-next : goal.put_between-requires-clause-next
put_between-requires-clause-next c =
    omega (arith, c.next_rule-rule.ensures, (next_is c.accepted-accepted.result.now.unit c.args.population.now.content 0 (omega arith)).within)

pub objects_at-requires-clause-within : goal.objects_at-requires-clause-within
objects_at-requires-clause-within c =
    omega (arith, c.next_rule-rule.ensures, (next_is c.accepted-accepted.result.now.unit c.args.population.now.content 0 (omega arith)).within)

pub invariant_of-result : goal.invariant_of-result
invariant_of-result c = (
  c.requires.0 ∙ ap (λ l. l.model) (sym c.accepted-accepted.ensures),
  placed_at_first c.accepted-accepted.result.now.unit c.args.population.now.content c.next_rule-rule.result c.empty-3.result c.empty-4.result c.next_rule-rule.ensures c.empty-3.ensures c.empty-4.ensures,
  c.objects_at.ensures.objects,
  c.objects_at.ensures.none,
  c.objects_at.ensures.each,
)

pub returns-clause-none : goal.returns-clause-none
returns-clause-none c =
    told_none c.accepted-accepted.result.now.unit c.args.population.now.content c.next_rule-rule.result c.empty-3.result c.empty-4.result c.next_rule-rule.ensures

pub returns-clause-told : goal.returns-clause-told
returns-clause-told c = λ v.
    told_first c.accepted-accepted.result.now.unit c.args.population.now.content c.next_rule-rule.result c.empty-3.result c.empty-4.result v c.next_rule-rule.ensures c.empty-3.ensures c.empty-4.ensures

pub returns-clause-part : goal.returns-clause-part
returns-clause-part c = λ v.
    let p = c.args.population.now.content in
    let u = c.accepted-accepted.result.now.unit in
    let old : List ℕ = c.args.out.now.items in
    let bytes = c.put_between.ensures.bytes ∙ ap (λ (x : List ℕ). x ++ lines_between u 0 c.next_rule-rule.result c.empty-2.result) c.reserve.ensures.items in
    subst (λ x. c.put_between.new.out.items ≡ old ++ part_of x p v 0) (ap (λ l. l.unit) c.accepted-accepted.ensures)
    (part_first u p c.next_rule-rule.result c.empty-2.result v old c.put_between.new.out.items c.next_rule-rule.ensures c.empty-2.ensures bytes)
