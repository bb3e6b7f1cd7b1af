use Rattle.std.proofs.Common.{◌≡◌, ◌≤◌, ◌-◌, ◌+◌, ◌++◌, ◌∙◌, List, [], ℕ, length, sym, ap, arith, append_assoc, length-append, vec_capacity}
use Rattle.rule_report.specs.Report.{name_of, rule_line_of, counts_of, total_line}
use Rattle.rule_report.specs.Cursor.{lines_without}
use Rattle.rule_report.proofs.Pairs.{line_fits, lines_more, between_ended, line_same}
use Rattle.rule_report.proofs.between.put_between.Goals as goal

pub put_rule_line-requires : goal.put_rule_line-requires
put_rule_line-requires c =
    let u = c.args.accepted.now.unit in
    let r = c.loop-rule.rule in
    let fits = line_fits u c.args.from r c.args.next c.args.total (omega (arith, c.loop-rule.auto.rule)) (omega (arith, c.loop-rule-test.true, c.loop-rule.auto.rule-end c.requires.from)) in
    let line : length (rule_line_of c.rule_name.result.now 0 c.empty.result) ≡ length (rule_line_of (name_of u r) 0 (counts_of [])) = ap length (line_same u r c.rule_name.result.now c.empty.result c.rule_name.ensures c.empty.ensures) in
    let so : length c.loop-rule.out.items ≡ length c.args.out.now.items + length (lines_without u c.args.from (r - c.args.from)) = ap length c.loop-rule.invariant.bytes ∙ length-append c.args.out.now.items (lines_without u c.args.from (r - c.args.from)) in
    let enough : length c.loop-rule.out.items + length (rule_line_of c.rule_name.result.now 0 c.empty.result) ≤ vec_capacity c.loop-rule.out = enough_of _ _ _ _ _ _ _ _ so line fits c.requires.room c.loop-rule.invariant.room in
    enough
  where
    enough_of : (here before lines line one all room : ℕ) (after : ℕ) → here ≡ before + lines → line ≡ one → lines + one ≤ all → before + all ≤ room → room ≤ after → here + line ≤ after
    enough_of here before lines line one all room after e f g h i = omega (arith, e, f, g, h, i)

pub loop-rule-preserved : goal.loop-rule-preserved
loop-rule-preserved c =
    let u = c.args.accepted.now.unit in
    let r = c.loop-rule.rule in
    record {
      bytes = lines_more u c.args.from r c.args.out.now.items c.loop-rule.out.items _ (omega (arith, c.loop-rule.auto.rule)) c.loop-rule.invariant.bytes
          (c.put_rule_line.ensures.bytes ∙ ap (λ (x : List ℕ). c.loop-rule.out.items ++ x) (line_same u r c.rule_name.result.now c.empty.result c.rule_name.ensures c.empty.ensures));
      room = omega (arith, c.loop-rule.invariant.room, c.put_rule_line.ensures.room);
    }

pub returns-then-next-rules-clause-bytes : goal.returns-then-next-rules-clause-bytes
returns-then-next-rules-clause-bytes c =
    let u = c.args.accepted.now.unit in
    let old : List ℕ = c.args.out.now.items in
    let end : c.loop-rule.rule ≡ c.args.next = omega (arith, c.loop-rule-test.false, c.loop-rule.auto.rule-end c.requires.from) in
    let lines : c.loop-rule.out.items ≡ old ++ lines_without u c.args.from (c.args.next - c.args.from) = c.loop-rule.invariant.bytes ∙ ap (λ n. old ++ lines_without u c.args.from (n - c.args.from)) end in
    let last : c.args.next ≡ length u.rules = omega (arith, c.if-next-rules.true, c.rules.ensures) in
    c.put_total_line.ensures.bytes ∙ ap (λ (x : List ℕ). x ++ total_line c.args.total) lines
    ∙ append_assoc old (lines_without u c.args.from (c.args.next - c.args.from)) (total_line c.args.total)
    ∙ ap (λ (x : List ℕ). old ++ x) (sym (between_ended u c.args.from c.args.next c.args.total last))
