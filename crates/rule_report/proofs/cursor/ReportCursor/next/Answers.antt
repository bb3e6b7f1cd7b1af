use Rattle.std.proofs.Common.{◌≡◌, ◌<◌, ◌≤◌, ◌∙◌, ℕ, Some, List, [], get_or, length, inl, inr, sym, ap, arith}
use Rattle.std.proofs.lemmas.Bool.{cases_lt}
use Rattle.std.proofs.lemmas.List.{get_or_default}
use Rattle.rule_report.specs.Report.{context_objects}
use Rattle.rule_report.specs.Cursor.{CursorSeen, cursor_seen, due}
use Rattle.rule_report.proofs.Pairs.{due_is, none_due}
use Rattle.rule_report.proofs.cursor.ReportCursor.next.Goals as goal

-- where an object is left, so is a rule
rule_left : (r n at : ℕ) (os : List ℕ) → r ≤ n → (r ≡ n → os ≡ []) → at < length os → r < n
rule_left r n at os within none there =
    elim (cases_lt r n) [
      | inl l ↦ l
      | inr g ↦ let empty : length os ≡ 0 = ap length (none (omega (arith, g, within))) in absurd (omega (arith, there, empty))
    ]

pub returns-then-self-clause-due : goal.returns-then-self-clause-due
returns-then-self-clause-due c =
    let i = c.self.inside in
    let u = i.accepted.now.unit in
    let p = i.population.now.content in
    let s : CursorSeen = cursor_seen u p i.rule i.at i.here i.before in
    let within : i.rule < length u.rules = rule_left i.rule (length u.rules) i.at i.objects.now c.self.invariant.1.within c.self.invariant.3 c.if-self.true in
    let objects : context_objects u p i.rule ≡ i.objects.now = sym (c.self.invariant.2 within) in
    let there : i.at < length (context_objects u p i.rule) = c.self.invariant.1.some within in
    let object : get_or i.objects.now i.at c.index-self-self.result ≡ get_or (context_objects u p i.rule) i.at 0 =
    ap (λ (os : List ℕ). get_or os i.at c.index-self-self.result) (sym objects) ∙ get_or_default (context_objects u p i.rule) i.at c.index-self-self.result 0 there in
    let here : Some (i.rule, get_or i.objects.now i.at c.index-self-self.result) ≡ due s = ap (λ o. Some (i.rule, o)) object ∙ sym (due_is s c.self.invariant.1 within) in
    here ∙ ap due c.self.view_is

pub returns-else-self-clause-due : goal.returns-else-self-clause-due
returns-else-self-clause-due c =
    let i = c.self.inside in
    let u = i.accepted.now.unit in
    let p = i.population.now.content in
    let s : CursorSeen = cursor_seen u p i.rule i.at i.here i.before in
    elim (cases_lt i.rule (length u.rules)) [
      | inl l ↦ absurd (omega (arith, c.self.invariant.1.some l, ap length (c.self.invariant.2 l), c.if-self.false))
      | inr g ↦ sym (none_due s c.self.invariant.1 (omega (arith, g, c.self.invariant.1.within))) ∙ ap due c.self.view_is
    ]
