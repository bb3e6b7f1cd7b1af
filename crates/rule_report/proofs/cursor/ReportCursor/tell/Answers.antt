use Rattle.std.proofs.Common.{◌≡◌, ◌+◌, ◌<◌, ◌++◌, ◌∙◌, List, [], ℕ, length, sym, ap, subst, arith}
use Rattle.std.specs.Prelude.{IsSome}
use Rattle.std.proofs.lemmas.List.{append-nil}
use Rattle.rule_values.specs.declared.verdict.Verdict.TheVariants.{Holds}
use Rattle.rule_report.specs.Report.{context_objects}
use Rattle.rule_report.specs.Cursor.{CursorSeen, cursor_seen, due, told_text, IsToldMore}
use Rattle.rule_report.proofs.Pairs.{is_due, text_here, told_here_is}
use Rattle.rule_report.proofs.cursor.ReportCursor.tell.Goals as goal

-- of an object for which the rule holds nothing is written, while more objects of the rule are left
pub returns-in-Holds-clause-told : goal.returns-in-Holds-clause-told
returns-in-Holds-clause-told c =
    let i = c.self.inside in
    let u = i.accepted.now.unit in
    let p = i.population.now.content in
    let w = c.args.verdict in
    let old : List ℕ = c.args.out.now.items in
    let s : CursorSeen = cursor_seen u p i.rule i.at i.here i.before in
    let within : i.rule < length u.rules = is_due s c.self.invariant.1 (subst (λ (x : CursorSeen). IsSome (due x)) (sym c.self.view_is) c.requires) in
    let left : i.at + 1 < length (context_objects u p i.rule) = omega (arith, c.if-self.true, ap length (c.self.invariant.2 within)) in
    let is = c.in-Holds.is in
    let holds : w ≡ Holds = cc in
    let none : told_text s Holds ≡ [] = text_here s Holds left in
    let same : old ≡ old ++ told_text s w = sym (append-nil old) ∙ ap (λ (x : List ℕ). old ++ x) (sym none) ∙ ap (λ v. old ++ told_text s v) (sym holds) in
    subst (λ (x : CursorSeen). IsToldMore x w old (cursor_seen u p i.rule (i.at + 1) c.count.new.self i.before) old) c.self.view_is
    (told_here_is s w old old c.count.new.self c.self.invariant.1 within left c.count.ensures same)
