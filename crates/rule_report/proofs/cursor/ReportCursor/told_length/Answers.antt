use Rattle.std.proofs.Common.{◌≡◌, ◌<◌, ◌+◌, ◌∙◌, ℕ, List, get_or, length, sym, ap, subst, arith}
use Rattle.std.proofs.lemmas.List.{get_or_default}
use Rattle.imkl_population.specs.Population.{object_at}
use Rattle.rule_report.specs.Report.{context_objects}
use Rattle.rule_report.specs.Cursor.{CursorSeen, cursor_seen, told_text}
use Rattle.rule_report.proofs.Pairs.{next_is, told_length_last}
use Rattle.rule_report.proofs.cursor.ReportCursor.told_length.Goals as goal

pub between_length-requires-clause-from : goal.between_length-requires-clause-from
between_length-requires-clause-from c =
    let i = c.self.inside in
    let within : i.rule < length i.accepted.now.unit.rules = subst (λ (x : CursorSeen). x.rule < length x.unit.rules) (sym c.self.view_is) c.requires in
    omega (arith, c.next_rule-next.ensures, (next_is i.accepted.now.unit i.population.now.content (i.rule + 1) (omega (arith, within))).above)

pub between_length-requires-clause-next : goal.between_length-requires-clause-next
between_length-requires-clause-next c =
    let i = c.self.inside in
    let within : i.rule < length i.accepted.now.unit.rules = subst (λ (x : CursorSeen). x.rule < length x.unit.rules) (sym c.self.view_is) c.requires in
    omega (arith, within, c.next_rule-next.ensures, (next_is i.accepted.now.unit i.population.now.content (i.rule + 1) (omega (arith, within))).within)

pub returns : goal.returns
returns c =
    let i = c.self.inside in
    let u = i.accepted.now.unit in
    let p = i.population.now.content in
    let s : CursorSeen = cursor_seen u p i.rule i.at i.here i.before in
    let within : i.rule < length u.rules = subst (λ (x : CursorSeen). x.rule < length x.unit.rules) (sym c.self.view_is) c.requires in
    let objects : context_objects u p i.rule ≡ i.objects.now = sym (c.self.invariant.2 within) in
    let there : i.at < length (context_objects u p i.rule) = c.self.invariant.1.some within in
    let last : i.at + 1 ≡ length (context_objects u p i.rule) = omega (arith, there, c.if-self-objects.false, ap length objects) in
    let object : c.index-objects-self.result ≡ get_or (context_objects u p i.rule) i.at 0 =
    c.index-objects-self.is ∙ ap (λ (os : List ℕ). get_or os i.at c.index-objects-self.result) (sym objects) ∙ get_or_default (context_objects u p i.rule) i.at c.index-objects-self.result 0 there in
    told_length_last s c.args.verdict c.rule_name-name.result.now c.id.result.now (length i.objects.now) c.count.new.self c.add.new.self c.next_rule-next.result c.object_line_length-line.result c.rule_line_length.result c.between_length.result
    last c.rule_name-name.ensures (c.id.ensures ∙ ap (λ o. (object_at p o).id) object) (sym (ap length objects)) c.count.ensures c.add.ensures c.next_rule-next.ensures c.object_line_length-line.ensures.length c.rule_line_length.ensures.length c.between_length.ensures.length
    ∙ ap (λ (x : CursorSeen). length (told_text x c.args.verdict)) c.self.view_is
