use Rattle.std.proofs.Common.{◌∙◌, ◌+◌, sym, ap, ℕ, arith}
use Rattle.std.specs.BTreeMap.{get_by_text}
use Rattle.imkl_population.specs.IdIndex.{group_start, group_size}
use Rattle.imkl_population.proofs.IdIndex.{found-at_empty, found-at, found-behind}
use Rattle.imkl_population.proofs.id_index.IdIndex.find.Goals as goal
use Rattle.imkl_population.proofs.id_index.IdIndex.find.Goals.{else-held-mark-via-then-held-mark+else-has_id, else-held-mark-via-else-held-mark}

pub returns-in_err-number : goal.returns-in_err-number
returns-in_err-number c =
    let s = c.args.self.now in
    let id = c.args.id.text.now in
    let from = c.group-first.ensures.first ∙ ap (group_start id) (c.len.ensures ∙ s.slots.ok.0) in
    let end = c.group-first.ensures.end ∙ ap (λ (n : ℕ). group_start id n + group_size n) (c.len.ensures ∙ s.slots.ok.0) in
    c.from_residual.ensures
    ∙ sym (
    c.loop-slot.invariant
    ∙ found-at_empty s.slots.items (get_by_text s.others) c.args.heads.now id c.loop-slot.slot c.group-first.result.1 c.index-held.result.now c.loop-slot-test.true c.index-held.ensures (omega (arith, c.loop-slot-test.true, c.group-first.ensures.known, c.len.ensures, s.slots.ok.0))
    s.filled s.guarded (omega (arith, from, c.loop-slot.auto.slot)) end (omega (arith, c.in_err-number.ensures))
    )

pub returns-then-has_id : goal.returns-then-has_id
returns-then-has_id c =
    let s = c.args.self.now in
    sym (
    c.loop-slot.invariant
    ∙ found-at s.slots.items (get_by_text s.others) c.args.heads.now c.args.id.text.now c.loop-slot.slot c.group-first.result.1 c.index-held.result.now c.loop-slot-test.true c.index-held.ensures (omega (arith, c.loop-slot-test.true, c.group-first.ensures.known, c.len.ensures, s.slots.ok.0))
    c.in_ok-number.field-0 (omega (arith, c.in_ok-number.ensures.0, c.in_ok-number.ensures.1)) (c.if-held-mark.true ∙ c.mark.ensures.mark) (sym c.if-has_id.ensures)
    )

pub loop-slot-preserved : goal.loop-slot-preserved
loop-slot-preserved c =
    let s = c.args.self.now in
    let behind = found-behind s.slots.items (get_by_text s.others) c.args.heads.now c.args.id.text.now c.loop-slot.slot c.group-first.result.1 c.index-held.result.now c.loop-slot-test.true c.index-held.ensures (omega (arith, c.loop-slot-test.true, c.group-first.ensures.known, c.len.ensures, s.slots.ok.0))
    c.in_ok-number.field-0 (omega (arith, c.in_ok-number.ensures.0, c.in_ok-number.ensures.1)) in
    elim c.else-held-mark.branch [
      | else-held-mark-via-then-held-mark+else-has_id w ↦ c.loop-slot.invariant ∙ behind (λ mark. sym w.if-has_id.ensures)
      | else-held-mark-via-else-held-mark w ↦ c.loop-slot.invariant ∙ behind (λ mark. absurd (w.if-held-mark.false (mark ∙ sym c.mark.ensures.mark)))
    ]
