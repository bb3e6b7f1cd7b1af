use Rattle.std.proofs.Common.{◌≡◌, ◌+◌, ◌-◌, ◌∷◌, ◌++◌, [], Some, length, take, sym, subst, ◌∙◌}
use Rattle.std.specs.Prelude.{slice_get, IfOk, OnOk, if◌then◌else◌}
use Rattle.std.proofs.lemmas.Option.{same_Some}
use Rattle.rule_slots.specs.declared.slot.Slot.{Slot}
use Rattle.rule_slots.specs.Slots.{lists_in, held_slots}
use Rattle.rule_machine.proofs.keeping.keep_taken.Goals as goal

pub returns-then-keep-clause-kept : goal.returns-then-keep-clause-kept
returns-then-keep-clause-kept c = λ e g.
    let l = lists_in c.args.lists in
    let p = c.args.pool.now.items in
    let u = c.args.turn.now in
    let taken = c.element-taken.result in
    let read = subst (λ q. slice_get (held_slots l q u.source) (u.next - 1) ≡ Some taken) c.deref.ensures.value c.element-taken.ensures in
    let same : taken ≡ e = same_Some taken e (sym read ∙ g) in
    let kept = subst (λ (x : Slot). OnOk c.keep_if.result (c.keep_if.new.pool.items ≡ take (u.opened + u.kept) p ++ x ∷ [])) same c.keep_if.ensures.kept in
    subst (λ b. OnOk c.keep_if.result (c.keep_if.new.pool.items ≡ take (u.opened + u.kept) p ++ (if b then e ∷ [] else []))) (sym c.if-keep.true) kept

pub returns-then-keep-clause-count : goal.returns-then-keep-clause-count
returns-then-keep-clause-count c = λ e.
    subst (λ b. IfOk c.keep_if.result (λ n. n ≡ length (if b then e ∷ [] else []))) (sym c.if-keep.true) c.keep_if.ensures.count
