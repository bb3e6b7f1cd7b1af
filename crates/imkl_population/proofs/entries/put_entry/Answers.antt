use Rattle.std.proofs.Common.{rules, ◌≡◌, ◌∙◌, ◌<◌, All, List, set, subst, sym, Ok, Err}
use Rattle.std.specs.List.{insert}
use Rattle.std.specs.List.Sorted.{IsStrictlySortedBy}
use Rattle.std.specs.Ordering.{nat_cmp}
use Rattle.std.proofs.lemmas.List.Sorted.{answers_always}
use Rattle.imkl_population.specs.declared.entries.Entry.{Entry}
use Rattle.imkl_population.specs.Store.{objects_in, put_entry}
use Rattle.imkl_population.proofs.Searches.{searched-put, put-last}
use Rattle.imkl_population.proofs.entries.put_entry.Goals as goal

-- the closure gives an entry's object
pub returns-in-Ok-clause-ok : goal.returns-in-Ok-clause-ok
returns-in-Ok-clause-ok c =
    let by_object = c.in-Ok.ensures.position (λ (e : Entry). e.object) (answers_always _ _ _ (λ f a r g called. search rules)) in
    let ascend = subst (λ (l : List Entry). IsStrictlySortedBy nat_cmp (objects_in l)) (sym c.deref-2.ensures.value) c.requires in
    subst (λ (l : List Entry). set l c.in-Ok.place c.args.entry ≡ put_entry l c.args.entry) c.deref-2.ensures.value
    (searched-put c.deref-2.result.now c.args.entry ascend (Ok c.in-Ok.place) c.in-Ok.ensures.bound by_object)

pub returns-in_ok-insert-in-Err-clause-ok : goal.returns-in_ok-insert-in-Err-clause-ok
returns-in_ok-insert-in-Err-clause-ok c =
    let by_object = c.in-Err.ensures.position (λ (e : Entry). e.object) (answers_always _ _ _ (λ f a r g called. search rules)) in
    let ascend = subst (λ (l : List Entry). IsStrictlySortedBy nat_cmp (objects_in l)) (sym c.deref-2.ensures.value) c.requires in
    c.in_ok-insert-in-Err.ensures.items ∙ subst (λ (l : List Entry). insert l c.in-Err.place c.args.entry ≡ put_entry l c.args.entry) c.deref-2.ensures.value
    (searched-put c.deref-2.result.now c.args.entry ascend (Err c.in-Err.place) c.in-Err.ensures.bound by_object)

pub returns-then-goes_last-clause-ok : goal.returns-then-goes_last-clause-ok
returns-then-goes_last-clause-ok c =
    let before = subst (λ (l : List Entry). All (λ (e : Entry). e.object < c.args.entry.object) l) c.deref.ensures.value (c.goes_last.ensures c.if-goes_last.true) in
    c.in_ok-push.ensures.items ∙ put-last c.args.entries.now.items c.args.entry before
