use Rattle.std.proofs.Common.{sym, rules, Ok, Err}
use Rattle.std.proofs.lemmas.List.Sorted.{answers_always}
use Rattle.imkl_population.specs.declared.entries.Entry.{Entry}
use Rattle.imkl_population.proofs.Searches.{searched-find}
use Rattle.imkl_population.proofs.entries.find_entry.Goals as goal

-- the closure gives an entry's object
pub returns-in-Ok : goal.returns-in-Ok
returns-in-Ok c =
    let by_object = c.in-Ok.ensures.position (λ (e : Entry). e.object) (answers_always _ _ _ (λ f a r g called. search rules)) in
    sym (searched-find (λ (e : Entry). e.object) c.args.entries.now c.args.object (Ok c.in-Ok.place) c.requires c.in-Ok.ensures.bound by_object (record { object = 0; start = 0; end = 0 }))

pub returns-in-Err : goal.returns-in-Err
returns-in-Err c =
    let by_object = c.in-Err.ensures.position (λ (e : Entry). e.object) (answers_always _ _ _ (λ f a r g called. search rules)) in
    sym (searched-find (λ (e : Entry). e.object) c.args.entries.now c.args.object (Err c.in-Err.field-0) c.requires c.in-Err.ensures.bound by_object)
