use Rattle.std.proofs.Common.{◌≡◌, ◌∙◌, ap, refl, ℕ, List}
use Rattle.imkl_population.specs.Store.{Stored, maps_of, object_row}
use Rattle.imkl_population.proofs.Stored.{on_ok, on_err}
use Rattle.imkl_population.proofs.store.Store.put.Goals as goal
use Rattle.imkl_population.proofs.store.Store.put.Goals.{After-set}

-- room that was made changes no row
kept : (c : After-set) (o : ℕ) → object_row (maps_of c.make_room.new.self) o ≡ object_row (maps_of c.args.self.now) o
kept c o = ap (λ (s : List Stored). object_row (maps_of s) o) c.in_ok-make_room.ensures ∙ c.in_ok-grow.ensures.same o

pub returns-clause-ok : goal.returns-clause-ok
returns-clause-ok c = on_ok c.set.result c.set.ensures.ok (λ put o. put o ∙ rw (kept c o) refl)

pub returns-clause-err : goal.returns-clause-err
returns-clause-err c = on_err c.set.result c.set.ensures.err (λ same o. same o ∙ kept c o)
