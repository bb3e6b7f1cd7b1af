use Rattle.std.proofs.Common.{ℕ, Option, None, Some, IfSome}
use Rattle.imkl_model.proofs.Marks.{both_marked, none_marked_both}
use Rattle.imkl_model.proofs.row.Row.common.Goals as goal

some_then : (o : Option ℕ) (P Q : ℕ → Type 0) → ((k : ℕ) → P k → Q k) → IfSome o P → IfSome o Q
some_then None P Q f h = tt
some_then (Some k) P Q f h = f k h

pub returns-clause-found : goal.returns-clause-found
returns-clause-found c =
    let found = rw (c.as_slice.ensures.value, c.as_slice-2.ensures.value, c.min-count.ensures) at c.common.ensures.found in
    some_then c.common.result _ _ (λ j h. both_marked c.self.inside.words.items c.other.inside.words.items c.self.inside.count c.other.inside.count c.args.self.now c.args.other.now c.self.view_is c.other.view_is j h.0 h.1 h.2) found

pub returns-clause-none : goal.returns-clause-none
returns-clause-none c = λ e.
    let none = rw (c.as_slice.ensures.value, c.as_slice-2.ensures.value, c.min-count.ensures) at (c.common.ensures.none e) in
    none_marked_both c.self.inside.words.items c.other.inside.words.items c.self.inside.count c.other.inside.count c.args.self.now c.args.other.now c.self.view_is c.other.view_is none
