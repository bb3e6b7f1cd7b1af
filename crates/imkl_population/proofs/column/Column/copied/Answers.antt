use Rattle.std.proofs.Common.{◌∙◌, List, ap, arith, subst, refl, get_or, slice_range}
use Rattle.std.proofs.lemmas.List.{get_or_default, take_all}
use Rattle.imkl_population.specs.declared.scalar.Scalar.{Scalar}
use Rattle.imkl_population.specs.declared.entries.Entry.{Entry}
use Rattle.imkl_population.specs.Store.{map_of}
use Rattle.imkl_population.proofs.Stored.{none}
use Rattle.imkl_population.proofs.Standing.{AreCopied, entry-copied, copied-laid_out, copied-map}
use Rattle.imkl_population.proofs.column.Column.copied.Goals as goal
use Rattle.imkl_population.proofs.column.Column.copied.Goals.{After-new}

pub loop-entry-preserved : goal.loop-entry-preserved
loop-entry-preserved c =
    let s0 : List Scalar = c.self.inside.scalars.items in
    let all : List Entry = c.as_slice-entry-items.result.now in
    let i = c.loop-entry.entry-index in
    let e : Entry = get_or all i none in
    let lt = c.loop-entry-test.true in
    let x : Entry = record { object = e.object; start = c.len-start.result; end = c.len-in-loop-entry.result } in
    let shows = c.values_of.ensures ∙ ap (λ (l : List Scalar). slice_range l e.start e.end) c.deref.ensures.value in
    entry-copied s0 c.loop-entry.scalars.items c.add_copies.new.list.items all c.loop-entry.entries.items c.push.new.self.items i e x c.values_of.result.now lt (get_or_default all i none e lt) c.loop-entry.invariant
    shows c.in_ok-add_copies.ensures refl (omega (arith, c.len-start.ensures)) (omega (arith, c.len-in-loop-entry.ensures)) c.in_ok-push.ensures.items

-- in the end all entries are copied
all_copied : (c : After-new) → AreCopied c.self.inside.scalars.items c.self.inside.entries.items c.loop-entry.scalars.items c.loop-entry.entries.items
all_copied c =
    let whole = take_all c.loop-entry.entry-index c.as_slice-entry-items.result.now c.loop-entry-test.false ∙ c.as_slice-entry-items.ensures.value in
    subst (λ (l : List Entry). AreCopied c.self.inside.scalars.items l c.loop-entry.scalars.items c.loop-entry.entries.items) whole c.loop-entry.invariant

pub invariant_of-result : goal.invariant_of-result
invariant_of-result c =
    let i = c.self.inside in
    copied-laid_out i.scalars.items c.loop-entry.scalars.items i.entries.items c.loop-entry.entries.items (all_copied c) c.self.invariant

pub returns-clause-same : goal.returns-clause-same
returns-clause-same c =
    let i = c.self.inside in
    copied-map i.scalars.items c.loop-entry.scalars.items i.entries.items c.loop-entry.entries.items (all_copied c) ∙ ap map_of c.self.view_is
