use Rattle.std.proofs.Common.{◌∙◌, ◌==◌, ℕ, List, ap, sym}
use Rattle.std.specs.Prelude.{find}
use Rattle.imkl_population.specs.declared.entries.Entry.{Entry}
use Rattle.imkl_population.specs.declared.store.Segment.{Segment}
use Rattle.imkl_population.specs.FinishedPopulation.{range_in}
use Rattle.imkl_population.specs.Store.{IsPlaced}
use Rattle.imkl_population.proofs.Placed.{find-range, place_of}
use Rattle.imkl_population.proofs.Stored.{find-holds}
use Rattle.imkl_population.proofs.column_ranges.ColumnRanges.range.Goals as goal

pub segment_of-requires : goal.segment_of-requires
segment_of-requires c =
    let i = c.self.inside in
    let test = λ (e : Entry). e.object == c.args.object in
    find-holds (IsPlaced i.base) test i.entries.items c.in-Some.entry c.self.invariant.placed (sym (c.in-Some.ensures ∙ ap (find test) c.deref.ensures.value))

pub returns-in-Some : goal.returns-in-Some
returns-in-Some c =
    let i = c.self.inside in
    let o = c.args.object in
    let found = c.in-Some.ensures ∙ ap (find (λ (e : Entry). e.object == o)) c.deref.ensures.value in
    c.segment_of.ensures ∙ ap (place_of i.base) found ∙ find-range i.base i.entries.items o ∙ ap (λ (rs : List (ℕ × Segment)). range_in rs o) c.self.view_is

pub returns-in-None : goal.returns-in-None
returns-in-None c =
    let i = c.self.inside in
    let o = c.args.object in
    let found = c.in-None.ensures ∙ ap (find (λ (e : Entry). e.object == o)) c.deref.ensures.value in
    ap (place_of i.base) found ∙ find-range i.base i.entries.items o ∙ ap (λ (rs : List (ℕ × Segment)). range_in rs o) c.self.view_is
