use Rattle.std.proofs.Common.{◌∙◌, ◌-◌, ℕ, List, ap, subst, sym, get_or}
use Rattle.std.specs.List.Sorted.{IsStrictlySortedBy}
use Rattle.std.specs.Map.{keys_of}
use Rattle.std.specs.Ordering.{nat_cmp}
use Rattle.std.proofs.lemmas.List.{get_or_default, take_all}
use Rattle.imkl_population.specs.declared.entries.Entry.{Entry}
use Rattle.imkl_population.specs.declared.store.Segment.{Segment}
use Rattle.imkl_population.specs.Store.{longest_range}
use Rattle.imkl_population.proofs.Stored.{none}
use Rattle.imkl_population.proofs.Fitting.{greater}
use Rattle.imkl_population.proofs.Longest.{longest_span, entry-longer}
use Rattle.imkl_population.proofs.Placed.{keys_of-placed, span-placed}
use Rattle.imkl_population.proofs.column_ranges.ColumnRanges.longest.Goals as goal

pub loop-entry-preserved : goal.loop-entry-preserved
loop-entry-preserved c =
    let es : List Entry = c.as_slice-entry-items.result.now in
    let i = c.loop-entry.entry-index in
    let e : Entry = get_or es i none in
    entry-longer es i e c.loop-entry.longest _ c.loop-entry-test.true (get_or_default es i none e c.loop-entry-test.true) c.loop-entry.invariant
    (c.max-longest.ensures ∙ greater c.loop-entry.longest (e.end - e.start))

pub returns-clause-longest : goal.returns-clause-longest
returns-clause-longest c =
    let i = c.self.inside in
    c.loop-entry.invariant
    ∙ ap longest_span (take_all c.loop-entry.entry-index c.as_slice-entry-items.result.now c.loop-entry-test.false ∙ c.as_slice-entry-items.ensures.value)
    ∙ span-placed i.base i.entries.items
    ∙ ap longest_range c.self.view_is

pub returns-clause-ascend : goal.returns-clause-ascend
returns-clause-ascend c =
    let i = c.self.inside in
    subst (IsStrictlySortedBy nat_cmp) (sym (keys_of-placed i.base i.entries.items) ∙ ap (λ (rs : List (ℕ × Segment)). keys_of rs) c.self.view_is) c.self.invariant.ascend
