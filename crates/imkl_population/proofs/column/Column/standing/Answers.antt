use Rattle.std.proofs.Common.{◌∙◌, List, ap, map, get_or}
use Rattle.std.specs.Prelude.{min}
use Rattle.std.proofs.lemmas.List.{get_or_default, take_all}
use Rattle.imkl_population.specs.declared.entries.Entry.{Entry}
use Rattle.imkl_population.specs.Store.{Stored, range_of, standing}
use Rattle.imkl_population.proofs.Stored.{none}
use Rattle.imkl_population.proofs.Standing.{standing-more}
use Rattle.imkl_population.proofs.column.Column.standing.Goals as goal

pub loop-entry-preserved : goal.loop-entry-preserved
loop-entry-preserved c =
    let es : List Entry = c.as_slice-entry-items.result.now in
    let i = c.loop-entry.entry-index in
    let e : Entry = get_or es i none in
    let lt = c.loop-entry-test.true in
    standing-more es i e c.loop-entry.count 18446744073709551615 c.saturating_add-count.result lt (get_or_default es i none e lt) c.loop-entry.invariant c.saturating_add-count.ensures

pub returns : goal.returns
returns c =
    c.loop-entry.invariant
    ∙ ap (λ (l : List Entry). min (standing (map range_of l)) 18446744073709551615) (take_all c.loop-entry.entry-index c.as_slice-entry-items.result.now c.loop-entry-test.false ∙ c.as_slice-entry-items.ensures.value)
    ∙ ap (λ (s : Stored). min (standing s.ranges) 18446744073709551615) c.self.view_is
