use Rattle.std.proofs.Common.{◌∙◌, List, ap, length}
use Rattle.std.specs.Prelude.{min}
use Rattle.std.proofs.lemmas.List.{take_all}
use Rattle.imkl_population.specs.Store.{Stored, scalars_of}
use Rattle.imkl_population.proofs.Placed.{count-more}
use Rattle.imkl_population.proofs.store.Store.value_count.Goals as goal

pub loop-column-preserved : goal.loop-column-preserved
loop-column-preserved c =
    count-more c.as_slice-column-items.result.now c.loop-column.column-index c.column-item.result c.loop-column.count c.value_count.result 18446744073709551615 c.saturating_add-count.result c.loop-column-test.true c.column-item.is c.loop-column.invariant c.value_count.ensures
    c.saturating_add-count.ensures

pub returns : goal.returns
returns c =
    c.loop-column.invariant
    ∙ ap (λ (cs : List Stored). min (length (scalars_of cs)) 18446744073709551615) (take_all c.loop-column.column-index c.as_slice-column-items.result.now c.loop-column-test.false ∙ c.as_slice-column-items.ensures.value ∙ c.self.view_is)
