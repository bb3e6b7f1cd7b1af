use Rattle.std.proofs.Common.{◌∙◌, List, map, ap, subst, get_or, slice_range}
use Rattle.std.proofs.lemmas.List.{get_or_default, take_all}
use Rattle.imkl_population.specs.declared.scalar.Scalar.{Scalar}
use Rattle.imkl_population.specs.declared.entries.Entry.{Entry}
use Rattle.imkl_population.specs.Store.{pairs_in, entry_of, map_of}
use Rattle.imkl_population.specs.Written.{IsMap}
use Rattle.imkl_population.proofs.Stored.{none, map-is, ascending}
use Rattle.imkl_population.proofs.Holdings.{entries-met}
use Rattle.imkl_population.proofs.column.Column.pairs.Goals as goal

pub returns-in_err-pairs-clause-map : goal.returns-in_err-pairs-clause-map
returns-in_err-pairs-clause-map c =
    let i = c.self.inside in
    subst IsMap (ap map_of c.self.view_is) (ascending i.scalars.items i.entries.items c.self.invariant.ascend)

pub returns-in_err-add_pairs-clause-map : goal.returns-in_err-add_pairs-clause-map
returns-in_err-add_pairs-clause-map c =
    let i = c.self.inside in
    subst IsMap (ap map_of c.self.view_is) (ascending i.scalars.items i.entries.items c.self.invariant.ascend)

pub loop-entry-preserved : goal.loop-entry-preserved
loop-entry-preserved c =
    let s : List Scalar = c.self.inside.scalars.items in
    let es : List Entry = c.as_slice-entry-items.result.now in
    let i = c.loop-entry.entry-index in
    let e : Entry = get_or es i none in
    let shown = c.values_of.ensures ∙ ap (λ (l : List Scalar). slice_range l e.start e.end) c.deref.ensures.value in
    entries-met s es i e c.loop-entry.pairs.items c.add_pairs.new.pairs.items c.values_of.result.now c.loop-entry-test.true (get_or_default es i none e c.loop-entry-test.true) c.loop-entry.invariant shown c.in_ok-add_pairs.ensures

pub returns-clause-pairs : goal.returns-clause-pairs
returns-clause-pairs c =
    let i = c.self.inside in
    let s : List Scalar = i.scalars.items in
    c.loop-entry.invariant
    ∙ ap (λ (l : List Entry). pairs_in (map (entry_of s) l)) (take_all c.loop-entry.entry-index c.as_slice-entry-items.result.now c.loop-entry-test.false ∙ c.as_slice-entry-items.ensures.value)
    ∙ ap pairs_in (map-is s i.entries.items c.args.self.now c.self.view_is)

pub returns-clause-map : goal.returns-clause-map
returns-clause-map c =
    let i = c.self.inside in
    subst IsMap (ap map_of c.self.view_is) (ascending i.scalars.items i.entries.items c.self.invariant.ascend)
