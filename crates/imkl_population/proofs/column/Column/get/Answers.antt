use Rattle.std.proofs.Common.{◌∙◌, ◌==◌, ℕ, List, ap, sym, arith, length, slice_range}
use Rattle.std.specs.Prelude.{find}
use Rattle.imkl_population.specs.declared.scalar.Scalar.{Scalar}
use Rattle.imkl_population.specs.declared.entries.Entry.{Entry}
use Rattle.imkl_population.specs.Store.{IsEntry}
use Rattle.imkl_population.specs.Written.{written_in}
use Rattle.imkl_population.proofs.Stored.{find-holds, find-lookup, map-is, value_of}
use Rattle.imkl_population.proofs.column.Column.get.Goals as goal

pub values_of-requires : goal.values_of-requires
values_of-requires c =
    let i = c.self.inside in
    let test = λ (e : Entry). e.object == c.args.object in
    let found = sym (c.in-Some.ensures ∙ ap (find test) c.deref.ensures.value) in
    let within = find-holds (IsEntry (length i.scalars.items)) test i.entries.items c.in-Some.entry c.self.invariant.within found in
    (within.0, omega (arith, within.1, ap length c.deref-in-Some.ensures.value))

pub returns-in-Some : goal.returns-in-Some
returns-in-Some c =
    let i = c.self.inside in
    let e = c.in-Some.entry in
    let o = c.args.object in
    let test = λ (e : Entry). e.object == o in
    let found = c.in-Some.ensures ∙ ap (find test) c.deref.ensures.value in
    c.values_of.ensures ∙ ap (λ (l : List Scalar). slice_range l e.start e.end) c.deref-in-Some.ensures.value
    ∙ ap (value_of i.scalars.items) found ∙ find-lookup i.scalars.items i.entries.items o
    ∙ ap (λ (w : List (ℕ × List Scalar)). written_in w o) (map-is i.scalars.items i.entries.items c.args.self.now c.self.view_is)

pub returns-in-None : goal.returns-in-None
returns-in-None c =
    let i = c.self.inside in
    let o = c.args.object in
    let test = λ (e : Entry). e.object == o in
    let found = c.in-None.ensures ∙ ap (find test) c.deref.ensures.value in
    ap (value_of i.scalars.items) found ∙ find-lookup i.scalars.items i.entries.items o
    ∙ ap (λ (w : List (ℕ × List Scalar)). written_in w o) (map-is i.scalars.items i.entries.items c.args.self.now c.self.view_is)
