use Rattle.std.proofs.Common.{◌∙◌, ◌<◌, ◌-◌, List, sym, arith, length, get_or}
use Rattle.std.proofs.lemmas.Bool.{eqb-true, ltb-true}
use Rattle.imkl_population.specs.declared.entries.Entry.{Entry}
use Rattle.imkl_population.proofs.Stored.{none}
use Rattle.imkl_population.proofs.Searches.{find-gap}
use Rattle.imkl_population.proofs.entries.is_gap.Goals as goal
use Rattle.imkl_population.proofs.entries.is_gap.Goals.{then-place-eq0, else-place-eq0}

pub returns-then-place-entries : goal.returns-then-place-entries
returns-then-place-entries c = λ last.
    let es : List Entry = c.args.entries.now in
    let before : 0 < c.args.place → (get_or es (c.args.place - 1) none).object < c.args.object =
    elim c.if-place-eq0.branch [
      | then-place-eq0 w ↦ λ lt. absurd (omega (arith, lt, w.if-place-eq0.true))
      | else-place-eq0 w ↦ λ lt. ltb-true _ _ (sym w.value-is ∙ c.if-entries-place.true)
    ] in
    find-gap (λ (e : Entry). e.object) es c.args.place c.args.object none c.requires.ascend c.requires.place before (λ lt. absurd (omega (arith, lt, eqb-true c.args.place (length es) last)))

pub returns-else-place-entries : goal.returns-else-place-entries
returns-else-place-entries c = λ behind.
    let es : List Entry = c.args.entries.now in
    let before : 0 < c.args.place → (get_or es (c.args.place - 1) none).object < c.args.object =
    elim c.if-place-eq0.branch [
      | then-place-eq0 w ↦ λ lt. absurd (omega (arith, lt, w.if-place-eq0.true))
      | else-place-eq0 w ↦ λ lt. ltb-true _ _ (sym w.value-is ∙ c.if-entries-place.true)
    ] in
    find-gap (λ (e : Entry). e.object) es c.args.place c.args.object none c.requires.ascend c.requires.place before (λ lt. ltb-true _ _ behind)
