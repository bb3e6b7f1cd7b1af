use Rattle.std.proofs.Common.{◌∙◌, List, sym, arith}
use Rattle.imkl_population.specs.declared.entries.Entry.{Entry}
use Rattle.imkl_population.proofs.Searches.{find-at}
use Rattle.imkl_population.proofs.Stored.{none}
use Rattle.imkl_population.proofs.entries.entry_at.Goals as goal

pub returns-then-entries-place : goal.returns-then-entries-place
returns-then-entries-place c = λ e is.
    let es : List Entry = c.args.entries.now in
    sym is ∙ sym (find-at (λ (x : Entry). x.object) es c.args.place c.args.object none c.requires (omega (arith, c.if-place-entries.true)) c.if-entries-place.true)
