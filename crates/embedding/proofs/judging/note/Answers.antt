use Rattle.std.proofs.Common.{◌≡◌, ◌∙◌, ap, subst, sym, Some, All}
use Rattle.std.proofs.lemmas.List.Elements.{All-push}
use Rattle.embedding.specs.declared.judging.Broken.{Broken}
use Rattle.embedding.specs.Breaks.{Breaks}
use Rattle.embedding.proofs.judging.note.Goals as goal

-- src/judging.rt
pub returns-in_ok-push-in-Fails : goal.returns-in_ok-push-in-Fails
returns-in_ok-push-in-Fails c = λ u p told all.
    let broken : Broken = record { rule = c.args.rule; object = c.args.object } in
    subst (All (Breaks u p)) (sym c.in_ok-push-in-Fails.ensures.items)
    (All-push (Breaks u p) c.args.broken.now.items broken all (told ∙ ap Some c.in-Fails.is))
