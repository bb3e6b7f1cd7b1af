use Rattle.std.proofs.Common.{◌≡◌, ◌-◌, ◌∷◌, reverse, slice_set, sym, ap, ◌∙◌, subst}
use Rattle.rule_machine.specs.declared.piece.Piece.TheVariants.{Turning}
use Rattle.rule_machine.specs.StandFor.{with_counts}
use Rattle.rule_machine.proofs.Tops.{top_set, top_got}
use Rattle.rule_machine.proofs.turns.set_counts.Goals as goal

pub returns-clause-items : goal.returns-clause-items
returns-clause-items c = λ t cs e.
    let xs = c.pieces.inside.items.items in
    let n = c.len-at.result in
    let len = c.len-at.ensures ∙ c.pieces.inside.items.ok.0 in
    let top = ap (λ s. s.0) c.pieces.view_is ∙ e in
    let there = sym c.in-Turning.is ∙ top_got xs n (Turning t) c.index_mut.result.now cs len top c.index_mut.ensures.value in
    let same : c.in-Turning.turn ≡ t = cc there in
    let after = with_counts t c.args.counts in
    subst (λ u. reverse (slice_set xs (n - 1) (Turning (with_counts u c.args.counts))) ≡ Turning after ∷ cs) (sym same) (top_set xs n (Turning t) (Turning after) cs len top)
