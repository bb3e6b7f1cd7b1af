use Rattle.std.proofs.Common.{ap, ◌∙◌, drop}
use Rattle.std.proofs.lemmas.List.{drop-drop}
use Rattle.std.specs.Str.{chars}
use Rattle.ocl_base.proofs.ForAbove.{next_left}
use Rattle.owned_values.proofs.Characters.{suffix_along}
use Rattle.owned_values.proofs.texts.after.Goals as goal

-- src/texts.rt
pub loop-preserved : goal.loop-preserved
loop-preserved c =
    let i = c.loop.invariant in
    let n = next_left (λ s. s.rest.now) c.next.result c.loop.left c.next.new.self c.next.ensures.steps.0 i.0.0 in
    (suffix_along c.args.text.now c.loop.left.rest.now c.next.new.self.rest.now i.0 n.0 n.2 n.3, n.1 ∙ ap (drop 1) i.1 ∙ drop-drop 1 c.loop.counter (chars c.args.text.now))
