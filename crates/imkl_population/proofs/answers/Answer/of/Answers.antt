use Rattle.std.proofs.Common.{◌≡◌, ◌∙◌, length, sym, ap, inl, inr, arith, subst}
use Rattle.std.proofs.lemmas.Slice.Eq.{slice_eq-Decides}
use Rattle.std.proofs.lemmas.Bool.Decides.{Decides-eqb}
use Rattle.imkl_population.specs.Required.{with_required}
use Rattle.imkl_population.specs.Answered.{IsAnswer}
use Rattle.imkl_population.proofs.answers.Answer.of.Goals as goal

pub returns-then-eq : goal.returns-then-eq
returns-then-eq c = λ r k is.
    let named : c.as_slice.result.now ≡ c.args.named.now = (slice_eq-Decides Decides-eqb c.as_slice.result.now c.args.named.now c.eq.result c.eq.ensures).0 c.if-eq.true in
    let kept : IsAnswer r k (record { named = c.self.inside.named.items; all = c.self.inside.all.items }) = subst (IsAnswer r k) (sym c.self.view_is) is in
    elim kept [
      | inl none ↦ absurd (grind (arith, none, ap length none, c.is_empty.ensures, c.if-not-is_empty.true))
      | inr all ↦ c.as_slice-then-eq.ensures.value ∙ all ∙ ap (with_required r k) (sym c.as_slice.ensures.value ∙ named)
    ]
