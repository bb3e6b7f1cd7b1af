use Rattle.std.proofs.Common.{◌≡◌, ◌∙◌, ℕ, refl, sym, subst, arith, inl, inr}
use Rattle.std.proofs.lemmas.Bool.{false≢true}
use Rattle.std.proofs.lemmas.Bool.Decides.{leb_tells}
use Rattle.imkl_model.specs.Groups.{AreOfOneOwner}
use Rattle.imkl_model.proofs.clash.repeats_own.Goals as goal

pub returns-then-is_repeated : goal.returns-then-is_repeated
returns-then-is_repeated c = (λ _. let w = c.is_repeated.ensures.0 c.if-is_repeated.true in (c.new.result, w.0, w.1), λ _. refl)

pub loop-number-preserved : goal.loop-number-preserved
loop-number-preserved c f g lt h =
    elim (leb_tells c.loop-number.number f) [
      | inl le ↦
          let same : f ≡ c.new.result = omega (arith, le.1, lt, c.new.ensures) in
          false≢true (sym c.if-is_repeated.false ∙ c.is_repeated.ensures.1 (g, subst (λ (k : ℕ). AreOfOneOwner c.args.features.now k g) same h))
      | inr less ↦ c.loop-number.invariant f g less.1 h
    ]

pub returns : goal.returns
returns c = (
  λ e. absurd (false≢true e),
  λ h. absurd (c.loop-number.invariant h.0 h.1 (omega (arith, h.2.1, c.loop-number-test.false, c.len-number-end.ensures)) h.2),
)
