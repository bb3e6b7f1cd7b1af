use Rattle.std.proofs.Common.{◌≡◌, ◌∙◌, Some, None, sym, arith}
use Rattle.std.proofs.lemmas.Bool.{false≢true, lt-ltb, ltb-true}
use Rattle.imkl_model.specs.ClassModel.{feature_in, own_feature_number}
use Rattle.imkl_model.proofs.Doubles.{earlier_is, first_before, some_own}
use Rattle.imkl_model.proofs.clash.is_repeated.Goals as goal

pub returns-in-Some : goal.returns-in-Some
returns-in-Some c =
    let fs = c.args.features.now in
    let f = c.args.number in
    let first : own_feature_number fs (feature_in fs f).owner (feature_in fs f).name ≡ Some c.in-Some.first = rw (c.as_str.ensures, c.at-feature.ensures) at (sym c.own.ensures ∙ c.in-Some.is) in (
      λ e. earlier_is fs f c.requires c.in-Some.first first (let less = ltb-true c.index.result c.index-in-Some.result e in omega (arith, less, c.index.ensures, c.index-in-Some.ensures)),
      λ h. let less = first_before fs f c.requires c.in-Some.first first h in lt-ltb c.index.result c.index-in-Some.result (omega (arith, less, c.index.ensures, c.index-in-Some.ensures)),
    )

pub returns-in-None : goal.returns-in-None
returns-in-None c =
    let fs = c.args.features.now in
    let f = c.args.number in
    let none : own_feature_number fs (feature_in fs f).owner (feature_in fs f).name ≡ None = rw (c.as_str.ensures, c.at-feature.ensures) at (sym c.own.ensures ∙ c.in-None.is) in
    (λ e. absurd (false≢true e), λ h. absurd (some_own fs f c.requires none))
