use Rattle.std.proofs.Common.{◌≡◌, ◌∙◌, ◌<◌, ℕ, List, Bool, [], true, false, length, get_or, IfSome, Option, Some, None, is_some, refl, sym, ap, subst, arith}
use Rattle.std.proofs.lemmas.Bool.{false≢true}
use Rattle.std.proofs.lemmas.List.{get_or_default, get_or_read}
use Rattle.imkl_model.specs.declared.feature.FeatureInfo.{FeatureInfo}
use Rattle.imkl_model.specs.Chains.{is_or_reaches}
use Rattle.imkl_model.specs.Tables.{has_mark}
use Rattle.imkl_model.specs.ClassModel.{feature_at, belongs, supers}
use Rattle.imkl_model.specs.Groups.{model_with, meets}
use Rattle.imkl_model.proofs.Below.{any_none}
use Rattle.imkl_model.proofs.ClashGroups.{alone}
use Rattle.imkl_model.proofs.ClashWalks.{IsWalked, owner_at, seen_again, one_more_owner, met, none_met}
use Rattle.imkl_model.proofs.clash.meet_somewhere.Goals as goal

pub returns-then-numbers-lt2 : goal.returns-then-numbers-lt2
returns-then-numbers-lt2 c =
    let m = model_with c.args.classes.now c.args.features.now in
    sym (any_none (λ k. meets m k c.args.numbers.now) (length c.args.classes.now) (λ k lt. alone m k c.args.numbers.now c.if-numbers-lt2.true))

none_is : (o : Option ℕ) → is_some o ≡ false → o ≡ None
none_is None e = refl
none_is (Some k) e = absurd (false≢true (sym e))

some_is : (o : Option ℕ) (P : ℕ → Type 0) → is_some o ≡ true → IfSome o P → (k : ℕ) × P k
some_is None P e h = absurd (false≢true e)
some_is (Some k) P e h = (k, h)

pub loop-number-preserved-then-has : goal.loop-number-preserved-then-has
loop-number-preserved-then-has c =
    let m = model_with c.args.classes.now c.args.features.now in
    let xs = c.args.numbers.now in
    let i = c.loop-number.number-index in
    let at_i = c.number-item.is ∙ get_or_default xs i c.number-item.result 0 c.loop-number-test.true in
    let owner : c.index-owner.result ≡ owner_at m xs i = c.index-owner.ensures ∙ ap (λ (f : FeatureInfo). f.owner) c.at.ensures ∙ ap (λ (k : ℕ). (feature_at m k).owner) at_i in
    record {
      owners_long = c.loop-number.invariant.owners_long;
      taken_long = c.loop-number.invariant.taken_long;
      walked = seen_again m xs i c.loop-number.owners c.loop-number.taken c.loop-number.invariant.walked (ap (has_mark c.loop-number.owners) (sym owner) ∙ sym c.has.ensures ∙ c.if-has.true);
    }

pub returns-then-is_some : goal.returns-then-is_some
returns-then-is_some c =
    let m = model_with c.args.classes.now c.args.features.now in
    let n = length c.args.classes.now in
    let xs = c.args.numbers.now in
    let i = c.loop-number.number-index in
    let at_i = c.number-item.is ∙ get_or_default xs i c.number-item.result 0 c.loop-number-test.true in
    let here = c.index-owner.ensures ∙ ap (λ (f : FeatureInfo). f.owner) c.at.ensures in
    let owner : c.index-owner.result ≡ owner_at m xs i = here ∙ ap (λ (k : ℕ). (feature_at m k).owner) at_i in
    let inside : c.number-item.result < length c.args.features.now = subst (λ (k : ℕ). k < length c.args.features.now) (sym c.number-item.is) (c.requires.numbers i c.number-item.result c.loop-number-test.true) in
    let class : c.index-owner.result < n = subst (λ (k : ℕ). k < n) (sym here) (c.requires.owners c.number-item.result inside) in
    let row_is = get_or_read c.args.below.now c.index-owner.result c.index-below-owner.result (omega (arith, class, c.requires.below.square.0)) c.index-below-owner.is [] in
    let shared = some_is c.common.result _ (sym c.is_some.ensures ∙ c.if-is_some.true) c.common.ensures.found in
    let within : shared.0 < n = omega (arith, shared.1.0, c.loop-number.invariant.taken_long) in
    let marks : has_mark c.index-below-owner.result shared.0 ≡ belongs m shared.0 (get_or xs i 0) = ap (λ (r : List Bool). has_mark r shared.0) row_is ∙ c.requires.below.marks c.index-owner.result shared.0 class within ∙ ap (is_or_reaches (supers m) shared.0) owner in
    let new : has_mark c.loop-number.owners (owner_at m xs i) ≡ false = ap (has_mark c.loop-number.owners) (sym owner) ∙ sym c.has.ensures ∙ c.if-has.false in
    sym (met m xs i c.loop-number.owners c.loop-number.taken c.loop-number.invariant.walked shared.0 within c.loop-number-test.true (omega (arith, c.loop-number-test.true)) new shared.1.1 (sym marks ∙ shared.1.2))

pub loop-number-preserved : goal.loop-number-preserved
loop-number-preserved c =
    let m = model_with c.args.classes.now c.args.features.now in
    let n = length c.args.classes.now in
    let xs = c.args.numbers.now in
    let i = c.loop-number.number-index in
    let row = c.index-below-owner.result in
    let at_i = c.number-item.is ∙ get_or_default xs i c.number-item.result 0 c.loop-number-test.true in
    let here = c.index-owner.ensures ∙ ap (λ (f : FeatureInfo). f.owner) c.at.ensures in
    let owner : c.index-owner.result ≡ owner_at m xs i = here ∙ ap (λ (k : ℕ). (feature_at m k).owner) at_i in
    let inside : c.number-item.result < length c.args.features.now = subst (λ (k : ℕ). k < length c.args.features.now) (sym c.number-item.is) (c.requires.numbers i c.number-item.result c.loop-number-test.true) in
    let class : c.index-owner.result < n = subst (λ (k : ℕ). k < n) (sym here) (c.requires.owners c.number-item.result inside) in
    let row_is = get_or_read c.args.below.now c.index-owner.result row (omega (arith, class, c.requires.below.square.0)) c.index-below-owner.is [] in
    let marks : (k : ℕ) → k < n → has_mark row k ≡ belongs m k (get_or xs i 0) = λ k lk. ap (λ (r : List Bool). has_mark r k) row_is ∙ c.requires.below.marks c.index-owner.result k class lk ∙ ap (is_or_reaches (supers m) k) owner in
    let apart = c.common.ensures.none (none_is c.common.result (sym c.is_some.ensures ∙ c.if-is_some.false)) in
    let added = rw owner at c.add.ensures.marks in
    record {
      owners_long = c.add.ensures.same ∙ c.loop-number.invariant.owners_long;
      taken_long = c.merge.ensures.same ∙ c.loop-number.invariant.taken_long;
      walked = one_more_owner m xs i c.loop-number.owners c.loop-number.taken c.loop-number.invariant.walked row c.add.new.self c.merge.new.self marks added c.merge.ensures.marks apart;
    }

pub returns : goal.returns
returns c =
    let m = model_with c.args.classes.now c.args.features.now in
    let xs = c.args.numbers.now in
    let at_end : c.loop-number.number-index ≡ length xs = omega (arith, c.loop-number-test.false, c.loop-number.auto.number-index-end) in
    let done = subst (λ (k : ℕ). IsWalked m xs k c.loop-number.owners c.loop-number.taken) at_end c.loop-number.invariant.walked in
    sym (none_met m xs c.loop-number.owners c.loop-number.taken done)
