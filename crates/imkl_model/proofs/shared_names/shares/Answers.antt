use Rattle.std.proofs.Common.{◌≡◌, ◌∙◌, ◌<◌, ◌&&◌, ℕ, List, Bool, [], true, false, length, IfSome, refl, sym, ap, subst}
use Rattle.std.specs.List.{list_any}
use Rattle.imkl_model.specs.declared.feature.FeatureInfo.{FeatureInfo}
use Rattle.imkl_model.specs.ClassModel.{feature_at, is_named_in, belongs}
use Rattle.imkl_model.specs.Groups.{model_with, group, features_named, is_shared, begins_with}
use Rattle.imkl_model.specs.Tables.{has_mark}
use Rattle.ocl_base.proofs.ForAbove.{places_below}
use Rattle.imkl_model.proofs.SharedNames.{not_shared, common_passes}
use Rattle.imkl_model.proofs.shared_names.shares.Goals as goal

no_and : (b c : Bool) → c ≡ false → (b && c) ≡ false
no_and true c e = e
no_and false c e = refl

pub returns-in_default-group : goal.returns-in_default-group
returns-in_default-group c =
    let a = model_with c.args.classes.now c.args.aliases.now in
    let m = model_with c.args.classes.now c.args.features.now in
    let name = (feature_at a c.args.alias).name in
    let is_name : c.as_str-name.result.now ≡ name = c.as_str-name.ensures ∙ ap (λ (f : FeatureInfo). f.name) c.at.ensures in
    let none : features_named m name ≡ [] = ap (features_named m) (sym is_name) ∙ sym c.in_default-group.ensures.numbers in
    sym (no_and (begins_with (group a c.args.alias) c.args.alias) (is_shared a m name) (not_shared a m name none))

pub classes_with-requires-clause-numbers : goal.classes_with-requires-clause-numbers
classes_with-requires-clause-numbers c = rw (c.numbers-2.ensures, c.in-Some.ensures.numbers) (places_below (is_named_in c.args.aliases.now c.as_str-name.result.now) (length c.args.aliases.now))

pub classes_with-requires-2-clause-numbers : goal.classes_with-requires-2-clause-numbers
classes_with-requires-2-clause-numbers c = rw (c.numbers-3.ensures, c.in-Some-group.ensures.numbers) (places_below (is_named_in c.args.features.now c.as_str-name.result.now) (length c.args.features.now))

pub returns : goal.returns
returns c =
    let a = model_with c.args.classes.now c.args.aliases.now in
    let m = model_with c.args.classes.now c.args.features.now in
    let n = length c.args.classes.now in
    let name = (feature_at a c.args.alias).name in
    let is_name : c.as_str-name.result.now ≡ name = c.as_str-name.ensures ∙ ap (λ (f : FeatureInfo). f.name) c.at.ensures in
    let old : c.numbers-2.result.now ≡ features_named a name = c.numbers-2.ensures ∙ c.in-Some.ensures.numbers ∙ ap (features_named a) is_name in
    let present : c.numbers-3.result.now ≡ features_named m name = c.numbers-3.ensures ∙ c.in-Some-group.ensures.numbers ∙ ap (features_named m) is_name in
    let first : begins_with (group a c.args.alias) c.args.alias ≡ true = ap (λ (xs : List ℕ). begins_with xs c.args.alias) (sym old ∙ c.numbers-2.ensures ∙ sym c.numbers.ensures) ∙ sym c.if-not-begins_with.ensures in
    let shared : c.is_some.result ≡ is_shared a m name =
    c.is_some.ensures ∙ common_passes (λ k. list_any (belongs a k) (features_named a name)) (λ k. list_any (belongs m k) (features_named m name)) n c.in_ok-renamed.renamed c.in_ok-named.named c.common.result
    (λ k lt. c.in_ok-renamed.ensures.1 k lt ∙ ap (list_any (belongs a k)) old) (λ k lt. c.in_ok-named.ensures.1 k lt ∙ ap (list_any (belongs m k)) present)
    (subst (λ (k : ℕ). IfSome c.common.result (λ j. (j < k) × (has_mark c.in_ok-renamed.renamed j ≡ true) × (has_mark c.in_ok-named.named j ≡ true))) c.in_ok-renamed.ensures.0 c.common.ensures.found) c.common.ensures.none in
    shared ∙ sym (ap (λ (b : Bool). b && is_shared a m name) first)
