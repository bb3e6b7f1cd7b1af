use Rattle.std.proofs.Common.{◌≡◌, ◌∙◌, List, ℕ, Some, refl, sym, ap, subst}
use Rattle.imkl_model.specs.ClassModel.{Model, feature_number}
use Rattle.imkl_model.specs.Renames.{feature_rename_number, linked_class, linked_feature}
use Rattle.imkl_model.specs.WellFormed.{IsClassModel}
use Rattle.imkl_model.specs.contracts.model.ClassModel.{the_view}
use Rattle.imkl_model.proofs.Links.{no_number, feature_stays, feature_by_entry, feature_linked, features_in_range, renames_distinct}
use Rattle.imkl_model.proofs.model.ClassModel.linked_feature.Goals as goal

pub feature-requires-clause-distinct : goal.feature-requires-clause-distinct
feature-requires-clause-distinct c = renames_distinct (the_view c.self.inside) c.self.invariant

pub returns-in-Some-clause-number : goal.returns-in-Some-clause-number
returns-in-Some-clause-number c =
    let m = the_view c.self.inside in
    let class = c.in_ok-class.class in
    let q = c.args.name.now in
    let here : linked_class m c.args.class.now ≡ Some class = subst (λ (n : Model). linked_class n c.args.class.now ≡ Some class) (sym c.self.view_is) (sym c.in_ok-class.ensures.number) in
    let found = feature_by_entry m c.self.invariant class q (feature_rename_number m class q) c.in-Some.feature refl (sym c.in-Some.is ∙ c.feature.ensures) in
    subst (λ (n : Model). Some c.in-Some.feature ≡ linked_feature n c.args.class.now q) c.self.view_is (sym (feature_linked m c.args.class.now q class here ∙ found))

pub returns-in-None-clause-number : goal.returns-in-None-clause-number
returns-in-None-clause-number c =
    let m = the_view c.self.inside in
    let class = c.in_ok-class.class in
    let q = c.args.name.now in
    let here : linked_class m c.args.class.now ≡ Some class = subst (λ (n : Model). linked_class n c.args.class.now ≡ Some class) (sym c.self.view_is) (sym c.in_ok-class.ensures.number) in
    let none = no_number _ (feature_rename_number m class q) (sym c.in-None.is ∙ c.feature.ensures) in
    let stays : linked_feature m c.args.class.now q ≡ feature_number m class q = feature_linked m c.args.class.now q class here ∙ ap (λ (n : List ℕ). feature_number m class n) (feature_stays m class q none) in
    c.feature-in-None.ensures.number ∙ subst (λ (n : Model). feature_number n class q ≡ linked_feature n c.args.class.now q) c.self.view_is (sym stays)

pub returns-in-Some-clause-in_range : goal.returns-in-Some-clause-in_range
returns-in-Some-clause-in_range c = features_in_range c.args.self.now (subst IsClassModel c.self.view_is c.self.invariant) c.args.class.now c.args.name.now (Some c.in-Some.feature) (returns-in-Some-clause-number c)
