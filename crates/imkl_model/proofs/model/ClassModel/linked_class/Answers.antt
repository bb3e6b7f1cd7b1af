use Rattle.std.proofs.Common.{◌≡◌, ◌∙◌, List, ℕ, Some, refl, sym, ap, subst}
use Rattle.imkl_model.specs.ClassModel.{Model, class_number}
use Rattle.imkl_model.specs.Renames.{class_rename_number, linked_class}
use Rattle.imkl_model.specs.WellFormed.{IsClassModel}
use Rattle.imkl_model.specs.contracts.model.ClassModel.{the_view}
use Rattle.imkl_model.proofs.Links.{no_number, class_stays, class_by_entry, classes_in_range}
use Rattle.imkl_model.proofs.model.ClassModel.linked_class.Goals as goal

pub returns-in-Some-clause-number : goal.returns-in-Some-clause-number
returns-in-Some-clause-number c =
    let m = the_view c.self.inside in
    let q = c.args.name.now in
    let found = class_by_entry m c.self.invariant q (class_rename_number m q) c.in-Some.class refl (sym c.in-Some.is ∙ c.class.ensures) in
    subst (λ (n : Model). Some c.in-Some.class ≡ linked_class n q) c.self.view_is (sym found)

pub returns-in-None-clause-number : goal.returns-in-None-clause-number
returns-in-None-clause-number c =
    let m = the_view c.self.inside in
    let q = c.args.name.now in
    let none = no_number _ (class_rename_number m q) (sym c.in-None.is ∙ c.class.ensures) in
    let stays : linked_class m q ≡ class_number m q = ap (λ (n : List ℕ). class_number m n) (class_stays m q none) in
    c.class-in-None.ensures.number ∙ subst (λ (n : Model). class_number n q ≡ linked_class n q) c.self.view_is (sym stays)

pub returns-in-Some-clause-in_range : goal.returns-in-Some-clause-in_range
returns-in-Some-clause-in_range c = classes_in_range c.args.self.now (subst IsClassModel c.self.view_is c.self.invariant) c.args.name.now (Some c.in-Some.class) (returns-in-Some-clause-number c)
