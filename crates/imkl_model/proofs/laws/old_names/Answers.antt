use Rattle.imkl_model.proofs.Links.{linked_classes_are_there, linked_features_belong, present_classes_stay, present_features_stay, names_stay}
use Rattle.imkl_model.proofs.laws.old_names.Goals as goal

pub returns-clause-classes : goal.returns-clause-classes
returns-clause-classes c = linked_classes_are_there

pub returns-clause-features : goal.returns-clause-features
returns-clause-features c = linked_features_belong

pub returns-clause-present_classes : goal.returns-clause-present_classes
returns-clause-present_classes c = present_classes_stay

pub returns-clause-present_features : goal.returns-clause-present_features
returns-clause-present_features c = present_features_stay

pub returns-clause-none : goal.returns-clause-none
returns-clause-none c = names_stay
