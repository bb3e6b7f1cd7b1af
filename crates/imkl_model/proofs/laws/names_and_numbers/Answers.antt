use Rattle.imkl_model.proofs.ModelLaws.{classes_have_names, enumerations_have_names, literals_have_names, features_have_names}
use Rattle.imkl_model.proofs.laws.names_and_numbers.Goals as goal

pub returns-clause-classes : goal.returns-clause-classes
returns-clause-classes c = classes_have_names

pub returns-clause-enumerations : goal.returns-clause-enumerations
returns-clause-enumerations c = enumerations_have_names

pub returns-clause-literals : goal.returns-clause-literals
returns-clause-literals c = literals_have_names

pub returns-clause-features : goal.returns-clause-features
returns-clause-features c = features_have_names
