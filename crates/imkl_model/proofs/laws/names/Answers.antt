use Rattle.imkl_model.proofs.ModelLaws.{types_differ, types_are_defined, associations_differ, supers_differ, has_names}
use Rattle.imkl_model.proofs.laws.names.Goals as goal

pub returns-clause-types : goal.returns-clause-types
returns-clause-types c = types_differ

pub returns-clause-defined : goal.returns-clause-defined
returns-clause-defined c = types_are_defined

pub returns-clause-associations : goal.returns-clause-associations
returns-clause-associations c = associations_differ

pub returns-clause-supers : goal.returns-clause-supers
returns-clause-supers c = supers_differ

pub returns-clause-names : goal.returns-clause-names
returns-clause-names c = has_names
