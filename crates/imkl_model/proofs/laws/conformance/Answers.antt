use Rattle.imkl_model.proofs.ModelLaws.{conforms_to_itself, conforms_along, inherits, conforms_one_way, conforms_within}
use Rattle.imkl_model.proofs.laws.conformance.Goals as goal

pub returns-clause-reflexive : goal.returns-clause-reflexive
returns-clause-reflexive c = λ m. conforms_to_itself m

pub returns-clause-transitive : goal.returns-clause-transitive
returns-clause-transitive c = conforms_along

pub returns-clause-inherits : goal.returns-clause-inherits
returns-clause-inherits c = inherits

pub returns-clause-one_way : goal.returns-clause-one_way
returns-clause-one_way c = conforms_one_way

pub returns-clause-within : goal.returns-clause-within
returns-clause-within c = conforms_within
