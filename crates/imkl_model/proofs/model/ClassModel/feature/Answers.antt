use Rattle.std.proofs.Common.{◌≡◌, subst}
use Rattle.imkl_model.specs.ClassModel.{Model, feature_number}
use Rattle.imkl_model.specs.contracts.model.ClassModel.{the_view}
use Rattle.imkl_model.proofs.Lookup.{distinct, found_in_range, found_belongs, found_named}
use Rattle.imkl_model.proofs.model.ClassModel.feature.Goals as goal

pub feature_of-requires-clause-distinct : goal.feature_of-requires-clause-distinct
feature_of-requires-clause-distinct c = distinct (the_view c.self.inside) c.self.invariant

pub returns-clause-number : goal.returns-clause-number
returns-clause-number c = subst (λ (m : Model). c.feature_of.result ≡ feature_number m c.args.class c.args.name.now) c.self.view_is c.feature_of.ensures

pub returns-clause-in_range : goal.returns-clause-in_range
returns-clause-in_range c = found_in_range c.args.self.now c.args.class c.args.name.now c.feature_of.result (returns-clause-number c)

pub returns-clause-belongs : goal.returns-clause-belongs
returns-clause-belongs c = found_belongs c.args.self.now c.args.class c.args.name.now c.feature_of.result (returns-clause-number c)

pub returns-clause-named : goal.returns-clause-named
returns-clause-named c = found_named c.args.self.now c.args.class c.args.name.now c.feature_of.result (returns-clause-number c)
