use Rattle.std.proofs.Common.{◌∙◌, length, sym}
use Rattle.imkl_model.specs.ClassModel.{is_named}
use Rattle.imkl_model.specs.Groups.{model_with}
use Rattle.imkl_model.specs.Held.{no_group}
use Rattle.ocl_base.proofs.ForAbove.{places_below}
use Rattle.imkl_model.proofs.Lookup.{first_is, own_is, inherited_is}
use Rattle.imkl_model.proofs.belonging.feature_of.Goals as goal

pub feature_above-requires-clause-numbers : goal.feature_above-requires-clause-numbers
feature_above-requires-clause-numbers c =
    rw c.in_ok-group.ensures.numbers (places_below (is_named (model_with c.args.classes.now c.args.features.now) c.args.name.now) (length c.args.features.now))

pub returns-in_err-group : goal.returns-in_err-group
returns-in_err-group c = c.from_residual.ensures ∙ first_is (model_with c.args.classes.now c.args.features.now) c.args.class c.args.name.now no_group c.in_err-group.ensures

pub returns-in-Some : goal.returns-in-Some
returns-in-Some c =
    sym (own_is (model_with c.args.classes.now c.args.features.now) c.args.class c.args.name.now c.in_ok-group.group.now c.in_ok-group.ensures c.requires.distinct c.in-Some.own (sym c.own.ensures ∙ c.in-Some.is))

pub returns-in-None : goal.returns-in-None
returns-in-None c =
    inherited_is (model_with c.args.classes.now c.args.features.now) c.args.class c.args.name.now c.in_ok-group.group.now c.in_ok-group.ensures c.requires.distinct (sym c.own.ensures ∙ c.in-None.is) c.feature_above.result c.feature_above.ensures
