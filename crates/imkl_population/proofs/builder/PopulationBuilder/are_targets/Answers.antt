use Rattle.std.proofs.Common.{◌∙◌, ap}
use Rattle.imkl_model.specs.declared.feature.FeatureInfo.{FeatureInfo}
use Rattle.imkl_model.specs.ClassModel.{feature_at}
use Rattle.imkl_population.specs.Population.{Population}
use Rattle.imkl_population.proofs.Drafts.{no_targets}
use Rattle.imkl_population.proofs.builder.PopulationBuilder.are_targets.Goals as goal

pub returns-in_default : goal.returns-in_default
returns-in_default c =
    let p = c.args.self.now in
    c.is_empty.ensures ∙ no_targets p (feature_at p.model c.args.feature).element c.args.values.now
    (λ k h. c.in_default.not-Class k (ap (λ (i : FeatureInfo). i.element) c.feature_info.ensures ∙ ap (λ (q : Population). (feature_at q.model c.args.feature).element) c.self.view_is ∙ h))
