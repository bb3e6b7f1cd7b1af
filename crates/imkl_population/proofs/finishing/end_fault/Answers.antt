use Rattle.std.proofs.Common.{◌≡◌, ◌∙◌, ap, sym, length, get_or, [], ℕ, true}
use Rattle.imkl_model.specs.declared.feature.FeatureInfo.{FeatureInfo}
use Rattle.imkl_model.specs.ClassModel.{Model, feature_at, belongs}
use Rattle.imkl_population.specs.Building.{bounds_fault}
use Rattle.imkl_population.specs.Population.{class_of}
use Rattle.imkl_model.specs.Features.{is_opposite}
use Rattle.imkl_population.specs.Written.{written_in}
use Rattle.imkl_population.specs.Store.{maps_of}
use Rattle.imkl_population.proofs.EndLaws.{end_fault-counted}
use Rattle.imkl_population.proofs.finishing.end_fault.Goals as goal

pub returns-then-is_opposite : goal.returns-then-is_opposite
returns-then-is_opposite c =
    let p = c.args.builder.now in
    let o = c.args.object in
    let f = c.args.feature in
    let ends = c.args.ends.now in
    let info_is : c.feature_info-info.result.now ≡ feature_at p.model f = c.feature_info-info.ensures ∙ ap (λ (m : Model). feature_at m f) c.model-model.ensures in
    let belongs_so : belongs p.model (class_of p o) f ≡ true =
    sym (c.belongs.ensures ∙ ap (λ (m : Model). belongs m c.class_of.result f) c.model-model.ensures ∙ ap (λ (k : ℕ). belongs p.model k f) c.class_of.ensures.class) ∙ c.if-belongs.true in
    let is_end : is_opposite (feature_at p.model f).role ≡ true = sym (c.is_opposite.ensures ∙ ap (λ (i : FeatureInfo). is_opposite i.role) info_is) ∙ c.if-is_opposite.true in
    let holders : c.get-holders.result.now ≡ written_in (get_or (maps_of ends) f []) o =
    c.get-holders.ensures ∙ ap (λ (k : ℕ). written_in (get_or (maps_of ends) k []) c.index-then-is_opposite.result) c.index.ensures ∙ ap (written_in (get_or (maps_of ends) f [])) c.index-then-is_opposite.ensures in
    c.bounds_fault.ensures ∙ ap (λ (i : FeatureInfo). bounds_fault i o f (length c.get-holders.result.now)) info_is
    ∙ end_fault-counted p (maps_of ends) c.requires.ends o f (length c.get-holders.result.now) belongs_so is_end (ap length holders)
