use Rattle.std.proofs.Common.{◌∙◌, ℕ, List, [], ap, sym, get_or, length}
use Rattle.imkl_model.specs.declared.feature.FeatureInfo.{FeatureInfo}
use Rattle.imkl_model.specs.ClassModel.{Model, feature_at}
use Rattle.imkl_population.specs.declared.scalar.Scalar.{Scalar}
use Rattle.imkl_population.specs.Population.{values_of}
use Rattle.imkl_population.specs.Values.{is_over}
use Rattle.imkl_population.specs.Written.{written_in}
use Rattle.imkl_population.specs.Store.{maps_of}
use Rattle.imkl_population.proofs.EndLaws.{ends_values}
use Rattle.imkl_population.proofs.finishing.first_crowded_at.Goals as goal

pub returns : goal.returns
returns c = λ o inside before h.
    let p = c.args.builder.now in
    let f = c.args.feature in
    let ends = maps_of c.args.ends.now in
    let info_is = c.feature_info-info.ensures ∙ ap (λ (m : Model). feature_at m f) c.model.ensures in
    ap (λ (i : FeatureInfo). is_over i.upper (length (values_of p o f))) (sym info_is)
    ∙ ap (λ (vs : List Scalar). is_over c.feature_info-info.result.now.upper (length vs)) (sym (ends_values p ends c.requires.ends o f h))
    ∙ ap (λ (k : ℕ). is_over c.feature_info-info.result.now.upper (length (written_in (get_or ends k []) o))) (sym c.index.ensures)
    ∙ c.first_over.ensures o before
