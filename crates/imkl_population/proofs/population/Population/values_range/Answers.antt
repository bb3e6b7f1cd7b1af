use Rattle.std.proofs.Common.{◌≡◌, ◌∙◌, ◌<◌, ap, sym, arith, length, true, false}
use Rattle.imkl_model.specs.declared.feature.FeatureInfo.{FeatureInfo}
use Rattle.imkl_model.specs.ClassModel.{feature_at}
use Rattle.imkl_model.specs.Features.{is_opposite}
use Rattle.imkl_population.specs.FinishedPopulation.{FinishedPopulation, range_at}
use Rattle.imkl_population.specs.Store.{maps_in}
use Rattle.imkl_population.proofs.Layouts.{content-is, length-content}
use Rattle.imkl_population.proofs.Parts.{end_range, written_range}
use Rattle.imkl_population.specs.Population.{Population}
use Rattle.imkl_population.proofs.population.Population.values_range.Goals as goal

pub returns-then-is_opposite : goal.returns-then-is_opposite
returns-then-is_opposite c =
    let i = c.self.inside in
    let s = i.scalars.items in
    let inside : c.args.object < length i.heads.items = omega (arith, c.requires.object, length-content i.model.now i.heads.items (maps_in s i.written.items), ap (λ (q : Population). length q.objects) (content-is c.self.view_is)) in
    let is_end : is_opposite (feature_at i.model.now c.args.feature).role ≡ true = sym (c.is_opposite.ensures ∙ ap (λ (x : FeatureInfo). is_opposite x.role) c.feature_info.ensures) ∙ c.if-is_opposite.true in
    rw (c.deref.ensures.value, c.index.ensures, c.index-then-is_opposite.ensures) at c.range_at.ensures
    ∙ end_range i.model.now i.heads.items s i.written.items i.ends.items i.instances.items i.ranges.items c.args.object c.args.feature inside is_end
    ∙ ap (λ (p : FinishedPopulation). range_at p c.args.object c.args.feature) c.self.view_is

pub returns-else-is_opposite : goal.returns-else-is_opposite
returns-else-is_opposite c =
    let i = c.self.inside in
    let s = i.scalars.items in
    let inside : c.args.object < length i.heads.items = omega (arith, c.requires.object, length-content i.model.now i.heads.items (maps_in s i.written.items), ap (λ (q : Population). length q.objects) (content-is c.self.view_is)) in
    let not_end : is_opposite (feature_at i.model.now c.args.feature).role ≡ false = sym (c.is_opposite.ensures ∙ ap (λ (x : FeatureInfo). is_opposite x.role) c.feature_info.ensures) ∙ c.if-is_opposite.false in
    rw (c.deref-else-is_opposite.ensures.value, c.index-else-is_opposite.ensures, c.index-else-is_opposite-2.ensures) at c.range_at-else-is_opposite.ensures
    ∙ written_range i.model.now i.heads.items s i.written.items i.ends.items i.instances.items i.ranges.items c.args.object c.args.feature inside not_end
    ∙ ap (λ (p : FinishedPopulation). range_at p c.args.object c.args.feature) c.self.view_is
