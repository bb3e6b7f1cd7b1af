use Rattle.std.proofs.Common.{◌∙◌, ap, sym, length}
use Rattle.imkl_population.specs.Population.{Population}
use Rattle.imkl_population.specs.Sizes.{count_of, longest_of}
use Rattle.imkl_population.proofs.Layouts.{content-is}
use Rattle.imkl_population.proofs.Lengths.{length-list_below}
use Rattle.imkl_population.proofs.population.Population.sizes.Goals as goal

pub invariant_of-result : goal.invariant_of-result
invariant_of-result c =
    let p = c.args.self.now.content in
    let classes = ap (λ (q : Population). length q.model.classes) (sym (content-is c.self.view_is)) in
    let features = ap (λ (q : Population). length q.model.features) (sym (content-is c.self.view_is)) in
    (ap length c.in_ok-counts.ensures ∙ length-list_below (count_of p) (length p.model.classes) ∙ classes, ap length c.in_ok-longest.ensures ∙ length-list_below (longest_of p) (length p.model.features) ∙ features)
