use Rattle.std.proofs.Common.{◌≡◌, ◌∙◌, ℕ, [], ap, subst, get_or}
use Rattle.std.proofs.lemmas.Result.{IfOk-weaker}
use Rattle.imkl_population.specs.Population.{pairs}
use Rattle.imkl_population.specs.Written.{IsMap}
use Rattle.imkl_population.specs.Store.{maps_of, pairs_in}
use Rattle.imkl_population.proofs.Holdings.{builder-pairs}
use Rattle.imkl_population.proofs.builder.PopulationBuilder.pairs.Goals as goal

pub returns : goal.returns
returns c =
    let i = c.self.inside in
    let maps = maps_of i.written in
    let sorted : IsMap (get_or maps c.args.source []) = subst (λ (k : ℕ). IsMap (get_or maps k [])) c.index.ensures c.pairs.ensures.map in
    IfOk-weaker c.pairs.result (λ v. v.items ≡ pairs_in (get_or maps c.index.result [])) (λ v. v.items ≡ pairs c.args.self.now c.args.source)
    (λ v is. is ∙ ap (λ (k : ℕ). pairs_in (get_or maps k [])) c.index.ensures ∙ builder-pairs i.model.now i.heads.items maps c.args.self.now c.args.source c.self.view_is c.self.invariant.idle sorted) c.pairs.ensures.pairs
