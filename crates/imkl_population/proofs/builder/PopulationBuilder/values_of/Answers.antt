use Rattle.std.proofs.Common.{◌<◌, ◌∙◌, ℕ, [], ap, sym, arith, length, get_or}
use Rattle.imkl_population.specs.Population.{Population, written_at}
use Rattle.imkl_population.specs.Written.{written_in}
use Rattle.imkl_population.specs.Store.{maps_of}
use Rattle.imkl_population.proofs.Layouts.{length-content, written-column}
use Rattle.imkl_population.proofs.builder.PopulationBuilder.values_of.Goals as goal

pub returns : goal.returns
returns c =
    let i = c.self.inside in
    let maps = maps_of i.written in
    let inside : c.args.object < length i.heads.items = omega (arith, c.requires, length-content i.model.now i.heads.items maps, ap (λ (p : Population). length p.objects) c.self.view_is) in
    c.get.ensures ∙ ap (λ (k : ℕ). written_in (get_or maps k []) c.index-2.result) c.index.ensures ∙ ap (written_in (get_or maps c.args.feature [])) c.index-2.ensures
    ∙ sym (written-column i.model.now i.heads.items maps c.args.object c.args.feature inside) ∙ ap (λ (p : Population). written_at p c.args.object c.args.feature) c.self.view_is
