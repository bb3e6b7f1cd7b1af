use Rattle.std.proofs.Common.{ap, arith, length}
use Rattle.imkl_population.specs.Population.{Population}
use Rattle.imkl_population.specs.Store.{maps_of}
use Rattle.imkl_population.proofs.Layouts.{length-content}
use Rattle.imkl_population.proofs.builder.PopulationBuilder.into_parts.Goals as goal

pub returns-clause-idle : goal.returns-clause-idle
returns-clause-idle c = λ o le.
    let i = c.self.inside in
    c.self.invariant.idle o (omega (arith, le, length-content i.model.now i.heads.items (maps_of i.written), ap (λ (p : Population). length p.objects) c.self.view_is))
