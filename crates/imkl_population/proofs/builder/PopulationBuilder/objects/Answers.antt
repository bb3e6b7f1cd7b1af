use Rattle.std.proofs.Common.{ap, arith, length}
use Rattle.imkl_population.specs.Population.{Population}
use Rattle.imkl_population.specs.Store.{maps_of}
use Rattle.imkl_population.proofs.Layouts.{length-content}
use Rattle.imkl_population.proofs.builder.PopulationBuilder.objects.Goals as goal

pub returns : goal.returns
returns c = omega (arith, c.len.ensures, length-content c.self.inside.model.now c.self.inside.heads.items (maps_of c.self.inside.written), ap (λ (p : Population). length p.objects) c.self.view_is)
