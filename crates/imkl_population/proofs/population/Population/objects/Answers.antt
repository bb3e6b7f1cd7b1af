use Rattle.std.proofs.Common.{ap, arith, length}
use Rattle.imkl_population.specs.Population.{Population}
use Rattle.imkl_population.specs.Store.{maps_in}
use Rattle.imkl_population.proofs.Layouts.{content-is, length-content}
use Rattle.imkl_population.proofs.population.Population.objects.Goals as goal

pub returns : goal.returns
returns c = omega (arith, c.len.ensures, length-content c.self.inside.model.now c.self.inside.heads.items (maps_in c.self.inside.scalars.items c.self.inside.written.items), ap (λ (p : Population). length p.objects) (content-is c.self.view_is))
