use Rattle.std.proofs.Common.{◌∙◌, refl}
use Rattle.imkl_model.specs.declared.feature.ElementType.TheVariants as element
use Rattle.imkl_population.specs.Values.{is_of_type}
use Rattle.imkl_population.proofs.Bools.{list_all-none}
use Rattle.imkl_population.proofs.checks.are_of_type.Goals as goal

pub returns-in-Class : goal.returns-in-Class
returns-in-Class c = c.is_empty.ensures ∙ rw c.in-Class.is (list_all-none (is_of_type c.args.model.now (element.Class c.in-Class.field-0)) (λ v. refl) c.args.values.now)
