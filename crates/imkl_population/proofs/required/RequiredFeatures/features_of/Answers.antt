use Rattle.std.proofs.Common.{◌≡◌, length, rules}
use Rattle.imkl_population.specs.Required.{is_required, required}
use Rattle.imkl_population.proofs.Orders.{places-small}
use Rattle.imkl_population.proofs.required.RequiredFeatures.features_of.Goals as goal

pub returns-in-Some-clause-known : goal.returns-in-Some-clause-known
returns-in-Some-clause-known c =
    let list : c.as_slice.result.now ≡ required c.args.self.now c.args.class = search rules in
    places-small (is_required c.args.self.now c.args.class) (length c.args.self.now.model.features) c.as_slice.result.now list
