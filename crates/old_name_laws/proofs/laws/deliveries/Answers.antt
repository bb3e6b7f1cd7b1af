use Rattle.old_name_laws.proofs.Deliveries.{described_alike}
use Rattle.old_name_laws.proofs.laws.deliveries.Goals as goal

pub returns : goal.returns
returns c = described_alike
