use Rattle.std.proofs.lemmas.Bool.Decides.{Decides-at}
use Rattle.imkl_model.specs.Chains.{is_or_reaches}
use Rattle.imkl_model.specs.ClassModel.{supers_in}
use Rattle.imkl_model.proofs.Warshall.{is_or_reaches-decides}
use Rattle.imkl_model.proofs.model.ClassModel.conforms.Goals as goal

pub returns-clause-chain : goal.returns-clause-chain
returns-clause-chain c =
    let supers = supers_in c.self.inside.classes in
    rw (← c.self.view_is) (Decides-at c.conforms.result (is_or_reaches supers c.args.from c.args.to) c.conforms.ensures (is_or_reaches-decides supers c.args.from c.args.to))
