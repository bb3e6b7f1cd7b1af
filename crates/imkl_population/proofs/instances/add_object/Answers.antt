use Rattle.std.proofs.Common.{Vec, ℕ, ◌∷◌, ◌++◌, [], ◌∙◌, ap, sym}
use Rattle.std.specs.declared.alloc.Global.{Global}
use Rattle.imkl_population.proofs.Gathering.{list_more}
use Rattle.imkl_population.proofs.instances.add_object.Goals as goal

pub returns-clause-added : goal.returns-clause-added
returns-clause-added c = λ k lt.
    rw c.index.ensures
    (list_more c.args.lists.now c.args.class k c.index-lists-index.result c.push.new.self c.args.object c.requires (rw c.index.ensures at c.index-lists-index.is)
    (c.in_ok-push.ensures.items ∙ ap (λ (v : Vec ℕ Global). v.items ++ c.args.object ∷ []) (sym c.index-lists-index.is)))
