use Rattle.std.proofs.Common.{◌∙◌, List, ℕ, ◌++◌, ap}
use Rattle.imkl_population.specs.Instances.{direct_of}
use Rattle.imkl_population.proofs.Gathering.{direct-in_order}
use Rattle.imkl_population.proofs.sharing.add_sorted.Goals as goal

pub returns : goal.returns
returns c =
    c.in_ok-append.ensures.items
    ∙ ap (λ (l : List ℕ). c.args.list.now.items ++ l) (direct-in_order c.args.builder.now c.args.members.now.direct.items c.args.classes.now c.in_ok-gather.field-0.items c.in_order-objects.result.items
    c.requires.members.direct c.requires.classes (c.in_ok-gather.ensures ∙ ap (λ l. direct_of l c.args.classes.now) c.deref.ensures.value) c.in_order-objects.ensures)
