use Rattle.std.proofs.Common.{◌≡◌, true, length, sym, ap, ◌∙◌, subst}
use Rattle.rule_slots.specs.Slots.{PartIs}
use Rattle.rule_slots.specs.Compared.{covers}
use Rattle.rule_machine.specs.Shown.{task_lists}
use Rattle.rule_machine.proofs.Blocks.{instr_of, block_is}
use Rattle.rule_machine.proofs.iterate.keeps_distinct.Goals as goal

pub returns-in-Some-IsUnique-clause-told : goal.returns-in-Some-IsUnique-clause-told
returns-in-Some-IsUnique-clause-told c =
    let pool = c.args.pool.now.items in
    λ q n i p k es compared part kinds.
    let is = block_is c.args.turn.instr c.in-Some-IsUnique.field-0 (sym c.in-Some-IsUnique.ensures) ∙ ap instr_of c.in-Some-IsUnique.field-0-is in
    let same : c.in-Some-IsUnique.kind ≡ q = cc (is, i) in
    let here = subst (λ l. PartIs l pool (length pool) c.kept_part.result es) (sym c.lists.ensures) (subst (λ x. PartIs (task_lists c.args.task) pool (length pool) x es) (sym c.kept_part.ensures) part) in
    c.are_distinct.ensures.told p k es (subst (λ w. covers w k ≡ true) (sym same) compared) here kinds
