use Rattle.std.proofs.Common.{◌∙◌, ℕ, sym, ap, arith, length}
use Rattle.imkl_population.specs.Numbers.{first_below}
use Rattle.imkl_population.specs.Finishing.{end_fault}
use Rattle.imkl_population.proofs.Firsts.{first_found}
use Rattle.imkl_population.proofs.finishing.first_end_fault.Goals as goal

pub returns-then-is_some : goal.returns-then-is_some
returns-then-is_some c =
    let p = c.args.builder.now in
    let g = λ (o : ℕ). first_below (end_fault p o) (length p.model.features) in
    first_found g (length p.objects) c.loop-object.object c.in_ok-found.found (omega arith) c.loop-object.invariant.none (c.in_ok-found.ensures.first ∙ ap g c.new-object.ensures) (sym c.if-is_some.ensures)
