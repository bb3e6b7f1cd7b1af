use Rattle.std.proofs.Common.{◌+◌, ◌∷◌, refl, ap, ◌∙◌, arith}
use Rattle.rule_cost.specs.CostWalk.{surroundings_of_code}
use Rattle.rule_cost.proofs.CodeWalk.{plain_advances}
use Rattle.rule_cost.proofs.walk.plain.Goals as goal

-- src/walk.rt:26:1
pub returns : goal.returns
returns g c =
    let code = c.args.code.now in
    let length = c.length_given-length.result in
    record {
      forward = omega arith;
      within = omega (arith, c.requires.inside);
      cost = plain_advances code c.args.variables.now c.args.place c.args.instr c.requires.inside c.requires.place.within c.requires.here c.args.operands.now c.requires.shape length c.plain_charge-charges.result (c.args.place.at + 1) c.put.new.lengths refl c.plain_charge-charges.ensures c.length_given-length.ensures (c.in_ok-put.ensures ∙ ap (λ l. length ∷ l) (c.take_operands.ensures (surroundings_of_code code)));
    }
