use Rattle.std.proofs.Common.{sym, ◌∙◌}
use Rattle.std.proofs.lemmas.List.{length-map}
use Rattle.owned_values.specs.Meant.{meant_element, meant_elements}
use Rattle.rule_values.proofs.ForAbove.{different_lengths}
use Rattle.owned_values.proofs.equalities.same_lists.Goals as goal

-- src/equalities.rt
pub returns-then-left-right : goal.returns-then-left-right
returns-then-left-right c =
    sym (different_lengths (meant_elements c.args.left.now) (meant_elements c.args.right.now) (λ e. c.if-left-right.true (sym (length-map c.args.left.now meant_element) ∙ e ∙ length-map c.args.right.now meant_element)))
