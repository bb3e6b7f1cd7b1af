-- What a new machine's stacks reserve: no more than the deepest rule wants.
use Rattle.std.proofs.Common.{◌≡◌, ℕ, ◌+◌, ◌*◌, ◌≤◌, arith, sym, subst, inl, inr}
use Rattle.std.proofs.lemmas.Bool.Decides.{leb_tells}
use Rattle.std.specs.Prelude.{max}
use Rattle.imkl_model.specs.ClassModel.{Model}
use Rattle.rule_code.specs.Content.{Content}
use Rattle.rule_verify.specs.UnitRules.{unit_rule, depths_of}
use Rattle.rule_machine.specs.declared.state.State.{State}
use Rattle.rule_machine.specs.Shown.{HasRoomFor, HasRoomForRules, HasRoomOfBoth, IsNoMoreThan, HasRoomForRulesAlone}

-- the greater of two numbers is within what both are
max_within : (a b n : ℕ) → a ≤ n → b ≤ n → max a b ≤ n
max_within a b n le of = omega (arith, le, of)

one_more_wanted : (wants : ℕ → ℕ) (count old new : ℕ) → new ≡ max old (wants count) → IsNoMoreThan count wants old → IsNoMoreThan (count + 1) wants new
one_more_wanted wants count old new e h = λ n all. subst (λ k. k ≤ n) (sym e) (max_within old (wants count) n (h n (λ r lt. all r (omega (arith, lt)))) (all count (omega arith)))

-- of a rule more
pub alone_next : (model : Model) (u : Content) (count : ℕ) (old new : State) → HasRoomOfBoth (depths_of model u count (unit_rule u count)) old new → HasRoomForRulesAlone model u count old → HasRoomForRulesAlone model u (count + 1) new
alone_next model u count old new g h =
    record {
      operands = one_more_wanted (λ r. (depths_of model u r (unit_rule u r)).operands + 2) count old.operands.1 new.operands.1 g.operands h.operands;
      variables = one_more_wanted (λ r. (depths_of model u r (unit_rule u r)).variables + 2) count old.variables.1 new.variables.1 g.variables h.variables;
      pieces = one_more_wanted (λ r. 2 * (depths_of model u r (unit_rule u r)).blocks + 3) count old.pieces.1 new.pieces.1 g.pieces h.pieces;
    }

-- and there is room for a rule more
pub room_next : (model : Model) (u : Content) (count : ℕ) (old new : State) → HasRoomFor (depths_of model u count (unit_rule u count)) new → old.operands.1 ≤ new.operands.1 → old.variables.1 ≤ new.variables.1 → old.pieces.1 ≤ new.pieces.1 → HasRoomForRules model u count old → HasRoomForRules model u (count + 1) new
room_next model u count old new here a b c h = λ r lt. elim (leb_tells count r) [
  | inl from ↦ let last : count ≡ r = omega (arith, from.1, lt) in subst (λ k. HasRoomFor (depths_of model u k (unit_rule u k)) new) last here
  | inr less ↦ let had = h r less.1 in record { operands = omega (arith, had.operands, a); variables = omega (arith, had.variables, b); pieces = omega (arith, had.pieces, c) }
]
