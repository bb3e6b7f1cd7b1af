use Rattle.std.proofs.Common.{◌≡◌, ◌++◌, drop, map}
use Rattle.explain_why.specs.Turns.{fold_turn}
use Rattle.explain_why.proofs.turns.copy_turns.Given as goal

-- those that were copied, and those that are left
abbrev pub invariant-loop-turn : goal.invariant-loop-turn
invariant-loop-turn l = map fold_turn l.copies.items ++ map fold_turn (drop l.turn-index l.turns) ≡ map fold_turn l.turns
