use Rattle.std.proofs.Common.{◌≡◌, drop, map, None}
use Rattle.explain_why.specs.Turns.{fold_turn, breaks, last_number}
use Rattle.explain_why.proofs.turns.last_break.Given as goal

-- what was found, and the turns that are left
abbrev pub invariant-loop-turn : goal.invariant-loop-turn
invariant-loop-turn l = last_number breaks l.last (map fold_turn (drop l.turn-index l.turns)) ≡ last_number breaks None (map fold_turn l.turns)
