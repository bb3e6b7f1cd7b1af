use Rattle.std.proofs.Common.{◌≡◌, ◌++◌, drop, length, map}
use Rattle.std.specs.List.{filter}
use Rattle.explain_why.specs.Turns.{fold_turn, is_told}
use Rattle.explain_why.proofs.turns.kept_turns.Given as goal

-- those that were kept, and those that are left
abbrev pub invariant-loop-turn : goal.invariant-loop-turn
invariant-loop-turn l =
    map fold_turn l.kept.items ++ filter (is_told l.change l.broken (length l.turns)) (map fold_turn (drop l.turn-index l.turns))
    ≡ filter (is_told l.change l.broken (length l.turns)) (map fold_turn l.turns)
