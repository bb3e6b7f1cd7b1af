use Rattle.std.proofs.Common.{◌≡◌, drop}
use Rattle.std.specs.List.{list_all}
use Rattle.rule_slots.specs.Comparer.{slots_by, is_held, are_held}
use Rattle.rule_slots.proofs.searching.are_listed_of_kind.Given as goal

-- it holds of those that are left where it holds of all
abbrev pub invariant-loop-index : goal.invariant-loop-index
invariant-loop-index l = are_held l.comparer l.quantifier l.source l.others ≡ list_all (is_held l.comparer l.quantifier l.source) (drop l.index (slots_by l.comparer l.others))
