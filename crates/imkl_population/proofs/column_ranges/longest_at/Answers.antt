use Rattle.std.proofs.Common.{◌≤◌, List, ℕ, [], length, subst, sym}
use Rattle.std.specs.Map.{keys_of}
use Rattle.std.specs.List.Sorted.{IsStrictlySortedBy}
use Rattle.std.specs.Ordering.{nat_cmp}
use Rattle.std.proofs.lemmas.List.{get_or_past}
use Rattle.imkl_population.specs.declared.store.Segment.{Segment}
use Rattle.imkl_population.proofs.column_ranges.longest_at.Goals as goal

nothing_ascends : IsStrictlySortedBy nat_cmp []
unfolding IsStrictlySortedBy
nothing_ascends = tt

pub returns-in-None-clause-ascend : goal.returns-in-None-clause-ascend
returns-in-None-clause-ascend c =
    let past : length c.args.columns.now ≤ c.args.feature = c.in-None.ensures.lookup.3 in
    subst (λ (l : List (ℕ × Segment)). IsStrictlySortedBy nat_cmp (keys_of l)) (sym (get_or_past c.args.columns.now c.args.feature [] past)) nothing_ascends
