use Rattle.std.proofs.Common.{ℕ, List, map, string_bytes, subst, IsPermutation}
use Rattle.std.proofs.lemmas.List.Sorted.{IsPermutation-map}
use Rattle.imkl_model.proofs.sorted_texts.in_order.Goals as goal

pub returns-clause-same : goal.returns-clause-same
returns-clause-same c =
    let moved = IsPermutation-map string_bytes _ _ c.sort_unstable.ensures.permutation in
    subst (λ (xs : List (List ℕ)). IsPermutation xs (map string_bytes c.sort_unstable.new.self.items)) c.in_ok-sorted.ensures moved
