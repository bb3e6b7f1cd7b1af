-- The pairs of an association, holder by holder, and who holds an object.
use Rattle.std.proofs.Common.{◌≡◌, ℕ, ◌==◌, List, ◌++◌, map, filter, ap, ◌∙◌}
use Rattle.std.proofs.lemmas.List.{map-append}
use Rattle.std.proofs.lemmas.List.Elements.{filter-append}
use Rattle.imkl_population.specs.Population.{holders_of}

-- the holders of an object by two lists of pairs are those by the first, then those by the second
pub holders_of-append : (o : ℕ) (qs rs : List (ℕ × ℕ)) → holders_of o (qs ++ rs) ≡ holders_of o qs ++ holders_of o rs
holders_of-append o qs rs =
    ap (map (λ (q : ℕ × ℕ). q.0)) (filter-append (λ (q : ℕ × ℕ). q.1 == o) qs rs) ∙ map-append (λ (q : ℕ × ℕ). q.0) (filter (λ (q : ℕ × ℕ). q.1 == o) qs) (filter (λ (q : ℕ × ℕ). q.1 == o) rs)
