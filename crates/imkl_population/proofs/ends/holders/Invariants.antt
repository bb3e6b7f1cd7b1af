use Rattle.std.proofs.Common.{◌≡◌, ◌≤◌, ◌<◌, [], ℕ, All, length, take, get_or}
use Rattle.imkl_population.specs.Store.{map_of}
use Rattle.imkl_population.specs.Written.{written_in}
use Rattle.imkl_population.proofs.Holdings.{AreMet}
use Rattle.imkl_population.proofs.ends.holders.Given as goal

abbrev pub invariant-loop-pair : goal.invariant-loop-pair
invariant-loop-pair l = record {
  met : AreMet (map_of l.column) l.target l.holders.items (take l.pair-index l.pairs);
  none : written_in (map_of l.column) l.target ≡ [];
  low : All (λ q. q.1 ≤ l.target) (take l.pair-index l.pairs);
  ahead : (d : ℕ × ℕ) → l.pair-index < length l.pairs → l.target ≤ (get_or l.pairs l.pair-index d).1;
}
