-- How a builder adds an object with which nothing is wrong.
use Rattle.std.specs.Prelude.{◌≡◌, ℕ, List, Result, Ok, Err, length}
use Rattle.std.specs.declared.alloc.AllocError.{AllocError}
use Rattle.imkl_population.specs.Population.{Population}
use Rattle.imkl_population.specs.Building.{with_object}

-- The object is added, and its number given. If memory runs out, nothing changes.
abbrev pub AddsNew : Result ℕ AllocError → Population → List ℕ → ℕ → Population → Type 0
AddsNew (Ok n) old id c new = (n ≡ length old.objects) × (new ≡ with_object old id c)
AddsNew (Err e) old id c new = new ≡ old
