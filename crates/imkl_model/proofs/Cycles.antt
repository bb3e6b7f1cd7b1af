-- Cycles.
use Rattle.std.proofs.Common.{ℕ, List, Decides, length}
use Rattle.imkl_model.specs.Chains.{IsCyclic, is_cyclic, reaches}
use Rattle.imkl_model.proofs.Warshall.{in_range, reaches-decides}
use Rattle.imkl_model.proofs.Below.{any_found, found_any}

-- the test `is_cyclic` decides whether a class reaches itself
pub cyclic-decides : (supers : List (List ℕ)) → Decides (is_cyclic supers) (IsCyclic supers)
cyclic-decides supers = (
  λ h. let w = found_any (λ c. reaches supers c c) (length supers) h in (w.0, (reaches-decides supers w.0 w.0).0 w.2),
  λ h. any_found (λ c. reaches supers c c) (length supers) h.0 (in_range supers h.0 h.1.1.0 h.1.1.1) ((reaches-decides supers h.0 h.0).1 h.1),
)
