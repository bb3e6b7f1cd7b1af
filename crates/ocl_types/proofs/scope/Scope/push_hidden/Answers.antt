use Rattle.std.proofs.Common.{refl, sym, append-nil}
use Rattle.ocl_types.proofs.ScopeIndexes.{pushed}
use Rattle.ocl_types.proofs.scope.Scope.push_hidden.Goals as goal

pub invariant_of-self-2 : goal.invariant_of-self-2
invariant_of-self-2 c = rw c.in_ok-push.ensures.pushed (pushed c.self.inside.variables.items c.self.inside.named c.self.inside.named c.self.inside.implicit.items c.self.inside.implicit.items _ c.self.invariant (λ q. refl) refl (sym (append-nil c.self.inside.implicit.items)))
