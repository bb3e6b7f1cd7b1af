use Rattle.std.proofs.Common.{◌≡◌, ◌∷◌, [], ◌++◌, ℕ, length, refl, ap, ◌∙◌, arith}
use Rattle.ocl_types.proofs.ScopeIndexes.{numbered, pushed}
use Rattle.ocl_types.proofs.scope.Scope.push_implicit.Goals as goal

pub invariant_of-self-in-Ok : goal.invariant_of-self-in-Ok
invariant_of-self-in-Ok c =
    let vs = c.self.inside.variables.items in
    let others = c.self.inside.implicit.items in
    let next : c.len-number.result ≡ length vs = omega (arith, c.len-number.ensures, c.self.inside.variables.ok.0) in
    rw c.in_ok-push.ensures.pushed (pushed vs c.self.inside.named c.self.inside.named others c.push-2.new.items.items _ c.self.invariant (λ q. refl) refl
    (c.in-Ok.ensures.pushed ∙ ap (λ (n : ℕ). others ++ numbered n c.args.kind ∷ []) next))
