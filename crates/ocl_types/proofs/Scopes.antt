-- Scopes that grow and are cut back.
use Rattle.std.proofs.Common.{◌≡◌, ◌≤◌, ℕ, List, [], ◌∷◌, ◌++◌, length, take, All, sym, ap, ◌∙◌, arith}
use Rattle.std.proofs.lemmas.List.{map-append, length-take, take-append-le, take-map}
use Rattle.std.proofs.lemmas.List.Elements.{All-push, All-nil, All-cons, All-head, All-tail}
use Rattle.std.proofs.Math.Seq.{take-length}
use Rattle.imkl_model.specs.ClassModel.{Model}
use Rattle.ocl_kinds.specs.Kinds.{IsKindOf}
use Rattle.ocl_types.specs.declared.scope.ScopeVariable as declared
use Rattle.ocl_types.specs.Scope.{ScopeVariable, VariableScope, inside}
use Rattle.ocl_types.specs.ScopeView.{variable_view, scope_view, AreKnownVariables, Extends}

-- the view of one with one more variable
pub view_inside : (vs : List declared.ScopeVariable) (v : declared.ScopeVariable) → scope_view (vs ++ v ∷ []) ≡ inside (scope_view vs) (variable_view v)
view_inside vs v = map-append variable_view vs (v ∷ [])

-- the view of its outermost variables
pub view_cut : (n : ℕ) (vs : List declared.ScopeVariable) → scope_view (take n vs) ≡ take n (scope_view vs)
view_cut n vs = sym (take-map variable_view n vs)

-- the kinds of one with one more variable
pub known_inside : (m : Model) (s : VariableScope) (v : ScopeVariable) → AreKnownVariables m s → IsKindOf m v.kind → AreKnownVariables m (inside s v)
known_inside m s v h k = All-push (λ (w : ScopeVariable). IsKindOf m w.kind) s v h k

-- the kinds of what it is the view of
pub known_each : (m : Model) (vs : List declared.ScopeVariable) → AreKnownVariables m (scope_view vs) → All (λ v. IsKindOf m v.kind) vs
known_each m [] h = All-nil (λ (v : declared.ScopeVariable). IsKindOf m v.kind)
known_each m (v ∷ vs) h =
    let P : ScopeVariable → Type 0 = λ w. IsKindOf m w.kind in
    All-cons (λ (w : declared.ScopeVariable). IsKindOf m w.kind) v vs (All-head P (variable_view v) (scope_view vs) h)
    (known_each m vs (All-tail P (variable_view v) (scope_view vs) h))

-- ---- a scope begins with another one

no_longer : (outer s : VariableScope) → Extends outer s → length outer ≤ length s
no_longer outer s h = omega (arith, ap length h, length-take (length outer) s)

-- with itself
pub extends_itself : (s : VariableScope) → Extends s s
extends_itself s = take-length s

-- still, with one more variable
pub extends_inside : (outer s : VariableScope) (v : ScopeVariable) → Extends outer s → Extends outer (inside s v)
extends_inside outer s v h = take-append-le (length outer) s (v ∷ []) (no_longer outer s h) ∙ h

pub ruleset scopes = (view_inside, view_cut, known_inside, known_each, extends_itself, extends_inside)
