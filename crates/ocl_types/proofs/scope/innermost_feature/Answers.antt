use Rattle.std.proofs.Common.{◌≡◌, ◌+◌, ◌-◌, ℕ, drop, None, sym, ap, ◌∙◌, arith}
use Rattle.ocl_types.specs.declared.scope.ImplicitVariable.{ImplicitVariable}
use Rattle.ocl_core.specs.Core as tree
use Rattle.ocl_types.specs.Scope.{feature_of}
use Rattle.ocl_types.specs.ScopeIndex.{last_feature}
use Rattle.ocl_types.proofs.ScopeIndexes.{feature_here, feature_from}
use Rattle.ocl_types.proofs.scope.innermost_feature.Goals as goal

pub returns-in-Some-clause-found : goal.returns-in-Some-clause-found
returns-in-Some-clause-found c =
    let m = c.args.model.now in
    let name = c.args.name.now in
    let vs = c.args.variables.now in
    let i = c.variables.left - 1 in
    let v = c.index-variables-left.result in
    let next : i + 1 ≡ c.variables.left = omega (arith, c.variables-test.true) in
    let none : last_feature m name (drop (i + 1) vs) ≡ None = ap (λ (k : ℕ). last_feature m name (drop k vs)) next ∙ c.variables.invariant.1 in
    sym (feature_from m name vs i _ (feature_here m name vs i v (omega (arith, c.variables-test.true, c.variables.invariant.0)) none
    ∙ ap (λ (w : ImplicitVariable). feature_of m (tree.Variable w.number) w.kind name) (sym c.index-variables-left.is)
    ∙ sym (c.in-Some.ensures.found (tree.Variable v.number))))
