use Rattle.std.proofs.Common.{All, sym, ap, subst, ◌∙◌}
use Rattle.ocl_kinds.specs.Kinds.{IsKindOf}
use Rattle.ocl_types.specs.declared.scope.ImplicitVariable.{ImplicitVariable}
use Rattle.ocl_types.specs.Scope.{VariableScope, by_feature, innermost}
use Rattle.ocl_types.specs.ScopeView.{scope_view, AreKnownVariables}
use Rattle.ocl_types.specs.ScopeIndex.{last_feature}
use Rattle.ocl_types.proofs.ScopeIndexes.{implicit_known, implicit_features}
use Rattle.ocl_types.proofs.scope.Scope.feature_named.Goals as goal

pub innermost_feature-requires : goal.innermost_feature-requires
innermost_feature-requires c =
    let m = c.args.model.now in
    subst (All (λ (v : ImplicitVariable). IsKindOf m v.kind)) (sym (c.deref.ensures.value ∙ c.self.invariant.implicits))
    (implicit_known m 0 (scope_view c.self.inside.variables.items) (subst (AreKnownVariables m) (sym c.self.view_is) c.requires))

pub returns-clause-found : goal.returns-clause-found
returns-clause-found c =
    let m = c.args.model.now in
    let name = c.args.name.now in
    c.innermost_feature.ensures.found
    ∙ ap (last_feature m name) (c.deref.ensures.value ∙ c.self.invariant.implicits)
    ∙ implicit_features m name 0 (scope_view c.self.inside.variables.items)
    ∙ ap (λ (s : VariableScope). innermost (λ n v. by_feature m name n v.binder v.kind) 0 s) c.self.view_is
