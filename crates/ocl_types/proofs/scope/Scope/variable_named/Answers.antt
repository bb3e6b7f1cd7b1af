use Rattle.std.proofs.Common.{Some, sym, ap, subst, ◌∙◌, arith}
use Rattle.std.proofs.lemmas.List.Elements.{All-get_or}
use Rattle.ocl_kinds.specs.Kinds.{IsKindOf}
use Rattle.ocl_types.specs.declared.scope.ScopeVariable.{ScopeVariable}
use Rattle.ocl_core.specs.Core as tree
use Rattle.ocl_types.specs.TypedTrees.{typed}
use Rattle.ocl_types.specs.Scope.{by_binder, innermost}
use Rattle.ocl_types.specs.ScopeView.{scope_view, AreKnownVariables}
use Rattle.ocl_types.proofs.Scopes.{known_each}
use Rattle.ocl_types.proofs.ScopeIndexes.{variable_at, none_named}
use Rattle.ocl_types.proofs.scope.Scope.variable_named.Goals as goal

pub index-requires : goal.index-requires
index-requires c =
    let a = variable_at c.args.name.now c.self.inside.variables.items c.in-Some.number (sym (c.self.invariant.names c.args.name.now) ∙ sym c.number_of.ensures ∙ c.in-Some.is) in
    omega (arith, a.0, c.self.inside.variables.ok.0)

pub returns-in-Some-clause-found : goal.returns-in-Some-clause-found
returns-in-Some-clause-found c =
    let a = variable_at c.args.name.now c.self.inside.variables.items c.in-Some.number (sym (c.self.invariant.names c.args.name.now) ∙ sym c.number_of.ensures ∙ c.in-Some.is) in
    ap (λ (v : ScopeVariable). Some (typed (tree.Variable c.in-Some.number) v.kind)) c.index.ensures
    ∙ sym (a.1 c.index.result.now)
    ∙ ap (innermost (by_binder c.args.name.now) 0) c.self.view_is

pub returns-in-Some-clause-known : goal.returns-in-Some-clause-known
returns-in-Some-clause-known c = λ m known.
    let vs = c.self.inside.variables.items in
    let a = variable_at c.args.name.now vs c.in-Some.number (sym (c.self.invariant.names c.args.name.now) ∙ sym c.number_of.ensures ∙ c.in-Some.is) in
    subst (λ (v : ScopeVariable). IsKindOf m v.kind) (sym c.index.ensures)
    (All-get_or (λ (v : ScopeVariable). IsKindOf m v.kind) vs c.in-Some.number c.index.result.now a.0 (known_each m vs (subst (AreKnownVariables m) (sym c.self.view_is) known)))

pub returns-in-None-clause-found : goal.returns-in-None-clause-found
returns-in-None-clause-found c =
    sym (none_named c.args.name.now 0 (scope_view c.self.inside.variables.items) (sym (c.self.invariant.names c.args.name.now) ∙ sym c.number_of.ensures ∙ c.in-None.is))
    ∙ ap (innermost (by_binder c.args.name.now) 0) c.self.view_is
