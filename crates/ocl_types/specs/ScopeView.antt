-- What the scopes of the code are, and that their kinds are of the class model.
use Rattle.std.specs.Prelude.{◌≡◌, ℕ, Bool, true, false, Option, Some, None, List, map, All, length, take}
use denote.Ref.{Bor}
use Rattle.imkl_model.specs.ClassModel.{Model, feature_at}
use Rattle.ocl_kinds.specs.declared.kind.Kind.{Kind}
use Rattle.ocl_kinds.specs.Kinds.{IsKindOf, feature_kind}
use Rattle.ocl_types.specs.declared.scope.ScopeVariable as declared
use Rattle.ocl_core.specs.Core as tree
use Rattle.ocl_types.specs.TypedTrees.{TypedTree, typed}
use Rattle.ocl_types.specs.Scope.{Binder, Named, Implicit, Hidden, ScopeVariable, VariableScope, scope_variable}

abbrev pub unnamed : Bool → Binder
unnamed true = Implicit
unnamed false = Hidden

abbrev pub binder_by : Option (Bor (List ℕ)) → Bool → Binder
binder_by (Some name) is_implicit = Named name.now
binder_by None is_implicit = unnamed is_implicit

abbrev pub binder_of : declared.ScopeVariable → Binder
binder_of v = binder_by v.name v.is_implicit

abbrev pub variable_view : declared.ScopeVariable → ScopeVariable
variable_view v = scope_variable (binder_of v) v.kind

abbrev pub scope_view : List declared.ScopeVariable → VariableScope
scope_view vs = map variable_view vs

abbrev pub AreKnownVariables : Model → VariableScope → Type 0
AreKnownVariables m vs = All (λ v. IsKindOf m v.kind) vs

-- a scope begins with the variables of another one
abbrev pub Extends : VariableScope → VariableScope → Type 0
Extends outer s = take (length outer) s ≡ outer

-- a variable by its number, with its kind
abbrev pub typed_variable : ℕ × Kind → TypedTree
typed_variable x = typed (tree.Variable x.0) x.1

-- a feature of a variable
abbrev pub typed_feature : Model → ℕ × ℕ → TypedTree
typed_feature m x = typed (tree.Feature (tree.Variable x.0) x.1) (feature_kind (feature_at m x.1))
