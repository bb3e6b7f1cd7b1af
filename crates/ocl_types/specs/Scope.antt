-- What an expression sees: variables, each with its kind. The one of number n stands at index n: the outermost, the object
-- of the context class, first.
use Rattle.std.specs.Prelude.{ℕ, suc, Bool, false, List, [], ◌∷◌, ◌++◌, Option, Some, None, bytes_eq, if◌then◌else◌}
use Rattle.std.specs.Option.{option_or}
use Rattle.imkl_model.specs.ClassModel.{Model, feature_number, feature_at}
use Rattle.ocl_kinds.specs.declared.kind.ScalarKind.TheVariants as element
use Rattle.ocl_kinds.specs.declared.kind.Kind.{Kind}
use Rattle.ocl_kinds.specs.declared.kind.Kind.TheVariants.{Scalar}
use Rattle.ocl_kinds.specs.Kinds.{feature_kind}
use Rattle.ocl_core.specs.Core as tree
use Rattle.ocl_core.specs.Core.{CoreTree}
use Rattle.ocl_types.specs.TypedTrees.{TypedTree, typed}

-- how an expression can speak of a variable: by its name; without naming it, by a feature of it; or not at all
pub data Binder : Type 0 where
  Named : (name : List ℕ) → Binder
  Implicit : Binder
  Hidden : Binder

pub record ScopeVariable : Type 0 where
  pub binder : Binder
  pub kind : Kind

abbrev pub scope_variable : Binder → Kind → ScopeVariable
scope_variable binder kind = record { binder = binder; kind = kind }

abbrev pub VariableScope : Type 0
VariableScope = List ScopeVariable

-- one more variable
abbrev pub inside : VariableScope → ScopeVariable → VariableScope
inside s v = s ++ v ∷ []

-- an object of the context class alone: its features can be named without it
abbrev pub outermost : ℕ → VariableScope
outermost context = scope_variable Implicit (Scalar (element.Class context)) ∷ []

-- ---- bare names

abbrev pub has_binder_name : Binder → List ℕ → Bool
has_binder_name (Named own) name = bytes_eq own name
has_binder_name Implicit name = false
has_binder_name Hidden name = false

-- a variable of this name
abbrev pub by_binder : List ℕ → ℕ → ScopeVariable → Option TypedTree
by_binder name n v = if has_binder_name v.binder name then Some (typed (tree.Variable n) v.kind) else None

abbrev pub feature_on : Model → CoreTree → Option ℕ → Option TypedTree
feature_on m source None = None
feature_on m source (Some f) = Some (typed (tree.Feature source f) (feature_kind (feature_at m f)))

-- the feature of this name of an object; what is no object has none
abbrev pub feature_of : Model → CoreTree → Kind → List ℕ → Option TypedTree
feature_of m source (Scalar (element.Class class)) name = feature_on m source (feature_number m class name)
feature_of m source kind name = None

-- a feature of this name of a variable that needn't be named
abbrev pub by_feature : Model → List ℕ → ℕ → Binder → Kind → Option TypedTree
by_feature m name n (Named own) kind = None
by_feature m name n Implicit kind = feature_of m (tree.Variable n) kind name
by_feature m name n Hidden kind = None

-- the first that is found from the innermost variable outwards, where the first of the list has number n
abbrev pub innermost : (ℕ → ScopeVariable → Option TypedTree) → ℕ → VariableScope → Option TypedTree
innermost find n [] = None
innermost find n (v ∷ vs) = option_or (innermost find (suc n) vs) (find n v)

-- a bare name: a variable, or else a feature of a variable that needn't be named
abbrev pub bare_name : Model → VariableScope → List ℕ → Option TypedTree
bare_name m s name =
    option_or (innermost (by_binder name) 0 s) (innermost (λ n v. by_feature m name n v.binder v.kind) 0 s)
