-- The index beside a scope's variables: the number of the innermost variable of each name, what each variable hides, and
-- the variables whose features can be named without them.
use Rattle.std.specs.Prelude.{◌≡◌, ℕ, suc, List, [], ◌∷◌, Option, Some, None, map, if◌then◌else◌}
use Rattle.std.specs.Option.{option_or}
use Rattle.std.specs.Ordering.{nat_cmp}
use Rattle.std.specs.Cmp.Lexicographic.{slice_cmp}
use Rattle.std.specs.BTreeMap.{BTreeMap, get_by}
use denote.Ref.{Bor}
use Rattle.imkl_model.specs.ClassModel.{Model}
use Rattle.ocl_types.specs.declared.scope.ScopeVariable as declared
use Rattle.ocl_types.specs.declared.scope.ImplicitVariable.{ImplicitVariable}
use Rattle.ocl_core.specs.Core as tree
use Rattle.ocl_types.specs.TypedTrees.{TypedTree}
use Rattle.ocl_types.specs.Scope.{Binder, Named, Implicit, Hidden, VariableScope, inside, has_binder_name, feature_of}
use Rattle.ocl_types.specs.ScopeView.{scope_view}

-- the number of a name
abbrev pub name_number : BTreeMap (Bor (List ℕ)) ℕ → List ℕ → Option ℕ
name_number m name = get_by (λ k. slice_cmp nat_cmp name k.now) m

-- the number of the innermost variable of a name, where the first of the list has number n
abbrev pub number_named : List ℕ → ℕ → VariableScope → Option ℕ
number_named name n [] = None
number_named name n (v ∷ vs) = option_or (number_named name (suc n) vs) (if has_binder_name v.binder name then Some n else None)

-- what a variable hides of those outside it
abbrev pub hidden_by : VariableScope → Binder → Option ℕ
hidden_by outer (Named name) = number_named name 0 outer
hidden_by outer Implicit = None
hidden_by outer Hidden = None

abbrev pub hidden_from : VariableScope → VariableScope → List (Option ℕ)
hidden_from outer [] = []
hidden_from outer (v ∷ vs) = hidden_by outer v.binder ∷ hidden_from (inside outer v) vs

-- a variable before others, if its features can be named without it
abbrev pub with_implicit : Binder → ImplicitVariable → List ImplicitVariable → List ImplicitVariable
with_implicit (Named name) v vs = vs
with_implicit Implicit v vs = v ∷ vs
with_implicit Hidden v vs = vs

abbrev pub implicit_from : ℕ → VariableScope → List ImplicitVariable
implicit_from n [] = []
implicit_from n (v ∷ vs) = with_implicit v.binder (record { number = n; kind = v.kind }) (implicit_from (suc n) vs)

-- the feature of a name of the last of these variables that has it
abbrev pub last_feature : Model → List ℕ → List ImplicitVariable → Option TypedTree
last_feature m name [] = None
last_feature m name (v ∷ vs) = option_or (last_feature m name vs) (feature_of m (tree.Variable v.number) v.kind name)

pub record IsIndexed (variables : List declared.ScopeVariable) (named : BTreeMap (Bor (List ℕ)) ℕ) (implicit : List ImplicitVariable) : Type 0 where
  pub names : (q : List ℕ) → name_number named q ≡ number_named q 0 (scope_view variables)
  pub hides : map (λ v. v.hides) variables ≡ hidden_from [] (scope_view variables)
  pub implicits : implicit ≡ implicit_from 0 (scope_view variables)
