-- Core trees and rules, without where they lie in memory.
use Rattle.std.specs.Prelude.{◌≡◌, ℕ, Bool, false, bytes_eq, List, [], ◌∷◌, map}
use Rattle.ocl_base.specs.Lists.{repeats}
use Rattle.ocl_base.specs.declared.collection_kind.CollectionKind.{CollectionKind}
use Rattle.ocl_kinds.specs.declared.kind.ScalarKind.{ScalarKind}
use Rattle.ocl_kinds.specs.declared.kind.Kind.{Kind}
use Rattle.ocl_core.specs.declared.operator.Operator.{Operator}
use Rattle.ocl_core.specs.declared.core_tree.Iteration.{Iteration}

-- a value that stands in the text
pub data Constant : Type 0 where
  Boolean : (value : Bool) → Constant
  Integer : (value : ℕ) → Constant
  Text : (value : List ℕ) → Constant
  Literal : (enumeration literal : ℕ) → Constant
  Null : Constant
  Invalid : Constant

-- Variables are numbered by nesting: the object of the context class is variable 0, and each `let` and each iteration
-- binds the next one in its body. A fold binds the next two: the element, then the accumulator.
mutual
  pub data CoreTree : Type 0 where
    Value : (value : Constant) → CoreTree
    Variable : (number : ℕ) → CoreTree
    AllInstances : (class : ℕ) → CoreTree
    Feature : (source : CoreTree) (feature : ℕ) → CoreTree
    Operation : (operator : Operator) (first : CoreTree) (others : CoreTrees) → CoreTree
    AsCollection : (collection : CollectionKind) (element : ScalarKind) (source : CoreTree) → CoreTree
    Iterate : (iteration : Iteration) (source body : CoreTree) → CoreTree
    Fold : (kind : ScalarKind) (source start body : CoreTree) → CoreTree
    Let : (value body : CoreTree) → CoreTree
    If : (kind : Kind) (condition then_branch else_branch : CoreTree) → CoreTree

  pub data CoreTrees : Type 0 where
    no_core : CoreTrees
    one_core : (first : CoreTree) (rest : CoreTrees) → CoreTrees

-- a body inside these values, each seen by those after it
abbrev pub lets_of : List CoreTree → CoreTree → CoreTree
lets_of [] body = body
lets_of (v ∷ vs) body = Let v (lets_of vs body)

abbrev pub cores_of : List CoreTree → CoreTrees
cores_of [] = no_core
cores_of (c ∷ cs) = one_core c (cores_of cs)

-- a rule: its name, its context class and its expression
pub record CheckedRule : Type 0 where
  pub name : List ℕ
  pub context : ℕ
  pub tree : CoreTree

-- no two rules have one name
abbrev pub HaveOwnNames : List CheckedRule → Type 0
HaveOwnNames rs = repeats bytes_eq (map (λ r. r.name) rs) ≡ false
