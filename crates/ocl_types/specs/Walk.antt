-- The walk in the steps that the code makes.
use Rattle.std.specs.Prelude.{◌≡◌, ℕ, List, [], ◌∷◌, map, length, Option, None, Result, Ok, Box, Vec}
use Rattle.std.specs.Global.{Global}
use Rattle.imkl_model.specs.ClassModel.{Model}
use Rattle.ocl_base.specs.Steps.{◌>>=◌}
use Rattle.ocl_kinds.specs.declared.kind.ScalarKind.{ScalarKind}
use Rattle.ocl_kinds.specs.declared.kind.Kind.{Kind}
use Rattle.ocl_kinds.specs.declared.kind.Kind.TheVariants.{Scalar}
use Rattle.ocl_text.specs.declared.tree.BinaryOperator.{BinaryOperator}
use Rattle.ocl_text.specs.declared.tree.IteratorKind.{IteratorKind}
use Rattle.ocl_text.specs.declared.tree.Navigation.{Navigation}
use Rattle.ocl_text.specs.declared.tree.Binding.{Binding}
use Rattle.ocl_text.specs.declared.tree.Expression.{Expression}
use Rattle.ocl_text.specs.declared.tree.Expression.TheVariants as e
use Rattle.ocl_text.specs.declared.tree.Link.{Link}
use Rattle.ocl_text.specs.Tree as t
use Rattle.ocl_text.specs.Tree.{VariableTree, Variables, SurfaceTree, Trees, Bound, offset_of, type_offset}
use Rattle.ocl_text.specs.View.{link_of, spine_of}
use Rattle.ocl_core.specs.Core.{CoreTree, lets_of}
use Rattle.ocl_types.specs.TypedTrees.{TypedTree, typed}
use Rattle.ocl_types.specs.Faults.{TypeFaultAt}
use Rattle.ocl_types.specs.Operators.{class_operator}
use Rattle.ocl_types.specs.Scope.{VariableScope, Named, scope_variable, inside}
use Rattle.ocl_types.specs.Elaboration.{Elaborated, Gathered, Receiver, class_before, left_of, binary_of, arguments_of, classes_of_arguments, seen_by_arguments, instances_call, call_of, source_of_arrow, inner_scope, declared_element, element_variable, iterate_of, declared_kind, bound_value, accumulator_kind, fold_scope, fold_of, elaborate, elaborates}

-- an expression that is a `let`, and one that is an `if`
abbrev pub IsLet : Expression → Type 0
IsLet x = (first : Box Binding Global) × (others : Vec Binding Global) × (body : Box Expression Global) × (offset : ℕ) × (x ≡ e.Let first others body offset)

abbrev pub IsIf : Expression → Type 0
IsIf x = (condition then_branch else_branch : Box Expression Global) × (offset : ℕ) × (x ≡ e.If condition then_branch else_branch offset)

-- the name of the class in `C.allInstances(..)`, with its offset
abbrev pub class_of_call : SurfaceTree → Option (List ℕ × ℕ)
class_of_call (t.Call source navigation name arguments offset) = class_before source navigation name
class_of_call tree = None

-- the same of an operand with its first link
abbrev pub class_before_links : SurfaceTree → List Link → Option (List ℕ × ℕ)
class_before_links first [] = None
class_before_links first (l ∷ ls) = class_of_call (link_of l first)

-- a scope that ends with the variable of a `let`, and its value
pub record BoundCore : Type 0 where
  pub scope : VariableScope
  pub value : CoreTree

abbrev pub bound_core : VariableScope → CoreTree → BoundCore
bound_core scope value = record { scope = scope; value = value }

-- a scope that ends with the variables of several bindings, and their values
pub record BoundCores : Type 0 where
  pub scope : VariableScope
  pub values : List CoreTree

abbrev pub bound_cores : VariableScope → List CoreTree → BoundCores
bound_cores scope values = record { scope = scope; values = values }

-- an accumulator's kind and its start value
pub record FoldStart : Type 0 where
  pub kind : ScalarKind
  pub core : CoreTree

abbrev pub fold_start : ScalarKind → CoreTree → FoldStart
fold_start kind core = record { kind = kind; core = core }

-- what a fold has before its body
pub record FoldBegun : Type 0 where
  pub source : Gathered
  pub element : Kind
  pub start : FoldStart

abbrev pub begun_with : Gathered → Kind → FoldStart → FoldBegun
begun_with source element start = record { source = source; element = element; start = start }

module _ (m : Model) (context : ℕ) where
  -- an operator after its left operand, which stands at its own offset
  abbrev pub binary_after : VariableScope → BinaryOperator → TypedTree → ℕ → SurfaceTree → ℕ → Elaborated
  binary_after s operator x left right offset = do
    _ ← left_of m operator x.kind left
    y ← elaborate m context s right
    binary_of m operator x y (offset_of right) offset

  -- a call after what it is applied to
  abbrev pub call_after : VariableScope → Receiver → Navigation → List ℕ → Trees → ℕ → Elaborated
  call_after s x navigation name arguments offset = do
    xs ← arguments_of (class_operator name) (classes_of_arguments m arguments) (elaborates m context (seen_by_arguments x navigation s) arguments)
    call_of m (length s) x navigation name xs offset

  -- `allInstances` after its class
  abbrev pub instances_after : VariableScope → ℕ → List ℕ → Trees → ℕ → Elaborated
  instances_after s class name arguments offset = do
    xs ← arguments_of (class_operator name) (classes_of_arguments m arguments) (elaborates m context s arguments)
    instances_call class xs offset

  -- an iteration after its source
  abbrev pub iterate_after : VariableScope → IteratorKind → TypedTree → Variables → SurfaceTree → ℕ → Elaborated
  iterate_after s iterator x variables body offset = do
    inner ← inner_scope m s (source_of_arrow x) variables
    y ← elaborate m context inner body
    iterate_of m (length s) iterator (source_of_arrow x) variables y (offset_of body)

  -- the start value of an accumulator
  abbrev pub start_of : VariableScope → Bound → Result FoldStart TypeFaultAt
  start_of s b = do
    k ← accumulator_kind m b.declared
    y ← elaborate m context s b.value
    c ← bound_value m (Scalar k) y (type_offset b.declared)
    Ok (fold_start k c)

  -- a fold after its source
  abbrev pub fold_after : VariableScope → TypedTree → VariableTree → Bound → SurfaceTree → Elaborated
  fold_after s x variable b body = do
    v ← element_variable m (source_of_arrow x).element variable
    start ← start_of s b
    z ← elaborate m context (fold_scope s v b.name start.kind) body
    fold_of m start.kind (source_of_arrow x) start.core z (offset_of body)

  -- the source of a fold, what each of its elements is taken as, and the start value
  abbrev pub fold_begun : VariableScope → TypedTree → VariableTree → Bound → Result FoldBegun TypeFaultAt
  fold_begun s x variable b = do
    kind ← declared_element m (source_of_arrow x).element variable.1
    start ← start_of s b
    Ok (begun_with (source_of_arrow x) kind start)

  -- the rest of it, with the names of its two variables
  abbrev pub fold_rest : VariableScope → List ℕ → List ℕ → FoldBegun → SurfaceTree → Elaborated
  fold_rest s variable accumulator g body = do
    z ← elaborate m context (fold_scope s (scope_variable (Named variable) g.element) accumulator g.start.kind) body
    fold_of m g.start.kind g.source g.start.core z (offset_of body)

  -- one binding
  abbrev pub bind_one : VariableScope → Bound → Result BoundCore TypeFaultAt
  bind_one s b = do
    kind ← declared_kind m b.declared
    x ← elaborate m context s b.value
    v ← bound_value m kind x (type_offset b.declared)
    Ok (bound_core (inside s (scope_variable (Named b.name) kind)) v)

  -- bindings, each seen by those after it
  abbrev pub bind_all : VariableScope → List Bound → Result BoundCores TypeFaultAt
  bind_all s [] = Ok (bound_cores s [])
  bind_all s (b ∷ bs) = do
    first ← bind_one s b
    rest ← bind_all first.scope bs
    Ok (bound_cores rest.scope (first.value ∷ rest.values))

  -- bindings after a first one of this value
  abbrev pub bind_others : VariableScope → List Bound → CoreTree → Result BoundCores TypeFaultAt
  bind_others s bs first = do
    rest ← bind_all s bs
    Ok (bound_cores rest.scope (first ∷ rest.values))

  -- a body after its bindings
  abbrev pub body_after : SurfaceTree → BoundCores → Elaborated
  body_after body b = do
    y ← elaborate m context b.scope body
    Ok (typed (lets_of b.values y.core) y.kind)

  -- What stands left of the links that are left to go over: it is no name of a class before `.allInstances`.
  pub record IsLeft (s : VariableScope) (whole : SurfaceTree) (rest : List Link) (x : TypedTree) (offset : ℕ) : Type 0 where
    pub left : SurfaceTree
    pub value : elaborate m context s left ≡ Ok x
    pub stands : offset_of left ≡ offset
    pub goes_on : spine_of left (map link_of rest) ≡ whole
    pub plain : class_before_links left rest ≡ None
