-- A core tree, level by level.
use Rattle.std.proofs.Common.{◌≡◌, ℕ, map, Box, Vec, Global, rules}
use Rattle.ocl_base.specs.declared.collection_kind.CollectionKind.{CollectionKind}
use Rattle.ocl_kinds.specs.declared.kind.ScalarKind.{ScalarKind}
use Rattle.ocl_kinds.specs.declared.kind.Kind.{Kind}
use Rattle.ocl_core.specs.declared.operator.Operator.{Operator}
use Rattle.ocl_core.specs.declared.core_tree.ConstantValue.{ConstantValue}
use Rattle.ocl_core.specs.declared.core_tree.Iteration.{Iteration}
use Rattle.ocl_core.specs.declared.core_tree.Core.{Core, the_lemmas}
use Rattle.ocl_core.specs.declared.core_tree.Core.TheVariants as v
use Rattle.ocl_core.specs.declared.core_tree.CoreLink.{CoreLink}
use Rattle.ocl_core.specs.declared.core_tree.CoreLink.TheVariants as l
use Rattle.ocl_core.specs.Core as tree
use Rattle.ocl_core.specs.Core.{cores_of, lets_of}
use Rattle.ocl_core.specs.CoreView.{constant_of, core_view, core_link_of, core_spine}

-- how each kind of core expression is seen, one equation for each
pub core_view-Constant : (value : ConstantValue) → core_view (v.Constant value) ≡ tree.Value (constant_of value)
core_view-Constant value = search (rules, the_lemmas)

pub core_view-Variable : (number : ℕ) → core_view (v.Variable number) ≡ tree.Variable number
core_view-Variable number = search (rules, the_lemmas)

pub core_view-AllInstances : (class : ℕ) → core_view (v.AllInstances class) ≡ tree.AllInstances class
core_view-AllInstances class = search (rules, the_lemmas)

pub core_view-Spine : (first : Box Core Global) (links : Vec CoreLink Global) → core_view (v.Spine first links) ≡ core_spine (core_view first.value) (map core_link_of links.items)
core_view-Spine first links = search (rules, the_lemmas)

pub core_view-Let : (values : Vec Core Global) (body : Box Core Global) → core_view (v.Let values body) ≡ lets_of (map core_view values.items) (core_view body.value)
core_view-Let values body = search (rules, the_lemmas)

pub core_view-If : (kind : Kind) (condition then_branch else_branch : Box Core Global) → core_view (v.If kind condition then_branch else_branch) ≡ tree.If kind (core_view condition.value) (core_view then_branch.value) (core_view else_branch.value)
core_view-If kind condition then_branch else_branch = search (rules, the_lemmas)

-- how each link of a chain is seen, as what it makes of what stands before it
pub core_link_of-Feature : (feature : ℕ) → core_link_of (l.Feature feature) ≡ λ source. tree.Feature source feature
core_link_of-Feature feature = search (rules, the_lemmas)

pub core_link_of-Operation : (operator : Operator) (others : Vec Core Global) → core_link_of (l.Operation operator others) ≡ λ first. tree.Operation operator first (cores_of (map core_view others.items))
core_link_of-Operation operator others = search (rules, the_lemmas)

pub core_link_of-AsCollection : (collection : CollectionKind) (element : ScalarKind) → core_link_of (l.AsCollection collection element) ≡ λ source. tree.AsCollection collection element source
core_link_of-AsCollection collection element = search (rules, the_lemmas)

pub core_link_of-Iterate : (iteration : Iteration) (body : Core) → core_link_of (l.Iterate iteration body) ≡ λ source. tree.Iterate iteration source (core_view body)
core_link_of-Iterate iteration body = search (rules, the_lemmas)

pub core_link_of-Fold : (kind : ScalarKind) (start : Box Core Global) (body : Core) → core_link_of (l.Fold kind start body) ≡ λ source. tree.Fold kind source (core_view start.value) (core_view body)
core_link_of-Fold kind start body = search (rules, the_lemmas)
