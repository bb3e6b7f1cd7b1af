-- What the values of the code are, as core trees and rules.
use Rattle.std.specs.Prelude.{List, fold, string_bytes}
use Rattle.ocl_core.specs.declared.core_tree.ConstantValue.{ConstantValue}
use Rattle.ocl_core.specs.declared.core_tree.ConstantValue.TheVariants as cv
use Rattle.ocl_core.specs.declared.core_tree.Core.{Core, fold-Core}
use Rattle.ocl_core.specs.declared.core_tree.Core.TheOpen.{Core-F, CoreLink-F}
use Rattle.ocl_core.specs.declared.core_tree.CoreLink.{CoreLink, fold-CoreLink}
use Rattle.ocl_core.specs.declared.core_tree.CoreRule.{CoreRule}
use Rattle.ocl_core.specs.Core as c
use Rattle.ocl_core.specs.Core.{Constant, CoreTree, CheckedRule, cores_of, lets_of}

abbrev pub constant_of : ConstantValue → Constant
constant_of (cv.Boolean value) = c.Boolean value
constant_of (cv.Integer value) = c.Integer value
constant_of (cv.Text value) = c.Text (string_bytes value)
constant_of (cv.Literal enumeration literal) = c.Literal enumeration literal
constant_of cv.Null = c.Null
constant_of cv.Invalid = c.Invalid

-- what stands left of a link, with the link
abbrev pub CoreOnward : Type 0
CoreOnward = CoreTree → CoreTree

abbrev pub core_spine : CoreTree → List CoreOnward → CoreTree
core_spine first links = fold (λ left link. link left) first links

abbrev pub core_step : Core-F CoreTree CoreOnward → CoreTree
core_step (Core-F.Constant value) = c.Value (constant_of value)
core_step (Core-F.Variable number) = c.Variable number
core_step (Core-F.AllInstances class) = c.AllInstances class
core_step (Core-F.Spine first links) = core_spine first.value links.items
core_step (Core-F.Let values body) = lets_of values.items body.value
core_step (Core-F.If kind condition then_branch else_branch) = c.If kind condition.value then_branch.value else_branch.value

abbrev pub core_link_step : CoreLink-F CoreTree CoreOnward → CoreOnward
core_link_step (CoreLink-F.Feature feature) = λ source. c.Feature source feature
core_link_step (CoreLink-F.Operation operator others) = λ first. c.Operation operator first (cores_of others.items)
core_link_step (CoreLink-F.AsCollection collection element) = λ source. c.AsCollection collection element source
core_link_step (CoreLink-F.Iterate iteration body) = λ source. c.Iterate iteration source body
core_link_step (CoreLink-F.Fold kind start body) = λ source. c.Fold kind source start.value body

abbrev pub core_view : Core → CoreTree
core_view = fold-Core CoreTree CoreOnward core_step core_link_step

abbrev pub core_link_of : CoreLink → CoreOnward
core_link_of = fold-CoreLink CoreTree CoreOnward core_step core_link_step

abbrev pub checked_rule_of : CoreRule → CheckedRule
checked_rule_of r = record { name = r.name; context = r.context; tree = core_view r.tree }
