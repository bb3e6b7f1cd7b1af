-- What the values of the code are, as trees and rules: each level with what is inside already seen.
use Rattle.std.specs.Prelude.{List, ◌∷◌, fold, option_map, string_bytes}
use Rattle.ocl_text.specs.declared.tree.DeclaredType.{DeclaredType, fold-DeclaredType}
use Rattle.ocl_text.specs.declared.tree.DeclaredType.TheOpen.{DeclaredType-F}
use Rattle.ocl_text.specs.declared.tree.Variable.{Variable}
use Rattle.ocl_text.specs.declared.tree.Variables as v
use Rattle.ocl_text.specs.declared.tree.Variables.TheVariants as vs
use Rattle.ocl_text.specs.declared.tree.Expression.{Expression, fold-Expression}
use Rattle.ocl_text.specs.declared.tree.Expression.TheOpen.{Expression-F, Binding-F, Link-F}
use Rattle.ocl_text.specs.declared.tree.Binding.{Binding, fold-Binding}
use Rattle.ocl_text.specs.declared.tree.Link.{Link, fold-Link}
use Rattle.ocl_text.specs.declared.tree.SurfaceRule.{SurfaceRule}
use Rattle.ocl_text.specs.Tree.{TypeTree, VariableTree, Variables, SurfaceTree, Bound, Rule, Named, Collection, Unnamed, Single, Pair, Number, String, Keyword, Name, EnumerationLiteral, Prefix, Binary, Property, Call, Iterate, If, trees_of, lets_at, fold_with}

abbrev pub type_step : DeclaredType-F TypeTree → TypeTree
type_step (DeclaredType-F.Named name offset) = Named name offset
type_step (DeclaredType-F.Collection name element offset) = Collection name element.value offset

abbrev pub view_type : DeclaredType → TypeTree
view_type = fold-DeclaredType TypeTree type_step

abbrev pub view_variable : Variable → VariableTree
view_variable variable = (variable.name, option_map view_type variable.declared)

abbrev pub view_variables : v.Variables → Variables
view_variables vs.Unnamed = Unnamed
view_variables (vs.Single variable) = Single (view_variable variable)
view_variables (vs.Pair first second) = Pair (view_variable first) (view_variable second)

-- what stands left of a link, with the link
abbrev pub Onward : Type 0
Onward = SurfaceTree → SurfaceTree

-- a first operand with these links, one after another
abbrev pub spine_of : SurfaceTree → List Onward → SurfaceTree
spine_of first links = fold (λ left link. link left) first links

abbrev pub view_step : Expression-F SurfaceTree Onward Bound → SurfaceTree
view_step (Expression-F.Number value offset) = Number value offset
view_step (Expression-F.String value offset) = String (string_bytes value) offset
view_step (Expression-F.Keyword keyword offset) = Keyword keyword offset
view_step (Expression-F.Name name offset) = Name name offset
view_step (Expression-F.EnumerationLiteral enumeration literal offset) = EnumerationLiteral enumeration literal offset
view_step (Expression-F.Prefix operator operand offset) = Prefix operator operand.value offset
view_step (Expression-F.Spine first links) = spine_of first.value links.items
view_step (Expression-F.Let first others body offset) = lets_at offset (first.value ∷ others.items) body.value
view_step (Expression-F.If condition then_branch else_branch offset) = If condition.value then_branch.value else_branch.value offset

abbrev pub bound_step : Binding-F SurfaceTree Onward Bound → Bound
bound_step b = record { name = b.name; declared = view_type b.declared; value = b.value; offset = b.offset }

abbrev pub link_step : Link-F SurfaceTree Onward Bound → Onward
link_step (Link-F.Binary operator right offset) = λ left. Binary operator left right offset
link_step (Link-F.Property name offset) = λ source. Property source name offset
link_step (Link-F.Call navigation name arguments offset) = λ source. Call source navigation name (trees_of arguments.items) offset
link_step (Link-F.Iterate iterator variables body offset) = λ source. Iterate source iterator (view_variables variables) body offset
link_step (Link-F.Fold variable accumulator body offset) = λ source. fold_with source (view_variable variable) accumulator.value body offset

abbrev pub view : Expression → SurfaceTree
view = fold-Expression SurfaceTree Onward Bound view_step link_step bound_step

abbrev pub bound_of : Binding → Bound
bound_of = fold-Binding SurfaceTree Onward Bound view_step link_step bound_step

abbrev pub link_of : Link → Onward
link_of = fold-Link SurfaceTree Onward Bound view_step link_step bound_step

abbrev pub rule_of : SurfaceRule → Rule
rule_of r = record { name = r.name; context = r.context; offset = r.offset; context_offset = r.context_offset; tree = view r.expression }
