-- An expression, level by level.
use Rattle.std.proofs.Common.{◌≡◌, ℕ, List, ◌∷◌, map, Box, String, string_bytes, Vec, Global, rules}
use Rattle.ocl_text.specs.declared.tree.BinaryOperator.{BinaryOperator}
use Rattle.ocl_text.specs.declared.tree.PrefixOperator.{PrefixOperator}
use Rattle.ocl_text.specs.declared.tree.IteratorKind.{IteratorKind}
use Rattle.ocl_text.specs.declared.tree.Keyword.{Keyword}
use Rattle.ocl_text.specs.declared.tree.Navigation.{Navigation}
use Rattle.ocl_text.specs.declared.tree.Variable.{Variable}
use Rattle.ocl_text.specs.declared.tree.Variables.{Variables}
use Rattle.ocl_text.specs.declared.tree.DeclaredType.{DeclaredType}
use Rattle.ocl_text.specs.declared.tree.DeclaredType as d
use Rattle.ocl_text.specs.declared.tree.DeclaredType.TheVariants as ty
use Rattle.ocl_text.specs.declared.tree.Binding.{Binding}
use Rattle.ocl_text.specs.declared.tree.Link.{Link}
use Rattle.ocl_text.specs.declared.tree.Link.TheVariants as li
use Rattle.ocl_text.specs.declared.tree.Expression.{Expression, the_lemmas}
use Rattle.ocl_text.specs.declared.tree.Expression.TheVariants as e
use Rattle.ocl_text.specs.Tree as t
use Rattle.ocl_text.specs.Tree.{trees_of, lets_at, fold_with}
use Rattle.ocl_text.specs.View.{view, bound_of, link_of, spine_of, view_type, view_variable, view_variables}

-- how each kind of expression is seen, one equation for each
pub view-Number : (value offset : ℕ) → view (e.Number value offset) ≡ t.Number value offset
view-Number value offset = search (rules, the_lemmas)

pub view-String : (value : String Global) (offset : ℕ) → view (e.String value offset) ≡ t.String (string_bytes value) offset
view-String value offset = search (rules, the_lemmas)

pub view-Keyword : (keyword : Keyword) (offset : ℕ) → view (e.Keyword keyword offset) ≡ t.Keyword keyword offset
view-Keyword keyword offset = search (rules, the_lemmas)

pub view-Name : (name : List ℕ) (offset : ℕ) → view (e.Name name offset) ≡ t.Name name offset
view-Name name offset = search (rules, the_lemmas)

pub view-EnumerationLiteral : (enumeration literal : List ℕ) (offset : ℕ) → view (e.EnumerationLiteral enumeration literal offset) ≡ t.EnumerationLiteral enumeration literal offset
view-EnumerationLiteral enumeration literal offset = search (rules, the_lemmas)

pub view-Prefix : (operator : PrefixOperator) (operand : Box Expression Global) (offset : ℕ) → view (e.Prefix operator operand offset) ≡ t.Prefix operator (view operand.value) offset
view-Prefix operator operand offset = search (rules, the_lemmas)

pub view-Spine : (first : Box Expression Global) (links : Vec Link Global) → view (e.Spine first links) ≡ spine_of (view first.value) (map link_of links.items)
view-Spine first links = search (rules, the_lemmas)

pub view-Let : (first : Box Binding Global) (others : Vec Binding Global) (body : Box Expression Global) (offset : ℕ)
    → view (e.Let first others body offset) ≡ lets_at offset (bound_of first.value ∷ map bound_of others.items) (view body.value)
view-Let first others body offset = search (rules, the_lemmas)

pub view-If : (condition then_branch else_branch : Box Expression Global) (offset : ℕ)
    → view (e.If condition then_branch else_branch offset) ≡ t.If (view condition.value) (view then_branch.value) (view else_branch.value) offset
view-If condition then_branch else_branch offset = search (rules, the_lemmas)

-- how a binding of a `let` is seen
pub bound_of-Binding : (name : List ℕ) (declared : DeclaredType) (value : Expression) (offset : ℕ)
    → bound_of (record { name = name; declared = declared; value = value; offset = offset }) ≡ record { name = name; declared = view_type declared; value = view value; offset = offset }
bound_of-Binding name declared value offset = search (rules, the_lemmas)

-- how each link of a chain is seen, as what it makes of what stands before it
pub link_of-Binary : (operator : BinaryOperator) (right : Expression) (offset : ℕ) → link_of (li.Binary operator right offset) ≡ λ left. t.Binary operator left (view right) offset
link_of-Binary operator right offset = search (rules, the_lemmas)

pub link_of-Property : (name : List ℕ) (offset : ℕ) → link_of (li.Property name offset) ≡ λ source. t.Property source name offset
link_of-Property name offset = search (rules, the_lemmas)

pub link_of-Call : (navigation : Navigation) (name : List ℕ) (arguments : Vec Expression Global) (offset : ℕ)
    → link_of (li.Call navigation name arguments offset) ≡ λ source. t.Call source navigation name (trees_of (map view arguments.items)) offset
link_of-Call navigation name arguments offset = search (rules, the_lemmas)

pub link_of-Iterate : (iterator : IteratorKind) (variables : Variables) (body : Expression) (offset : ℕ)
    → link_of (li.Iterate iterator variables body offset) ≡ λ source. t.Iterate source iterator (view_variables variables) (view body) offset
link_of-Iterate iterator variables body offset = search (rules, the_lemmas)

pub link_of-Fold : (variable : Variable) (accumulator : Box Binding Global) (body : Expression) (offset : ℕ)
    → link_of (li.Fold variable accumulator body offset) ≡ λ source. fold_with source (view_variable variable) (bound_of accumulator.value) (view body) offset
link_of-Fold variable accumulator body offset = search (rules, the_lemmas)

-- how each kind of type is seen
pub view_type-Named : (name : List ℕ) (offset : ℕ) → view_type (ty.Named name offset) ≡ t.Named name offset
view_type-Named name offset = search (rules, d.the_lemmas)

pub view_type-Collection : (name : List ℕ) (element : Box DeclaredType Global) (offset : ℕ) → view_type (ty.Collection name element offset) ≡ t.Collection name (view_type element.value) offset
view_type-Collection name element offset = search (rules, d.the_lemmas)

pub ruleset type_views = (view_type-Named, view_type-Collection)

pub ruleset views = (view-Number, view-String, view-Keyword, view-Name, view-EnumerationLiteral, view-Prefix, view-Spine, view-Let, view-If, bound_of-Binding, link_of-Binary, link_of-Property, link_of-Call, link_of-Iterate, link_of-Fold)
