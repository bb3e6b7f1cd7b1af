-- How the values of the code are seen as trees, a kind of node at a time.
use Rattle.std.specs.Prelude.{◌≡◌, ℕ, List, ◌∷◌, map, Box, String, string_bytes, Vec}
use Rattle.std.specs.Global.{Global}
use Rattle.ocl_text.specs.declared.tree.BinaryOperator.{BinaryOperator}
use Rattle.ocl_text.specs.declared.tree.PrefixOperator.{PrefixOperator}
use Rattle.ocl_text.specs.declared.tree.IteratorKind.{IteratorKind}
use Rattle.ocl_text.specs.declared.tree.Keyword.{Keyword}
use Rattle.ocl_text.specs.declared.tree.Navigation.{Navigation}
use Rattle.ocl_text.specs.declared.tree.Variable.{Variable}
use Rattle.ocl_text.specs.declared.tree.Variables.{Variables}
use Rattle.ocl_text.specs.declared.tree.DeclaredType.{DeclaredType}
use Rattle.ocl_text.specs.declared.tree.DeclaredType.TheVariants as ty
use Rattle.ocl_text.specs.declared.tree.Binding.{Binding}
use Rattle.ocl_text.specs.declared.tree.Link.{Link}
use Rattle.ocl_text.specs.declared.tree.Link.TheVariants as li
use Rattle.ocl_text.specs.declared.tree.Expression.{Expression}
use Rattle.ocl_text.specs.declared.tree.Expression.TheVariants as e
use Rattle.ocl_text.specs.Tree as t
use Rattle.ocl_text.specs.Tree.{trees_of, lets_at, fold_with}
use Rattle.ocl_text.specs.View.{view, bound_of, link_of, spine_of, view_type, view_variable, view_variables}

abbrev pub ViewsNumber : Type 0
ViewsNumber = (value offset : ℕ) → view (e.Number value offset) ≡ t.Number value offset

abbrev pub ViewsString : Type 0
ViewsString = (value : String Global) (offset : ℕ) → view (e.String value offset) ≡ t.String (string_bytes value) offset

abbrev pub ViewsKeyword : Type 0
ViewsKeyword = (keyword : Keyword) (offset : ℕ) → view (e.Keyword keyword offset) ≡ t.Keyword keyword offset

abbrev pub ViewsName : Type 0
ViewsName = (name : List ℕ) (offset : ℕ) → view (e.Name name offset) ≡ t.Name name offset

abbrev pub ViewsEnumerationLiteral : Type 0
ViewsEnumerationLiteral = (enumeration literal : List ℕ) (offset : ℕ) → view (e.EnumerationLiteral enumeration literal offset) ≡ t.EnumerationLiteral enumeration literal offset

abbrev pub ViewsPrefix : Type 0
ViewsPrefix = (operator : PrefixOperator) (operand : Box Expression Global) (offset : ℕ) → view (e.Prefix operator operand offset) ≡ t.Prefix operator (view operand.value) offset

abbrev pub ViewsSpine : Type 0
ViewsSpine = (first : Box Expression Global) (links : Vec Link Global) → view (e.Spine first links) ≡ spine_of (view first.value) (map link_of links.items)

abbrev pub ViewsLet : Type 0
ViewsLet = (first : Box Binding Global) (others : Vec Binding Global) (body : Box Expression Global) (offset : ℕ)
    → view (e.Let first others body offset) ≡ lets_at offset (bound_of first.value ∷ map bound_of others.items) (view body.value)

abbrev pub ViewsIf : Type 0
ViewsIf = (condition then_branch else_branch : Box Expression Global) (offset : ℕ)
    → view (e.If condition then_branch else_branch offset) ≡ t.If (view condition.value) (view then_branch.value) (view else_branch.value) offset

abbrev pub ViewsBinding : Type 0
ViewsBinding = (name : List ℕ) (declared : DeclaredType) (value : Expression) (offset : ℕ)
    → bound_of (record { name = name; declared = declared; value = value; offset = offset }) ≡ record { name = name; declared = view_type declared; value = view value; offset = offset }

abbrev pub ViewsBinary : Type 0
ViewsBinary = (operator : BinaryOperator) (right : Expression) (offset : ℕ) → link_of (li.Binary operator right offset) ≡ λ left. t.Binary operator left (view right) offset

abbrev pub ViewsProperty : Type 0
ViewsProperty = (name : List ℕ) (offset : ℕ) → link_of (li.Property name offset) ≡ λ source. t.Property source name offset

abbrev pub ViewsCall : Type 0
ViewsCall = (navigation : Navigation) (name : List ℕ) (arguments : Vec Expression Global) (offset : ℕ)
    → link_of (li.Call navigation name arguments offset) ≡ λ source. t.Call source navigation name (trees_of (map view arguments.items)) offset

abbrev pub ViewsIterate : Type 0
ViewsIterate = (iterator : IteratorKind) (variables : Variables) (body : Expression) (offset : ℕ)
    → link_of (li.Iterate iterator variables body offset) ≡ λ source. t.Iterate source iterator (view_variables variables) (view body) offset

abbrev pub ViewsFold : Type 0
ViewsFold = (variable : Variable) (accumulator : Box Binding Global) (body : Expression) (offset : ℕ)
    → link_of (li.Fold variable accumulator body offset) ≡ λ source. fold_with source (view_variable variable) (bound_of accumulator.value) (view body) offset

abbrev pub ViewsNamedType : Type 0
ViewsNamedType = (name : List ℕ) (offset : ℕ) → view_type (ty.Named name offset) ≡ t.Named name offset

abbrev pub ViewsCollectionType : Type 0
ViewsCollectionType = (name : List ℕ) (element : Box DeclaredType Global) (offset : ℕ) → view_type (ty.Collection name element offset) ≡ t.Collection name (view_type element.value) offset
