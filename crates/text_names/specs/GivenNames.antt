-- The names that the text of an expression gives to the variables of its core tree, in the order in which they are bound; an empty
-- one where it gives none. The tree binds variables that the text doesn't have, as that of a dot on a collection, so the two are
-- read side by side: of each part of the tree that the text has too there is a mark.
use Rattle.std.specs.Prelude.{◌&&◌, ◌||◌, ℕ, Bool, true, false, List, [], ◌∷◌, ◌++◌, drop, bytes_eq, codes, if◌then◌else◌}
use Rattle.ocl_base.specs.Lists.{is_among}
use Rattle.ocl_core.specs.declared.operator.Operator.{Operator}
use Rattle.ocl_core.specs.declared.operator.Operator.TheVariants.{Plain}
use Rattle.ocl_core.specs.declared.operator.PlainOperator.TheVariants as plain
use Rattle.ocl_core.specs.declared.core_tree.Iteration.{Iteration}
use Rattle.ocl_core.specs.declared.core_tree.Iteration.TheVariants as iteration
use Rattle.ocl_core.specs.Core as tree
use Rattle.ocl_core.specs.Core.{CoreTree, CoreTrees}
use Rattle.ocl_text.specs.declared.tree.PrefixOperator.{PrefixOperator}
use Rattle.ocl_text.specs.declared.tree.PrefixOperator.TheVariants as prefix
use Rattle.ocl_text.specs.declared.tree.Navigation.{Navigation}
use Rattle.ocl_text.specs.declared.tree.Navigation.TheVariants.{Dot, Arrow}
use Rattle.ocl_text.specs.Tree as surface
use Rattle.ocl_text.specs.Tree.{SurfaceTree, Trees, Variables}
use Rattle.text_names.specs.declared.marks.Mark.{Mark}
use Rattle.text_names.specs.declared.marks.Mark.TheVariants as mark

-- ---- the marks of a tree

-- an operation has a mark, but for `not`, which stands for the second half of some names
abbrev pub operation_marks : Operator → List Mark
operation_marks (Plain plain.Not) = []
operation_marks operator = mark.Operation ∷ []

-- the text may leave out the variable of a `collect`
abbrev pub variable_mark : Iteration → Mark
variable_mark iteration.Collect = mark.Collected
variable_mark iteration.CollectFlat = mark.Collected
variable_mark i = mark.Bound

abbrev mutual
  pub marks_of : CoreTree → List Mark
  marks_of (tree.Value c) = mark.Leaf ∷ []
  marks_of (tree.Variable v) = mark.Leaf ∷ []
  marks_of (tree.AllInstances c) = mark.Instances ∷ []
  marks_of (tree.Feature source f) = marks_of source ++ mark.Feature ∷ []
  marks_of (tree.Operation operator first others) = marks_of first ++ (operation_marks operator ++ all_marks others)
  marks_of (tree.AsCollection c k source) = marks_of source
  marks_of (tree.Iterate i source body) = marks_of source ++ variable_mark i ∷ marks_of body
  marks_of (tree.Fold k source start body) = marks_of source ++ (marks_of start ++ mark.Bound ∷ mark.Bound ∷ marks_of body)
  marks_of (tree.Let value body) = marks_of value ++ mark.Bound ∷ marks_of body
  marks_of (tree.If k condition first second) = marks_of condition ++ (marks_of first ++ marks_of second)

  pub all_marks : CoreTrees → List Mark
  all_marks tree.no_core = []
  all_marks (tree.one_core first rest) = marks_of first ++ all_marks rest

-- ---- a text beside the marks of its tree

-- the marks that are left, whether those before them are what the text says, and the names of the variables that are bound so far
pub record NameReading : Type 0 where
  pub left : List Mark
  pub agrees : Bool
  pub names : List (List ℕ)

-- whether a mark is what the text says: any variable may be one that the text may leave out
abbrev pub is_said : Mark → Mark → Bool
is_said mark.Leaf mark.Leaf = true
is_said mark.Instances mark.Instances = true
is_said mark.Feature mark.Feature = true
is_said mark.Operation mark.Operation = true
is_said mark.Collected mark.Collected = true
is_said mark.Bound mark.Bound = true
is_said mark.Bound mark.Collected = true
is_said said m = false

abbrev pub is_next : Mark → List Mark → Bool
is_next said [] = false
is_next said (m ∷ ms) = is_said said m

-- the next mark is passed
abbrev pub passed : Mark → NameReading → NameReading
passed said r = record { left = drop 1 r.left; agrees = r.agrees && is_next said r.left; names = r.names }

-- a variable is bound, which has this name
abbrev pub bound : List ℕ → NameReading → NameReading
bound name r = record { left = drop 1 r.left; agrees = r.agrees && is_next mark.Bound r.left; names = r.names ++ name ∷ [] }

-- a dot on a collection is a `collect`, whose variable has no name and is what stands before the dot
abbrev pub dot_passed : NameReading → NameReading
dot_passed r = if is_next mark.Collected r.left then passed mark.Leaf (bound [] r) else r

-- a bare name: a class, of which all instances are taken; a variable; or a feature of a variable that has no name
abbrev pub name_passed : List (List ℕ) → List ℕ → NameReading → NameReading
name_passed seen name r =
    if is_next mark.Instances r.left then passed mark.Instances r
    else (if is_among bytes_eq seen name then passed mark.Leaf r else passed mark.Feature (passed mark.Leaf r))

abbrev pub prefix_passed : PrefixOperator → NameReading → NameReading
prefix_passed prefix.Negate r = passed mark.Operation r
prefix_passed prefix.Not r = r

abbrev pub navigation_passed : Navigation → NameReading → NameReading
navigation_passed Dot r = dot_passed r
navigation_passed Arrow r = r

-- an operation by its name; all instances have been passed with their class
abbrev pub call_passed : Navigation → List ℕ → NameReading → NameReading
call_passed navigation name r = if bytes_eq name (codes "allInstances") then r else passed mark.Operation (navigation_passed navigation r)

-- operations whose arguments are names of classes
abbrev pub takes_classes : List ℕ → Bool
takes_classes name =
    bytes_eq name (codes "oclIsKindOf") || (bytes_eq name (codes "oclIsTypeOf") || bytes_eq name (codes "oclAsType"))

-- the variables of an iteration: two run over one source, which is a variable itself
abbrev pub with_variables : Variables → NameReading → NameReading
with_variables surface.Unnamed r = bound [] r
with_variables (surface.Single v) r = bound v.0 r
with_variables (surface.Pair v w) r = bound w.0 (passed mark.Leaf (bound v.0 (passed mark.Leaf (bound [] r))))

-- the names by which its body speaks of them
abbrev pub names_bound : Variables → List (List ℕ)
names_bound surface.Unnamed = []
names_bound (surface.Single v) = v.0 ∷ []
names_bound (surface.Pair v w) = v.0 ∷ w.0 ∷ []

-- an expression where these names are seen
abbrev mutual
  pub expression_read : SurfaceTree → List (List ℕ) → NameReading → NameReading
  expression_read (surface.Number value offset) seen r = passed mark.Leaf r
  expression_read (surface.String value offset) seen r = passed mark.Leaf r
  expression_read (surface.Keyword keyword offset) seen r = passed mark.Leaf r
  expression_read (surface.Name name offset) seen r = name_passed seen name r
  expression_read (surface.EnumerationLiteral enumeration literal offset) seen r = passed mark.Leaf r
  expression_read (surface.Prefix operator operand offset) seen r = prefix_passed operator (expression_read operand seen r)
  expression_read (surface.Binary operator first second offset) seen r = expression_read second seen (passed mark.Operation (expression_read first seen r))
  expression_read (surface.Property source name offset) seen r = passed mark.Feature (dot_passed (expression_read source seen r))
  expression_read (surface.Call source navigation name arguments offset) seen r =
      if takes_classes name then call_passed navigation name (expression_read source seen r)
      else expressions_read arguments seen (call_passed navigation name (expression_read source seen r))
  expression_read (surface.Iterate source iterator variables body offset) seen r =
      expression_read body (seen ++ names_bound variables) (with_variables variables (expression_read source seen r))
  expression_read (surface.Fold source variable accumulator declared start body offset) seen r =
      expression_read body (seen ++ variable.0 ∷ accumulator ∷ []) (bound accumulator (bound variable.0 (expression_read start seen (expression_read source seen r))))
  expression_read (surface.Let name declared value body offset) seen r = expression_read body (seen ++ name ∷ []) (bound name (expression_read value seen r))
  expression_read (surface.If condition first second offset) seen r = expression_read second seen (expression_read first seen (expression_read condition seen r))

  pub expressions_read : Trees → List (List ℕ) → NameReading → NameReading
  expressions_read surface.none seen r = r
  expressions_read (surface.some first rest) seen r = expressions_read rest seen (expression_read first seen r)

-- ---- names

-- those of a reading up to the tree's end; none, where the tree isn't the expression's
abbrev pub names_if : Bool → List Mark → List (List ℕ) → List (List ℕ)
names_if true [] names = names
names_if agrees ms names = []

abbrev pub names_given : NameReading → List (List ℕ)
names_given r = names_if r.agrees r.left r.names

abbrev pub given_names : SurfaceTree → CoreTree → List (List ℕ)
given_names e t = names_given (expression_read e [] (record { left = marks_of t; agrees = true; names = [] }))
