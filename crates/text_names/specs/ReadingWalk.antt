-- Readings as the code has them, and expressions in the steps that it makes: links, and bindings of a `let`.
use Rattle.std.specs.Prelude.{ℕ, List, [], ◌∷◌, ◌++◌, map, string_bytes, if◌then◌else◌}
use Rattle.ocl_core.specs.declared.core_tree.CoreLink.{CoreLink}
use Rattle.ocl_core.specs.Core as tree
use Rattle.ocl_core.specs.Core.{CoreTree, CoreTrees}
use Rattle.ocl_core.specs.CoreView.{core_link_of}
use Rattle.ocl_text.specs.declared.tree.Link.{Link}
use Rattle.ocl_text.specs.Tree as surface
use Rattle.ocl_text.specs.Tree.{SurfaceTree, Bound}
use Rattle.ocl_text.specs.View.{link_of}
use Rattle.text_names.specs.declared.marks.Mark.{Mark}
use Rattle.text_names.specs.declared.marks.Mark.TheVariants as mark
use Rattle.text_names.specs.declared.reading.Reading as declared
use Rattle.text_names.specs.GivenNames.{NameReading, operation_marks, variable_mark, marks_of, all_marks, passed, bound, dot_passed, call_passed, takes_classes, with_variables, names_bound, expression_read, expressions_read}

-- ---- the marks of a tree

-- those that a node has besides its first operand
abbrev pub rest_marks : CoreTree → List Mark
rest_marks (tree.Feature source f) = mark.Feature ∷ []
rest_marks (tree.Operation operator first others) = operation_marks operator ++ all_marks others
rest_marks (tree.Iterate i source body) = variable_mark i ∷ marks_of body
rest_marks (tree.Fold k source start body) = marks_of start ++ mark.Bound ∷ mark.Bound ∷ marks_of body
rest_marks t = []

abbrev pub link_marks : CoreLink → List Mark
link_marks link = rest_marks (core_link_of link (tree.Value tree.Null))

abbrev pub links_marks : List CoreLink → List Mark
links_marks [] = []
links_marks (l ∷ ls) = link_marks l ++ links_marks ls

-- those of values, each with the variable that has it
abbrev pub values_marks : List CoreTree → List Mark
values_marks [] = []
values_marks (v ∷ vs) = marks_of v ++ mark.Bound ∷ values_marks vs

-- ---- readings

abbrev pub reading_view : declared.Reading → NameReading
reading_view r = record { left = r.left.now; agrees = r.agrees; names = map string_bytes r.names.items }

abbrev pub names_seen : declared.Reading → List (List ℕ)
names_seen r = map (λ name. name.now) r.seen.items

-- what a node has besides its source
abbrev pub rest_read : SurfaceTree → List (List ℕ) → NameReading → NameReading
rest_read (surface.Binary operator first second offset) seen r = expression_read second seen (passed mark.Operation r)
rest_read (surface.Property source name offset) seen r = passed mark.Feature (dot_passed r)
rest_read (surface.Call source navigation name arguments offset) seen r =
    if takes_classes name then call_passed navigation name r else expressions_read arguments seen (call_passed navigation name r)
rest_read (surface.Iterate source iterator variables body offset) seen r =
    expression_read body (seen ++ names_bound variables) (with_variables variables r)
rest_read (surface.Fold source variable accumulator declared start body offset) seen r =
    expression_read body (seen ++ variable.0 ∷ accumulator ∷ []) (bound accumulator (bound variable.0 (expression_read start seen r)))
rest_read t seen r = r

abbrev pub link_read : Link → List (List ℕ) → NameReading → NameReading
link_read link seen r = rest_read (link_of link (surface.Number 0 0)) seen r

abbrev pub links_read : List Link → List (List ℕ) → NameReading → NameReading
links_read [] seen r = r
links_read (l ∷ ls) seen r = links_read ls seen (link_read l seen r)

-- bindings, each seen by those after it
abbrev pub bindings_read : List Bound → List (List ℕ) → NameReading → NameReading
bindings_read [] seen r = r
bindings_read (b ∷ bs) seen r = bindings_read bs (seen ++ b.name ∷ []) (bound b.name (expression_read b.value seen r))

abbrev pub seen_behind : List Bound → List (List ℕ) → List (List ℕ)
seen_behind [] seen = seen
seen_behind (b ∷ bs) seen = seen_behind bs (seen ++ b.name ∷ [])
