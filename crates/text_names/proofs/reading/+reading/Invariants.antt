use Rattle.std.proofs.Common.{◌≡◌, map, drop}
use Rattle.ocl_text.specs.Tree.{trees_of}
use Rattle.ocl_text.specs.View.{view, bound_of}
use Rattle.text_names.specs.GivenNames.{expressions_read}
use Rattle.text_names.specs.ReadingWalk.{reading_view, names_seen, links_read, bindings_read, seen_behind}
use Rattle.text_names.proofs.reading.+reading.Given as goal

-- what was read, and the bindings that are left
abbrev pub invariant-read_bindings-bindings : goal.invariant-read_bindings-bindings
invariant-read_bindings-bindings l =
    (bindings_read (map bound_of (drop l.binding-index l.bindings)) (names_seen l.reading) (reading_view l.reading) ≡ bindings_read (map bound_of l.bindings) (names_seen l.initial.reading) (reading_view l.initial.reading))
    × (seen_behind (map bound_of (drop l.binding-index l.bindings)) (names_seen l.reading) ≡ seen_behind (map bound_of l.bindings) (names_seen l.initial.reading))

-- and the links
abbrev pub invariant-read_links-links : goal.invariant-read_links-links
invariant-read_links-links l =
    (links_read (drop l.link-index l.links) (names_seen l.reading) (reading_view l.reading) ≡ links_read l.links (names_seen l.initial.reading) (reading_view l.initial.reading))
    × (names_seen l.reading ≡ names_seen l.initial.reading)

-- and the expressions
abbrev pub invariant-read_all-expressions : goal.invariant-read_all-expressions
invariant-read_all-expressions l =
    (expressions_read (trees_of (map view (drop l.expression-index l.expressions))) (names_seen l.reading) (reading_view l.reading) ≡ expressions_read (trees_of (map view l.expressions)) (names_seen l.initial.reading) (reading_view l.initial.reading))
    × (names_seen l.reading ≡ names_seen l.initial.reading)
