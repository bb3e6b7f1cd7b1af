-- The marks of core trees as they lie in memory, and the readings of expressions as they do, by their parts.
use Rattle.std.proofs.Common.{◌≡◌, ℕ, List, [], ◌∷◌, ◌++◌, length, take, map, refl, sym, ap, ◌∙◌, rules, append_assoc, Box, Vec, Global}
use Rattle.std.proofs.lemmas.List.{append-nil, length-map, take-map}
use Rattle.std.proofs.Math.Seq.{take-append_seam}
use Rattle.ocl_core.specs.declared.core_tree.Core.{Core, the_lemmas as core_lemmas}
use Rattle.ocl_core.specs.declared.core_tree.Core.TheVariants as v
use Rattle.ocl_core.specs.declared.core_tree.CoreLink.{CoreLink, Feature, Operation', AsCollection, Iterate as CoreIterate, Fold' as CoreFold'}
use Rattle.ocl_core.specs.Core.{CoreTree, lets_of}
use Rattle.ocl_core.specs.CoreView.{core_view, core_link_of, core_spine}
use Rattle.ocl_core.proofs.ForAbove.{core_view-Spine, core_view-Let, core_view-If}
use Rattle.ocl_kinds.specs.declared.kind.Kind.{Kind}
use Rattle.ocl_text.specs.declared.tree.Binding.{Binding}
use Rattle.ocl_text.specs.declared.tree.Expression.{Expression, the_lemmas}
use Rattle.ocl_text.specs.declared.tree.Expression.TheVariants as e
use Rattle.ocl_text.specs.declared.tree.Link.{Link, Binary, Property, Call', Iterate, Fold'}
use Rattle.ocl_text.specs.declared.tree.Link.TheVariants as li
use Rattle.ocl_text.specs.declared.tree.Variable.{Variable}
use Rattle.ocl_text.specs.Tree.{SurfaceTree, Number, Bound, lets}
use Rattle.ocl_text.specs.View.{view, bound_of, link_of, spine_of}
use Rattle.ocl_text.proofs.ForAbove.{view-Spine, view-Let, link_of-Fold, views}
use Rattle.text_names.specs.declared.marks.Mark.{Mark}
use Rattle.text_names.specs.declared.marks.Mark.TheVariants as mark
use Rattle.text_names.specs.GivenNames.{NameReading, marks_of, bound, expression_read}
use Rattle.text_names.specs.ReadingWalk.{link_marks, links_marks, values_marks, rest_read, link_read, links_read, bindings_read, seen_behind}

-- ---- marks

-- a link has its own behind those of the tree that it stands on
link_marked : (link : CoreLink) (left : CoreTree) → marks_of left ++ link_marks link ≡ marks_of (core_link_of link left)
link_marked (Feature feature) left = search (rules, core_lemmas)
link_marked (Operation' operator others row) left = search (rules, core_lemmas)
link_marked (AsCollection collection element) left = search (rules, core_lemmas, append-nil)
link_marked (CoreIterate iteration body) left = search (rules, core_lemmas)
link_marked (CoreFold' kind start row body) left = search (rules, core_lemmas)

-- and so have links one after another
links_marked : (links : List CoreLink) (first : CoreTree) → marks_of first ++ links_marks links ≡ marks_of (core_spine first (map core_link_of links))
links_marked [] first = append-nil (marks_of first)
links_marked (k ∷ ks) first =
    sym (append_assoc (marks_of first) (link_marks k) (links_marks ks))
    ∙ ap (λ ms. ms ++ links_marks ks) (link_marked k first)
    ∙ links_marked ks (core_link_of k first)

-- values with the body that sees them
lets_marked : (vs : List CoreTree) (body : CoreTree) → values_marks vs ++ marks_of body ≡ marks_of (lets_of vs body)
lets_marked [] body = refl
lets_marked (w ∷ ws) body =
    append_assoc (marks_of w) (mark.Bound ∷ values_marks ws) (marks_of body)
    ∙ ap (λ ms. marks_of w ++ mark.Bound ∷ ms) (lets_marked ws body)

pub spine_marked : (core : Core) (first : Box Core Global) (links : Vec CoreLink Global) → core ≡ v.Spine first links → marks_of (core_view first.value) ++ links_marks links.items ≡ marks_of (core_view core)
spine_marked core first links is =
    links_marked links.items (core_view first.value)
    ∙ ap marks_of (sym (ap core_view is ∙ core_view-Spine first links))

pub let_marked : (core : Core) (values : Vec Core Global) (body : Box Core Global) → core ≡ v.Let values body → values_marks (map core_view values.items) ++ marks_of (core_view body.value) ≡ marks_of (core_view core)
let_marked core values body is =
    lets_marked (map core_view values.items) (core_view body.value)
    ∙ ap marks_of (sym (ap core_view is ∙ core_view-Let values body))

pub choice_marked : (core : Core) (kind : Kind) (condition first second : Box Core Global) → core ≡ v.If kind condition first second → marks_of (core_view condition.value) ++ (marks_of (core_view first.value) ++ marks_of (core_view second.value)) ≡ marks_of (core_view core)
choice_marked core kind condition first second is = ap marks_of (sym (ap core_view is ∙ core_view-If kind condition first second))

-- marks of two parts that are put one after the other
pub both_marked : (before between after first second whole : List Mark) → between ≡ before ++ first → after ≡ between ++ second → first ++ second ≡ whole → after ≡ before ++ whole
both_marked before between after first second whole one two is =
    two ∙ ap (λ ms. ms ++ second) one ∙ append_assoc before first second ∙ ap (λ ms. before ++ ms) is

-- and of three
pub three_marked : (before one two after first second third whole : List Mark) → one ≡ before ++ first → two ≡ one ++ second → after ≡ two ++ third → first ++ (second ++ third) ≡ whole → after ≡ before ++ whole
three_marked before one two after first second third whole a b c is =
    both_marked before one after first (second ++ third) whole a (both_marked one two after second third (second ++ third) b c refl) is

-- ---- readings

-- a link is read behind the expression that it stands on
link_is_read : (link : Link) (left : SurfaceTree) (seen : List (List ℕ)) (r : NameReading) → link_read link seen (expression_read left seen r) ≡ expression_read (link_of link left) seen r
link_is_read (Binary operator right offset) left seen r = search (rules, the_lemmas)
link_is_read (Property name offset) left seen r = search (rules, the_lemmas)
link_is_read (Call' navigation name arguments row offset) left seen r = search (rules, the_lemmas)
link_is_read (Iterate iterator variables body offset) left seen r = search (rules, the_lemmas)
link_is_read (Fold' variable name declared value at_name row body offset) left seen r = search (rules, the_lemmas)

links_are_read : (links : List Link) (first : SurfaceTree) (seen : List (List ℕ)) (r : NameReading) → links_read links seen (expression_read first seen r) ≡ expression_read (spine_of first (map link_of links)) seen r
links_are_read [] first seen r = refl
links_are_read (l ∷ ls) first seen r = ap (links_read ls seen) (link_is_read l first seen r) ∙ links_are_read ls (link_of l first) seen r

spine_is_read : (x : Expression) (first : Box Expression Global) (links : Vec Link Global) → x ≡ e.Spine first links → (seen : List (List ℕ)) (r : NameReading) → links_read links.items seen (expression_read (view first.value) seen r) ≡ expression_read (view x) seen r
spine_is_read x first links is seen r =
    links_are_read links.items (view first.value) seen r
    ∙ ap (λ (t : SurfaceTree). expression_read t seen r) (sym (ap view is ∙ view-Spine first links))

pub spine_goes_on : (x : Expression) (first : Box Expression Global) (links : Vec Link Global) → x ≡ e.Spine first links → (seen inner : List (List ℕ)) (r one two : NameReading) → inner ≡ seen → one ≡ expression_read (view first.value) seen r → two ≡ links_read links.items inner one → two ≡ expression_read (view x) seen r
spine_goes_on x first links is seen inner r one two same one_is two_is =
    two_is
    ∙ ap (λ (s : List (List ℕ)). links_read links.items s one) same
    ∙ ap (links_read links.items seen) one_is
    ∙ spine_is_read x first links is seen r

-- bindings with the body that sees them
lets_are_read : (bs : List Bound) (body : SurfaceTree) (seen : List (List ℕ)) (r : NameReading) → expression_read body (seen_behind bs seen) (bindings_read bs seen r) ≡ expression_read (lets bs body) seen r
lets_are_read [] body seen r = refl
lets_are_read (b ∷ bs) body seen r = lets_are_read bs body (seen ++ b.name ∷ []) (bound b.name (expression_read b.value seen r))

let_is_read : (x : Expression) (first : Box Binding Global) (others : Vec Binding Global) (body : Box Expression Global) (offset : ℕ) → x ≡ e.Let first others body offset → (seen : List (List ℕ)) (r : NameReading)
    → expression_read (view body.value) (seen_behind (map bound_of others.items) (seen ++ (bound_of first.value).name ∷ [])) (bindings_read (map bound_of others.items) (seen ++ (bound_of first.value).name ∷ []) (bound (bound_of first.value).name (expression_read (bound_of first.value).value seen r)))
    ≡ expression_read (view x) seen r
let_is_read x first others body offset is seen r =
    lets_are_read (map bound_of others.items) (view body.value) (seen ++ (bound_of first.value).name ∷ []) (bound (bound_of first.value).name (expression_read (bound_of first.value).value seen r))
    ∙ ap (λ (t : SurfaceTree). expression_read t seen r) (sym (ap view is ∙ view-Let first others body offset))

pub let_goes_on : (x : Expression) (first : Box Binding Global) (others : Vec Binding Global) (body : Box Expression Global) (offset : ℕ) → x ≡ e.Let first others body offset → (seen inner deep : List (List ℕ)) (r one two three : NameReading)
    → inner ≡ seen_behind (bound_of first.value ∷ []) seen → one ≡ bindings_read (bound_of first.value ∷ []) seen r
    → deep ≡ seen_behind (map bound_of others.items) inner → two ≡ bindings_read (map bound_of others.items) inner one
    → three ≡ expression_read (view body.value) deep two
    → three ≡ expression_read (view x) seen r
let_goes_on x first others body offset is seen inner deep r one two three inner_is one_is deep_is two_is three_is =
    let bs = map bound_of others.items in
    let near = seen ++ (bound_of first.value).name ∷ [] in
    three_is
    ∙ ap (λ (s : List (List ℕ)). expression_read (view body.value) s two) deep_is
    ∙ ap (expression_read (view body.value) (seen_behind bs inner)) two_is
    ∙ ap (λ (s : List (List ℕ)). expression_read (view body.value) (seen_behind bs s) (bindings_read bs s one)) inner_is
    ∙ ap (λ (q : NameReading). expression_read (view body.value) (seen_behind bs near) (bindings_read bs near q)) one_is
    ∙ let_is_read x first others body offset is seen r

-- a fold: its start value, its two variables, and its body
name_is : (b : Binding) → (bound_of b).name ≡ b.name
name_is b = search (views, the_lemmas)

value_is : (b : Binding) → (bound_of b).value ≡ view b.value
value_is b = search (views, the_lemmas)

fold_is_read : (link : Link) (variable : Variable) (accumulator : Box Binding Global) (body : Expression) (offset : ℕ) → link ≡ li.Fold variable accumulator body offset → (seen : List (List ℕ)) (r : NameReading)
    → link_read link seen r ≡ expression_read (view body) (seen ++ variable.name ∷ accumulator.value.name ∷ []) (bound accumulator.value.name (bound variable.name (expression_read (view accumulator.value.value) seen r)))
fold_is_read link variable accumulator body offset is seen r =
    ap (λ (l : Link). link_read l seen r) is
    ∙ ap (λ (f : SurfaceTree → SurfaceTree). rest_read (f (Number 0 0)) seen r) (link_of-Fold variable accumulator body offset)
    ∙ ap (λ (name : List ℕ). expression_read (view body) (seen ++ variable.name ∷ name ∷ []) (bound name (bound variable.name (expression_read (bound_of accumulator.value).value seen r)))) (name_is accumulator.value)
    ∙ ap (λ (t : SurfaceTree). expression_read (view body) (seen ++ variable.name ∷ accumulator.value.name ∷ []) (bound accumulator.value.name (bound variable.name (expression_read t seen r)))) (value_is accumulator.value)

pub fold_goes_on : (link : Link) (variable : Variable) (accumulator : Box Binding Global) (body : Expression) (offset : ℕ) → link ≡ li.Fold variable accumulator body offset → (seen outer inner deep : List (List ℕ)) (r zeroth one two three : NameReading)
    → outer ≡ seen → zeroth ≡ expression_read (view accumulator.value.value) seen r
    → inner ≡ outer ++ variable.name ∷ [] → one ≡ bound variable.name zeroth
    → deep ≡ inner ++ accumulator.value.name ∷ [] → two ≡ bound accumulator.value.name one
    → three ≡ expression_read (view body) deep two
    → three ≡ link_read link seen r
fold_goes_on link variable accumulator body offset is seen outer inner deep r zeroth one two three outer_is zeroth_is inner_is one_is deep_is two_is three_is =
    let a = accumulator.value.name in
    let n = variable.name in
    let both : deep ≡ seen ++ n ∷ a ∷ [] = deep_is ∙ ap (λ (s : List (List ℕ)). s ++ a ∷ []) inner_is ∙ ap (λ (s : List (List ℕ)). (s ++ n ∷ []) ++ a ∷ []) outer_is ∙ append_assoc seen (n ∷ []) (a ∷ []) in
    three_is
    ∙ ap (λ (s : List (List ℕ)). expression_read (view body) s two) both
    ∙ ap (expression_read (view body) (seen ++ n ∷ a ∷ [])) (two_is ∙ ap (bound a) (one_is ∙ ap (bound n) zeroth_is))
    ∙ sym (fold_is_read link variable accumulator body offset is seen r)

-- ---- names that are seen

-- behind bindings their names come after those that were seen before
behind_is : (bs : List Bound) (seen : List (List ℕ)) → seen_behind bs seen ≡ seen ++ map (λ b. b.name) bs
behind_is [] seen = sym (append-nil seen)
behind_is (b ∷ bs) seen = behind_is bs (seen ++ b.name ∷ []) ∙ append_assoc seen (b.name ∷ []) (map (λ c. c.name) bs)

-- so those are left where the others are cut off
cut_behind : (bs : List Bound) (seen : List (List ℕ)) → take (length seen) (seen_behind bs seen) ≡ seen
cut_behind bs seen = ap (take (length seen)) (behind_is bs seen) ∙ take-append_seam seen (map (λ b. b.name) bs)

pub let_cut : (b : Bound) (bs : List Bound) (seen inner deep last : List (List ℕ)) → inner ≡ seen_behind (b ∷ []) seen → deep ≡ seen_behind bs inner → last ≡ deep → take (length seen) last ≡ seen
let_cut b bs seen inner deep last inner_is deep_is kept = ap (take (length seen)) (kept ∙ deep_is ∙ ap (seen_behind bs) inner_is) ∙ cut_behind (b ∷ bs) seen

pub cut_after : (seen more inner last : List (List ℕ)) → inner ≡ seen ++ more → last ≡ inner → take (length seen) last ≡ seen
cut_after seen more inner last inner_is kept = ap (take (length seen)) (kept ∙ inner_is) ∙ take-append_seam seen more

pub cut_twice : (first second : List ℕ) (seen outer inner deep last : List (List ℕ)) → outer ≡ seen → inner ≡ outer ++ first ∷ [] → deep ≡ inner ++ second ∷ [] → last ≡ deep → take (length seen) last ≡ seen
cut_twice first second seen outer inner deep last outer_is inner_is deep_is kept =
    cut_after seen (first ∷ second ∷ []) deep last
    (deep_is ∙ ap (λ (s : List (List ℕ)). s ++ second ∷ []) inner_is ∙ ap (λ (s : List (List ℕ)). (s ++ first ∷ []) ++ second ∷ []) outer_is ∙ append_assoc seen (first ∷ []) (second ∷ []))
    kept

pub cut_seen : {X : Type 0} (name : X → List ℕ) (old new : List X) (inner : List (List ℕ)) → map name new ≡ inner → take (length (map name old)) inner ≡ map name old → map name (take (length old) new) ≡ map name old
cut_seen name old new inner is left =
    sym (take-map name (length old) new)
    ∙ ap (λ (n : ℕ). take n (map name new)) (sym (length-map old name))
    ∙ ap (take (length (map name old))) is ∙ left
