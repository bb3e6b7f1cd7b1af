-- Links, one kind after another: what a link makes of what stands on its left.
use Rattle.std.proofs.lemmas.List.{drop_more}
use Rattle.std.proofs.Common.{◌≡◌, ◌<◌, ◌+◌, get_or, drop, ℕ, Bool, true, false, List, [], ◌∷◌, map, length, Option, Some, None, Result, Ok, Err, refl, sym, ap, subst, ◌∙◌, Box, Vec, Global, rules, if◌then◌else◌}
use Rattle.imkl_model.specs.ClassModel.{Model, class_number}
use Rattle.ocl_base.specs.Steps.{◌>>=◌, found, Gives, Fails}
use Rattle.ocl_kinds.specs.declared.kind.Kind.{Kind}
use Rattle.ocl_kinds.specs.declared.kind.Kind.TheVariants.{Scalar}
use Rattle.ocl_text.specs.declared.tree.BinaryOperator.{BinaryOperator}
use Rattle.ocl_text.specs.declared.tree.IteratorKind.{IteratorKind}
use Rattle.ocl_text.specs.declared.tree.Navigation.{Navigation}
use Rattle.ocl_text.specs.declared.tree.Navigation.TheVariants.{Dot, Arrow}
use Rattle.ocl_text.specs.declared.tree.Expression.{the_lemmas}
use Rattle.ocl_text.specs.declared.tree.Link.{Link, Binary, Property, Call', Iterate, Fold'}
use Rattle.ocl_text.specs.Tree as t
use Rattle.ocl_text.specs.declared.tree.Expression.{Expression}
use Rattle.ocl_text.specs.declared.tree.Link.TheVariants as li
use Rattle.ocl_text.specs.declared.tree.Variable.{Variable}
use Rattle.ocl_text.specs.declared.tree.Variables as v
use Rattle.ocl_text.specs.declared.tree.Binding.{Binding}
use Rattle.ocl_text.proofs.ForAbove.{link_of-Binary, link_of-Property, link_of-Call, link_of-Iterate, link_of-Fold, views}
use Rattle.ocl_text.specs.Tree.{VariableTree, Variables, Bound, SurfaceTree, Trees, trees_of, offset_of, type_offset, fold_with}
use Rattle.ocl_text.specs.View.{view, bound_of, link_of, spine_of, view_variable, view_variables}
use Rattle.ocl_types.specs.TypedTrees.{TypedTree}
use Rattle.ocl_types.specs.declared.typed.Typed.{Typed}
use Rattle.ocl_types.specs.declared.fault.TypeFault.{TypeFault}
use Rattle.ocl_types.specs.declared.fault.TypeFault.TheVariants.{At, OutOfMemory}
use Rattle.ocl_types.specs.declared.fault.TypeFlaw.TheVariants.{UnknownName}
use Rattle.ocl_types.specs.TypedView.{typed_in}
use Rattle.ocl_types.specs.Faults.{TypeFaultAt, type_fault, type_fault_at}
use Rattle.ocl_types.specs.Scope.{VariableScope, ScopeVariable, Named, scope_variable}
use Rattle.ocl_types.specs.Elaboration.{Elaborated, as_name, class_before, OfInstances, OfValue, Gathered, source_of_arrow, declared_element, element_variable, bound_value, accumulator_kind, fold_scope, fold_of, property_of, call_of, elaborate}
use Rattle.ocl_types.specs.Walk.{IsLeft, FoldStart, begun_with, start_of, fold_begun, fold_rest, class_of_call, class_before_links, binary_after, call_after, instances_after, iterate_after, fold_start, fold_after}

-- ---- a link makes a node with what stands on its left

abbrev Made : SurfaceTree → SurfaceTree → Type 0
Made left (t.Binary operator source right offset) = source ≡ left
Made left (t.Property source name offset) = source ≡ left
Made left (t.Call source navigation name arguments offset) = source ≡ left
Made left (t.Iterate source iterator variables body offset) = source ≡ left
Made left (t.Fold source variable accumulator declared start body offset) = source ≡ left
Made left tree = ⊥

link_made : (link : Link) (left : SurfaceTree) → Made left (link_of link left)
link_made (Binary operator right offset) left = search (rules, the_lemmas)
link_made (Property name offset) left = search (rules, the_lemmas)
link_made (Call' navigation name arguments row offset) left = search (rules, the_lemmas)
link_made (Iterate iterator variables body offset) left = search (rules, the_lemmas)
link_made (Fold' variable name declared value at_name row body offset) left = search (rules, the_lemmas)

made_no_name : (left tree : SurfaceTree) → Made left tree → as_name tree ≡ None
made_no_name left (t.Binary operator source right offset) made = refl
made_no_name left (t.Property source name offset) made = refl
made_no_name left (t.Call source navigation name arguments offset) made = refl
made_no_name left (t.Iterate source iterator variables body offset) made = refl
made_no_name left (t.Fold source variable accumulator declared start body offset) made = refl
made_no_name left tree made = absurd made

link_is_no_name : (link : Link) (left : SurfaceTree) → as_name (link_of link left) ≡ None
link_is_no_name link left = made_no_name left (link_of link left) (link_made link left)

still_no_name : (links : List Link) (left : SurfaceTree) → as_name left ≡ None → as_name (spine_of left (map link_of links)) ≡ None
still_no_name [] left h = h
still_no_name (l ∷ ls) left h = still_no_name ls (link_of l left) (link_is_no_name l left)

-- an operand with links is no name
pub spine_is_no_name : (first : SurfaceTree) (links : List Link) → (length links ≡ 0 → ⊥) → as_name (spine_of first (map link_of links)) ≡ None
spine_is_no_name first [] h = absurd (h refl)
spine_is_no_name first (l ∷ ls) h = still_no_name ls (link_of l first) (link_is_no_name l first)

-- ---- what is no name is no class before `.allInstances`

no_class_by : (b : Bool) (o : Option (List ℕ × ℕ)) → o ≡ None → (if b then o else None) ≡ None
no_class_by true o h = h
no_class_by false o h = refl

no_class : (left : SurfaceTree) (navigation : Navigation) (name : List ℕ) → as_name left ≡ None → class_before left navigation name ≡ None
no_class left Dot name h = no_class_by _ (as_name left) h
no_class left Arrow name h = refl

made_plain : (left tree : SurfaceTree) → as_name left ≡ None → Made left tree → class_of_call tree ≡ None
made_plain left (t.Binary operator source right offset) h made = refl
made_plain left (t.Property source name offset) h made = refl
made_plain left (t.Call source navigation name arguments offset) h made = no_class source navigation name (rw made h)
made_plain left (t.Iterate source iterator variables body offset) h made = refl
made_plain left (t.Fold source variable accumulator declared start body offset) h made = refl
made_plain left tree h made = absurd made

link_plain : (link : Link) (left : SurfaceTree) → as_name left ≡ None → class_of_call (link_of link left) ≡ None
link_plain link left h = made_plain left (link_of link left) h (link_made link left)

links_plain : (links : List Link) (left : SurfaceTree) → as_name left ≡ None → class_before_links left links ≡ None
links_plain [] left h = refl
links_plain (l ∷ ls) left h = link_plain l left h

-- the first link after what isn't a class before it
pub first_plain : (rest more : List Link) (link : Link) (left : SurfaceTree) → rest ≡ link ∷ more → class_before_links left rest ≡ None → class_of_call (link_of link left) ≡ None
first_plain rest more link left is h = rw is at h

-- ---- what is a name is one, where the class before `.allInstances` is asked

named_by : {A : Type 0} (b : Bool) (o : Option A) (x : A) → (if b then o else None) ≡ Some x → o ≡ Some x
named_by true o x h = h
named_by false o x h = absurd (let none : None ≡ Some x = h in cc)

name_before : (source : SurfaceTree) (navigation : Navigation) (name : List ℕ) (x : List ℕ × ℕ) → class_before source navigation name ≡ Some x → as_name source ≡ Some x
name_before source Dot name x h = named_by _ (as_name source) x h
name_before source Arrow name x h = absurd (let none : None ≡ Some x = h in cc)

no_such : {P : Type 0} (x : List ℕ × ℕ) → None ≡ Some x → P
no_such x h = absurd (let none : None ≡ Some x = h in cc)

made_named : (left tree : SurfaceTree) (x : List ℕ × ℕ) → Made left tree → class_of_call tree ≡ Some x → as_name left ≡ Some x
made_named left (t.Binary operator source right offset) x made h = no_such x h
made_named left (t.Property source name offset) x made h = no_such x h
made_named left (t.Call source navigation name arguments offset) x made h = subst (λ (tree : SurfaceTree). as_name tree ≡ Some x) made (name_before source navigation name x h)
made_named left (t.Iterate source iterator variables body offset) x made h = no_such x h
made_named left (t.Fold source variable accumulator declared start body offset) x made h = no_such x h
made_named left tree x made h = absurd made

name_is : (tree : SurfaceTree) (x : List ℕ × ℕ) → as_name tree ≡ Some x → tree ≡ t.Name x.0 x.1
name_is (t.Name name offset) x h = let same : (name, offset) ≡ x = cc in ap (λ (y : List ℕ × ℕ). t.Name y.0 y.1) same
name_is (t.Number value offset) x h = no_such x h
name_is (t.String value offset) x h = no_such x h
name_is (t.Keyword keyword offset) x h = no_such x h
name_is (t.EnumerationLiteral enumeration literal offset) x h = no_such x h
name_is (t.Prefix operator operand offset) x h = no_such x h
name_is (t.Binary operator left right offset) x h = no_such x h
name_is (t.Property source name offset) x h = no_such x h
name_is (t.Call source navigation name arguments offset) x h = no_such x h
name_is (t.Iterate source iterator variables body offset) x h = no_such x h
name_is (t.Fold source variable accumulator declared start body offset) x h = no_such x h
name_is (t.Let name declared value body offset) x h = no_such x h
name_is (t.If condition then_branch else_branch offset) x h = no_such x h

-- an operand before a first link that asks for a class is that class's name
first_is_name : (first : SurfaceTree) (links : List Link) (x : List ℕ × ℕ) → class_before_links first links ≡ Some x → first ≡ t.Name x.0 x.1
first_is_name first [] x h = no_such x h
first_is_name first (l ∷ ls) x h = name_is first x (made_named first (link_of l first) x (link_made l first) h)

-- the name of a binding
pub name_bound : (b : Binding) → (bound_of b).name ≡ b.name
name_bound b = search (views, the_lemmas)

-- a step that succeeded, and the next one
pub went_on : {A B : Type 0} (r : Result A TypeFaultAt) (f : A → Result B TypeFaultAt) (x : A) → r ≡ Ok x → (r >>= f) ≡ f x
went_on r f x h = rw h refl

-- steps that go on in the same way
same_next : {A B : Type 0} (r : Result A TypeFaultAt) (f g : A → Result B TypeFaultAt) → ((x : A) → f x ≡ g x) → (r >>= f) ≡ (r >>= g)
same_next (Ok x) f g h = h x
same_next (Err e) f g h = refl

started_by : {V A B : Type 0} (r : Result V TypeFaultAt) (made : V → A) (g : A → Result B TypeFaultAt) → (r >>= λ v. g (made v)) ≡ ((r >>= λ v. Ok (made v)) >>= g)
started_by (Ok v) made g = refl
started_by (Err e) made g = refl

-- three steps whose results are put together before the next one
started : {K X V A B : Type 0} (k : Result K TypeFaultAt) (x : Result X TypeFaultAt) (r : K → X → Result V TypeFaultAt) (made : K → V → A) (g : A → Result B TypeFaultAt) → (k >>= λ j. x >>= λ y. r j y >>= λ v. g (made j v)) ≡ ((k >>= λ j. x >>= λ y. r j y >>= λ v. Ok (made j v)) >>= g)
started (Ok j) (Ok y) r made g = started_by (r j y) (made j) g
started (Ok j) (Err e) r made g = refl
started (Err e) x r made g = refl

module _ (m : Model) (context : ℕ) (s : VariableScope) where
  -- ---- a node by what its left side gives

  binary_is : (left : SurfaceTree) (x : TypedTree) (operator : BinaryOperator) (right : SurfaceTree) (offset : ℕ) → elaborate m context s left ≡ Ok x → elaborate m context s (t.Binary operator left right offset) ≡ binary_after m context s operator x (offset_of left) right offset
  unfolding elaborate
  binary_is left x operator right offset h = rw h refl

  property_is : (left : SurfaceTree) (x : TypedTree) (name : List ℕ) (offset : ℕ) → elaborate m context s left ≡ Ok x → elaborate m context s (t.Property left name offset) ≡ property_of m (length s) x name offset
  unfolding elaborate
  property_is left x name offset h = rw h refl

  call_is : (left : SurfaceTree) (x : TypedTree) (navigation : Navigation) (name : List ℕ) (arguments : Trees) (offset : ℕ) → elaborate m context s left ≡ Ok x → class_before left navigation name ≡ None → elaborate m context s (t.Call left navigation name arguments offset) ≡ call_after m context s (OfValue x) navigation name arguments offset
  unfolding elaborate
  call_is left x navigation name arguments offset h plain = rw (plain, h) refl

  iterate_is : (left : SurfaceTree) (x : TypedTree) (iterator : IteratorKind) (variables : Variables) (body : SurfaceTree) (offset : ℕ) → elaborate m context s left ≡ Ok x → elaborate m context s (t.Iterate left iterator variables body offset) ≡ iterate_after m context s iterator x variables body offset
  unfolding elaborate
  iterate_is left x iterator variables body offset h = rw h refl

  fold_is : (left : SurfaceTree) (x : TypedTree) (variable : VariableTree) (accumulator : Bound) (body : SurfaceTree) (offset : ℕ) → elaborate m context s left ≡ Ok x → elaborate m context s (fold_with left variable accumulator body offset) ≡ fold_after m context s x variable accumulator body
  unfolding elaborate
  fold_is left x variable accumulator body offset h =
      let over = source_of_arrow x in
      rw h (same_next (element_variable m over.element variable) _ _ (λ v.
      started (accumulator_kind m accumulator.declared) (elaborate m context s accumulator.value) (λ k y. bound_value m (Scalar k) y (type_offset accumulator.declared)) fold_start
      (λ start. elaborate m context (fold_scope s v accumulator.name start.kind) body >>= λ z. fold_of m start.kind over start.core z (offset_of body))))

  -- a fold begins, and its body comes after it
  begun_first : {B : Type 0} (r : Result Kind TypeFaultAt) (made : Kind → ScopeVariable) (start : Result FoldStart TypeFaultAt) (over : Gathered) (go : Gathered → ScopeVariable → FoldStart → Result B TypeFaultAt)
      → ((r >>= λ kind. Ok (made kind)) >>= λ v. start >>= λ p. go over v p) ≡ ((r >>= λ kind. start >>= λ p. Ok (begun_with over kind p)) >>= λ g. go g.source (made g.element) g.start)
  begun_first (Ok kind) made (Ok p) over go = refl
  begun_first (Ok kind) made (Err e) over go = refl
  begun_first (Err e) made start over go = refl

  pub fold_goes_on : (x : TypedTree) (variable : VariableTree) (accumulator : Bound) (body : SurfaceTree) → fold_after m context s x variable accumulator body ≡ (fold_begun m context s x variable accumulator >>= λ g. fold_rest m context s variable.0 accumulator.name g body)
  fold_goes_on x variable accumulator body =
      let over = source_of_arrow x in
      begun_first (declared_element m over.element variable.1) (λ kind. scope_variable (Named variable.0) kind) (start_of m context s accumulator) over
      (λ from v start. elaborate m context (fold_scope s v accumulator.name start.kind) body >>= λ z. fold_of m start.kind from start.core z (offset_of body))

  -- ---- what is wrong on the left is wrong with the links

  made_fails : (e : TypeFaultAt) (left tree : SurfaceTree) → class_of_call tree ≡ None → Made left tree → elaborate m context s left ≡ Err e → elaborate m context s tree ≡ Err e
  unfolding elaborate
  made_fails e left (t.Binary operator source right offset) h made fails = rw (made, fails) refl
  made_fails e left (t.Property source name offset) h made fails = rw (made, fails) refl
  made_fails e left (t.Call source navigation name arguments offset) h made fails = rw h (rw (made, fails) refl)
  made_fails e left (t.Iterate source iterator variables body offset) h made fails = rw (made, fails) refl
  made_fails e left (t.Fold source variable accumulator declared start body offset) h made fails = rw (made, fails) refl
  made_fails e left tree h made fails = absurd made

  still_fails : (e : TypeFaultAt) (links : List Link) (left : SurfaceTree) → as_name left ≡ None → elaborate m context s left ≡ Err e → elaborate m context s (spine_of left (map link_of links)) ≡ Err e
  still_fails e [] left h fails = fails
  still_fails e (l ∷ ls) left h fails = still_fails e ls (link_of l left) (link_is_no_name l left) (made_fails e left (link_of l left) (link_plain l left h) (link_made l left) fails)

  -- the first link isn't `.allInstances` after a name
  pub links_fail : (e : TypeFaultAt) (links : List Link) (left : SurfaceTree) → class_before_links left links ≡ None → elaborate m context s left ≡ Err e → elaborate m context s (spine_of left (map link_of links)) ≡ Err e
  links_fail e [] left h fails = fails
  links_fail e (l ∷ ls) left h fails = still_fails e ls (link_of l left) (link_is_no_name l left) (made_fails e left (link_of l left) h (link_made l left) fails)

  -- ---- the same of a link

  -- a node that equals a made one, by what is left of it
  with_left : (made : SurfaceTree → SurfaceTree) (link : Link) (left : SurfaceTree) → link_of link ≡ made → elaborate m context s (link_of link left) ≡ elaborate m context s (made left)
  with_left made link left e = ap (λ (f : SurfaceTree → SurfaceTree). elaborate m context s (f left)) e

  -- each kind of link, by what stands left of it
  pub binary_link : (link : Link) (operator : BinaryOperator) (right : Expression) (offset : ℕ) (left : SurfaceTree) (x : TypedTree) → link ≡ li.Binary operator right offset → elaborate m context s left ≡ Ok x → elaborate m context s (link_of link left) ≡ binary_after m context s operator x (offset_of left) (view right) offset
  binary_link link operator right offset left x is h = with_left _ link left (ap link_of is ∙ link_of-Binary operator right offset) ∙ binary_is left x operator (view right) offset h

  pub property_link : (link : Link) (name : List ℕ) (offset : ℕ) (left : SurfaceTree) (x : TypedTree) → link ≡ li.Property name offset → elaborate m context s left ≡ Ok x → elaborate m context s (link_of link left) ≡ property_of m (length s) x name offset
  property_link link name offset left x is h = with_left _ link left (ap link_of is ∙ link_of-Property name offset) ∙ property_is left x name offset h

  pub call_link : (link : Link) (navigation : Navigation) (name : List ℕ) (arguments : Vec Expression Global) (offset : ℕ) (left : SurfaceTree) (x : TypedTree) → link ≡ li.Call navigation name arguments offset → elaborate m context s left ≡ Ok x → class_of_call (link_of link left) ≡ None → elaborate m context s (link_of link left) ≡ call_after m context s (OfValue x) navigation name (trees_of (map view arguments.items)) offset
  call_link link navigation name arguments offset left x is h plain =
      let same : link_of link ≡ (λ source. t.Call source navigation name (trees_of (map view arguments.items)) offset) = ap link_of is ∙ link_of-Call navigation name arguments offset in
      let p : class_before left navigation name ≡ None = sym (ap (λ (f : SurfaceTree → SurfaceTree). class_of_call (f left)) same) ∙ plain in
      with_left _ link left same ∙ call_is left x navigation name (trees_of (map view arguments.items)) offset h p

  pub iterate_link : (link : Link) (iterator : IteratorKind) (variables : v.Variables) (body : Expression) (offset : ℕ) (left : SurfaceTree) (x : TypedTree) → link ≡ li.Iterate iterator variables body offset → elaborate m context s left ≡ Ok x → elaborate m context s (link_of link left) ≡ iterate_after m context s iterator x (view_variables variables) (view body) offset
  iterate_link link iterator variables body offset left x is h = with_left _ link left (ap link_of is ∙ link_of-Iterate iterator variables body offset) ∙ iterate_is left x iterator (view_variables variables) (view body) offset h

  pub fold_link : (link : Link) (variable : Variable) (accumulator : Box Binding Global) (body : Expression) (offset : ℕ) (left : SurfaceTree) (x : TypedTree) → link ≡ li.Fold variable accumulator body offset → elaborate m context s left ≡ Ok x → elaborate m context s (link_of link left) ≡ fold_after m context s x (view_variable variable) (bound_of accumulator.value) (view body)
  fold_link link variable accumulator body offset left x is h = with_left _ link left (ap link_of is ∙ link_of-Fold variable accumulator body offset) ∙ fold_is left x (view_variable variable) (bound_of accumulator.value) (view body) offset h

  -- a class before `.allInstances` is looked up in place of the operand

  instances_by : (o : Option ℕ) (fault : TypeFaultAt) (navigation : Navigation) (name : List ℕ) (arguments : Trees) (offset : ℕ) → ((found o fault >>= λ c. Ok (OfInstances c)) >>= λ x. call_after m context s x navigation name arguments offset) ≡ (found o fault >>= λ c. instances_after m context s c name arguments offset)
  unfolding call_of
  instances_by None fault navigation name arguments offset = refl
  instances_by (Some c) fault navigation name arguments offset = refl

  instances_is : (class : List ℕ) (at : ℕ) (navigation : Navigation) (name : List ℕ) (arguments : Trees) (offset : ℕ) → class_before (t.Name class at) navigation name ≡ Some (class, at) → elaborate m context s (t.Call (t.Name class at) navigation name arguments offset) ≡ (found (class_number m class) (type_fault_at UnknownName at) >>= λ c. instances_after m context s c name arguments offset)
  unfolding elaborate
  instances_is class at navigation name arguments offset h = rw h (instances_by (class_number m class) (type_fault_at UnknownName at) navigation name arguments offset)

  -- the same of a link after a name
  pub instances_link : (link : Link) (navigation : Navigation) (name : List ℕ) (arguments : Vec Expression Global) (offset : ℕ) (class : List ℕ) (at : ℕ) → link ≡ li.Call navigation name arguments offset → class_of_call (link_of link (t.Name class at)) ≡ Some (class, at) → elaborate m context s (link_of link (t.Name class at)) ≡ (found (class_number m class) (type_fault_at UnknownName at) >>= λ c. instances_after m context s c name (trees_of (map view arguments.items)) offset)
  instances_link link navigation name arguments offset class at is h =
      let same : link_of link ≡ (λ source. t.Call source navigation name (trees_of (map view arguments.items)) offset) = ap link_of is ∙ link_of-Call navigation name arguments offset in
      let p : class_before (t.Name class at) navigation name ≡ Some (class, at) = sym (ap (λ (f : SurfaceTree → SurfaceTree). class_of_call (f (t.Name class at))) same) ∙ h in
      with_left _ link (t.Name class at) same ∙ instances_is class at navigation name (trees_of (map view arguments.items)) offset p

  -- ---- over several links

  -- what is wrong with the operand, where the first link isn't `.allInstances` after a name
  pub first_fails : (e : TypeFault) (first : SurfaceTree) (links : List Link) → class_before_links first links ≡ None → Fails type_fault e (elaborate m context s first) → Fails type_fault e (elaborate m context s (spine_of first (map link_of links)))
  first_fails OutOfMemory first links plain h = tt
  first_fails (At flaw offset) first links plain h = links_fail (type_fault_at flaw offset) links first plain h

  -- after a first link that is `.allInstances` after a name
  pub after_instances : (first : SurfaceTree) (links : List Link) (link : Link) (class : List ℕ × ℕ) (x : TypedTree) (o : ℕ) → class_before_links first links ≡ Some class → link ≡ get_or links 0 link → elaborate m context s (link_of link (t.Name class.0 class.1)) ≡ Ok x → o ≡ offset_of (link_of link (t.Name class.0 class.1)) → IsLeft m context s (spine_of first (map link_of links)) (drop 1 links) x o
  after_instances first [] link class x o h is value stands = no_such class h
  after_instances first (l ∷ ls) link class x o h is value stands =
      let named : first ≡ t.Name class.0 class.1 = first_is_name first (l ∷ ls) class h in
      record {
        left = link_of link (t.Name class.0 class.1);
        value = value;
        stands = sym stands;
        goes_on = ap (λ (k : Link). spine_of (link_of k (t.Name class.0 class.1)) (map link_of ls)) is ∙ ap (λ (tree : SurfaceTree). spine_of (link_of l tree) (map link_of ls)) (sym named);
        plain = links_plain ls (link_of link (t.Name class.0 class.1)) (link_is_no_name link (t.Name class.0 class.1));
      }

  -- and what is wrong with it
  pub instances_fail : (e : TypeFault) (first : SurfaceTree) (links : List Link) (link : Link) (class : List ℕ × ℕ) → class_before_links first links ≡ Some class → link ≡ get_or links 0 link → Fails type_fault e (elaborate m context s (link_of link (t.Name class.0 class.1))) → Fails type_fault e (elaborate m context s (spine_of first (map link_of links)))
  instances_fail e first [] link class h is fails = no_such class h
  instances_fail OutOfMemory first (l ∷ ls) link class h is fails = tt
  instances_fail (At flaw offset) first (l ∷ ls) link class h is fails =
      let named : first ≡ t.Name class.0 class.1 = first_is_name first (l ∷ ls) class h in
      let whole : spine_of (link_of link (t.Name class.0 class.1)) (map link_of ls) ≡ spine_of first (map link_of (l ∷ ls)) =
      ap (λ (k : Link). spine_of (link_of k (t.Name class.0 class.1)) (map link_of ls)) is ∙ ap (λ (tree : SurfaceTree). spine_of (link_of l tree) (map link_of ls)) (sym named) in
      ap (λ (tree : SurfaceTree). elaborate m context s tree) (sym whole)
      ∙ still_fails (type_fault_at flaw offset) ls (link_of link (t.Name class.0 class.1)) (link_is_no_name link (t.Name class.0 class.1)) fails

  -- one link further
  pub next_left : (whole : SurfaceTree) (link : Link) (more rest : List Link) (x y : TypedTree) (o p : ℕ) → (l : IsLeft m context s whole rest x o) → rest ≡ link ∷ more → elaborate m context s (link_of link l.left) ≡ Ok y → p ≡ offset_of (link_of link l.left) → IsLeft m context s whole more y p
  next_left whole link more rest x y o p l is value stands = record {
    left = link_of link l.left;
    value = value;
    stands = sym stands;
    goes_on = ap (λ (ls : List Link). spine_of l.left (map link_of ls)) (sym is) ∙ l.goes_on;
    plain = links_plain more (link_of link l.left) (link_is_no_name link l.left);
  }

  -- after the last link
  pub last_left : (whole : SurfaceTree) (rest : List Link) (x : TypedTree) (o : ℕ) → IsLeft m context s whole rest x o → rest ≡ [] → elaborate m context s whole ≡ Ok x
  last_left whole rest x o l is = ap (λ (w : SurfaceTree). elaborate m context s w) (sym l.goes_on ∙ ap (λ (ls : List Link). spine_of l.left (map link_of ls)) is) ∙ l.value

  -- a link that has a fault gives it to the whole
  pub left_fails : (whole : SurfaceTree) (link : Link) (more rest : List Link) (x : TypedTree) (o : ℕ) (e : TypeFault) → (l : IsLeft m context s whole rest x o) → rest ≡ link ∷ more → Fails type_fault e (elaborate m context s (link_of link l.left)) → Fails type_fault e (elaborate m context s whole)
  left_fails whole link more rest x o OutOfMemory l is h = tt
  left_fails whole link more rest x o (At flaw offset) l is h =
      ap (λ (w : SurfaceTree). elaborate m context s w) (sym l.goes_on ∙ ap (λ (ls : List Link). spine_of l.left (map link_of ls)) is)
      ∙ still_fails (type_fault_at flaw offset) more (link_of link l.left) (link_is_no_name link l.left) h

-- the link at an index, and those after it
pub more_links : (links : List Link) (i : ℕ) (link : Link) → link ≡ get_or links i link → i < length links → drop i links ≡ link ∷ drop (i + 1) links
more_links links i link is within = drop_more links i link within ∙ ap (λ (l : Link). l ∷ drop (i + 1) links) (sym is)

-- what a function returned, at an equal answer
pub carried : (r : Result (Box Typed Global) TypeFault) (a b : Elaborated) → b ≡ a → Gives type_fault typed_in r a → Gives type_fault typed_in r b
carried r a b e h = let P : Elaborated → Type 0 = λ q. Gives type_fault typed_in r q in subst P (sym e) h
