-- What is used by trees, one after another, is numbered by walking them.
use Rattle.std.proofs.Common.{◌≡◌, ℕ, ◌+◌, ◌<◌, ◌≤◌, List, [], ◌∷◌, ◌++◌, length, map, drop, get_or, Result, Err, Box, Vec, Global, refl, sym, ap, ◌∙◌, subst, rules, append_assoc, append-nil}
use Rattle.std.proofs.lemmas.List.{drop_more}
use Rattle.std.proofs.Math.ListN.{drop_of_length-le}
use Rattle.imkl_model.specs.ClassModel.{Model}
use Rattle.ocl_kinds.specs.declared.kind.ScalarKind.{ScalarKind}
use Rattle.ocl_kinds.specs.declared.kind.Kind.{Kind}
use Rattle.ocl_core.specs.declared.core_tree.Core.{Core, the_lemmas}
use Rattle.ocl_core.specs.declared.core_tree.Core.TheVariants as v
use Rattle.ocl_core.specs.declared.core_tree.CoreLink.{CoreLink, Feature, Operation', AsCollection, Iterate, Fold'}
use Rattle.ocl_core.specs.declared.core_tree.CoreLink.TheVariants as l
use Rattle.ocl_core.specs.declared.operator.Operator.{Operator}
use Rattle.ocl_core.specs.declared.core_tree.Iteration.{Iteration}
use Rattle.ocl_core.specs.Core.{CoreTree, cores_of, lets_of}
use Rattle.ocl_core.specs.Core as tree
use Rattle.ocl_core.specs.CoreView.{core_view, core_link_of, core_spine}
use Rattle.ocl_core.proofs.ForAbove.{core_view-Spine, core_view-Let, core_view-If, core_link_of-Operation, core_link_of-Iterate, core_link_of-Fold}
use Rattle.ocl_compile.specs.EmitWalk.{link_node}
use Rattle.ocl_compile.specs.Numbering.{Use, Numbering, tree_uses, trees_uses, scalar_uses, kind_uses, operator_uses, iteration_uses, with_use, with_uses}
use Rattle.ocl_compile.specs.declared.numbers.NumberFault.{NumberFault}
use Rattle.ocl_compile.specs.declared.numbers.NumberFault.TheVariants as faults
use Rattle.ocl_compile.specs.NumberWalk.{IsUseOf, AreUsesOf, FitsUnit, NumbersTo, links_uses}
use Rattle.ocl_compile.proofs.Added.{fit_before}
use Rattle.ocl_compile.proofs.CodeFits.{first_all, rest_all}

module _ (m : Model) where
  -- uses are numbered one list after another
  pub uses_then : (us vs : List Use) (n : Numbering) → with_uses m n (us ++ vs) ≡ with_uses m (with_uses m n us) vs
  uses_then [] vs n = refl
  uses_then (u ∷ us) vs n = uses_then us vs (with_use m n u)

  -- two steps, one after the other
  pub numbered_then : (r : Result (Unit {0}) NumberFault) (new mid old : Numbering) (us vs whole : List Use) → NumbersTo r new (with_uses m mid vs) → mid ≡ with_uses m old us → whole ≡ us ++ vs → NumbersTo r new (with_uses m old whole)
  numbered_then r new mid old us vs whole h f g =
      subst (NumbersTo r new) (ap (λ (n : Numbering). with_uses m n vs) f ∙ sym (uses_then us vs old) ∙ ap (with_uses m old) (sym g)) h

  -- numbering that stops at some uses stops at these and others after them
  pub stopped : (e : NumberFault) (new later old : Numbering) (us vs whole : List Use) → NumbersTo (Err e) new (with_uses m old us) → whole ≡ us ++ vs → NumbersTo (Err e) later (with_uses m old whole)
  stopped faults.TooLarge new later old us vs whole h g = λ fits.
      h (fit_before m (with_uses m old us) vs (subst FitsUnit (ap (with_uses m old) g ∙ uses_then us vs old) fits))
  stopped faults.OutOfMemory new later old us vs whole h g = tt

  -- where the uses of two parts are in the class model, so are those of each
  pub uses_parts : (us vs : List Use) → AreUsesOf m (us ++ vs) → AreUsesOf m us × AreUsesOf m vs
  uses_parts us vs h = (first_all (IsUseOf m) us vs h, rest_all (IsUseOf m) us vs h)

  -- ---- what each node uses

  link_then : (link : CoreLink) (left : CoreTree) → tree_uses m (core_link_of link left) ≡ tree_uses m left ++ tree_uses m (link_node link)
  link_then (Feature feature) left = search (rules, the_lemmas)
  link_then (Operation' operator others row) left = search (rules, the_lemmas)
  link_then (AsCollection collection element) left = search (rules, the_lemmas)
  link_then (Iterate iteration body) left = search (rules, the_lemmas)
  link_then (Fold' kind start row body) left = search (rules, the_lemmas)

  spine_then : (links : List CoreLink) (first : CoreTree) → tree_uses m (core_spine first (map core_link_of links)) ≡ tree_uses m first ++ links_uses m links
  spine_then [] first = sym (append-nil (tree_uses m first))
  spine_then (l ∷ ls) first =
      spine_then ls (core_link_of l first)
      ∙ ap (λ (us : List Use). us ++ links_uses m ls) (link_then l first)
      ∙ append_assoc (tree_uses m first) (tree_uses m (link_node l)) (links_uses m ls)

  lets_then : (vs : List CoreTree) (body : CoreTree) → tree_uses m (lets_of vs body) ≡ trees_uses m (cores_of vs) ++ tree_uses m body
  lets_then [] body = refl
  lets_then (v ∷ vs) body =
      ap (λ (us : List Use). tree_uses m v ++ us) (lets_then vs body) ∙ sym (append_assoc (tree_uses m v) (trees_uses m (cores_of vs)) (tree_uses m body))

  -- nodes in memory, a spine, a LET and an IF, use what their parts use
  pub spine_uses : (core : Core) (first : Box Core Global) (links : Vec CoreLink Global) → core ≡ v.Spine first links → tree_uses m (core_view core) ≡ tree_uses m (core_view first.value) ++ links_uses m links.items
  spine_uses core first links is = ap (tree_uses m) (ap core_view is ∙ core_view-Spine first links) ∙ spine_then links.items (core_view first.value)

  pub let_uses : (core : Core) (values : Vec Core Global) (body : Box Core Global) → core ≡ v.Let values body → tree_uses m (core_view core) ≡ trees_uses m (cores_of (map core_view values.items)) ++ tree_uses m (core_view body.value)
  let_uses core values body is = ap (tree_uses m) (ap core_view is ∙ core_view-Let values body) ∙ lets_then (map core_view values.items) (core_view body.value)

  pub if_uses : (core : Core) (k : Kind) (condition first second : Box Core Global) → core ≡ v.If k condition first second → tree_uses m (core_view core) ≡ tree_uses m (core_view condition.value) ++ (kind_uses k ++ (tree_uses m (core_view first.value) ++ tree_uses m (core_view second.value)))
  if_uses core k condition first second is = ap (tree_uses m) (ap core_view is ∙ core_view-If k condition first second)

  -- and where what an IF uses is in the class model, so is what its parts use
  pub if_parts : (core : Core) (k : Kind) (condition first second : Box Core Global) → core ≡ v.If k condition first second → AreUsesOf m (tree_uses m (core_view core)) → AreUsesOf m (tree_uses m (core_view condition.value)) × AreUsesOf m (kind_uses k) × AreUsesOf m (tree_uses m (core_view first.value)) × AreUsesOf m (tree_uses m (core_view second.value))
  if_parts core k condition first second is h =
      let a = tree_uses m (core_view first.value) in
      let b = tree_uses m (core_view second.value) in
      let p = uses_parts (tree_uses m (core_view condition.value)) (kind_uses k ++ (a ++ b)) (subst (AreUsesOf m) (if_uses core k condition first second is) h) in
      let q = uses_parts (kind_uses k) (a ++ b) p.1 in
      let r = uses_parts a b q.1 in
      (p.0, q.0, r.0, r.1)

  -- an operation uses what its other operands use, and then what its operator does
  pub operation_uses : (link : CoreLink) (operator : Operator) (others : Vec Core Global) → link ≡ l.Operation operator others → tree_uses m (link_node link) ≡ trees_uses m (cores_of (map core_view others.items)) ++ operator_uses operator
  operation_uses link operator others is =
      ap (λ (f : CoreTree → CoreTree). tree_uses m (f (tree.Value tree.Null))) (ap core_link_of is ∙ core_link_of-Operation operator others)

  -- and an iteration what it names, and then what its body uses
  pub iterate_uses : (link : CoreLink) (i : Iteration) (body : Core) → link ≡ l.Iterate i body → tree_uses m (link_node link) ≡ iteration_uses i ++ tree_uses m (core_view body)
  iterate_uses link i body is =
      ap (λ (f : CoreTree → CoreTree). tree_uses m (f (tree.Value tree.Null))) (ap core_link_of is ∙ core_link_of-Iterate i body)

  -- a fold what its start value uses, its kind, and its body
  pub fold_uses : (link : CoreLink) (k : ScalarKind) (start : Box Core Global) (body : Core) → link ≡ l.Fold k start body → tree_uses m (link_node link) ≡ tree_uses m (core_view start.value) ++ (scalar_uses k ++ tree_uses m (core_view body))
  fold_uses link k start body is =
      ap (λ (f : CoreTree → CoreTree). tree_uses m (f (tree.Value tree.Null))) (ap core_link_of is ∙ core_link_of-Fold k start body)

  -- and where it is in the class model, so is what each of them uses
  pub fold_parts : (link : CoreLink) (k : ScalarKind) (start : Box Core Global) (body : Core) → link ≡ l.Fold k start body → AreUsesOf m (tree_uses m (link_node link)) → AreUsesOf m (tree_uses m (core_view start.value)) × AreUsesOf m (scalar_uses k) × AreUsesOf m (tree_uses m (core_view body))
  fold_parts link k start body is h =
      let b = tree_uses m (core_view body) in
      let p = uses_parts (tree_uses m (core_view start.value)) (scalar_uses k ++ b) (subst (AreUsesOf m) (fold_uses link k start body is) h) in
      let q = uses_parts (scalar_uses k) b p.1 in
      (p.0, q.0, q.1)

-- ---- loops

module _ {X : Type 0} (m : Model) (f : X → List Use) (F : List X → List Use) (step : (x : X) (xs : List X) → F (x ∷ xs) ≡ f x ++ F xs) where
  from_here : (xs : List X) (i : ℕ) (x : X) → x ≡ get_or xs i x → i < length xs → F (drop i xs) ≡ f x ++ F (drop (i + 1) xs)
  from_here xs i x is lt =
      ap F (drop_more xs i x lt ∙ ap (λ (y : X). y ∷ drop (i + 1) xs) (sym is)) ∙ step x (drop (i + 1) xs)

  -- the item at hand, and those after it
  pub uses_here : (xs : List X) (i : ℕ) (x : X) → x ≡ get_or xs i x → i < length xs → AreUsesOf m (F (drop i xs)) → AreUsesOf m (f x) × AreUsesOf m (F (drop (i + 1) xs))
  uses_here xs i x is lt h = uses_parts m (f x) (F (drop (i + 1) xs)) (subst (AreUsesOf m) (from_here xs i x is lt) h)

  -- numbering the item at hand leaves those after it to be numbered
  pub numbered_on : (xs : List X) (i : ℕ) (x : X) → x ≡ get_or xs i x → i < length xs → (old new total : Numbering) → new ≡ with_uses m old (f x) → with_uses m old (F (drop i xs)) ≡ total → with_uses m new (F (drop (i + 1) xs)) ≡ total
  numbered_on xs i x is lt old new total e h =
      let rest = F (drop (i + 1) xs) in
      ap (λ (n : Numbering). with_uses m n rest) e ∙ sym (uses_then m (f x) rest old) ∙ ap (with_uses m old) (sym (from_here xs i x is lt)) ∙ h

  -- and where it stops, so does the loop
  pub stopped_here : (xs : List X) (i : ℕ) (x : X) → x ≡ get_or xs i x → i < length xs → (e : NumberFault) (old new later total : Numbering) → NumbersTo (Err e) new (with_uses m old (f x)) → with_uses m old (F (drop i xs)) ≡ total → NumbersTo (Err e) later total
  stopped_here xs i x is lt e old new later total h all =
      subst (NumbersTo (Err e) later) all (stopped m e new later old (f x) (F (drop (i + 1) xs)) (F (drop i xs)) h (from_here xs i x is lt))

  -- at the end of a loop, all is numbered
  pub all_numbered : F [] ≡ [] → (xs : List X) (i : ℕ) → length xs ≤ i → (n total : Numbering) → with_uses m n (F (drop i xs)) ≡ total → n ≡ total
  all_numbered none xs i le n total h = ap (with_uses m n) (sym (ap F (drop_of_length-le xs le) ∙ none)) ∙ h
