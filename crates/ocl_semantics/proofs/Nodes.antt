-- Nodes as they lie in memory: what a tree means by its parts, and what an evaluator is given of them.
use Rattle.std.proofs.Common.{◌≡◌, List, [], ◌∷◌, map, refl, sym, ap, ◌∙◌, subst, rules, Box, Vec, Global, Result}
use Rattle.std.specs.Prelude.{IfOk}
use Rattle.std.proofs.lemmas.Result.{IfOk-weaker}
use Rattle.std.specs.List.{AllByRecursion}
use Rattle.imkl_model.specs.ClassModel.{Model}
use Rattle.imkl_population.specs.Population.{Population}
use Rattle.ocl_core.specs.declared.core_tree.Core.{Core, the_lemmas}
use Rattle.ocl_core.specs.declared.core_tree.Core.TheVariants as v
use Rattle.ocl_core.specs.declared.core_tree.CoreLink.{CoreLink, Feature, Operation', AsCollection, Iterate, Fold'}
use Rattle.ocl_core.specs.declared.core_tree.CoreLink.TheVariants as l
use Rattle.ocl_core.specs.declared.core_tree.Iteration.{Iteration}
use Rattle.ocl_kinds.specs.declared.kind.ScalarKind.{ScalarKind}
use Rattle.ocl_core.specs.Core as tree
use Rattle.ocl_core.specs.Core.{CoreTree, CoreTrees, cores_of, lets_of}
use Rattle.ocl_core.specs.CoreView.{core_view, core_link_of, core_spine}
use Rattle.ocl_core.proofs.ForAbove.{core_view-Spine, core_view-Let, core_link_of-Iterate, core_link_of-Fold}
use Rattle.ocl_semantics.specs.Meaning.{meaning}
use Rattle.rule_values.specs.Value.{Value}
use Rattle.owned_values.specs.declared.value.Value.{Value as Held}
use Rattle.owned_values.specs.Meant.{meant, IsValueThere}
use Rattle.ocl_semantics.specs.Resolved.{IsResolved}
use Rattle.ocl_semantics.specs.Evaluated.{on_null, link_value, links_value, bindings, IsLinkResolved, AreLinksResolved}

-- ---- links

module _ (p : Population) (vars : List Value) where
  -- what a link makes of a tree means what it makes of the tree's value
  pub link_meaning : (link : CoreLink) (left : CoreTree) → meaning p (core_link_of link left) vars ≡ link_value p vars (meaning p left vars) link
  link_meaning (Feature feature) left = search (rules, the_lemmas)
  link_meaning (Operation' operator others row) left = search (rules, the_lemmas)
  link_meaning (AsCollection collection element) left = search (rules, the_lemmas)
  link_meaning (Iterate iteration body) left = search (rules, the_lemmas)
  link_meaning (Fold' kind start row body) left = search (rules, the_lemmas)

  -- and so do links one after another
  pub spine_meaning : (links : List CoreLink) (first : CoreTree) → meaning p (core_spine first (map core_link_of links)) vars ≡ links_value p vars (meaning p first vars) links
  spine_meaning [] first = refl
  spine_meaning (k ∷ ks) first =
      spine_meaning ks (core_link_of k first) ∙ ap (λ (x : Value). links_value p vars x ks) (link_meaning k first)

module _ (m : Model) where
  -- the names of a link and of what it stands on
  pub link_resolved : (link : CoreLink) (left : CoreTree) → IsResolved m (core_link_of link left) → IsResolved m left × IsLinkResolved m link
  link_resolved (Feature feature) left h = search (rules, the_lemmas)
  link_resolved (Operation' operator others row) left h = search (rules, the_lemmas)
  link_resolved (AsCollection collection element) left h = search (rules, the_lemmas)
  link_resolved (Iterate iteration body) left h = search (rules, the_lemmas)
  link_resolved (Fold' kind start row body) left h = search (rules, the_lemmas)

  pub spine_resolved : (links : List CoreLink) (first : CoreTree) → IsResolved m (core_spine first (map core_link_of links)) → IsResolved m first × AreLinksResolved m links
  spine_resolved [] first h = (h, tt)
  spine_resolved (k ∷ ks) first h =
      let rest = spine_resolved ks (core_link_of k first) h in
      let here = link_resolved k first rest.0 in
      (here.0, (here.1, rest.1))

-- ---- nodes in memory

-- the names of a first operand and its links, and what they mean
module _ (core : Core) (first : Box Core Global) (links : Vec CoreLink Global) (is : core ≡ v.Spine first links) where
  pub spine_names : (m : Model) → IsResolved m (core_view core) → IsResolved m (core_view first.value) × AreLinksResolved m links.items
  spine_names m h = spine_resolved m links.items (core_view first.value) (subst (IsResolved m) (ap core_view is ∙ core_view-Spine first links) h)

  pub spine_is : (p : Population) (vars : List Value) → links_value p vars (meaning p (core_view first.value) vars) links.items ≡ meaning p (core_view core) vars
  spine_is p vars =
      sym (spine_meaning p vars links.items (core_view first.value)) ∙ ap (λ t. meaning p t vars) (sym (ap core_view is ∙ core_view-Spine first links))

-- the names of values and of the body that sees them, and what they mean
pub lets_resolved : (m : Model) (vs : List CoreTree) (body : CoreTree) → IsResolved m (lets_of vs body) → AllByRecursion (IsResolved m) vs × IsResolved m body
lets_resolved m [] body h = (tt, h)
lets_resolved m (w ∷ ws) body h = let rest = lets_resolved m ws body h.1 in ((h.0, rest.0), rest.1)

lets_meaning : (p : Population) (vs : List CoreTree) (body : CoreTree) (vars : List Value) → meaning p body (bindings p vs vars) ≡ meaning p (lets_of vs body) vars
lets_meaning p [] body vars = refl
lets_meaning p (w ∷ ws) body vars = lets_meaning p ws body (meaning p w vars ∷ vars)

module _ (core : Core) (values : Vec Core Global) (body : Box Core Global) (is : core ≡ v.Let values body) where
  pub let_names : (m : Model) → IsResolved m (core_view core) → AllByRecursion (IsResolved m) (map core_view values.items) × IsResolved m (core_view body.value)
  let_names m h = lets_resolved m (map core_view values.items) (core_view body.value) (subst (IsResolved m) (ap core_view is ∙ core_view-Let values body) h)

  pub let_is : (p : Population) (vars : List Value) → meaning p (core_view body.value) (bindings p (map core_view values.items) vars) ≡ meaning p (core_view core) vars
  let_is p vars =
      lets_meaning p (map core_view values.items) (core_view body.value) vars ∙ ap (λ t. meaning p t vars) (sym (ap core_view is ∙ core_view-Let values body))

-- an iteration and a fold on nothing
pub iterate_is : (link : CoreLink) (i : Iteration) (body : Core) → link ≡ l.Iterate i body → on_null link ≡ tree.Iterate i (tree.Value tree.Null) (core_view body)
iterate_is link i body is =
    ap (λ (f : CoreTree → CoreTree). f (tree.Value tree.Null)) (ap core_link_of is ∙ core_link_of-Iterate i body)

pub fold_is : (link : CoreLink) (k : ScalarKind) (start : Box Core Global) (body : Core) → link ≡ l.Fold k start body → on_null link ≡ tree.Fold k (tree.Value tree.Null) (core_view start.value) (core_view body)
fold_is link k start body is =
    ap (λ (f : CoreTree → CoreTree). f (tree.Value tree.Null)) (ap core_link_of is ∙ core_link_of-Fold k start body)

-- ---- what a call gave

-- a value that is this one is that one
pub means_where : {E : Type 0} (r : Result Held E) (w x : Value) → w ≡ x → IfOk r (λ v. meant v ≡ w) → IfOk r (λ v. meant v ≡ x)
means_where r w x e h = IfOk-weaker r _ _ (λ v g. g ∙ e) h

-- everything is there in a value that is this one
pub there_where : {E : Type 0} (p : Population) (r : Result Held E) (w : Value) → IfOk r (λ v. meant v ≡ w) → IsValueThere p w → IfOk r (λ v. IsValueThere p (meant v))
there_where p r w h there = IfOk-weaker r _ _ (λ v e. subst (IsValueThere p) (sym e) there) h
