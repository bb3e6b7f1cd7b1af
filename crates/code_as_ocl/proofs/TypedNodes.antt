-- Texts of nodes as they lie in memory, by those of their parts.
use Rattle.std.proofs.Common.{◌≡◌, ℕ, List, [], ◌∷◌, length, map, refl, sym, ap, ◌∙◌, rules, append_assoc, Box, Vec, Global}
use Rattle.imkl_model.specs.ClassModel.{Model}
use Rattle.ocl_kinds.specs.declared.kind.Kind.{Kind}
use Rattle.ocl_core.specs.declared.core_tree.Core.{Core, the_lemmas}
use Rattle.ocl_core.specs.declared.core_tree.Core.TheVariants as v
use Rattle.ocl_core.specs.declared.core_tree.CoreLink.{CoreLink, Feature, Operation', AsCollection, Iterate, Fold'}
use Rattle.ocl_core.specs.Core.{CoreTree, lets_of}
use Rattle.ocl_core.specs.CoreView.{core_view, core_link_of, core_spine}
use Rattle.ocl_core.proofs.ForAbove.{core_view-Spine, core_view-Let}
use Rattle.code_as_ocl.specs.WantedKinds.{let_kind}
use Rattle.code_as_ocl.specs.TypedTexts.{printed, typed_let_front, let_printed, printed_of, with_value, link_printed, links_printed, lets_printed, lets_kinds, closed_by}

-- ---- links

module _ (m : Model) (g : List Kind) where
  -- a link on a tree is printed as the link on what the tree is printed as
  link_is : (link : CoreLink) (left : CoreTree) → link_printed m g link (printed_of m left g) ≡ printed_of m (core_link_of link left) g
  link_is (Feature feature) left = search (rules, the_lemmas)
  link_is (Operation' operator others row) left = search (rules, the_lemmas)
  link_is (AsCollection collection element) left = search (rules, the_lemmas)
  link_is (Iterate iteration body) left = search (rules, the_lemmas)
  link_is (Fold' kind start row body) left = search (rules, the_lemmas)

  -- and so are links one after another
  links_is : (links : List CoreLink) (first : CoreTree) → links_printed m g links (printed_of m first g) ≡ printed_of m (core_spine first (map core_link_of links)) g
  links_is [] first = refl
  links_is (k ∷ ks) first = ap (links_printed m g ks) (link_is k first) ∙ links_is ks (core_link_of k first)

-- ---- values with the body that sees them

lets_are : (m : Model) (vs : List CoreTree) (body : CoreTree) (g : List Kind)
    → closed_by vs (lets_printed m vs body g) (printed_of m body (lets_kinds m vs body g)) ≡ printed_of m (lets_of vs body) g
lets_are m [] body g = refl
lets_are m (w ∷ []) body g = search rules
lets_are m (w ∷ (x ∷ ws)) body g =
    let later = lets_of (x ∷ ws) body in
    let kind = let_kind m (length g) (printed_of m w g).kind later in
    let seen = with_value m g (printed_of m w g).kind later in
    let front = typed_let_front m (length g) kind (printed_of m w g) in
    let inner = printed_of m body (lets_kinds m (x ∷ ws) body seen) in
    ap (λ (text : List ℕ). printed text 0 inner.kind) (append_assoc front (lets_printed m (x ∷ ws) body seen) inner.text)
    ∙ ap (let_printed m (length g) kind (printed_of m w g)) (lets_are m (x ∷ ws) body seen)

-- ---- nodes in memory

module _ (core : Core) (first : Box Core Global) (links : Vec CoreLink Global) (is : core ≡ v.Spine first links) where
  -- a first operand with its links
  pub spine_is : (m : Model) (g : List Kind) → links_printed m g links.items (printed_of m (core_view first.value) g) ≡ printed_of m (core_view core) g
  spine_is m g =
      links_is m g links.items (core_view first.value)
      ∙ ap (λ t. printed_of m t g) (sym (ap core_view is ∙ core_view-Spine first links))

module _ (core : Core) (values : Vec Core Global) (body : Box Core Global) (is : core ≡ v.Let values body) where
  -- values as variables, and the body that sees them
  pub let_is : (m : Model) (g : List Kind)
      → closed_by (map core_view values.items) (lets_printed m (map core_view values.items) (core_view body.value) g)
      (printed_of m (core_view body.value) (lets_kinds m (map core_view values.items) (core_view body.value) g))
      ≡ printed_of m (core_view core) g
  let_is m g =
      lets_are m (map core_view values.items) (core_view body.value) g
      ∙ ap (λ t. printed_of m t g) (sym (ap core_view is ∙ core_view-Let values body))
