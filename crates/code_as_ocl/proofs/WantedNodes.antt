-- The kind that is wanted of a variable in nodes as they lie in memory, by what is wanted of it in their parts.
use Rattle.std.proofs.Common.{◌≡◌, ℕ, List, [], ◌∷◌, map, refl, sym, ap, ◌∙◌, rules, Box, Vec, Global}
use Rattle.std.specs.Prelude.{Option, Some, None}
use Rattle.std.specs.Option.{option_or}
use Rattle.imkl_model.specs.ClassModel.{Model}
use Rattle.ocl_kinds.specs.declared.kind.ScalarKind.{ScalarKind}
use Rattle.ocl_core.specs.declared.core_tree.Core.{Core, the_lemmas}
use Rattle.ocl_core.specs.declared.core_tree.Core.TheVariants as v
use Rattle.ocl_core.specs.declared.core_tree.CoreLink.{CoreLink, Feature, Operation', AsCollection, Iterate, Fold'}
use Rattle.ocl_core.specs.Core.{CoreTree, cores_of, lets_of}
use Rattle.ocl_core.specs.CoreView.{core_view, core_link_of, core_spine}
use Rattle.ocl_core.proofs.ForAbove.{core_view-Spine, core_view-Let}
use Rattle.ocl_semantics.specs.Evaluated.{on_null}
use Rattle.code_as_ocl.specs.WantedKinds.{wanted_of, wanted_of_each}
use Rattle.code_as_ocl.specs.WantedLinks.{source_wanted, wanted_beside, before_links, wanted_in_links}

-- ---- the first of several

pub or_none : (o : Option ScalarKind) → option_or o None ≡ o
or_none None = refl
or_none (Some k) = refl

pub or_grouped : (o p q : Option ScalarKind) → option_or o (option_or p q) ≡ option_or (option_or o p) q
or_grouped None p q = refl
or_grouped (Some k) p q = refl

module _ (m : Model) (n : ℕ) where
  -- ---- links

  -- a link on a tree: first in the tree, then in the link's other parts
  link_is : (link : CoreLink) (left : CoreTree) (w : Option ScalarKind)
      → option_or (wanted_of m n left (source_wanted m (on_null link))) (wanted_beside m n (on_null link)) ≡ wanted_of m n (core_link_of link left) w
  link_is (Feature feature) left w = search (rules, the_lemmas, or_none)
  link_is (Operation' operator others row) left w = search (rules, the_lemmas)
  link_is (AsCollection collection element) left w = search (rules, the_lemmas, or_none)
  link_is (Iterate iteration body) left w = search (rules, the_lemmas)
  link_is (Fold' kind start row body) left w = search (rules, the_lemmas)

  -- and so links one after another
  links_are : (links : List CoreLink) (first : CoreTree) (w : Option ScalarKind)
      → option_or (wanted_of m n first (before_links m links w)) (wanted_in_links m n links) ≡ wanted_of m n (core_spine first (map core_link_of links)) w
  links_are [] first w = or_none (wanted_of m n first w)
  links_are (k ∷ ks) first w =
      or_grouped (wanted_of m n first (source_wanted m (on_null k))) (wanted_beside m n (on_null k)) (wanted_in_links m n ks)
      ∙ ap (λ (o : Option ScalarKind). option_or o (wanted_in_links m n ks)) (link_is k first (before_links m ks w))
      ∙ links_are ks (core_link_of k first) w

  -- ---- values with the body that sees them

  pub lets_are : (vs : List CoreTree) (body : CoreTree) (w : Option ScalarKind)
      → option_or (wanted_of_each m n (cores_of vs) None) (wanted_of m n body w) ≡ wanted_of m n (lets_of vs body) w
  lets_are [] body w = refl
  lets_are (v ∷ vs) body w =
      sym (or_grouped (wanted_of m n v None) (wanted_of_each m n (cores_of vs) None) (wanted_of m n body w))
      ∙ ap (option_or (wanted_of m n v None)) (lets_are vs body w)

-- ---- nodes in memory

module _ (core : Core) (first : Box Core Global) (links : Vec CoreLink Global) (is : core ≡ v.Spine first links) where
  -- a first operand with its links
  pub spine_is : (m : Model) (n : ℕ) (w : Option ScalarKind)
      → option_or (wanted_of m n (core_view first.value) (before_links m links.items w)) (wanted_in_links m n links.items) ≡ wanted_of m n (core_view core) w
  spine_is m n w =
      links_are m n links.items (core_view first.value) w
      ∙ ap (λ t. wanted_of m n t w) (sym (ap core_view is ∙ core_view-Spine first links))

module _ (core : Core) (values : Vec Core Global) (body : Box Core Global) (is : core ≡ v.Let values body) where
  -- values as variables, and the body that sees them
  pub let_is : (m : Model) (n : ℕ) (w : Option ScalarKind)
      → option_or (wanted_of_each m n (cores_of (map core_view values.items)) None) (wanted_of m n (core_view body.value) w) ≡ wanted_of m n (core_view core) w
  let_is m n w =
      lets_are m n (map core_view values.items) (core_view body.value) w
      ∙ ap (λ t. wanted_of m n t w) (sym (ap core_view is ∙ core_view-Let values body))
