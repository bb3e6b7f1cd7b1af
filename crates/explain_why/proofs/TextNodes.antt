-- Texts of nodes as they lie in memory, by those of their parts.
use Rattle.std.proofs.Common.{◌≡◌, ℕ, Bool, List, [], ◌∷◌, ◌++◌, map, refl, sym, ap, ◌∙◌, rules, append_assoc, Box, Vec, Global, Result}
use Rattle.std.specs.Prelude.{IfOk, string_bytes}
use Rattle.std.proofs.lemmas.Result.{IfOk-weaker}
use Rattle.imkl_model.specs.ClassModel.{Model}
use Rattle.ocl_core.specs.declared.core_tree.Core.{Core, the_lemmas}
use Rattle.ocl_core.specs.declared.core_tree.Core.TheVariants as v
use Rattle.ocl_core.specs.declared.core_tree.CoreLink.{CoreLink, Feature, Operation', AsCollection, Iterate, Fold'}
use Rattle.ocl_core.specs.Core.{CoreTree, lets_of}
use Rattle.ocl_core.specs.CoreView.{core_view, core_link_of, core_spine}
use Rattle.ocl_core.proofs.ForAbove.{core_view-Spine, core_view-Let}
use Rattle.explain_why.specs.declared.texts.Text.{Text}
use Rattle.ocl_semantics.specs.Evaluated.{on_null}
use Rattle.explain_why.specs.Names.{Naming, next_name, past, with_next}
use Rattle.explain_why.specs.NameWalk.{with_all}
use Rattle.explain_why.specs.Texts.{let_front, text_of, is_open}
use Rattle.explain_why.proofs.NameNodes.{past_link_is}
use Rattle.explain_why.specs.TextWalk.{written_text, tree_text, link_text, links_text, lets_front, are_lets_open}

-- ---- links

module _ (m : Model) where
  -- a link on a tree has the text of the link on the tree's text
  pub link_text_is : (link : CoreLink) (left : CoreTree) (s : Naming) → link_text m (past left s) link (tree_text m left s) ≡ tree_text m (core_link_of link left) s
  link_text_is (Feature feature) left s = search (rules, the_lemmas)
  link_text_is (Operation' operator others row) left s = search (rules, the_lemmas)
  link_text_is (AsCollection collection element) left s = search (rules, the_lemmas)
  link_text_is (Iterate iteration body) left s = search (rules, the_lemmas)
  link_text_is (Fold' kind start row body) left s = search (rules, the_lemmas)

  links_text_is : (links : List CoreLink) (first : CoreTree) (s : Naming) → links_text m (past first s) links (tree_text m first s) ≡ tree_text m (core_spine first (map core_link_of links)) s
  links_text_is [] first s = refl
  links_text_is (k ∷ ks) first s =
      ap (links_text m (past (on_null k) (past first s)) ks) (link_text_is k first s)
      ∙ ap (λ (n : Naming). links_text m n ks (tree_text m (core_link_of k first) s)) (past_link_is k first s)
      ∙ links_text_is ks (core_link_of k first) s

  -- and so have links one after another
  pub spine_text_is : (first : CoreTree) (links : List CoreLink) (s n : Naming) (f : Text) → n ≡ past first s → string_bytes f.text ≡ text_of m first s → f.is_open ≡ is_open first → links_text m n links (written_text f) ≡ tree_text m (core_spine first (map core_link_of links)) s
  spine_text_is first links s n f behind bytes wraps =
      ap (λ (x : Naming). links_text m x links (written_text f)) behind
      ∙ ap (λ (b : Bool). links_text m (past first s) links (b, string_bytes f.text)) wraps
      ∙ ap (λ (xs : List ℕ). links_text m (past first s) links (is_open first, xs)) bytes
      ∙ links_text_is links first s

-- ---- values with the body that sees them

lets_text_is : (m : Model) (vs : List CoreTree) (body : CoreTree) (s : Naming) → lets_front m vs s ++ text_of m body (with_all vs s) ≡ text_of m (lets_of vs body) s
lets_text_is m [] body s = refl
lets_text_is m (w ∷ ws) body s =
    let front = let_front (next_name (past w s)) (text_of m w s) in
    let behind = with_next (past w s) in
    append_assoc front (lets_front m ws behind) (text_of m body (with_all ws behind))
    ∙ ap (λ xs. front ++ xs) (lets_text_is m ws body behind)

-- the body sees them all
pub let_text_is : (m : Model) (values : List Core) (body : Core) (s n : Naming) → n ≡ with_all (map core_view values) s → lets_front m (map core_view values) s ++ text_of m (core_view body) n ≡ text_of m (lets_of (map core_view values) (core_view body)) s
let_text_is m values body s n is =
    ap (λ (x : Naming). lets_front m (map core_view values) s ++ text_of m (core_view body) x) is
    ∙ lets_text_is m (map core_view values) (core_view body) s

lets_open_is : (vs : List CoreTree) (body : CoreTree) → are_lets_open vs (is_open body) ≡ is_open (lets_of vs body)
lets_open_is [] body = refl
lets_open_is (w ∷ ws) body = refl

-- ---- nodes in memory

module _ (core : Core) (first : Box Core Global) (links : Vec CoreLink Global) (is : core ≡ v.Spine first links) where
  -- a first operand with its links
  pub spine_written : (m : Model) (s n : Naming) (f : Text) → n ≡ past (core_view first.value) s → string_bytes f.text ≡ text_of m (core_view first.value) s → f.is_open ≡ is_open (core_view first.value) → links_text m n links.items (written_text f) ≡ tree_text m (core_view core) s
  spine_written m s n f behind bytes wraps =
      spine_text_is m (core_view first.value) links.items s n f behind bytes wraps
      ∙ ap (λ t. tree_text m t s) (sym (ap core_view is ∙ core_view-Spine first links))

module _ (core : Core) (values : Vec Core Global) (body : Box Core Global) (is : core ≡ v.Let values body) where
  -- values as variables, and the body that sees them
  pub let_written : (m : Model) (s n : Naming) → n ≡ with_all (map core_view values.items) s → lets_front m (map core_view values.items) s ++ text_of m (core_view body.value) n ≡ text_of m (core_view core) s
  let_written m s n names =
      let_text_is m values.items body.value s n names
      ∙ ap (λ t. text_of m t s) (sym (ap core_view is ∙ core_view-Let values body))

  pub let_wraps : are_lets_open (map core_view values.items) (is_open (core_view body.value)) ≡ is_open (core_view core)
  let_wraps =
      lets_open_is (map core_view values.items) (core_view body.value)
      ∙ ap is_open (sym (ap core_view is ∙ core_view-Let values body))

-- ---- what a call gave

-- a text that is written so, and is that one, has the bytes of that one
pub bytes_where : {E : Type 0} (r : Result Text E) (w x : Bool × List ℕ) → w ≡ x → IfOk r (λ t. written_text t ≡ w) → IfOk r (λ t. string_bytes t.text ≡ x.1)
bytes_where r w x e h = IfOk-weaker r _ _ (λ t g. ap (λ (y : Bool × List ℕ). y.1) (g ∙ e)) h

-- and stands in parentheses where that one does
pub wraps_where : {E : Type 0} (r : Result Text E) (w x : Bool × List ℕ) → w ≡ x → IfOk r (λ t. written_text t ≡ w) → IfOk r (λ t. t.is_open ≡ x.0)
wraps_where r w x e h = IfOk-weaker r _ _ (λ t g. ap (λ (y : Bool × List ℕ). y.0) (g ∙ e)) h
