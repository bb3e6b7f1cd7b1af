-- How many variables nodes bind as they lie in memory, by their parts.
use Rattle.std.proofs.Common.{◌≡◌, ℕ, suc, List, [], ◌∷◌, map, refl, sym, ap, ◌∙◌, rules, Box, Vec, Global}
use Rattle.ocl_core.specs.declared.core_tree.Core.{Core, the_lemmas}
use Rattle.ocl_core.specs.declared.core_tree.Core.TheVariants as v
use Rattle.ocl_core.specs.declared.core_tree.CoreLink.{CoreLink, Feature, Operation', AsCollection, Iterate, Fold'}
use Rattle.ocl_core.specs.Core.{CoreTree, lets_of}
use Rattle.ocl_core.specs.CoreView.{core_view, core_link_of, core_spine}
use Rattle.ocl_core.proofs.ForAbove.{core_view-Spine, core_view-Let}
use Rattle.ocl_semantics.specs.Evaluated.{on_null}
use Rattle.explain_why.specs.Names.{Naming, bound_after, past}
use Rattle.explain_why.specs.NameWalk.{bound_after_links, bound_after_values}

-- a link binds what it has besides the tree that it stands on
link_bound : (link : CoreLink) (left : CoreTree) (n : ℕ) → bound_after (on_null link) (bound_after left n) ≡ bound_after (core_link_of link left) n
link_bound (Feature feature) left n = search (rules, the_lemmas)
link_bound (Operation' operator others row) left n = search (rules, the_lemmas)
link_bound (AsCollection collection element) left n = search (rules, the_lemmas)
link_bound (Iterate iteration body) left n = search (rules, the_lemmas)
link_bound (Fold' kind start row body) left n = search (rules, the_lemmas)

pub past_link_is : (link : CoreLink) (left : CoreTree) (s : Naming) → past (on_null link) (past left s) ≡ past (core_link_of link left) s
past_link_is link left s = ap (λ (n : ℕ). record { given = s.given; at = n; seen = s.seen }) (link_bound link left s.at)

-- and so have links one after another
pub links_bound : (links : List CoreLink) (first : CoreTree) (n : ℕ) → bound_after_links links (bound_after first n) ≡ bound_after (core_spine first (map core_link_of links)) n
links_bound [] first n = refl
links_bound (k ∷ ks) first n = ap (bound_after_links ks) (link_bound k first n) ∙ links_bound ks (core_link_of k first) n

-- values with the body that sees them
pub lets_bound : (vs : List CoreTree) (body : CoreTree) (n : ℕ) → bound_after body (bound_after_values vs n) ≡ bound_after (lets_of vs body) n
lets_bound [] body n = refl
lets_bound (w ∷ ws) body n = lets_bound ws body (suc (bound_after w n))

-- ---- nodes in memory

pub spine_bound : (core : Core) (first : Box Core Global) (links : Vec CoreLink Global) → core ≡ v.Spine first links → (n : ℕ) → bound_after_links links.items (bound_after (core_view first.value) n) ≡ bound_after (core_view core) n
spine_bound core first links is n =
    links_bound links.items (core_view first.value) n
    ∙ ap (λ t. bound_after t n) (sym (ap core_view is ∙ core_view-Spine first links))

pub let_bound : (core : Core) (values : Vec Core Global) (body : Box Core Global) → core ≡ v.Let values body → (n : ℕ) → bound_after (core_view body.value) (bound_after_values (map core_view values.items) n) ≡ bound_after (core_view core) n
let_bound core values body is n =
    lets_bound (map core_view values.items) (core_view body.value) n
    ∙ ap (λ t. bound_after t n) (sym (ap core_view is ∙ core_view-Let values body))
