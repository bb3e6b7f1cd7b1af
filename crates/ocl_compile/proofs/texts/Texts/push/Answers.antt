use Rattle.std.proofs.Common.{◌≡◌, ℕ, List, [], ◌∷◌, ◌++◌, length, map, Some, String, Global, cond, sym, ap, ◌∙◌, subst, string_bytes, bytes_eq, position, rules}
use Rattle.std.specs.BTreeMap.{get_by_text}
use Rattle.std.proofs.lemmas.List.{length-map, map_push}
use Rattle.std.proofs.lemmas.Map.Text.{btree_map_updates_text}
use Rattle.std.proofs.lemmas.Slice.Eq.{bytes_eq-Decides}
use Rattle.ocl_compile.specs.NumbersView.{FindsPlaces}
use Rattle.ocl_compile.proofs.Places.{place_learned}
use Rattle.ocl_compile.proofs.texts.Texts.push.Goals as goal

-- src/texts.rt
pub invariant_of-self-2 : goal.invariant_of-self-2
invariant_of-self-2 c =
    let strings = c.self.inside.texts.items in
    let texts = map string_bytes strings in
    let text = c.args.text.now in
    let find = get_by_text c.self.inside.numbers in
    let learned = get_by_text c.insert.new.self in
    let is_key : string_bytes c.in_ok-key.key ≡ text = c.in_ok-key.ensures.ok in
    let count : c.len.result ≡ length texts = search (rules, length-map) in
    let learns : (y : List ℕ) → learned y ≡ cond (bytes_eq text y) (Some (length texts)) (find y) = λ y.
    btree_map_updates_text _ c.self.inside.numbers c.insert.new.self _ c.in_ok-insert.ensures.updates y
    ∙ ap (λ (k : List ℕ). cond (bytes_eq k y) (Some c.len.result) (find y)) is_key
    ∙ ap (λ (n : ℕ). cond (bytes_eq text y) (Some n) (find y)) count in
    let longer : map string_bytes c.push.new.self.items ≡ texts ++ text ∷ [] =
    ap (map string_bytes) (c.in_ok-push.ensures.items ∙ ap (λ (xs : List (String Global)). xs ++ c.in_ok-text.text ∷ []) c.in_ok-reserve.ensures.items)
    ∙ map_push string_bytes strings c.in_ok-text.text ∙ ap (λ (t : List ℕ). texts ++ t ∷ []) c.in_ok-text.ensures.ok in
    subst (λ (xs : List (List ℕ)). FindsPlaces bytes_eq xs learned) (sym longer)
    (place_learned bytes_eq (λ x y e. (bytes_eq-Decides x y).0 e) texts text find learned c.self.invariant (ap (λ (xs : List (List ℕ)). position (bytes_eq text) xs) c.self.view_is ∙ c.requires) learns)
