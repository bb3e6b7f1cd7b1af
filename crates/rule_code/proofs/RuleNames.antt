-- Texts by their numbers, and the set of the names that are taken.
use Rattle.std.proofs.Common.{◌≡◌, ℕ, ◌<◌, Bool, true, false, cond, ◌||◌, List, [], ◌∷◌, ◌++◌, length, map, get_or, String, string_bytes, refl, sym, ap, ◌∙◌}
use Rattle.std.specs.Prelude.{bytes_eq}
use denote.Ref.{Bor}
use Rattle.std.specs.declared.alloc.Global.{Global}
use Rattle.std.specs.Ordering.{nat_cmp, is_eq}
use Rattle.std.specs.List.{list_any}
use Rattle.std.specs.Cmp.Lexicographic.{slice_cmp}
use Rattle.std.specs.BTreeSet as sets
use Rattle.std.proofs.lemmas.List.{get_or-map}
use Rattle.std.proofs.lemmas.Map.Text.{is_eq-slice_cmp}
use Rattle.std.proofs.lemmas.List.{map_push}
use Rattle.std.proofs.lemmas.Cmp.{nat_list_eq_equiv}
use mathlib.Core.Path.{fun_ext}
use Rattle.rule_code.specs.Content.{RuleContent, text_at, names_of}
use Rattle.ocl_base.specs.Lists.{is_among}
use Rattle.rule_code.specs.Taken.{is_name_taken}

-- the text of a number is the text that stands there
pub text_at-map : (texts : List (String Global)) (n : ℕ) (t : String Global) → n < length texts → t ≡ get_or texts n t → text_at (map string_bytes texts) n ≡ string_bytes t
text_at-map texts n t lt is = get_or-map string_bytes texts n t [] lt ∙ ap string_bytes (sym is)

same_either_way : (x y : List ℕ) → (bytes_eq x y || false) ≡ (bytes_eq y x || false)
same_either_way x y = ap (λ (b : Bool). b || false) (nat_list_eq_equiv.symm x y)

or_swap : (a b c : Bool) → (a || (b || c)) ≡ (b || (a || c))
or_swap true true c = refl
or_swap true false c = refl
or_swap false b c = refl

one_more : (b c : Bool) → cond b true c ≡ (b || c)
one_more true c = refl
one_more false c = refl

-- after a name was put into the set
pub is_name_taken-insert : (name : List ℕ) (old new : sets.BTreeSet (Bor (List ℕ))) → sets.UpdatesBy (λ x y. slice_cmp nat_cmp x.now y.now) (λ k. slice_cmp nat_cmp name k.now) old new true
    → (s : List ℕ) → is_name_taken new s ≡ (bytes_eq name s || is_name_taken old s)
unfolding is_name_taken
is_name_taken-insert name old new h s =
    h.0 (record { ref_ptr = (0, 0); now = s }) ∙ ap (λ (b : Bool). cond b true (is_name_taken old s)) (is_eq-slice_cmp name s) ∙ one_more (bytes_eq name s) (is_name_taken old s)

-- one more name, at the end
pub is_among-push : (words : List (List ℕ)) (w s : List ℕ) → is_among bytes_eq (words ++ w ∷ []) s ≡ (bytes_eq w s || is_among bytes_eq words s)
is_among-push [] w s = same_either_way s w
is_among-push (x ∷ words) w s = ap (λ (b : Bool). bytes_eq s x || b) (is_among-push words w s) ∙ or_swap (bytes_eq s x) (bytes_eq w s) (is_among bytes_eq words s)

-- the set of the names so far is the list of them, with the name of one more rule
pub is_name_taken-push : (texts : List (List ℕ)) (before : List RuleContent) (r : RuleContent) (old new : List ℕ → Bool) → old ≡ is_among bytes_eq (names_of texts before)
    → ((s : List ℕ) → new s ≡ (bytes_eq (text_at texts r.name) s || old s)) → new ≡ is_among bytes_eq (names_of texts (before ++ r ∷ []))
is_name_taken-push texts before r old new h more =
    fun_ext (λ s. more s ∙ ap (λ (f : List ℕ → Bool). bytes_eq (text_at texts r.name) s || f s) h ∙ sym (is_among-push (names_of texts before) (text_at texts r.name) s)
    ∙ sym (ap (λ (ws : List (List ℕ)). is_among bytes_eq ws s) (map_push (λ (r : RuleContent). text_at texts r.name) before r)))

-- a set of no names
pub is_name_taken-empty : (names : sets.BTreeSet (Bor (List ℕ))) → sets.IsEmpty names → is_name_taken names ≡ is_among bytes_eq []
unfolding is_name_taken
is_name_taken-empty names empty = fun_ext (λ s. ap (λ (ks : List (Bor (List ℕ))). list_any (λ k. is_eq (slice_cmp nat_cmp s k.now)) ks) empty)
