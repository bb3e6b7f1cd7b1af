-- The names that the rules so far have taken.
use Rattle.std.proofs.Common.{◌≡◌, ℕ, ◌+◌, ◌<◌, Bool, true, false, not, cond, ◌||◌, List, [], ◌∷◌, ◌++◌, length, map, take, drop, get_or, refl, sym, ap, ◌∙◌, subst}
use Rattle.std.proofs.lemmas.Bool.{false≢true}
use Rattle.std.proofs.lemmas.List.{take_more, drop_more, map-append}
use Rattle.std.proofs.lemmas.List.Folds.{list_any-append}
use Rattle.std.proofs.lemmas.Map.Text.{is_eq-slice_cmp}
use Rattle.std.specs.Cmp.Lexicographic.{slice_cmp}
use Rattle.std.specs.Ordering.{is_eq, nat_cmp}
use Rattle.std.specs.Str.{bytes_eq}
use Rattle.ocl_text.specs.declared.tree.SurfaceRule.{SurfaceRule}
use Rattle.ocl_text.specs.RuleText.{has_name, AreNamedApart, RepeatsAt, here, later}
use Rattle.ocl_text.specs.Tree.{Rule}
use Rattle.ocl_text.specs.View.{rule_of}

-- a name that was inserted was not taken before
pub is_free : (inserted held taken : Bool) → inserted ≡ not held → inserted ≡ true → held ≡ taken → taken ≡ false
is_free true held taken e t s = by held e s
  where
    by : (held : Bool) → true ≡ not held → held ≡ taken → taken ≡ false
    by true e s = absurd (false≢true (sym e))
    by false e s = sym s
is_free false held taken e t s = absurd (false≢true t)

-- a name that was not inserted was taken before
pub is_held : (inserted held taken : Bool) → inserted ≡ not held → inserted ≡ false → held ≡ taken → taken ≡ true
is_held inserted true taken e t s = sym s
is_held inserted false taken e t s = absurd (false≢true (sym t ∙ e))

or_swapped : (a b : Bool) → cond b true a ≡ (a || b)
or_swapped true true = refl
or_swapped true false = refl
or_swapped false true = refl
or_swapped false false = refl

or_false : (b : Bool) → (b || false) ≡ b
or_false true = refl
or_false false = refl

module _ (xs : List SurfaceRule) (i : ℕ) (r : SurfaceRule) (is : r ≡ get_or xs i r) (within : i < length xs) where
  taken_more : map rule_of (take (i + 1) xs) ≡ map rule_of (take i xs) ++ rule_of r ∷ []
  taken_more = ap (map rule_of) (take_more xs i r within ∙ ap (λ x. take i xs ++ x ∷ []) (sym is)) ∙ map-append rule_of (take i xs) (r ∷ [])

  left_more : map rule_of (drop i xs) ≡ rule_of r ∷ map rule_of (drop (i + 1) xs)
  left_more = ap (map rule_of) (drop_more xs i r within ∙ ap (λ x. x ∷ drop (i + 1) xs) (sym is))

  -- after a rule with a free name the rules are named apart, if what is left is apart from those before it
  pub still_apart : has_name (map rule_of (take i xs)) r.name ≡ false
      → (AreNamedApart (map rule_of (take i xs)) (map rule_of (drop i xs)) → AreNamedApart [] (map rule_of xs))
      → AreNamedApart (map rule_of (take (i + 1) xs)) (map rule_of (drop (i + 1) xs)) → AreNamedApart [] (map rule_of xs)
  still_apart free so_far rest = so_far (subst (λ (l : List Rule). AreNamedApart (map rule_of (take i xs)) l) (sym left_more) (free, subst (λ (l : List Rule). AreNamedApart l (map rule_of (drop (i + 1) xs))) taken_more rest))

  -- after a rule with a free name the first repeated name is the first one of what is left
  pub still_repeated : has_name (map rule_of (take i xs)) r.name ≡ false
      → ((place : ℕ) → RepeatsAt (map rule_of (take i xs)) (map rule_of (drop i xs)) place → RepeatsAt [] (map rule_of xs) place)
      → (place : ℕ) → RepeatsAt (map rule_of (take (i + 1) xs)) (map rule_of (drop (i + 1) xs)) place → RepeatsAt [] (map rule_of xs) place
  still_repeated free so_far place rest = so_far place (subst (λ (l : List Rule). RepeatsAt (map rule_of (take i xs)) l place) (sym left_more) (later free (subst (λ (l : List Rule). RepeatsAt l (map rule_of (drop (i + 1) xs)) place) taken_more rest)))

  -- a rule whose name is taken is the first that repeats a name
  pub repeated_here : has_name (map rule_of (take i xs)) r.name ≡ true
      → ((place : ℕ) → RepeatsAt (map rule_of (take i xs)) (map rule_of (drop i xs)) place → RepeatsAt [] (map rule_of xs) place)
      → RepeatsAt [] (map rule_of xs) r.offset
  repeated_here held so_far = so_far r.offset (subst (λ (l : List Rule). RepeatsAt (map rule_of (take i xs)) l r.offset) (sym left_more) (here held))

  -- a name is seen after a rule, if it was seen before it or is the rule's name
  pub still_seen : (name q : List ℕ) (before after : Bool) → name ≡ r.name → before ≡ has_name (map rule_of (take i xs)) q → after ≡ cond (is_eq (slice_cmp nat_cmp name q)) true before → after ≡ has_name (map rule_of (take (i + 1) xs)) q
  still_seen name q before after named old new =
      new
      ∙ ap (λ (b : Bool). cond b true before) (is_eq-slice_cmp name q ∙ ap (λ n. bytes_eq n q) named)
      ∙ or_swapped before (bytes_eq r.name q)
      ∙ ap (λ (b : Bool). b || bytes_eq r.name q) old
      ∙ ap (λ (b : Bool). has_name (map rule_of (take i xs)) q || b) (sym (or_false (bytes_eq r.name q)))
      ∙ sym (list_any-append (λ (x : Rule). bytes_eq x.name q) (map rule_of (take i xs)) (rule_of r ∷ []))
      ∙ ap (λ (l : List Rule). has_name l q) (sym taken_more)
