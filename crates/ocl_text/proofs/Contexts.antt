-- Where a list of contexts stops, it can be completed under wider limits.
use Rattle.std.proofs.Common.{◌≡◌, ℕ, zero, suc, ◌≤◌, ◌<◌, List, [], ◌∷◌, ◌++◌, length, Result, Ok, Err, refl, ap, ◌∙◌, Bool, true, false, arith, inl, inr, ◌⊎◌, IfOk}
use Rattle.std.specs.Prelude.{if◌then◌else◌}
use Rattle.ocl_tokens.specs.declared.token.TokenKind.{TokenKind}
use Rattle.ocl_tokens.specs.declared.token.TokenKind.TheVariants as k
use Rattle.ocl_base.specs.Steps.{◌>>=◌}
use Rattle.ocl_text.specs.declared.cursor.Mark.TheVariants as m
use Rattle.ocl_tokens.specs.Terminals.{Terminal}
use Rattle.ocl_text.specs.Tree.{Rule, SurfaceTree}
use Rattle.ocl_text.specs.RuleText.{Agrees}
use Rattle.ocl_text.specs.Grammar.{is_mark, token, next_is, Next, is_identifier_kind, begins_invariant, numbered, IsInvariant, IsInvariants}
use Rattle.ocl_text.specs.Parse.{TokensFault, syntax, Reading, Reader, expect, identifier, rule_name, placed_name, placed_by, context, invariant, invariant_at, invariants, contexts, expr}
use Rattle.ocl_text.proofs.Complete.{shorter_invariant, shorter_invariants}
use Rattle.ocl_text.proofs.Sound.{weaker, sound_invariant, sound_invariants}
use Rattle.ocl_text.proofs.Wider.{deeper, longer}
use Rattle.ocl_text.proofs.Prefixes.{Completes, Sees, Any, bind, bind_from, default_of, sees_as, skip, pass, stuck, sees_expect, sees_placed_name, assoc}
use Rattle.ocl_text.proofs.Stops.{May, stops, stop_is, may_not, mark_not}
use Rattle.ocl_text.proofs.Parts.{counts}
use Rattle.ocl_text.proofs.Expressions.{sees_whole_expr}

stop_begins_nothing : (kind : TokenKind) → stops kind ≡ true → begins_invariant kind ≡ false
stop_begins_nothing = stop_is (λ kind. begins_invariant kind ≡ false) refl refl refl refl refl refl

-- ---- one invariant

unnamed : (n : ℕ) (us : List Terminal) → next_is is_identifier_kind us ≡ false → rule_name n us ≡ Ok (numbered n, us)
unfolding rule_name
unnamed n us h = rw h refl

sees_rule_name : (n : ℕ) (ts : List Terminal) → Sees (rule_name n) (rule_name n) (Next (is_mark m.Colon)) (Next (is_mark m.Colon)) ts
unfolding rule_name identifier
sees_rule_name n ts = by ts
  where
    without : (ts : List Terminal) → ((us : List Terminal) → Agrees ts us → next_is is_identifier_kind us ≡ false) → Sees (rule_name n) (rule_name n) (Next (is_mark m.Colon)) (Next (is_mark m.Colon)) ts
    without ts h = sees_as _ _ (λ us. Ok (numbered n, us)) (λ us. Ok (numbered n, us)) (Next (is_mark m.Colon)) (Next (is_mark m.Colon)) ts here here (pass (numbered n) (Next (is_mark m.Colon)) ts)
      where
        here : (us : List Terminal) → Agrees ts us ⊎ Next (is_mark m.Colon) us → rule_name n us ≡ Ok (numbered n, us)
        here us (inl w) = unnamed n us (h us w)
        here us (inr w) = unnamed n us (mark_not m.Colon is_identifier_kind refl us w)

    first : (kind : TokenKind) (at : ℕ) (text : List ℕ) (ts : List Terminal) → Sees (rule_name n) (rule_name n) (Next (is_mark m.Colon)) (Next (is_mark m.Colon)) (token kind at text ∷ ts)
    first k.Identifier at text ts = skip (token k.Identifier at text) ts _ _ (λ us. Ok (text, us)) (λ us. Ok (text, us)) (Next (is_mark m.Colon)) (Next (is_mark m.Colon)) _ (λ us. refl) (λ us. refl) (pass text (Next (is_mark m.Colon)) ts)
    first (k.Number v) at text ts = without _ (λ us (more, is). rw is refl)
    first _ at text ts = without _ (λ us (more, is). rw is refl)

    by : (ts : List Terminal) → Sees (rule_name n) (rule_name n) (Next (is_mark m.Colon)) (Next (is_mark m.Colon)) ts
    by [] = without [] (λ us is. rw is refl)
    by (t ∷ ts) = first t.kind t.offset t.text ts

abbrev rule_with : List ℕ × ℕ → ℕ → List ℕ → SurfaceTree → Rule
rule_with class at name tree = record { name = name; context = class.0; offset = at; context_offset = class.1; tree = tree }

abbrev rule_body : Reader SurfaceTree → List ℕ × ℕ → ℕ → List ℕ → Reader Rule
rule_body body class at name us = expect m.Colon us >>= body >>= λ x. Ok (rule_with class at name x.0, x.1)

module _ (body body' : Reader SurfaceTree) (sees : (ts : List Terminal) → Sees body body' (May stops) (Next counts) ts) where
  sees_invariant_at : (class : List ℕ × ℕ) (n at : ℕ) (ts : List Terminal) → Sees (invariant_at body class n at) (invariant_at body' class n at) (May stops) (Next (is_mark m.Colon)) ts
  unfolding invariant_at
  sees_invariant_at class n at ts =
      bind (rule_name n) (rule_name n) (rule_body body class at) (rule_body body' class at) (Next (is_mark m.Colon)) (May stops) (Next (is_mark m.Colon)) (Next (is_mark m.Colon)) ts (λ us g. g) (sees_rule_name n ts)
      (λ name us. bind (λ vs. expect m.Colon vs >>= body) (λ vs. expect m.Colon vs >>= body') (λ x vs. Ok (rule_with class at name x, vs)) (λ x vs. Ok (rule_with class at name x, vs)) (May stops) (May stops) (May stops) (Next (is_mark m.Colon)) us (λ vs g. g)
      (sees_expect m.Colon body body' (May stops) (Next counts) sees us)
      (λ x vs. pass (rule_with class at name x) (May stops) vs))

-- ---- the turns that are enough

abbrev all_invariants : Reader SurfaceTree → List ℕ × ℕ → List Rule → Reader (List Rule)
all_invariants body class found us = invariants body class (length us) found us

abbrev next_invariants : Reader SurfaceTree → List ℕ × ℕ → List Rule → Rule → Reader (List Rule)
next_invariants body class found x us = if next_is begins_invariant us then all_invariants body class (found ++ x ∷ []) us else Ok (found ++ x ∷ [], us)

abbrev pub all_contexts : Reader SurfaceTree → List Rule → List Terminal → Result (List Rule) TokensFault
all_contexts body found us = contexts body (length us) found us

module _ (body : Reader SurfaceTree) (shortens : (class : List ℕ × ℕ) (n : ℕ) (us : List Terminal) → IfOk (invariant body class n us) (λ x. length x.1 < length us)) (class : List ℕ × ℕ) where
  enough_invariants : (f g : ℕ) (found : List Rule) (us : List Terminal) → length us ≤ f → length us ≤ g → invariants body class f found us ≡ invariants body class g found us
  unfolding invariants invariant
  enough_invariants zero zero found us h i = refl
  enough_invariants zero (suc g) found [] h i = refl
  enough_invariants zero (suc g) found (t ∷ us) h i = absurd (omega (arith, h))
  enough_invariants (suc f) zero found [] h i = refl
  enough_invariants (suc f) zero found (t ∷ us) h i = absurd (omega (arith, i))
  enough_invariants (suc f) (suc g) found us h i = by (invariant body class (suc (length found)) us) (shortens class (suc (length found)) us) (enough_invariants f g)
    where
      by : (r : Reading Rule) → IfOk r (λ x. length x.1 < length us) → ((found : List Rule) (vs : List Terminal) → length vs ≤ f → length vs ≤ g → invariants body class f found vs ≡ invariants body class g found vs)
          → (r >>= λ x. if next_is begins_invariant x.1 then invariants body class f (found ++ x.0 ∷ []) x.1 else Ok (found ++ x.0 ∷ [], x.1)) ≡ (r >>= λ x. if next_is begins_invariant x.1 then invariants body class g (found ++ x.0 ∷ []) x.1 else Ok (found ++ x.0 ∷ [], x.1))
      by (Err e) s more = refl
      by (Ok (x, rest)) s more = ap (λ r. if next_is begins_invariant rest then r else Ok (found ++ x ∷ [], rest)) (more (found ++ x ∷ []) rest (omega (arith, s, h)) (omega (arith, s, i)))

  invariants_are : (found : List Rule) (us : List Terminal) → all_invariants body class found us ≡ (invariant body class (suc (length found)) us >>= λ x. next_invariants body class found x.0 x.1)
  unfolding invariants
  invariants_are found us = enough_invariants (length us) (suc (length us)) found us (omega arith) (omega arith) ∙ by (invariant body class (suc (length found)) us) (shortens class (suc (length found)) us)
    where
      by : (r : Reading Rule) → IfOk r (λ x. length x.1 < length us) → (r >>= λ x. if next_is begins_invariant x.1 then invariants body class (length us) (found ++ x.0 ∷ []) x.1 else Ok (found ++ x.0 ∷ [], x.1)) ≡ (r >>= λ x. next_invariants body class found x.0 x.1)
      by (Err e) s = refl
      by (Ok (x, rest)) s = ap (λ r. if next_is begins_invariant rest then r else Ok (found ++ x ∷ [], rest)) (enough_invariants (length us) (length rest) (found ++ x ∷ []) rest (omega (arith, s)) (omega arith))

module _ (body : Reader SurfaceTree) (shortens : (class : List ℕ × ℕ) (found : List Rule) (us : List Terminal) → IfOk (all_invariants body class found us) (λ x. length x.1 < length us)) where
  short_class : (us : List Terminal) → IfOk (placed_name us) (λ c. length c.1 < length us)
  unfolding placed_name
  short_class [] = tt
  short_class (t ∷ us) = by t.kind
    where
      by : (kind : TokenKind) → IfOk (placed_by kind t.text t.offset (t ∷ us) us) (λ c. length c.1 < length (t ∷ us))
      by k.Identifier = omega arith
      by (k.Number v) = tt
      by _ = tt

  -- what stands after `context`
  abbrev of_context : ((found : List Rule) → List Terminal → Result (List Rule) TokensFault) → List Rule → List Terminal → Result (List Rule) TokensFault
  of_context go_on found us = placed_name us >>= λ c. all_invariants body c.0 found c.1 >>= λ x. go_on x.0 x.1

  enough_contexts : (f g : ℕ) (found : List Rule) (us : List Terminal) → length us ≤ f → length us ≤ g → contexts body f found us ≡ contexts body g found us
  unfolding contexts context expect
  enough_contexts zero zero found us h i = refl
  enough_contexts zero (suc g) found [] h i = refl
  enough_contexts zero (suc g) found (t ∷ us) h i = absurd (omega (arith, h))
  enough_contexts (suc f) zero found [] h i = refl
  enough_contexts (suc f) zero found (t ∷ us) h i = absurd (omega (arith, i))
  enough_contexts (suc f) (suc g) found [] h i = refl
  enough_contexts (suc f) (suc g) found (t ∷ us) h i = by (is_mark m.Context t.kind) (enough_contexts f g)
    where
      after : ((found : List Rule) (vs : List Terminal) → length vs ≤ f → length vs ≤ g → contexts body f found vs ≡ contexts body g found vs) → of_context (contexts body f) found us ≡ of_context (contexts body g) found us
      after more = classes (placed_name us) (short_class us)
        where
          rules : (n : ℕ) → n < length us → (r : Reading (List Rule)) → IfOk r (λ x. length x.1 < n) → (r >>= λ x. contexts body f x.0 x.1) ≡ (r >>= λ x. contexts body g x.0 x.1)
          rules n l (Err e) s = refl
          rules n l (Ok (x, rest)) s = more x rest (omega (arith, s, l, h)) (omega (arith, s, l, i))

          classes : (r : Reading (List ℕ × ℕ)) → IfOk r (λ c. length c.1 < length us) → (r >>= λ c. all_invariants body c.0 found c.1 >>= λ x. contexts body f x.0 x.1) ≡ (r >>= λ c. all_invariants body c.0 found c.1 >>= λ x. contexts body g x.0 x.1)
          classes (Err e) s = refl
          classes (Ok (c, rest)) s = rules (length rest) s (all_invariants body c found rest) (shortens c found rest)

      by : (v : Bool) → ((found : List Rule) (vs : List Terminal) → length vs ≤ f → length vs ≤ g → contexts body f found vs ≡ contexts body g found vs)
          → ((if v then Ok us else Err (syntax (t ∷ us))) >>= placed_name >>= λ c. all_invariants body c.0 found c.1 >>= λ x. contexts body f x.0 x.1) ≡ ((if v then Ok us else Err (syntax (t ∷ us))) >>= placed_name >>= λ c. all_invariants body c.0 found c.1 >>= λ x. contexts body g x.0 x.1)
      by true more = after more
      by false more = refl

  contexts_are : (found : List Rule) (at : ℕ) (text : List ℕ) (us : List Terminal) → all_contexts body found (token k.Context at text ∷ us) ≡ of_context (all_contexts body) found us
  unfolding contexts context expect
  contexts_are found at text us = classes (placed_name us) (short_class us)
    where
      rules : (n : ℕ) → n < length us → (r : Reading (List Rule)) → IfOk r (λ x. length x.1 < n) → (r >>= λ x. contexts body (length us) x.0 x.1) ≡ (r >>= λ x. all_contexts body x.0 x.1)
      rules n l (Err e) s = refl
      rules n l (Ok (x, rest)) s = enough_contexts (length us) (length rest) x rest (omega (arith, s, l)) (omega arith)

      classes : (r : Reading (List ℕ × ℕ)) → IfOk r (λ c. length c.1 < length us) → (r >>= λ c. all_invariants body c.0 found c.1 >>= λ x. contexts body (length us) x.0 x.1) ≡ (r >>= λ c. all_invariants body c.0 found c.1 >>= λ x. all_contexts body x.0 x.1)
      classes (Err e) s = refl
      classes (Ok (c, rest)) s = rules (length rest) s (all_invariants body c found rest) (shortens c found rest)

-- ---- a whole list

-- nothing follows
abbrev pub Nothing : List Terminal → Type 0
Nothing us = us ≡ []

abbrev pub all_read : List Rule → Reading (List Rule)
all_read all = Ok (all, [])

abbrev pub read_contexts : Reader SurfaceTree → List Rule → Reader (List Rule)
read_contexts body found us = all_contexts body found us >>= all_read

abbrev after_context : Reader SurfaceTree → List Rule → Reader (List Rule)
after_context body found us = placed_name us >>= λ c. all_invariants body c.0 found c.1 >>= λ x. read_contexts body x.0 x.1

-- after the `inv` at this place
abbrev from_invariant : Reader SurfaceTree → List ℕ × ℕ → List Rule → ℕ → Reader (List Rule)
from_invariant body class found at us = invariant_at body class (suc (length found)) at us >>= λ x. next_invariants body class found x.0 x.1

module _ (body : Reader SurfaceTree) (shortens : (class : List ℕ × ℕ) (n : ℕ) (us : List Terminal) → IfOk (invariant body class n us) (λ x. length x.1 < length us)) where
  invariant_first : (class : List ℕ × ℕ) (found : List Rule) (at : ℕ) (text : List ℕ) (us : List Terminal) → all_invariants body class found (token k.Inv at text ∷ us) ≡ from_invariant body class found at us
  unfolding invariant
  invariant_first class found at text us = invariants_are body shortens class found (token k.Inv at text ∷ us)

module _ (body : Reader SurfaceTree) (shortens : (class : List ℕ × ℕ) (found : List Rule) (us : List Terminal) → IfOk (all_invariants body class found us) (λ x. length x.1 < length us)) where
  context_first : (found : List Rule) (at : ℕ) (text : List ℕ) (us : List Terminal) → read_contexts body found (token k.Context at text ∷ us) ≡ after_context body found us
  context_first found at text us = ap (λ r. r >>= all_read) (contexts_are body shortens found at text us) ∙ by (placed_name us)
    where
      by : (r : Reading (List ℕ × ℕ)) → ((r >>= λ c. all_invariants body c.0 found c.1 >>= λ x. all_contexts body x.0 x.1) >>= all_read) ≡ (r >>= λ c. all_invariants body c.0 found c.1 >>= λ x. read_contexts body x.0 x.1)
      by (Err e) = refl
      by (Ok (c, vs)) = assoc (all_invariants body c found vs) (λ x. all_contexts body x.0 x.1) all_read

module _ (body body' : Reader SurfaceTree) (sees : (ts : List Terminal) → Sees body body' (May stops) (Next counts) ts)
    (shortens : (class : List ℕ × ℕ) (n : ℕ) (us : List Terminal) → IfOk (invariant body class n us) (λ x. length x.1 < length us))
    (shortens' : (class : List ℕ × ℕ) (n : ℕ) (us : List Terminal) → IfOk (invariant body' class n us) (λ x. length x.1 < length us))
    (shorten : (class : List ℕ × ℕ) (found : List Rule) (us : List Terminal) → IfOk (all_invariants body class found us) (λ x. length x.1 < length us))
    (shorten' : (class : List ℕ × ℕ) (found : List Rule) (us : List Terminal) → IfOk (all_invariants body' class found us) (λ x. length x.1 < length us)) where
  module _ (class : List ℕ × ℕ) where
    abbrev SeesFrom : List Rule → ℕ → List Terminal → Type 0
    SeesFrom found at us = Sees (from_invariant body class found at) (from_invariant body' class found at) (May stops) (Next (is_mark m.Colon)) us

    sees_next : (found : List Rule) (x : Rule) (ts : List Terminal) → ((at : ℕ) (us : List Terminal) → length us < length ts → SeesFrom (found ++ x ∷ []) at us) → Sees (next_invariants body class found x) (next_invariants body' class found x) (May stops) (May stops) ts
    sees_next found x ts h = by ts h
      where
        last : (ts : List Terminal) → ((us : List Terminal) → Agrees ts us → next_is begins_invariant us ≡ false) → Sees (next_invariants body class found x) (next_invariants body' class found x) (May stops) (May stops) ts
        last ts g = sees_as _ _ (λ us. Ok (found ++ x ∷ [], us)) (λ us. Ok (found ++ x ∷ [], us)) (May stops) (May stops) ts (λ us w. rw (here us w) refl) (λ us w. rw (here us w) refl) (pass (found ++ x ∷ []) (May stops) ts)
          where
            here : (us : List Terminal) → Agrees ts us ⊎ May stops us → next_is begins_invariant us ≡ false
            here us (inl w) = g us w
            here us (inr w) = may_not stops begins_invariant stop_begins_nothing us w

        first : (kind : TokenKind) (at : ℕ) (text : List ℕ) (us : List Terminal) → SeesFrom (found ++ x ∷ []) at us → Sees (next_invariants body class found x) (next_invariants body' class found x) (May stops) (May stops) (token kind at text ∷ us)
        first k.Inv at text us s = skip (token k.Inv at text) us _ _ (from_invariant body class (found ++ x ∷ []) at) (from_invariant body' class (found ++ x ∷ []) at) (May stops) (Next (is_mark m.Colon)) (May stops) (invariant_first body shortens class (found ++ x ∷ []) at text) (invariant_first body' shortens' class (found ++ x ∷ []) at text) s
        first (k.Number v) at text us s = last _ (λ us (more, is). rw is refl)
        first _ at text us s = last _ (λ us (more, is). rw is refl)

        by : (ts : List Terminal) → ((at : ℕ) (us : List Terminal) → length us < length ts → SeesFrom (found ++ x ∷ []) at us) → Sees (next_invariants body class found x) (next_invariants body' class found x) (May stops) (May stops) ts
        by [] h = last [] (λ us is. rw is refl)
        by (t ∷ us) h = first t.kind t.offset t.text us (h t.offset us (omega arith))

    turn_from : (found : List Rule) (at : ℕ) (ts : List Terminal) → ((x : Rule) (place : ℕ) (us : List Terminal) → length us < length ts → SeesFrom (found ++ x ∷ []) place us) → SeesFrom found at ts
    turn_from found at ts h =
        bind_from (invariant_at body class (suc (length found)) at) (invariant_at body' class (suc (length found)) at) (next_invariants body class found) (next_invariants body' class found) (May stops) (May stops) (May stops) (Next (is_mark m.Colon)) ts (λ us g. g)
        (sees_invariant_at body body' sees class (suc (length found)) at ts) (λ x rest less. sees_next found x rest (λ place us shorter. h x place us (omega (arith, less, shorter))))

    sees_from : (l : ℕ) (found : List Rule) (at : ℕ) (ts : List Terminal) → length ts ≤ l → SeesFrom found at ts
    sees_from zero found at ts h = turn_from found at ts (λ x place us less. absurd (omega (arith, h, less)))
    sees_from (suc l) found at ts h = turn_from found at ts (λ x place us less. sees_from l (found ++ x ∷ []) place us (omega (arith, h, less)))

    invariants_default : (found : List Rule) → Completes (all_invariants body' class found) (May stops) Any []
    invariants_default found =
        let (x, more, h) = default_of (from_invariant body class found 0) (from_invariant body' class found 0) (May stops) (Next (is_mark m.Colon)) (sees_from 0 found 0 [] (omega arith)) in
        (x, token k.Inv 0 [] ∷ more, λ rest g. (tt, invariant_first body' shortens' class found 0 [] (more ++ rest) ∙ (h rest g).1))

    sees_invariants : (found : List Rule) (ts : List Terminal) → Sees (all_invariants body class found) (all_invariants body' class found) (May stops) Any ts
    unfolding invariant
    sees_invariants found [] = stuck _ _ (May stops) Any [] (λ us is. rw is (invariants_are body shortens class found [])) (λ us is. rw is (invariants_are body' shortens' class found [])) (invariants_default found)
    sees_invariants found (t ∷ ts) = by t.kind
      where
        by : (kind : TokenKind) → Sees (all_invariants body class found) (all_invariants body' class found) (May stops) Any (token kind t.offset t.text ∷ ts)
        by k.Inv = skip (token k.Inv t.offset t.text) ts _ _ (from_invariant body class found t.offset) (from_invariant body' class found t.offset) (May stops) (Next (is_mark m.Colon)) Any (invariant_first body shortens class found t.offset t.text) (invariant_first body' shortens' class found t.offset t.text) (sees_from (length ts) found t.offset ts (omega arith))
        by (k.Number v) = stuck _ _ (May stops) Any _ (λ us (more, is). rw is (invariants_are body shortens class found (token (k.Number v) t.offset t.text ∷ more))) (λ us (more, is). rw is (invariants_are body' shortens' class found (token (k.Number v) t.offset t.text ∷ more))) (invariants_default found)
        by kind = stuck _ _ (May stops) Any _ (λ us (more, is). rw is (invariants_are body shortens class found (token kind t.offset t.text ∷ more))) (λ us (more, is). rw is (invariants_are body' shortens' class found (token kind t.offset t.text ∷ more))) (invariants_default found)

  nothing_more : (us : List Terminal) → Nothing us → May stops us
  nothing_more us is = rw is tt

  abbrev SeesContexts : List Rule → List Terminal → Type 0
  SeesContexts found ts = Sees (read_contexts body found) (read_contexts body' found) Nothing Nothing ts

  done : (body : Reader SurfaceTree) (found : List Rule) (us : List Terminal) → us ≡ [] → read_contexts body found us ≡ Ok (found, us)
  unfolding contexts
  done body found us is = rw is refl

  no_context : (found : List Rule) (ts : List Terminal) → ((us : List Terminal) → Agrees ts us → read_contexts body found us ≡ Err (syntax us)) → ((us : List Terminal) → Agrees ts us → read_contexts body' found us ≡ Err (syntax us)) → SeesContexts found ts
  no_context found ts e e' = stuck _ _ Nothing Nothing ts e e' (found, [], λ rest g. (g, done body' found rest g))

  sees_contexts : (l : ℕ) (found : List Rule) (ts : List Terminal) → length ts ≤ l → SeesContexts found ts
  unfolding contexts context expect
  sees_contexts l found [] h = sees_as _ _ (λ us. Ok (found, us)) (λ us. Ok (found, us)) Nothing Nothing [] here here' (pass found Nothing [])
    where
      here : (us : List Terminal) → Agrees [] us ⊎ Nothing us → read_contexts body found us ≡ Ok (found, us)
      here us (inl is) = done body found us is
      here us (inr is) = done body found us is

      here' : (us : List Terminal) → Agrees [] us ⊎ Nothing us → read_contexts body' found us ≡ Ok (found, us)
      here' us (inl is) = done body' found us is
      here' us (inr is) = done body' found us is
  sees_contexts zero found (t ∷ ts) h = absurd (omega (arith, h))
  sees_contexts (suc l) found (t ∷ ts) h = by t.kind (sees_contexts l)
    where
      by : (kind : TokenKind) → ((found : List Rule) (us : List Terminal) → length us ≤ l → SeesContexts found us) → SeesContexts found (token kind t.offset t.text ∷ ts)
      by k.Context more = skip (token k.Context t.offset t.text) ts _ _ (after_context body found) (after_context body' found) Nothing (Next is_identifier_kind) Nothing (context_first body shorten found t.offset t.text) (context_first body' shorten' found t.offset t.text)
          (bind_from placed_name placed_name (λ c vs. all_invariants body c found vs >>= λ x. read_contexts body x.0 x.1) (λ c vs. all_invariants body' c found vs >>= λ x. read_contexts body' x.0 x.1) Any Nothing Any (Next is_identifier_kind) ts (λ us g. tt) (sees_placed_name ts)
          (λ c us i. bind_from (all_invariants body c found) (all_invariants body' c found) (read_contexts body) (read_contexts body') (May stops) Nothing Nothing Any us nothing_more (sees_invariants c found us)
          (λ x vs j. more x vs (omega (arith, h, i, j)))))
      by (k.Number v) more = no_context found _ (λ us (vs, is). rw is refl) (λ us (vs, is). rw is refl)
      by _ more = no_context found _ (λ us (vs, is). rw is refl) (λ us (vs, is). rw is refl)

short_invariant : (c nesting : ℕ) (class : List ℕ × ℕ) (n : ℕ) (us : List Terminal) → IfOk (invariant (expr c (suc nesting)) class n us) (λ x. length x.1 < length us)
short_invariant c nesting class n us = weaker (λ x. IsInvariant nesting c n class.0 class.1 us x.0 x.1) (λ x. length x.1 < length us) (invariant (expr c (suc nesting)) class n us) (λ x d. shorter_invariant d) (sound_invariant nesting c class n us)

short_invariants : (c nesting : ℕ) (class : List ℕ × ℕ) (found : List Rule) (us : List Terminal) → IfOk (all_invariants (expr c (suc nesting)) class found us) (λ x. length x.1 < length us)
short_invariants c nesting class found us = weaker (λ x. IsInvariants nesting c class.0 class.1 found us x.0 x.1) (λ x. length x.1 < length us) (all_invariants (expr c (suc nesting)) class found us) (λ x d. shorter_invariants d) (sound_invariants nesting c class (length us) found us)

-- where a list of rules stops, it can be completed under wider limits
pub sees_rules : (a b c nesting : ℕ) (ts : List Terminal) → Sees (read_contexts (expr c (suc nesting)) []) (read_contexts (expr (longer b c) (suc (deeper a nesting))) []) Nothing Nothing ts
sees_rules a b c nesting ts =
    sees_contexts (expr c (suc nesting)) (expr (longer b c) (suc (deeper a nesting))) (sees_whole_expr a b c (suc nesting)) (short_invariant c nesting) (short_invariant (longer b c) (deeper a nesting))
    (short_invariants c nesting) (short_invariants (longer b c) (deeper a nesting)) (length ts) [] ts (omega arith)
