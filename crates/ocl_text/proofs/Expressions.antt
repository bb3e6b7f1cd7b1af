-- Where an expression stops, it can be completed under wider limits.
use Rattle.std.proofs.Common.{◌≡◌, ℕ, zero, suc, ◌≤◌, List, [], ◌∷◌, ◌++◌, length, Ok, Err, refl, sym, ap, ◌∙◌, subst, Bool, true, false, arith, inl, inr, ◌⊎◌, IfOk}
use Rattle.std.specs.Prelude.{if◌then◌else◌}
use Rattle.ocl_tokens.specs.declared.token.TokenKind.{TokenKind}
use Rattle.ocl_tokens.specs.declared.token.TokenKind.TheVariants as k
use Rattle.ocl_base.specs.Steps.{◌>>=◌}
use Rattle.ocl_text.specs.declared.cursor.Mark.{Mark}
use Rattle.ocl_text.specs.declared.cursor.Mark.TheVariants as m
use Rattle.ocl_text.specs.declared.tree.PrefixOperator.{PrefixOperator}
use Rattle.ocl_text.specs.declared.tree.PrefixOperator.TheVariants.{Negate, Not}
use Rattle.ocl_tokens.specs.Terminals.{Terminal}
use Rattle.ocl_text.specs.Tree.{Bound, SurfaceTree, Number, Prefix, lets_at}
use Rattle.ocl_text.specs.RuleText.{Agrees}
use Rattle.ocl_text.specs.Grammar.{is_mark, token, top, next_is, Next, is_identifier_kind, IsLevel, IsType}
use Rattle.ocl_text.specs.Parse as p
use Rattle.ocl_text.specs.Parse.{TokensFault, syntax, too_deep, Reading, Reader, begins, begins_expr, expect, identifier, identifier_by, levels, level_of, unary, unary_over, expr, expr_over, prim, post, step_list, items, a_bind, let_expression, placed_name, placed_by}
use Rattle.ocl_text.proofs.Complete.{shorter_level, shorter_type}
use Rattle.ocl_text.proofs.Sound.{bind_ok, weaker, sound_levels, sound_unary, sound_type}
use Rattle.ocl_text.proofs.Turns.{expr_plain}
use Rattle.ocl_text.proofs.Shut.{levels_shut, unary_shut, expr_shut, let_shut}
use Rattle.ocl_text.proofs.Wider.{plus, deeper, longer}
use Rattle.ocl_text.proofs.Prefixes.{Sees, Opens, bind, sees_as, skip, pass, stuck, sees_expect}
use Rattle.ocl_text.proofs.Stops.{May, stops, mark_may, sees_shut}
use Rattle.ocl_text.proofs.Spelled.{zero_token, name_word, after_let_name, levels_done, number_unary, number_expr, plain_expr, opened_unary, let_done}
use Rattle.ocl_text.proofs.Lists.{Shortens, listed, sees_listed}
use Rattle.ocl_text.proofs.Parts.{counts, sees_bind, sees_levels, sees_levels_after, sees_named, sees_prim}
use Rattle.ocl_text.proofs.Steps.{SeesName, sees_steps}

-- ---- nothing is longer after it is read

short_expect : (mark : Mark) (us : List Terminal) → IfOk (expect mark us) (λ vs. length vs ≤ length us)
unfolding expect
short_expect mark [] = tt
short_expect mark (u ∷ us) = by (is_mark mark u.kind)
  where
    by : (v : Bool) → IfOk (if v then Ok us else Err (syntax (u ∷ us))) (λ vs. length vs ≤ length (u ∷ us))
    by true = omega arith
    by false = tt

short_placed : Shortens placed_name
unfolding placed_name
short_placed [] = tt
short_placed (u ∷ us) = by u.kind
  where
    by : (kind : TokenKind) → IfOk (placed_by kind u.text u.offset (u ∷ us) us) (λ x. length x.1 ≤ length (u ∷ us))
    by k.Identifier = omega arith
    by (k.Number v) = tt
    by _ = tt

short_after : {A : Type 0} (mark : Mark) (p : Reader A) → Shortens p → Shortens (λ us. expect mark us >>= p)
short_after mark p h us = bind_ok (λ vs. length vs ≤ length us) (λ x. length x.1 ≤ length us) (expect mark us) p (short_expect mark us) (λ vs l. weaker (λ x. length x.1 ≤ length vs) (λ x. length x.1 ≤ length us) (p vs) (λ x g. omega (arith, l, g)) (h vs))

short_level : (c n : ℕ) → Shortens (level_of c n top)
short_level c n us = weaker (λ x. IsLevel c n top us x.0 x.1) (λ x. length x.1 ≤ length us) (level_of c n top us) (λ x d. let s = shorter_level d in omega (arith, s)) (sound_levels c n (unary c n) (sound_unary c n) top us)

short_type : (n : ℕ) → Shortens (p.a_type n)
short_type n us = weaker (λ x. IsType n us x.0 x.1) (λ x. length x.1 ≤ length us) (p.a_type n us) (λ x d. let s = shorter_type d in omega (arith, s)) (sound_type n us)

short_bind : (n : ℕ) (operand : Reader SurfaceTree) → Shortens operand → Shortens (a_bind n operand)
unfolding a_bind
short_bind n operand h us =
    bind_ok (λ v. length v.1 ≤ length us) (λ x. length x.1 ≤ length us) (placed_name us) _ (short_placed us)
    (λ v i. bind_ok (λ s. length s.1 ≤ length v.1) (λ x. length x.1 ≤ length us) (expect m.Colon v.1 >>= p.a_type n) _ (short_after m.Colon (p.a_type n) (short_type n) v.1)
    (λ s j. bind_ok (λ x. length x.1 ≤ length s.1) (λ x. length x.1 ≤ length us) (expect m.Equal s.1 >>= operand) _ (short_after m.Equal operand h s.1)
    (λ x l. omega (arith, i, j, l))))

level_shuts : (c n : ℕ) (ts : List Terminal) → next_is begins ts ≡ false → level_of c n top ts ≡ Err (syntax ts)
level_shuts c n ts h = levels_shut c (unary c n) top ts (unary_shut c n ts h)

no_level : (c n : ℕ) → level_of c n top [] ≡ Err (syntax [])
no_level c n = level_shuts c n [] refl

no_bind : (n : ℕ) (operand : Reader SurfaceTree) → a_bind n operand [] ≡ Err (syntax [])
unfolding a_bind placed_name
no_bind n operand = refl

-- ---- what completes an operand or an expression after its first token

plus_suc : (n a : ℕ) → plus n (suc a) ≡ suc (plus n a)
plus_suc zero a = refl
plus_suc (suc n) a = ap (λ (i : ℕ). suc i) (plus_suc n a)

opened_level : (a c n : ℕ) (u : Terminal) → begins u.kind ≡ true → Opens (level_of c (deeper a n) top) (May stops) u
opened_level a c n u h =
    let (x, more, e) = opened_unary c (plus n (suc a)) u h in
    subst (λ (i : ℕ). Opens (level_of c i top) (May stops) u) (sym (plus_suc n (suc (suc a)) ∙ ap (λ (i : ℕ). suc i) (plus_suc n (suc a))))
    (x, more, λ rest g. levels_done c (unary c (suc (suc (plus n (suc a))))) top (u ∷ (more ++ rest)) x rest (e rest g) g)

opened_expr : (c n : ℕ) (u : Terminal) → begins_expr u.kind ≡ true → Opens (expr c (suc (suc (suc n)))) (May stops) u
unfolding expr expr_over
opened_expr c n u h = by u.kind h
  where
    plain : (kind : TokenKind) → (kind ≡ k.Let → ⊥) → begins kind ≡ true → Opens (expr c (suc (suc (suc n)))) (May stops) (token kind u.offset u.text)
    plain kind not_let h =
        let (x, more, e) = opened_unary c (suc n) (token kind u.offset u.text) h in
        (x, more, λ rest g. plain_expr c (suc (suc n)) (token kind u.offset u.text) (more ++ rest) x rest not_let (e rest g) g)

    by : (kind : TokenKind) → begins_expr kind ≡ true → Opens (expr c (suc (suc (suc n)))) (May stops) (token kind u.offset u.text)
    by k.Let h = (_, name_word ∷ after_let_name, λ rest g. let_done c (suc n) (suc n) u.offset 0 [] rest g)
    by (k.Number v) h = plain (k.Number v) (λ e. cc (e)) h
    by kind h = plain kind (λ e. cc (e)) h

-- ---- let

module _ (a b c : ℕ) where
  abbrev SeesLevel : ℕ → Type 0
  SeesLevel n = (ts : List Terminal) → Sees (level_of c n top) (level_of (longer b c) (deeper a n) top) (May stops) (Next counts) ts

  abbrev SeesExpr : ℕ → Type 0
  SeesExpr n = (ts : List Terminal) → Sees (expr c n) (expr (longer b c) (deeper a n)) (May stops) (Next counts) ts

  abbrev in_let : Reader SurfaceTree → ℕ → List Bound → Reader SurfaceTree
  in_let whole at bindings us = expect m.In us >>= whole >>= λ y. Ok (lets_at at bindings y.0, y.1)

  let_opened : (at : ℕ) (u : Terminal) → is_identifier_kind u.kind ≡ true → Opens (let_expression (suc (suc (suc a))) (level_of (longer b c) (suc (suc (suc a))) top) (expr (longer b c) (suc (suc (suc a)))) at) (May stops) u
  let_opened at u h = by u.kind h
    where
      by : (kind : TokenKind) → is_identifier_kind kind ≡ true → Opens (let_expression (suc (suc (suc a))) (level_of (longer b c) (suc (suc (suc a))) top) (expr (longer b c) (suc (suc (suc a)))) at) (May stops) (token kind u.offset u.text)
      by k.Identifier h = (_, after_let_name, λ rest g. let_done (longer b c) (suc (suc a)) (suc (suc a)) at u.offset u.text rest g)
      by (k.Number v) h = absurd (cc)
      by _ h = absurd (cc)

  sees_let : (n : ℕ) → SeesLevel n → SeesExpr n → (at : ℕ) (ts : List Terminal) → Sees (let_expression n (level_of c n top) (expr c n) at) (let_expression (deeper a n) (level_of (longer b c) (deeper a n) top) (expr (longer b c) (deeper a n)) at) (May stops) (Next is_identifier_kind) ts
  unfolding let_expression
  sees_let zero sees sees_whole at ts = sees_shut is_identifier_kind _ (May stops) (Next is_identifier_kind) (let_shut (level_of (longer b c) (suc (suc (suc a))) top) (expr (longer b c) (suc (suc (suc a)))) at (suc (suc (suc a)))) (_, name_word ∷ after_let_name, λ rest g. (refl, let_done (longer b c) (suc (suc a)) (suc (suc a)) at 0 [] rest g)) (let_opened at) ts
  sees_let (suc n) sees sees_whole at ts =
      bind (listed (a_bind (suc n) (level_of c (suc n) top)) []) (listed (a_bind (suc (deeper a n)) (level_of (longer b c) (suc (deeper a n)) top)) []) (in_let (expr c (suc n)) at) (in_let (expr (longer b c) (suc (deeper a n))) at) (May stops) (May stops) (Next (is_mark m.In)) (Next is_identifier_kind) ts (mark_may m.In stops refl)
      (sees_listed (a_bind (suc n) (level_of c (suc n) top)) (a_bind (suc (deeper a n)) (level_of (longer b c) (suc (deeper a n)) top)) (short_bind (suc n) _ (short_level c (suc n))) (short_bind (suc (deeper a n)) _ (short_level (longer b c) (suc (deeper a n))))
      (no_bind (suc n) _) (no_bind (suc (deeper a n)) _) (Next is_identifier_kind) (sees_bind a (suc n) _ _ sees) [] ts)
      (λ bindings us. bind (λ vs. expect m.In vs >>= expr c (suc n)) (λ vs. expect m.In vs >>= expr (longer b c) (suc (deeper a n))) (λ y vs. Ok (lets_at at bindings y, vs)) (λ y vs. Ok (lets_at at bindings y, vs)) (May stops) (May stops) (May stops) (Next (is_mark m.In)) us (λ vs g. g)
      (sees_expect m.In (expr c (suc n)) (expr (longer b c) (suc (deeper a n))) (May stops) (Next counts) sees_whole us)
      (λ y vs. pass (lets_at at bindings y) (May stops) vs))

  -- ---- one construct deeper

  module _ (n : ℕ) (sees_below : (ts : List Terminal) → Sees (unary c n) (unary (longer b c) (deeper a n)) (May stops) (Next counts) ts) (sees_whole : SeesExpr n) (sees_name : SeesName a b c n) where
    sees_operand : SeesLevel n
    sees_operand = sees_levels b c (unary c n) (unary (longer b c) (deeper a n)) sees_below top

    steps_see : (source : SurfaceTree) (ts : List Terminal) → Sees (step_list n (level_of c n top) (expr c n) c source) (step_list (deeper a n) (level_of (longer b c) (deeper a n) top) (expr (longer b c) (deeper a n)) (longer b c) source) (May stops) (May stops) ts
    steps_see source ts = sees_steps a b c n (level_of c n top) (level_of (longer b c) (deeper a n) top) sees_operand (short_level c n) (short_level (longer b c) (deeper a n)) (no_level c n) (level_shuts (longer b c) (deeper a n)) (opened_level a (longer b c) n) sees_whole sees_name c source ts

    sees_post : (ts : List Terminal) → Sees (post c n (level_of c n top) (expr c n)) (post (longer b c) (deeper a n) (level_of (longer b c) (deeper a n) top) (expr (longer b c) (deeper a n))) (May stops) (Next counts) ts
    unfolding post
    sees_post ts =
        bind (prim (level_of c n top) (expr c n)) (prim (level_of (longer b c) (deeper a n) top) (expr (longer b c) (deeper a n))) (step_list n (level_of c n top) (expr c n) c) (step_list (deeper a n) (level_of (longer b c) (deeper a n) top) (expr (longer b c) (deeper a n)) (longer b c)) (May stops) (May stops) (May stops) (Next counts) ts (λ us g. g)
        (sees_prim (level_of c n top) (level_of (longer b c) (deeper a n) top) (expr c n) (expr (longer b c) (deeper a n)) sees_operand sees_whole ts) steps_see

    abbrev with_prefix : PrefixOperator → ℕ → SurfaceTree → Reader SurfaceTree
    with_prefix op at x us = Ok (Prefix op x at, us)

    abbrev prefixed_by : PrefixOperator → ℕ → Reader SurfaceTree → Reader SurfaceTree
    prefixed_by op at below us = below us >>= λ x. with_prefix op at x.0 x.1

    sees_prefixed : (op : PrefixOperator) (at : ℕ) (ts : List Terminal) → Sees (prefixed_by op at (unary c n)) (prefixed_by op at (unary (longer b c) (deeper a n))) (May stops) (Next counts) ts
    sees_prefixed op at ts = bind (unary c n) (unary (longer b c) (deeper a n)) (with_prefix op at) (with_prefix op at) (May stops) (May stops) (May stops) (Next counts) ts (λ us g. g) (sees_below ts) (λ x us. pass (Prefix op x at) (May stops) us)

    number_post : (c n : ℕ) (us : List Terminal) → Next counts us → unary c (suc n) us ≡ post c n (level_of c n top) (expr c n) us
    unfolding unary unary_over
    number_post c n [] h = absurd (cc)
    number_post c n (u ∷ us) h = by u.kind h
      where
        by : (kind : TokenKind) → counts kind ≡ true → unary c (suc n) (token kind u.offset u.text ∷ us) ≡ post c n (level_of c n top) (expr c n) (token kind u.offset u.text ∷ us)
        by (k.Number v) h = refl
        by _ h = absurd (cc)

    sees_unary : (ts : List Terminal) → Sees (unary c (suc n)) (unary (longer b c) (suc (deeper a n))) (May stops) (Next counts) ts
    unfolding unary unary_over
    sees_unary [] = stuck (unary c (suc n)) (unary (longer b c) (suc (deeper a n))) (May stops) (Next counts) [] (λ us is. rw is refl) (λ us is. rw is refl) (Number 0 0, zero_token ∷ [], λ rest g. (refl, number_unary (longer b c) (deeper a n) rest g))
    sees_unary (u ∷ ts) = by u.kind
      where
        as_post : (kind : TokenKind) → ((us : List Terminal) → unary c (suc n) (token kind u.offset u.text ∷ us) ≡ post c n (level_of c n top) (expr c n) (token kind u.offset u.text ∷ us))
            → ((us : List Terminal) → unary (longer b c) (suc (deeper a n)) (token kind u.offset u.text ∷ us) ≡ post (longer b c) (deeper a n) (level_of (longer b c) (deeper a n) top) (expr (longer b c) (deeper a n)) (token kind u.offset u.text ∷ us))
            → Sees (unary c (suc n)) (unary (longer b c) (suc (deeper a n))) (May stops) (Next counts) (token kind u.offset u.text ∷ ts)
        as_post kind e e' = sees_as _ _ _ _ (May stops) (Next counts) (token kind u.offset u.text ∷ ts) here here' (sees_post (token kind u.offset u.text ∷ ts))
          where
            here : (us : List Terminal) → Agrees (token kind u.offset u.text ∷ ts) us ⊎ Next counts us → unary c (suc n) us ≡ post c n (level_of c n top) (expr c n) us
            here us (inl (more, is)) = rw is (e more)
            here us (inr w) = number_post c n us w

            here' : (us : List Terminal) → Agrees (token kind u.offset u.text ∷ ts) us ⊎ Next counts us → unary (longer b c) (suc (deeper a n)) us ≡ post (longer b c) (deeper a n) (level_of (longer b c) (deeper a n) top) (expr (longer b c) (deeper a n)) us
            here' us (inl (more, is)) = rw is (e' more)
            here' us (inr w) = number_post (longer b c) (deeper a n) us w

        by : (kind : TokenKind) → Sees (unary c (suc n)) (unary (longer b c) (suc (deeper a n))) (May stops) (Next counts) (token kind u.offset u.text ∷ ts)
        by k.Minus = skip (token k.Minus u.offset u.text) ts _ _ (prefixed_by Negate u.offset (unary c n)) (prefixed_by Negate u.offset (unary (longer b c) (deeper a n))) (May stops) (Next counts) (Next counts) (λ us. refl) (λ us. refl) (sees_prefixed Negate u.offset ts)
        by k.Not = skip (token k.Not u.offset u.text) ts _ _ (prefixed_by Not u.offset (unary c n)) (prefixed_by Not u.offset (unary (longer b c) (deeper a n))) (May stops) (Next counts) (Next counts) (λ us. refl) (λ us. refl) (sees_prefixed Not u.offset ts)
        by (k.Number v) = as_post (k.Number v) (λ us. refl) (λ us. refl)
        by _ = as_post _ (λ us. refl) (λ us. refl)

    plain_at : (c n : ℕ) (us : List Terminal) → Next counts us → expr c (suc n) us ≡ level_of c (suc n) top us
    plain_at c n [] h = absurd (cc)
    plain_at c n (u ∷ us) h = expr_plain c (suc n) (u ∷ us) u us (λ z. cc (z)) refl (λ e. let f : counts k.Let ≡ true = rw e at h in cc (f))

    sees_plain : (ts : List Terminal) → ((us : List Terminal) → Agrees ts us → expr c (suc n) us ≡ level_of c (suc n) top us) → ((us : List Terminal) → Agrees ts us → expr (longer b c) (suc (deeper a n)) us ≡ level_of (longer b c) (suc (deeper a n)) top us)
        → Sees (expr c (suc n)) (expr (longer b c) (suc (deeper a n))) (May stops) (Next counts) ts
    sees_plain ts e e' = sees_as _ _ _ _ (May stops) (Next counts) ts here here' (sees_levels b c (unary c (suc n)) (unary (longer b c) (suc (deeper a n))) sees_unary top ts)
      where
        here : (us : List Terminal) → Agrees ts us ⊎ Next counts us → expr c (suc n) us ≡ level_of c (suc n) top us
        here us (inl w) = e us w
        here us (inr w) = plain_at c n us w

        here' : (us : List Terminal) → Agrees ts us ⊎ Next counts us → expr (longer b c) (suc (deeper a n)) us ≡ level_of (longer b c) (suc (deeper a n)) top us
        here' us (inl w) = e' us w
        here' us (inr w) = plain_at (longer b c) (deeper a n) us w

    plain_first : (c n : ℕ) (u : Terminal) → (u.kind ≡ k.Let → ⊥) → (ts us : List Terminal) → Agrees (u ∷ ts) us → expr c (suc n) us ≡ level_of c (suc n) top us
    plain_first c n u h ts us (more, is) = expr_plain c (suc n) us u more (λ z. cc (z)) is h

    plain_end : (c n : ℕ) (us : List Terminal) → us ≡ [] → expr c (suc n) us ≡ level_of c (suc n) top us
    unfolding expr expr_over unary
    plain_end c n us is = rw is refl

    sees_expr : (ts : List Terminal) → Sees (expr c (suc n)) (expr (longer b c) (suc (deeper a n))) (May stops) (Next counts) ts
    unfolding expr expr_over
    sees_expr [] = sees_plain [] (plain_end c n) (plain_end (longer b c) (deeper a n))
    sees_expr (u ∷ ts) = by u.kind
      where
        by : (kind : TokenKind) → Sees (expr c (suc n)) (expr (longer b c) (suc (deeper a n))) (May stops) (Next counts) (token kind u.offset u.text ∷ ts)
        by k.Let = skip (token k.Let u.offset u.text) ts _ _ (let_expression n (level_of c n top) (expr c n) u.offset) (let_expression (deeper a n) (level_of (longer b c) (deeper a n) top) (expr (longer b c) (deeper a n)) u.offset) (May stops) (Next is_identifier_kind) (Next counts) (λ us. refl) (λ us. refl) (sees_let n sees_operand sees_whole u.offset ts)
        by (k.Number v) = sees_plain _ (plain_first c n (token (k.Number v) u.offset u.text) (λ e. cc (e)) ts) (plain_first (longer b c) (deeper a n) (token (k.Number v) u.offset u.text) (λ e. cc (e)) ts)
        by kind = sees_plain _ (plain_first c n (token kind u.offset u.text) (λ e. cc (e)) ts) (plain_first (longer b c) (deeper a n) (token kind u.offset u.text) (λ e. cc (e)) ts)

    name_steps : (at : ℕ) (text : List ℕ) (us : List Terminal) → Sees (λ vs. unary c (suc n) (token k.Identifier at text ∷ vs)) (λ vs. unary (longer b c) (suc (deeper a n)) (token k.Identifier at text ∷ vs)) (May stops) (May stops) us
    unfolding unary unary_over post prim
    name_steps at text us = bind (p.name_or_literal text at) (p.name_or_literal text at) (step_list n (level_of c n top) (expr c n) c) (step_list (deeper a n) (level_of (longer b c) (deeper a n) top) (expr (longer b c) (deeper a n)) (longer b c)) (May stops) (May stops) (May stops) (May stops) us (λ vs g. g) (sees_named text at us) steps_see

    sees_name_expr : SeesName a b c (suc n)
    sees_name_expr at text us =
        sees_as _ _ (λ vs. level_of c (suc n) top (token k.Identifier at text ∷ vs)) (λ vs. level_of (longer b c) (suc (deeper a n)) top (token k.Identifier at text ∷ vs)) (May stops) (May stops) us
        (λ vs w. expr_plain c (suc n) (token k.Identifier at text ∷ vs) (token k.Identifier at text) vs (λ z. cc (z)) refl (λ e. cc (e)))
        (λ vs w. expr_plain (longer b c) (suc (deeper a n)) (token k.Identifier at text ∷ vs) (token k.Identifier at text) vs (λ z. cc (z)) refl (λ e. cc (e)))
        (sees_levels_after b c (unary c (suc n)) (unary (longer b c) (suc (deeper a n))) (token k.Identifier at text) sees_unary (name_steps at text) top us)

  abbrev SeesUnary : ℕ → Type 0
  SeesUnary n = (ts : List Terminal) → Sees (unary c n) (unary (longer b c) (deeper a n)) (May stops) (Next counts) ts

  sees_all : (n : ℕ) → SeesUnary n × SeesExpr n × SeesName a b c n
  unfolding unary expr p.too_deep_at
  sees_all zero = (
    sees_shut begins (unary (longer b c) (suc (suc (suc a)))) (May stops) (Next counts) (unary_shut (longer b c) (suc (suc (suc a)))) (Number 0 0, zero_token ∷ [], λ rest g. (refl, number_unary (longer b c) (suc (suc a)) rest g)) (opened_unary (longer b c) (suc a)),
    sees_shut begins_expr (expr (longer b c) (suc (suc (suc a)))) (May stops) (Next counts) (expr_shut (longer b c) (suc (suc (suc a)))) (Number 0 0, zero_token ∷ [], λ rest g. (refl, number_expr (longer b c) (suc (suc a)) rest g)) (opened_expr (longer b c) a),
    λ at text us. refl,
  )
  sees_all (suc n) = let (u, e, s) = sees_all n in (sees_unary n u e s, sees_expr n u e s, sees_name_expr n u e s)

  -- where an expression stops, it can be completed under wider limits, whatever nesting is left
  pub sees_whole_expr : (n : ℕ) → SeesExpr n
  sees_whole_expr n = (sees_all n).1
