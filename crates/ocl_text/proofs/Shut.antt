-- Where a token can begin nothing, the parser refuses it.
use Rattle.std.proofs.Common.{◌≡◌, ℕ, zero, suc, List, [], ◌∷◌, Err, refl, ◌∙◌, false}
use Rattle.ocl_tokens.specs.declared.token.TokenKind.{TokenKind}
use Rattle.ocl_tokens.specs.declared.token.TokenKind.TheVariants as k
use Rattle.ocl_tokens.specs.Terminals.{Terminal}
use Rattle.ocl_text.specs.Tree.{SurfaceTree}
use Rattle.ocl_text.specs.Grammar.{token, top, next_is, closes, is_identifier_kind}
use Rattle.ocl_text.specs.Parse as p
use Rattle.ocl_text.specs.Parse.{syntax, Reader, begins, begins_expr, begins_argument, too_deep_at, identifier, levels, unary, unary_over, expr, expr_over, post, prim, arguments_in, items, a_bind, let_expression, placed_name, fold_in}
use Rattle.ocl_text.proofs.Turns.{expr_plain}

-- where no name stands, a type is refused
pub type_shut : (n : ℕ) (ts : List Terminal) → next_is is_identifier_kind ts ≡ false → p.a_type n ts ≡ Err (syntax ts)
unfolding p.a_type p.type_over too_deep_at
type_shut zero ts h = rw h refl
type_shut (suc n) [] h = refl
type_shut (suc n) (t ∷ ts) h = by t.kind h
  where
    by : (kind : TokenKind) → is_identifier_kind kind ≡ false → p.type_by (p.a_type n) kind t.text t.offset (t ∷ ts) ts ≡ Err (syntax (t ∷ ts))
    by k.Identifier h = absurd (cc)
    by (k.Number v) h = refl
    by _ h = refl

-- where an operand is refused, so is one with operators, on each level
pub levels_shut : (c : ℕ) (p : Reader SurfaceTree) (level : ℕ) (ts : List Terminal) → p ts ≡ Err (syntax ts) → levels c p level ts ≡ Err (syntax ts)
unfolding levels
levels_shut c p zero ts h = h
levels_shut c p (suc level) ts h = rw (levels_shut c p level ts h) refl

-- where no operand can begin, one is refused, whatever the limits
pub unary_shut : (c n : ℕ) (ts : List Terminal) → next_is begins ts ≡ false → unary c n ts ≡ Err (syntax ts)
unfolding unary unary_over too_deep_at post prim
unary_shut c zero ts h = rw h refl
unary_shut c (suc n) [] h = refl
unary_shut c (suc n) (t ∷ ts) h = by t.kind t.offset t.text h
  where
    by : (kind : TokenKind) (at : ℕ) (text : List ℕ) → begins kind ≡ false → unary c (suc n) (token kind at text ∷ ts) ≡ Err (syntax (token kind at text ∷ ts))
    by k.Identifier at text h = absurd (cc)
    by k.Minus at text h = absurd (cc)
    by k.Not at text h = absurd (cc)
    by k.Open at text h = absurd (cc)
    by k.If at text h = absurd (cc)
    by k.String at text h = absurd (cc)
    by k.True at text h = absurd (cc)
    by k.False at text h = absurd (cc)
    by k.Null at text h = absurd (cc)
    by k.Invalid at text h = absurd (cc)
    by k.SelfObject at text h = absurd (cc)
    by (k.Number v) at text h = absurd (cc)
    by _ at text h = refl

begins_less : (kind : TokenKind) → begins_expr kind ≡ false → begins kind ≡ false
begins_less k.Let h = absurd (cc)
begins_less (k.Number v) h = absurd (cc)
begins_less _ h = h

next_less : (ts : List Terminal) → next_is begins_expr ts ≡ false → next_is begins ts ≡ false
next_less [] h = refl
next_less (t ∷ ts) h = begins_less t.kind h

not_let : (kind : TokenKind) → begins_expr kind ≡ false → kind ≡ k.Let → ⊥
not_let kind h e = let f = rw e at h in absurd (cc)

-- where no expression can begin, one is refused, whatever the limits
pub expr_shut : (c n : ℕ) (ts : List Terminal) → next_is begins_expr ts ≡ false → expr c n ts ≡ Err (syntax ts)
unfolding expr expr_over too_deep_at unary
expr_shut c zero ts h = rw h refl
expr_shut c (suc n) [] h = levels_shut c (unary c (suc n)) top [] (unary_shut c (suc n) [] refl)
expr_shut c (suc n) (t ∷ ts) h = expr_plain c (suc n) (t ∷ ts) t ts (λ e. cc (e)) refl (not_let t.kind h) ∙ levels_shut c (unary c (suc n)) top (t ∷ ts) (unary_shut c (suc n) (t ∷ ts) (next_less (t ∷ ts) h))

-- where no argument can begin and no parenthesis closes, arguments are refused
pub argument_shut : (n : ℕ) (operand : Reader SurfaceTree) → ((ts : List Terminal) → next_is begins ts ≡ false → operand ts ≡ Err (syntax ts)) → (ts : List Terminal) → next_is begins_argument ts ≡ false → arguments_in operand n ts ≡ Err (syntax ts)
unfolding arguments_in too_deep_at items
argument_shut zero operand h ts e = rw e refl
argument_shut (suc n) operand h [] e = refl
argument_shut (suc n) operand h (t ∷ ts) e = rw (no_close t.kind e, h (t ∷ ts) (no_begin t.kind e)) refl
  where
    no_close : (kind : TokenKind) → begins_argument kind ≡ false → closes kind ≡ false
    no_close k.Close e = absurd (cc)
    no_close (k.Number v) e = refl
    no_close _ e = refl

    no_begin : (kind : TokenKind) → begins_argument kind ≡ false → begins kind ≡ false
    no_begin k.Close e = refl
    no_begin (k.Number v) e = e
    no_begin _ e = e

-- where no name stands after `let`, it is refused
pub let_shut : (operand whole : Reader SurfaceTree) (at i : ℕ) (ts : List Terminal) → next_is is_identifier_kind ts ≡ false → let_expression i operand whole at ts ≡ Err (syntax ts)
unfolding let_expression too_deep_at items a_bind placed_name
let_shut operand whole at zero ts e = rw e refl
let_shut operand whole at (suc i) [] e = refl
let_shut operand whole at (suc i) (t ∷ ts) e = by t.kind e
  where
    by : (kind : TokenKind) → is_identifier_kind kind ≡ false → let_expression (suc i) operand whole at (token kind t.offset t.text ∷ ts) ≡ Err (syntax (token kind t.offset t.text ∷ ts))
    by k.Identifier e = absurd (cc)
    by (k.Number v) e = refl
    by _ e = refl

-- where no name stands after the parenthesis of a fold, it is refused
pub fold_shut : (operand whole : Reader SurfaceTree) (source : SurfaceTree) (at i : ℕ) (ts : List Terminal) → next_is is_identifier_kind ts ≡ false → fold_in i operand whole source at ts ≡ Err (syntax ts)
unfolding fold_in too_deep_at p.a_variable identifier
fold_shut operand whole source at zero ts e = rw e refl
fold_shut operand whole source at (suc i) [] e = refl
fold_shut operand whole source at (suc i) (t ∷ ts) e = by t.kind e
  where
    by : (kind : TokenKind) → is_identifier_kind kind ≡ false → fold_in (suc i) operand whole source at (token kind t.offset t.text ∷ ts) ≡ Err (syntax (token kind t.offset t.text ∷ ts))
    by k.Identifier e = absurd (cc)
    by (k.Number v) e = refl
    by _ e = refl
