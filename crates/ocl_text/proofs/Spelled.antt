-- How the shortest completions are read.
use Rattle.std.proofs.Common.{◌≡◌, ℕ, zero, suc, List, [], ◌∷◌, ◌++◌, length, drop, None, Ok, refl, ap, ◌∙◌, true, false}
use Rattle.std.specs.Prelude.{if◌then◌else◌}
use Rattle.ocl_tokens.specs.declared.token.TokenKind.{TokenKind}
use Rattle.ocl_tokens.specs.declared.token.TokenKind.TheVariants as k
use Rattle.ocl_base.specs.Steps.{◌>>=◌}
use Rattle.ocl_text.specs.declared.cursor.Mark.{Mark}
use Rattle.ocl_text.specs.declared.cursor.Mark.TheVariants as m
use Rattle.ocl_text.specs.declared.tree.Keyword.TheVariants as key
use Rattle.ocl_text.specs.declared.tree.PrefixOperator.TheVariants.{Negate, Not}
use Rattle.ocl_text.specs.Strings.{string_value}
use Rattle.ocl_tokens.specs.Terminals.{Terminal}
use Rattle.ocl_text.specs.Tree as t
use Rattle.ocl_text.specs.Tree.{Bound, SurfaceTree, Number, Name, String, Keyword, Prefix, lets_at, If, binding}
use Rattle.ocl_text.specs.Grammar.{token, top, operator, next_is, opens, qualifies, separates, steps_on}
use Rattle.ocl_text.specs.Parse as p
use Rattle.ocl_text.specs.Parse.{TokensFault, Reading, Reader, begins, begins_expr, expect, identifier, link, link_by, chain, levels, level_of, step_list, prim, post, unary, unary_over, expr, if_expression, items, a_bind, let_expression, placed_name}
use Rattle.ocl_text.proofs.Sound.{mark_kind}
use Rattle.ocl_text.proofs.Turns.{chain_none, steps_none, expr_plain}
use Rattle.ocl_text.proofs.Prefixes.{Opens}
use Rattle.ocl_text.proofs.Stops.{May, stops, stop_is, may_not}

abbrev pub zero_token : Terminal
zero_token = token (k.Number 0) 0 []

abbrev pub name_word : Terminal
name_word = token k.Identifier 0 []

abbrev pub mark_word : Mark → Terminal
mark_word mark = token (mark_kind mark) 0 []

no_operator : (level : ℕ) → (operator level k.Close ≡ None) × (operator level k.Bar ≡ None) × (operator level k.In ≡ None) × (operator level k.Then ≡ None) × (operator level k.Else ≡ None) × (operator level k.Endif ≡ None)
no_operator zero = (refl, refl, refl, refl, refl, refl)
no_operator (suc zero) = (refl, refl, refl, refl, refl, refl)
no_operator (suc (suc zero)) = (refl, refl, refl, refl, refl, refl)
no_operator (suc (suc (suc zero))) = (refl, refl, refl, refl, refl, refl)
no_operator (suc (suc (suc (suc zero)))) = (refl, refl, refl, refl, refl, refl)
no_operator (suc (suc (suc (suc (suc zero))))) = (refl, refl, refl, refl, refl, refl)
no_operator (suc (suc (suc (suc (suc (suc zero)))))) = (refl, refl, refl, refl, refl, refl)
no_operator (suc (suc (suc (suc (suc (suc (suc zero))))))) = (refl, refl, refl, refl, refl, refl)
no_operator (suc (suc (suc (suc (suc (suc (suc (suc zero)))))))) = (refl, refl, refl, refl, refl, refl)
no_operator (suc (suc (suc (suc (suc (suc (suc (suc (suc n))))))))) = (refl, refl, refl, refl, refl, refl)

-- no operator follows where an expression ends
pub not_linked : (level : ℕ) (us : List Terminal) → May stops us → link level us ≡ None
unfolding link
not_linked level [] h = refl
not_linked level (t ∷ us) h = let n = no_operator level in ap (λ o. link_by o t.offset us) (stop_is (λ kind. operator level kind ≡ None) n.0 n.1 n.2 n.3 n.4 n.5 t.kind h)

-- what ends an expression is no step, no `::`, no comma and no opening parenthesis
pub stop_steps : (kind : TokenKind) → stops kind ≡ true → steps_on kind ≡ false
stop_steps = stop_is (λ kind. steps_on kind ≡ false) refl refl refl refl refl refl

pub stop_qualifies : (kind : TokenKind) → stops kind ≡ true → qualifies kind ≡ false
stop_qualifies = stop_is (λ kind. qualifies kind ≡ false) refl refl refl refl refl refl

pub stop_separates : (kind : TokenKind) → stops kind ≡ true → separates kind ≡ false
stop_separates = stop_is (λ kind. separates kind ≡ false) refl refl refl refl refl refl

pub stop_opens : (kind : TokenKind) → stops kind ≡ true → opens kind ≡ false
stop_opens = stop_is (λ kind. opens kind ≡ false) refl refl refl refl refl refl

-- nothing goes on where an expression ends
pub levels_done : (c : ℕ) (p : Reader SurfaceTree) (level : ℕ) (us : List Terminal) (x : SurfaceTree) (rest : List Terminal) → p us ≡ Ok (x, rest) → May stops rest → levels c p level us ≡ Ok (x, rest)
unfolding levels
levels_done c p zero us x rest e h = e
levels_done c p (suc level) us x rest e h =
    ap (λ r. r >>= λ left. chain (levels c p level) level c left.0 left.1) (levels_done c p level us x rest e h)
    ∙ chain_none (levels c p level) level c x rest (not_linked (suc level) rest h)

-- no step follows where an expression ends
pub steps_done : (c n : ℕ) (operand whole : Reader SurfaceTree) (source : SurfaceTree) (rest : List Terminal) → May stops rest → step_list n operand whole c source rest ≡ Ok (source, rest)
steps_done c n operand whole source rest h = steps_none n operand whole c source rest (may_not stops steps_on stop_steps rest h)

-- an operand without steps, where an expression ends after it
pub post_done : (c n : ℕ) (operand whole : Reader SurfaceTree) (us : List Terminal) (x : SurfaceTree) (rest : List Terminal) → prim operand whole us ≡ Ok (x, rest) → May stops rest → post c n operand whole us ≡ Ok (x, rest)
unfolding post
post_done c n operand whole us x rest e h = ap (λ r. r >>= λ y. step_list n operand whole c y.0 y.1) e ∙ steps_done c n operand whole x rest h

-- an operand alone is an expression, where one ends after it and it begins with no `let`
pub plain_expr : (c n : ℕ) (t : Terminal) (us : List Terminal) (x : SurfaceTree) (rest : List Terminal) → (t.kind ≡ k.Let → ⊥) → unary c (suc n) (t ∷ us) ≡ Ok (x, rest) → May stops rest → expr c (suc n) (t ∷ us) ≡ Ok (x, rest)
plain_expr c n t us x rest not_let e h = expr_plain c (suc n) (t ∷ us) t us (λ z. cc (z)) refl not_let ∙ levels_done c (unary c (suc n)) top (t ∷ us) x rest e h

module _ (c n : ℕ) where
  -- the number 0 is an operand, an operand of each level, and an expression
  pub number_unary : (rest : List Terminal) → May stops rest → unary c (suc n) (zero_token ∷ rest) ≡ Ok (Number 0 0, rest)
  unfolding unary unary_over prim
  number_unary rest h = post_done c n (level_of c n top) (expr c n) (zero_token ∷ rest) (Number 0 0) rest refl h

  pub number_level : (rest : List Terminal) → May stops rest → level_of c (suc n) top (zero_token ∷ rest) ≡ Ok (Number 0 0, rest)
  number_level rest h = levels_done c (unary c (suc n)) top (zero_token ∷ rest) (Number 0 0) rest (number_unary rest h) h

  pub number_expr : (rest : List Terminal) → May stops rest → expr c (suc n) (zero_token ∷ rest) ≡ Ok (Number 0 0, rest)
  number_expr rest h = plain_expr c n zero_token rest (Number 0 0) rest (λ e. cc (e)) (number_unary rest h) h

  -- a name is an operand, and an expression
  pub name_prim : (at : ℕ) (text : List ℕ) (rest : List Terminal) → May stops rest → prim (level_of c n top) (expr c n) (token k.Identifier at text ∷ rest) ≡ Ok (Name text at, rest)
  unfolding prim p.name_or_literal
  name_prim at text rest h = rw (may_not stops qualifies stop_qualifies rest h) refl

  pub name_expr : (at : ℕ) (text : List ℕ) (rest : List Terminal) → May stops rest → expr c (suc n) (token k.Identifier at text ∷ rest) ≡ Ok (Name text at, rest)
  unfolding unary unary_over
  name_expr at text rest h = plain_expr c n (token k.Identifier at text) rest (Name text at) rest (λ e. cc (e)) (post_done c n (level_of c n top) (expr c n) (token k.Identifier at text ∷ rest) (Name text at) rest (name_prim at text rest h) h) h

-- what completes an operand after its first token
module _ (c n : ℕ) where
  abbrev inner_prim : List Terminal → Reading SurfaceTree
  inner_prim = prim (level_of c (suc n) top) (expr c (suc n))

  prim_unary : (t : Terminal) (us : List Terminal) (x : SurfaceTree) (rest : List Terminal) → unary c (suc (suc n)) (t ∷ us) ≡ post c (suc n) (level_of c (suc n) top) (expr c (suc n)) (t ∷ us) → inner_prim (t ∷ us) ≡ Ok (x, rest) → May stops rest → unary c (suc (suc n)) (t ∷ us) ≡ Ok (x, rest)
  prim_unary t us x rest is e h = is ∙ post_done c (suc n) (level_of c (suc n) top) (expr c (suc n)) (t ∷ us) x rest e h

  abbrev with_parentheses : List Terminal
  with_parentheses = zero_token ∷ mark_word m.Close ∷ []

  abbrev with_branches : List Terminal
  with_branches = zero_token ∷ mark_word m.Then ∷ zero_token ∷ mark_word m.Else ∷ zero_token ∷ mark_word m.Endif ∷ []

  -- each token that begins an operand can be completed to one
  pub opened_unary : (t : Terminal) → begins t.kind ≡ true → Opens (unary c (suc (suc n))) (May stops) t
  unfolding unary unary_over prim expect if_expression
  opened_unary t h = by t.kind t.offset t.text h
    where
      by : (kind : TokenKind) (at : ℕ) (text : List ℕ) → begins kind ≡ true → Opens (unary c (suc (suc n))) (May stops) (token kind at text)
      by (k.Number v) at text h = (Number v at, [], λ rest g. prim_unary (token (k.Number v) at text) rest _ rest refl refl g)
      by k.Identifier at text h = (Name text at, [], λ rest g. prim_unary (token k.Identifier at text) rest _ rest refl (name_prim c (suc n) at text rest g) g)
      by k.String at text h = (String (string_value text) at, [], λ rest g. prim_unary (token k.String at text) rest _ rest refl refl g)
      by k.True at text h = (Keyword key.True at, [], λ rest g. prim_unary (token k.True at text) rest _ rest refl refl g)
      by k.False at text h = (Keyword key.False at, [], λ rest g. prim_unary (token k.False at text) rest _ rest refl refl g)
      by k.Null at text h = (Keyword key.Null at, [], λ rest g. prim_unary (token k.Null at text) rest _ rest refl refl g)
      by k.Invalid at text h = (Keyword key.Invalid at, [], λ rest g. prim_unary (token k.Invalid at text) rest _ rest refl refl g)
      by k.SelfObject at text h = (Keyword key.SelfObject at, [], λ rest g. prim_unary (token k.SelfObject at text) rest _ rest refl refl g)
      by k.Minus at text h = (Prefix Negate (Number 0 0) at, zero_token ∷ [], λ rest g. ap (λ r. r >>= λ x. Ok (Prefix Negate x.0 at, x.1)) (number_unary c n rest g))
      by k.Not at text h = (Prefix Not (Number 0 0) at, zero_token ∷ [], λ rest g. ap (λ r. r >>= λ x. Ok (Prefix Not x.0 at, x.1)) (number_unary c n rest g))
      by k.Open at text h = (
        Number 0 0,
        with_parentheses,
        λ rest g. prim_unary (token k.Open at text) (with_parentheses ++ rest) _ rest refl
            (ap (λ r. r >>= λ x. expect m.Close x.1 >>= λ rest. Ok (x.0, rest)) (number_expr c n (mark_word m.Close ∷ rest) refl)) g,
      )
      by k.If at text h = (
        If (Number 0 0) (Number 0 0) (Number 0 0) at,
        with_branches,
        λ rest g. prim_unary (token k.If at text) (with_branches ++ rest) _ rest refl
            (ap (λ r. r >>= λ x. expect m.Then x.1 >>= expr c (suc n) >>= λ y. expect m.Else y.1 >>= expr c (suc n) >>= λ z. expect m.Endif z.1 >>= λ rest. Ok (If x.0 y.0 z.0 at, rest)) (number_level c n (mark_word m.Then ∷ zero_token ∷ mark_word m.Else ∷ zero_token ∷ mark_word m.Endif ∷ rest) refl)
            ∙ ap (λ r. r >>= λ y. expect m.Else y.1 >>= expr c (suc n) >>= λ z. expect m.Endif z.1 >>= λ rest. Ok (If (Number 0 0) y.0 z.0 at, rest)) (number_expr c n (mark_word m.Else ∷ zero_token ∷ mark_word m.Endif ∷ rest) refl)
            ∙ ap (λ r. r >>= λ z. expect m.Endif z.1 >>= λ rest. Ok (If (Number 0 0) (Number 0 0) z.0 at, rest)) (number_expr c n (mark_word m.Endif ∷ rest) refl)) g,
      )
      by _ at text h = absurd (cc)

-- `a : A = 0 in 0`, after a `let`
abbrev pub after_let_name : List Terminal
after_let_name = mark_word m.Colon ∷ name_word ∷ mark_word m.Equal ∷ zero_token ∷ mark_word m.In ∷ zero_token ∷ []

abbrev the_bound : List ℕ × ℕ → SurfaceTree × List Terminal → Reading Bound
the_bound name x = Ok (binding name (t.Named [] 0) x.0, x.1)

abbrev the_bounds : Reader Bound → ℕ → Bound × List Terminal → Reading (List Bound)
the_bounds item turns x = if next_is separates x.1 then items item turns ([] ++ x.0 ∷ []) (drop 1 x.1) else Ok ([] ++ x.0 ∷ [], x.1)

module _ (c n l : ℕ) where
  -- a name with those tokens after it, after `let`, is read as a `let` of one variable
  pub let_done : (place at : ℕ) (text : List ℕ) (rest : List Terminal) → May stops rest
      → let_expression (suc l) (level_of c (suc n) top) (expr c (suc n)) place (token k.Identifier at text ∷ (after_let_name ++ rest)) ≡ Ok (lets_at place (binding (text, at) (t.Named [] 0) (Number 0 0) ∷ []) (Number 0 0), rest)
  unfolding let_expression items a_bind placed_name expect p.a_type p.type_over
  let_done place at text rest h =
      ap (λ r. r >>= the_bound (text, at) >>= the_bounds (a_bind (suc l) (level_of c (suc n) top)) (length (after_let_name ++ rest)) >>= λ x. expect m.In x.1 >>= expr c (suc n) >>= λ y. Ok (lets_at place x.0 y.0, y.1)) (number_level c n (mark_word m.In ∷ zero_token ∷ rest) refl)
      ∙ ap (λ r. r >>= λ y. Ok (lets_at place (binding (text, at) (t.Named [] 0) (Number 0 0) ∷ []) y.0, y.1)) (number_expr c n rest h)
