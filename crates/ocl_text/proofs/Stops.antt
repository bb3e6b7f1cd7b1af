-- Where each part of an expression stops, it can be completed under wider limits.
use Rattle.std.proofs.Common.{◌≡◌, ℕ, zero, suc, List, [], ◌∷◌, drop, Some, None, Ok, Err, refl, Bool, true, false}
use Rattle.std.specs.Prelude.{if◌then◌else◌}
use Rattle.ocl_tokens.specs.declared.token.TokenKind.{TokenKind}
use Rattle.ocl_tokens.specs.declared.token.TokenKind.TheVariants as k
use Rattle.ocl_base.specs.Steps.{◌>>=◌}
use Rattle.ocl_text.specs.declared.cursor.Mark.{Mark}
use Rattle.ocl_text.specs.declared.cursor.Mark.TheVariants as m
use Rattle.ocl_tokens.specs.Terminals.{Terminal}
use Rattle.ocl_text.specs.Tree as t
use Rattle.ocl_text.specs.Tree.{TypeTree, VariableTree, Variables, Unnamed, Single, Pair, SurfaceTree, Number}
use Rattle.ocl_text.specs.declared.cursor.VariableLimit.{VariableLimit}
use Rattle.ocl_text.specs.declared.cursor.VariableLimit.TheVariants.{OneVariable, TwoVariables}
use Rattle.ocl_text.specs.Grammar.{is_mark, token, next_is, Next, is_identifier_kind, opens, separates, declares}
use Rattle.ocl_text.specs.Parse as p
use Rattle.ocl_text.specs.Parse.{TokensFault, syntax, too_deep, Reading, Reader, too_deep_at, expect, identifier, variables_by, has_second}
use Rattle.ocl_text.proofs.Sound.{mark_kind, mark_is}
use Rattle.ocl_text.proofs.Wider.{deeper}
use Rattle.ocl_text.proofs.Shut.{type_shut}
use Rattle.ocl_text.proofs.Prefixes.{Completes, Sees, Opens, Any, bind, skip, pass, stuck, blocked, sees_expect, sees_identifier, either}

-- ---- what may follow

-- the next token is of this sort, or there is none
abbrev pub May : (TokenKind → Bool) → List Terminal → Type 0
May test [] = Unit {0}
May test (t ∷ ts) = test t.kind ≡ true

-- what ends an expression
abbrev pub stops : TokenKind → Bool
stops k.Close = true
stops k.Bar = true
stops k.In = true
stops k.Then = true
stops k.Else = true
stops k.Endif = true
stops _ = false

-- what ends a type
abbrev pub stops_type : TokenKind → Bool
stops_type k.Close = true
stops_type k.Equal = true
stops_type k.Bar = true
stops_type k.Semicolon = true
stops_type _ = false

-- what holds of each token that ends an expression holds of this one
pub stop_is : (P : TokenKind → Type 0) → P k.Close → P k.Bar → P k.In → P k.Then → P k.Else → P k.Endif → (kind : TokenKind) → stops kind ≡ true → P kind
stop_is P a b c d e f k.Close h = a
stop_is P a b c d e f k.Bar h = b
stop_is P a b c d e f k.In h = c
stop_is P a b c d e f k.Then h = d
stop_is P a b c d e f k.Else h = e
stop_is P a b c d e f k.Endif h = f
stop_is P a b c d e f (k.Number v) h = absurd (cc)
stop_is P a b c d e f _ h = absurd (cc)

type_stop_opens : (kind : TokenKind) → stops_type kind ≡ true → opens kind ≡ false
type_stop_opens k.Close h = refl
type_stop_opens k.Equal h = refl
type_stop_opens k.Bar h = refl
type_stop_opens k.Semicolon h = refl
type_stop_opens (k.Number v) h = absurd (cc)
type_stop_opens _ h = absurd (cc)

-- where a token of one sort is next, none of a sort that is apart from it is next
pub next_not : (test other : TokenKind → Bool) → ((kind : TokenKind) → test kind ≡ true → other kind ≡ false) → (us : List Terminal) → Next test us → next_is other us ≡ false
next_not test other h [] g = refl
next_not test other h (t ∷ ts) g = h t.kind g

-- the same, where nothing or a token of that sort is next
pub may_not : (test other : TokenKind → Bool) → ((kind : TokenKind) → test kind ≡ true → other kind ≡ false) → (us : List Terminal) → May test us → next_is other us ≡ false
may_not test other h [] g = refl
may_not test other h (t ∷ ts) g = h t.kind g

-- this mark may follow
pub mark_next : (mark : Mark) (test : TokenKind → Bool) → test (mark_kind mark) ≡ true → (us : List Terminal) → Next (is_mark mark) us → Next test us
mark_next mark test h [] g = absurd (cc)
mark_next mark test h (t ∷ us) g = rw (mark_is mark t.kind g) h

-- the same, where nothing may follow either
pub mark_may : (mark : Mark) (test : TokenKind → Bool) → test (mark_kind mark) ≡ true → (us : List Terminal) → Next (is_mark mark) us → May test us
mark_may mark test h [] g = tt
mark_may mark test h (t ∷ us) g = rw (mark_is mark t.kind g) h

-- a mark is next, and so no token of a sort that it doesn't belong to
pub mark_not : (mark : Mark) (test : TokenKind → Bool) → test (mark_kind mark) ≡ false → (us : List Terminal) → Next (is_mark mark) us → next_is test us ≡ false
mark_not mark test h [] g = refl
mark_not mark test h (t ∷ us) g = rw (mark_is mark t.kind g) h

-- where nothing may begin any more
pub sees_shut : {A : Type 0} (test : TokenKind → Bool) (p' : Reader A) (F S : List Terminal → Type 0) → ((us : List Terminal) → next_is test us ≡ false → p' us ≡ Err (syntax us)) → Completes p' F S [] → ((t : Terminal) → test t.kind ≡ true → Opens p' F t) → (ts : List Terminal) → Sees (too_deep_at test) p' F S ts
unfolding too_deep_at
sees_shut test p' F S shut default opened [] = stuck (too_deep_at test) p' F S [] (λ us is. rw is refl) (λ us is. rw is (shut [] refl)) default
sees_shut {A} test p' F S shut default opened (t ∷ us) = by (test t.kind) refl
  where
    by : (b : Bool) → test t.kind ≡ b → Sees (too_deep_at test) p' F S (t ∷ us)
    by true e = blocked (too_deep_at test) p' F S t us (λ vs. rw e refl) (opened t e)
    by false e = stuck (too_deep_at test) p' F S (t ∷ us) (λ vs (more, is). rw is (rw e refl)) (λ vs (more, is). rw is (shut (t ∷ more) e)) default

-- ---- types and variables

plain_type : (n at : ℕ) (text : List ℕ) (rest : List Terminal) → Next stops_type rest → p.a_type (suc n) (token k.Identifier at text ∷ rest) ≡ Ok (t.Named text at, rest)
unfolding p.a_type p.type_over
plain_type n at text rest h = rw (next_not stops_type opens type_stop_opens rest h) refl

type_default : (n : ℕ) → Completes (p.a_type (suc n)) (Next stops_type) (Next is_identifier_kind) []
type_default n = (t.Named [] 0, token k.Identifier 0 [] ∷ [], λ rest h. (refl, plain_type n 0 [] rest h))

type_opened : (n : ℕ) (u : Terminal) → is_identifier_kind u.kind ≡ true → Opens (p.a_type (suc n)) (Next stops_type) u
type_opened n u h = by u.kind h
  where
    by : (kind : TokenKind) → is_identifier_kind kind ≡ true → Opens (p.a_type (suc n)) (Next stops_type) (token kind u.offset u.text)
    by k.Identifier h = (t.Named u.text u.offset, [], λ rest g. plain_type n u.offset u.text rest g)
    by (k.Number v) h = absurd (cc)
    by _ h = absurd (cc)

abbrev closed_type : List ℕ → ℕ → TypeTree → Reader TypeTree
closed_type text at inner us = expect m.Close us >>= λ rest. Ok (t.Collection text inner at, rest)

abbrev type_after : List ℕ → ℕ → Reader TypeTree → Reader TypeTree
type_after text at below us = if next_is opens us then (below (drop 1 us) >>= λ x. closed_type text at x.0 x.1) else Ok (t.Named text at, us)

abbrev pub declared_after : List ℕ → Reader TypeTree → Reader VariableTree
declared_after text below us = if next_is declares us then (below (drop 1 us) >>= λ s. Ok ((text, Some s.0), s.1)) else Ok ((text, None), us)

abbrev second_after : VariableTree → VariableTree → Reader (Variables)
second_after v w us = expect m.Bar us >>= λ rest. Ok (Pair v w, rest)

module _ (a : ℕ) where
  type_named : (below below' : Reader TypeTree) → ((ts : List Terminal) → Sees below below' (Next stops_type) (Next is_identifier_kind) ts) → (at : ℕ) (text : List ℕ) (ts : List Terminal) → Sees (type_after text at below) (type_after text at below') (Next stops_type) (Next stops_type) ts
  type_named below below' h at text ts =
      either opens _ _ _ _ (Next stops_type) (Next is_identifier_kind) (Next stops_type) ts
      (λ u us is. bind below below' (closed_type text at) (closed_type text at) (Next stops_type) (Next stops_type) (Next (is_mark m.Close)) (Next is_identifier_kind) us (mark_next m.Close stops_type refl) (h us)
      (λ inner rest. sees_expect m.Close _ _ (Next stops_type) (Next stops_type) (λ vs. pass (t.Collection text inner at) (Next stops_type) vs) rest))
      (pass (t.Named text at) (Next stops_type) ts)
      (next_not stops_type opens type_stop_opens)

  -- where a type stops, it can be completed under wider limits
  pub sees_type : (n : ℕ) (ts : List Terminal) → Sees (p.a_type n) (p.a_type (deeper a n)) (Next stops_type) (Next is_identifier_kind) ts
  unfolding p.a_type p.type_over
  sees_type zero ts = sees_shut is_identifier_kind (p.a_type (suc (suc (suc a)))) (Next stops_type) (Next is_identifier_kind) (type_shut (suc (suc (suc a)))) (type_default (suc (suc a))) (type_opened (suc (suc a))) ts
  sees_type (suc n) [] = stuck (p.a_type (suc n)) (p.a_type (suc (deeper a n))) (Next stops_type) (Next is_identifier_kind) [] (λ us is. rw is refl) (λ us is. rw is refl) (type_default _)
  sees_type (suc n) (u ∷ ts) = by u.kind (type_named (p.a_type n) (p.a_type (deeper a n)) (sees_type n) u.offset u.text ts)
    where
      refused : (kind : TokenKind) → ((l : ℕ) (vs : List Terminal) → p.a_type (suc l) (token kind u.offset u.text ∷ vs) ≡ Err (syntax (token kind u.offset u.text ∷ vs))) → Sees (p.a_type (suc n)) (p.a_type (suc (deeper a n))) (Next stops_type) (Next is_identifier_kind) (token kind u.offset u.text ∷ ts)
      refused kind e = stuck (p.a_type (suc n)) (p.a_type (suc (deeper a n))) (Next stops_type) (Next is_identifier_kind) _ (λ us (more, is). rw is (e n more)) (λ us (more, is). rw is (e (deeper a n) more)) (type_default _)

      by : (kind : TokenKind) → Sees (type_after u.text u.offset (p.a_type n)) (type_after u.text u.offset (p.a_type (deeper a n))) (Next stops_type) (Next stops_type) ts → Sees (p.a_type (suc n)) (p.a_type (suc (deeper a n))) (Next stops_type) (Next is_identifier_kind) (token kind u.offset u.text ∷ ts)
      by k.Identifier s = skip (token k.Identifier u.offset u.text) ts _ _ _ _ (Next stops_type) (Next stops_type) _ (λ vs. refl) (λ vs. refl) s
      by (k.Number v) s = refused (k.Number v) (λ l vs. refl)
      by _ s = refused _ (λ l vs. refl)

  -- this mark follows the variable
  module _ (mark : Mark) (ends : stops_type (mark_kind mark) ≡ true) (apart : declares (mark_kind mark) ≡ false) where
    -- where the type that a variable may have stops, it can be completed under wider limits
    pub sees_declared : (n : ℕ) (text : List ℕ) (ts : List Terminal) → Sees (declared_after text (p.a_type n)) (declared_after text (p.a_type (deeper a n))) (Next (is_mark mark)) (Next (is_mark mark)) ts
    sees_declared n text ts =
        either declares _ _ _ _ (Next (is_mark mark)) (Next is_identifier_kind) (Next (is_mark mark)) ts
        (λ u us is. bind (p.a_type n) (p.a_type (deeper a n)) (λ s vs. Ok ((text, Some s), vs)) (λ s vs. Ok ((text, Some s), vs)) (Next stops_type) (Next (is_mark mark)) (Next (is_mark mark)) (Next is_identifier_kind) us (mark_next mark stops_type ends) (sees_type n us)
        (λ s vs. pass (text, Some s) (Next (is_mark mark)) vs))
        (pass (text, None) (Next (is_mark mark)) ts)
        (mark_not mark declares apart)

    -- where a variable stops, it can be completed under wider limits
    pub sees_variable : (n : ℕ) (ts : List Terminal) → Sees (p.a_variable n) (p.a_variable (deeper a n)) (Next (is_mark mark)) (Next is_identifier_kind) ts
    unfolding p.a_variable
    sees_variable n ts =
        bind identifier identifier (λ text. declared_after text (p.a_type n)) (λ text. declared_after text (p.a_type (deeper a n))) Any (Next (is_mark mark)) (Next (is_mark mark)) (Next is_identifier_kind) ts (λ us h. tt) (sees_identifier ts)
        (λ text rest. sees_declared n text rest)

  -- where the second variable of an iteration stops, or is left out, it can be completed under wider limits
  pub sees_variables_by : (n : ℕ) (limit : VariableLimit) (v : VariableTree) (ts : List Terminal) → Sees (variables_by n limit v) (variables_by (deeper a n) limit v) Any (Next (is_mark m.Bar)) ts
  unfolding variables_by
  sees_variables_by n OneVariable v ts = sees_expect m.Bar _ _ Any Any (λ vs. pass (Single v) Any vs) ts
  sees_variables_by n TwoVariables v ts =
      either separates _ _ _ _ Any (Next is_identifier_kind) (Next (is_mark m.Bar)) ts
      (λ u us is. bind (p.a_variable n) (p.a_variable (deeper a n)) (second_after v) (second_after v) (Next (is_mark m.Bar)) Any (Next (is_mark m.Bar)) (Next is_identifier_kind) us (λ vs h. h) (sees_variable m.Bar refl refl n us)
      (λ w rest. sees_expect m.Bar _ _ Any Any (λ vs. pass (Pair v w) Any vs) rest))
      (sees_expect m.Bar _ _ Any Any (λ vs. pass (Single v) Any vs) ts)
      (mark_not m.Bar separates refl)
