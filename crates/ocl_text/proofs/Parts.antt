-- Where a part of an expression stops, it can be completed under wider limits.
use Rattle.std.proofs.Common.{◌≡◌, ℕ, zero, suc, List, [], ◌∷◌, ◌++◌, length, drop, Option, Some, None, Ok, Err, refl, ap, ◌∙◌, Bool, true, false, inl, inr, ◌⊎◌}
use Rattle.std.specs.Prelude.{if◌then◌else◌}
use Rattle.std.proofs.lemmas.List.{append_assoc}
use Rattle.ocl_tokens.specs.declared.token.TokenKind.{TokenKind}
use Rattle.ocl_tokens.specs.declared.token.TokenKind.TheVariants as k
use Rattle.ocl_base.specs.Steps.{◌>>=◌}
use Rattle.ocl_text.specs.declared.cursor.Mark.TheVariants as m
use Rattle.ocl_text.specs.declared.tree.BinaryOperator.{BinaryOperator}
use Rattle.ocl_text.specs.declared.tree.Keyword.TheVariants as key
use Rattle.ocl_text.specs.declared.tree.Navigation.{Navigation}
use Rattle.ocl_text.specs.declared.tree.Navigation.TheVariants.{Dot}
use Rattle.ocl_tokens.specs.Terminals.{Terminal}
use Rattle.ocl_text.specs.Strings.{string_value}
use Rattle.ocl_text.specs.Tree.{TypeTree, Bound, SurfaceTree, Number, String, Keyword, Name, EnumerationLiteral, Property, Binary, Call, If, trees_of, binding}
use Rattle.ocl_text.specs.RuleText.{Agrees}
use Rattle.ocl_text.specs.Grammar.{is_mark, token, operator, next_is, Next, is_identifier_kind, opens, closes, separates, qualifies}
use Rattle.ocl_text.specs.Parse as p
use Rattle.ocl_text.specs.Parse.{TokensFault, syntax, too_deep, Reading, Reader, begins, begins_argument, expect, identifier, link, link_by, on_link, chain, levels, step_list, one_step, items, arguments_in, arguments, operation_call, called, a_bind, if_expression, prim, placed_name}
use Rattle.ocl_text.proofs.Turns.{chain_none, chain_deep}
use Rattle.ocl_text.proofs.Wider.{deeper, longer}
use Rattle.ocl_text.proofs.Shut.{argument_shut}
use Rattle.ocl_text.proofs.Prefixes.{Sees, Opens, Any, bind, default_of, sees_as, skip, pass, stuck, blocked, adapt, sees_expect, sees_identifier, sees_placed_name, either}
use Rattle.ocl_text.proofs.Stops.{May, stops, stops_type, next_not, may_not, mark_next, mark_may, sees_shut, sees_type}
use Rattle.ocl_text.proofs.Spelled.{zero_token, mark_word, not_linked, stop_qualifies, stop_opens}
use Rattle.ocl_text.proofs.Lists.{Shortens, listed, sees_listed}

-- what the shortest completion of an expression begins with
abbrev pub counts : TokenKind → Bool
counts (k.Number v) = true
counts _ = false

count_closes : (kind : TokenKind) → counts kind ≡ true → closes kind ≡ false
count_closes k.Close h = absurd (cc)
count_closes (k.Number v) h = refl
count_closes _ h = refl

-- ---- chains of operators

module _ (b level : ℕ) (operand operand' : Reader SurfaceTree) (sees : (ts : List Terminal) → Sees operand operand' (May stops) (Next counts) ts) where
  no_operator_here : (c : ℕ) (left : SurfaceTree) (ts : List Terminal) → ((us : List Terminal) → Agrees ts us → link (suc level) us ≡ None) → Sees (chain operand level c left) (chain operand' level (longer b c) left) (May stops) (May stops) ts
  no_operator_here c left ts h =
      sees_as _ _ (λ us. Ok (left, us)) (λ us. Ok (left, us)) (May stops) (May stops) ts
      (λ us w. chain_none operand level c left us (none us w)) (λ us w. chain_none operand' level (longer b c) left us (none us w)) (pass left (May stops) ts)
    where
      none : (us : List Terminal) → Agrees ts us ⊎ May stops us → link (suc level) us ≡ None
      none us (inl a) = h us a
      none us (inr s) = not_linked (suc level) us s

  abbrev linked_on : Reader SurfaceTree → ℕ → SurfaceTree → BinaryOperator → ℕ → Reader SurfaceTree
  linked_on p c left op at us = p us >>= λ right. chain p level c (Binary op left right.0 at) right.1

  is_linked : (t : Terminal) (op : BinaryOperator) → operator (suc level) t.kind ≡ Some op → (us : List Terminal) → link (suc level) (t ∷ us) ≡ Some (op, t.offset, us)
  unfolding link
  is_linked t op e us = ap (λ o. link_by o t.offset us) e

  goes_on : (p : Reader SurfaceTree) (c : ℕ) (left : SurfaceTree) (t : Terminal) (op : BinaryOperator) → operator (suc level) t.kind ≡ Some op → (us : List Terminal) → chain p level (suc c) left (t ∷ us) ≡ linked_on p c left op t.offset us
  unfolding chain
  goes_on p c left t op e us = ap (λ o. on_link o (Ok (left, t ∷ us)) (λ l. p l.2 >>= λ right. chain p level c (Binary l.0 left right.0 l.1) right.1)) (is_linked t op e us)

  too_long : (left : SurfaceTree) (t : Terminal) (op : BinaryOperator) → operator (suc level) t.kind ≡ Some op → Opens (chain operand' level (suc b) left) (May stops) t
  too_long left t op e =
      let (x, more, h) = default_of operand operand' (May stops) (Next counts) (sees []) in
      (Binary op left x t.offset, more, λ rest g. goes_on operand' b left t op e (more ++ rest) ∙ ap (λ r. r >>= λ right. chain operand' level b (Binary op left right.0 t.offset) right.1) (h rest g).1 ∙ chain_none operand' level b (Binary op left x t.offset) rest (not_linked (suc level) rest g))

  -- where a chain of operators of one level stops, it can be completed under wider limits
  pub sees_chain : (c : ℕ) (left : SurfaceTree) (ts : List Terminal) → Sees (chain operand level c left) (chain operand' level (longer b c) left) (May stops) (May stops) ts
  unfolding link
  sees_chain c left [] = no_operator_here c left [] (λ us is. rw is refl)
  sees_chain zero left (t ∷ ts) = by (operator (suc level) t.kind) refl
    where
      by : (o : Option BinaryOperator) → operator (suc level) t.kind ≡ o → Sees (chain operand level zero left) (chain operand' level (suc b) left) (May stops) (May stops) (t ∷ ts)
      by None e = no_operator_here zero left (t ∷ ts) (λ us (more, is). rw is (ap (λ o. link_by o t.offset more) e))
      by (Some op) e = blocked _ _ (May stops) (May stops) t ts (λ us. chain_deep operand level zero left (t ∷ us) (op, t.offset, us) (is_linked t op e us) refl) (too_long left t op e)
  sees_chain (suc c) left (t ∷ ts) = by (operator (suc level) t.kind) refl (sees_chain c)
    where
      by : (o : Option BinaryOperator) → operator (suc level) t.kind ≡ o → ((left : SurfaceTree) (ts : List Terminal) → Sees (chain operand level c left) (chain operand' level (longer b c) left) (May stops) (May stops) ts)
          → Sees (chain operand level (suc c) left) (chain operand' level (suc (longer b c)) left) (May stops) (May stops) (t ∷ ts)
      by None e more = no_operator_here (suc c) left (t ∷ ts) (λ us (more, is). rw is (ap (λ o. link_by o t.offset more) e))
      by (Some op) e more = skip t ts _ _ (linked_on operand c left op t.offset) (linked_on operand' (longer b c) left op t.offset) (May stops) (Next counts) (May stops) (goes_on operand c left t op e) (goes_on operand' (longer b c) left t op e)
          (bind operand operand' (λ right. chain operand level c (Binary op left right t.offset)) (λ right. chain operand' level (longer b c) (Binary op left right t.offset)) (May stops) (May stops) (May stops) (Next counts) ts (λ us g. g) (sees ts)
          (λ right rest. more (Binary op left right t.offset) rest))

module _ (b c : ℕ) (p p' : Reader SurfaceTree) where
  -- where an operand with its operators, up to any level, stops, it can be completed under wider limits
  pub sees_levels : ((ts : List Terminal) → Sees p p' (May stops) (Next counts) ts) → (level : ℕ) (ts : List Terminal) → Sees (levels c p level) (levels (longer b c) p' level) (May stops) (Next counts) ts
  unfolding levels
  sees_levels sees zero ts = sees ts
  sees_levels sees (suc level) ts =
      bind (levels c p level) (levels (longer b c) p' level) (chain (levels c p level) level c) (chain (levels (longer b c) p' level) level (longer b c)) (May stops) (May stops) (May stops) (Next counts) ts (λ us g. g) (sees_levels sees level ts)
      (λ left rest. sees_chain b level (levels c p level) (levels (longer b c) p' level) (sees_levels sees level) c left rest)

  -- after a first token that is a name
  pub sees_levels_after : (t : Terminal) → ((ts : List Terminal) → Sees p p' (May stops) (Next counts) ts) → ((us : List Terminal) → Sees (λ vs. p (t ∷ vs)) (λ vs. p' (t ∷ vs)) (May stops) (May stops) us)
      → (level : ℕ) (us : List Terminal) → Sees (λ vs. levels c p level (t ∷ vs)) (λ vs. levels (longer b c) p' level (t ∷ vs)) (May stops) (May stops) us
  unfolding levels
  sees_levels_after t sees first zero us = first us
  sees_levels_after t sees first (suc level) us =
      bind (λ vs. levels c p level (t ∷ vs)) (λ vs. levels (longer b c) p' level (t ∷ vs)) (chain (levels c p level) level c) (chain (levels (longer b c) p' level) level (longer b c)) (May stops) (May stops) (May stops) (May stops) us (λ vs g. g) (sees_levels_after t sees first level us)
      (λ left rest. sees_chain b level (levels c p level) (levels (longer b c) p' level) (sees_levels sees level) c left rest)

-- ---- single operands

-- where a name or a literal of an enumeration stops, it can be completed
pub sees_named : (text : List ℕ) (at : ℕ) (ts : List Terminal) → Sees (p.name_or_literal text at) (p.name_or_literal text at) (May stops) (May stops) ts
unfolding p.name_or_literal
sees_named text at ts =
    either qualifies _ _ _ _ (May stops) (Next is_identifier_kind) (May stops) ts
    (λ u us is. bind identifier identifier (λ second vs. Ok (EnumerationLiteral text second at, vs)) (λ second vs. Ok (EnumerationLiteral text second at, vs)) Any (May stops) (May stops) (Next is_identifier_kind) us (λ vs g. tt) (sees_identifier us) (λ second vs. pass (EnumerationLiteral text second at) (May stops) vs))
    (pass (Name text at) (May stops) ts)
    (may_not stops qualifies stop_qualifies)

module _ (whole : Reader SurfaceTree) (at : ℕ) where
  abbrev after_other : SurfaceTree → SurfaceTree → SurfaceTree → Reader SurfaceTree
  after_other x y z us = expect m.Endif us >>= λ rest. Ok (If x y z at, rest)

  abbrev after_chosen : SurfaceTree → SurfaceTree → Reader SurfaceTree
  after_chosen x y us = expect m.Else us >>= whole >>= λ z. after_other x y z.0 z.1

  abbrev after_condition : SurfaceTree → Reader SurfaceTree
  after_condition x us = expect m.Then us >>= whole >>= λ y. after_chosen x y.0 y.1

-- ---- what stands inside a construct

module _ (operand operand' whole whole' : Reader SurfaceTree) (sees : (ts : List Terminal) → Sees operand operand' (May stops) (Next counts) ts) (sees_whole : (ts : List Terminal) → Sees whole whole' (May stops) (Next counts) ts) where
  -- where an `if` stops, it can be completed
  pub sees_conditional : (at : ℕ) (ts : List Terminal) → Sees (if_expression operand whole at) (if_expression operand' whole' at) (May stops) (Next counts) ts
  unfolding if_expression
  sees_conditional at ts =
      bind operand operand' (after_condition whole at) (after_condition whole' at) (May stops) (May stops) (Next (is_mark m.Then)) (Next counts) ts (mark_may m.Then stops refl) (sees ts)
      (λ x us. bind (λ vs. expect m.Then vs >>= whole) (λ vs. expect m.Then vs >>= whole') (after_chosen whole at x) (after_chosen whole' at x) (May stops) (May stops) (Next (is_mark m.Else)) (Next (is_mark m.Then)) us (mark_may m.Else stops refl)
      (sees_expect m.Then whole whole' (May stops) (Next counts) sees_whole us)
      (λ y vs. bind (λ ws. expect m.Else ws >>= whole) (λ ws. expect m.Else ws >>= whole') (after_other whole at x y) (after_other whole' at x y) (May stops) (May stops) (Next (is_mark m.Endif)) (Next (is_mark m.Else)) vs (mark_may m.Endif stops refl)
      (sees_expect m.Else whole whole' (May stops) (Next counts) sees_whole vs)
      (λ z ws. sees_expect m.Endif _ _ (May stops) (May stops) (λ rest. pass (If x y z at) (May stops) rest) ws)))

  abbrev in_parentheses : SurfaceTree → Reader SurfaceTree
  in_parentheses x us = expect m.Close us >>= λ rest. Ok (x, rest)

  abbrev SeesPrim : List Terminal → Type 0
  SeesPrim ts = Sees (prim operand whole) (prim operand' whole') (May stops) (Next counts) ts

  -- where an operand without prefixes and steps stops, it can be completed
  pub sees_prim : (ts : List Terminal) → Sees (prim operand whole) (prim operand' whole') (May stops) (Next counts) ts
  unfolding prim
  sees_prim [] = stuck (prim operand whole) (prim operand' whole') (May stops) (Next counts) [] (λ us is. rw is refl) (λ us is. rw is refl) (Number 0 0, zero_token ∷ [], λ rest g. (refl, refl))
  sees_prim (t ∷ ts) = by t.kind t.offset t.text
    where
      value : (kind : TokenKind) (at : ℕ) (text : List ℕ) (x : SurfaceTree) → ((us : List Terminal) → prim operand whole (token kind at text ∷ us) ≡ Ok (x, us)) → ((us : List Terminal) → prim operand' whole' (token kind at text ∷ us) ≡ Ok (x, us)) → SeesPrim (token kind at text ∷ ts)
      value kind at text x e e' = skip (token kind at text) ts _ _ (λ us. Ok (x, us)) (λ us. Ok (x, us)) (May stops) (May stops) (Next counts) e e' (pass x (May stops) ts)

      by : (kind : TokenKind) (at : ℕ) (text : List ℕ) → SeesPrim (token kind at text ∷ ts)
      by (k.Number v) at text = value (k.Number v) at text (Number v at) (λ us. refl) (λ us. refl)
      by k.String at text = value k.String at text (String (string_value text) at) (λ us. refl) (λ us. refl)
      by k.True at text = value k.True at text (Keyword key.True at) (λ us. refl) (λ us. refl)
      by k.False at text = value k.False at text (Keyword key.False at) (λ us. refl) (λ us. refl)
      by k.Null at text = value k.Null at text (Keyword key.Null at) (λ us. refl) (λ us. refl)
      by k.Invalid at text = value k.Invalid at text (Keyword key.Invalid at) (λ us. refl) (λ us. refl)
      by k.SelfObject at text = value k.SelfObject at text (Keyword key.SelfObject at) (λ us. refl) (λ us. refl)
      by k.Identifier at text = skip (token k.Identifier at text) ts _ _ (p.name_or_literal text at) (p.name_or_literal text at) (May stops) (May stops) (Next counts) (λ us. refl) (λ us. refl) (sees_named text at ts)
      by k.If at text = skip (token k.If at text) ts _ _ (if_expression operand whole at) (if_expression operand' whole' at) (May stops) (Next counts) (Next counts) (λ us. refl) (λ us. refl) (sees_conditional at ts)
      by k.Open at text = skip (token k.Open at text) ts _ _ (λ us. whole us >>= λ x. in_parentheses x.0 x.1) (λ us. whole' us >>= λ x. in_parentheses x.0 x.1) (May stops) (Next counts) (Next counts) (λ us. refl) (λ us. refl)
          (bind whole whole' in_parentheses in_parentheses (May stops) (May stops) (Next (is_mark m.Close)) (Next counts) ts (mark_may m.Close stops refl) (sees_whole ts)
          (λ x us. sees_expect m.Close _ _ (May stops) (May stops) (λ rest. pass x (May stops) rest) us))
      by _ at text = stuck (prim operand whole) (prim operand' whole') (May stops) (Next counts) _ (λ us (more, is). rw is refl) (λ us (more, is). rw is refl) (Number 0 0, zero_token ∷ [], λ rest g. (refl, refl))

module _ (a n : ℕ) (operand operand' : Reader SurfaceTree) (sees : (ts : List Terminal) → Sees operand operand' (May stops) (Next counts) ts) where
  abbrev bind_value : List ℕ × ℕ → Reader SurfaceTree → TypeTree → Reader Bound
  bind_value text operand s us = expect m.Equal us >>= operand >>= λ x. Ok (binding text s x.0, x.1)

  abbrev bind_type : List ℕ × ℕ → ℕ → Reader SurfaceTree → Reader Bound
  bind_type text n operand us = expect m.Colon us >>= p.a_type n >>= λ s. bind_value text operand s.0 s.1

  -- where a name with its type and its value stops, it can be completed under wider limits
  pub sees_bind : (ts : List Terminal) → Sees (a_bind n operand) (a_bind (deeper a n) operand') (May stops) (Next is_identifier_kind) ts
  unfolding a_bind
  sees_bind ts =
      bind placed_name placed_name (λ text. bind_type text n operand) (λ text. bind_type text (deeper a n) operand') Any (May stops) (Next (is_mark m.Colon)) (Next is_identifier_kind) ts (λ us g. tt) (sees_placed_name ts)
      (λ text us. bind (λ vs. expect m.Colon vs >>= p.a_type n) (λ vs. expect m.Colon vs >>= p.a_type (deeper a n)) (bind_value text operand) (bind_value text operand') (Next stops_type) (May stops) (Next (is_mark m.Equal)) (Next (is_mark m.Colon)) us (mark_next m.Equal stops_type refl)
      (sees_expect m.Colon (p.a_type n) (p.a_type (deeper a n)) (Next stops_type) (Next is_identifier_kind) (sees_type a n) us)
      (λ s vs. bind (λ ws. expect m.Equal ws >>= operand) (λ ws. expect m.Equal ws >>= operand') (λ x ws. Ok (binding text s x, ws)) (λ x ws. Ok (binding text s x, ws)) (May stops) (May stops) (May stops) (Next (is_mark m.Equal)) vs (λ ws g. g)
      (sees_expect m.Equal operand operand' (May stops) (Next counts) sees vs)
      (λ x ws. pass (binding text s x) (May stops) ws)))

-- the operand of a list, which is no longer after it is read
module _ (operand operand' : Reader SurfaceTree) (sees : (ts : List Terminal) → Sees operand operand' (May stops) (Next counts) ts)
    (shortens : Shortens operand) (shortens' : Shortens operand') (empty : operand [] ≡ Err (syntax [])) (shuts : (ts : List Terminal) → next_is begins ts ≡ false → operand' ts ≡ Err (syntax ts))
    (opened : (t : Terminal) → begins t.kind ≡ true → Opens operand' (May stops) t) where
  abbrev closed_list : List SurfaceTree → Reader (List SurfaceTree)
  closed_list all us = expect m.Close us >>= λ rest. Ok (all, rest)

  argument_opened : (n : ℕ) (t : Terminal) → closes t.kind ≡ false → begins t.kind ≡ true → Opens (arguments_in operand' (suc n)) Any t
  unfolding arguments_in items expect
  argument_opened n t c h =
      let (x, more, e) = opened t h in (
        x ∷ [],
        more ++ mark_word m.Close ∷ [],
        λ rest g. rw (append_assoc more (mark_word m.Close ∷ []) rest, c)
            (ap (λ r. r >>= (λ y. if next_is separates y.1 then items operand' (length (more ++ (mark_word m.Close ∷ rest))) ([] ++ y.0 ∷ []) (drop 1 y.1) else Ok ([] ++ y.0 ∷ [], y.1)) >>= λ y. expect m.Close y.1 >>= λ us. Ok (y.0, us)) (e (mark_word m.Close ∷ rest) refl)),
      )

  arguments_opened : (n : ℕ) (t : Terminal) → begins_argument t.kind ≡ true → Opens (arguments_in operand' (suc n)) Any t
  unfolding arguments_in
  arguments_opened n t h = by t.kind h
    where
      by : (kind : TokenKind) → begins_argument kind ≡ true → Opens (arguments_in operand' (suc n)) Any (token kind t.offset t.text)
      by k.Close h = ([], [], λ rest g. refl)
      by (k.Number v) h = argument_opened n (token (k.Number v) t.offset t.text) refl h
      by kind h = argument_opened n (token kind t.offset t.text) refl h

  sees_arguments_in : (a n : ℕ) (ts : List Terminal) → Sees (arguments_in operand n) (arguments_in operand' (deeper a n)) Any Any ts
  unfolding arguments_in
  sees_arguments_in a zero ts = sees_shut begins_argument (arguments_in operand' (suc (suc (suc a)))) Any Any (argument_shut (suc (suc (suc a))) operand' shuts) ([], mark_word m.Close ∷ [], λ rest g. (tt, refl)) (arguments_opened (suc (suc a))) ts
  sees_arguments_in a (suc n) ts =
      adapt _ _ Any Any (Next counts) Any ts (λ us g. g) (λ us g. tt)
      (either closes (λ us. Ok ([], us)) (λ us. Ok ([], us)) _ _ Any Any (Next counts) ts (λ u us is. pass [] Any us)
      (bind (listed operand []) (listed operand' []) closed_list closed_list (May stops) Any (Next (is_mark m.Close)) (Next counts) ts (mark_may m.Close stops refl)
      (sees_listed operand operand' shortens shortens' empty (shuts [] refl) (Next counts) sees [] ts)
      (λ all us. sees_expect m.Close _ _ Any Any (λ rest. pass all Any rest) us))
      (next_not counts closes count_closes))

  sees_arguments : (a n : ℕ) (ts : List Terminal) → Sees (arguments operand n) (arguments operand' (deeper a n)) Any (Next (is_mark m.Open)) ts
  unfolding arguments
  sees_arguments a n ts = sees_expect m.Open (arguments_in operand n) (arguments_in operand' (deeper a n)) Any Any (sees_arguments_in a n) ts

  module _ (a n : ℕ) (whole whole' : Reader SurfaceTree) where
    -- where the arguments of a call stop, the call can be completed
    pub sees_operation_call : (source : SurfaceTree) (by : Navigation) (text : List ℕ) (at : ℕ) (ts : List Terminal) → Sees (operation_call n operand whole source by text at) (operation_call (deeper a n) operand' whole' source by text at) (May stops) (Next (is_mark m.Open)) ts
    unfolding operation_call
    sees_operation_call source by text at ts =
        bind (arguments operand n) (arguments operand' (deeper a n)) (λ all us. Ok (Call source by text (trees_of all) at, us)) (λ all us. Ok (Call source by text (trees_of all) at, us)) Any (May stops) (May stops) (Next (is_mark m.Open)) ts (λ us g. tt) (sees_arguments a n ts)
        (λ all us. pass (Call source by text (trees_of all) at) (May stops) us)

    abbrev opened_call : Reader SurfaceTree → ℕ → SurfaceTree → List ℕ → ℕ → Reader SurfaceTree
    opened_call operand n source text at us = arguments_in operand n us >>= λ x. Ok (Call source Dot text (trees_of x.0) at, x.1)

    called_is : (operand whole : Reader SurfaceTree) (n : ℕ) (source : SurfaceTree) (text : List ℕ) (at : ℕ) (us : List Terminal) → called n operand whole source text at us ≡ (if next_is opens us then opened_call operand n source text at (drop 1 us) else Ok (Property source text at, us))
    unfolding called operation_call arguments expect
    called_is operand whole n source text at [] = refl
    called_is operand whole n source text at (t ∷ us) = by t.kind
      where
        by : (kind : TokenKind) → called n operand whole source text at (token kind t.offset t.text ∷ us) ≡ (if opens kind then opened_call operand n source text at us else Ok (Property source text at, token kind t.offset t.text ∷ us))
        by k.Open = refl
        by (k.Number v) = refl
        by _ = refl

    -- where what follows the name of a property or a call stops, it can be completed
    pub sees_called : (source : SurfaceTree) (text : List ℕ) (at : ℕ) (ts : List Terminal) → Sees (called n operand whole source text at) (called (deeper a n) operand' whole' source text at) (May stops) (May stops) ts
    sees_called source text at ts =
        sees_as _ _ _ _ (May stops) (May stops) ts (λ us w. called_is operand whole n source text at us) (λ us w. called_is operand' whole' (deeper a n) source text at us)
        (either opens (opened_call operand n source text at) (opened_call operand' (deeper a n) source text at) (λ us. Ok (Property source text at, us)) (λ us. Ok (Property source text at, us)) (May stops) Any (May stops) ts
        (λ u us is. bind (arguments_in operand n) (arguments_in operand' (deeper a n)) (λ all vs. Ok (Call source Dot text (trees_of all) at, vs)) (λ all vs. Ok (Call source Dot text (trees_of all) at, vs)) Any (May stops) (May stops) Any us (λ vs g. tt) (sees_arguments_in a n us)
        (λ all vs. pass (Call source Dot text (trees_of all) at) (May stops) vs))
        (pass (Property source text at) (May stops) ts)
        (may_not stops opens stop_opens))
