-- What is read is as the grammar says.
use Rattle.std.proofs.Common.{◌≡◌, ℕ, zero, suc, List, [], ◌∷◌, ◌++◌, length, drop, Option, Some, None, Result, Ok, Err, refl, sym, subst, IfOk, Bool, true, false}
use Rattle.std.specs.Prelude.{if◌then◌else◌}
use Rattle.ocl_tokens.specs.declared.token.TokenKind.{TokenKind}
use Rattle.ocl_tokens.specs.declared.token.TokenKind.TheVariants as k
use Rattle.ocl_base.specs.Steps.{◌>>=◌}
use Rattle.ocl_text.specs.declared.cursor.Mark.{Mark}
use Rattle.ocl_text.specs.declared.cursor.Mark.TheVariants as m
use Rattle.ocl_text.specs.declared.tree.BinaryOperator.{BinaryOperator}
use Rattle.ocl_text.specs.declared.tree.IteratorKind.{IteratorKind}
use Rattle.ocl_text.specs.declared.tree.Navigation.TheVariants.{Dot}
use Rattle.ocl_tokens.specs.Terminals.{Terminal}
use Rattle.ocl_text.specs.Tree.{TypeTree, VariableTree, Variables, Bound, Rule, SurfaceTree, Binary, lets_at, If, binding, fold_with}
use Rattle.ocl_text.specs.declared.cursor.VariableLimit.{VariableLimit}
use Rattle.ocl_text.specs.declared.cursor.VariableLimit.TheVariants.{OneVariable, TwoVariables}
use Rattle.ocl_text.specs.Grammar as g
use Rattle.ocl_text.specs.Grammar.{is_mark, operator, top, token, Ends, next_is, Next, NotNext, steps_on, opens, closes, separates, begins_variable, iterator_of, is_fold_name, variable_limit, begins_invariant, IsExpr, IsBind, IsBinds, MoreBinds, IsUnary, IsPrim, IsLevel, GoesOn, IsSteps, IsArguments, IsItems, MoreItems, IsIteration, IsFold, IsType, IsVariable, declares, IsInvariant, IsInvariants, MoreInvariants, IsContexts}
use Rattle.ocl_text.specs.Parse as p
use Rattle.ocl_text.specs.Parse.{TokensFault, syntax, too_deep, Reading, Reader, too_deep_at, expect, identifier, identifier_by, Link, link, link_by, on_link, chain, levels, unary, unary_over, unary_by, expr, expr_over, expr_by, post, prim, prim_by, if_expression, step_list, one_step, step_by, after_dot, after_dot_by, after_arrow, after_arrow_by, called, operation_call, applied_step, applied_by, a_fold, fold_in, fold_body, arguments, arguments_in, items, a_bind, let_expression, iteration, optional_variables, variables, variables_by, has_second, level_of, rule_name, invariant, invariant_at, invariant_by, invariants, context, placed_name, placed_by, contexts, is_done}

-- ---- how parts are put together

-- what holds after one reading, and then after the next, holds of both in a row
pub bind_ok : {A B : Type 0} (P : A → Type 0) (Q : B → Type 0) (r : Result A TokensFault) (f : A → Result B TokensFault) → IfOk r P → ((x : A) → P x → IfOk (f x) Q) → IfOk (r >>= f) Q
bind_ok P Q (Ok x) f h s = s x h
bind_ok P Q (Err e) f h s = tt

-- what follows from what a reading gives holds of it too
pub weaker : {A : Type 0} (P Q : A → Type 0) (r : Result A TokensFault) → ((x : A) → P x → Q x) → IfOk r P → IfOk r Q
weaker P Q (Ok x) f h = f x h
weaker P Q (Err e) f h = tt

if_ok : {A : Type 0} (P : A → Type 0) (b : Bool) (r s : Result A TokensFault) → (b ≡ true → IfOk r P) → (b ≡ false → IfOk s P) → IfOk (if b then r else s) P
if_ok P true r s f h = f refl
if_ok P false r s f h = h refl

abbrev pub mark_kind : Mark → TokenKind
mark_kind m.Identifier = k.Identifier
mark_kind m.Comma = k.Comma
mark_kind m.ColonColon = k.ColonColon
mark_kind m.Semicolon = k.Semicolon
mark_kind m.Inv = k.Inv
mark_kind m.Open = k.Open
mark_kind m.Close = k.Close
mark_kind m.Bar = k.Bar
mark_kind m.Equal = k.Equal
mark_kind m.Colon = k.Colon
mark_kind m.In = k.In
mark_kind m.Then = k.Then
mark_kind m.Else = k.Else
mark_kind m.Endif = k.Endif
mark_kind m.Context = k.Context

-- a token that is this mark is of the mark's kind
pub mark_is : (mark : Mark) (kind : TokenKind) → is_mark mark kind ≡ true → kind ≡ mark_kind mark
mark_is m.Identifier k.Identifier h = refl
mark_is m.Identifier (k.Number v) h = absurd (cc)
mark_is m.Identifier _ h = absurd (cc)
mark_is m.Comma k.Comma h = refl
mark_is m.Comma (k.Number v) h = absurd (cc)
mark_is m.Comma _ h = absurd (cc)
mark_is m.ColonColon k.ColonColon h = refl
mark_is m.ColonColon (k.Number v) h = absurd (cc)
mark_is m.ColonColon _ h = absurd (cc)
mark_is m.Semicolon k.Semicolon h = refl
mark_is m.Semicolon (k.Number v) h = absurd (cc)
mark_is m.Semicolon _ h = absurd (cc)
mark_is m.Inv k.Inv h = refl
mark_is m.Inv (k.Number v) h = absurd (cc)
mark_is m.Inv _ h = absurd (cc)
mark_is m.Open k.Open h = refl
mark_is m.Open (k.Number v) h = absurd (cc)
mark_is m.Open _ h = absurd (cc)
mark_is m.Close k.Close h = refl
mark_is m.Close (k.Number v) h = absurd (cc)
mark_is m.Close _ h = absurd (cc)
mark_is m.Bar k.Bar h = refl
mark_is m.Bar (k.Number v) h = absurd (cc)
mark_is m.Bar _ h = absurd (cc)
mark_is m.Equal k.Equal h = refl
mark_is m.Equal (k.Number v) h = absurd (cc)
mark_is m.Equal _ h = absurd (cc)
mark_is m.Colon k.Colon h = refl
mark_is m.Colon (k.Number v) h = absurd (cc)
mark_is m.Colon _ h = absurd (cc)
mark_is m.In k.In h = refl
mark_is m.In (k.Number v) h = absurd (cc)
mark_is m.In _ h = absurd (cc)
mark_is m.Then k.Then h = refl
mark_is m.Then (k.Number v) h = absurd (cc)
mark_is m.Then _ h = absurd (cc)
mark_is m.Else k.Else h = refl
mark_is m.Else (k.Number v) h = absurd (cc)
mark_is m.Else _ h = absurd (cc)
mark_is m.Endif k.Endif h = refl
mark_is m.Endif (k.Number v) h = absurd (cc)
mark_is m.Endif _ h = absurd (cc)
mark_is m.Context k.Context h = refl
mark_is m.Context (k.Number v) h = absurd (cc)
mark_is m.Context _ h = absurd (cc)

-- what is known of the list is known of it as the token and the rest
expect_ok : {B : Type 0} (mark : Mark) (P : List Terminal → Type 0) (Q : B → Type 0) (f : List Terminal → Result B TokensFault)
    → ((at : ℕ) (text : List ℕ) (rest : List Terminal) → P (token (mark_kind mark) at text ∷ rest) → IfOk (f rest) Q) → (ts : List Terminal) → P ts → IfOk (expect mark ts >>= f) Q
unfolding expect
expect_ok mark P Q f s [] h = tt
expect_ok mark P Q f s (t ∷ ts) h = by (is_mark mark t.kind) (λ e. s t.offset t.text ts (subst (λ (kind : TokenKind). P (token kind t.offset t.text ∷ ts)) (mark_is mark t.kind e) h))
  where
    by : (b : Bool) → (b ≡ true → IfOk (f ts) Q) → IfOk ((if b then Ok ts else Err (syntax (t ∷ ts))) >>= f) Q
    by true g = g refl
    by false g = tt

identifier_ok : {B : Type 0} (P : List Terminal → Type 0) (Q : B → Type 0) (f : List ℕ × List Terminal → Result B TokensFault)
    → ((at : ℕ) (text : List ℕ) (rest : List Terminal) → P (token k.Identifier at text ∷ rest) → IfOk (f (text, rest)) Q) → (ts : List Terminal) → P ts → IfOk (identifier ts >>= f) Q
unfolding identifier
identifier_ok P Q f s [] h = tt
identifier_ok P Q f s (t ∷ ts) h = by t.kind t.offset t.text h
  where
    by : (kind : TokenKind) (at : ℕ) (text : List ℕ) → P (token kind at text ∷ ts) → IfOk (identifier_by kind text (t ∷ ts) ts >>= f) Q
    by k.Identifier at text h = s at text ts h
    by (k.Number v) at text h = tt
    by _ at text h = tt

placed_ok : {B : Type 0} (P : List Terminal → Type 0) (Q : B → Type 0) (f : (List ℕ × ℕ) × List Terminal → Result B TokensFault)
    → ((at : ℕ) (text : List ℕ) (rest : List Terminal) → P (token k.Identifier at text ∷ rest) → IfOk (f ((text, at), rest)) Q) → (ts : List Terminal) → P ts → IfOk (placed_name ts >>= f) Q
unfolding placed_name
placed_ok P Q f s [] h = tt
placed_ok P Q f s (t ∷ ts) h = by t.kind t.offset t.text h
  where
    by : (kind : TokenKind) (at : ℕ) (text : List ℕ) → P (token kind at text ∷ ts) → IfOk (placed_by kind text at (t ∷ ts) ts >>= f) Q
    by k.Identifier at text h = s at text ts h
    by (k.Number v) at text h = tt
    by _ at text h = tt

comma : (P : List Terminal → Type 0) (ts : List Terminal) → next_is separates ts ≡ true → P ts → (at : ℕ) × (text : List ℕ) × P (token k.Comma at text ∷ drop 1 ts)
comma P [] h p = absurd (cc)
comma P (t ∷ ts) h p = by t.kind t.offset t.text h p
  where
    by : (kind : TokenKind) (at : ℕ) (text : List ℕ) → separates kind ≡ true → P (token kind at text ∷ ts) → (at : ℕ) × (text : List ℕ) × P (token k.Comma at text ∷ ts)
    by k.Comma at text h p = (at, text, p)
    by (k.Number v) at text h p = absurd (cc)
    by _ at text h p = absurd (cc)

colons : (P : List Terminal → Type 0) (ts : List Terminal) → next_is g.qualifies ts ≡ true → P ts → (at : ℕ) × (text : List ℕ) × P (token k.ColonColon at text ∷ drop 1 ts)
colons P [] h p = absurd (cc)
colons P (t ∷ ts) h p = by t.kind t.offset t.text h p
  where
    by : (kind : TokenKind) (at : ℕ) (text : List ℕ) → g.qualifies kind ≡ true → P (token kind at text ∷ ts) → (at : ℕ) × (text : List ℕ) × P (token k.ColonColon at text ∷ ts)
    by k.ColonColon at text h p = (at, text, p)
    by (k.Number v) at text h p = absurd (cc)
    by _ at text h p = absurd (cc)

colon : (P : List Terminal → Type 0) (ts : List Terminal) → next_is declares ts ≡ true → P ts → (at : ℕ) × (text : List ℕ) × P (token k.Colon at text ∷ drop 1 ts)
colon P [] h p = absurd (cc)
colon P (t ∷ ts) h p = by t.kind t.offset t.text h p
  where
    by : (kind : TokenKind) (at : ℕ) (text : List ℕ) → declares kind ≡ true → P (token kind at text ∷ ts) → (at : ℕ) × (text : List ℕ) × P (token k.Colon at text ∷ ts)
    by k.Colon at text h p = (at, text, p)
    by (k.Number v) at text h p = absurd (cc)
    by _ at text h p = absurd (cc)

opening : (P : List Terminal → Type 0) (ts : List Terminal) → next_is opens ts ≡ true → P ts → (at : ℕ) × (text : List ℕ) × P (token k.Open at text ∷ drop 1 ts)
opening P [] h p = absurd (cc)
opening P (t ∷ ts) h p = by t.kind t.offset t.text h p
  where
    by : (kind : TokenKind) (at : ℕ) (text : List ℕ) → opens kind ≡ true → P (token kind at text ∷ ts) → (at : ℕ) × (text : List ℕ) × P (token k.Open at text ∷ ts)
    by k.Open at text h p = (at, text, p)
    by (k.Number v) at text h p = absurd (cc)
    by _ at text h p = absurd (cc)

closing : (P : List Terminal → Type 0) (ts : List Terminal) → next_is closes ts ≡ true → P ts → (at : ℕ) × (text : List ℕ) × P (token k.Close at text ∷ drop 1 ts)
closing P [] h p = absurd (cc)
closing P (t ∷ ts) h p = by t.kind t.offset t.text h p
  where
    by : (kind : TokenKind) (at : ℕ) (text : List ℕ) → closes kind ≡ true → P (token kind at text ∷ ts) → (at : ℕ) × (text : List ℕ) × P (token k.Close at text ∷ ts)
    by k.Close at text h p = (at, text, p)
    by (k.Number v) at text h p = absurd (cc)
    by _ at text h p = absurd (cc)

abbrev Sound : {A : Type 0} → (List Terminal → A → List Terminal → Type 0) → Reader A → Type 0
Sound R p = (ts : List Terminal) → IfOk (p ts) (λ x. R ts x.0 x.1)

no_deeper : {A : Type 0} (test : TokenKind → Bool) (ts : List Terminal) (P : A × List Terminal → Type 0) → IfOk (too_deep_at test ts) P
unfolding too_deep_at
no_deeper test ts P = if_ok P (next_is test ts) _ _ (λ h. tt) (λ h. tt)

-- a type that is read is one by the grammar
pub sound_type : (n : ℕ) (ts : List Terminal) → IfOk (p.a_type n ts) (λ x. IsType n ts x.0 x.1)
unfolding p.a_type p.type_over
sound_type zero ts = no_deeper g.is_identifier_kind ts _
sound_type (suc n) [] = tt
sound_type (suc n) (t ∷ ts) = by t.kind t.offset t.text (sound_type n (drop 1 ts))
  where
    by : (kind : TokenKind) (at : ℕ) (text : List ℕ) → IfOk (p.a_type n (drop 1 ts)) (λ x. IsType n (drop 1 ts) x.0 x.1) → IfOk (p.type_by (p.a_type n) kind text at (t ∷ ts) ts) (λ x. IsType (suc n) (token kind at text ∷ ts) x.0 x.1)
    by k.Identifier at text sound = if_ok (λ x. IsType (suc n) (token k.Identifier at text ∷ ts) x.0 x.1) (next_is opens ts) _ _
        (λ h. let start = opening (λ us. (s : TypeTree) (rest : List Terminal) → IsType (suc n) (token k.Identifier at text ∷ us) s rest → IsType (suc n) (token k.Identifier at text ∷ ts) s rest) ts h (λ s rest d. d) in
        bind_ok (λ x. IsType n (drop 1 ts) x.0 x.1) _ (p.a_type n (drop 1 ts)) _ sound
        (λ x d. expect_ok m.Close (λ us. IsType n (drop 1 ts) x.0 us) _ _ (λ end closed rest e. start.2 _ rest (g.a_type_of e)) x.1 d))
        (λ h. g.a_plain_type h)
    by (k.Number v) at text sound = tt
    by _ at text sound = tt

sound_variable : (n : ℕ) (ts : List Terminal) → IfOk (p.a_variable n ts) (λ x. IsVariable n ts x.0 x.1)
unfolding p.a_variable
sound_variable n ts =
    identifier_ok (λ us. (v : VariableTree) (rest : List Terminal) → IsVariable n us v rest → IsVariable n ts v rest) _ _
    (λ at text us give. if_ok (λ x. IsVariable n ts x.0 x.1) (next_is declares us) _ _
    (λ h. let start = colon (λ vs. (v : VariableTree) (rest : List Terminal) → IsVariable n (token k.Identifier at text ∷ vs) v rest → IsVariable n ts v rest) us h give in
    bind_ok (λ s. IsType n (drop 1 us) s.0 s.1) _ (p.a_type n (drop 1 us)) _ (sound_type n (drop 1 us)) (λ s d. start.2 _ s.1 (g.typed d)))
    (λ h. give _ us (g.untyped h)))
    ts (λ v rest d. d)

-- ---- what stands inside a construct
module _ (c n : ℕ) (operand whole : Reader SurfaceTree) (sound : Sound (IsLevel c n top) operand) (sound_whole : Sound (IsExpr c n) whole) where
  sound_items : (f : ℕ) (found : List SurfaceTree) (ts : List Terminal) → IfOk (items operand f found ts) (λ x. IsItems c n found ts x.0 x.1)
  unfolding items
  sound_items zero found ts = tt
  sound_items (suc f) found ts =
      bind_ok (λ x. IsLevel c n top ts x.0 x.1) (λ y. IsItems c n found ts y.0 y.1) (operand ts) _ (sound ts)
      (λ x d. if_ok (λ y. IsItems c n found ts y.0 y.1) (next_is separates x.1) _ _
      (λ h. weaker (λ y. IsItems c n (found ++ x.0 ∷ []) (drop 1 x.1) y.0 y.1) _ (items operand f (found ++ x.0 ∷ []) (drop 1 x.1))
      (λ y e. (comma (λ us. MoreItems c n (found ++ x.0 ∷ []) us y.0 y.1 → IsItems c n found ts y.0 y.1) x.1 h (λ more. g.an_item d more)).2 (g.next_item e)) (sound_items f (found ++ x.0 ∷ []) (drop 1 x.1)))
      (λ h. g.an_item d (g.no_more_items h)))

  sound_arguments_in : (ts : List Terminal) (at : ℕ) (text : List ℕ) (us : List Terminal) (l : ℕ) → l ≡ n → IfOk (arguments_in operand l us) (λ x. IsArguments c n (token k.Open at text ∷ us) x.0 x.1)
  unfolding arguments_in
  sound_arguments_in ts at text us zero is = no_deeper _ us _
  sound_arguments_in ts at text us (suc l) is =
      if_ok (λ x. IsArguments c n (token k.Open at text ∷ us) x.0 x.1) (next_is closes us) _ _
      (λ h. (closing (λ vs. IsArguments c (suc l) (token k.Open at text ∷ vs) [] (drop 1 us) → IsArguments c n (token k.Open at text ∷ us) [] (drop 1 us)) us h (λ d. subst (λ (i : ℕ). IsArguments c i (token k.Open at text ∷ us) [] (drop 1 us)) is d)).2 g.no_argument)
      (λ h. bind_ok (λ x. IsItems c n [] us x.0 x.1) _ (items operand (length us) [] us) _ (sound_items (length us) [] us)
      (λ x d. expect_ok m.Close (λ vs. IsItems c n [] us x.0 vs) (λ y. IsArguments c n (token k.Open at text ∷ us) y.0 y.1) _ (λ end closed rest e. g.arguments e) x.1 d))

  sound_arguments : Sound (IsArguments c n) (arguments operand n)
  unfolding arguments
  sound_arguments ts =
      expect_ok m.Open (λ us. (all : List SurfaceTree) (rest : List Terminal) → IsArguments c n us all rest → IsArguments c n ts all rest) (λ x. IsArguments c n ts x.0 x.1) (arguments_in operand n)
      (λ at text us give. weaker (λ x. IsArguments c n (token k.Open at text ∷ us) x.0 x.1) _ (arguments_in operand n us) (λ x d. give x.0 x.1 d) (sound_arguments_in ts at text us n refl))
      ts (λ all rest d. d)

  sound_bind : (ts : List Terminal) → IfOk (a_bind n operand ts) (λ x. IsBind c n ts x.0 x.1)
  unfolding a_bind
  sound_bind ts =
      placed_ok (λ us. (bound : Bound) (rest : List Terminal) → IsBind c n us bound rest → IsBind c n ts bound rest) _ _
      (λ at text us give. bind_ok (λ s. (equal_at : ℕ) (equal : List ℕ) (vs : List Terminal) → s.1 ≡ token k.Equal equal_at equal ∷ vs → (value : SurfaceTree) (rest : List Terminal) → IsLevel c n top vs value rest → IsBind c n ts (binding (text, at) s.0 value) rest) _ (expect m.Colon us >>= p.a_type n) _
      (expect_ok m.Colon (λ vs. (bound : Bound) (rest : List Terminal) → IsBind c n (token k.Identifier at text ∷ vs) bound rest → IsBind c n ts bound rest) _ (p.a_type n)
      (λ colon_at colon_text vs give. weaker (λ s. IsType n vs s.0 s.1) _ (p.a_type n vs) (λ s d. λ equal_at equal us is value rest e. give (binding (text, at) s.0 value) rest (g.a_bind (subst (λ (l : List Terminal). IsType n vs s.0 l) is d) e)) (sound_type n vs)) us give)
      (λ s after. bind_ok (λ x. IsBind c n ts (binding (text, at) s.0 x.0) x.1) _ (expect m.Equal s.1 >>= operand) _
      (expect_ok m.Equal (λ us. s.1 ≡ us) _ operand (λ equal_at equal vs is. weaker (λ x. IsLevel c n top vs x.0 x.1) _ (operand vs) (λ x e. after equal_at equal vs is x.0 x.1 e) (sound vs)) s.1 refl)
      (λ x d. d)))
      ts (λ bound rest d. d)

  sound_bindings : (f : ℕ) (found : List Bound) (ts : List Terminal) → IfOk (items (a_bind n operand) f found ts) (λ x. IsBinds c n found ts x.0 x.1)
  unfolding items
  sound_bindings zero found ts = tt
  sound_bindings (suc f) found ts =
      bind_ok (λ x. IsBind c n ts x.0 x.1) (λ y. IsBinds c n found ts y.0 y.1) (a_bind n operand ts) _ (sound_bind ts)
      (λ x d. if_ok (λ y. IsBinds c n found ts y.0 y.1) (next_is separates x.1) _ _
      (λ h. weaker (λ y. IsBinds c n (found ++ x.0 ∷ []) (drop 1 x.1) y.0 y.1) _ (items (a_bind n operand) f (found ++ x.0 ∷ []) (drop 1 x.1))
      (λ y e. (comma (λ us. MoreBinds c n (found ++ x.0 ∷ []) us y.0 y.1 → IsBinds c n found ts y.0 y.1) x.1 h (λ more. g.some_binds d more)).2 (g.next_bind e)) (sound_bindings f (found ++ x.0 ∷ []) (drop 1 x.1)))
      (λ h. g.some_binds d (g.no_more_binds h)))

  sound_conditional : (at : ℕ) (text : List ℕ) (ts : List Terminal) → IfOk (if_expression operand whole at ts) (λ x. IsPrim c n (token k.If at text ∷ ts) x.0 x.1)
  unfolding if_expression
  sound_conditional at text ts =
      bind_ok (λ x. IsLevel c n top ts x.0 x.1) _ (operand ts) _ (sound ts)
      (λ x d. bind_ok (λ y. (z : SurfaceTree) (else_at : ℕ) (else_text : List ℕ) (vs : List Terminal) (end : ℕ) (end_text : List ℕ) (rest : List Terminal) → y.1 ≡ token k.Else else_at else_text ∷ vs → IsExpr c n vs z (token k.Endif end end_text ∷ rest) → IsPrim c n (token k.If at text ∷ ts) (If x.0 y.0 z at) rest) (λ w. IsPrim c n (token k.If at text ∷ ts) w.0 w.1) (expect m.Then x.1 >>= whole) _
      (expect_ok m.Then (λ us. IsLevel c n top ts x.0 us) _ whole
      (λ then_at then_text us d. weaker (λ y. IsExpr c n us y.0 y.1) _ (whole us)
      (λ y e. λ z else_at else_text vs end end_text rest is f. g.if_expression d (subst (λ (l : List Terminal). IsExpr c n us y.0 l) is e) f) (sound_whole us)) x.1 d)
      (λ y give. bind_ok (λ z. (end : ℕ) (end_text : List ℕ) (rest : List Terminal) → z.1 ≡ token k.Endif end end_text ∷ rest → IsPrim c n (token k.If at text ∷ ts) (If x.0 y.0 z.0 at) rest) (λ w. IsPrim c n (token k.If at text ∷ ts) w.0 w.1) (expect m.Else y.1 >>= whole) _
      (expect_ok m.Else (λ us. y.1 ≡ us) _ whole
      (λ else_at else_text vs is. weaker (λ z. IsExpr c n vs z.0 z.1) _ (whole vs)
      (λ z e. λ end end_text rest ends. give z.0 else_at else_text vs end end_text rest is (subst (λ (l : List Terminal). IsExpr c n vs z.0 l) ends e)) (sound_whole vs)) y.1 refl)
      (λ z done. expect_ok m.Endif (λ us. z.1 ≡ us) (λ w. IsPrim c n (token k.If at text ∷ ts) w.0 w.1) _ (λ end end_text rest is. done end end_text rest is) z.1 refl)))

  sound_prim : Sound (IsPrim c n) (prim operand whole)
  unfolding prim p.name_or_literal
  sound_prim [] = tt
  sound_prim (t ∷ ts) = by t.kind t.offset t.text
    where
      by : (kind : TokenKind) (at : ℕ) (text : List ℕ) → IfOk (prim_by operand whole kind at text (t ∷ ts) ts) (λ x. IsPrim c n (token kind at text ∷ ts) x.0 x.1)
      by (k.Number v) at text = g.a_number
      by k.Identifier at text = if_ok (λ x. IsPrim c n (token k.Identifier at text ∷ ts) x.0 x.1) (next_is g.qualifies ts) _ _
          (λ h. let start = colons (λ us. (tree : SurfaceTree) (rest : List Terminal) → IsPrim c n (token k.Identifier at text ∷ us) tree rest → IsPrim c n (token k.Identifier at text ∷ ts) tree rest) ts h (λ tree rest d. d) in
          identifier_ok (λ us. (tree : SurfaceTree) (rest : List Terminal) → IsPrim c n (token k.Identifier at text ∷ token k.ColonColon start.0 start.1 ∷ us) tree rest → IsPrim c n (token k.Identifier at text ∷ ts) tree rest) _ _
          (λ second_at second us give. give _ us g.an_enumeration_literal) (drop 1 ts) start.2)
          (λ h. g.a_name h)
      by k.String at text = g.a_string
      by k.True at text = g.a_keyword refl
      by k.False at text = g.a_keyword refl
      by k.Null at text = g.a_keyword refl
      by k.Invalid at text = g.a_keyword refl
      by k.SelfObject at text = g.a_keyword refl
      by k.Open at text = bind_ok (λ x. IsExpr c n ts x.0 x.1) _ (whole ts) _ (sound_whole ts) (λ x d. expect_ok m.Close (λ us. IsExpr c n ts x.0 us) _ _ (λ end closed rest e. g.parentheses e) x.1 d)
      by k.If at text = sound_conditional at text ts
      by _ at text = tt

  -- what is left to read of an iteration after its variables
  abbrev Opened : VariableLimit → List Terminal → Variables × List Terminal → Type 0
  Opened limit ts vs = (body : SurfaceTree) (end : ℕ) (closed : List ℕ) (rest : List Terminal) → IsExpr c n vs.1 body (token k.Close end closed ∷ rest) → IsIteration c n limit ts vs.0 body rest

  sound_iteration : (limit : VariableLimit) → (ts : List Terminal) → ((at : ℕ) (text : List ℕ) (us : List Terminal) → IfOk (optional_variables n limit us) (Opened limit (token k.Open at text ∷ us))) → IfOk (iteration n whole limit ts) (λ x. IsIteration c n limit ts x.0.0 x.0.1 x.1)
  unfolding iteration
  sound_iteration limit ts sound_variables =
      bind_ok (Opened limit ts) _ (expect m.Open ts >>= optional_variables n limit) _
      (expect_ok m.Open (λ us. (vs : Variables) (body : SurfaceTree) (rest : List Terminal) → IsIteration c n limit us vs body rest → IsIteration c n limit ts vs body rest) (Opened limit ts) (optional_variables n limit)
      (λ at text us give. weaker (Opened limit (token k.Open at text ∷ us)) (Opened limit ts) (optional_variables n limit us) (λ vs o. λ body end closed rest d. give vs.0 body rest (o body end closed rest d)) (sound_variables at text us)) ts (λ vs body rest d. d))
      (λ vs o. bind_ok (λ x. IsExpr c n vs.1 x.0 x.1) _ (whole vs.1) _ (sound_whole vs.1) (λ x d. expect_ok m.Close (λ us. IsExpr c n vs.1 x.0 us) _ _ (λ end closed rest e. o x.0 end closed rest e) x.1 d))

-- what is read is a fold over this source
abbrev IsFolded : ℕ → ℕ → SurfaceTree → ℕ → List Terminal → SurfaceTree × List Terminal → Type 0
IsFolded c n source offset ts x = (variable : VariableTree) × (accumulator : Bound) × (body : SurfaceTree) × IsFold c n ts variable accumulator body x.1 × (x.0 ≡ fold_with source variable accumulator body offset)

module _ (c n : ℕ) (operand whole : Reader SurfaceTree) (sound : Sound (IsLevel c n top) operand) (sound_whole : Sound (IsExpr c n) whole) where
  sound_fold_in : (source : SurfaceTree) (offset at : ℕ) (text : List ℕ) (depth : ℕ) → depth ≡ n → (us : List Terminal) → IfOk (fold_in depth operand whole source offset us) (IsFolded c n source offset (token k.Open at text ∷ us))
  unfolding fold_in fold_body
  sound_fold_in source offset at text zero is us = no_deeper g.is_identifier_kind us _
  sound_fold_in source offset at text (suc depth) is us =
      bind_ok (λ v. IsVariable n us v.0 v.1) _ (p.a_variable (suc depth) us) _ (subst (λ (l : ℕ). IfOk (p.a_variable l us) (λ v. IsVariable n us v.0 v.1)) (sym is) (sound_variable n us))
      (λ v d. bind_ok (λ b. (bar_at : ℕ) (bar : List ℕ) (ts : List Terminal) → b.1 ≡ token k.Bar bar_at bar ∷ ts → (body : SurfaceTree) (end : ℕ) (closed : List ℕ) (rest : List Terminal) → IsExpr c n ts body (token k.Close end closed ∷ rest) → IsFold c n (token k.Open at text ∷ us) v.0 b.0 body rest) _ (expect m.Semicolon v.1 >>= a_bind (suc depth) operand) _
      (expect_ok m.Semicolon (λ vs. IsVariable n us v.0 vs) _ (a_bind (suc depth) operand)
      (λ semicolon_at semicolon vs d. weaker (λ b. IsBind c n vs b.0 b.1) _ (a_bind (suc depth) operand vs) (λ b e. λ bar_at bar ts bar_is body end closed rest f. parts n is d (subst (λ (l : List Terminal). IsBind c n vs b.0 l) bar_is e) f) (subst (λ (l : ℕ). IfOk (a_bind l operand vs) (λ b. IsBind c n vs b.0 b.1)) (sym is) (sound_bind c n operand whole sound sound_whole vs))) v.1 d)
      (λ b after. bind_ok (λ x. (end : ℕ) (closed : List ℕ) (rest : List Terminal) → x.1 ≡ token k.Close end closed ∷ rest → IsFold c n (token k.Open at text ∷ us) v.0 b.0 x.0 rest) _ (expect m.Bar b.1 >>= whole) _
      (expect_ok m.Bar (λ ts. b.1 ≡ ts) _ whole (λ bar_at bar ts bar_is. weaker (λ x. IsExpr c n ts x.0 x.1) _ (whole ts) (λ x f. λ end closed rest close_is. after bar_at bar ts bar_is x.0 end closed rest (subst (λ (l : List Terminal). IsExpr c n ts x.0 l) close_is f)) (sound_whole ts)) b.1 refl)
      (λ x done. expect_ok m.Close (λ ts. x.1 ≡ ts) (IsFolded c n source offset (token k.Open at text ∷ us)) _ (λ end closed rest close_is. (v.0, b.0, x.0, done end closed rest close_is, refl)) x.1 refl)))
    where
      parts : (l : ℕ) → suc depth ≡ l → {semicolon_at bar_at end : ℕ} {semicolon bar closed : List ℕ} {vs ts rest : List Terminal} {variable : VariableTree} {accumulator : Bound} {body : SurfaceTree}
          → IsVariable l us variable (token k.Semicolon semicolon_at semicolon ∷ vs) → IsBind c l vs accumulator (token k.Bar bar_at bar ∷ ts) → IsExpr c l ts body (token k.Close end closed ∷ rest) → IsFold c l (token k.Open at text ∷ us) variable accumulator body rest
      parts zero e x d f = absurd (cc)
      parts (suc l) e x d f = g.a_fold x d f

  sound_fold : (source : SurfaceTree) (offset : ℕ) (ts : List Terminal) → IfOk (a_fold n operand whole source offset ts) (IsFolded c n source offset ts)
  unfolding a_fold
  sound_fold source offset ts =
      expect_ok m.Open (λ us. (x : SurfaceTree × List Terminal) → IsFolded c n source offset us x → IsFolded c n source offset ts x) (IsFolded c n source offset ts) (fold_in n operand whole source offset)
      (λ at text us give. weaker (IsFolded c n source offset (token k.Open at text ∷ us)) _ (fold_in n operand whole source offset us) give (sound_fold_in source offset at text n refl us)) ts (λ x d. d)

sound_variables_by : (c n at : ℕ) (text : List ℕ) (us : List Terminal) (v : VariableTree) (limit : VariableLimit) (ts : List Terminal) → begins_variable us ≡ true → IsVariable (suc n) us v ts → IfOk (variables_by (suc n) limit v ts) (λ vs. (body : SurfaceTree) (end : ℕ) (closed : List ℕ) (rest : List Terminal) → IsExpr c (suc n) vs.1 body (token k.Close end closed ∷ rest) → IsIteration c (suc n) limit (token k.Open at text ∷ us) vs.0 body rest)
unfolding variables_by
sound_variables_by c n at text us v OneVariable ts b d =
    expect_ok m.Bar (λ vs. IsVariable (suc n) us v vs) _ _ (λ bar_at bar vs e. λ body end closed rest f. g.one_variable b e f) ts d
sound_variables_by c n at text us v TwoVariables ts b d =
    if_ok _ (next_is separates ts) _ _
    (λ h. let start = comma (λ vs. IsVariable (suc n) us v vs) ts h d in
    bind_ok (λ w. IsVariable (suc n) (drop 1 ts) w.0 w.1) _ (p.a_variable (suc n) (drop 1 ts)) _ (sound_variable (suc n) (drop 1 ts))
    (λ w e. expect_ok m.Bar (λ vs. IsVariable (suc n) (drop 1 ts) w.0 vs) _ _ (λ bar_at bar vs x. λ body end closed rest f. g.two_variables b start.2 x f) w.1 e))
    (λ h. expect_ok m.Bar (λ vs. IsVariable (suc n) us v vs) _ _ (λ bar_at bar vs e. λ body end closed rest f. g.one_variable b e f) ts d)

sound_variables : (c n : ℕ) (limit : VariableLimit) (at : ℕ) (text : List ℕ) (us : List Terminal) → IfOk (optional_variables n limit us) (λ vs. (body : SurfaceTree) (end : ℕ) (closed : List ℕ) (rest : List Terminal) → IsExpr c n vs.1 body (token k.Close end closed ∷ rest) → IsIteration c n limit (token k.Open at text ∷ us) vs.0 body rest)
unfolding optional_variables variables
sound_variables c zero limit at text us = if_ok _ (begins_variable us) _ _ (λ h. tt) (λ h. λ body end closed rest d. g.body_alone h d)
sound_variables c (suc n) limit at text us =
    if_ok _ (begins_variable us) _ _
    (λ h. bind_ok (λ v. IsVariable (suc n) us v.0 v.1) _ (p.a_variable (suc n) us) _ (sound_variable (suc n) us) (λ v d. sound_variables_by c n at text us v.0 limit v.1 h d))
    (λ h. λ body end closed rest d. g.body_alone h d)

-- ---- steps
module _ (c n : ℕ) (operand whole : Reader SurfaceTree) (sound : Sound (IsLevel c n top) operand) (sound_whole : Sound (IsExpr c n) whole) where
  abbrev Extends : SurfaceTree → List Terminal → SurfaceTree × List Terminal → Type 0
  Extends source ts x = (l : ℕ) (tree : SurfaceTree) (rest : List Terminal) → IsSteps c n l x.0 x.1 tree rest → IsSteps c n (suc l) source ts tree rest

  sound_operation_call : (source : SurfaceTree) (dot_at : ℕ) (dot_text : List ℕ) (at : ℕ) (text : List ℕ) (ts : List Terminal) → IfOk (operation_call n operand whole source Dot text at ts) (Extends source (token k.Dot dot_at dot_text ∷ token k.Identifier at text ∷ ts))
  unfolding operation_call
  sound_operation_call source dot_at dot_text at text ts = bind_ok (λ x. IsArguments c n ts x.0 x.1) _ (arguments operand n ts) _ (sound_arguments c n operand whole sound sound_whole ts) (λ x d. λ l tree rest e. g.dot_call d e)

  sound_after_dot : (source : SurfaceTree) (dot_at : ℕ) (dot_text : List ℕ) (ts : List Terminal) → IfOk (after_dot n operand whole source ts) (Extends source (token k.Dot dot_at dot_text ∷ ts))
  unfolding after_dot called operation_call
  sound_after_dot source dot_at dot_text [] = tt
  sound_after_dot source dot_at dot_text (t ∷ ts) = by t.kind t.offset t.text
    where
      by : (kind : TokenKind) (at : ℕ) (text : List ℕ) → IfOk (after_dot_by n operand whole source kind text at (t ∷ ts) ts) (Extends source (token k.Dot dot_at dot_text ∷ token kind at text ∷ ts))
      by k.Identifier at text = if_ok (Extends source (token k.Dot dot_at dot_text ∷ token k.Identifier at text ∷ ts)) (next_is opens ts) _ _
          (λ h. sound_operation_call source dot_at dot_text at text ts)
          (λ h. λ l tree rest e. g.dot h e)
      by k.Div at text = bind_ok (λ x. IsArguments c n ts x.0 x.1) _ (arguments operand n ts) _ (sound_arguments c n operand whole sound sound_whole ts) (λ x d. λ l tree rest e. g.dot_word refl d e)
      by k.Mod at text = bind_ok (λ x. IsArguments c n ts x.0 x.1) _ (arguments operand n ts) _ (sound_arguments c n operand whole sound sound_whole ts) (λ x d. λ l tree rest e. g.dot_word refl d e)
      by (k.Number v) at text = tt
      by _ at text = tt

  sound_applied : (source : SurfaceTree) (arrow_at : ℕ) (arrow_text : List ℕ) (at : ℕ) (text : List ℕ) (ts : List Terminal) → is_fold_name text ≡ false → (o : Option IteratorKind) → iterator_of text ≡ o → IfOk (applied_by n operand whole o source text at ts) (Extends source (token k.Arrow arrow_at arrow_text ∷ token k.Identifier at text ∷ ts))
  unfolding operation_call
  sound_applied source arrow_at arrow_text at text ts f None h = bind_ok (λ x. IsArguments c n ts x.0 x.1) _ (arguments operand n ts) _ (sound_arguments c n operand whole sound sound_whole ts) (λ x d. λ l tree rest e. g.arrow_call h f d e)
  sound_applied source arrow_at arrow_text at text ts f (Some kind) h = bind_ok (λ x. IsIteration c n (variable_limit kind) ts x.0.0 x.0.1 x.1) _ (iteration n whole (variable_limit kind) ts) _ (sound_iteration c n operand whole sound sound_whole (variable_limit kind) ts (sound_variables c n (variable_limit kind))) (λ x d. λ l tree rest e. g.arrow_iterate h d e)

  sound_after_arrow : (source : SurfaceTree) (arrow_at : ℕ) (arrow_text : List ℕ) (ts : List Terminal) → IfOk (after_arrow n operand whole source ts) (Extends source (token k.Arrow arrow_at arrow_text ∷ ts))
  unfolding after_arrow applied_step
  sound_after_arrow source arrow_at arrow_text [] = tt
  sound_after_arrow source arrow_at arrow_text (t ∷ ts) = by t.kind t.offset t.text
    where
      by : (kind : TokenKind) (at : ℕ) (text : List ℕ) → IfOk (after_arrow_by n operand whole source kind text at (t ∷ ts) ts) (Extends source (token k.Arrow arrow_at arrow_text ∷ token kind at text ∷ ts))
      by k.Identifier at text = if_ok (Extends source (token k.Arrow arrow_at arrow_text ∷ token k.Identifier at text ∷ ts)) (is_fold_name text) _ _
          (λ h. weaker (IsFolded c n source at ts) _ (a_fold n operand whole source at ts) (λ x (variable, accumulator, body, d, is). λ l tree rest e. g.arrow_fold h d (rw is at e)) (sound_fold c n operand whole sound sound_whole source at ts))
          (λ h. sound_applied source arrow_at arrow_text at text ts h (iterator_of text) refl)
      by (k.Number v) at text = tt
      by _ at text = tt

  sound_step : (source : SurfaceTree) (ts : List Terminal) → IfOk (one_step n operand whole source ts) (Extends source ts)
  unfolding one_step
  sound_step source [] = tt
  sound_step source (t ∷ ts) = by t.kind t.offset t.text
    where
      by : (kind : TokenKind) (at : ℕ) (text : List ℕ) → IfOk (step_by n operand whole source kind (t ∷ ts) ts) (Extends source (token kind at text ∷ ts))
      by k.Dot at text = sound_after_dot source at text ts
      by k.Arrow at text = sound_after_arrow source at text ts
      by (k.Number v) at text = tt
      by _ at text = tt

  sound_steps : (l : ℕ) (source : SurfaceTree) (ts : List Terminal) → IfOk (step_list n operand whole l source ts) (λ x. IsSteps c n l source ts x.0 x.1)
  unfolding step_list
  sound_steps zero source ts = if_ok (λ x. IsSteps c n zero source ts x.0 x.1) (next_is steps_on ts) _ _ (λ h. tt) (λ h. g.no_step h)
  sound_steps (suc l) source ts = if_ok (λ x. IsSteps c n (suc l) source ts x.0 x.1) (next_is steps_on ts) _ _
      (λ h. bind_ok (Extends source ts) _ (one_step n operand whole source ts) _ (sound_step source ts)
      (λ x o. weaker (λ y. IsSteps c n l x.0 x.1 y.0 y.1) _ (step_list n operand whole l x.0 x.1) (λ y d. o l y.0 y.1 d) (sound_steps l x.0 x.1)))
      (λ h. g.no_step h)

-- ---- chains of operators
module _ (c n level : ℕ) (operand : Reader SurfaceTree) (sound : Sound (IsLevel c n level) operand) where
  linked_ok : (P : SurfaceTree × List Terminal → Type 0) (ts : List Terminal) (ends_with : Reading SurfaceTree) (goes_on : Link → Reading SurfaceTree)
      → (Ends (suc level) ts → IfOk ends_with P)
      → ((t : Terminal) (after : List Terminal) (op : BinaryOperator) → operator (suc level) t.kind ≡ Some op → ts ≡ t ∷ after → IfOk (goes_on (op, t.offset, after)) P)
      → IfOk (on_link (link (suc level) ts) ends_with goes_on) P
  unfolding link
  linked_ok P [] ends_with goes_on h s = h tt
  linked_ok P (t ∷ ts) ends_with goes_on h s = by (operator (suc level) t.kind) h (λ op e. s t ts op e refl)
    where
      by : (o : Option BinaryOperator) → (o ≡ None → IfOk ends_with P) → ((op : BinaryOperator) → o ≡ Some op → IfOk (goes_on (op, t.offset, ts)) P) → IfOk (on_link (link_by o t.offset ts) ends_with goes_on) P
      by None h s = h refl
      by (Some op) h s = s op refl

  sound_chain : (l : ℕ) (left : SurfaceTree) (ts : List Terminal) → IfOk (chain operand level l left ts) (λ x. GoesOn c n level l left ts x.0 x.1)
  unfolding chain
  sound_chain zero left ts = linked_ok _ ts _ _ (λ h. g.ends h) (λ t after op h is. tt)
  sound_chain (suc l) left ts =
      linked_ok (λ x. GoesOn c n level (suc l) left ts x.0 x.1) ts _ _ (λ h. g.ends h)
      (λ t after op h is. bind_ok (λ x. IsLevel c n level after x.0 x.1) _ (operand after) _ (sound after)
      (λ right d. weaker (λ x. GoesOn c n level l (Binary op left right.0 t.offset) right.1 x.0 x.1) _ (chain operand level l (Binary op left right.0 t.offset) right.1)
      (λ x f. rw is (g.more h d f)) (sound_chain l (Binary op left right.0 t.offset) right.1)))

-- operands with their operators, up to any level, are read as the grammar says, if single operands are
pub sound_levels : (c n : ℕ) (p : Reader SurfaceTree) → Sound (IsUnary c n) p → (level : ℕ) → Sound (IsLevel c n level) (levels c p level)
unfolding levels
sound_levels c n p sound zero ts = weaker _ _ (p ts) (λ x d. g.unary d) (sound ts)
sound_levels c n p sound (suc level) ts =
    bind_ok (λ x. IsLevel c n level ts x.0 x.1) _ (levels c p level ts) _ (sound_levels c n p sound level ts)
    (λ left d. weaker (λ x. GoesOn c n level c left.0 left.1 x.0 x.1) _ (chain (levels c p level) level c left.0 left.1) (λ x e. g.chained d e)
    (sound_chain c n level (levels c p level) (sound_levels c n p sound level) c left.0 left.1))

-- ---- one construct deeper
module _ (c n : ℕ) (below whole : Reader SurfaceTree) (sound_below : Sound (IsUnary c n) below) (sound_whole : Sound (IsExpr c n) whole) where
  sound_post : (ts : List Terminal) → IfOk (post c n (levels c below top) whole ts) (λ x. IsUnary c (suc n) ts x.0 x.1)
  unfolding post
  sound_post ts =
      bind_ok (λ x. IsPrim c n ts x.0 x.1) _ (prim (levels c below top) whole ts) _ (sound_prim c n (levels c below top) whole (sound_levels c n below sound_below top) sound_whole ts)
      (λ x d. weaker (λ y. IsSteps c n c x.0 x.1 y.0 y.1) _ (step_list n (levels c below top) whole c x.0 x.1) (λ y e. g.post d e) (sound_steps c n (levels c below top) whole (sound_levels c n below sound_below top) sound_whole c x.0 x.1))

  sound_unary_over : Sound (IsUnary c (suc n)) (unary_over c n (levels c below top) whole below)
  unfolding unary_over
  sound_unary_over [] = tt
  sound_unary_over (t ∷ ts) = by t.kind t.offset t.text (sound_post (t ∷ ts))
    where
      by : (kind : TokenKind) (at : ℕ) (text : List ℕ) → IfOk (post c n (levels c below top) whole (t ∷ ts)) (λ x. IsUnary c (suc n) (token kind at text ∷ ts) x.0 x.1) → IfOk (unary_by c n (levels c below top) whole below kind at (t ∷ ts) ts) (λ x. IsUnary c (suc n) (token kind at text ∷ ts) x.0 x.1)
      by k.Minus at text h = bind_ok (λ x. IsUnary c n ts x.0 x.1) _ (below ts) _ (sound_below ts) (λ x d. g.minus d)
      by k.Not at text h = bind_ok (λ x. IsUnary c n ts x.0 x.1) _ (below ts) _ (sound_below ts) (λ x d. g.not d)
      by (k.Number v) at text h = h
      by _ at text h = h

  sound_let : (depth at : ℕ) (text : List ℕ) (ts : List Terminal) → depth ≡ n → IfOk (let_expression depth (levels c below top) whole at ts) (λ x. IsExpr c (suc n) (token k.Let at text ∷ ts) x.0 x.1)
  unfolding let_expression
  sound_let zero at text ts is = no_deeper g.is_identifier_kind ts _
  sound_let (suc depth) at text ts is =
      bind_ok (λ x. IsBinds c n [] ts x.0 x.1) _ (items (a_bind (suc depth) (levels c below top)) (length ts) [] ts) _ (subst (λ (l : ℕ). IfOk (items (a_bind l (levels c below top)) (length ts) [] ts) (λ x. IsBinds c n [] ts x.0 x.1)) (sym is) (sound_bindings c n (levels c below top) whole (sound_levels c n below sound_below top) sound_whole (length ts) [] ts))
      (λ x d. bind_ok (λ y. IsExpr c (suc n) (token k.Let at text ∷ ts) (lets_at at x.0 y.0) y.1) _ (expect m.In x.1 >>= whole) _
      (expect_ok m.In (λ us. IsBinds c n [] ts x.0 us) _ whole
      (λ in_at in_text us e. weaker (λ y. IsExpr c n us y.0 y.1) _ (whole us) (λ y f. lets n is e f) (sound_whole us)) x.1 d)
      (λ y e. e))
    where
      lets : (l : ℕ) → suc depth ≡ l → {in_at : ℕ} {in_text : List ℕ} {us rest : List Terminal} {bindings : List Bound} {body : SurfaceTree} → IsBinds c l [] ts bindings (token k.In in_at in_text ∷ us) → IsExpr c l us body rest → IsExpr c (suc l) (token k.Let at text ∷ ts) (lets_at at bindings body) rest
      lets zero e b d = absurd (cc)
      lets (suc l) e b d = g.let_expression b d

  sound_expr_over : Sound (IsExpr c (suc n)) (expr_over (levels c (unary_over c n (levels c below top) whole below) top) n (levels c below top) whole)
  unfolding expr_over
  sound_expr_over [] = weaker _ _ (levels c (unary_over c n (levels c below top) whole below) top []) (λ x d. g.plain d) (sound_levels c (suc n) (unary_over c n (levels c below top) whole below) sound_unary_over top [])
  sound_expr_over (t ∷ ts) = by t.kind t.offset t.text (weaker _ (λ x. IsExpr c (suc n) (t ∷ ts) x.0 x.1) (levels c (unary_over c n (levels c below top) whole below) top (t ∷ ts)) (λ x d. g.plain d) (sound_levels c (suc n) (unary_over c n (levels c below top) whole below) sound_unary_over top (t ∷ ts)))
    where
      by : (kind : TokenKind) (at : ℕ) (text : List ℕ) → IfOk (levels c (unary_over c n (levels c below top) whole below) top (t ∷ ts)) (λ x. IsExpr c (suc n) (token kind at text ∷ ts) x.0 x.1)
          → IfOk (expr_by (levels c (unary_over c n (levels c below top) whole below) top) n (levels c below top) whole kind at (t ∷ ts) ts) (λ x. IsExpr c (suc n) (token kind at text ∷ ts) x.0 x.1)
      by k.Let at text h = sound_let n at text ts refl
      by (k.Number v) at text h = h
      by _ at text h = h

mutual
  unfolding unary expr

  -- an operand that is read is one by the grammar
  pub sound_unary : (c n : ℕ) → Sound (IsUnary c n) (unary c n)
  sound_unary c zero ts = no_deeper _ ts _
  sound_unary c (suc n) ts = sound_unary_over c n (unary c n) (expr c n) (sound_unary c n) (sound_expr c n) ts

  -- an expression that is read is one by the grammar
  pub sound_expr : (c n : ℕ) → Sound (IsExpr c n) (expr c n)
  sound_expr c zero ts = no_deeper _ ts _
  sound_expr c (suc n) ts = sound_expr_over c n (unary c n) (expr c n) (sound_unary c n) (sound_expr c n) ts

-- ---- rules

identifier_is : (Q : List ℕ × List Terminal → Type 0) (ts : List Terminal) → ((at : ℕ) (text : List ℕ) (rest : List Terminal) → ts ≡ token k.Identifier at text ∷ rest → Q (text, rest)) → IfOk (identifier ts) Q
unfolding identifier
identifier_is Q [] h = tt
identifier_is Q (t ∷ ts) h = by t.kind t.offset t.text h
  where
    by : (kind : TokenKind) (at : ℕ) (text : List ℕ) → ((name_at : ℕ) (name : List ℕ) (rest : List Terminal) → token kind at text ∷ ts ≡ token k.Identifier name_at name ∷ rest → Q (name, rest)) → IfOk (identifier_by kind text (t ∷ ts) ts) Q
    by k.Identifier at text h = h at text ts refl
    by (k.Number v) at text h = tt
    by _ at text h = tt

class_is : (Q : (List ℕ × ℕ) × List Terminal → Type 0) (ts : List Terminal) → ((at : ℕ) (text : List ℕ) (rest : List Terminal) → ts ≡ token k.Identifier at text ∷ rest → Q ((text, at), rest)) → IfOk (placed_name ts) Q
unfolding placed_name
class_is Q [] h = tt
class_is Q (t ∷ ts) h = by t.kind t.offset t.text h
  where
    by : (kind : TokenKind) (at : ℕ) (text : List ℕ) → ((name_at : ℕ) (name : List ℕ) (rest : List Terminal) → token kind at text ∷ ts ≡ token k.Identifier name_at name ∷ rest → Q ((name, name_at), rest)) → IfOk (placed_by kind text at (t ∷ ts) ts) Q
    by k.Identifier at text h = h at text ts refl
    by (k.Number v) at text h = tt
    by _ at text h = tt

module _ (nesting c : ℕ) where
  -- after its name an invariant has a colon and an expression
  abbrev Named : List ℕ × ℕ → ℕ → List Terminal → ℕ → List ℕ × List Terminal → Type 0
  Named class n ts at v = (colon_at : ℕ) (colon : List ℕ) (us : List Terminal) → v.1 ≡ token k.Colon colon_at colon ∷ us → (tree : SurfaceTree) (rest : List Terminal) → IsExpr c (suc nesting) us tree rest → IsInvariant nesting c n class.0 class.1 ts (record { name = v.0; context = class.0; offset = at; context_offset = class.1; tree = tree }) rest

  sound_name : (class : List ℕ × ℕ) (n at : ℕ) (text : List ℕ) (ts : List Terminal) → IfOk (rule_name n ts) (Named class n (token k.Inv at text ∷ ts) at)
  unfolding rule_name
  sound_name class n at text ts =
      if_ok (Named class n (token k.Inv at text ∷ ts) at) (next_is g.is_identifier_kind ts) _ _
      (λ h. identifier_is (Named class n (token k.Inv at text ∷ ts) at) ts (λ name_at name vs name_is. λ colon_at colon us is tree rest d. rw (name_is, is) (g.named d)))
      (λ h. λ colon_at colon us is tree rest d. rw is (g.unnamed d))

  sound_invariant_at : (class : List ℕ × ℕ) (n at : ℕ) (text : List ℕ) (ts : List Terminal) → IfOk (invariant_at (expr c (suc nesting)) class n at ts) (λ x. IsInvariant nesting c n class.0 class.1 (token k.Inv at text ∷ ts) x.0 x.1)
  unfolding invariant_at
  sound_invariant_at class n at text ts =
      bind_ok (Named class n (token k.Inv at text ∷ ts) at) _ (rule_name n ts) _ (sound_name class n at text ts)
      (λ v give. bind_ok (λ x. IsInvariant nesting c n class.0 class.1 (token k.Inv at text ∷ ts) (record { name = v.0; context = class.0; offset = at; context_offset = class.1; tree = x.0 }) x.1) (λ x. IsInvariant nesting c n class.0 class.1 (token k.Inv at text ∷ ts) x.0 x.1) (expect m.Colon v.1 >>= expr c (suc nesting)) _
      (expect_ok m.Colon (λ us. v.1 ≡ us) (λ x. IsInvariant nesting c n class.0 class.1 (token k.Inv at text ∷ ts) (record { name = v.0; context = class.0; offset = at; context_offset = class.1; tree = x.0 }) x.1) (expr c (suc nesting))
      (λ colon_at colon us is. weaker (λ x. IsExpr c (suc nesting) us x.0 x.1) _ (expr c (suc nesting) us) (λ x d. give colon_at colon us is x.0 x.1 d) (sound_expr c (suc nesting) us)) v.1 refl)
      (λ x d. d))

  -- an invariant that is read is one by the grammar
  pub sound_invariant : (class : List ℕ × ℕ) (n : ℕ) (ts : List Terminal) → IfOk (invariant (expr c (suc nesting)) class n ts) (λ x. IsInvariant nesting c n class.0 class.1 ts x.0 x.1)
  unfolding invariant
  sound_invariant class n [] = tt
  sound_invariant class n (t ∷ ts) = by t.kind t.offset t.text
    where
      by : (kind : TokenKind) (at : ℕ) (text : List ℕ) → IfOk (invariant_by (expr c (suc nesting)) class n kind at (t ∷ ts) ts) (λ x. IsInvariant nesting c n class.0 class.1 (token kind at text ∷ ts) x.0 x.1)
      by k.Inv at text = sound_invariant_at class n at text ts
      by (k.Number v) at text = tt
      by _ at text = tt

  -- the invariants of a context that are read are so by the grammar
  pub sound_invariants : (class : List ℕ × ℕ) (f : ℕ) (found : List Rule) (ts : List Terminal) → IfOk (invariants (expr c (suc nesting)) class f found ts) (λ x. IsInvariants nesting c class.0 class.1 found ts x.0 x.1)
  unfolding invariants
  sound_invariants class zero found ts = tt
  sound_invariants class (suc f) found ts =
      bind_ok (λ x. IsInvariant nesting c (suc (length found)) class.0 class.1 ts x.0 x.1) (λ y. IsInvariants nesting c class.0 class.1 found ts y.0 y.1) (invariant (expr c (suc nesting)) class (suc (length found)) ts) _ (sound_invariant class (suc (length found)) ts)
      (λ x d. if_ok (λ y. IsInvariants nesting c class.0 class.1 found ts y.0 y.1) (next_is begins_invariant x.1) _ _
      (λ h. weaker (λ y. IsInvariants nesting c class.0 class.1 (found ++ x.0 ∷ []) x.1 y.0 y.1) _ (invariants (expr c (suc nesting)) class f (found ++ x.0 ∷ []) x.1) (λ y e. g.an_invariant d (g.next_invariant h e)) (sound_invariants class f (found ++ x.0 ∷ []) x.1))
      (λ h. g.an_invariant d (g.no_more_invariants h)))

  done_is : (found : List Rule) (ts : List Terminal) → is_done ts ≡ true → IsContexts nesting c found ts found
  done_is found [] h = g.no_context
  done_is found (t ∷ ts) h = absurd (cc)

  -- after the name of its class a context has invariants
  abbrev OpensContext : List Rule → List Terminal → (List ℕ × ℕ) × List Terminal → Type 0
  OpensContext found ts k = (most all : List Rule) (mid : List Terminal) → IsInvariants nesting c k.0.0 k.0.1 found k.1 most mid → IsContexts nesting c most mid all → IsContexts nesting c found ts all

  sound_context : (found : List Rule) (ts : List Terminal) → IfOk (context ts) (OpensContext found ts)
  unfolding context
  sound_context found ts =
      expect_ok m.Context (λ us. ts ≡ us) (OpensContext found ts) placed_name
      (λ at text us is. class_is (OpensContext found ts) us (λ class_at class vs class_is. λ most all mid d e. rw (is, class_is) (g.a_context d e))) ts refl

  -- the contexts that are read are so by the grammar
  pub sound_contexts : (f : ℕ) (found : List Rule) (ts : List Terminal) → IfOk (contexts (expr c (suc nesting)) f found ts) (λ all. IsContexts nesting c found ts all)
  unfolding contexts
  sound_contexts zero found ts = if_ok (λ all. IsContexts nesting c found ts all) (is_done ts) _ _ (λ h. done_is found ts h) (λ h. tt)
  sound_contexts (suc f) found ts =
      if_ok (λ all. IsContexts nesting c found ts all) (is_done ts) _ _ (λ h. done_is found ts h)
      (λ h. bind_ok (OpensContext found ts) (λ all. IsContexts nesting c found ts all) (context ts) _ (sound_context found ts)
      (λ k give. bind_ok (λ x. IsInvariants nesting c k.0.0 k.0.1 found k.1 x.0 x.1) (λ all. IsContexts nesting c found ts all) (invariants (expr c (suc nesting)) k.0 (length k.1) found k.1) _ (sound_invariants k.0 (length k.1) found k.1)
      (λ x d. weaker (λ all. IsContexts nesting c x.0 x.1 all) _ (contexts (expr c (suc nesting)) f x.0 x.1) (λ all e. give x.0 all x.1 d e) (sound_contexts f x.0 x.1))))
