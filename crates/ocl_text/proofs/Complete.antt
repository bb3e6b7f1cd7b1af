-- What the grammar says is read.
use Rattle.std.proofs.Common.{◌≡◌, ℕ, zero, suc, ◌<◌, ◌≤◌, List, [], ◌∷◌, ◌++◌, length, drop, Some, None, Ok, refl, ap, ◌∙◌, Bool, true, false, arith}
use Rattle.std.specs.Prelude.{if◌then◌else◌, codes}
use Rattle.std.proofs.lemmas.Slice.Eq.{bytes_eq-Decides}
use Rattle.ocl_tokens.specs.declared.token.TokenKind.{TokenKind}
use Rattle.ocl_tokens.specs.declared.token.TokenKind.TheVariants as k
use Rattle.ocl_base.specs.Steps.{◌>>=◌}
use Rattle.ocl_text.specs.declared.cursor.Mark.TheVariants as m
use Rattle.ocl_text.specs.declared.tree.IteratorKind.{IteratorKind}
use Rattle.ocl_text.specs.declared.tree.Keyword as word
use Rattle.ocl_text.specs.declared.tree.Keyword.TheVariants as key
use Rattle.ocl_text.specs.declared.tree.Navigation.TheVariants.{Dot, Arrow}
use Rattle.ocl_text.specs.declared.tree.PrefixOperator.TheVariants as pre
use Rattle.ocl_tokens.specs.Terminals.{Terminal}
use Rattle.ocl_text.specs.Tree as t
use Rattle.ocl_text.specs.Tree.{TypeTree, VariableTree, Variables, Unnamed, Single, Pair, Bound, Rule, SurfaceTree, Name, Keyword, EnumerationLiteral, Prefix, Binary, Property, Call, Iterate, lets_at, If, trees_of, binding, fold_with}
use Rattle.ocl_text.specs.declared.cursor.VariableLimit.{VariableLimit}
use Rattle.ocl_text.specs.declared.cursor.VariableLimit.TheVariants.{OneVariable, TwoVariables}
use Rattle.ocl_text.specs.Grammar as g
use Rattle.ocl_text.specs.Grammar.{top, token, Ends, next_is, Next, NotNext, steps_on, opens, closes, separates, keyword_of, begins_variable, iterator_of, is_fold_name, variable_limit, IsExpr, IsBind, IsBinds, MoreBinds, IsUnary, IsPrim, IsLevel, GoesOn, IsSteps, IsArguments, IsItems, MoreItems, IsIteration, IsFold, IsType, IsVariable, declares, begins_invariant, IsInvariant, IsInvariants, MoreInvariants, IsContexts}
use Rattle.ocl_text.specs.Parse as p
use Rattle.ocl_text.specs.Parse.{TokensFault, syntax, too_deep, Reading, Reader, begins, expect, identifier, link, link_by, on_link, chain, levels, unary, unary_over, unary_by, prim_by, expr, expr_over, post, prim, if_expression, step_list, one_step, after_dot, after_arrow, operation_call, called, applied_step, applied_by, a_fold, fold_in, fold_body, arguments, arguments_in, items, a_bind, let_expression, iteration, optional_variables, variables, variables_by, level_of, rule_name, invariant, invariant_at, invariants, context, placed_name, contexts}
use Rattle.ocl_text.proofs.Turns.{expr_plain, steps_none, chain_none}

-- ---- each part takes a token
pub shorter_type : {n : ℕ} {ts rest : List Terminal} {s : TypeTree} → IsType n ts s rest → length rest < length ts
shorter_type (g.a_plain_type h) = omega arith
shorter_type (g.a_type_of d) = let a = shorter_type d in omega arith

shorter_variable : {n : ℕ} {ts rest : List Terminal} {v : VariableTree} → IsVariable n ts v rest → length rest < length ts
shorter_variable (g.untyped h) = omega arith
shorter_variable (g.typed d) = let a = shorter_type d in omega arith

mutual
  -- fewer tokens are left after each part of an expression, and no more after one that may be empty
  pub shorter_expr : {c n : ℕ} {ts rest : List Terminal} {tree : SurfaceTree} → IsExpr c n ts tree rest → length rest < length ts
  shorter_expr (g.let_expression d e) = let a = shorter_binds d in let b = shorter_expr e in omega arith
  shorter_expr (g.plain d) = shorter_level d

  pub shorter_bind : {c n : ℕ} {bound : Bound} {ts rest : List Terminal} → IsBind c n ts bound rest → length rest < length ts
  shorter_bind (g.a_bind y d) = let x = shorter_type y in let a = shorter_level d in omega arith

  pub shorter_binds : {c n : ℕ} {found all : List Bound} {ts rest : List Terminal} → IsBinds c n found ts all rest → length rest < length ts
  shorter_binds (g.some_binds d e) = let a = shorter_bind d in let b = shorter_more_binds e in omega arith

  pub shorter_more_binds : {c n : ℕ} {found all : List Bound} {ts rest : List Terminal} → MoreBinds c n found ts all rest → length rest ≤ length ts
  shorter_more_binds (g.no_more_binds h) = omega arith
  shorter_more_binds (g.next_bind d) = let a = shorter_binds d in omega arith

  pub shorter_unary : {c n : ℕ} {ts rest : List Terminal} {tree : SurfaceTree} → IsUnary c n ts tree rest → length rest < length ts
  shorter_unary (g.minus d) = let a = shorter_unary d in omega arith
  shorter_unary (g.not d) = let a = shorter_unary d in omega arith
  shorter_unary (g.post d e) = let a = shorter_prim d in let b = shorter_steps e in omega arith

  pub shorter_prim : {c n : ℕ} {ts rest : List Terminal} {tree : SurfaceTree} → IsPrim c n ts tree rest → length rest < length ts
  shorter_prim g.a_number = omega arith
  shorter_prim (g.a_name h) = omega arith
  shorter_prim g.a_string = omega arith
  shorter_prim (g.a_keyword h) = omega arith
  shorter_prim g.an_enumeration_literal = omega arith
  shorter_prim (g.parentheses d) = let a = shorter_expr d in omega arith
  shorter_prim (g.if_expression d e f) = let a = shorter_level d in let b = shorter_expr e in let c = shorter_expr f in omega arith

  pub shorter_level : {c n level : ℕ} {ts rest : List Terminal} {tree : SurfaceTree} → IsLevel c n level ts tree rest → length rest < length ts
  shorter_level (g.unary d) = shorter_unary d
  shorter_level (g.chained d e) = let a = shorter_level d in let b = shorter_chain e in omega arith

  pub shorter_chain : {c n level m : ℕ} {left : SurfaceTree} {ts rest : List Terminal} {tree : SurfaceTree} → GoesOn c n level m left ts tree rest → length rest ≤ length ts
  shorter_chain (g.ends h) = omega arith
  shorter_chain (g.more h d e) = let a = shorter_level d in let b = shorter_chain e in omega arith

  pub shorter_steps : {c n m : ℕ} {source : SurfaceTree} {ts rest : List Terminal} {tree : SurfaceTree} → IsSteps c n m source ts tree rest → length rest ≤ length ts
  shorter_steps (g.no_step h) = omega arith
  shorter_steps (g.dot h e) = let b = shorter_steps e in omega arith
  shorter_steps (g.dot_call d e) = let a = shorter_arguments d in let b = shorter_steps e in omega arith
  shorter_steps (g.dot_word h d e) = let a = shorter_arguments d in let b = shorter_steps e in omega arith
  shorter_steps (g.arrow_call h f d e) = let a = shorter_arguments d in let b = shorter_steps e in omega arith
  shorter_steps (g.arrow_iterate h d e) = let a = shorter_iteration d in let b = shorter_steps e in omega arith
  shorter_steps (g.arrow_fold h d e) = let a = shorter_fold d in let b = shorter_steps e in omega arith

  pub shorter_arguments : {c n : ℕ} {ts rest : List Terminal} {all : List SurfaceTree} → IsArguments c n ts all rest → length rest < length ts
  shorter_arguments g.no_argument = omega arith
  shorter_arguments (g.arguments d) = let a = shorter_items d in omega arith

  pub shorter_items : {c n : ℕ} {found all : List SurfaceTree} {ts rest : List Terminal} → IsItems c n found ts all rest → length rest < length ts
  shorter_items (g.an_item d e) = let a = shorter_level d in let b = shorter_more_items e in omega arith

  pub shorter_more_items : {c n : ℕ} {found all : List SurfaceTree} {ts rest : List Terminal} → MoreItems c n found ts all rest → length rest ≤ length ts
  shorter_more_items (g.no_more_items h) = omega arith
  shorter_more_items (g.next_item d) = let a = shorter_items d in omega arith

  pub shorter_iteration : {c n : ℕ} {limit : VariableLimit} {ts rest : List Terminal} {vs : Variables} {body : SurfaceTree} → IsIteration c n limit ts vs body rest → length rest < length ts
  shorter_iteration (g.body_alone h d) = let a = shorter_expr d in omega arith
  shorter_iteration (g.one_variable b v d) = let x = shorter_variable v in let a = shorter_expr d in omega arith
  shorter_iteration (g.two_variables b v w d) = let x = shorter_variable v in let y = shorter_variable w in let a = shorter_expr d in omega arith

  pub shorter_fold : {c n : ℕ} {v : VariableTree} {b : Bound} {body : SurfaceTree} {ts rest : List Terminal} → IsFold c n ts v b body rest → length rest < length ts
  shorter_fold (g.a_fold x d e) = let y = shorter_variable x in let a = shorter_bind d in let b = shorter_expr e in omega arith

-- ---- what an operand begins with, and that it takes a construct's turn

keyword_begins : {value : word.Keyword} (kind : TokenKind) → keyword_of kind ≡ Some value → begins kind ≡ true
keyword_begins k.True h = refl
keyword_begins k.False h = refl
keyword_begins k.Null h = refl
keyword_begins k.Invalid h = refl
keyword_begins k.SelfObject h = refl
keyword_begins (k.Number v) h = absurd (cc)
keyword_begins _ h = absurd (cc)

begins_prim : {c n : ℕ} {ts rest : List Terminal} {tree : SurfaceTree} → IsPrim c n ts tree rest → Next begins ts
begins_prim g.a_number = refl
begins_prim (g.a_name h) = refl
begins_prim g.a_string = refl
begins_prim (g.a_keyword {t = t} h) = keyword_begins t.kind h
begins_prim g.an_enumeration_literal = refl
begins_prim (g.parentheses d) = refl
begins_prim (g.if_expression d e f) = refl

begins_unary : {c n : ℕ} {ts rest : List Terminal} {tree : SurfaceTree} → IsUnary c n ts tree rest → Next begins ts
begins_unary (g.minus d) = refl
begins_unary (g.not d) = refl
begins_unary (g.post d e) = begins_prim d

begins_level : {c n level : ℕ} {ts rest : List Terminal} {tree : SurfaceTree} → IsLevel c n level ts tree rest → Next begins ts
begins_level (g.unary d) = begins_unary d
begins_level (g.chained d e) = begins_level d

begins_items : {c n : ℕ} {found all : List SurfaceTree} {ts rest : List Terminal} → IsItems c n found ts all rest → Next begins ts
begins_items (g.an_item d e) = begins_level d

opens_arguments : {c n : ℕ} {ts rest : List Terminal} {all : List SurfaceTree} → IsArguments c n ts all rest → Next opens ts
opens_arguments g.no_argument = refl
opens_arguments (g.arguments d) = refl

within_unary : {c n : ℕ} {ts rest : List Terminal} {tree : SurfaceTree} → IsUnary c n ts tree rest → 0 < n
within_unary (g.minus d) = omega arith
within_unary (g.not d) = omega arith
within_unary (g.post d e) = omega arith

within_level : {c n level : ℕ} {ts rest : List Terminal} {tree : SurfaceTree} → IsLevel c n level ts tree rest → 0 < n
within_level (g.unary d) = within_unary d
within_level (g.chained d e) = within_level d

within_items : {c n : ℕ} {found all : List SurfaceTree} {ts rest : List Terminal} → IsItems c n found ts all rest → 0 < n
within_items (g.an_item d e) = within_level d

-- ---- single steps of the parser

plain_is : (c n : ℕ) (ts : List Terminal) → 0 < n → Next begins ts → expr c n ts ≡ level_of c n top ts
plain_is c n [] h b = absurd (cc)
plain_is c n (t ∷ ts) h b = expr_plain c n (t ∷ ts) t ts (λ z. omega (arith, h, z)) refl (λ e. by t.kind e b)
  where
    by : (kind : TokenKind) → kind ≡ k.Let → begins kind ≡ true → ⊥
    by kind e b = let f : begins k.Let ≡ true = rw e at b in absurd (cc)

keyword_post : (c n : ℕ) {value : word.Keyword} (t : Terminal) (rest : List Terminal) → keyword_of t.kind ≡ Some value → unary c (suc n) (t ∷ rest) ≡ post c n (level_of c n top) (expr c n) (t ∷ rest)
unfolding unary unary_over
keyword_post c n t rest h = by t.kind h
  where
    by : {value : word.Keyword} (kind : TokenKind) → keyword_of kind ≡ Some value → unary_by c n (level_of c n top) (expr c n) (unary c n) kind t.offset (t ∷ rest) rest ≡ post c n (level_of c n top) (expr c n) (t ∷ rest)
    by k.Minus h = absurd (cc)
    by k.Not h = absurd (cc)
    by (k.Number v) h = refl
    by _ h = refl

keyword_prim : (operand whole : Reader SurfaceTree) (value : word.Keyword) (t : Terminal) (rest : List Terminal) → keyword_of t.kind ≡ Some value → prim operand whole (t ∷ rest) ≡ Ok (Keyword value t.offset, rest)
unfolding prim
keyword_prim operand whole value t rest h = by t.kind h
  where
    by : (kind : TokenKind) → keyword_of kind ≡ Some value → prim_by operand whole kind t.offset t.text (t ∷ rest) rest ≡ Ok (Keyword value t.offset, rest)
    by k.True h = let e : key.True ≡ value = cc in ap (λ v. Ok (Keyword v t.offset, rest)) e
    by k.False h = let e : key.False ≡ value = cc in ap (λ v. Ok (Keyword v t.offset, rest)) e
    by k.Null h = let e : key.Null ≡ value = cc in ap (λ v. Ok (Keyword v t.offset, rest)) e
    by k.Invalid h = let e : key.Invalid ≡ value = cc in ap (λ v. Ok (Keyword v t.offset, rest)) e
    by k.SelfObject h = let e : key.SelfObject ≡ value = cc in ap (λ v. Ok (Keyword v t.offset, rest)) e
    by (k.Number v) h = absurd (cc)
    by _ h = absurd (cc)

name_is : (text : List ℕ) (at : ℕ) (ts : List Terminal) → NotNext g.qualifies ts → p.name_or_literal text at ts ≡ Ok (Name text at, ts)
unfolding p.name_or_literal
name_is text at ts h = rw h refl

word_dot : (n : ℕ) (operand whole : Reader SurfaceTree) (source : SurfaceTree) (t : Terminal) (ts : List Terminal) → g.is_word_operator t.kind ≡ true → after_dot n operand whole source (t ∷ ts) ≡ operation_call n operand whole source Dot t.text t.offset ts
unfolding after_dot
word_dot n operand whole source t ts h = by t.kind h
  where
    by : (kind : TokenKind) → g.is_word_operator kind ≡ true → p.after_dot_by n operand whole source kind t.text t.offset (t ∷ ts) ts ≡ operation_call n operand whole source Dot t.text t.offset ts
    by k.Div h = refl
    by k.Mod h = refl
    by (k.Number v) h = absurd (cc)
    by _ h = absurd (cc)

post_is : {c n : ℕ} {ts rest : List Terminal} {tree : SurfaceTree} → IsPrim c n ts tree rest → unary c (suc n) ts ≡ post c n (level_of c n top) (expr c n) ts
unfolding unary unary_over
post_is g.a_number = refl
post_is (g.a_name h) = refl
post_is g.a_string = refl
post_is {c} {n} (g.a_keyword {t = t} {rest = rest} h) = keyword_post c n t rest h
post_is g.an_enumeration_literal = refl
post_is (g.parentheses d) = refl
post_is (g.if_expression d e f) = refl

no_link : (level : ℕ) (ts : List Terminal) → Ends level ts → link level ts ≡ None
unfolding link
no_link level [] h = refl
no_link level (t ∷ ts) h = ap (λ o. link_by o t.offset ts) h

closes_not : (ts : List Terminal) → Next begins ts → next_is closes ts ≡ false
closes_not [] h = refl
closes_not (t ∷ ts) h = by t.kind h
  where
    by : (kind : TokenKind) → begins kind ≡ true → closes kind ≡ false
    by k.Close h = absurd (cc)
    by (k.Number v) h = refl
    by _ h = refl

arguments_is : (operand : Reader SurfaceTree) (n : ℕ) (us : List Terminal) → 0 < n → next_is closes us ≡ false → arguments_in operand n us ≡ (items operand (length us) [] us >>= λ x. expect m.Close x.1 >>= λ rest. Ok (x.0, rest))
unfolding arguments_in
arguments_is operand zero us h e = absurd (omega (arith, h))
arguments_is operand (suc n) us h e = rw e refl

-- the name of an iteration is not that of a fold
no_fold : (text : List ℕ) (kind : IteratorKind) → iterator_of text ≡ Some kind → is_fold_name text ≡ false
no_fold text kind h = by (is_fold_name text) (bytes_eq-Decides text (codes "iterate")).0
  where
    by : (b : Bool) → (b ≡ true → text ≡ codes "iterate") → b ≡ false
    by true is = let none = rw (is refl) at h in absurd (cc (none))
    by false is = refl

module _ (n : ℕ) (operand whole : Reader SurfaceTree) where
  property_is : (source : SurfaceTree) (text : List ℕ) (at : ℕ) (ts : List Terminal) → NotNext opens ts → called n operand whole source text at ts ≡ Ok (Property source text at, ts)
  unfolding called
  property_is source text at ts h = rw h refl

  call_is : (source : SurfaceTree) (text : List ℕ) (at : ℕ) (ts : List Terminal) → Next opens ts → called n operand whole source text at ts ≡ operation_call n operand whole source Dot text at ts
  unfolding called
  call_is source text at ts h = rw h refl

  applied_call : (source : SurfaceTree) (text : List ℕ) (at : ℕ) (ts : List Terminal) → iterator_of text ≡ None → is_fold_name text ≡ false → applied_step n operand whole source text at ts ≡ operation_call n operand whole source Arrow text at ts
  unfolding applied_step
  applied_call source text at ts h f = rw f (ap (λ o. applied_by n operand whole o source text at ts) h)

  applied_iterate : (source : SurfaceTree) (text : List ℕ) (at : ℕ) (ts : List Terminal) (kind : IteratorKind) → iterator_of text ≡ Some kind → applied_step n operand whole source text at ts ≡ (iteration n whole (variable_limit kind) ts >>= λ x. Ok (Iterate source kind x.0.0 x.0.1 at, x.1))
  unfolding applied_step
  applied_iterate source text at ts kind h = rw (no_fold text kind h) (ap (λ o. applied_by n operand whole o source text at ts) h)

  applied_fold : (source : SurfaceTree) (text : List ℕ) (at : ℕ) (ts : List Terminal) → is_fold_name text ≡ true → applied_step n operand whole source text at ts ≡ a_fold n operand whole source at ts
  unfolding applied_step
  applied_fold source text at ts f = rw f refl

-- an iteration whose first tokens begin no variable has none
pub no_variable_is : (n : ℕ) (limit : VariableLimit) (ts : List Terminal) → begins_variable ts ≡ false → optional_variables n limit ts ≡ Ok (Unnamed, ts)
unfolding optional_variables
no_variable_is n limit ts h = rw h refl

-- each type that the grammar allows is read
pub complete_type : {n : ℕ} {ts rest : List Terminal} {s : TypeTree} → IsType n ts s rest → p.a_type n ts ≡ Ok (s, rest)
unfolding p.a_type p.type_over expect
complete_type (g.a_plain_type h) = rw h refl
complete_type (g.a_type_of {offset = at} {text = text} d) = ap (λ r. r >>= λ x. expect m.Close x.1 >>= λ rest. Ok (t.Collection text x.0 at, rest)) (complete_type d)

abbrev typed_as : List ℕ → TypeTree × List Terminal → Reading (VariableTree)
typed_as text s = Ok ((text, Some s.0), s.1)

-- each variable of an iteration that the grammar allows is read
pub complete_variable : {n : ℕ} {ts rest : List Terminal} {v : VariableTree} → IsVariable n ts v rest → p.a_variable n ts ≡ Ok (v, rest)
unfolding p.a_variable identifier
complete_variable (g.untyped h) = rw h refl
complete_variable (g.typed {text = text} d) = ap (λ r. r >>= typed_as text) (complete_type d)

one_bar : (n : ℕ) (limit : VariableLimit) (v : VariableTree) (at : ℕ) (text : List ℕ) (ts : List Terminal) → variables_by n limit v (token k.Bar at text ∷ ts) ≡ Ok (Single v, ts)
unfolding variables_by expect
one_bar n TwoVariables v at text ts = refl
one_bar n OneVariable v at text ts = refl

one_is : (n : ℕ) (limit : VariableLimit) (us : List Terminal) (v : VariableTree) (at : ℕ) (text : List ℕ) (ts : List Terminal) → begins_variable us ≡ true → p.a_variable (suc n) us ≡ Ok (v, token k.Bar at text ∷ ts) → optional_variables (suc n) limit us ≡ Ok (Single v, ts)
unfolding optional_variables variables
one_is n limit us v at text ts b e = rw b (ap (λ r. r >>= λ x. variables_by (suc n) limit x.0 x.1) e ∙ one_bar (suc n) limit v at text ts)

two_is : (n : ℕ) (us vs : List Terminal) (v w : VariableTree) (comma_at at : ℕ) (comma text : List ℕ) (ts : List Terminal) → begins_variable us ≡ true → p.a_variable (suc n) us ≡ Ok (v, token k.Comma comma_at comma ∷ vs) → p.a_variable (suc n) vs ≡ Ok (w, token k.Bar at text ∷ ts) → optional_variables (suc n) TwoVariables us ≡ Ok (Pair v w, ts)
unfolding optional_variables variables variables_by expect
two_is n us vs v w comma_at at comma text ts b e f = rw b (ap (λ r. r >>= λ x. variables_by (suc n) TwoVariables x.0 x.1) e ∙ ap (λ r. r >>= λ x. expect m.Bar x.1 >>= λ rest. Ok (Pair v x.0, rest)) f)

abbrev named : List ℕ × ℕ → TypeTree → SurfaceTree × List Terminal → Reading Bound
named name declared x = Ok (binding name declared x.0, x.1)

abbrev after_type : Reader SurfaceTree → List ℕ × ℕ → TypeTree × List Terminal → Reading Bound
after_type operand name s = expect m.Equal s.1 >>= operand >>= named name s.0

-- ---- what the grammar says is read

mutual
  unfolding p.name_or_literal unary levels operation_call unary_over expr expr_over chain link step_list one_step after_dot after_arrow arguments arguments_in items a_bind let_expression iteration a_fold fold_in fold_body optional_variables variables expect identifier placed_name post prim if_expression variables_by

  -- each part of an expression that the grammar allows is read, under the same limits
  pub complete_expr : {c n : ℕ} {ts rest : List Terminal} {tree : SurfaceTree} → IsExpr c n ts tree rest → expr c n ts ≡ Ok (tree, rest)
  complete_expr {c} (g.let_expression {m = n} {offset = at} {ts = ts} {bindings = bindings} d e) =
      ap (λ r. r >>= λ x. expect m.In x.1 >>= expr c (suc n) >>= λ y. Ok (lets_at at x.0 y.0, y.1)) (complete_binds d (length ts) (omega arith))
      ∙ ap (λ r. r >>= λ y. Ok (lets_at at bindings y.0, y.1)) (complete_expr e)
  complete_expr {c} (g.plain {n = n} {ts = ts} d) = plain_is c n ts (within_level d) (begins_level d) ∙ complete_level d

  pub complete_bind : {c n : ℕ} {bound : Bound} {ts rest : List Terminal} → IsBind c n ts bound rest → a_bind n (level_of c n top) ts ≡ Ok (bound, rest)
  complete_bind {c} (g.a_bind {n = n} {offset = at} {text = text} {declared = declared} y d) =
      ap (λ r. r >>= after_type (level_of c n top) (text, at)) (complete_type y)
      ∙ ap (λ r. r >>= named (text, at) declared) (complete_level d)

  pub complete_binds : {c n : ℕ} {found all : List Bound} {ts rest : List Terminal} → IsBinds c n found ts all rest → (f : ℕ) → length ts ≤ f → items (a_bind n (level_of c n top)) f found ts ≡ Ok (all, rest)
  complete_binds (g.some_binds d e) zero h = let a = shorter_bind d in absurd (omega (arith, h))
  complete_binds {c} (g.some_binds {n = n} {found = found} d e) (suc f) h =
      ap (λ r. r >>= λ x. if next_is separates x.1 then items (a_bind n (level_of c n top)) f (found ++ x.0 ∷ []) (drop 1 x.1) else Ok (found ++ x.0 ∷ [], x.1)) (complete_bind d)
      ∙ complete_more_binds e f (let a = shorter_bind d in omega (arith, h))

  pub complete_more_binds : {c n : ℕ} {found all : List Bound} {ts rest : List Terminal} → MoreBinds c n found ts all rest → (f : ℕ) → length ts ≤ f
      → (if next_is separates ts then items (a_bind n (level_of c n top)) f found (drop 1 ts) else Ok (found, ts)) ≡ Ok (all, rest)
  complete_more_binds (g.no_more_binds h) f l = rw h refl
  complete_more_binds (g.next_bind d) f l = complete_binds d f (omega (arith, l))

  pub complete_unary : {c n : ℕ} {ts rest : List Terminal} {tree : SurfaceTree} → IsUnary c n ts tree rest → unary c n ts ≡ Ok (tree, rest)
  complete_unary (g.minus {offset = at} d) = ap (λ r. r >>= λ x. Ok (Prefix pre.Negate x.0 at, x.1)) (complete_unary d)
  complete_unary (g.not {offset = at} d) = ap (λ r. r >>= λ x. Ok (Prefix pre.Not x.0 at, x.1)) (complete_unary d)
  complete_unary {c} (g.post {n = n} d e) = post_is d ∙ ap (λ r. r >>= λ x. step_list n (level_of c n top) (expr c n) c x.0 x.1) (complete_prim d) ∙ complete_steps e

  pub complete_prim : {c n : ℕ} {ts rest : List Terminal} {tree : SurfaceTree} → IsPrim c n ts tree rest → prim (level_of c n top) (expr c n) ts ≡ Ok (tree, rest)
  complete_prim g.a_number = refl
  complete_prim (g.a_name {offset = at} {text = text} {rest = rest} h) = name_is text at rest h
  complete_prim g.a_string = refl
  complete_prim {c} (g.a_keyword {n = n} {t = t} {value = value} {rest = rest} h) = keyword_prim (level_of c n top) (expr c n) value t rest h
  complete_prim g.an_enumeration_literal = refl
  complete_prim (g.parentheses d) = ap (λ r. r >>= λ x. expect m.Close x.1 >>= λ rest. Ok (x.0, rest)) (complete_expr d)
  complete_prim {c} (g.if_expression {n = n} {offset = at} {condition = condition} {then_branch = chosen} d e f) =
      ap (λ r. r >>= λ x. expect m.Then x.1 >>= expr c n >>= λ y. expect m.Else y.1 >>= expr c n >>= λ z. expect m.Endif z.1 >>= λ rest. Ok (If x.0 y.0 z.0 at, rest)) (complete_level d)
      ∙ ap (λ r. r >>= λ y. expect m.Else y.1 >>= expr c n >>= λ z. expect m.Endif z.1 >>= λ rest. Ok (If condition y.0 z.0 at, rest)) (complete_expr e)
      ∙ ap (λ r. r >>= λ z. expect m.Endif z.1 >>= λ rest. Ok (If condition chosen z.0 at, rest)) (complete_expr f)

  pub complete_level : {c n level : ℕ} {ts rest : List Terminal} {tree : SurfaceTree} → IsLevel c n level ts tree rest → level_of c n level ts ≡ Ok (tree, rest)
  complete_level (g.unary d) = complete_unary d
  complete_level {c} (g.chained {n = n} {level = level} d e) = ap (λ r. r >>= λ left. chain (level_of c n level) level c left.0 left.1) (complete_level d) ∙ complete_chain e

  pub complete_chain : {c n level m : ℕ} {left : SurfaceTree} {ts rest : List Terminal} {tree : SurfaceTree} → GoesOn c n level m left ts tree rest → chain (level_of c n level) level m left ts ≡ Ok (tree, rest)
  complete_chain {c} (g.ends {n = n} {level = level} {c = m} {rest = rest} {left = left} h) = chain_none (level_of c n level) level m left rest (no_link (suc level) rest h)
  complete_chain {c} (g.more {n = n} {level = level} {c = m} {t = t} {ts = ts} {op = op} {left = left} h d e) =
      ap (λ o. on_link (link_by o t.offset ts) (Ok (left, t ∷ ts)) (λ l. level_of c n level l.2 >>= λ right. chain (level_of c n level) level m (Binary l.0 left right.0 l.1) right.1)) h
      ∙ ap (λ r. r >>= λ right. chain (level_of c n level) level m (Binary op left right.0 t.offset) right.1) (complete_level d)
      ∙ complete_chain e

  pub complete_steps : {c n m : ℕ} {source : SurfaceTree} {ts rest : List Terminal} {tree : SurfaceTree} → IsSteps c n m source ts tree rest → step_list n (level_of c n top) (expr c n) m source ts ≡ Ok (tree, rest)
  complete_steps {c} (g.no_step {n = n} {c = m} {rest = rest} {source = source} h) = steps_none n (level_of c n top) (expr c n) m source rest h
  complete_steps {c} (g.dot {n = n} {c = m} {offset = at} {text = text} {ts = ts} {source = source} h e) =
      ap (λ r. r >>= λ x. step_list n (level_of c n top) (expr c n) m x.0 x.1) (property_is n (level_of c n top) (expr c n) source text at ts h) ∙ complete_steps e
  complete_steps {c} (g.dot_call {n = n} {c = m} {offset = at} {text = text} {ts = ts} {source = source} d e) =
      ap (λ r. r >>= λ x. step_list n (level_of c n top) (expr c n) m x.0 x.1) (call_is n (level_of c n top) (expr c n) source text at ts (opens_arguments d) ∙ ap (λ r. r >>= λ x. Ok (Call source Dot text (trees_of x.0) at, x.1)) (complete_arguments d)) ∙ complete_steps e
  complete_steps {c} (g.dot_word {n = n} {c = m} {t = t} {ts = ts} {source = source} h d e) =
      ap (λ r. r >>= λ x. step_list n (level_of c n top) (expr c n) m x.0 x.1) (word_dot n (level_of c n top) (expr c n) source t ts h ∙ ap (λ r. r >>= λ x. Ok (Call source Dot t.text (trees_of x.0) t.offset, x.1)) (complete_arguments d)) ∙ complete_steps e
  complete_steps {c} (g.arrow_call {n = n} {c = m} {offset = at} {text = text} {ts = ts} {source = source} h f d e) =
      ap (λ r. r >>= λ x. step_list n (level_of c n top) (expr c n) m x.0 x.1) (applied_call n (level_of c n top) (expr c n) source text at ts h f ∙ ap (λ r. r >>= λ x. Ok (Call source Arrow text (trees_of x.0) at, x.1)) (complete_arguments d)) ∙ complete_steps e
  complete_steps {c} (g.arrow_iterate {n = n} {c = m} {offset = at} {text = text} {ts = ts} {source = source} {kind = kind} h d e) =
      ap (λ r. r >>= λ x. step_list n (level_of c n top) (expr c n) m x.0 x.1) (applied_iterate n (level_of c n top) (expr c n) source text at ts kind h ∙ ap (λ r. r >>= λ x. Ok (Iterate source kind x.0.0 x.0.1 at, x.1)) (complete_iteration d)) ∙ complete_steps e
  complete_steps {c} (g.arrow_fold {n = n} {c = m} {offset = at} {text = text} {ts = ts} {source = source} h d e) =
      ap (λ r. r >>= λ x. step_list n (level_of c n top) (expr c n) m x.0 x.1) (applied_fold n (level_of c n top) (expr c n) source text at ts h ∙ complete_fold d source at) ∙ complete_steps e

  pub complete_arguments : {c n : ℕ} {ts rest : List Terminal} {all : List SurfaceTree} → IsArguments c n ts all rest → arguments (level_of c n top) n ts ≡ Ok (all, rest)
  complete_arguments g.no_argument = refl
  complete_arguments {c} (g.arguments {n = n} {ts = ts} d) = arguments_is (level_of c n top) n ts (within_items d) (closes_not ts (begins_items d)) ∙ ap (λ r. r >>= λ x. expect m.Close x.1 >>= λ rest. Ok (x.0, rest)) (complete_items d (length ts) (omega arith))

  pub complete_items : {c n : ℕ} {found all : List SurfaceTree} {ts rest : List Terminal} → IsItems c n found ts all rest → (f : ℕ) → length ts ≤ f → items (level_of c n top) f found ts ≡ Ok (all, rest)
  complete_items (g.an_item d e) zero h = let a = shorter_level d in absurd (omega (arith, h))
  complete_items {c} (g.an_item {n = n} {found = found} {item = item} d e) (suc f) h =
      ap (λ r. r >>= λ x. if next_is separates x.1 then items (level_of c n top) f (found ++ x.0 ∷ []) (drop 1 x.1) else Ok (found ++ x.0 ∷ [], x.1)) (complete_level d)
      ∙ complete_more_items e f (let a = shorter_level d in omega (arith, h))

  pub complete_more_items : {c n : ℕ} {found all : List SurfaceTree} {ts rest : List Terminal} → MoreItems c n found ts all rest → (f : ℕ) → length ts ≤ f
      → (if next_is separates ts then items (level_of c n top) f found (drop 1 ts) else Ok (found, ts)) ≡ Ok (all, rest)
  complete_more_items (g.no_more_items h) f l = rw h refl
  complete_more_items (g.next_item d) f l = complete_items d f (omega (arith, l))

  pub complete_iteration : {c n : ℕ} {limit : VariableLimit} {ts rest : List Terminal} {vs : Variables} {tree : SurfaceTree} → IsIteration c n limit ts vs tree rest → iteration n (expr c n) limit ts ≡ Ok ((vs, tree), rest)
  complete_iteration {c} (g.body_alone {n = n} {limit = limit} {ts = ts} h d) =
      ap (λ r. r >>= λ vs. expr c n vs.1 >>= λ x. expect m.Close x.1 >>= λ rest. Ok ((vs.0, x.0), rest)) (no_variable_is n limit ts h)
      ∙ ap (λ r. r >>= λ x. expect m.Close x.1 >>= λ rest. Ok ((Unnamed, x.0), rest)) (complete_expr d)
  complete_iteration {c} (g.one_variable {m = n} {bar_offset = bar_at} {limit = limit} {bar = bar} {us = us} {ts = ts} {v = v} b x d) =
      ap (λ r. r >>= λ vs. expr c (suc n) vs.1 >>= λ x. expect m.Close x.1 >>= λ rest. Ok ((vs.0, x.0), rest)) (one_is n limit us v bar_at bar ts b (complete_variable x))
      ∙ ap (λ r. r >>= λ x. expect m.Close x.1 >>= λ rest. Ok ((Single v, x.0), rest)) (complete_expr d)
  complete_iteration {c} (g.two_variables {m = n} {comma_offset = comma_at} {bar_offset = bar_at} {comma = comma} {bar = bar} {us = us} {vs = ws} {ts = ts} {v = v} {w = w} b x y d) =
      ap (λ r. r >>= λ vs. expr c (suc n) vs.1 >>= λ x. expect m.Close x.1 >>= λ rest. Ok ((vs.0, x.0), rest)) (two_is n us ws v w comma_at bar_at comma bar ts b (complete_variable x) (complete_variable y))
      ∙ ap (λ r. r >>= λ x. expect m.Close x.1 >>= λ rest. Ok ((Pair v w, x.0), rest)) (complete_expr d)

  pub complete_fold : {c n : ℕ} {v : VariableTree} {b : Bound} {body : SurfaceTree} {ts rest : List Terminal} → IsFold c n ts v b body rest → (source : SurfaceTree) (at : ℕ) → a_fold n (level_of c n top) (expr c n) source at ts ≡ Ok (fold_with source v b body at, rest)
  complete_fold {c} (g.a_fold {m = n} {variable = v} {accumulator = b} x d e) source at =
      ap (λ r. r >>= λ v. expect m.Semicolon v.1 >>= a_bind (suc n) (level_of c (suc n) top) >>= λ b. fold_body (expr c (suc n)) source v.0 b.0 at b.1) (complete_variable x)
      ∙ ap (λ r. r >>= λ b. fold_body (expr c (suc n)) source v b.0 at b.1) (complete_bind d)
      ∙ ap (λ r. r >>= λ x. expect m.Close x.1 >>= λ rest. Ok (fold_with source v b x.0 at, rest)) (complete_expr e)

-- ---- rules

-- fewer tokens are left after an invariant than there were
pub shorter_invariant : {nesting c n class_at : ℕ} {class : List ℕ} {ts rest : List Terminal} {rule : Rule} → IsInvariant nesting c n class class_at ts rule rest → length rest < length ts
shorter_invariant (g.named d) = let a = shorter_expr d in omega arith
shorter_invariant (g.unnamed d) = let a = shorter_expr d in omega arith

mutual
  -- fewer tokens are left after the invariants of a context
  pub shorter_invariants : {nesting c class_at : ℕ} {class : List ℕ} {found all : List Rule} {ts rest : List Terminal} → IsInvariants nesting c class class_at found ts all rest → length rest < length ts
  shorter_invariants (g.an_invariant d e) = let a = shorter_invariant d in let b = shorter_more_invariants e in omega arith

  shorter_more_invariants : {nesting c class_at : ℕ} {class : List ℕ} {found all : List Rule} {ts rest : List Terminal} → MoreInvariants nesting c class class_at found ts all rest → length rest ≤ length ts
  shorter_more_invariants (g.no_more_invariants h) = omega arith
  shorter_more_invariants (g.next_invariant h d) = let a = shorter_invariants d in omega arith

abbrev made : List ℕ × ℕ → ℕ → List ℕ → SurfaceTree × List Terminal → Reading Rule
made class at given x = Ok (record { name = given; context = class.0; offset = at; context_offset = class.1; tree = x.0 }, x.1)

complete_invariant : {nesting c n class_at : ℕ} {class : List ℕ} {ts rest : List Terminal} {rule : Rule} → IsInvariant nesting c n class class_at ts rule rest → invariant (expr c (suc nesting)) (class, class_at) n ts ≡ Ok (rule, rest)
unfolding invariant invariant_at rule_name expect identifier
complete_invariant {class_at = class_at} {class = class} (g.named {offset = at} {name = given} d) = ap (λ r. r >>= made (class, class_at) at given) (complete_expr d)
complete_invariant {class_at = class_at} {class = class} (g.unnamed {n = n} {offset = at} d) = ap (λ r. r >>= made (class, class_at) at (g.numbered n)) (complete_expr d)

mutual
  unfolding invariants

  complete_invariants : {nesting c class_at : ℕ} {class : List ℕ} {found all : List Rule} {ts rest : List Terminal} → IsInvariants nesting c class class_at found ts all rest → (f : ℕ) → length ts ≤ f → invariants (expr c (suc nesting)) (class, class_at) f found ts ≡ Ok (all, rest)
  complete_invariants (g.an_invariant d e) zero h = let a = shorter_invariant d in absurd (omega (arith, h))
  complete_invariants {nesting} {c} {class_at} {class} (g.an_invariant {found = found} d e) (suc f) h =
      ap (λ r. r >>= λ x. if next_is begins_invariant x.1 then invariants (expr c (suc nesting)) (class, class_at) f (found ++ x.0 ∷ []) x.1 else Ok (found ++ x.0 ∷ [], x.1)) (complete_invariant d)
      ∙ complete_more_invariants e f (let a = shorter_invariant d in omega (arith, h))

  complete_more_invariants : {nesting c class_at : ℕ} {class : List ℕ} {found all : List Rule} {ts rest : List Terminal} → MoreInvariants nesting c class class_at found ts all rest → (f : ℕ) → length ts ≤ f
      → (if next_is begins_invariant ts then invariants (expr c (suc nesting)) (class, class_at) f found ts else Ok (found, ts)) ≡ Ok (all, rest)
  complete_more_invariants (g.no_more_invariants h) f l = rw h refl
  complete_more_invariants (g.next_invariant h d) f l = rw h (complete_invariants d f l)

-- each list of contexts that the grammar allows is read, with as many turns as it has tokens or more
pub complete_contexts : {nesting c : ℕ} {found all : List Rule} {ts : List Terminal} → IsContexts nesting c found ts all → (f : ℕ) → length ts ≤ f → contexts (expr c (suc nesting)) f found ts ≡ Ok all
unfolding contexts context placed_name expect
complete_contexts g.no_context zero h = refl
complete_contexts g.no_context (suc f) h = refl
complete_contexts (g.a_context d e) zero h = absurd (omega (arith, h))
complete_contexts {nesting} {c} (g.a_context {ts = ts} {found = found} d e) (suc f) h =
    ap (λ r. r >>= λ x. contexts (expr c (suc nesting)) f x.0 x.1) (complete_invariants d (length ts) (omega arith))
    ∙ complete_contexts e f (let a = shorter_invariants d in omega (arith, h))
