-- Where the steps after a source stop, they can be completed under wider limits.
use Rattle.std.proofs.Common.{◌≡◌, ℕ, zero, suc, ◌<◌, List, [], ◌∷◌, ◌++◌, length, Option, Some, None, Result, Ok, Err, refl, ap, ◌∙◌, Bool, true, false, inl, inr, ◌⊎◌, arith, IfOk}
use Rattle.std.specs.Prelude.{if◌then◌else◌}
use Rattle.ocl_tokens.specs.declared.token.TokenKind.{TokenKind}
use Rattle.ocl_tokens.specs.declared.token.TokenKind.TheVariants as k
use Rattle.ocl_base.specs.Steps.{◌>>=◌}
use Rattle.ocl_text.specs.declared.cursor.Mark.{Mark}
use Rattle.ocl_text.specs.declared.cursor.Mark.TheVariants as m
use Rattle.ocl_text.specs.declared.tree.IteratorKind.{IteratorKind}
use Rattle.ocl_text.specs.declared.tree.Navigation.{Navigation}
use Rattle.ocl_text.specs.declared.tree.Navigation.TheVariants.{Dot, Arrow}
use Rattle.ocl_tokens.specs.Terminals.{Terminal}
use Rattle.ocl_text.specs.Tree.{VariableTree, Variables, Unnamed, Bound, SurfaceTree, Name, Iterate, fold_with}
use Rattle.ocl_text.specs.RuleText.{Agrees}
use Rattle.ocl_text.specs.declared.cursor.VariableLimit.{VariableLimit}
use Rattle.ocl_text.specs.Grammar.{is_mark, token, next_is, Next, is_identifier_kind, ends_variable, begins_variable, steps_on, declares, iterator_of, is_fold_name, variable_limit, IsExpr}
use Rattle.ocl_text.specs.Parse as p
use Rattle.ocl_text.specs.Parse.{TokensFault, syntax, too_deep, Reading, Reader, begins, expect, level_of, expr, step_list, one_step, after_dot, called, operation_call, after_arrow, applied_step, applied_by, a_bind, a_fold, fold_in, fold_body, iteration, optional_variables, variables, variables_by}
use Rattle.ocl_text.proofs.Complete.{no_variable_is, shorter_expr}
use Rattle.ocl_text.proofs.Sound.{bind_ok, sound_expr}
use Rattle.ocl_text.proofs.Shut.{fold_shut}
use Rattle.ocl_text.proofs.Turns.{steps_none, steps_deep, steps_more}
use Rattle.ocl_text.proofs.Wider.{deeper, longer}
use Rattle.ocl_text.proofs.Prefixes.{Completes, Sees, Opens, Any, bind, default_of, sees_as, skip, pass, stuck, blocked, begun_as, sees_expect, assoc}
use Rattle.ocl_text.proofs.Stops.{May, stops, may_not, next_not, mark_next, mark_may, mark_not, declared_after, sees_shut, sees_declared, sees_variable, sees_variables_by}
use Rattle.ocl_text.proofs.Spelled.{name_word, mark_word, stop_steps, steps_done, name_expr}
use Rattle.ocl_text.proofs.Lists.{Shortens}
use Rattle.ocl_text.proofs.Parts.{counts, sees_bind, sees_called, sees_operation_call}

-- ---- iterations

-- after the parenthesis: the variables, where there are any, and the body
abbrev body_after : Reader SurfaceTree → Variables → Reader (Variables × SurfaceTree)
body_after whole vs us = whole us >>= λ x. expect m.Close x.1 >>= λ rest. Ok ((vs, x.0), rest)

abbrev iterated : ℕ → Reader SurfaceTree → VariableLimit → Reader (Variables × SurfaceTree)
iterated n whole limit us = optional_variables n limit us >>= λ vs. body_after whole vs.0 vs.1

abbrev unread : Reader (Variables)
unread us = Ok (Unnamed, us)

iteration_is : (n : ℕ) (whole : Reader SurfaceTree) (limit : VariableLimit) (us : List Terminal) → iteration n whole limit us ≡ (expect m.Open us >>= iterated n whole limit)
unfolding iteration
iteration_is n whole limit us = by (expect m.Open us)
  where
    by : (r : Result (List Terminal) TokensFault) → (r >>= optional_variables n limit >>= λ vs. whole vs.1 >>= λ x. expect m.Close x.1 >>= λ rest. Ok ((vs.0, x.0), rest)) ≡ (r >>= iterated n whole limit)
    by (Ok x) = refl
    by (Err e) = refl

count_names : (kind : TokenKind) → counts kind ≡ true → is_identifier_kind kind ≡ false
count_names k.Identifier h = absurd (cc)
count_names (k.Number v) h = refl
count_names _ h = refl

no_name_no_variable : (us : List Terminal) → next_is is_identifier_kind us ≡ false → begins_variable us ≡ false
no_name_no_variable us h = rw h refl

expect_takes : (mark : Mark) (us : List Terminal) → IfOk (expect mark us) (λ vs. length vs < length us)
unfolding expect
expect_takes mark [] = tt
expect_takes mark (u ∷ us) = by (is_mark mark u.kind)
  where
    by : (v : Bool) → IfOk (if v then Ok us else Err (syntax (u ∷ us))) (λ vs. length vs < length (u ∷ us))
    by true = omega arith
    by false = tt

-- an expression whose first token is a name, which is too deep where none may stand
abbrev pub SeesName : ℕ → ℕ → ℕ → ℕ → Type 0
SeesName a b c zero = (at : ℕ) (text : List ℕ) (us : List Terminal) → expr c zero (token k.Identifier at text ∷ us) ≡ Err (too_deep (token k.Identifier at text ∷ us))
SeesName a b c (suc n) = (at : ℕ) (text : List ℕ) (us : List Terminal) → Sees (λ vs. expr c (suc n) (token k.Identifier at text ∷ vs)) (λ vs. expr (longer b c) (suc (deeper a n)) (token k.Identifier at text ∷ vs)) (May stops) (May stops) us

module _ (a b c : ℕ) (limit : VariableLimit) where
  module _ (n : ℕ) (sees_whole : (ts : List Terminal) → Sees (expr c n) (expr (longer b c) (deeper a n)) (May stops) (Next counts) ts) where
    sees_body : (vs : Variables) (ts : List Terminal) → Sees (body_after (expr c n) vs) (body_after (expr (longer b c) (deeper a n)) vs) (May stops) (Next counts) ts
    sees_body vs ts =
        bind (expr c n) (expr (longer b c) (deeper a n)) (λ x us. expect m.Close us >>= λ rest. Ok ((vs, x), rest)) (λ x us. expect m.Close us >>= λ rest. Ok ((vs, x), rest)) (May stops) (May stops) (Next (is_mark m.Close)) (Next counts) ts (mark_may m.Close stops refl) (sees_whole ts)
        (λ x us. sees_expect m.Close _ _ (May stops) (May stops) (λ rest. pass (vs, x) (May stops) rest) us)

    no_variable : (ts : List Terminal) → ((us : List Terminal) → Agrees ts us → next_is is_identifier_kind us ≡ false) → Sees (iterated n (expr c n) limit) (iterated (deeper a n) (expr (longer b c) (deeper a n)) limit) (May stops) (Next counts) ts
    no_variable ts h =
        sees_as _ _ _ _ (May stops) (Next counts) ts
        (λ us w. ap (λ r. r >>= λ vs. body_after (expr c n) vs.0 vs.1) (no_variable_is n limit us (here us w)))
        (λ us w. ap (λ r. r >>= λ vs. body_after (expr (longer b c) (deeper a n)) vs.0 vs.1) (no_variable_is (deeper a n) limit us (here us w)))
        (sees_body Unnamed ts)
      where
        here : (us : List Terminal) → Agrees ts us ⊎ Next counts us → begins_variable us ≡ false
        here us (inl w) = no_name_no_variable us (h us w)
        here us (inr w) = no_name_no_variable us (next_not counts is_identifier_kind count_names us w)

  if_bind : {A B : Type 0} (t : Bool) (r s : Result A TokensFault) (f : A → Result B TokensFault) → ((if t then r else s) >>= f) ≡ (if t then (r >>= f) else (s >>= f))
  if_bind true r s f = refl
  if_bind false r s f = refl

  -- a name came first
  module _ (n at : ℕ) (text : List ℕ) where
    abbrev variables_after : (n : ℕ) → Reader SurfaceTree → Reader (Variables × SurfaceTree)
    variables_after n whole us = declared_after text (p.a_type (suc n)) us >>= λ v. variables_by (suc n) limit v.0 v.1 >>= λ vs. body_after whole vs.0 vs.1

    abbrev body_on : Reader SurfaceTree → Reader (Variables × SurfaceTree)
    body_on whole us = body_after whole Unnamed (token k.Identifier at text ∷ us)

    abbrev name_after : (n : ℕ) → Reader SurfaceTree → Reader (Variables × SurfaceTree)
    name_after n whole us = if next_is ends_variable us then variables_after n whole us else body_on whole us

    name_is : (n : ℕ) (whole : Reader SurfaceTree) (us : List Terminal) → iterated (suc n) whole limit (token k.Identifier at text ∷ us) ≡ name_after n whole us
    unfolding optional_variables variables p.a_variable p.identifier
    name_is n whole us =
        if_bind (next_is ends_variable us) (variables (suc n) limit (token k.Identifier at text ∷ us)) (Ok (Unnamed, token k.Identifier at text ∷ us)) (λ vs. body_after whole vs.0 vs.1)
        ∙ ap (λ r. if next_is ends_variable us then r else body_on whole us) (assoc (declared_after text (p.a_type (suc n)) us) (λ v. variables_by (suc n) limit v.0 v.1) (λ vs. body_after whole vs.0 vs.1))

    module _ (sees_whole : (ts : List Terminal) → Sees (expr c (suc n)) (expr (longer b c) (suc (deeper a n))) (May stops) (Next counts) ts) (sees_name : SeesName a b c (suc n)) where
      sees_variables_after : (us : List Terminal) → Sees (variables_after n (expr c (suc n))) (variables_after (deeper a n) (expr (longer b c) (suc (deeper a n)))) (May stops) (Next (is_mark m.Bar)) us
      sees_variables_after us =
          bind (declared_after text (p.a_type (suc n))) (declared_after text (p.a_type (suc (deeper a n)))) (λ v vs. variables_by (suc n) limit v vs >>= λ ws. body_after (expr c (suc n)) ws.0 ws.1) (λ v vs. variables_by (suc (deeper a n)) limit v vs >>= λ ws. body_after (expr (longer b c) (suc (deeper a n))) ws.0 ws.1)
          (Next (is_mark m.Bar)) (May stops) (Next (is_mark m.Bar)) (Next (is_mark m.Bar)) us (λ vs g. g) (sees_declared a m.Bar refl refl (suc n) text us)
          (λ v vs. bind (variables_by (suc n) limit v) (variables_by (suc (deeper a n)) limit v) (body_after (expr c (suc n))) (body_after (expr (longer b c) (suc (deeper a n))))
          Any (May stops) (Next counts) (Next (is_mark m.Bar)) vs (λ ws g. tt) (sees_variables_by a (suc n) limit v vs) (λ ws rest. sees_body (suc n) sees_whole ws rest))

      sees_body_on : (us : List Terminal) → Sees (body_on (expr c (suc n))) (body_on (expr (longer b c) (suc (deeper a n)))) (May stops) (May stops) us
      sees_body_on us =
          bind (λ vs. expr c (suc n) (token k.Identifier at text ∷ vs)) (λ vs. expr (longer b c) (suc (deeper a n)) (token k.Identifier at text ∷ vs)) (λ x vs. expect m.Close vs >>= λ rest. Ok ((Unnamed, x), rest)) (λ x vs. expect m.Close vs >>= λ rest. Ok ((Unnamed, x), rest))
          (May stops) (May stops) (Next (is_mark m.Close)) (May stops) us (mark_may m.Close stops refl) (sees_name at text us)
          (λ x vs. sees_expect m.Close _ _ (May stops) (May stops) (λ rest. pass (Unnamed, x) (May stops) rest) vs)

      body_takes : (us : List Terminal) → IfOk (body_on (expr c (suc n)) us) (λ x. length x.1 < length us)
      body_takes us =
          bind_ok (λ x. IsExpr c (suc n) (token k.Identifier at text ∷ us) x.0 x.1) (λ x. length x.1 < length us) (expr c (suc n) (token k.Identifier at text ∷ us)) _ (sound_expr c (suc n) (token k.Identifier at text ∷ us))
          (λ x d. let s = shorter_expr d in bind_ok (λ vs. length vs < length x.1) (λ x. length x.1 < length us) (expect m.Close x.1) _ (expect_takes m.Close x.1) (λ vs l. omega (arith, s, l)))

      body_default : Completes (body_on (expr (longer b c) (suc (deeper a n)))) (May stops) (Next (is_mark m.Close)) []
      unfolding expect
      body_default = ((Unnamed, Name text at), mark_word m.Close ∷ [], λ rest g. (refl, ap (λ r. r >>= λ x. expect m.Close x.1 >>= λ rest. Ok ((Unnamed, x.0), rest)) (name_expr (longer b c) (deeper a n) at text (mark_word m.Close ∷ rest) refl)))

      sees_body_closed : (us : List Terminal) → Sees (body_on (expr c (suc n))) (body_on (expr (longer b c) (suc (deeper a n)))) (May stops) (Next (is_mark m.Close)) us
      sees_body_closed us = begun_as _ _ (May stops) (May stops) (Next (is_mark m.Close)) us (λ x e. let l = rw e at (body_takes us) in omega (arith, l)) body_default (sees_body_on us)

      by_body : (us : List Terminal) → ((vs : List Terminal) → Agrees us vs → next_is ends_variable vs ≡ false) → Sees (name_after n (expr c (suc n))) (name_after (deeper a n) (expr (longer b c) (suc (deeper a n)))) (May stops) (Next (is_mark m.Close)) us
      by_body us h = sees_as _ _ _ _ (May stops) (Next (is_mark m.Close)) us (λ vs w. rw (here vs w) refl) (λ vs w. rw (here vs w) refl) (sees_body_closed us)
        where
          here : (vs : List Terminal) → Agrees us vs ⊎ Next (is_mark m.Close) vs → next_is ends_variable vs ≡ false
          here vs (inl w) = h vs w
          here vs (inr w) = mark_not m.Close ends_variable refl vs w

      by_variables : (t : Terminal) (us : List Terminal) → ends_variable t.kind ≡ true → Sees (name_after n (expr c (suc n))) (name_after (deeper a n) (expr (longer b c) (suc (deeper a n)))) (May stops) (Next (is_mark m.Bar)) (t ∷ us)
      by_variables t us e = sees_as _ _ _ _ (May stops) (Next (is_mark m.Bar)) (t ∷ us) (λ vs w. rw (here vs w) refl) (λ vs w. rw (here vs w) refl) (sees_variables_after (t ∷ us))
        where
          here : (vs : List Terminal) → Agrees (t ∷ us) vs ⊎ Next (is_mark m.Bar) vs → next_is ends_variable vs ≡ true
          here vs (inl (more, is)) = rw is e
          here vs (inr w) = mark_next m.Bar ends_variable refl vs w

      sees_name_first : (us : List Terminal) → Sees (iterated (suc n) (expr c (suc n)) limit) (iterated (suc (deeper a n)) (expr (longer b c) (suc (deeper a n))) limit) (May stops) (Next counts) (token k.Identifier at text ∷ us)
      sees_name_first [] = skip (token k.Identifier at text) [] _ _ _ _ (May stops) (Next (is_mark m.Close)) (Next counts) (name_is n (expr c (suc n))) (name_is (deeper a n) (expr (longer b c) (suc (deeper a n)))) (by_body [] (λ vs is. rw is refl))
      sees_name_first (t ∷ us) = by (ends_variable t.kind) refl
        where
          by : (v : Bool) → ends_variable t.kind ≡ v → Sees (iterated (suc n) (expr c (suc n)) limit) (iterated (suc (deeper a n)) (expr (longer b c) (suc (deeper a n))) limit) (May stops) (Next counts) (token k.Identifier at text ∷ t ∷ us)
          by true e = skip (token k.Identifier at text) (t ∷ us) _ _ _ _ (May stops) (Next (is_mark m.Bar)) (Next counts) (name_is n (expr c (suc n))) (name_is (deeper a n) (expr (longer b c) (suc (deeper a n)))) (by_variables t us e)
          by false e = skip (token k.Identifier at text) (t ∷ us) _ _ _ _ (May stops) (Next (is_mark m.Close)) (Next counts) (name_is n (expr c (suc n))) (name_is (deeper a n) (expr (longer b c) (suc (deeper a n)))) (by_body (t ∷ us) (λ vs (more, is). rw is e))

  name_too_deep : (at : ℕ) (text : List ℕ) → SeesName a b c zero → (us : List Terminal) → iterated zero (expr c zero) limit (token k.Identifier at text ∷ us) ≡ Err (too_deep (token k.Identifier at text ∷ us))
  unfolding optional_variables variables
  name_too_deep at text h us = by (next_is ends_variable us)
    where
      by : (v : Bool) → ((if v then Err (too_deep (token k.Identifier at text ∷ us)) else unread (token k.Identifier at text ∷ us)) >>= λ vs. body_after (expr c zero) vs.0 vs.1) ≡ Err (too_deep (token k.Identifier at text ∷ us))
      by true = refl
      by false = ap (λ r. r >>= λ x. expect m.Close x.1 >>= λ rest. Ok ((Unnamed, x.0), rest)) (h at text us)

  name_opened : (at : ℕ) (text : List ℕ) → Opens (iterated (suc (suc (suc a))) (expr (longer b c) (suc (suc (suc a)))) limit) (May stops) (token k.Identifier at text)
  unfolding optional_variables expect
  name_opened at text = ((Unnamed, Name text at), mark_word m.Close ∷ [], λ rest g. ap (λ r. r >>= λ x. expect m.Close x.1 >>= λ rest. Ok ((Unnamed, x.0), rest)) (name_expr (longer b c) (suc (suc a)) at text (mark_word m.Close ∷ rest) refl))

  sees_iterated : (n : ℕ) → ((ts : List Terminal) → Sees (expr c n) (expr (longer b c) (deeper a n)) (May stops) (Next counts) ts) → SeesName a b c n → (ts : List Terminal)
      → Sees (iterated n (expr c n) limit) (iterated (deeper a n) (expr (longer b c) (deeper a n)) limit) (May stops) (Next counts) ts
  sees_iterated n sees_whole sees_name [] = no_variable n sees_whole [] (λ us is. rw is refl)
  sees_iterated zero sees_whole sees_name (t ∷ ts) = by t.kind
    where
      by : (kind : TokenKind) → Sees (iterated zero (expr c zero) limit) (iterated (suc (suc (suc a))) (expr (longer b c) (suc (suc (suc a)))) limit) (May stops) (Next counts) (token kind t.offset t.text ∷ ts)
      by k.Identifier = blocked _ _ (May stops) (Next counts) (token k.Identifier t.offset t.text) ts (name_too_deep t.offset t.text sees_name) (name_opened t.offset t.text)
      by (k.Number v) = no_variable zero sees_whole _ (λ us (more, is). rw is refl)
      by _ = no_variable zero sees_whole _ (λ us (more, is). rw is refl)
  sees_iterated (suc n) sees_whole sees_name (t ∷ ts) = by t.kind
    where
      by : (kind : TokenKind) → Sees (iterated (suc n) (expr c (suc n)) limit) (iterated (suc (deeper a n)) (expr (longer b c) (suc (deeper a n))) limit) (May stops) (Next counts) (token kind t.offset t.text ∷ ts)
      by k.Identifier = sees_name_first n t.offset t.text sees_whole sees_name ts
      by (k.Number v) = no_variable (suc n) sees_whole _ (λ us (more, is). rw is refl)
      by _ = no_variable (suc n) sees_whole _ (λ us (more, is). rw is refl)

  sees_iteration : (n : ℕ) → ((ts : List Terminal) → Sees (expr c n) (expr (longer b c) (deeper a n)) (May stops) (Next counts) ts) → SeesName a b c n → (ts : List Terminal)
      → Sees (iteration n (expr c n) limit) (iteration (deeper a n) (expr (longer b c) (deeper a n)) limit) (May stops) (Next (is_mark m.Open)) ts
  sees_iteration n sees_whole sees_name ts =
      sees_as _ _ _ _ (May stops) (Next (is_mark m.Open)) ts (λ us w. iteration_is n (expr c n) limit us) (λ us w. iteration_is (deeper a n) (expr (longer b c) (deeper a n)) limit us)
      (sees_expect m.Open (iterated n (expr c n) limit) (iterated (deeper a n) (expr (longer b c) (deeper a n)) limit) (May stops) (Next counts) (sees_iterated n sees_whole sees_name) ts)

-- ---- folds

module _ (a : ℕ) (operand operand' whole whole' : Reader SurfaceTree) (sees : (ts : List Terminal) → Sees operand operand' (May stops) (Next counts) ts) (sees_whole : (ts : List Terminal) → Sees whole whole' (May stops) (Next counts) ts)
    (source : SurfaceTree) (at : ℕ) where
  abbrev after_body : VariableTree → Bound → SurfaceTree → Reader SurfaceTree
  after_body v b x us = expect m.Close us >>= λ rest. Ok (fold_with source v b x at, rest)

  abbrev after_variable : ℕ → Reader SurfaceTree → Reader SurfaceTree → VariableTree → Reader SurfaceTree
  after_variable n operand whole v us = expect m.Semicolon us >>= a_bind n operand >>= λ b. fold_body whole source v b.0 at b.1

  sees_fold_body : (v : VariableTree) (b : Bound) (us : List Terminal) → Sees (fold_body whole source v b at) (fold_body whole' source v b at) (May stops) (Next (is_mark m.Bar)) us
  unfolding fold_body
  sees_fold_body v b us =
      bind (λ vs. expect m.Bar vs >>= whole) (λ vs. expect m.Bar vs >>= whole') (after_body v b) (after_body v b) (May stops) (May stops) (Next (is_mark m.Close)) (Next (is_mark m.Bar)) us (mark_may m.Close stops refl)
      (sees_expect m.Bar whole whole' (May stops) (Next counts) sees_whole us)
      (λ x vs. sees_expect m.Close _ _ (May stops) (May stops) (λ rest. pass (fold_with source v b x at) (May stops) rest) vs)

  sees_after_variable : (n : ℕ) (v : VariableTree) (us : List Terminal) → Sees (after_variable n operand whole v) (after_variable (deeper a n) operand' whole' v) (May stops) (Next (is_mark m.Semicolon)) us
  sees_after_variable n v us =
      bind (λ vs. expect m.Semicolon vs >>= a_bind n operand) (λ vs. expect m.Semicolon vs >>= a_bind (deeper a n) operand') (λ b. fold_body whole source v b at) (λ b. fold_body whole' source v b at) (May stops) (May stops) (Next (is_mark m.Bar)) (Next (is_mark m.Semicolon)) us (mark_may m.Bar stops refl)
      (sees_expect m.Semicolon (a_bind n operand) (a_bind (deeper a n) operand') (May stops) (Next is_identifier_kind) (sees_bind a n operand operand' sees) us)
      (λ b vs. sees_fold_body v b vs)

  fold_opened : (place : ℕ) (text : List ℕ) → Opens (fold_in (deeper a zero) operand' whole' source at) (May stops) (token k.Identifier place text)
  unfolding fold_in p.a_variable p.identifier
  fold_opened place text =
      let (x, more, h) = default_of (after_variable zero operand whole (text, None)) (after_variable (deeper a zero) operand' whole' (text, None)) (May stops) (Next (is_mark m.Semicolon)) (sees_after_variable zero (text, None) []) in
      (x, more, λ rest g. rw (mark_not m.Semicolon declares refl (more ++ rest) (h rest g).0) (h rest g).1)

  fold_begun : (t : Terminal) → is_identifier_kind t.kind ≡ true → Opens (fold_in (deeper a zero) operand' whole' source at) (May stops) t
  fold_begun t h = by t.kind h
    where
      by : (kind : TokenKind) → is_identifier_kind kind ≡ true → Opens (fold_in (deeper a zero) operand' whole' source at) (May stops) (token kind t.offset t.text)
      by k.Identifier h = fold_opened t.offset t.text
      by (k.Number v) h = absurd (cc)
      by _ h = absurd (cc)

  fold_default : Completes (fold_in (deeper a zero) operand' whole' source at) (May stops) (Next is_identifier_kind) []
  fold_default = let (x, more, h) = fold_opened 0 [] in (x, name_word ∷ more, λ rest g. (refl, h rest g))

  sees_fold_in : (n : ℕ) (ts : List Terminal) → Sees (fold_in n operand whole source at) (fold_in (deeper a n) operand' whole' source at) (May stops) (Next is_identifier_kind) ts
  unfolding fold_in
  sees_fold_in zero ts = sees_shut is_identifier_kind (fold_in (deeper a zero) operand' whole' source at) (May stops) (Next is_identifier_kind) (fold_shut operand' whole' source at (deeper a zero)) fold_default fold_begun ts
  sees_fold_in (suc n) ts =
      bind (p.a_variable (suc n)) (p.a_variable (suc (deeper a n))) (after_variable (suc n) operand whole) (after_variable (suc (deeper a n)) operand' whole') (Next (is_mark m.Semicolon)) (May stops) (Next (is_mark m.Semicolon)) (Next is_identifier_kind) ts (λ us g. g)
      (sees_variable a m.Semicolon refl refl (suc n) ts) (λ v us. sees_after_variable (suc n) v us)

  sees_fold : (n : ℕ) (ts : List Terminal) → Sees (a_fold n operand whole source at) (a_fold (deeper a n) operand' whole' source at) (May stops) (Next (is_mark m.Open)) ts
  unfolding a_fold
  sees_fold n ts = sees_expect m.Open (fold_in n operand whole source at) (fold_in (deeper a n) operand' whole' source at) (May stops) (Next is_identifier_kind) (sees_fold_in n) ts

-- ---- single steps

abbrev word_divide : Terminal
word_divide = token k.Div 0 []

module _ (a b c n : ℕ) (operand operand' : Reader SurfaceTree) (sees : (ts : List Terminal) → Sees operand operand' (May stops) (Next counts) ts)
    (shortens : Shortens operand) (shortens' : Shortens operand') (empty : operand [] ≡ Err (syntax [])) (shuts : (ts : List Terminal) → next_is begins ts ≡ false → operand' ts ≡ Err (syntax ts))
    (opened : (t : Terminal) → begins t.kind ≡ true → Opens operand' (May stops) t)
    (sees_whole : (ts : List Terminal) → Sees (expr c n) (expr (longer b c) (deeper a n)) (May stops) (Next counts) ts) (sees_name : SeesName a b c n) where
  abbrev whole : Reader SurfaceTree
  whole = expr c n

  abbrev whole' : Reader SurfaceTree
  whole' = expr (longer b c) (deeper a n)

  arguments_see : (source : SurfaceTree) (by : Navigation) (text : List ℕ) (at : ℕ) (ts : List Terminal) → Sees (operation_call n operand whole source by text at) (operation_call (deeper a n) operand' whole' source by text at) (May stops) (Next (is_mark m.Open)) ts
  arguments_see source by text at ts = sees_operation_call operand operand' sees shortens shortens' empty shuts opened a n whole whole' source by text at ts

  dot_default : (source : SurfaceTree) → Completes (after_dot (deeper a n) operand' whole' source) (May stops) Any []
  unfolding after_dot
  dot_default source =
      let (x, more, h) = default_of (operation_call n operand whole source Dot [] 0) (operation_call (deeper a n) operand' whole' source Dot [] 0) (May stops) (Next (is_mark m.Open)) (arguments_see source Dot [] 0 []) in
      (x, word_divide ∷ more, λ rest g. (tt, (h rest g).1))

  sees_after_dot : (source : SurfaceTree) (ts : List Terminal) → Sees (after_dot n operand whole source) (after_dot (deeper a n) operand' whole' source) (May stops) Any ts
  unfolding after_dot
  sees_after_dot source [] = stuck _ _ (May stops) Any [] (λ us is. rw is refl) (λ us is. rw is refl) (dot_default source)
  sees_after_dot source (t ∷ ts) = by t.kind
    where
      by : (kind : TokenKind) → Sees (after_dot n operand whole source) (after_dot (deeper a n) operand' whole' source) (May stops) Any (token kind t.offset t.text ∷ ts)
      by k.Identifier = skip (token k.Identifier t.offset t.text) ts _ _ (called n operand whole source t.text t.offset) (called (deeper a n) operand' whole' source t.text t.offset) (May stops) (May stops) Any (λ us. refl) (λ us. refl) (sees_called operand operand' sees shortens shortens' empty shuts opened a n whole whole' source t.text t.offset ts)
      by k.Div = skip (token k.Div t.offset t.text) ts _ _ (operation_call n operand whole source Dot t.text t.offset) (operation_call (deeper a n) operand' whole' source Dot t.text t.offset) (May stops) (Next (is_mark m.Open)) Any (λ us. refl) (λ us. refl) (arguments_see source Dot t.text t.offset ts)
      by k.Mod = skip (token k.Mod t.offset t.text) ts _ _ (operation_call n operand whole source Dot t.text t.offset) (operation_call (deeper a n) operand' whole' source Dot t.text t.offset) (May stops) (Next (is_mark m.Open)) Any (λ us. refl) (λ us. refl) (arguments_see source Dot t.text t.offset ts)
      by (k.Number v) = stuck _ _ (May stops) Any _ (λ us (more, is). rw is refl) (λ us (more, is). rw is refl) (dot_default source)
      by _ = stuck _ _ (May stops) Any _ (λ us (more, is). rw is refl) (λ us (more, is). rw is refl) (dot_default source)

  sees_applied : (o : Option IteratorKind) (source : SurfaceTree) (text : List ℕ) (at : ℕ) (ts : List Terminal) → Sees (applied_by n operand whole o source text at) (applied_by (deeper a n) operand' whole' o source text at) (May stops) (Next (is_mark m.Open)) ts
  sees_applied None source text at ts = arguments_see source Arrow text at ts
  sees_applied (Some kind) source text at ts =
      bind (iteration n whole (variable_limit kind)) (iteration (deeper a n) whole' (variable_limit kind)) (λ x us. Ok (Iterate source kind x.0 x.1 at, us)) (λ x us. Ok (Iterate source kind x.0 x.1 at, us)) (May stops) (May stops) (May stops) (Next (is_mark m.Open)) ts (λ us g. g) (sees_iteration a b c (variable_limit kind) n sees_whole sees_name ts)
      (λ x us. pass (Iterate source kind x.0 x.1 at) (May stops) us)

  sees_by_name : (is_fold : Bool) (o : Option IteratorKind) (source : SurfaceTree) (text : List ℕ) (at : ℕ) (ts : List Terminal)
      → Sees (λ us. if is_fold then a_fold n operand whole source at us else applied_by n operand whole o source text at us) (λ us. if is_fold then a_fold (deeper a n) operand' whole' source at us else applied_by (deeper a n) operand' whole' o source text at us) (May stops) (Next (is_mark m.Open)) ts
  sees_by_name true o source text at ts = sees_fold a operand operand' whole whole' sees sees_whole source at n ts
  sees_by_name false o source text at ts = sees_applied o source text at ts

  arrow_default : (source : SurfaceTree) → Completes (after_arrow (deeper a n) operand' whole' source) (May stops) Any []
  unfolding after_arrow applied_step
  arrow_default source =
      let (x, more, h) = default_of (operation_call n operand whole source Arrow [] 0) (operation_call (deeper a n) operand' whole' source Arrow [] 0) (May stops) (Next (is_mark m.Open)) (arguments_see source Arrow [] 0 []) in
      (x, name_word ∷ more, λ rest g. (tt, (h rest g).1))

  sees_after_arrow : (source : SurfaceTree) (ts : List Terminal) → Sees (after_arrow n operand whole source) (after_arrow (deeper a n) operand' whole' source) (May stops) Any ts
  unfolding after_arrow applied_step
  sees_after_arrow source [] = stuck _ _ (May stops) Any [] (λ us is. rw is refl) (λ us is. rw is refl) (arrow_default source)
  sees_after_arrow source (t ∷ ts) = by t.kind
    where
      by : (kind : TokenKind) → Sees (after_arrow n operand whole source) (after_arrow (deeper a n) operand' whole' source) (May stops) Any (token kind t.offset t.text ∷ ts)
      by k.Identifier = skip (token k.Identifier t.offset t.text) ts _ _ (applied_step n operand whole source t.text t.offset) (applied_step (deeper a n) operand' whole' source t.text t.offset) (May stops) (Next (is_mark m.Open)) Any (λ us. refl) (λ us. refl) (sees_by_name (is_fold_name t.text) (iterator_of t.text) source t.text t.offset ts)
      by (k.Number v) = stuck _ _ (May stops) Any _ (λ us (more, is). rw is refl) (λ us (more, is). rw is refl) (arrow_default source)
      by _ = stuck _ _ (May stops) Any _ (λ us (more, is). rw is refl) (λ us (more, is). rw is refl) (arrow_default source)

  -- ---- chains of steps

  no_step_here : (l : ℕ) (source : SurfaceTree) (ts : List Terminal) → ((us : List Terminal) → Agrees ts us → next_is steps_on us ≡ false) → Sees (step_list n operand whole l source) (step_list (deeper a n) operand' whole' (longer b l) source) (May stops) (May stops) ts
  no_step_here l source ts h =
      sees_as _ _ (λ us. Ok (source, us)) (λ us. Ok (source, us)) (May stops) (May stops) ts
      (λ us w. steps_none n operand whole l source us (none us w)) (λ us w. steps_none (deeper a n) operand' whole' (longer b l) source us (none us w)) (pass source (May stops) ts)
    where
      none : (us : List Terminal) → Agrees ts us ⊎ May stops us → next_is steps_on us ≡ false
      none us (inl w) = h us w
      none us (inr w) = may_not stops steps_on stop_steps us w

  -- the token, which begins a step, and what reads the step after it
  module _ (t : Terminal) (on : steps_on t.kind ≡ true) (source : SurfaceTree) (q q' : Reader SurfaceTree) (step_is : (us : List Terminal) → one_step n operand whole source (t ∷ us) ≡ q us) (step_is' : (us : List Terminal) → one_step (deeper a n) operand' whole' source (t ∷ us) ≡ q' us) (sees_step : (ts : List Terminal) → Sees q q' (May stops) Any ts) where
    step_too_long : Opens (step_list (deeper a n) operand' whole' (suc b) source) (May stops) t
    step_too_long =
        let (x, more, h) = default_of q q' (May stops) Any (sees_step []) in
        (x, more, λ rest g. steps_more (deeper a n) operand' whole' (suc b) source (t ∷ (more ++ rest)) x rest on (λ z. cc (z)) (step_is' (more ++ rest) ∙ (h rest g).1) ∙ steps_done _ (deeper a n) operand' whole' x rest g)

    last_step : (ts : List Terminal) → Sees (step_list n operand whole zero source) (step_list (deeper a n) operand' whole' (suc b) source) (May stops) (May stops) (t ∷ ts)
    last_step ts = blocked _ _ (May stops) (May stops) t ts (λ us. steps_deep n operand whole zero source (t ∷ us) on refl) step_too_long

    next_step : (l : ℕ) → ((source : SurfaceTree) (ts : List Terminal) → Sees (step_list n operand whole l source) (step_list (deeper a n) operand' whole' (longer b l) source) (May stops) (May stops) ts) → (ts : List Terminal) → Sees (step_list n operand whole (suc l) source) (step_list (deeper a n) operand' whole' (suc (longer b l)) source) (May stops) (May stops) (t ∷ ts)
    unfolding step_list
    next_step l more ts =
        skip t ts _ _ (λ us. q us >>= λ x. step_list n operand whole l x.0 x.1) (λ us. q' us >>= λ x. step_list (deeper a n) operand' whole' (longer b l) x.0 x.1) (May stops) Any (May stops)
        (λ us. rw on (ap (λ r. r >>= λ x. step_list n operand whole l x.0 x.1) (step_is us))) (λ us. rw on (ap (λ r. r >>= λ x. step_list (deeper a n) operand' whole' (longer b l) x.0 x.1) (step_is' us)))
        (bind q q' (step_list n operand whole l) (step_list (deeper a n) operand' whole' (longer b l)) (May stops) (May stops) (May stops) Any ts (λ us g. g) (sees_step ts) (λ x rest. more x rest))

  -- where the steps by dots and arrows after a source stop, they can be completed under wider limits
  pub sees_steps : (l : ℕ) (source : SurfaceTree) (ts : List Terminal) → Sees (step_list n operand whole l source) (step_list (deeper a n) operand' whole' (longer b l) source) (May stops) (May stops) ts
  unfolding one_step
  sees_steps l source [] = no_step_here l source [] (λ us is. rw is refl)
  sees_steps zero source (t ∷ ts) = by t.kind
    where
      by : (kind : TokenKind) → Sees (step_list n operand whole zero source) (step_list (deeper a n) operand' whole' (suc b) source) (May stops) (May stops) (token kind t.offset t.text ∷ ts)
      by k.Dot = last_step (token k.Dot t.offset t.text) refl source (after_dot n operand whole source) (after_dot (deeper a n) operand' whole' source) (λ us. refl) (λ us. refl) (sees_after_dot source) ts
      by k.Arrow = last_step (token k.Arrow t.offset t.text) refl source (after_arrow n operand whole source) (after_arrow (deeper a n) operand' whole' source) (λ us. refl) (λ us. refl) (sees_after_arrow source) ts
      by (k.Number v) = no_step_here zero source _ (λ us (more, is). rw is refl)
      by _ = no_step_here zero source _ (λ us (more, is). rw is refl)
  sees_steps (suc l) source (t ∷ ts) = by t.kind (sees_steps l)
    where
      by : (kind : TokenKind) → ((source : SurfaceTree) (ts : List Terminal) → Sees (step_list n operand whole l source) (step_list (deeper a n) operand' whole' (longer b l) source) (May stops) (May stops) ts)
          → Sees (step_list n operand whole (suc l) source) (step_list (deeper a n) operand' whole' (suc (longer b l)) source) (May stops) (May stops) (token kind t.offset t.text ∷ ts)
      by k.Dot more = next_step (token k.Dot t.offset t.text) refl source (after_dot n operand whole source) (after_dot (deeper a n) operand' whole' source) (λ us. refl) (λ us. refl) (sees_after_dot source) l more ts
      by k.Arrow more = next_step (token k.Arrow t.offset t.text) refl source (after_arrow n operand whole source) (after_arrow (deeper a n) operand' whole' source) (λ us. refl) (λ us. refl) (sees_after_arrow source) l more ts
      by (k.Number v) more = no_step_here (suc l) source _ (λ us (more, is). rw is refl)
      by _ more = no_step_here (suc l) source _ (λ us (more, is). rw is refl)
