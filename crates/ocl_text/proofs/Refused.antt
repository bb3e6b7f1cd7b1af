-- What the parser's refusal says of the tokens.
use Rattle.std.proofs.Common.{◌≡◌, ℕ, suc, List, [], ◌∷◌, ◌++◌, Result, Ok, Err, refl, sym, ap, ◌∙◌, subst, arith, ◌⊎◌, inl, inr}
use Rattle.std.proofs.lemmas.List.{append_cancel_right}
use Rattle.ocl_tokens.specs.Terminals.{Terminal}
use Rattle.ocl_base.specs.Steps.{◌>>=◌}
use Rattle.ocl_text.specs.Tree.{Rule}
use Rattle.ocl_text.specs.RuleText.{Agrees, BeginsRules, IsWrongAt, IsTooDeepAt}
use Rattle.ocl_text.specs.Grammar.{Spells, SpellsWithin}
use Rattle.ocl_text.specs.Parse.{TokensFault, syntax, too_deep, Reading, expr, all_rules}
use Rattle.ocl_text.proofs.Wider.{plus_is, deeper, longer, wider, read_spells, spelled_read}
use Rattle.ocl_text.proofs.Prefixes.{Outcome, read, wrong, deep, reported, Wide}
use Rattle.ocl_text.proofs.Contexts.{Nothing, all_read, read_contexts, sees_rules}

agrees_itself : (s : List Terminal) → Agrees s s
agrees_itself [] = refl
agrees_itself (t ∷ s) = (s, refl)

unread : (r : Result (List Rule) TokensFault) (rules : List Rule) (rest : List Terminal) → (r >>= all_read) ≡ Ok (rules, rest) → r ≡ Ok rules
unread (Ok x) rules rest h = let e : (x, []) ≡ (rules, rest) = cc in ap (λ (p : List Rule × List Terminal). Ok p.0) e
unread (Err e) rules rest h = absurd (cc)

unread_stop : (r : Result (List Rule) TokensFault) (s : TokensFault) → (r >>= all_read) ≡ Err s → r ≡ Err s
unread_stop (Ok x) s h = absurd (cc)
unread_stop (Err e) s h = let same : e ≡ s = cc in ap (λ y. Err y) same

longer_swap : (a b : ℕ) → longer b a ≡ longer a b
longer_swap a b = plus_is a (suc b) ∙ (let e = plus_is b (suc a) in omega arith)

deeper_swap : (a b : ℕ) → deeper b a ≡ deeper a b
deeper_swap a b = plus_is a (suc (suc (suc b))) ∙ (let e = plus_is b (suc (suc (suc a))) in omega arith)

module _ (nesting chain : ℕ) (ts : List Terminal) where
  abbrev reads : List Terminal → Reading (List Rule)
  reads = read_contexts (expr chain (suc nesting)) []

  stopped : (s : TokensFault) → all_rules nesting chain ts ≡ Err s → reads ts ≡ Err s
  unfolding all_rules
  stopped s h = ap (λ r. r >>= all_read) h

  refused_as : (us : List Terminal) (s : TokensFault) → reads us ≡ Err s → all_rules nesting chain us ≡ Err s
  unfolding all_rules
  refused_as us s h = unread_stop _ s h

  spelled_wider : (us more : List Terminal) (rules : List Rule) → read_contexts (expr (longer 0 chain) (suc (deeper 0 nesting))) [] (us ++ (more ++ [])) ≡ Ok (rules, []) → BeginsRules us
  unfolding all_rules
  spelled_wider us more rules h = (more ++ [], rules, (deeper 0 nesting, longer 0 chain, read_spells (deeper 0 nesting) (longer 0 chain) (us ++ (more ++ [])) rules (unread _ rules [] h)))

  abbrev Same : Outcome (List Rule) → List Terminal → List Terminal → Type 0
  Same o before rest = (other : List Terminal) → Agrees rest other → reads (before ++ other) ≡ reported o other

  abbrev Wider : Outcome (List Rule) → List Terminal → List Terminal → Type 0
  Wider o before rest = Wide (read_contexts (expr (longer 0 chain) (suc (deeper 0 nesting))) []) Nothing Nothing before rest o

  here : (o : Outcome (List Rule)) (before rest : List Terminal) → ts ≡ before ++ rest → Same o before rest → reads ts ≡ reported o rest
  here o before rest is same = rw is (same rest (agrees_itself rest))

  -- under wider limits too the list is refused there, and each that agrees with it
  wrong_wider : (s : List Terminal) → all_rules nesting chain ts ≡ Err (syntax s) → (before : List Terminal) → ts ≡ before ++ s → (a b : ℕ) (other : List Terminal) → Agrees s other → all_rules (deeper a nesting) (longer b chain) (before ++ other) ≡ Err (syntax other)
  unfolding all_rules
  wrong_wider s h before split a b other agrees = let sees = sees_rules a b chain nesting ts in by sees.outcome sees.before sees.rest sees.split sees.same sees.wide
    where
      by : (o : Outcome (List Rule)) (passed rest : List Terminal) → ts ≡ passed ++ rest → Same o passed rest → Wide (read_contexts (expr (longer b chain) (suc (deeper a nesting))) []) Nothing Nothing passed rest o → all_rules (deeper a nesting) (longer b chain) (before ++ other) ≡ Err (syntax other)
      by (read x) passed rest is same w = let e = here (read x) passed rest is same in let f = stopped (syntax s) h in absurd (cc (e, f))
      by deep passed rest is same w = let e = here deep passed rest is same in let f = stopped (syntax s) h in absurd (cc (e, f))
      by wrong passed rest is same (refuses, completes) =
          let e = here wrong passed rest is same in
          let f = stopped (syntax s) h in
          let at_rest : rest ≡ s = cc (e, f) in
          let front : passed ≡ before = append_cancel_right passed before s (ap (λ (l : List Terminal). passed ++ l) (sym at_rest) ∙ sym is ∙ split) in
          let refused = refuses other (subst (λ (l : List Terminal). Agrees l other) (sym at_rest) agrees) in
          unread_stop _ (syntax other) (ap (λ (l : List Terminal). read_contexts (expr (longer b chain) (suc (deeper a nesting))) [] (l ++ other)) (sym front) ∙ refused)

  wrong_for_good : (s : List Terminal) → all_rules nesting chain ts ≡ Err (syntax s) → (before : List Terminal) → ts ≡ before ++ s → (other : List Terminal) (rules : List Rule) → Agrees s other → Spells (before ++ other) rules → ⊥
  wrong_for_good s h before split other rules agrees (n, c, d) =
      let refused = wrong_wider s h before split n c other agrees in
      let spelled = rw (deeper_swap n nesting, longer_swap c chain) at (spelled_read (deeper nesting n) (longer chain c) (before ++ other) rules (wider n c (suc (suc (suc nesting))) (suc chain) (before ++ other) rules d)) in
      cc (refused, spelled)

  -- a refusal of syntax stands where the list goes wrong
  pub wrong_at : (s : List Terminal) → all_rules nesting chain ts ≡ Err (syntax s) → IsWrongAt ts s
  wrong_at s h = let sees = sees_rules 0 0 chain nesting ts in by sees.outcome sees.before sees.rest sees.split sees.same sees.wide
    where
      by : (o : Outcome (List Rule)) (before rest : List Terminal) → ts ≡ before ++ rest → Same o before rest → Wider o before rest → IsWrongAt ts s
      by (read x) before rest is same w = let e = here (read x) before rest is same in let f = stopped (syntax s) h in absurd (cc (e, f))
      by deep before rest is same w = let e = here deep before rest is same in let f = stopped (syntax s) h in absurd (cc (e, f))
      by wrong before rest is same (refuses, (x, more, g)) =
          let e = here wrong before rest is same in
          let f = stopped (syntax s) h in
          let at_rest : rest ≡ s = cc (e, f) in
          let split : ts ≡ before ++ s = is ∙ ap (λ (l : List Terminal). before ++ l) at_rest in
          record { before = before; split = split; begins = spelled_wider before more x (g [] refl).1; cannot = wrong_for_good s h before split }

  -- a refusal of depth stands where the list goes too deep
  pub too_deep_at : (s : List Terminal) → all_rules nesting chain ts ≡ Err (too_deep s) → IsTooDeepAt nesting chain ts s
  too_deep_at s h = let sees = sees_rules 0 0 chain nesting ts in by sees.outcome sees.before sees.rest sees.split sees.same sees.wide
    where
      by : (o : Outcome (List Rule)) (before rest : List Terminal) → ts ≡ before ++ rest → Same o before rest → Wider o before rest → IsTooDeepAt nesting chain ts s
      by (read x) before rest is same w = let e = here (read x) before rest is same in let f = stopped (too_deep s) h in absurd (cc (e, f))
      by wrong before rest is same w = let e = here wrong before rest is same in let f = stopped (too_deep s) h in absurd (cc (e, f))
      by deep before rest is same (first, after, first_is, (x, more, g)) =
          let e = here deep before rest is same in
          let f = stopped (too_deep s) h in
          let at_rest : rest ≡ s = cc (e, f) in
          subst (IsTooDeepAt nesting chain ts) at_rest (
          record {
            before = before;
            first = first;
            after = after;
            is = first_is;
            split = is;
            begins = spelled_wider (before ++ first ∷ []) more x (g [] refl).1;
            cannot = λ others rules d.
                let a : Agrees rest (first ∷ others) = subst (λ (l : List Terminal). Agrees l (first ∷ others)) (sym first_is) (others, refl) in
                let stop = refused_as (before ++ first ∷ others) (too_deep (first ∷ others)) (same (first ∷ others) a) in
                let reads = spelled_read nesting chain (before ++ first ∷ others) rules d in
                cc (stop, reads);
          }
          )

-- rules, or a refusal
pub spells_or_is_refused : (nesting chain : ℕ) (ts : List Terminal) → ((rules : List Rule) × SpellsWithin nesting chain ts rules) ⊎ ((rest : List Terminal) × (IsWrongAt ts rest ⊎ IsTooDeepAt nesting chain ts rest))
spells_or_is_refused nesting chain ts = by (all_rules nesting chain ts) refl
  where
    by : (r : Result (List Rule) TokensFault) → all_rules nesting chain ts ≡ r → ((rules : List Rule) × SpellsWithin nesting chain ts rules) ⊎ ((rest : List Terminal) × (IsWrongAt ts rest ⊎ IsTooDeepAt nesting chain ts rest))
    by (Ok rules) e = inl (rules, read_spells nesting chain ts rules e)
    by (Err (syntax rest)) e = inr (rest, inl (wrong_at nesting chain ts rest e))
    by (Err (too_deep rest)) e = inr (rest, inr (too_deep_at nesting chain ts rest e))
