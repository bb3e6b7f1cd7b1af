-- What a parser makes of a list it makes of each that agrees with it through the first token that is left. Under wider
-- limits it reads the same and refuses the same, but for what was too deep. Where it stops, what it has passed can be
-- completed under wider limits, before each list that may follow.
use Rattle.std.proofs.Common.{◌≡◌, ◌≤◌, List, [], ◌∷◌, ◌++◌, length, drop, Result, Ok, Err, refl, sym, ap, ◌∙◌, subst, Bool, true, false, arith, inl, inr, ◌⊎◌}
use Rattle.std.specs.Prelude.{if◌then◌else◌}
use Rattle.std.proofs.lemmas.List.{append_assoc, append-nil, length-append}
use Rattle.ocl_tokens.specs.declared.token.TokenKind.{TokenKind}
use Rattle.ocl_tokens.specs.declared.token.TokenKind.TheVariants as k
use Rattle.ocl_base.specs.Steps.{◌>>=◌}
use Rattle.ocl_text.specs.declared.cursor.Mark.{Mark}
use Rattle.ocl_text.specs.declared.cursor.Mark.TheVariants as m
use Rattle.ocl_tokens.specs.Terminals.{Terminal}
use Rattle.ocl_text.specs.RuleText.{Agrees}
use Rattle.ocl_text.specs.Grammar.{token, is_mark, next_is, Next, is_identifier_kind}
use Rattle.ocl_text.specs.Parse.{TokensFault, syntax, too_deep, Reading, Reader, expect, identifier, placed_name}
use Rattle.ocl_text.proofs.Sound.{mark_kind}

-- what comes of reading, in front of the tokens that are left
pub data Outcome (A : Type 0) : Type 0 where
  read : (value : A) → Outcome A
  wrong : Outcome A
  deep : Outcome A

abbrev pub reported : {A : Type 0} → Outcome A → List Terminal → Reading A
reported (read value) rest = Ok (value, rest)
reported wrong rest = Err (syntax rest)
reported deep rest = Err (too_deep rest)

-- where nothing was passed yet, these tokens are of this sort
abbrev pub Starts : (List Terminal → Type 0) → List Terminal → List Terminal → Type 0
Starts S [] us = S us
Starts S (t ∷ ts) us = Unit {0}

-- after `before` these tokens complete the value, whatever follows that may follow it
abbrev pub Ends : {A : Type 0} → Reader A → (List Terminal → Type 0) → (List Terminal → Type 0) → List Terminal → List Terminal → A → Type 0
Ends p F S before more value = (rest : List Terminal) → F rest → Starts S before (more ++ rest) × (p (before ++ (more ++ rest)) ≡ Ok (value, rest))

abbrev pub Completes : {A : Type 0} → Reader A → (List Terminal → Type 0) → (List Terminal → Type 0) → List Terminal → Type 0
Completes {A} p F S before = (value : A) × (more : List Terminal) × Ends p F S before more value

abbrev pub Wide : {A : Type 0} → Reader A → (List Terminal → Type 0) → (List Terminal → Type 0) → List Terminal → List Terminal → Outcome A → Type 0
Wide p F S before rest (read value) = ((other : List Terminal) → Agrees rest other → p (before ++ other) ≡ Ok (value, other)) × Ends p F S before [] value
Wide p F S before rest wrong = ((other : List Terminal) → Agrees rest other → p (before ++ other) ≡ Err (syntax other)) × Completes p F S before
Wide p F S before rest deep = (first : Terminal) × (after : List Terminal) × (rest ≡ first ∷ after) × Completes p F S (before ++ first ∷ [])

-- F says what may follow, S what a completion begins with where nothing was passed; p' has the wider limits
pub record Sees {A : Type 0} (p p' : Reader A) (F S : List Terminal → Type 0) (ts : List Terminal) : Type 0 where
  pub outcome : Outcome A
  pub before : List Terminal
  pub rest : List Terminal
  pub split : ts ≡ before ++ rest
  pub same : (other : List Terminal) → Agrees rest other → p (before ++ other) ≡ reported outcome other
  pub wide : Wide p' F S before rest outcome

agrees_front : (before rest other : List Terminal) → Agrees rest other → Agrees (before ++ rest) (before ++ other)
agrees_front [] rest other a = a
agrees_front (t ∷ before) rest other a = (before ++ other, refl)

starts_anyhow : (S : List Terminal → Type 0) (before : List Terminal) (t : Terminal) (after us : List Terminal) → Starts S (before ++ t ∷ after) us
starts_anyhow S [] t after us = tt
starts_anyhow S (u ∷ before) t after us = tt

no_longer : (ts before rest : List Terminal) → ts ≡ before ++ rest → length rest ≤ length ts
no_longer ts before rest is = rw is (let e = length-append before rest in omega (arith, e))

with_first : (before : List Terminal) (first : Terminal) (after ts : List Terminal) → ts ≡ before ++ (first ∷ after) → ts ≡ (before ++ first ∷ []) ++ after
with_first before first after ts is = is ∙ sym (append_assoc before (first ∷ []) after)

-- ---- one parser after another

-- three readings in a row may be grouped either way
pub assoc : {A B C : Type 0} (r : Result A TokensFault) (f : A → Result B TokensFault) (g : B → Result C TokensFault) → (r >>= f >>= g) ≡ (r >>= λ x. f x >>= g)
assoc (Ok x) f g = refl
assoc (Err e) f g = refl

module _ {A B : Type 0} (p : Reader A) (f : A → Reader B) (F G S : List Terminal → Type 0) where
  ends_after : (before rest : List Terminal) (x : A) → ((other : List Terminal) → Agrees rest other → p (before ++ other) ≡ Ok (x, other)) → Ends p F S before [] x
      → (c tail more : List Terminal) (y : B) → rest ≡ c ++ tail → Ends (f x) G F c more y → Ends (λ us. p us >>= λ z. f z.0 z.1) G S (before ++ c) more y
  ends_after before rest x same ends [] tail more y is e = λ us g.
      let u = e us g in
      let v = ends (more ++ us) u.0 in
      rw (append-nil before) (v.0, ap (λ r. r >>= λ z. f z.0 z.1) v.1 ∙ u.1)
  ends_after before rest x same ends (t ∷ c) tail more y is e = λ us g.
      let u = e us g in
      let v = same (t ∷ (c ++ (more ++ us))) (subst (λ (l : List Terminal). Agrees l (t ∷ (c ++ (more ++ us)))) (sym is) (c ++ (more ++ us), refl)) in
      (starts_anyhow S before t c (more ++ us), rw (append_assoc before (t ∷ c) (more ++ us)) (ap (λ r. r >>= λ z. f z.0 z.1) v ∙ u.1))

  ends_by : (before more : List Terminal) (x : A) → Ends p F S before more x → (after : List Terminal) (y : B) → Ends (f x) G F [] after y → Ends (λ us. p us >>= λ z. f z.0 z.1) G S before (more ++ after) y
  ends_by before more x ends after y e = λ us g.
      let u = e us g in
      let v = ends (after ++ us) u.0 in
      rw (append_assoc more after us) (v.0, ap (λ r. r >>= λ z. f z.0 z.1) v.1 ∙ u.1)

-- what sees the empty list can be completed from nothing under the wider limits
pub default_of : {A : Type 0} (p p' : Reader A) (F S : List Terminal → Type 0) → Sees p p' F S [] → Completes p' F S []
default_of {A} p p' F S s = by s.outcome s.before s.rest s.split s.wide
  where
    by : (o : Outcome A) (before rest : List Terminal) → [] ≡ before ++ rest → Wide p' F S before rest o → Completes p' F S []
    by (read x) [] rest is w = (x, [], w.1)
    by wrong [] rest is w = w.1
    by deep [] rest is (first, after, same, c) = absurd (cc)
    by (read x) (t ∷ before) rest is w = absurd (cc)
    by wrong (t ∷ before) rest is w = absurd (cc)
    by deep (t ∷ before) rest is w = absurd (cc)

module _ {A B : Type 0} (p p' : Reader A) (f f' : A → Reader B) (F G R S : List Terminal → Type 0) (ts : List Terminal) (may : (us : List Terminal) → R us → F us) where
  abbrev bound : Reader B
  bound us = p us >>= λ z. f z.0 z.1

  abbrev bound' : Reader B
  bound' us = p' us >>= λ z. f' z.0 z.1

  narrow : (x : A) (before more : List Terminal) (y : B) → Ends (f' x) G R before more y → Ends (f' x) G F before more y
  narrow x [] more y e = λ us g. let u = e us g in (may (more ++ us) u.0, u.1)
  narrow x (t ∷ before) more y e = e

  bind_read : (before rest : List Terminal) (x : A) → ts ≡ before ++ rest → ((other : List Terminal) → Agrees rest other → p (before ++ other) ≡ Ok (x, other))
      → Wide p' F S before rest (read x) → Sees (f x) (f' x) G R rest → Sees bound bound' G S ts
  bind_read before rest x is same w s = record {
    outcome = s.outcome;
    before = before ++ s.before;
    rest = s.rest;
    split = is ∙ ap (λ (l : List Terminal). before ++ l) s.split ∙ sym (append_assoc before s.before s.rest);
    same = λ other a. rw (append_assoc before s.before other) (ap (λ r. r >>= λ z. f z.0 z.1) (same (s.before ++ other) (subst (λ (l : List Terminal). Agrees l (s.before ++ other)) (sym s.split) (agrees_front s.before s.rest other a))) ∙ s.same other a);
    wide = by s.outcome s.before s.rest s.split s.wide;
  }
    where
      by : (o : Outcome B) (c tail : List Terminal) → rest ≡ c ++ tail → Wide (f' x) G R c tail o → Wide bound' G S (before ++ c) tail o
      by (read y) c tail is e = (
        λ other a. rw (append_assoc before c other) (ap (λ r. r >>= λ z. f' z.0 z.1) (w.0 (c ++ other) (subst (λ (l : List Terminal). Agrees l (c ++ other)) (sym is) (agrees_front c tail other a))) ∙ e.0 other a),
        ends_after p' f' F G S before rest x w.0 w.1 c tail [] y is (narrow x c [] y e.1),
      )
      by wrong c tail is (refuses, (y, more, e)) = (
        λ other a. rw (append_assoc before c other) (ap (λ r. r >>= λ z. f' z.0 z.1) (w.0 (c ++ other) (subst (λ (l : List Terminal). Agrees l (c ++ other)) (sym is) (agrees_front c tail other a))) ∙ refuses other a),
        (y, more, ends_after p' f' F G S before rest x w.0 w.1 c tail more y is (narrow x c more y e)),
      )
      by deep c tail is (first, after, same, (y, more, e)) = (
        first,
        after,
        same,
        (
          y,
          more,
          subst (λ (l : List Terminal). Ends bound' G S l more y) (sym (append_assoc before c (first ∷ [])))
              (ends_after p' f' F G S before rest x w.0 w.1 (c ++ first ∷ []) after more y (with_first c first after rest (is ∙ ap (λ (l : List Terminal). c ++ l) same)) (narrow x (c ++ first ∷ []) more y e)),
        ),
      )

  completes_by : (before : List Terminal) → ((x : A) → Completes (f' x) G R []) → Completes p' F S before → Completes bound' G S before
  completes_by before d (x, more, e) = let (y, after, g) = d x in (y, more ++ after, ends_by p' f' F G S before more x e after y (narrow x [] after y g))

  -- the value of one parser goes to the next
  pub bind_from : Sees p p' F S ts → ((x : A) (rest : List Terminal) → length rest ≤ length ts → Sees (f x) (f' x) G R rest) → Sees bound bound' G S ts
  bind_from s h = by s.outcome s.before s.rest s.split s.same s.wide
    where
      default : (x : A) → Completes (f' x) G R []
      default x = default_of (f x) (f' x) G R (h x [] (omega arith))

      by : (o : Outcome A) (before rest : List Terminal) → ts ≡ before ++ rest → ((other : List Terminal) → Agrees rest other → p (before ++ other) ≡ reported o other) → Wide p' F S before rest o → Sees bound bound' G S ts
      by (read x) before rest is same w = bind_read before rest x is same w (h x rest (no_longer ts before rest is))
      by wrong before rest is same w = record {
        outcome = wrong;
        before = before;
        rest = rest;
        split = is;
        same = λ other a. ap (λ r. r >>= λ z. f z.0 z.1) (same other a);
        wide = (λ other a. ap (λ r. r >>= λ z. f' z.0 z.1) (w.0 other a), completes_by before default w.1);
      }
      by deep before rest is same (first, after, first_is, w) = record {
        outcome = deep;
        before = before;
        rest = rest;
        split = is;
        same = λ other a. ap (λ r. r >>= λ z. f z.0 z.1) (same other a);
        wide = (first, after, first_is, completes_by (before ++ first ∷ []) default w);
      }

  -- the same, where what comes next is seen whatever is left
  pub bind : Sees p p' F S ts → ((x : A) (rest : List Terminal) → Sees (f x) (f' x) G R rest) → Sees bound bound' G S ts
  bind s h = bind_from s (λ x rest l. h x rest)

-- ---- parsers that do the same on the lists in question

module _ {A : Type 0} (p p' q q' : Reader A) (F S : List Terminal → Type 0) (ts : List Terminal) where
  -- a parser sees what another sees that does the same on the lists in question
  pub sees_as : ((us : List Terminal) → Agrees ts us ⊎ S us → p us ≡ q us) → ((us : List Terminal) → Agrees ts us ⊎ S us → p' us ≡ q' us) → Sees q q' F S ts → Sees p p' F S ts
  sees_as e e' s = record {
    outcome = s.outcome;
    before = s.before;
    rest = s.rest;
    split = s.split;
    same = λ other a. e (s.before ++ other) (inl (goes s.before s.rest other s.split a)) ∙ s.same other a;
    wide = by s.outcome s.before s.rest s.split s.wide;
  }
    where
      goes : (before rest other : List Terminal) → ts ≡ before ++ rest → Agrees rest other → Agrees ts (before ++ other)
      goes before rest other is a = subst (λ (l : List Terminal). Agrees l (before ++ other)) (sym is) (agrees_front before rest other a)

      ends : (before rest more : List Terminal) (x : A) → ts ≡ before ++ rest → Ends q' F S before more x → Ends p' F S before more x
      ends [] rest more x is h = λ us g. let u = h us g in (u.0, e' (more ++ us) (inr u.0) ∙ u.1)
      ends (t ∷ before) rest more x is h = λ us g. let u = h us g in (tt, e' (t ∷ (before ++ (more ++ us))) (inl (subst (λ (l : List Terminal). Agrees l (t ∷ (before ++ (more ++ us)))) (sym is) (before ++ (more ++ us), refl))) ∙ u.1)

      by : (o : Outcome A) (before rest : List Terminal) → ts ≡ before ++ rest → Wide q' F S before rest o → Wide p' F S before rest o
      by (read x) before rest is w = (λ other a. e' (before ++ other) (inl (goes before rest other is a)) ∙ w.0 other a, ends before rest [] x is w.1)
      by wrong before rest is (refuses, (x, more, h)) = (λ other a. e' (before ++ other) (inl (goes before rest other is a)) ∙ refuses other a, (x, more, ends before rest more x is h))
      by deep before rest is (first, after, same, (x, more, h)) = (first, after, same, (x, more, ends (before ++ first ∷ []) after more x (with_first before first after ts (is ∙ ap (λ (l : List Terminal). before ++ l) same)) h))

-- a token is passed
module _ {A : Type 0} (t : Terminal) (us : List Terminal) (p p' q q' : Reader A) (F R S : List Terminal → Type 0) where
  -- a parser that passes this token and goes on as another sees what the other sees after it
  pub skip : ((vs : List Terminal) → p (t ∷ vs) ≡ q vs) → ((vs : List Terminal) → p' (t ∷ vs) ≡ q' vs) → Sees q q' F R us → Sees p p' F S (t ∷ us)
  skip e e' s = record {
    outcome = s.outcome;
    before = t ∷ s.before;
    rest = s.rest;
    split = ap (λ (l : List Terminal). t ∷ l) s.split;
    same = λ other a. e (s.before ++ other) ∙ s.same other a;
    wide = by s.outcome s.before s.rest s.wide;
  }
    where
      ends : (before more : List Terminal) (x : A) → Ends q' F R before more x → Ends p' F S (t ∷ before) more x
      ends before more x h = λ vs g. (tt, e' (before ++ (more ++ vs)) ∙ (h vs g).1)

      by : (o : Outcome A) (before rest : List Terminal) → Wide q' F R before rest o → Wide p' F S (t ∷ before) rest o
      by (read x) before rest w = (λ other a. e' (before ++ other) ∙ w.0 other a, ends before [] x w.1)
      by wrong before rest (refuses, (x, more, h)) = (λ other a. e' (before ++ other) ∙ refuses other a, (x, more, ends before more x h))
      by deep before rest (first, after, same, (x, more, h)) = (first, after, same, (x, more, ends (before ++ first ∷ []) more x h))

-- ---- single parsers

-- a parser that passes no token, and gives a value, sees each list
pub pass : {A : Type 0} (x : A) (F : List Terminal → Type 0) (ts : List Terminal) → Sees (λ us. Ok (x, us)) (λ us. Ok (x, us)) F F ts
pass x F ts = record { outcome = read x; before = []; rest = ts; split = refl; same = λ other a. refl; wide = (λ other a. refl, λ rest g. (g, refl)) }

-- the first token can't follow
pub stuck : {A : Type 0} (p p' : Reader A) (F S : List Terminal → Type 0) (ts : List Terminal) → ((us : List Terminal) → Agrees ts us → p us ≡ Err (syntax us)) → ((us : List Terminal) → Agrees ts us → p' us ≡ Err (syntax us)) → Completes p' F S [] → Sees p p' F S ts
stuck p p' F S ts e e' c = record { outcome = wrong; before = []; rest = ts; split = refl; same = e; wide = (e', c) }

-- what completes a value after this token
abbrev pub Opens : {A : Type 0} → Reader A → (List Terminal → Type 0) → Terminal → Type 0
Opens {A} p F t = (value : A) × (more : List Terminal) × ((rest : List Terminal) → F rest → p (t ∷ (more ++ rest)) ≡ Ok (value, rest))

-- the first token is too deep
pub blocked : {A : Type 0} (p p' : Reader A) (F S : List Terminal → Type 0) (t : Terminal) (us : List Terminal) → ((vs : List Terminal) → p (t ∷ vs) ≡ Err (too_deep (t ∷ vs))) → Opens p' F t → Sees p p' F S (t ∷ us)
blocked p p' F S t us e (x, more, h) = record {
  outcome = deep;
  before = [];
  rest = t ∷ us;
  split = refl;
  same = λ other (vs, is). rw is (e vs);
  wide = (t, us, refl, (x, more, λ rest g. (tt, h rest g)));
}

agrees_itself : (ts : List Terminal) → Agrees ts ts
agrees_itself [] = refl
agrees_itself (t ∷ ts) = (ts, refl)

-- where reading takes a token, a completion from nothing may be chosen, and with it what it begins with
pub begun_as : {A : Type 0} (p p' : Reader A) (F S S' : List Terminal → Type 0) (ts : List Terminal) → ((x : A) → p ts ≡ Ok (x, ts) → ⊥) → Completes p' F S' [] → Sees p p' F S ts → Sees p p' F S' ts
begun_as {A} p p' F S S' ts takes chosen s = record { outcome = s.outcome; before = s.before; rest = s.rest; split = s.split; same = s.same; wide = by s.outcome s.before s.rest s.split s.same s.wide }
  where
    by : (o : Outcome A) (before rest : List Terminal) → ts ≡ before ++ rest → ((other : List Terminal) → Agrees rest other → p (before ++ other) ≡ reported o other) → Wide p' F S before rest o → Wide p' F S' before rest o
    by (read x) [] rest is same w = absurd (takes x (rw is (same rest (agrees_itself rest))))
    by (read x) (t ∷ before) rest is same w = w
    by wrong [] rest is same w = (w.0, chosen)
    by wrong (t ∷ before) rest is same w = w
    by deep [] rest is same w = w
    by deep (t ∷ before) rest is same w = w

-- fewer may follow, and more begin it
pub adapt : {A : Type 0} (p p' : Reader A) (F F' S S' : List Terminal → Type 0) (ts : List Terminal) → ((us : List Terminal) → F' us → F us) → ((us : List Terminal) → S us → S' us) → Sees p p' F S ts → Sees p p' F' S' ts
adapt {A} p p' F F' S S' ts f g s = record { outcome = s.outcome; before = s.before; rest = s.rest; split = s.split; same = s.same; wide = by s.outcome s.before s.rest s.wide }
  where
    ends : (before more : List Terminal) (x : A) → Ends p' F S before more x → Ends p' F' S' before more x
    ends [] more x h = λ us l. let u = h us (f us l) in (g (more ++ us) u.0, u.1)
    ends (t ∷ before) more x h = λ us l. let u = h us (f us l) in (tt, u.1)

    by : (o : Outcome A) (before rest : List Terminal) → Wide p' F S before rest o → Wide p' F' S' before rest o
    by (read x) before rest w = (w.0, ends before [] x w.1)
    by wrong before rest (refuses, (x, more, h)) = (refuses, (x, more, ends before more x h))
    by deep before rest (first, after, same, (x, more, h)) = (first, after, same, (x, more, ends (before ++ first ∷ []) more x h))

-- whatever follows
abbrev pub Any : List Terminal → Type 0
Any us = Unit {0}

mark_itself : (mark : Mark) → is_mark mark (mark_kind mark) ≡ true
mark_itself m.Identifier = refl
mark_itself m.Comma = refl
mark_itself m.ColonColon = refl
mark_itself m.Semicolon = refl
mark_itself m.Inv = refl
mark_itself m.Open = refl
mark_itself m.Close = refl
mark_itself m.Bar = refl
mark_itself m.Equal = refl
mark_itself m.Colon = refl
mark_itself m.In = refl
mark_itself m.Then = refl
mark_itself m.Else = refl
mark_itself m.Endif = refl
mark_itself m.Context = refl

-- a mark has to stand here
pub sees_expect : {A : Type 0} (mark : Mark) (p p' : Reader A) (F R : List Terminal → Type 0) → ((us : List Terminal) → Sees p p' F R us) → (ts : List Terminal) → Sees (λ us. expect mark us >>= p) (λ us. expect mark us >>= p') F (Next (is_mark mark)) ts
unfolding expect
sees_expect {A} mark p p' F R h ts = by ts
  where
    default : Completes p' F R [] → Completes (λ us. expect mark us >>= p') F (Next (is_mark mark)) []
    default (x, more, e) = (x, token (mark_kind mark) 0 [] ∷ more, λ rest g. (mark_itself mark, rw (mark_itself mark) (e rest g).1))

    by : (us : List Terminal) → Sees (λ us. expect mark us >>= p) (λ us. expect mark us >>= p') F (Next (is_mark mark)) us
    by [] = stuck _ _ F _ [] (λ us is. rw is refl) (λ us is. rw is refl) (default (default_of p p' F R (h [])))
    by (t ∷ us) = first (is_mark mark t.kind) refl
      where
        first : (b : Bool) → is_mark mark t.kind ≡ b → Sees (λ us. expect mark us >>= p) (λ us. expect mark us >>= p') F (Next (is_mark mark)) (t ∷ us)
        first true e = skip t us _ _ p p' F R _ (λ vs. rw e refl) (λ vs. rw e refl) (h us)
        first false e = stuck _ _ F _ (t ∷ us) (λ vs (more, is). rw is (rw e refl)) (λ vs (more, is). rw is (rw e refl)) (default (default_of p p' F R (h [])))

-- a name with its place: it stands here, or else a name completes it
pub sees_placed_name : (ts : List Terminal) → Sees placed_name placed_name Any (Next is_identifier_kind) ts
unfolding placed_name
sees_placed_name [] = stuck placed_name placed_name Any (Next is_identifier_kind) [] (λ us is. rw is refl) (λ us is. rw is refl) (([], 0), token k.Identifier 0 [] ∷ [], λ rest g. (refl, refl))
sees_placed_name (t ∷ ts) = by t.kind
  where
    by : (kind : TokenKind) → Sees placed_name placed_name Any (Next is_identifier_kind) (token kind t.offset t.text ∷ ts)
    by k.Identifier = skip (token k.Identifier t.offset t.text) ts _ _ (λ us. Ok ((t.text, t.offset), us)) (λ us. Ok ((t.text, t.offset), us)) Any Any _ (λ us. refl) (λ us. refl) (pass (t.text, t.offset) Any ts)
    by (k.Number v) = stuck placed_name placed_name Any (Next is_identifier_kind) _ (λ us (more, is). rw is refl) (λ us (more, is). rw is refl) (([], 0), token k.Identifier 0 [] ∷ [], λ rest g. (refl, refl))
    by _ = stuck placed_name placed_name Any (Next is_identifier_kind) _ (λ us (more, is). rw is refl) (λ us (more, is). rw is refl) (([], 0), token k.Identifier 0 [] ∷ [], λ rest g. (refl, refl))

-- a name alone: it stands here, or else a name completes it
pub sees_identifier : (ts : List Terminal) → Sees identifier identifier Any (Next is_identifier_kind) ts
unfolding identifier
sees_identifier [] = stuck identifier identifier Any (Next is_identifier_kind) [] (λ us is. rw is refl) (λ us is. rw is refl) ([], token k.Identifier 0 [] ∷ [], λ rest g. (refl, refl))
sees_identifier (t ∷ ts) = by t.kind
  where
    by : (kind : TokenKind) → Sees identifier identifier Any (Next is_identifier_kind) (token kind t.offset t.text ∷ ts)
    by k.Identifier = skip (token k.Identifier t.offset t.text) ts identifier identifier (λ us. Ok (t.text, us)) (λ us. Ok (t.text, us)) Any Any _ (λ vs. refl) (λ vs. refl) (pass t.text Any ts)
    by (k.Number v) = stuck identifier identifier Any (Next is_identifier_kind) _ (λ us (more, is). rw is refl) (λ us (more, is). rw is refl) ([], token k.Identifier 0 [] ∷ [], λ rest g. (refl, refl))
    by _ = stuck identifier identifier Any (Next is_identifier_kind) _ (λ us (more, is). rw is refl) (λ us (more, is). rw is refl) ([], token k.Identifier 0 [] ∷ [], λ rest g. (refl, refl))

-- what a token begins, which is passed, or what stands here without it
pub either : {A : Type 0} (test : TokenKind → Bool) (g g' h h' : Reader A) (F R S : List Terminal → Type 0) (ts : List Terminal)
    → ((t : Terminal) (us : List Terminal) → ts ≡ t ∷ us → Sees g g' F R us) → Sees h h' F S ts → ((us : List Terminal) → S us → next_is test us ≡ false)
    → Sees (λ us. if next_is test us then g (drop 1 us) else h us) (λ us. if next_is test us then g' (drop 1 us) else h' us) F S ts
either {A} test g g' h h' F R S ts begun other apart = by ts begun other
  where
    by : (ts : List Terminal) → ((t : Terminal) (us : List Terminal) → ts ≡ t ∷ us → Sees g g' F R us) → Sees h h' F S ts → Sees (λ us. if next_is test us then g (drop 1 us) else h us) (λ us. if next_is test us then g' (drop 1 us) else h' us) F S ts
    by [] begun other = sees_as _ _ h h' F S [] (λ us w. rw (here us w) refl) (λ us w. rw (here us w) refl) other
      where
        here : (us : List Terminal) → us ≡ [] ⊎ S us → next_is test us ≡ false
        here us (inl is) = rw is refl
        here us (inr s) = apart us s
    by (t ∷ us) begun other = first (test t.kind) refl
      where
        here : test t.kind ≡ false → (vs : List Terminal) → Agrees (t ∷ us) vs ⊎ S vs → next_is test vs ≡ false
        here e vs (inl (more, is)) = rw is e
        here e vs (inr s) = apart vs s

        first : (b : Bool) → test t.kind ≡ b → Sees (λ us. if next_is test us then g (drop 1 us) else h us) (λ us. if next_is test us then g' (drop 1 us) else h' us) F S (t ∷ us)
        first true e = skip t us _ _ g g' F R S (λ vs. rw e refl) (λ vs. rw e refl) (begun t us refl)
        first false e = sees_as _ _ h h' F S (t ∷ us) (λ vs w. rw (here e vs w) refl) (λ vs w. rw (here e vs w) refl) other
