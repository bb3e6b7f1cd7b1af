-- One turn of each loop.
use Rattle.std.proofs.Common.{◌≡◌, ◌≢◌, ℕ, zero, suc, ◌-◌, ◌+◌, ◌<◌, ◌≤◌, List, [], ◌∷◌, ◌++◌, length, drop, Some, None, Result, Ok, Err, refl, ◌∙◌, arith, true, false}
use Rattle.ocl_tokens.specs.declared.token.TokenKind.{TokenKind}
use Rattle.ocl_tokens.specs.declared.token.TokenKind.TheVariants as k
use Rattle.ocl_base.specs.Steps.{FaultMeaning, fault, out_of_memory, never, Means, Fails}
use Rattle.ocl_tokens.specs.Terminals.{Terminal}
use Rattle.ocl_text.specs.declared.cursor.Cursor.{Cursor}
use Rattle.ocl_text.specs.declared.cursor.ParseFault.{ParseFault}
use Rattle.ocl_text.specs.Parses.{meaning, Moves}
use Rattle.ocl_text.specs.Tree.{Rule, SurfaceTree}
use Rattle.ocl_text.specs.Grammar.{top, steps_on, separates, begins_invariant, next_is}
use Rattle.ocl_text.specs.Parse.{TokensFault, syntax, too_deep, Reader, Link, link, chain, one_step, step_list, items, invariant, invariants, context, contexts, is_done, expr, expr_over, expr_by, unary, unary_over, unary_by, post, level_of}

module _ (p : Reader SurfaceTree) (level : ℕ) where
  -- no operator of the level follows: the chain ends
  pub chain_none : (c : ℕ) (left : SurfaceTree) (ts : List Terminal) → link (suc level) ts ≡ None → chain p level c left ts ≡ Ok (left, ts)
  unfolding chain
  chain_none zero left ts h = rw h refl
  chain_none (suc c) left ts h = rw h refl

  -- an operator follows, and the chain may have none more: too deep
  pub chain_deep : (c : ℕ) (left : SurfaceTree) (ts : List Terminal) (l : Link) → link (suc level) ts ≡ Some l → c ≡ 0 → chain p level c left ts ≡ Err (too_deep ts)
  unfolding chain
  chain_deep zero left ts l h z = rw h refl
  chain_deep (suc c) left ts l h z = absurd (cc)

module _ (n : ℕ) (p whole : Reader SurfaceTree) where
  -- no dot and no arrow follows: the steps end
  pub steps_none : (c : ℕ) (source : SurfaceTree) (ts : List Terminal) → next_is steps_on ts ≡ false → step_list n p whole c source ts ≡ Ok (source, ts)
  unfolding step_list
  steps_none zero source ts h = rw h refl
  steps_none (suc c) source ts h = rw h refl

  -- a step follows, and there may be none more: too deep
  pub steps_deep : (c : ℕ) (source : SurfaceTree) (ts : List Terminal) → next_is steps_on ts ≡ true → c ≡ 0 → step_list n p whole c source ts ≡ Err (too_deep ts)
  unfolding step_list
  steps_deep zero source ts h z = rw h refl
  steps_deep (suc c) source ts h z = absurd (cc)

  -- a step follows, and it is refused
  pub steps_err : (c : ℕ) (source : SurfaceTree) (ts : List Terminal) (s : TokensFault) → next_is steps_on ts ≡ true → c ≢ 0 → one_step n p whole source ts ≡ Err s → step_list n p whole c source ts ≡ Err s
  unfolding step_list
  steps_err zero source ts s h z e = absurd (z refl)
  steps_err (suc c) source ts s h z e = rw (h, e) refl

  -- a step follows: the steps go on from it
  pub steps_more : (c : ℕ) (source : SurfaceTree) (ts : List Terminal) (next : SurfaceTree) (rest : List Terminal) → next_is steps_on ts ≡ true → c ≢ 0 → one_step n p whole source ts ≡ Ok (next, rest) → step_list n p whole c source ts ≡ step_list n p whole (c - 1) next rest
  unfolding step_list
  steps_more zero source ts next rest h z e = absurd (z refl)
  steps_more (suc c) source ts next rest h z e = let d : suc c - 1 ≡ c = omega arith in rw (h, e, d) refl

-- a turn is left
pred : (m i : ℕ) → i < m → m - i ≡ suc (m - (i + 1))
pred m i h = omega arith

module _ {A : Type 0} (p : Reader A) where
  -- a list with commas has no turn left
  pub items_over : (m i : ℕ) (found : List A) (ts : List Terminal) → m ≤ i → items p (m - i) found ts ≡ Err (syntax ts)
  unfolding items
  items_over m i found ts h = let z : m - i ≡ 0 = omega arith in rw z refl

  -- an item of a list with commas is refused
  pub items_err : (m i : ℕ) (found : List A) (ts : List Terminal) (s : TokensFault) → i < m → p ts ≡ Err s → items p (m - i) found ts ≡ Err s
  unfolding items
  items_err m i found ts s h e = rw (pred m i h, e) refl

  -- the last item of a list with commas, which no comma follows
  pub items_last : (m i : ℕ) (found all : List A) (ts : List Terminal) (x : A) (rest : List Terminal) → i < m → p ts ≡ Ok (x, rest) → next_is separates rest ≡ false → all ≡ found ++ x ∷ [] → items p (m - i) found ts ≡ Ok (all, rest)
  unfolding items
  items_last m i found all ts x rest h e c a = rw a (rw (pred m i h, e, c) refl)

  -- an item of a list with commas, and a comma after it: the list goes on
  pub items_more : (m i : ℕ) (found all : List A) (ts : List Terminal) (x : A) (rest next : List Terminal) → i < m → p ts ≡ Ok (x, rest) → next_is separates rest ≡ true → all ≡ found ++ x ∷ [] → drop 1 rest ≡ next → items p (m - i) found ts ≡ items p (m - (i + 1)) all next
  unfolding items
  items_more m i found all ts x rest next h e c a d = rw (a, ← d) (rw (pred m i h, e, c) refl)

module _ (p : Reader SurfaceTree) (class : List ℕ × ℕ) where
  -- the invariants of a context have no turn left
  pub invariants_over : (m i : ℕ) (found : List Rule) (ts : List Terminal) → m ≤ i → invariants p class (m - i) found ts ≡ Err (syntax ts)
  unfolding invariants
  invariants_over m i found ts h = let z : m - i ≡ 0 = omega arith in rw z refl

  -- an invariant of a context is refused
  pub invariants_err : (m i n : ℕ) (found : List Rule) (ts : List Terminal) (s : TokensFault) → i < m → n ≡ suc (length found) → invariant p class n ts ≡ Err s → invariants p class (m - i) found ts ≡ Err s
  unfolding invariants
  invariants_err m i n found ts s h c e = rw (pred m i h, ← c, e) refl

  -- the last invariant of a context
  pub invariants_last : (m i n : ℕ) (found all : List Rule) (ts : List Terminal) (x : Rule) (rest : List Terminal) → i < m → n ≡ suc (length found) → invariant p class n ts ≡ Ok (x, rest) → next_is begins_invariant rest ≡ false → all ≡ found ++ x ∷ [] → invariants p class (m - i) found ts ≡ Ok (all, rest)
  unfolding invariants
  invariants_last m i n found all ts x rest h k e c a = rw a (rw (pred m i h, ← k, e, c) refl)

  -- an invariant of a context, and another after it
  pub invariants_more : (m i n : ℕ) (found all : List Rule) (ts : List Terminal) (x : Rule) (rest : List Terminal) → i < m → n ≡ suc (length found) → invariant p class n ts ≡ Ok (x, rest) → next_is begins_invariant rest ≡ true → all ≡ found ++ x ∷ [] → invariants p class (m - i) found ts ≡ invariants p class (m - (i + 1)) all rest
  unfolding invariants
  invariants_more m i n found all ts x rest h k e c a = rw a (rw (pred m i h, ← k, e, c) refl)

module _ (p : Reader SurfaceTree) where
  -- no token is left: the contexts end
  pub contexts_done : (f : ℕ) (found : List Rule) (ts : List Terminal) → is_done ts ≡ true → contexts p f found ts ≡ Ok found
  unfolding contexts
  contexts_done zero found ts h = rw h refl
  contexts_done (suc f) found ts h = rw h refl

  -- the contexts have no turn left
  pub contexts_over : (m i : ℕ) (found : List Rule) (ts : List Terminal) → m ≤ i → is_done ts ≡ false → contexts p (m - i) found ts ≡ Err (syntax ts)
  unfolding contexts
  contexts_over m i found ts h d = let z : m - i ≡ 0 = omega arith in rw z (rw d refl)

  -- the beginning of a context is refused
  pub contexts_err : (m i : ℕ) (found : List Rule) (ts : List Terminal) (s : TokensFault) → i < m → is_done ts ≡ false → context ts ≡ Err s → contexts p (m - i) found ts ≡ Err s
  unfolding contexts
  contexts_err m i found ts s h d e = rw (pred m i h) (rw (d, e) refl)

  -- an invariant of the next context is refused
  pub contexts_wrong : (m i : ℕ) (found : List Rule) (ts us : List Terminal) (class : List ℕ × ℕ) (s : TokensFault) → i < m → is_done ts ≡ false → context ts ≡ Ok (class, us) → invariants p class (length us) found us ≡ Err s → contexts p (m - i) found ts ≡ Err s
  unfolding contexts
  contexts_wrong m i found ts us class s h d e f = rw (pred m i h) (rw (d, e, f) refl)

  -- a context with its invariants: the contexts go on after it
  pub contexts_more : (m i : ℕ) (found all : List Rule) (ts us rest : List Terminal) (class : List ℕ × ℕ) → i < m → is_done ts ≡ false → context ts ≡ Ok (class, us) → invariants p class (length us) found us ≡ Ok (all, rest) → contexts p (m - i) found ts ≡ contexts p (m - (i + 1)) all rest
  unfolding contexts
  contexts_more m i found all ts us rest class h d e f = rw (pred m i h) (rw (d, e, f) refl)

-- what a part refuses, the whole refuses
pub fails_as : {A B F : Type 0} (m : FaultMeaning F) (r : Result A F) (s : Result B F) → ((x : F) → r ≡ Err x → s ≡ Err x) → Means m r → Means m s
fails_as (fault x) r s f h = f x h
fails_as out_of_memory r s f h = tt
fails_as never r s f h = h

-- a cursor that moved twice is among the same tokens
pub moves_on : (c d e : Cursor) → Moves c d → Moves d e → Moves c e
moves_on c d e first second = (second.0 ∙ first.0, second.1 ∙ first.1)

-- what a part refuses after the cursor moved, the whole refuses
pub fails_on : {A B : Type 0} (c d : Cursor) (e : ParseFault) (r : Result A TokensFault) (s : Result B TokensFault) → Moves c d → ((x : TokensFault) → r ≡ Err x → s ≡ Err x) → Fails (meaning d.tokens.now) e r → Fails (meaning c.tokens.now) e s
fails_on c d e r s moved f h = fails_as (meaning c.tokens.now e) r s f (rw moved.0 at h)

-- ---- what none of the tests picks out
expr_other : (here : Reader SurfaceTree) (n : ℕ) (operand whole : Reader SurfaceTree) (kind : TokenKind) (at : ℕ) (all ts : List Terminal) → (kind ≡ k.Let → ⊥) → expr_by here n operand whole kind at all ts ≡ here all
expr_other here n operand whole k.Let at all ts h = absurd (h refl)
expr_other here n operand whole (k.Number v) at all ts h = refl
expr_other here n operand whole _ at all ts h = refl

-- an expression that doesn't begin with `let` is one of operators
pub expr_plain : (most n : ℕ) (ts : List Terminal) (t : Terminal) (us : List Terminal) → n ≢ 0 → ts ≡ t ∷ us → (t.kind ≡ k.Let → ⊥) → expr most n ts ≡ level_of most n top ts
unfolding expr unary expr_over
expr_plain most zero ts t us z e h = absurd (z refl)
expr_plain most (suc n) ts t us z e h = rw e (expr_other (level_of most (suc n) top) n (level_of most n top) (expr most n) t.kind t.offset (t ∷ us) us h)

unary_other : (most n : ℕ) (operand whole below : Reader SurfaceTree) (kind : TokenKind) (at : ℕ) (all ts : List Terminal) → (kind ≡ k.Minus → ⊥) → (kind ≡ k.Not → ⊥) → unary_by most n operand whole below kind at all ts ≡ post most n operand whole all
unary_other most n operand whole below k.Minus at all ts g h = absurd (g refl)
unary_other most n operand whole below k.Not at all ts g h = absurd (h refl)
unary_other most n operand whole below (k.Number v) at all ts g h = refl
unary_other most n operand whole below _ at all ts g h = refl

-- an operand without a prefix operator is one with steps
pub unary_plain : (most n : ℕ) (ts : List Terminal) (t : Terminal) (us : List Terminal) → n ≢ 0 → ts ≡ t ∷ us → (t.kind ≡ k.Minus → ⊥) → (t.kind ≡ k.Not → ⊥) → unary most n ts ≡ post most (n - 1) (level_of most (n - 1) top) (expr most (n - 1)) ts
unfolding unary unary_over
unary_plain most zero ts t us z e g h = absurd (z refl)
unary_plain most (suc n) ts t us z e g h = let d : suc n - 1 ≡ n = omega arith in rw (e, d) (unary_other most n (level_of most n top) (expr most n) (unary most n) t.kind t.offset (t ∷ us) us g h)
