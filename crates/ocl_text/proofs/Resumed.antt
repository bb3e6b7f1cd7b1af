-- What is still to do where operators wait: a loop over the operators reads what the levels read, one inside the other.
use Rattle.std.proofs.Common.{◌≡◌, ◌≢◌, ℕ, zero, suc, ◌+◌, ◌-◌, ◌<◌, ◌≤◌, ◌⊎◌, inl, inr, Bool, true, false, if◌then◌else◌, List, [], ◌∷◌, length, Option, Some, None, Result, Ok, Err, IfOk, nat_eq, nat_lt, refl, sym, ap, subst, ◌∙◌, arith}
use Rattle.std.proofs.lemmas.Bool.{cases_order, eq-eqb, ne_eqb, ltb-true}
use Rattle.ocl_base.specs.Steps.{◌>>=◌}
use Rattle.ocl_tokens.specs.declared.token.TokenKind.{TokenKind}
use Rattle.ocl_tokens.specs.declared.token.TokenKind.TheVariants as k
use Rattle.ocl_tokens.specs.Terminals.{Terminal}
use Rattle.ocl_text.specs.declared.cursor.PlacedOperator.{PlacedOperator}
use Rattle.ocl_text.specs.declared.tree.BinaryOperator.{BinaryOperator}
use Rattle.ocl_text.specs.Tree.{SurfaceTree, Binary}
use Rattle.ocl_text.specs.Grammar.{operator, top, IsUnary}
use Rattle.ocl_text.specs.Parse as spec
use Rattle.ocl_text.specs.Parse.{Reader, Link, link, link_by, chain, levels}
use Rattle.ocl_text.specs.Pending.{operator_of, next_operator, next_operator_by, PendingTree, ReducedTree, completed, closed, reduce, wait, wait_by}
use Rattle.ocl_text.proofs.Complete.{shorter_unary}
use Rattle.ocl_text.proofs.Sound.{sound_unary}
use Rattle.ocl_text.proofs.Turns.{chain_none, chain_deep}
use Rattle.ocl_text.proofs.Reduced.{reduce_looser, reduce_same, reduce_tighter}

-- ---- steps that may fail

associates : {A B C E : Type 0} (r : Result A E) (f : A → Result B E) (g : B → Result C E) → (r >>= f >>= g) ≡ (r >>= λ x. f x >>= g)
associates (Ok x) f g = refl
associates (Err e) f g = refl

alike : {A B E : Type 0} (r : Result A E) (f g : A → Result B E) → ((x : A) → f x ≡ g x) → (r >>= f) ≡ (r >>= g)
alike (Ok x) f g h = h x
alike (Err e) f g h = refl

unchanged : {A B E : Type 0} (r : Result (A × B) E) → (r >>= λ x. Ok (x.0, x.1)) ≡ r
unchanged (Ok x) = refl
unchanged (Err e) = refl

-- ---- the next operator, level by level

abbrev operator_within : Option (ℕ × BinaryOperator) → ℕ → Option BinaryOperator
operator_within None height = None
operator_within (Some o) height = if nat_eq o.0 height then Some o.1 else None

abbrev is_within : Option (ℕ × BinaryOperator) → Bool
is_within None = true
is_within (Some o) = nat_lt o.0 top

within_top : (kind : TokenKind) → is_within (operator_of kind) ≡ true
within_top (k.Number v) = refl
within_top _ = refl

high_within : (n : ℕ) (o : Option (ℕ × BinaryOperator)) → is_within o ≡ true → top ≤ n → operator_within o n ≡ None
high_within n None h le = refl
high_within n (Some o) h le = let lt = ltb-true o.0 top h in rw (ne_eqb o.0 n (λ e. omega (arith, e, lt, le))) refl

high_none : (n : ℕ) (kind : TokenKind) → operator (suc (suc (suc (suc (suc (suc (suc (suc (suc n))))))))) kind ≡ None
high_none n (k.Number v) = refl
high_none n _ = refl

operator_at : (height : ℕ) (kind : TokenKind) → operator (suc height) kind ≡ operator_within (operator_of kind) height
operator_at zero (k.Number v) = refl
operator_at zero _ = refl
operator_at (suc zero) (k.Number v) = refl
operator_at (suc zero) _ = refl
operator_at (suc (suc zero)) (k.Number v) = refl
operator_at (suc (suc zero)) _ = refl
operator_at (suc (suc (suc zero))) (k.Number v) = refl
operator_at (suc (suc (suc zero))) _ = refl
operator_at (suc (suc (suc (suc zero)))) (k.Number v) = refl
operator_at (suc (suc (suc (suc zero)))) _ = refl
operator_at (suc (suc (suc (suc (suc zero))))) (k.Number v) = refl
operator_at (suc (suc (suc (suc (suc zero))))) _ = refl
operator_at (suc (suc (suc (suc (suc (suc zero)))))) (k.Number v) = refl
operator_at (suc (suc (suc (suc (suc (suc zero)))))) _ = refl
operator_at (suc (suc (suc (suc (suc (suc (suc zero))))))) (k.Number v) = refl
operator_at (suc (suc (suc (suc (suc (suc (suc zero))))))) _ = refl
operator_at (suc (suc (suc (suc (suc (suc (suc (suc n)))))))) kind = high_none n kind ∙ sym (high_within (suc (suc (suc (suc (suc (suc (suc (suc n)))))))) (operator_of kind) (within_top kind) (omega arith))

abbrev link_within : Option (PlacedOperator × List Terminal) → ℕ → Option Link
link_within None height = None
link_within (Some x) height = if nat_eq x.0.height height then Some (x.0.operator, x.0.offset, x.1) else None

link_at : (height : ℕ) (ts : List Terminal) → link (suc height) ts ≡ link_within (next_operator ts) height
unfolding link next_operator
link_at height [] = refl
link_at height (t ∷ ts) = rw (operator_at height t.kind) (by (operator_of t.kind))
  where
    by_test : (b : Bool) (op : BinaryOperator) → link_by (if b then Some op else None) t.offset ts ≡ (if b then Some (op, t.offset, ts) else None)
    by_test true op = refl
    by_test false op = refl

    by : (o : Option (ℕ × BinaryOperator)) → link_by (operator_within o height) t.offset ts ≡ link_within (next_operator_by o t.offset ts) height
    by None = refl
    by (Some o) = by_test (nat_eq o.0 height) o.1

-- no operator comes next, of no level
no_link : (ts : List Terminal) → next_operator ts ≡ None → (height : ℕ) → link (suc height) ts ≡ None
no_link ts none height = rw (link_at height ts, none) refl

module _ (ts us : List Terminal) (o : PlacedOperator) (next : next_operator ts ≡ Some (o, us)) where
  link_here : link (suc o.height) ts ≡ Some (o.operator, o.offset, us)
  link_here = rw (link_at o.height ts, next) (rw (eq-eqb o.height o.height refl) refl)

  link_elsewhere : (height : ℕ) → o.height ≢ height → link (suc height) ts ≡ None
  link_elsewhere height ne = rw (link_at height ts, next) (rw (ne_eqb o.height height ne) refl)

some_is : {A : Type 0} (x y : A) → Some x ≡ Some y → x ≡ y
some_is x y e = cc

-- the next operator is of one of the levels, and takes a token
next_takes : (ts us : List Terminal) (o : PlacedOperator) → next_operator ts ≡ Some (o, us) → (o.height < top) × (length us < length ts)
unfolding next_operator
next_takes [] us o e = absurd (cc)
next_takes (t ∷ ts) us o e = by (operator_of t.kind) (within_top t.kind) e
  where
    by : (x : Option (ℕ × BinaryOperator)) → is_within x ≡ true → next_operator_by x t.offset ts ≡ Some (o, us) → (o.height < top) × (length us < length (t ∷ ts))
    by None h e = absurd (cc)
    by (Some x) h e =
        let p = some_is (record { operator = x.1; height = x.0; offset = t.offset }, ts) (o, us) e in
        let height : x.0 ≡ o.height = ap (λ q. q.0.height) p in
        let after : ts ≡ us = ap (λ q. q.1) p in
        (subst (λ (n : ℕ). n < top) height (ltb-true x.0 top h), rw (← after) (omega arith))

-- an operand takes a token
unary_takes : (c n : ℕ) (ts rest : List Terminal) (value : SurfaceTree) → spec.unary c n ts ≡ Ok (value, rest) → length rest < length ts
unary_takes c n ts rest value e = shorter_unary (subst (λ (r : spec.Reading SurfaceTree). IfOk r (λ x. IsUnary c n ts x.0 x.1)) e (sound_unary c n ts))

-- an operand and an operator take a token
pub turn_takes : (c n : ℕ) (ts us vs : List Terminal) (value : SurfaceTree) (o : PlacedOperator) → spec.unary c n ts ≡ Ok (value, us) → Some (o, vs) ≡ next_operator us → length vs < length ts
turn_takes c n ts us vs value o read next = let a = unary_takes c n ts us value read in let b = (next_takes us vs o (sym next)).1 in omega (arith, a, b)

-- ---- the levels, one after another
module _ (most : ℕ) (unary : Reader SurfaceTree) where
  -- the operators of so many levels, from this one on
  unfoldable pub climb : ℕ → ℕ → SurfaceTree → Reader SurfaceTree
  climb height zero left ts = Ok (left, ts)
  climb height (suc n) left ts = chain (levels most unary height) height most left ts >>= λ x. climb (suc height) n x.0 x.1

  levels_climb : (n height all : ℕ) (ts : List Terminal) → all ≡ n + height → levels most unary all ts ≡ (levels most unary height ts >>= λ x. climb height n x.0 x.1)
  unfolding levels climb
  levels_climb zero height all ts e = let d : all ≡ height = omega (arith, e) in rw d (sym (unchanged (levels most unary height ts)))
  levels_climb (suc n) height all ts e =
      levels_climb n (suc height) all ts (omega (arith, e))
      ∙ associates (levels most unary height ts) (λ left. chain (levels most unary height) height most left.0 left.1) (λ x. climb (suc height) n x.0 x.1)

  -- levels of which no operator comes next are passed
  climb_past : (d n height all above : ℕ) (value : SurfaceTree) (ts : List Terminal) → ((h : ℕ) → height ≤ h → h < above → link (suc h) ts ≡ None) → all ≡ d + n → above ≡ d + height → climb height all value ts ≡ climb above n value ts
  unfolding climb
  climb_past zero n height all above value ts none e f = let g : all ≡ n = omega (arith, e) in let h : above ≡ height = omega (arith, f) in rw (g, h) refl
  climb_past (suc d) n height all above value ts none e f =
      let g : all ≡ suc (d + n) = omega (arith, e) in
      rw g (rw (chain_none (levels most unary height) height most value ts (none height (omega arith) (omega (arith, f))))
      (climb_past d n (suc height) (d + n) above value ts (λ h le lt. none h (omega (arith, le)) lt) refl (omega (arith, f))))

  climb_none : (n height : ℕ) (value : SurfaceTree) (ts : List Terminal) → ((h : ℕ) → height ≤ h → h < height + n → link (suc h) ts ≡ None) → climb height n value ts ≡ Ok (value, ts)
  unfolding climb
  climb_none zero height value ts none = refl
  climb_none (suc n) height value ts none =
      rw (chain_none (levels most unary height) height most value ts (none height (omega arith) (omega arith)))
      (climb_none n (suc height) value ts (λ h le lt. none h (omega (arith, le)) (omega (arith, lt))))

  -- what is still to do with an operand that is complete up to a height: the operators of the levels from there on, up to
  -- the innermost that waits for it, then those of that one's chain, and so on
  unfoldable pub resume : List PendingTree → ℕ → SurfaceTree → Reader SurfaceTree
  resume [] height value ts = climb height (top - height) value ts
  resume (p ∷ ps) height value ts = climb height (p.operator.height - height) value ts >>= λ x. chain (levels most unary p.operator.height) p.operator.height p.links (completed p x.0) x.1 >>= λ y. resume ps (suc p.operator.height) y.0 y.1

  -- what is still to do where an operator of this height follows
  abbrev goes_on : ℕ → ReducedTree → Reader SurfaceTree
  goes_on height s ts = chain (levels most unary height) height s.links s.left ts >>= λ y. resume s.pending (suc height) y.0 y.1

  abbrev waits_on : SurfaceTree → ℕ → List PendingTree → ReducedTree
  waits_on left links pending = record { left = left; links = links; pending = pending }

  -- at the start nothing waits, and all is still to do
  pub turn_begins : (ts : List Terminal) (ps : List PendingTree) → ps ≡ [] → levels most unary top ts ≡ (unary ts >>= λ x. resume ps 0 x.0 x.1)
  unfolding resume levels
  turn_begins ts ps h = rw h (levels_climb top 0 top ts refl)

  -- levels of which no operator comes next, up to that of the innermost
  passes : (ts : List Terminal) (p : PendingTree) (ps : List PendingTree) (height : ℕ) (value : SurfaceTree) → ((h : ℕ) → h < p.operator.height → link (suc h) ts ≡ None) → resume (p ∷ ps) height value ts ≡ goes_on p.operator.height (waits_on (completed p value) p.links ps) ts
  unfolding resume
  passes ts p ps height value none = rw (climb_none (p.operator.height - height) height value ts (λ h le lt. none h (omega (arith, le, lt)))) refl

  -- where no operator comes next, those that wait get their right operands
  resume_closes : (ts : List Terminal) → next_operator ts ≡ None → (ps : List PendingTree) (height : ℕ) (value : SurfaceTree) → resume ps height value ts ≡ Ok (closed ps value, ts)
  unfolding resume closed
  resume_closes ts none [] height value = climb_none (top - height) height value ts (λ h le lt. no_link ts none h)
  resume_closes ts none (p ∷ ps) height value =
      passes ts p ps height value (λ h lt. no_link ts none h)
      ∙ (rw (chain_none (levels most unary p.operator.height) p.operator.height p.links (completed p value) ts (no_link ts none p.operator.height))
      (resume_closes ts none ps (suc p.operator.height) (completed p value)))

  -- an operand after which no operator comes: all is done
  pub turn_closes : (ts us : List Terminal) (ps : List PendingTree) (value result : SurfaceTree) → unary ts ≡ Ok (value, us) → None ≡ next_operator us → result ≡ closed ps value → (unary ts >>= λ x. resume ps 0 x.0 x.1) ≡ Ok (result, us)
  turn_closes ts us ps value result read none is = rw (read, is) (resume_closes us (sym none) ps 0 value)

  module _ (ts us : List Terminal) (o : PlacedOperator) (next : next_operator ts ≡ Some (o, us)) where
    climb_to : (n height : ℕ) (value : SurfaceTree) → height ≤ o.height → o.height < height + n → climb height n value ts ≡ (chain (levels most unary o.height) o.height most value ts >>= λ x. climb (suc o.height) (height + n - suc o.height) x.0 x.1)
    unfolding climb
    climb_to n height value le lt =
        climb_past (o.height - height) (suc (height + n - suc o.height)) height n o.height value ts (λ h above below. link_elsewhere ts us o next h (λ e. omega (arith, e, below))) (omega (arith, le, lt)) (omega (arith, le))

    -- those that bind no looser than the next operator get their right operands, and the operator's chain goes on
    resume_reduces : (ps : List PendingTree) (height : ℕ) (value : SurfaceTree) → height ≤ o.height → resume ps height value ts ≡ goes_on o.height (reduce most o.height ps value) ts
    unfolding resume reduce
    resume_reduces [] height value le =
        let below = (next_takes ts us o next).0 in
        let d : height + (top - height) - suc o.height ≡ top - suc o.height = omega (arith, le, below) in
        climb_to (top - height) height value le (omega (arith, le, below)) ∙ rw d refl
    resume_reduces (p ∷ ps) height value le = by (cases_order p.operator.height o.height) (λ lt. resume_reduces ps (suc p.operator.height) (completed p value) (omega (arith, lt)))
      where
        none : p.operator.height ≤ o.height → (h : ℕ) → h < p.operator.height → link (suc h) ts ≡ None
        none below h lt = link_elsewhere ts us o next h (λ e. omega (arith, e, below, lt))

        by : (p.operator.height ≡ o.height) ⊎ ((p.operator.height < o.height) ⊎ (o.height < p.operator.height)) → (p.operator.height < o.height → resume ps (suc p.operator.height) (completed p value) ts ≡ goes_on o.height (reduce most o.height ps (completed p value)) ts) → resume (p ∷ ps) height value ts ≡ goes_on o.height (reduce most o.height (p ∷ ps) value) ts
        by (inl e) more =
            passes ts p ps height value (none (omega (arith, e)))
            ∙ ap (λ (h : ℕ). goes_on h (waits_on (completed p value) p.links ps) ts) e
            ∙ ap (λ (s : ReducedTree). goes_on o.height s ts) (sym (reduce_same most o.height (p ∷ ps) ps p value (completed p value) refl e refl))
        by (inr (inl lt)) more =
            passes ts p ps height value (none (omega (arith, lt)))
            ∙ (rw (chain_none (levels most unary p.operator.height) p.operator.height p.links (completed p value) ts (link_elsewhere ts us o next p.operator.height (λ e. omega (arith, e, lt))))
            (more lt
            ∙ ap (λ (s : ReducedTree). goes_on o.height s ts) (sym (reduce_tighter most o.height (p ∷ ps) ps p value (completed p value) refl (omega (arith, lt)) (λ e. omega (arith, e, lt)) refl))))
        by (inr (inr gt)) more =
            let d : height + (p.operator.height - height) - suc o.height ≡ p.operator.height - suc o.height = omega (arith, le, gt) in
            ap (λ r. r >>= λ x. chain (levels most unary p.operator.height) p.operator.height p.links (completed p x.0) x.1 >>= λ y. resume ps (suc p.operator.height) y.0 y.1) (climb_to (p.operator.height - height) height value le (omega (arith, le, gt)))
            ∙ rw d (associates (chain (levels most unary o.height) o.height most value ts) (λ x. climb (suc o.height) (p.operator.height - suc o.height) x.0 x.1) (λ x. chain (levels most unary p.operator.height) p.operator.height p.links (completed p x.0) x.1 >>= λ y. resume ps (suc p.operator.height) y.0 y.1))
            ∙ ap (λ (s : ReducedTree). goes_on o.height s ts) (sym (reduce_looser most o.height (p ∷ ps) (p ∷ ps) ps p value refl refl gt))

    goes_by : (s : ReducedTree) (links : ℕ) → goes_on o.height (waits_on s.left links s.pending) ts ≡ (wait_by s links o ts >>= λ qs. unary us >>= λ x. resume qs 0 x.0 x.1)
    unfolding resume chain levels
    goes_by s zero = rw (chain_deep (levels most unary o.height) o.height 0 s.left ts (o.operator, o.offset, us) (link_here ts us o next) refl) refl
    goes_by s (suc links) =
        let d : o.height - 0 ≡ o.height = omega arith in
        rw (link_here ts us o next, levels_climb o.height 0 o.height us (omega arith), d)
        (ap (λ r. r >>= λ y. resume s.pending (suc o.height) y.0 y.1) (associates (unary us) (λ x. climb 0 o.height x.0 x.1) (λ right. chain (levels most unary o.height) o.height links (Binary o.operator s.left right.0 o.offset) right.1))
        ∙ associates (unary us) (λ x. climb 0 o.height x.0 x.1 >>= λ right. chain (levels most unary o.height) o.height links (Binary o.operator s.left right.0 o.offset) right.1) (λ y. resume s.pending (suc o.height) y.0 y.1)
        ∙ alike (unary us) _ _ (λ x. associates (climb 0 o.height x.0 x.1) (λ right. chain (levels most unary o.height) o.height links (Binary o.operator s.left right.0 o.offset) right.1) (λ y. resume s.pending (suc o.height) y.0 y.1)))

    -- an operator comes next: it waits too, and what is still to do goes on with its right operand
    resume_waits : (ps : List PendingTree) (value : SurfaceTree) → resume ps 0 value ts ≡ (wait most ps value o ts >>= λ qs. unary us >>= λ x. resume qs 0 x.0 x.1)
    unfolding wait
    resume_waits ps value = resume_reduces ps 0 value (omega arith) ∙ goes_by (reduce most o.height ps value) (reduce most o.height ps value).links

  module _ (ts us vs : List Terminal) (ps : List PendingTree) (value : SurfaceTree) (o : PlacedOperator) (read : unary ts ≡ Ok (value, us)) (next : Some (o, vs) ≡ next_operator us) where
    -- an operand and an operator: the operator waits too
    pub turn_waits : (qs : List PendingTree) → wait most ps value o us ≡ Ok qs → (unary ts >>= λ x. resume ps 0 x.0 x.1) ≡ (unary vs >>= λ x. resume qs 0 x.0 x.1)
    turn_waits qs waits = rw (read, resume_waits us vs o (sym next) ps value, waits) refl

    -- an operand and an operator that is too deep
    pub turn_refused : (s : spec.TokensFault) → wait most ps value o us ≡ Err s → (unary ts >>= λ x. resume ps 0 x.0 x.1) ≡ Err s
    turn_refused s waits = rw (read, resume_waits us vs o (sym next) ps value, waits) refl
