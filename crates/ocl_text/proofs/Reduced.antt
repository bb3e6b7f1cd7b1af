-- What becomes of the operator that waits innermost.
use Rattle.std.proofs.Common.{◌≡◌, ◌≢◌, ℕ, ◌<◌, ◌≤◌, List, [], ◌∷◌, ◌++◌, length, map, reverse, refl, ap, ◌∙◌, arith, Vec, vec_len, Global}
use Rattle.std.proofs.lemmas.Bool.{lt-ltb, le-ltb, eq-eqb, ne_eqb}
use Rattle.std.proofs.lemmas.List.{map_push, reverse-append}
use Rattle.ocl_text.specs.declared.pending.Pending.{Pending}
use Rattle.ocl_text.specs.Tree.{SurfaceTree}
use Rattle.ocl_text.specs.Pending.{PendingTree, completed, closed, reduce, pending_of, waiting}

none_is : {A : Type 0} (xs : List A) → length xs ≡ 0 → xs ≡ []
none_is [] h = refl
none_is (x ∷ xs) h = absurd (omega (arith, h))

-- in a new list none waits
pub waiting_new : (ps : Vec Pending Global) → ps.items ≡ [] → waiting ps ≡ []
waiting_new ps h = rw h refl

-- in an empty list none waits
pub waiting_none : (ps : Vec Pending Global) → vec_len ps ≡ 0 → waiting ps ≡ []
waiting_none ps h = let l = ps.ok.0 in rw (none_is ps.items (omega (arith, l, h))) refl

-- what is pushed waits innermost
pub waiting_push : (before after : Vec Pending Global) (p : Pending) → after.items ≡ before.items ++ p ∷ [] → waiting after ≡ pending_of p ∷ waiting before
waiting_push before after p h = rw h (ap reverse (map_push pending_of before.items p) ∙ reverse-append (map pending_of before.items) (pending_of p ∷ []))

-- an operand for which none waits
pub closed_none : (ps : List PendingTree) (value : SurfaceTree) → ps ≡ [] → closed ps value ≡ value
unfolding closed
closed_none ps value h = rw h refl

-- the innermost gets its right operand
pub closed_more : (ps qs : List PendingTree) (p : PendingTree) (value next : SurfaceTree) → ps ≡ p ∷ qs → next ≡ completed p value → closed ps value ≡ closed qs next
unfolding closed
closed_more ps qs p value next h v = rw (h, v) refl

module _ (most height : ℕ) where
  -- none waits
  pub reduce_none : (ps qs : List PendingTree) (value : SurfaceTree) → ps ≡ [] → qs ≡ [] → reduce most height ps value ≡ record { left = value; links = most; pending = qs }
  unfolding reduce
  reduce_none ps qs value h k = rw (h, k) refl

  -- the innermost binds looser: nothing gets its operand
  pub reduce_looser : (ps same qs : List PendingTree) (p : PendingTree) (value : SurfaceTree) → ps ≡ p ∷ qs → same ≡ p ∷ qs → height < p.operator.height → reduce most height ps value ≡ record { left = value; links = most; pending = same }
  unfolding reduce
  reduce_looser ps again qs p value h k lt = rw (h, k) (rw (lt-ltb height p.operator.height lt) refl)

  -- the innermost is of the same chain: it gets its operand, and the chain may have as many more as it said
  pub reduce_same : (ps qs : List PendingTree) (p : PendingTree) (value next : SurfaceTree) → ps ≡ p ∷ qs → p.operator.height ≡ height → next ≡ completed p value → reduce most height ps value ≡ record { left = next; links = p.links; pending = qs }
  unfolding reduce
  reduce_same ps qs p value next h e v = rw (h, v) (rw (le-ltb height p.operator.height (omega (arith, e))) (rw e (rw (eq-eqb height height refl) refl)))

  -- the innermost binds tighter: it gets its operand
  pub reduce_tighter : (ps qs : List PendingTree) (p : PendingTree) (value next : SurfaceTree) → ps ≡ p ∷ qs → p.operator.height ≤ height → p.operator.height ≢ height → next ≡ completed p value → reduce most height ps value ≡ reduce most height qs next
  unfolding reduce
  reduce_tighter ps qs p value next h le ne v = rw (h, v) (rw (le-ltb height p.operator.height le, ne_eqb p.operator.height height ne) refl)
