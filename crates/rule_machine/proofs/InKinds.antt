-- Values in kinds: what is in a kind is what an operand may be that the kind matches.
use Rattle.std.proofs.Common.{◌≡◌, ℕ, true, List, [], ◌∷◌, ◌++◌, length, drop, refl, arith}
use Rattle.std.proofs.lemmas.Bool.{and_parts, and_from}
use Rattle.imkl_population.specs.Population.{Population}
use Rattle.ocl_kinds.specs.declared.kind.ScalarKind.{ScalarKind}
use Rattle.ocl_kinds.specs.declared.kind.Kind.{Kind}
use Rattle.ocl_kinds.specs.declared.kind.Kind.TheVariants as kind
use Rattle.ocl_kinds.specs.Kinds.{is_same_collection}
use Rattle.ocl_kinds.proofs.ForAbove.{fits_itself}
use Rattle.rule_verify.specs.declared.pattern.Pattern.{Pattern}
use Rattle.rule_verify.specs.declared.pattern.Pattern.TheVariants.{Fitting, Anything, AnySingle, AnyCollection, CollectionOf}
use Rattle.rule_verify.specs.Patterns.{matches, all_match}
use Rattle.rule_values.specs.Value as value
use Rattle.rule_values.specs.Value.{Value, is_collection_in, is_in}
use Rattle.rule_values.proofs.ForAbove.{collection_fits_in, fits_in}
use Rattle.rule_machine.specs.Machine.{Setting, is_what, are_what}
use Rattle.rule_machine.specs.Places.{Place, place, kinds_of, long, At, AllAt, EachAt}
use Rattle.rule_machine.specs.Live.{Below, AllBelow}

-- ---- operands

-- a value in a kind is what an operand may be that the kind matches
pub matches_in : (p : Population) (w : Pattern) (k : Kind) (v : Value) → matches p.model w k ≡ true → is_in p v k ≡ true → is_what p w v ≡ true
matches_in p (Fitting w) k v m h = fits_in p v k w m h
matches_in p Anything k v m h = refl
matches_in p AnySingle (kind.Scalar k) value.Invalid m h = refl
matches_in p AnySingle (kind.Scalar k) value.Null m h = refl
matches_in p AnySingle (kind.Scalar k) (value.Single v) m h = refl
matches_in p AnyCollection (kind.Collection c k) value.Invalid m h = refl
matches_in p AnyCollection (kind.Collection c k) (value.Collection d es) m h = refl
matches_in p (CollectionOf w) (kind.Collection c k) value.Invalid m h = refl
matches_in p (CollectionOf w) (kind.Collection c k) (value.Collection d es) m h =
    collection_fits_in p d es k w m (and_parts (is_same_collection d c) (is_collection_in p d es k) h).1
matches_in p w k v m h = cc

module _ (s : Setting) where
  -- operands at places that match are what they may be, whatever lies below
  pub match_all : (ws : List Pattern) (os : List Value) (ps below : List Place) → all_match s.population.model ws (kinds_of ps) ≡ true → AllAt s os (ps ++ below) → are_what s.population ws os ≡ true
  match_all [] os ps below m a = refl
  match_all (w ∷ ws) os [] below m a = cc
  match_all (w ∷ ws) [] (p ∷ ps) below m a = absurd a
  match_all (w ∷ ws) (o ∷ os) (p ∷ ps) below m a =
      let parts = and_parts (matches s.population.model w p.kind) (all_match s.population.model ws (kinds_of ps)) m in
      and_from _ _ (matches_in s.population w p.kind o parts.0 a.0.in_kind) (match_all ws os ps below parts.1 a.1)

  -- what lies below them stays at its places
  pub left_at : (ws : List Pattern) (os : List Value) (ps below : List Place) → all_match s.population.model ws (kinds_of ps) ≡ true → AllAt s os (ps ++ below) → AllAt s (drop (length ws) os) (drop (length ws) ps ++ below)
  left_at [] os ps below m a = a
  left_at (w ∷ ws) os [] below m a = cc
  left_at (w ∷ ws) [] (p ∷ ps) below m a = absurd a
  left_at (w ∷ ws) (o ∷ os) (p ∷ ps) below m a = left_at ws os ps below (and_parts (matches s.population.model w p.kind) (all_match s.population.model ws (kinds_of ps)) m).1 a.1

  -- and those places are the same ones
  pub left_above : (ws : List Pattern) (ps below : List Place) → all_match s.population.model ws (kinds_of ps) ≡ true → drop (length ws) (ps ++ below) ≡ drop (length ws) ps ++ below
  left_above [] ps below m = refl
  left_above (w ∷ ws) [] below m = cc
  left_above (w ∷ ws) (p ∷ ps) below m = left_above ws ps below (and_parts (matches s.population.model w p.kind) (all_match s.population.model ws (kinds_of ps)) m).1

  -- ---- places

  -- invalid may stand anywhere
  pub invalid_at : (p : Place) → At s value.Invalid p
  invalid_at p = record { in_kind = refl; within = omega arith }

  long_single : (v : Value) (k : ScalarKind) → is_in s.population v (kind.Scalar k) ≡ true → long v ≡ 0
  long_single value.Invalid k h = refl
  long_single value.Null k h = refl
  long_single (value.Single v) k h = refl
  long_single (value.Collection c es) k h = cc

  -- a value in a scalar kind may stand there, whatever the length
  pub single_at : (v : Value) (k : ScalarKind) (n : ℕ) → is_in s.population v (kind.Scalar k) ≡ true → At s v (place (kind.Scalar k) n)
  single_at v k n h = record { in_kind = h; within = omega (arith, long_single v k h) }

  -- a place is as wide as itself
  pub below_itself : (p : Place) → Below s p p
  below_itself p = record { fit = fits_itself s.population.model p.kind; shorter = omega arith }

  -- a value at a place stands at each wider one too
  pub at_below : (v : Value) (p q : Place) → Below s p q → At s v p → At s v q
  at_below v p q b a = record { in_kind = fits_in s.population v p.kind q.kind b.fit a.in_kind; within = omega (arith, b.shorter, a.within) }

  -- values at places stand at wider ones too, whatever lies below
  pub all_below : (vs : List Value) (ps qs rest : List Place) → AllBelow s ps qs → AllAt s vs (ps ++ rest) → AllAt s vs (qs ++ rest)
  all_below vs [] [] rest b a = a
  all_below vs [] (q ∷ qs) rest b a = absurd b
  all_below vs (p ∷ ps) [] rest b a = absurd b
  all_below [] (p ∷ ps) (q ∷ qs) rest b a = absurd a
  all_below (v ∷ vs) (p ∷ ps) (q ∷ qs) rest b a = (at_below v p q b.0 a.0, all_below vs ps qs rest b.1 a.1)

  -- two lists of values that stand at one place stand at it together
  pub each_joined : (p : Place) (vs ws : List Value) → EachAt s p vs → EachAt s p ws → EachAt s p (vs ++ ws)
  each_joined p [] ws a b = b
  each_joined p (v ∷ vs) ws a b = (a.0, each_joined p vs ws a.1 b)
