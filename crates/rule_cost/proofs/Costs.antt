-- Costs of code where lengths are one when they are cut.
use Rattle.std.proofs.Common.{◌≡◌, ℕ, zero, suc, ◌+◌, ◌-◌, ◌*◌, Bool, true, false, List, [], ◌∷◌, ◌++◌, length, drop, Some, refl, sym, ap, ◌∙◌}
use Rattle.std.specs.Prelude.{◌==◌, max, if◌then◌else◌}
use Rattle.imkl_population.specs.Sizes.{Sizes}
use Rattle.rule_code.specs.declared.instruction.Instr.{Instr}
use Rattle.rule_code.specs.declared.instruction.Instr.TheVariants as instrs
use Rattle.rule_verify.specs.CodeTree.{CodeTree, End, Plain, Block, Branch, Torn}
use Rattle.rule_code.specs.declared.kind.WrittenKind.TheVariants as kinds
use Rattle.ocl_base.specs.Lists.{variable_at}
use Rattle.rule_verify.specs.InstrKinds.{Surroundings, operands_of, operands_above, bound_count}
use Rattle.rule_cost.specs.Bounds.{Cost, more_charges, top_length, second_length, or_zero, length_given, block_length, lengths_bound_by, length_yielded, extra_charge, taking_charge, ending_charge, block_charges, branch_charges, lengths_below, cost_of}
use Rattle.rule_cost.specs.Limits.{SameCut}
use Rattle.rule_cost.specs.CostWalk.{SameLengths, SameCost}
use Rattle.rule_cost.proofs.Cuts.{plus_same, times_same, max_same}

-- ---- lengths

-- each list of lengths is, cut, the same as itself
pub same_lengths : (ls : List ℕ) → SameLengths ls ls
same_lengths [] = tt
same_lengths (l ∷ ls) = (refl, same_lengths ls)

-- the other way round
pub lengths_back : (ls ms : List ℕ) → SameLengths ls ms → SameLengths ms ls
lengths_back [] [] h = tt
lengths_back (l ∷ ls) (m ∷ ms) h = (sym h.0, lengths_back ls ms h.1)
lengths_back [] (m ∷ ms) h = absurd h
lengths_back (l ∷ ls) [] h = absurd h

lengths_along : (ks ls ms : List ℕ) → SameLengths ks ls → SameLengths ls ms → SameLengths ks ms
lengths_along [] [] [] h g = tt
lengths_along (k ∷ ks) (l ∷ ls) (m ∷ ms) h g = (h.0 ∙ g.0, lengths_along ks ls ms h.1 g.1)
lengths_along [] (l ∷ ls) ms h g = absurd h
lengths_along (k ∷ ks) [] ms h g = absurd h
lengths_along [] [] (m ∷ ms) h g = absurd g
lengths_along (k ∷ ks) (l ∷ ls) [] h g = absurd g

as_many : (ls ms : List ℕ) → SameLengths ls ms → length ls ≡ length ms
as_many [] [] h = refl
as_many (l ∷ ls) (m ∷ ms) h = ap suc (as_many ls ms h.1)
as_many [] (m ∷ ms) h = absurd h
as_many (l ∷ ls) [] h = absurd h

-- lengths that are one when they are cut have such topmost ones
pub top_same : (ls ms : List ℕ) → SameLengths ls ms → SameCut (top_length ls) (top_length ms)
top_same [] [] h = refl
top_same (l ∷ ls) (m ∷ ms) h = h.0
top_same [] (m ∷ ms) h = absurd h
top_same (l ∷ ls) [] h = absurd h

drop_same : (n : ℕ) (ls ms : List ℕ) → SameLengths ls ms → SameLengths (drop n ls) (drop n ms)
drop_same zero ls ms h = h
drop_same (suc n) [] [] h = tt
drop_same (suc n) (l ∷ ls) (m ∷ ms) h = drop_same n ls ms h.1
drop_same (suc n) [] (m ∷ ms) h = absurd h
drop_same (suc n) (l ∷ ls) [] h = absurd h

-- and such ones below them
second_same : (ls ms : List ℕ) → SameLengths ls ms → SameCut (second_length ls) (second_length ms)
second_same ls ms h = top_same (drop 1 ls) (drop 1 ms) (drop_same 1 ls ms h)

variable_by : (b : Bool) (n l m : ℕ) (ls ms : List ℕ) → (n == length ls) ≡ b → length ls ≡ length ms → SameCut l m → SameCut (or_zero (variable_at ls n)) (or_zero (variable_at ms n))
    → SameCut (or_zero (if n == length ls then Some l else variable_at ls n)) (or_zero (if n == length ms then Some m else variable_at ms n))
variable_by true n l m ls ms e many h g = let there : (n == length ms) ≡ true = ap (λ k. n == k) (sym many) ∙ e in rw (e, there) h
variable_by false n l m ls ms e many h g = let there : (n == length ms) ≡ false = ap (λ k. n == k) (sym many) ∙ e in rw (e, there) g

variable_same : (n : ℕ) (ls ms : List ℕ) → SameLengths ls ms → SameCut (or_zero (variable_at ls n)) (or_zero (variable_at ms n))
variable_same n [] [] h = refl
variable_same n (l ∷ ls) (m ∷ ms) h = variable_by (n == length ls) n l m ls ms refl (as_many ls ms h.1) h.0 (variable_same n ls ms h.1)
variable_same n [] (m ∷ ms) h = absurd h
variable_same n (l ∷ ls) [] h = absurd h

-- ---- instructions

given_same : (s : Surroundings) (z : Sizes) (i : Instr) (vars vars' ls ls' : List ℕ) → SameLengths vars vars' → SameLengths ls ls' → SameCut (length_given s z vars i ls) (length_given s z vars' i ls')
given_same s z (instrs.Get n) vars vars' ls ls' h g = variable_same n vars vars' h
given_same s z (instrs.AsSet k) vars vars' ls ls' h g = top_same ls ls' g
given_same s z i vars vars' ls ls' h g = refl

-- numbers that are one when they are cut give such ones: lengths bound and yielded, charges of an IF and of a block
pub binds_same : (i : Instr) (l m : ℕ) (vars vars' : List ℕ) → SameCut l m → SameLengths vars vars' → SameLengths (lengths_bound_by i l ++ vars) (lengths_bound_by i m ++ vars')
binds_same (instrs.Let n) l m vars vars' h g = (h, g)
binds_same (instrs.Fold k n) l m vars vars' h g = (refl, (refl, g))
binds_same i l m vars vars' h g = (refl, g)

-- the lengths of the variables that a block binds, put on others: of one, and of two of which the newer is a single value
pub one_bound : (i : Instr) (l x : ℕ) (new old : List ℕ) → (bound_count i ≡ 2 → ⊥) → SameLengths (x ∷ []) (drop (bound_count i - 1) (lengths_bound_by i l)) → new ≡ x ∷ old → SameLengths new (lengths_bound_by i l ++ old)
one_bound (instrs.Let n) l x new old one h e = rw e (h.0, same_lengths old)
one_bound (instrs.Fold k n) l x new old one h e = absurd (one refl)
one_bound i l x new old one h e = rw e (h.0, same_lengths old)

pub two_bound : (i : Instr) (l x y : ℕ) (new old : List ℕ) → bound_count i ≡ 2 → SameLengths (x ∷ []) (drop (bound_count i - 1) (lengths_bound_by i l)) → SameCut y 0 → new ≡ y ∷ x ∷ old → SameLengths new (lengths_bound_by i l ++ old)
two_bound (instrs.Let n) l x y new old two h g e = cc
two_bound (instrs.Fold k n) l x y new old two h g e = rw e (g, (h.0, same_lengths old))
two_bound i l x y new old two h g e = cc

pub yields_same : (i : Instr) (l m r q : ℕ) → SameCut l m → SameCut r q → SameCut (length_yielded i l r) (length_yielded i m q)
yields_same (instrs.Let n) l m r q h g = g
yields_same (instrs.Select n) l m r q h g = h
yields_same (instrs.Reject n) l m r q h g = h
yields_same (instrs.Collect n) l m r q h g = h
yields_same (instrs.CollectFlat n) l m r q h g = times_same l r m q h g
yields_same i l m r q h g = refl

pub branch_same : (b c d e : ℕ) → SameCut b d → SameCut c e → SameCut (branch_charges b c) (branch_charges d e)
branch_same b c d e h g = plus_same 1 (max b c) 1 (max d e) refl (max_same b c d e h g)

-- charges of such numbers
extra_same : (i : Instr) (ls ms : List ℕ) → SameLengths ls ms → SameCut (extra_charge i ls) (extra_charge i ms)
extra_same (instrs.Includes k) ls ms h = second_same ls ms h
extra_same (instrs.Count k) ls ms h = second_same ls ms h
extra_same (instrs.IncAll k) ls ms h = times_same (second_length ls) (top_length ls) (second_length ms) (top_length ms) (second_same ls ms h) (top_same ls ms h)
extra_same (instrs.ExcAll k) ls ms h = times_same (second_length ls) (top_length ls) (second_length ms) (top_length ms) (second_same ls ms h) (top_same ls ms h)
extra_same (instrs.Eq (kinds.Collection c k)) ls ms h = times_same (second_length ls) (top_length ls) (second_length ms) (top_length ms) (second_same ls ms h) (top_same ls ms h)
extra_same (instrs.Eq (kinds.Scalar k)) ls ms h = refl
extra_same instrs.Sum ls ms h = top_same ls ms h
extra_same (instrs.AsSet k) ls ms h = times_same (top_length ls) (top_length ls) (top_length ms) (top_length ms) (top_same ls ms h) (top_same ls ms h)
extra_same i ls ms h = refl

taking_same : (i : Instr) (l m : ℕ) → SameCut l m → SameCut (taking_charge i l) (taking_charge i m)
taking_same (instrs.CollectFlat n) l m h = h
taking_same i l m h = refl

ending_same : (i : Instr) (l m : ℕ) → SameCut l m → SameCut (ending_charge i l) (ending_charge i m)
ending_same (instrs.IsUnique k n) l m h = times_same l l m m h h
ending_same i l m h = refl

-- those of the turns of an iteration and of its end, by their parts
pub turns_same : (l m b c t u e f : ℕ) → SameCut l m → SameCut b c → SameCut t u → SameCut e f → SameCut (2 + l * (1 + b + t) + e) (2 + m * (1 + c + u) + f)
turns_same l m b c t u e f h g j k =
    plus_same (2 + l * (1 + b + t)) e (2 + m * (1 + c + u)) f
    (plus_same 2 (l * (1 + b + t)) 2 (m * (1 + c + u)) refl (times_same l (1 + b + t) m (1 + c + u) h (plus_same (1 + b) t (1 + c) u (plus_same 1 b 1 c refl g) j))) k

pub block_same : (i : Instr) (l m b c r q : ℕ) → SameCut l m → SameCut b c → SameCut r q → SameCut (block_charges i l b r) (block_charges i m c q)
block_same (instrs.Let n) l m b c r q h g j = plus_same 2 b 2 c refl g
block_same i l m b c r q h g j = turns_same l m b c (taking_charge i r) (taking_charge i q) (ending_charge i l) (ending_charge i m) h g (taking_same i r q j) (ending_same i l m h)

-- ---- code

-- costs that are one when they are cut stay so with charges before them
pub more_same : (m n : ℕ) (a b : Cost) → SameCut m n → SameCost a b → SameCost (more_charges m a) (more_charges n b)
more_same m n a b h g = record { charges = plus_same m a.charges n b.charges h g.charges; lengths = g.lengths }

-- of three costs, where two pairs are one when they are cut, so is the third
pub cost_along : (a b c : Cost) → SameCost a b → SameCost b c → SameCost a c
cost_along a b c h g = record { charges = h.charges ∙ g.charges; lengths = lengths_along a.lengths b.lengths c.lengths h.lengths g.lengths }

-- code costs the same where its variables and operands are as long
pub cost_same : (s : Surroundings) (z : Sizes) (t : CodeTree) (vars vars' ls ls' : List ℕ) → SameLengths vars vars' → SameLengths ls ls' → SameCost (cost_of s z t vars ls) (cost_of s z t vars' ls')
cost_same s z End vars vars' ls ls' h g = record { charges = refl; lengths = g }
cost_same s z (Plain i rest) vars vars' ls ls' h g =
    more_same (1 + extra_charge i ls) (1 + extra_charge i ls') (cost_of s z rest vars (length_given s z vars i ls ∷ lengths_below s i ls)) (cost_of s z rest vars' (length_given s z vars' i ls' ∷ lengths_below s i ls')) (plus_same 1 (extra_charge i ls) 1 (extra_charge i ls') refl (extra_same i ls ls' g))
    (cost_same s z rest vars vars' _ _ h (given_same s z i vars vars' ls ls' h g, drop_same (length (operands_of s i)) ls ls' g))
cost_same s z (Block i body rest) vars vars' ls ls' h g =
    let top = top_same _ _ (drop_same (operands_above i) ls ls' g) in
    let inner = cost_same s z body (lengths_bound_by i (block_length i ls) ++ vars) (lengths_bound_by i (block_length i ls') ++ vars') [] [] (binds_same i (block_length i ls) (block_length i ls') vars vars' top h) tt in
    more_same _ _ _ _ (block_same i (block_length i ls) (block_length i ls') _ _ _ _ top inner.charges (top_same _ _ inner.lengths))
    (cost_same s z rest vars vars' _ _ h (yields_same i (block_length i ls) (block_length i ls') _ _ top (top_same _ _ inner.lengths), drop_same (length (operands_of s i)) ls ls' g))
cost_same s z (Branch i first second rest) vars vars' ls ls' h g =
    let one = cost_same s z first vars vars' [] [] h tt in
    let two = cost_same s z second vars vars' [] [] h tt in
    more_same _ _ _ _ (branch_same _ _ _ _ one.charges two.charges)
    (cost_same s z rest vars vars' _ _ h (max_same _ _ _ _ (top_same _ _ one.lengths) (top_same _ _ two.lengths), drop_same (length (operands_of s i)) ls ls' g))
cost_same s z (Torn i left) vars vars' ls ls' h g = record { charges = refl; lengths = g }
