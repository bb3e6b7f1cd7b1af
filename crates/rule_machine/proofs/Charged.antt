-- Charges of steps and of runs: no step is free, and what a step is charged is no more than its bound allows.
use Rattle.std.proofs.Common.{◌≡◌, ℕ, zero, suc, ◌+◌, ◌*◌, ◌<◌, ◌≤◌, true, List, [], ◌∷◌, ◌++◌, length, Option, Some, None, refl, ap, arith}
use Rattle.std.specs.Prelude.{option_and_then, unwrap_or}
use Rattle.std.specs.Option.{option_map}
use Rattle.std.proofs.Math.Nat.{mul-le-mul}
use Rattle.std.proofs.lemmas.Bool.{and_parts}
use Rattle.rule_code.specs.declared.instruction.Instr.{Instr}
use Rattle.rule_code.specs.declared.instruction.Instr.TheVariants as instrs
use Rattle.rule_code.specs.declared.kind.WrittenKind.TheVariants as kinds
use Rattle.rule_verify.specs.declared.pattern.Pattern.{Pattern}
use Rattle.rule_verify.specs.CodeTree.{Plain}
use Rattle.rule_verify.specs.Patterns.{matches, all_match}
use Rattle.rule_verify.specs.InstrKinds.{Surroundings, operands_of}
use Rattle.rule_values.specs.Value.{Value}
use Rattle.rule_machine.specs.Machine.{Setting, judged_by, Piece, Sequence, Opened, Turning, Configuration, step, run}
use Rattle.rule_machine.specs.Places.{Place, kinds_of, lengths_of, AllAt}
use Rattle.rule_cost.specs.Bounds.{top_length, second_length, extra_charge, taking_charge, ending_charge}
use Rattle.rule_machine.specs.Charges.{longs, piece_charge, charge_of, work_of}
use Rattle.rule_machine.specs.Live.{IsTaken}

-- ---- lengths that are no greater

-- the first n are there, and those of the one are no greater
abbrev pub Covered : ℕ → List ℕ → List ℕ → Type 0
Covered zero ls ms = Unit {0}
Covered (suc n) (l ∷ ls) (m ∷ ms) = (l ≤ m) × Covered n ls ms
Covered (suc n) ls ms = ⊥

top_covered : (n : ℕ) (ls ms : List ℕ) → Covered (suc n) ls ms → top_length ls ≤ top_length ms
top_covered n [] ms c = absurd c
top_covered n (l ∷ ls) [] c = absurd c
top_covered n (l ∷ ls) (m ∷ ms) c = c.0

second_covered : (ls ms : List ℕ) → Covered 2 ls ms → second_length ls ≤ second_length ms
second_covered [] ms c = absurd c
second_covered (l ∷ ls) [] c = absurd c
second_covered (l ∷ ls) (m ∷ ms) c = top_covered 0 ls ms c.1

both_covered : (ls ms : List ℕ) → Covered 2 ls ms → second_length ls * top_length ls ≤ second_length ms * top_length ms
both_covered ls ms c = mul-le-mul (second_covered ls ms c) (top_covered 1 ls ms c)

-- an instruction is charged no more for shorter operands
extra_covered : (s : Surroundings) (i : Instr) (ls ms : List ℕ) → Covered (length (operands_of s i)) ls ms → extra_charge i ls ≤ extra_charge i ms
extra_covered s (instrs.Includes k) ls ms c = second_covered ls ms c
extra_covered s (instrs.Count k) ls ms c = second_covered ls ms c
extra_covered s (instrs.IncAll k) ls ms c = both_covered ls ms c
extra_covered s (instrs.ExcAll k) ls ms c = both_covered ls ms c
extra_covered s (instrs.Eq (kinds.Collection d k)) ls ms c = both_covered ls ms c
extra_covered s (instrs.Eq (kinds.Scalar k)) ls ms c = omega arith
extra_covered s instrs.Sum ls ms c = top_covered 0 ls ms c
extra_covered s (instrs.AsSet k) ls ms c = mul-le-mul (top_covered 0 ls ms c) (top_covered 0 ls ms c)
extra_covered s i ls ms c = omega arith

module _ (s : Setting) where
  -- operands at places that match are no longer than those
  covered : (ws : List Pattern) (os : List Value) (ps below : List Place) → all_match s.population.model ws (kinds_of ps) ≡ true → AllAt s os (ps ++ below) → Covered (length ws) (longs os) (lengths_of ps)
  covered [] os ps below m a = tt
  covered (w ∷ ws) os [] below m a = cc
  covered (w ∷ ws) [] (p ∷ ps) below m a = absurd a
  covered (w ∷ ws) (o ∷ os) (p ∷ ps) below m a =
      (a.0.within, covered ws os ps below (and_parts (matches s.population.model w p.kind) (all_match s.population.model ws (kinds_of ps)) m).1 a.1)

  -- an instruction is charged no more than for the greatest lengths of its operands
  pub extra_within : (i : Instr) (vps ps below : List Place) (os : List Value) → IsTaken s i vps ps → AllAt s os (ps ++ below) → extra_charge i (longs os) ≤ extra_charge i (lengths_of ps)
  extra_within i vps ps below os t a = extra_covered (judged_by s) i (longs os) (lengths_of ps) (covered (operands_of (judged_by s) i) os ps below t.match a)

-- taking a shorter value is charged no more
pub taking_within : (i : Instr) (l m : ℕ) → l ≤ m → taking_charge i l ≤ taking_charge i m
taking_within (instrs.CollectFlat n) l m le = le
taking_within i l m le = omega arith

-- nor is ending over a shorter source
pub ending_within : (i : Instr) (l m : ℕ) → l ≤ m → ending_charge i l ≤ ending_charge i m
ending_within (instrs.IsUnique k n) l m le = mul-le-mul le le
ending_within i l m le = omega arith

-- ---- steps and runs

piece_charged : (q : List Piece) (os : List Value) → 0 < piece_charge q os
piece_charged (Sequence (Plain i rest) ∷ q) os = omega arith
piece_charged (Opened i body source kept ∷ q) os = omega arith
piece_charged (Turning i body source left kept ∷ q) os = omega arith
piece_charged q os = omega arith

-- no step is free
pub charged : (c : Configuration) → 0 < charge_of c
charged c = piece_charged c.pending c.operands

-- the charges of a run whose first step is known
pub work_first : (s : Setting) (n : ℕ) (c d : Configuration) → step s c ≡ Some d → work_of s (suc n) c ≡ charge_of c + work_of s n d
work_first s n c d e = ap (λ x. charge_of c + unwrap_or (option_map (work_of s n) x) 0) e

-- and with one step more
pub work_more : (s : Setting) (n : ℕ) (c d : Configuration) → run s n c ≡ Some d → work_of s (suc n) c ≡ work_of s n c + charge_of d
work_more s zero c d r =
    let same : c ≡ d = cc in
    let one : work_of s 1 c ≡ charge_of c = omega (arith, nothing (step s c)) in
    omega (arith, one, ap charge_of same)
  where
    nothing : (o : Option Configuration) → unwrap_or (option_map (work_of s 0) o) 0 ≡ 0
    nothing None = refl
    nothing (Some x) = refl
work_more s (suc n) c d r = by_first (λ x q. work_more s n x d q) (step s c) r
  where
    by_first : ((x : Configuration) → run s n x ≡ Some d → work_of s (suc n) x ≡ work_of s n x + charge_of d) → (o : Option Configuration) → option_and_then (run s n) o ≡ Some d
        → charge_of c + unwrap_or (option_map (work_of s (suc n)) o) 0 ≡ charge_of c + unwrap_or (option_map (work_of s n) o) 0 + charge_of d
    by_first more None r = cc
    by_first more (Some x) r = omega (arith, more x r)

-- a run is charged at least 1 for each of its steps
pub steps_within : (s : Setting) (n : ℕ) (c d : Configuration) → run s n c ≡ Some d → n ≤ work_of s n c
steps_within s zero c d r = omega arith
steps_within s (suc n) c d r = by_first (λ x q. steps_within s n x d q) (step s c) r
  where
    by_first : ((x : Configuration) → run s n x ≡ Some d → n ≤ work_of s n x) → (o : Option Configuration) → option_and_then (run s n) o ≡ Some d → suc n ≤ charge_of c + unwrap_or (option_map (work_of s n) o) 0
    by_first more None r = cc
    by_first more (Some x) r = omega (arith, more x r, charged c)
