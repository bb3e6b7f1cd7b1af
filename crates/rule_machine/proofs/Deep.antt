-- Depths: what goes no deeper, its parts don't either.
use Rattle.std.proofs.Common.{◌≡◌, ℕ, suc, ◌+◌, ◌-◌, ◌*◌, ◌≤◌, List, [], ◌∷◌, length, refl, ap, subst, arith}
use Rattle.rule_code.specs.declared.instruction.Instr.{Instr}
use Rattle.rule_verify.specs.declared.depths.Depths.{Depths}
use Rattle.rule_verify.specs.declared.pattern.Pattern.{Pattern}
use Rattle.rule_verify.specs.CodeDepths.{deeper, deepest, past_instr}
use Rattle.rule_verify.specs.CodeTree.{CodeTree, End, Plain, Block, Branch, Torn}
use Rattle.rule_verify.specs.InstrKinds.{Surroundings, operands_of, bound_count}
use Rattle.rule_values.specs.Value.{Value}
use Rattle.rule_machine.specs.Machine.{Setting, judged_by}
use Rattle.rule_machine.specs.Places.{Place, Stand, AllAt}
use Rattle.rule_machine.specs.Live.{AllBelow, NoDeeper, GoesNoDeeper, HasRoom}

first_no_deeper : (a b d : Depths) → NoDeeper (deeper a b) d → NoDeeper a d
first_no_deeper a b d h = record { operands = omega (arith, h.operands); variables = omega (arith, h.variables); blocks = omega (arith, h.blocks) }

second_no_deeper : (a b d : Depths) → NoDeeper (deeper a b) d → NoDeeper b d
second_no_deeper a b d h = record { operands = omega (arith, h.operands); variables = omega (arith, h.variables); blocks = omega (arith, h.blocks) }

-- what stands before a tree
before_no_deeper : (s : Surroundings) (t : CodeTree) (c d : Depths) → NoDeeper (deepest s t c) d → NoDeeper c d
before_no_deeper s End c d h = h
before_no_deeper s (Plain i rest) c d h = first_no_deeper c _ d h
before_no_deeper s (Block i body rest) c d h = first_no_deeper c _ d h
before_no_deeper s (Branch i first second rest) c d h = first_no_deeper c _ d h
before_no_deeper s (Torn i left) c d h = h

abbrev depths : ℕ → ℕ → ℕ → Depths
depths v o b = record { operands = o; variables = v; blocks = b }

module _ (s : Setting) (d : Depths) where
  -- what goes no deeper has room
  pub sequence_room : (t : CodeTree) (at : Stand) (n : ℕ) → GoesNoDeeper s d t (length at.variables) (length at.operands) n → HasRoom d (suc n) at
  sequence_room t at n g =
      let h = before_no_deeper (judged_by s) t (depths (length at.variables) (length at.operands) g.blocks) d g.within in
      record { operands = h.operands; variables = h.variables; pieces = omega (arith, g.covered, h.blocks) }

  -- at equal counts
  count_is : (t : CodeTree) (v w o p n : ℕ) (b : ℕ) → v ≡ w → o ≡ p → NoDeeper (deepest (judged_by s) t (depths v o b)) d → n ≤ 2 * b → GoesNoDeeper s d t w p n
  count_is t v w o p n b ve oe h le =
      record { blocks = b; covered = le; within = subst (λ x. NoDeeper (deepest (judged_by s) t (depths x p b)) d) ve (subst (λ x. NoDeeper (deepest (judged_by s) t (depths v x b)) d) oe h) }

  -- the code after an instruction without a body
  pub plain_deep : (i : Instr) (rest : CodeTree) (v o p n : ℕ) → p ≡ suc (o - length (operands_of (judged_by s) i)) → GoesNoDeeper s d (Plain i rest) v o n → GoesNoDeeper s d rest v p n
  plain_deep i rest v o p n e g =
      count_is rest v v _ p n g.blocks refl (omega (arith, e)) (second_no_deeper (depths v o g.blocks) (deepest (judged_by s) rest (past_instr (judged_by s) i (depths v o g.blocks))) d g.within) g.covered

  -- the body of a block that binds variables, and the code after it
  pub block_deep : (i : Instr) (body rest : CodeTree) (v o p n : ℕ) → p ≡ o - length (operands_of (judged_by s) i) → GoesNoDeeper s d (Block i body rest) v o n → GoesNoDeeper s d body (bound_count i + v) p (suc (suc n)) × GoesNoDeeper s d rest v (suc p) n
  block_deep i body rest v o p n e g =
      let sur = judged_by s in
      let parts = second_no_deeper (depths v o g.blocks) _ d g.within in (
        count_is body (v + bound_count i) (bound_count i + v) (o - length (operands_of sur i)) p (suc (suc n)) (g.blocks + 1) (omega arith) (omega (arith, e)) (first_no_deeper _ _ d parts) (omega (arith, g.covered)),
        count_is rest v v (o - length (operands_of sur i) + 1) (suc p) n g.blocks refl (omega (arith, e)) (second_no_deeper _ _ d parts) g.covered,
      )

  -- the branches of an IF, and the code after it
  pub branch_deep : (i : Instr) (w : Pattern) (first second rest : CodeTree) (v o n : ℕ) → operands_of (judged_by s) i ≡ w ∷ [] → GoesNoDeeper s d (Branch i first second rest) v (suc o) n → GoesNoDeeper s d first v o (suc n) × GoesNoDeeper s d second v o (suc n) × GoesNoDeeper s d rest v (suc o) n
  branch_deep i w first second rest v o n e g =
      let sur = judged_by s in
      let taken : suc o - length (operands_of sur i) ≡ suc o - 1 = ap (λ ws. suc o - length ws) e in
      let parts = second_no_deeper (depths v (suc o) g.blocks) _ d g.within in
      let more = second_no_deeper _ _ d parts in (
        count_is first v v (suc o - length (operands_of sur i)) o (suc n) (g.blocks + 1) refl (omega (arith, taken)) (first_no_deeper _ _ d parts) (omega (arith, g.covered)),
        count_is second v v (suc o - length (operands_of sur i)) o (suc n) (g.blocks + 1) refl (omega (arith, taken)) (first_no_deeper _ _ d more) (omega (arith, g.covered)),
        count_is rest v v (suc o - length (operands_of sur i) + 1) (suc o) n g.blocks refl (omega (arith, taken)) (second_no_deeper _ _ d more) g.covered,
      )

-- places below others are as many
pub as_many_below : (s : Setting) (ps qs : List Place) → AllBelow s ps qs → length ps ≡ length qs
as_many_below s [] [] b = refl
as_many_below s [] (q ∷ qs) b = absurd b
as_many_below s (p ∷ ps) [] b = absurd b
as_many_below s (p ∷ ps) (q ∷ qs) b = ap suc (as_many_below s ps qs b.1)

-- values stand at as many places
pub as_many_at : (s : Setting) (vs : List Value) (ps : List Place) → AllAt s vs ps → length vs ≡ length ps
as_many_at s [] [] a = refl
as_many_at s [] (p ∷ ps) a = absurd a
as_many_at s (v ∷ vs) [] a = absurd a
as_many_at s (v ∷ vs) (p ∷ ps) a = ap suc (as_many_at s vs ps a.1)
