-- What instructions make of trees, by the families that they are not of.
use Rattle.std.proofs.Common.{◌≡◌, ℕ, List, Option, None, refl}
use Rattle.ocl_core.specs.Core.{CoreTree}
use Rattle.rule_code.specs.declared.instruction.Instr.{Instr}
use Rattle.rule_code.specs.declared.instruction.Instr.TheVariants as instrs
use Rattle.rule_code.specs.declared.kind.WrittenKind.{WrittenKind}
use Rattle.rule_code.specs.declared.kind.WrittenScalar.{WrittenScalar}
use Rattle.rule_verify.specs.InstrKinds.{Surroundings}
use Rattle.rule_trees.specs.InstrTrees.{element_trees, truth_trees, number_trees}
use Rattle.rule_trees.specs.CoreOf.{block_trees}

-- an instruction that gives no truth value by operands other than elements is one that asks for elements, if any
pub other_truths : (s : Surroundings) (i : Instr) (cs : List CoreTree) → (i ≡ instrs.Lt → ⊥) → (i ≡ instrs.Le → ⊥) → (i ≡ instrs.Gt → ⊥) → (i ≡ instrs.Ge → ⊥) → (i ≡ instrs.Not → ⊥) → (i ≡ instrs.And → ⊥) → (i ≡ instrs.Or → ⊥) → (i ≡ instrs.Xor → ⊥) → (i ≡ instrs.Implies → ⊥) → ((k : WrittenKind) → i ≡ instrs.Eq k → ⊥) → (i ≡ instrs.Eqx → ⊥) → (i ≡ instrs.Undef → ⊥) → (i ≡ instrs.IsInv → ⊥)
    → truth_trees s i cs ≡ element_trees s i cs
other_truths s instrs.Lt cs h1 h2 h3 h4 h5 h6 h7 h8 h9 h10 h11 h12 h13 = absurd (h1 refl)
other_truths s instrs.Le cs h1 h2 h3 h4 h5 h6 h7 h8 h9 h10 h11 h12 h13 = absurd (h2 refl)
other_truths s instrs.Gt cs h1 h2 h3 h4 h5 h6 h7 h8 h9 h10 h11 h12 h13 = absurd (h3 refl)
other_truths s instrs.Ge cs h1 h2 h3 h4 h5 h6 h7 h8 h9 h10 h11 h12 h13 = absurd (h4 refl)
other_truths s instrs.Not cs h1 h2 h3 h4 h5 h6 h7 h8 h9 h10 h11 h12 h13 = absurd (h5 refl)
other_truths s instrs.And cs h1 h2 h3 h4 h5 h6 h7 h8 h9 h10 h11 h12 h13 = absurd (h6 refl)
other_truths s instrs.Or cs h1 h2 h3 h4 h5 h6 h7 h8 h9 h10 h11 h12 h13 = absurd (h7 refl)
other_truths s instrs.Xor cs h1 h2 h3 h4 h5 h6 h7 h8 h9 h10 h11 h12 h13 = absurd (h8 refl)
other_truths s instrs.Implies cs h1 h2 h3 h4 h5 h6 h7 h8 h9 h10 h11 h12 h13 = absurd (h9 refl)
other_truths s (instrs.Eq k) cs h1 h2 h3 h4 h5 h6 h7 h8 h9 h10 h11 h12 h13 = absurd (h10 k refl)
other_truths s instrs.Eqx cs h1 h2 h3 h4 h5 h6 h7 h8 h9 h10 h11 h12 h13 = absurd (h11 refl)
other_truths s instrs.Undef cs h1 h2 h3 h4 h5 h6 h7 h8 h9 h10 h11 h12 h13 = absurd (h12 refl)
other_truths s instrs.IsInv cs h1 h2 h3 h4 h5 h6 h7 h8 h9 h10 h11 h12 h13 = absurd (h13 refl)
other_truths s i cs h1 h2 h3 h4 h5 h6 h7 h8 h9 h10 h11 h12 h13 = refl

-- one that works on neither numbers nor texts gives a truth value, if anything
pub other_numbers : (s : Surroundings) (i : Instr) (cs : List CoreTree) → (i ≡ instrs.Add → ⊥) → (i ≡ instrs.Sub → ⊥) → (i ≡ instrs.Mul → ⊥) → (i ≡ instrs.Div → ⊥) → (i ≡ instrs.Mod → ⊥) → (i ≡ instrs.Neg → ⊥) → (i ≡ instrs.Abs → ⊥) → (i ≡ instrs.Min → ⊥) → (i ≡ instrs.Max → ⊥) → (i ≡ instrs.TLen → ⊥) → (i ≡ instrs.SubStr → ⊥)
    → number_trees s i cs ≡ truth_trees s i cs
other_numbers s instrs.Add cs h1 h2 h3 h4 h5 h6 h7 h8 h9 h10 h11 = absurd (h1 refl)
other_numbers s instrs.Sub cs h1 h2 h3 h4 h5 h6 h7 h8 h9 h10 h11 = absurd (h2 refl)
other_numbers s instrs.Mul cs h1 h2 h3 h4 h5 h6 h7 h8 h9 h10 h11 = absurd (h3 refl)
other_numbers s instrs.Div cs h1 h2 h3 h4 h5 h6 h7 h8 h9 h10 h11 = absurd (h4 refl)
other_numbers s instrs.Mod cs h1 h2 h3 h4 h5 h6 h7 h8 h9 h10 h11 = absurd (h5 refl)
other_numbers s instrs.Neg cs h1 h2 h3 h4 h5 h6 h7 h8 h9 h10 h11 = absurd (h6 refl)
other_numbers s instrs.Abs cs h1 h2 h3 h4 h5 h6 h7 h8 h9 h10 h11 = absurd (h7 refl)
other_numbers s instrs.Min cs h1 h2 h3 h4 h5 h6 h7 h8 h9 h10 h11 = absurd (h8 refl)
other_numbers s instrs.Max cs h1 h2 h3 h4 h5 h6 h7 h8 h9 h10 h11 = absurd (h9 refl)
other_numbers s instrs.TLen cs h1 h2 h3 h4 h5 h6 h7 h8 h9 h10 h11 = absurd (h10 refl)
other_numbers s instrs.SubStr cs h1 h2 h3 h4 h5 h6 h7 h8 h9 h10 h11 = absurd (h11 refl)
other_numbers s i cs h1 h2 h3 h4 h5 h6 h7 h8 h9 h10 h11 = refl
