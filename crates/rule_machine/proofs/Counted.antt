-- Code with kinds takes no operand from below those that it began with.
use Rattle.std.proofs.Common.{◌≡◌, ℕ, suc, ◌+◌, ◌≤◌, true, List, [], ◌∷◌, ◌++◌, length, ap, subst, arith}
use Rattle.std.proofs.lemmas.Bool.{and_parts}
use Rattle.std.proofs.lemmas.List.{length-drop}
use Rattle.ocl_kinds.specs.declared.kind.Kind.{Kind}
use Rattle.imkl_model.specs.ClassModel.{Model}
use Rattle.rule_verify.specs.declared.pattern.Pattern.{Pattern}
use Rattle.rule_verify.specs.CodeTree.{CodeTree, End, Plain, Block, Branch, Torn}
use Rattle.rule_code.specs.declared.instruction.Instr.{Instr}
use Rattle.rule_verify.specs.InstrKinds.{operands_of}
use Rattle.rule_verify.specs.Patterns.{matches, all_match}
use Rattle.rule_machine.specs.Machine.{Setting, judged_by}
use Rattle.rule_machine.specs.Places.{Place, kinds_of, given, places_left, bound_by, operand_place, end_place}
use Rattle.rule_machine.specs.Live.{IsTaken, Kinded, block_gives, branch_gives}
use Rattle.rule_machine.proofs.Blocks.{branch_takes}
use Rattle.rule_machine.proofs.Deep.{as_many_below}
use Rattle.rule_machine.proofs.Results.{kinds_count}
use Rattle.rule_machine.specs.Counts.{Balanced}

-- operands that match are there
enough : (m : Model) (ws : List Pattern) (ks : List Kind) → all_match m ws ks ≡ true → length ws ≤ length ks
enough m [] ks h = omega arith
enough m (w ∷ ws) [] h = cc
enough m (w ∷ ws) (k ∷ ks) h = omega (arith, enough m ws ks (and_parts (matches m w k) (all_match m ws ks) h).1)

module _ (s : Setting) where
  -- what an instruction takes of its places, and what it leaves of them
  takes_of : (i : Instr) (vps ps : List Place) → IsTaken s i vps ps → length ps ≡ length (operands_of (judged_by s) i) + length (places_left s i ps)
  takes_of i vps ps t =
      let ws = operands_of (judged_by s) i in
      omega (arith, enough s.population.model ws (kinds_of ps) t.match, kinds_count ps, length-drop (length ws) ps)

  -- what has kinds is balanced
  pub balanced : (t : CodeTree) (vps ps out : List Place) (n : ℕ) → Kinded s t vps ps out n → Balanced s t (length ps) (length out)
  balanced End vps ps out n k = as_many_below s ps out k
  balanced (Plain i rest) vps ps out n k =
      (length (places_left s i ps), takes_of i vps ps k.2, balanced rest vps (given s vps i ps ∷ places_left s i ps) out k.0 k.3)
  balanced (Block i body rest) vps ps out n k =
      let p = operand_place i ps in
      (length (places_left s i ps), takes_of i vps ps k.3, balanced body (bound_by s i p ++ vps) [] (end_place s body (bound_by s i p ++ vps) ∷ []) k.0 k.4, balanced rest vps (block_gives s i body vps p ∷ places_left s i ps) out k.1 k.6)
  balanced (Branch i first second rest) vps [] out n k = absurd k
  balanced (Branch i first second rest) vps (p ∷ ps) out n k =
      let r = branch_gives s i first second vps p in
      let one = ap length (branch_takes (judged_by s) i k.2) in
      (length ps, omega (arith, one), balanced first vps [] (r ∷ []) k.0 k.4, balanced second vps [] (r ∷ []) k.0 k.5, balanced rest vps (r ∷ ps) out k.1 k.6)
  balanced (Torn i left) vps ps out n k = absurd k

  -- above other operands too
  pub above : (t : CodeTree) (n m k : ℕ) → Balanced s t n m → Balanced s t (n + k) (m + k)
  above End n m k b = ap (λ x. x + k) b
  above (Plain i rest) n m k b =
      let e : suc b.0 + k ≡ suc (b.0 + k) = omega arith in
      (b.0 + k, omega (arith, b.1), subst (λ x. Balanced s rest x (m + k)) e (above rest (suc b.0) m k b.2))
  above (Block i body rest) n m k b =
      let e : suc b.0 + k ≡ suc (b.0 + k) = omega arith in
      (b.0 + k, omega (arith, b.1), b.2, subst (λ x. Balanced s rest x (m + k)) e (above rest (suc b.0) m k b.3))
  above (Branch i first second rest) n m k b =
      let e : suc b.0 + k ≡ suc (b.0 + k) = omega arith in
      (b.0 + k, omega (arith, b.1), b.2, b.3, subst (λ x. Balanced s rest x (m + k)) e (above rest (suc b.0) m k b.4))
  above (Torn i left) n m k b = absurd b

  -- a body above k operands leaves one more
  pub body_above : (t : CodeTree) (k : ℕ) → Balanced s t 0 1 → Balanced s t k (suc k)
  body_above t k b =
      let e : 0 + k ≡ k = omega arith in
      let f : 1 + k ≡ suc k = omega arith in
      subst (λ x. Balanced s t x (suc k)) e (subst (λ x. Balanced s t (0 + k) x) f (above t 0 1 k b))
