-- The walk over blocks, by what the calls for their parts returned.
use Rattle.std.proofs.Common.{◌≡◌, ℕ, ◌+◌, ◌<◌, ◌≤◌, List, [], ◌∷◌, ◌++◌, length, drop, Ok, Err, Some, sym, ap, ◌∙◌, subst, arith}
use Rattle.std.specs.Prelude.{slice_get}
use Rattle.std.proofs.Math.Seq.{drop-append_seam}
use Rattle.ocl_base.specs.Steps.{Fails}
use Rattle.ocl_kinds.specs.declared.kind.Kind.{Kind}
use Rattle.rule_code.specs.declared.instruction.Instr.{Instr}
use Rattle.rule_verify.specs.declared.fault.VerifyFault.{VerifyFault}
use Rattle.rule_verify.specs.declared.fault.VerifyFault.TheVariants.{At, OutOfMemory}
use Rattle.rule_verify.specs.declared.code.RuleCode.{RuleCode}
use Rattle.rule_verify.specs.declared.depths.Depths.{Depths}
use Rattle.rule_verify.specs.declared.place.Place.{Place}
use Rattle.rule_verify.specs.declared.shape.Shape.TheVariants.{OneBody, TwoBodies}
use Rattle.rule_verify.specs.CodeTree.{shape_of}
use Rattle.rule_verify.specs.CodeDepths.{deeper}
use Rattle.rule_verify.specs.Faults.{verify_fault}
use Rattle.rule_verify.specs.InstrKinds.{block_operand, binds, bound_count, yields}
use Rattle.rule_verify.specs.KindRules.{instr_fault}
use Rattle.rule_verify.specs.Known.{AreKnownKinds}
use Rattle.rule_verify.specs.Walk.{surroundings_of, IsPlace, depths_from, place_inside, Gone, Goes, Opened, body_ends, Walked}
use Rattle.rule_verify.proofs.Walking.{taken_count, bound_many, body_fails, block_goes, first_fails, second_fails, branch_goes}

module _ (r : RuleCode) (vars : List Kind) (p : Place) (ks : List Kind) (i : Instr) (lt : p.at < p.end) (here : slice_get r.code.now p.at ≡ Some i) (ok : IsPlace r vars p ks) where
  module _ (old deep : Depths) (n : ℕ) (k : Kind) (held left : List Kind) (o : Opened r vars old p ks i n k held deep left) where
    fewer : length left ≤ length ks
    fewer = omega (arith, taken_count (surroundings_of r) vars i p.at ks left o.takes)

    -- the operands below an opened block keep within the limit of operands
    pub room_left : p.covered + length left ≤ 1024
    room_left = omega (arith, fewer, ok.room)

    -- the first instruction of a body
    pub inner_place : (v : List Kind) (q : Place) (from to : ℕ) → from ≤ to → to ≤ p.end → AreKnownKinds r.resolved.now.model v → q ≡ place_inside p left from to → IsPlace r v q []
    inner_place v q from to a b known is =
        subst (λ (x : Place). IsPlace r v x []) (sym is)
        (record { before = a; within = omega (arith, ok.within); room = omega (arith, fewer, ok.room); nested = omega (arith, o.shallow); variables_known = known; operands_known = tt })

    -- the variables in the body of a block
    pub bound : (v : List Kind) → v ≡ binds (surroundings_of r) i k ++ held → v ≡ binds (surroundings_of r) i (block_operand i ks) ++ vars
    bound v pushed = pushed ∙ ap (λ (x : Kind). binds (surroundings_of r) i x ++ held) o.first ∙ ap (λ (l : List Kind). binds (surroundings_of r) i (block_operand i ks) ++ l) o.kept

    -- the variables after it
    unbound : (kept kept' : List Kind) → kept ≡ drop (bound_count i) kept' → kept' ≡ binds (surroundings_of r) i (block_operand i ks) ++ vars → kept ≡ vars
    unbound kept kept' pops same =
        pops
        ∙ ap (drop (bound_count i)) same
        ∙ ap (λ (c : ℕ). drop c (binds (surroundings_of r) i (block_operand i ks) ++ vars)) (sym (bound_many (surroundings_of r) i (block_operand i ks)))
        ∙ drop-append_seam (binds (surroundings_of r) i (block_operand i ks)) vars

    module _ (is : shape_of i ≡ OneBody n) (v : List Kind) (q : Place) (binding : v ≡ binds (surroundings_of r) i (block_operand i ks) ++ vars) (inner : q ≡ place_inside p left (p.at + 1) (p.at + 1 + n)) where
      its_body : body_ends r v q i p.at ≡ body_ends r (binds (surroundings_of r) i (block_operand i ks) ++ vars) (place_inside p left (p.at + 1) (p.at + 1 + n)) i p.at
      its_body = ap (λ (l : List Kind). body_ends r l q i p.at) binding ∙ ap (λ (x : Place). body_ends r (binds (surroundings_of r) i (block_operand i ks) ++ vars) x i p.at) inner

      -- a fault of the body, or of what it ends with, is the fault from the block on
      pub block_wrong : (e : VerifyFault) → Fails verify_fault e (body_ends r v q i p.at) → Goes r vars old p ks (Err e) held deep left
      block_wrong OutOfMemory h = tt
      block_wrong (At flaw rule at) h = body_fails r vars p ks i lt ok.within here left ok o.takes n is o.nests o.shallow (instr_fault flaw rule at) (sym its_body ∙ h)

      -- the walk goes past a block when its body was walked to its end
      pub block_gone : (y : Kind) (new : Depths) (kept kept' after : List Kind) → body_ends r v q i p.at ≡ Ok y → Walked r v deep q kept' new → AreKnownKinds r.resolved.now.model (yields (surroundings_of r) i k y ∷ left)
          → kept ≡ drop (bound_count i) kept' → after ≡ yields (surroundings_of r) i k y ∷ left → Gone r vars old p ks (p.at + 1 + n) kept new after
      block_gone y new kept kept' after ends w known pops pushed =
          block_goes r vars p ks i lt ok.within here left ok o.takes n is o.nests o.shallow old deep new after kept k y (sym its_body ∙ ends) known o.first pushed (unbound kept kept' pops (w.kept ∙ binding)) o.depths
          (w.depths ∙ ap (λ (l : List Kind). deeper deep (depths_from r l q [])) binding ∙ ap (λ (z : Place). deeper deep (depths_from r (binds (surroundings_of r) i (block_operand i ks) ++ vars) z [])) inner)

  module _ (old deep : Depths) (n m : ℕ) (k : Kind) (held left : List Kind) (o : Opened r vars old p ks i (n + m) k held deep left) (is : shape_of i ≡ TwoBodies n m) (q : Place) (first : q ≡ place_inside p left (p.at + 1) (p.at + 1 + n)) where
    one_body : body_ends r held q i p.at ≡ body_ends r vars (place_inside p left (p.at + 1) (p.at + 1 + n)) i p.at
    one_body = ap (λ (l : List Kind). body_ends r l q i p.at) o.kept ∙ ap (λ (x : Place). body_ends r vars x i p.at) first

    -- a fault of the first body is the fault from the block on
    pub first_wrong : (e : VerifyFault) → Fails verify_fault e (body_ends r held q i p.at) → Goes r vars old p ks (Err e) held deep left
    first_wrong OutOfMemory h = tt
    first_wrong (At flaw rule at) h = first_fails r vars p ks i lt ok.within here left ok o.takes n m is o.nests o.shallow (instr_fault flaw rule at) (sym one_body ∙ h)

    module _ (y : Kind) (mid : Depths) (held' : List Kind) (ends : body_ends r held q i p.at ≡ Ok y) (w : Walked r held deep q held' mid) (q' : Place) (second : q' ≡ place_inside p left (p.at + 1 + n) (p.at + 1 + n + m)) where
      still : held' ≡ vars
      still = w.kept ∙ o.kept

      other_body : body_ends r held' q' i p.at ≡ body_ends r vars (place_inside p left (p.at + 1 + n) (p.at + 1 + n + m)) i p.at
      other_body = ap (λ (l : List Kind). body_ends r l q' i p.at) still ∙ ap (λ (x : Place). body_ends r vars x i p.at) second

      -- a fault of the second body is the fault from the block on, where the first one has none
      pub second_wrong : (e : VerifyFault) → Fails verify_fault e (body_ends r held' q' i p.at) → Goes r vars old p ks (Err e) held deep left
      second_wrong OutOfMemory h = tt
      second_wrong (At flaw rule at) h = second_fails r vars p ks i lt ok.within here left ok o.takes n m is o.nests o.shallow (instr_fault flaw rule at) y (sym one_body ∙ ends) (sym other_body ∙ h)

      -- the walk goes past a block with two bodies when both were walked to their ends
      pub branches_gone : (z : Kind) (new : Depths) (kept after : List Kind) → body_ends r held' q' i p.at ≡ Ok z → Walked r held' mid q' kept new → AreKnownKinds r.resolved.now.model (yields (surroundings_of r) i k y ∷ left)
          → after ≡ yields (surroundings_of r) i k y ∷ left → Gone r vars old p ks (p.at + 1 + n + m) kept new after
      branches_gone z new kept after others x known pushed =
          branch_goes r vars p ks i lt ok.within here left ok o.takes n m is o.nests o.shallow old deep mid new after kept k y z (sym one_body ∙ ends) (sym other_body ∙ others) known o.first pushed (x.kept ∙ still) o.depths
          (w.depths ∙ ap (λ (l : List Kind). deeper deep (depths_from r l q [])) o.kept ∙ ap (λ (a : Place). deeper deep (depths_from r vars a [])) first)
          (x.depths ∙ ap (λ (l : List Kind). deeper mid (depths_from r l q' [])) still ∙ ap (λ (a : Place). deeper mid (depths_from r vars a [])) second)
