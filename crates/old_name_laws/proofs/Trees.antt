-- What holds of each instruction of code holds in its tree.
use Rattle.std.proofs.Common.{ℕ, zero, suc, ◌+◌, Bool, true, false, List, [], ◌∷◌, All, length, take, drop, get_or, if◌then◌else◌}
use Rattle.std.specs.Prelude.{nat_le}
use Rattle.std.proofs.lemmas.List.Elements.{All-head, All-tail, All-take, All-drop}
use Rattle.rule_code.specs.declared.instruction.Instr.{Instr}
use Rattle.rule_verify.specs.declared.shape.Shape.{Shape}
use Rattle.rule_verify.specs.declared.shape.Shape.TheVariants.{Single, OneBody, TwoBodies}
use Rattle.rule_verify.specs.CodeTree.{CodeTree, End, Plain, Block, Branch, Torn, shape_of, cut_one, cut, code_tree}

-- each instruction of a tree is one of these
abbrev pub AllIn : (Instr → Type 0) → CodeTree → Type 0
AllIn P End = Unit {0}
AllIn P (Plain i rest) = P i × AllIn P rest
AllIn P (Block i body rest) = P i × AllIn P body × AllIn P rest
AllIn P (Branch i first second rest) = P i × AllIn P first × AllIn P second × AllIn P rest
AllIn P (Torn i left) = P i

module _ (P : Instr → Type 0) where
  in_either : (b : Bool) (x y : CodeTree) → AllIn P x → AllIn P y → AllIn P (if b then x else y)
  in_either true x y h k = h
  in_either false x y h k = k

  abbrev Goes : (List Instr → CodeTree) → Type 0
  Goes go = (is : List Instr) → All P is → AllIn P (go is)

  in_one : (go : List Instr → CodeTree) → Goes go → (i : Instr) (shape : Shape) (is : List Instr) → P i → All P is → AllIn P (cut_one go i shape is)
  in_one go goes i Single is here rest = (here, goes is rest)
  in_one go goes i (OneBody n) is here rest =
      in_either (nat_le n (length is)) (Block i (go (take n is)) (go (drop n is))) (Torn i (length is))
      (here, goes (take n is) (All-take P n is rest), goes (drop n is) (All-drop P n is rest)) here
  in_one go goes i (TwoBodies n m) is here rest =
      in_either (nat_le (n + m) (length is)) (Branch i (go (take n is)) (go (take m (drop n is))) (go (drop (n + m) is))) (Torn i (length is))
      (here, goes (take n is) (All-take P n is rest), goes (take m (drop n is)) (All-take P m (drop n is) (All-drop P n is rest)), goes (drop (n + m) is) (All-drop P (n + m) is rest)) here

  in_cut : (levels : ℕ) → Goes (cut levels)
  in_cut zero is h = tt
  in_cut (suc levels) [] h = tt
  in_cut (suc levels) (i ∷ is) h = in_one (cut levels) (in_cut levels) i (shape_of i) is (All-head P i is h) (All-tail P i is h)

  -- what holds of each instruction of code holds of each of its tree
  pub in_tree : (is : List Instr) → All P is → AllIn P (code_tree is)
  in_tree is h = in_cut (length is) is h

-- what holds of all of a list and of what stands for none holds of the one of any index
pub at_any : {X : Type 0} (P : X → Type 0) (xs : List X) (none : X) → P none → All P xs → (k : ℕ) → P (get_or xs k none)
at_any P [] none p h k = p
at_any P (x ∷ xs) none p h zero = All-head P x xs h
at_any P (x ∷ xs) none p h (suc k) = at_any P xs none p (All-tail P x xs h) k
