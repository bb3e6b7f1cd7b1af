-- Binary operators that wait for their right operands, the innermost first.
use Rattle.std.specs.Prelude.{ℕ, zero, suc, if◌then◌else◌, List, [], ◌∷◌, Option, Some, None, Result, Ok, Err, nat_eq, nat_lt, map, reverse, Vec}
use Rattle.std.specs.Global.{Global}
use Rattle.ocl_tokens.specs.declared.token.TokenKind.{TokenKind}
use Rattle.ocl_tokens.specs.declared.token.TokenKind.TheVariants as k
use Rattle.ocl_tokens.specs.Terminals.{Terminal}
use Rattle.ocl_text.specs.declared.cursor.PlacedOperator.{PlacedOperator}
use Rattle.ocl_text.specs.declared.pending.Pending.{Pending}
use Rattle.ocl_text.specs.declared.pending.Reduced.{Reduced}
use Rattle.ocl_text.specs.declared.tree.BinaryOperator.{BinaryOperator}
use Rattle.ocl_text.specs.declared.tree.BinaryOperator.TheVariants.{Multiply, Divide, Modulo, Add, Subtract, Less, LessEqual, Greater, GreaterEqual, Equal, NotEqual, And, Or, Xor, Implies}
use Rattle.ocl_text.specs.Tree.{SurfaceTree, Binary}
use Rattle.ocl_text.specs.Parse.{TokensFault, too_deep}
use Rattle.ocl_text.specs.View.{view}

-- ---- the next operator

-- the operator of this kind, after the number of tighter levels
abbrev pub operator_of : TokenKind → Option (ℕ × BinaryOperator)
operator_of k.Star = Some (0, Multiply)
operator_of k.Div = Some (0, Divide)
operator_of k.Mod = Some (0, Modulo)
operator_of k.Plus = Some (1, Add)
operator_of k.Minus = Some (1, Subtract)
operator_of k.Less = Some (2, Less)
operator_of k.LessEqual = Some (2, LessEqual)
operator_of k.Greater = Some (2, Greater)
operator_of k.GreaterEqual = Some (2, GreaterEqual)
operator_of k.Equal = Some (3, Equal)
operator_of k.NotEqual = Some (3, NotEqual)
operator_of k.And = Some (4, And)
operator_of k.Or = Some (5, Or)
operator_of k.Xor = Some (6, Xor)
operator_of k.Implies = Some (7, Implies)
operator_of _ = None

abbrev pub next_operator_by : Option (ℕ × BinaryOperator) → ℕ → List Terminal → Option (PlacedOperator × List Terminal)
next_operator_by None offset ts = None
next_operator_by (Some o) offset ts = Some (record { operator = o.1; height = o.0; offset = offset }, ts)

-- the operator that comes next, of whatever level, and what follows it
unfoldable pub next_operator : List Terminal → Option (PlacedOperator × List Terminal)
next_operator [] = None
next_operator (t ∷ ts) = next_operator_by (operator_of t.kind) t.offset ts

-- ---- what waits

-- an operator, what stands left of it, and how many more its chain may have
pub record PendingTree : Type 0 where
  pub left : SurfaceTree
  pub operator : PlacedOperator
  pub links : ℕ

-- the operator with both operands
abbrev pub completed : PendingTree → SurfaceTree → SurfaceTree
completed p right = Binary p.operator.operator p.left right p.operator.offset

-- an operand with all operators that wait for it
unfoldable pub closed : List PendingTree → SurfaceTree → SurfaceTree
closed [] value = value
closed (p ∷ ps) value = closed ps (completed p value)

-- what stands left of an operator, how many its chain may still have with it, and what waits on
pub record ReducedTree : Type 0 where
  pub left : SurfaceTree
  pub links : ℕ
  pub pending : List PendingTree

-- An operator of this height follows the operand: those that bind no looser get their right operands.
unfoldable pub reduce : ℕ → ℕ → List PendingTree → SurfaceTree → ReducedTree
reduce most height [] value = record { left = value; links = most; pending = [] }
reduce most height (p ∷ ps) value =
    if nat_lt height p.operator.height then record { left = value; links = most; pending = p ∷ ps }
    else (if nat_eq p.operator.height height then record { left = completed p value; links = p.links; pending = ps }
    else reduce most height ps (completed p value))

abbrev pub wait_by : ReducedTree → ℕ → PlacedOperator → List Terminal → Result (List PendingTree) TokensFault
wait_by s zero operator ts = Err (too_deep ts)
wait_by s (suc links) operator ts = Ok (record { left = s.left; operator = operator; links = links } ∷ s.pending)

-- the operator, which these tokens begin with, waits too
unfoldable pub wait : ℕ → List PendingTree → SurfaceTree → PlacedOperator → List Terminal
    → Result (List PendingTree) TokensFault
wait most ps value operator ts =
    wait_by (reduce most operator.height ps value) (reduce most operator.height ps value).links operator ts

-- ---- what the code keeps

abbrev pub pending_of : Pending → PendingTree
pending_of p = record { left = view p.left; operator = p.operator; links = p.links }

-- the innermost stands last in the code
abbrev pub waiting : Vec Pending Global → List PendingTree
waiting ps = reverse (map pending_of ps.items)

abbrev pub reduced_of : Reduced → ReducedTree
reduced_of s = record { left = view s.left; links = s.links; pending = waiting s.pending }
