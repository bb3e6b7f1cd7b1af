-- Trees and rules, without where they lie in memory. Offsets are bytes from the start of the text.
use Rattle.std.specs.Prelude.{ℕ, List, [], ◌∷◌, Option}
use Rattle.ocl_text.specs.declared.tree.BinaryOperator.{BinaryOperator}
use Rattle.ocl_text.specs.declared.tree.PrefixOperator.{PrefixOperator}
use Rattle.ocl_text.specs.declared.tree.IteratorKind.{IteratorKind}
use Rattle.ocl_text.specs.declared.tree.Keyword as kind
use Rattle.ocl_text.specs.declared.tree.Navigation.{Navigation}

-- a type as it is written: a name, or a name with a type in parentheses
pub data TypeTree : Type 0 where
  Named : (name : List ℕ) (offset : ℕ) → TypeTree
  Collection : (name : List ℕ) (element : TypeTree) (offset : ℕ) → TypeTree

-- a variable of an iteration, with its type where it has one
abbrev pub VariableTree : Type 0
VariableTree = List ℕ × Option TypeTree

-- the variables of an iteration: none, one or two
pub data Variables : Type 0 where
  Unnamed : Variables
  Single : (variable : VariableTree) → Variables
  Pair : (first second : VariableTree) → Variables

-- An expression. A `let` binds one variable: one that is written with several bindings stands for as many, one inside
-- the other.
mutual
  pub data SurfaceTree : Type 0 where
    Number : (value offset : ℕ) → SurfaceTree
    String : (value : List ℕ) (offset : ℕ) → SurfaceTree
    Keyword : (keyword : kind.Keyword) (offset : ℕ) → SurfaceTree
    Name : (name : List ℕ) (offset : ℕ) → SurfaceTree
    EnumerationLiteral : (enumeration literal : List ℕ) (offset : ℕ) → SurfaceTree
    Prefix : (operator : PrefixOperator) (operand : SurfaceTree) (offset : ℕ) → SurfaceTree
    Binary : (operator : BinaryOperator) (left right : SurfaceTree) (offset : ℕ) → SurfaceTree
    Property : (source : SurfaceTree) (name : List ℕ) (offset : ℕ) → SurfaceTree
    Call : (source : SurfaceTree) (navigation : Navigation) (name : List ℕ) (arguments : Trees) (offset : ℕ) → SurfaceTree
    Iterate : (source : SurfaceTree) (iterator : IteratorKind) (variables : Variables) (body : SurfaceTree) (offset : ℕ) → SurfaceTree
    Fold : (source : SurfaceTree) (variable : VariableTree) (accumulator : List ℕ) (declared : TypeTree) (start body : SurfaceTree) (offset : ℕ) → SurfaceTree
    Let : (name : List ℕ) (declared : TypeTree) (value body : SurfaceTree) (offset : ℕ) → SurfaceTree
    If : (condition then_branch else_branch : SurfaceTree) (offset : ℕ) → SurfaceTree

  pub data Trees : Type 0 where
    none : Trees
    some : (first : SurfaceTree) (rest : Trees) → Trees

abbrev pub trees_of : List SurfaceTree → Trees
trees_of [] = none
trees_of (t ∷ ts) = some t (trees_of ts)

-- where an expression stands: an operator at its token, a step by a dot or an arrow at the name after it, everything
-- else at its first token
abbrev pub offset_of : SurfaceTree → ℕ
offset_of (Number value offset) = offset
offset_of (String value offset) = offset
offset_of (Keyword keyword offset) = offset
offset_of (Name name offset) = offset
offset_of (EnumerationLiteral enumeration literal offset) = offset
offset_of (Prefix operator operand offset) = offset
offset_of (Binary operator left right offset) = offset
offset_of (Property source name offset) = offset
offset_of (Call source navigation name arguments offset) = offset
offset_of (Iterate source iterator variables body offset) = offset
offset_of (Fold source variable accumulator declared start body offset) = offset
offset_of (Let name declared value body offset) = offset
offset_of (If condition then_branch else_branch offset) = offset

-- where a type stands: at its name
abbrev pub type_offset : TypeTree → ℕ
type_offset (Named name offset) = offset
type_offset (Collection name element offset) = offset

-- a variable of a `let`, or an accumulator, with its value and where its name stands
pub record Bound : Type 0 where
  pub name : List ℕ
  pub declared : TypeTree
  pub value : SurfaceTree
  pub offset : ℕ

-- from a name with its offset
abbrev pub binding : List ℕ × ℕ → TypeTree → SurfaceTree → Bound
binding name declared value = record { name = name.0; declared = declared; value = value; offset = name.1 }

-- these bindings round a body, each at its name
abbrev pub lets : List Bound → SurfaceTree → SurfaceTree
lets [] body = body
lets (b ∷ bs) body = Let b.name b.declared b.value (lets bs body) b.offset

-- these bindings round a body, the first at the word `let`
abbrev pub lets_at : ℕ → List Bound → SurfaceTree → SurfaceTree
lets_at offset [] body = body
lets_at offset (b ∷ bs) body = Let b.name b.declared b.value (lets bs body) offset

-- a fold over a source, with this accumulator
abbrev pub fold_with : SurfaceTree → VariableTree → Bound → SurfaceTree → ℕ → SurfaceTree
fold_with source variable b body offset = Fold source variable b.name b.declared b.value body offset

-- a rule: its name, its context class, the offsets of its `inv` and of the class, and its expression
pub record Rule : Type 0 where
  pub name : List ℕ
  pub context : List ℕ
  pub offset : ℕ
  pub context_offset : ℕ
  pub tree : SurfaceTree
