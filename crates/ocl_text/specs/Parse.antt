-- The parser, as functions on lists.
use Rattle.std.specs.Prelude.{ℕ, zero, suc, Bool, true, false, if◌then◌else◌, List, [], ◌∷◌, ◌++◌, length, drop, Option, Some, None, Result, Ok, Err}
use Rattle.ocl_base.specs.Steps.{◌>>=◌}
use Rattle.ocl_tokens.specs.declared.token.TokenKind.{TokenKind}
use Rattle.ocl_tokens.specs.declared.token.TokenKind.TheVariants as k
use Rattle.ocl_tokens.specs.Terminals.{Terminal}
use Rattle.ocl_text.specs.declared.cursor.Mark.{Mark}
use Rattle.ocl_text.specs.declared.cursor.Mark.TheVariants as m
use Rattle.ocl_text.specs.declared.cursor.Start.{Start}
use Rattle.ocl_text.specs.declared.cursor.Start.TheVariants as start
use Rattle.ocl_text.specs.declared.cursor.VariableLimit.{VariableLimit}
use Rattle.ocl_text.specs.declared.cursor.VariableLimit.TheVariants.{OneVariable, TwoVariables}
use Rattle.ocl_text.specs.declared.tree.BinaryOperator.{BinaryOperator}
use Rattle.ocl_text.specs.declared.tree.IteratorKind.{IteratorKind}
use Rattle.ocl_text.specs.declared.tree.Keyword.TheVariants as key
use Rattle.ocl_text.specs.declared.tree.Navigation.{Navigation}
use Rattle.ocl_text.specs.declared.tree.Navigation.TheVariants.{Dot, Arrow}
use Rattle.ocl_text.specs.declared.tree.PrefixOperator.TheVariants.{Negate, Not}
use Rattle.ocl_text.specs.Strings.{string_value}
use Rattle.ocl_text.specs.Tree as t
use Rattle.ocl_text.specs.Tree.{TypeTree, VariableTree, Variables, Unnamed, Single, Pair, Bound, binding, lets_at, Rule, SurfaceTree, Number, Name, String, Keyword, EnumerationLiteral, Prefix, Binary, Property, Call, Iterate, If, trees_of, fold_with}
use Rattle.ocl_text.specs.Grammar.{operator, top, steps_on, is_mark, opens, closes, separates, qualifies, next_is, begins_variable, begins_invariant, declares, is_identifier_kind, iterator_of, is_fold_name, variable_limit, numbered}

-- why a list of tokens is refused: the tokens from the refused one on
pub data TokensFault : Type 0 where
  syntax : (rest : List Terminal) → TokensFault
  too_deep : (rest : List Terminal) → TokensFault

abbrev pub Reading : Type 0 → Type 0
Reading A = Result (A × List Terminal) TokensFault

abbrev pub Reader : Type 0 → Type 0
Reader A = List Terminal → Reading A

-- ---- single tokens

abbrev pub begins : TokenKind → Bool
begins (k.Number value) = true
begins k.Identifier = true
begins k.Minus = true
begins k.Not = true
begins k.Open = true
begins k.If = true
begins k.String = true
begins k.True = true
begins k.False = true
begins k.Null = true
begins k.Invalid = true
begins k.SelfObject = true
begins _ = false

abbrev pub begins_expr : TokenKind → Bool
begins_expr k.Let = true
begins_expr kind = begins kind

-- after the parenthesis of arguments
abbrev pub begins_argument : TokenKind → Bool
begins_argument k.Close = true
begins_argument kind = begins kind

-- what may begin here
abbrev pub may_begin : Start → TokenKind → Bool
may_begin start.Operand = begins
may_begin start.Expression = begins_expr
may_begin start.Argument = begins_argument
may_begin start.Name = is_identifier_kind

-- no construct may begin here any more
unfoldable pub too_deep_at : {A : Type 0} → (TokenKind → Bool) → Reader A
too_deep_at test ts = if next_is test ts then Err (too_deep ts) else Err (syntax ts)

unfoldable pub expect : Mark → List Terminal → Result (List Terminal) TokensFault
expect mark [] = Err (syntax [])
expect mark (t ∷ ts) = if is_mark mark t.kind then Ok ts else Err (syntax (t ∷ ts))

abbrev pub identifier_by : TokenKind → List ℕ → List Terminal → List Terminal → Reading (List ℕ)
identifier_by k.Identifier text all ts = Ok (text, ts)
identifier_by _ text all ts = Err (syntax all)

unfoldable pub identifier : Reader (List ℕ)
identifier [] = Err (syntax [])
identifier (t ∷ ts) = identifier_by t.kind t.text (t ∷ ts) ts

-- a name and its offset
abbrev pub placed_by : TokenKind → List ℕ → ℕ → List Terminal → List Terminal → Reading (List ℕ × ℕ)
placed_by k.Identifier text offset all ts = Ok ((text, offset), ts)
placed_by _ text offset all ts = Err (syntax all)

unfoldable pub placed_name : Reader (List ℕ × ℕ)
placed_name [] = Err (syntax [])
placed_name (t ∷ ts) = placed_by t.kind t.text t.offset (t ∷ ts) ts

-- ---- types and variables

abbrev pub type_by : Reader TypeTree → TokenKind → List ℕ → ℕ → List Terminal → List Terminal → Reading TypeTree
type_by below k.Identifier text offset all ts = if next_is opens ts then (below (drop 1 ts) >>= λ x. expect m.Close x.1 >>= λ rest. Ok (t.Collection text x.0 offset, rest)) else Ok (t.Named text offset, ts)
type_by below _ text offset all ts = Err (syntax all)

unfoldable pub type_over : Reader TypeTree → Reader TypeTree
type_over below [] = Err (syntax [])
type_over below (t ∷ ts) = type_by below t.kind t.text t.offset (t ∷ ts) ts

unfoldable pub a_type : ℕ → Reader TypeTree
a_type zero = too_deep_at is_identifier_kind
a_type (suc n) = type_over (a_type n)

unfoldable pub a_variable : ℕ → Reader VariableTree
a_variable n ts = identifier ts >>= λ v. if next_is declares v.1 then (a_type n (drop 1 v.1) >>= λ s. Ok ((v.0, Some s.0), s.1)) else Ok ((v.0, None), v.1)

-- ---- binary operators

abbrev pub Link : Type 0
Link = BinaryOperator × ℕ × List Terminal

abbrev pub link_by : Option BinaryOperator → ℕ → List Terminal → Option Link
link_by None offset ts = None
link_by (Some op) offset ts = Some (op, offset, ts)

unfoldable pub link : ℕ → List Terminal → Option Link
link level [] = None
link level (t ∷ ts) = link_by (operator level t.kind) t.offset ts

abbrev pub on_link : {A L : Type 0} → Option L → A → (L → A) → A
on_link None ends goes_on = ends
on_link (Some l) ends goes_on = goes_on l

module _ (operand : Reader SurfaceTree) (level : ℕ) where
  unfoldable pub chain : ℕ → SurfaceTree → Reader SurfaceTree
  chain zero left ts = on_link (link (suc level) ts) (Ok (left, ts)) (λ l. Err (too_deep ts))
  chain (suc c) left ts = on_link (link (suc level) ts) (Ok (left, ts)) (λ l. operand l.2 >>= λ right. chain c (Binary l.0 left right.0 l.1) right.1)

unfoldable pub levels : ℕ → Reader SurfaceTree → ℕ → Reader SurfaceTree
levels most unary zero = unary
levels most unary (suc level) = λ ts. levels most unary level ts >>= λ left. chain (levels most unary level) level most left.0 left.1

-- ---- what stands inside a construct: `operand` reads a level top, `whole` an expression, and n - 1 constructs may be opened

-- One item or more, with commas between. The number bounds the turns: each takes a token, so the count of tokens is enough.
module _ {A : Type 0} (item : Reader A) where
  unfoldable pub items : ℕ → List A → Reader (List A)
  items zero found ts = Err (syntax ts)
  items (suc f) found ts = item ts >>= λ x. if next_is separates x.1 then items f (found ++ x.0 ∷ []) (drop 1 x.1) else Ok (found ++ x.0 ∷ [], x.1)

module _ (operand : Reader SurfaceTree) where
  unfoldable pub arguments_in : ℕ → Reader (List SurfaceTree)
  arguments_in zero us = too_deep_at begins_argument us
  arguments_in (suc n) us = if next_is closes us then Ok ([], drop 1 us) else (items operand (length us) [] us >>= λ x. expect m.Close x.1 >>= λ rest. Ok (x.0, rest))

  unfoldable pub arguments : ℕ → Reader (List SurfaceTree)
  arguments n ts = expect m.Open ts >>= arguments_in n

unfoldable pub a_bind : ℕ → Reader SurfaceTree → Reader Bound
a_bind n operand ts = placed_name ts >>= λ v. expect m.Colon v.1 >>= a_type n >>= λ s. expect m.Equal s.1 >>= operand >>= λ x. Ok (binding v.0 s.0 x.0, x.1)

abbrev pub has_second : VariableLimit → List Terminal → Bool
has_second OneVariable ts = false
has_second TwoVariables ts = next_is separates ts

unfoldable pub variables_by : ℕ → VariableLimit → VariableTree → List Terminal → Reading (Variables)
variables_by n limit v ts = if has_second limit ts then (a_variable n (drop 1 ts) >>= λ w. expect m.Bar w.1 >>= λ rest. Ok (Pair v w.0, rest)) else (expect m.Bar ts >>= λ rest. Ok (Single v, rest))

unfoldable pub variables : ℕ → VariableLimit → Reader (Variables)
variables zero limit ts = Err (too_deep ts)
variables (suc n) limit ts = a_variable (suc n) ts >>= λ v. variables_by (suc n) limit v.0 v.1

unfoldable pub optional_variables : ℕ → VariableLimit → Reader (Variables)
optional_variables n limit ts = if begins_variable ts then variables n limit ts else Ok (Unnamed, ts)

unfoldable pub iteration : ℕ → Reader SurfaceTree → VariableLimit → Reader (Variables × SurfaceTree)
iteration n whole limit ts = expect m.Open ts >>= optional_variables n limit >>= λ vs. whole vs.1 >>= λ x. expect m.Close x.1 >>= λ rest. Ok ((vs.0, x.0), rest)

-- after the accumulator of a fold over this source
unfoldable pub fold_body : Reader SurfaceTree → SurfaceTree → VariableTree → Bound → ℕ → Reader SurfaceTree
fold_body whole source variable accumulator offset ts = expect m.Bar ts >>= whole >>= λ x. expect m.Close x.1 >>= λ rest. Ok (fold_with source variable accumulator x.0 offset, rest)

-- after the parenthesis of a fold over this source
unfoldable pub fold_in : ℕ → Reader SurfaceTree → Reader SurfaceTree → SurfaceTree → ℕ → Reader SurfaceTree
fold_in zero operand whole source offset ts = too_deep_at is_identifier_kind ts
fold_in (suc n) operand whole source offset ts = a_variable (suc n) ts >>= λ v. expect m.Semicolon v.1 >>= a_bind (suc n) operand >>= λ b. fold_body whole source v.0 b.0 offset b.1

unfoldable pub if_expression : Reader SurfaceTree → Reader SurfaceTree → ℕ → Reader SurfaceTree
if_expression operand whole offset ts = operand ts >>= λ x. expect m.Then x.1 >>= whole >>= λ y. expect m.Else y.1 >>= whole >>= λ z. expect m.Endif z.1 >>= λ rest. Ok (If x.0 y.0 z.0 offset, rest)

unfoldable pub let_expression : ℕ → Reader SurfaceTree → Reader SurfaceTree → ℕ → Reader SurfaceTree
let_expression zero operand whole offset ts = too_deep_at is_identifier_kind ts
let_expression (suc n) operand whole offset ts = items (a_bind (suc n) operand) (length ts) [] ts >>= λ x. expect m.In x.1 >>= whole >>= λ y. Ok (lets_at offset x.0 y.0, y.1)

module _ (n : ℕ) (operand whole : Reader SurfaceTree) where
  -- a call, by its arguments
  unfoldable pub operation_call : SurfaceTree → Navigation → List ℕ → ℕ → Reader SurfaceTree
  operation_call source by text offset ts = arguments operand n ts >>= λ x. Ok (Call source by text (trees_of x.0) offset, x.1)

  -- a call, or a property where no parenthesis opens
  unfoldable pub called : SurfaceTree → List ℕ → ℕ → Reader SurfaceTree
  called source text offset ts = if next_is opens ts then operation_call source Dot text offset ts else Ok (Property source text offset, ts)

  abbrev pub after_dot_by : SurfaceTree → TokenKind → List ℕ → ℕ → List Terminal → List Terminal → Reading SurfaceTree
  after_dot_by source k.Identifier text offset all ts = called source text offset ts
  after_dot_by source k.Div text offset all ts = operation_call source Dot text offset ts
  after_dot_by source k.Mod text offset all ts = operation_call source Dot text offset ts
  after_dot_by source _ text offset all ts = Err (syntax all)

  unfoldable pub after_dot : SurfaceTree → Reader SurfaceTree
  after_dot source [] = Err (syntax [])
  after_dot source (t ∷ ts) = after_dot_by source t.kind t.text t.offset (t ∷ ts) ts

  unfoldable pub a_fold : SurfaceTree → ℕ → Reader SurfaceTree
  a_fold source offset ts = expect m.Open ts >>= fold_in n operand whole source offset

  -- an iteration, or a call by any other name
  abbrev pub applied_by : Option IteratorKind → SurfaceTree → List ℕ → ℕ → Reader SurfaceTree
  applied_by None source text offset ts = operation_call source Arrow text offset ts
  applied_by (Some kind) source text offset ts = iteration n whole (variable_limit kind) ts >>= λ x. Ok (Iterate source kind x.0.0 x.0.1 offset, x.1)

  unfoldable pub applied_step : SurfaceTree → List ℕ → ℕ → Reader SurfaceTree
  applied_step source text offset ts = if is_fold_name text then a_fold source offset ts else applied_by (iterator_of text) source text offset ts

  abbrev pub after_arrow_by : SurfaceTree → TokenKind → List ℕ → ℕ → List Terminal → List Terminal → Reading SurfaceTree
  after_arrow_by source k.Identifier text offset all ts = applied_step source text offset ts
  after_arrow_by source _ text offset all ts = Err (syntax all)

  unfoldable pub after_arrow : SurfaceTree → Reader SurfaceTree
  after_arrow source [] = Err (syntax [])
  after_arrow source (t ∷ ts) = after_arrow_by source t.kind t.text t.offset (t ∷ ts) ts

  abbrev pub step_by : SurfaceTree → TokenKind → List Terminal → List Terminal → Reading SurfaceTree
  step_by source k.Dot all ts = after_dot source ts
  step_by source k.Arrow all ts = after_arrow source ts
  step_by source _ all ts = Err (syntax all)

  -- a step, which has begun
  unfoldable pub one_step : SurfaceTree → Reader SurfaceTree
  one_step source [] = Err (syntax [])
  one_step source (t ∷ ts) = step_by source t.kind (t ∷ ts) ts

  unfoldable pub step_list : ℕ → SurfaceTree → Reader SurfaceTree
  step_list zero source ts = if next_is steps_on ts then Err (too_deep ts) else Ok (source, ts)
  step_list (suc c) source ts = if next_is steps_on ts then (one_step source ts >>= λ x. step_list c x.0 x.1) else Ok (source, ts)

unfoldable pub name_or_literal : List ℕ → ℕ → Reader SurfaceTree
name_or_literal text offset ts = if next_is qualifies ts then (identifier (drop 1 ts) >>= λ v. Ok (EnumerationLiteral text v.0 offset, v.1)) else Ok (Name text offset, ts)

abbrev pub prim_by : Reader SurfaceTree → Reader SurfaceTree → TokenKind → ℕ → List ℕ → List Terminal → List Terminal → Reading SurfaceTree
prim_by operand whole (k.Number value) offset text all ts = Ok (Number value offset, ts)
prim_by operand whole k.Identifier offset text all ts = name_or_literal text offset ts
prim_by operand whole k.String offset text all ts = Ok (String (string_value text) offset, ts)
prim_by operand whole k.True offset text all ts = Ok (Keyword key.True offset, ts)
prim_by operand whole k.False offset text all ts = Ok (Keyword key.False offset, ts)
prim_by operand whole k.Null offset text all ts = Ok (Keyword key.Null offset, ts)
prim_by operand whole k.Invalid offset text all ts = Ok (Keyword key.Invalid offset, ts)
prim_by operand whole k.SelfObject offset text all ts = Ok (Keyword key.SelfObject offset, ts)
prim_by operand whole k.Open offset text all ts = whole ts >>= λ x. expect m.Close x.1 >>= λ rest. Ok (x.0, rest)
prim_by operand whole k.If offset text all ts = if_expression operand whole offset ts
prim_by operand whole _ offset text all ts = Err (syntax all)

unfoldable pub prim : Reader SurfaceTree → Reader SurfaceTree → Reader SurfaceTree
prim operand whole [] = Err (syntax [])
prim operand whole (t ∷ ts) = prim_by operand whole t.kind t.offset t.text (t ∷ ts) ts

unfoldable pub post : ℕ → ℕ → Reader SurfaceTree → Reader SurfaceTree → Reader SurfaceTree
post most n operand whole ts = prim operand whole ts >>= λ x. step_list n operand whole most x.0 x.1

abbrev pub unary_by : ℕ → ℕ → Reader SurfaceTree → Reader SurfaceTree → Reader SurfaceTree → TokenKind → ℕ → List Terminal → List Terminal → Reading SurfaceTree
unary_by most n operand whole below k.Minus offset all ts = below ts >>= λ x. Ok (Prefix Negate x.0 offset, x.1)
unary_by most n operand whole below k.Not offset all ts = below ts >>= λ x. Ok (Prefix Not x.0 offset, x.1)
unary_by most n operand whole below _ offset all ts = post most n operand whole all

unfoldable pub unary_over : ℕ → ℕ → Reader SurfaceTree → Reader SurfaceTree → Reader SurfaceTree → Reader SurfaceTree
unary_over most n operand whole below [] = Err (syntax [])
unary_over most n operand whole below (t ∷ ts) = unary_by most n operand whole below t.kind t.offset (t ∷ ts) ts

abbrev pub expr_by : Reader SurfaceTree → ℕ → Reader SurfaceTree → Reader SurfaceTree → TokenKind → ℕ → List Terminal → List Terminal → Reading SurfaceTree
expr_by here n operand whole k.Let offset all ts = let_expression n operand whole offset ts
expr_by here n operand whole _ offset all ts = here all

unfoldable pub expr_over : Reader SurfaceTree → ℕ → Reader SurfaceTree → Reader SurfaceTree → Reader SurfaceTree
expr_over here n operand whole [] = here []
expr_over here n operand whole (t ∷ ts) = expr_by here n operand whole t.kind t.offset (t ∷ ts) ts

-- n - 1 constructs may be opened; at 0 no token may stand here
unfoldable mutual
  pub unary : ℕ → ℕ → Reader SurfaceTree
  unary most zero = too_deep_at begins
  unary most (suc n) = unary_over most n (levels most (unary most n) top) (expr most n) (unary most n)

  pub expr : ℕ → ℕ → Reader SurfaceTree
  expr most zero = too_deep_at begins_expr
  expr most (suc n) = expr_over (levels most (unary_over most n (levels most (unary most n) top) (expr most n) (unary most n)) top) n (levels most (unary most n) top) (expr most n)

abbrev pub level_of : ℕ → ℕ → ℕ → Reader SurfaceTree
level_of most n level = levels most (unary most n) level

-- ---- rules

-- the name that comes next, or the one that the number makes
unfoldable pub rule_name : ℕ → Reader (List ℕ)
rule_name n ts = if next_is is_identifier_kind ts then identifier ts else Ok (numbered n, ts)

unfoldable pub context : Reader (List ℕ × ℕ)
context ts = expect m.Context ts >>= placed_name

module _ (body : Reader SurfaceTree) (class : List ℕ × ℕ) where
  -- after the `inv` at this offset
  unfoldable pub invariant_at : ℕ → ℕ → Reader Rule
  invariant_at n offset ts = rule_name n ts >>= λ v. expect m.Colon v.1 >>= body >>= λ x. Ok (record { name = v.0; context = class.0; offset = offset; context_offset = class.1; tree = x.0 }, x.1)

  abbrev pub invariant_by : ℕ → TokenKind → ℕ → List Terminal → List Terminal → Reading Rule
  invariant_by n k.Inv offset all ts = invariant_at n offset ts
  invariant_by n _ offset all ts = Err (syntax all)

  unfoldable pub invariant : ℕ → Reader Rule
  invariant n [] = Err (syntax [])
  invariant n (t ∷ ts) = invariant_by n t.kind t.offset (t ∷ ts) ts

  -- as with items, the number bounds the turns
  unfoldable pub invariants : ℕ → List Rule → Reader (List Rule)
  invariants zero found ts = Err (syntax ts)
  invariants (suc f) found ts = invariant (suc (length found)) ts >>= λ x. if next_is begins_invariant x.1 then invariants f (found ++ x.0 ∷ []) x.1 else Ok (found ++ x.0 ∷ [], x.1)

abbrev pub is_done : List Terminal → Bool
is_done [] = true
is_done (t ∷ ts) = false

module _ (body : Reader SurfaceTree) where
  unfoldable pub contexts : ℕ → List Rule → List Terminal → Result (List Rule) TokensFault
  contexts zero found ts = if is_done ts then Ok found else Err (syntax ts)
  contexts (suc f) found ts = if is_done ts then Ok found else (context ts >>= λ c. invariants body c.0 (length c.1) found c.1 >>= λ x. contexts f x.0 x.1)

-- all the tokens
unfoldable pub all_rules : ℕ → ℕ → List Terminal → Result (List Rule) TokensFault
all_rules nesting most ts = contexts (expr most (suc nesting)) (length ts) [] ts
