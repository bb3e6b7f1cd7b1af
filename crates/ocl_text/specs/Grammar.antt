-- The grammar, a case for each line. A repetition or an option ends, or is left out, only where the next token does not
-- begin it.
--   rules = { "context" id inv { inv } }          inv = "inv" [ id ] ":" expr
--   expr = "let" bind { "," bind } "in" expr | level 8
--   bind = id ":" type "=" level 8        type = id [ "(" type ")" ]        var = id [ ":" type ]
--   level 0 = un        level k+1 = level k { operator of k+1, level k }
--   un = ("not" | "-") un | prim { step }
--   step = "." (id | "div" | "mod") [ args ] | "->" id (args | iter | fold); div and mod need their args
--   args = "(" [ level 8 { "," level 8 } ] ")"
--   iter = "(" [ var [ "," var ] "|" ] expr ")"        fold = "(" var ";" bind "|" expr ")"
--   prim = number | string | keyword | id [ "::" id ] | "(" expr ")"
--        | "if" level 8 "then" expr "else" expr "endif"
use Rattle.std.specs.Prelude.{◌≡◌, ℕ, zero, suc, Bool, true, false, if◌then◌else◌, List, [], ◌∷◌, ◌++◌, length, Option, Some, None, codes, decimal, ◌&&◌, drop}
use Rattle.std.specs.Str.{bytes_eq}
use Rattle.ocl_tokens.specs.declared.token.TokenKind.{TokenKind}
use Rattle.ocl_tokens.specs.declared.token.TokenKind.TheVariants as k
use Rattle.ocl_tokens.specs.Terminals.{Terminal}
use Rattle.ocl_text.specs.declared.cursor.Mark.{Mark}
use Rattle.ocl_text.specs.declared.cursor.Mark.TheVariants as m
use Rattle.ocl_text.specs.declared.cursor.VariableLimit.{VariableLimit}
use Rattle.ocl_text.specs.declared.cursor.VariableLimit.TheVariants.{OneVariable, TwoVariables}
use Rattle.ocl_text.specs.declared.tree.BinaryOperator.{BinaryOperator}
use Rattle.ocl_text.specs.declared.tree.BinaryOperator.TheVariants.{Multiply, Divide, Modulo, Add, Subtract, Less, LessEqual, Greater, GreaterEqual, Equal, NotEqual, And, Or, Xor, Implies}
use Rattle.ocl_text.specs.declared.tree.IteratorKind.{IteratorKind}
use Rattle.ocl_text.specs.declared.tree.IteratorKind.TheVariants.{ForAll, Exists, Select, Reject, Collect, One, IsUnique}
use Rattle.ocl_text.specs.declared.tree.Keyword as kind
use Rattle.ocl_text.specs.declared.tree.Keyword.TheVariants as key
use Rattle.ocl_text.specs.declared.tree.Navigation.TheVariants.{Dot, Arrow}
use Rattle.ocl_text.specs.declared.tree.PrefixOperator.TheVariants.{Negate, Not}
use Rattle.ocl_text.specs.Strings.{string_value}
use Rattle.ocl_text.specs.Tree as t
use Rattle.ocl_text.specs.Tree.{TypeTree, VariableTree, Variables, Unnamed, Single, Pair, Bound, binding, lets_at, Rule, SurfaceTree, Number, Name, String, Keyword, EnumerationLiteral, Prefix, Binary, Property, Call, Iterate, If, trees_of, fold_with}

-- ---- single tokens

abbrev pub token : TokenKind → ℕ → List ℕ → Terminal
token kind offset text = record { kind = kind; offset = offset; text = text }

-- the binary operators of each level, the tightest first
abbrev pub operator : ℕ → TokenKind → Option BinaryOperator
operator (suc zero) k.Star = Some Multiply
operator (suc zero) k.Div = Some Divide
operator (suc zero) k.Mod = Some Modulo
operator (suc (suc zero)) k.Plus = Some Add
operator (suc (suc zero)) k.Minus = Some Subtract
operator (suc (suc (suc zero))) k.Less = Some Less
operator (suc (suc (suc zero))) k.LessEqual = Some LessEqual
operator (suc (suc (suc zero))) k.Greater = Some Greater
operator (suc (suc (suc zero))) k.GreaterEqual = Some GreaterEqual
operator (suc (suc (suc (suc zero)))) k.Equal = Some Equal
operator (suc (suc (suc (suc zero)))) k.NotEqual = Some NotEqual
operator (suc (suc (suc (suc (suc zero))))) k.And = Some And
operator (suc (suc (suc (suc (suc (suc zero)))))) k.Or = Some Or
operator (suc (suc (suc (suc (suc (suc (suc zero))))))) k.Xor = Some Xor
operator (suc (suc (suc (suc (suc (suc (suc (suc zero)))))))) k.Implies = Some Implies
operator _ _ = None

-- the loosest level: implies
abbrev pub top : ℕ
top = 8

-- the names that take an iteration's variables and body
abbrev pub iterators : List (List ℕ × IteratorKind)
iterators =
    (codes "forAll", ForAll) ∷ (codes "exists", Exists) ∷ (codes "select", Select) ∷ (codes "reject", Reject) ∷ (codes "collect", Collect)
    ∷ (codes "one", One) ∷ (codes "isUnique", IsUnique) ∷ []

-- what stands with a name, if it has a row
abbrev pub iterator_among : List (List ℕ × IteratorKind) → List ℕ → Option IteratorKind
iterator_among [] text = None
iterator_among (row ∷ rows) text = if bytes_eq text row.0 then Some row.1 else iterator_among rows text

abbrev pub iterator_of : List ℕ → Option IteratorKind
iterator_of text = iterator_among iterators text

-- the name that takes a variable, an accumulator and a body
abbrev pub is_fold_name : List ℕ → Bool
is_fold_name text = bytes_eq text (codes "iterate")

-- how many variables an iteration may name: two only with forAll and exists
abbrev pub variable_limit : IteratorKind → VariableLimit
variable_limit ForAll = TwoVariables
variable_limit Exists = TwoVariables
variable_limit _ = OneVariable

-- the reserved terminals that stand for a value
abbrev pub keyword_of : TokenKind → Option kind.Keyword
keyword_of k.True = Some key.True
keyword_of k.False = Some key.False
keyword_of k.Null = Some key.Null
keyword_of k.Invalid = Some key.Invalid
keyword_of k.SelfObject = Some key.SelfObject
keyword_of _ = None

abbrev pub steps_on : TokenKind → Bool
steps_on k.Dot = true
steps_on k.Arrow = true
steps_on _ = false

-- tokens that are asked for by their kind
abbrev pub is_mark : Mark → TokenKind → Bool
is_mark m.Identifier k.Identifier = true
is_mark m.Open k.Open = true
is_mark m.Close k.Close = true
is_mark m.Bar k.Bar = true
is_mark m.Comma k.Comma = true
is_mark m.Equal k.Equal = true
is_mark m.Colon k.Colon = true
is_mark m.ColonColon k.ColonColon = true
is_mark m.Semicolon k.Semicolon = true
is_mark m.In k.In = true
is_mark m.Then k.Then = true
is_mark m.Else k.Else = true
is_mark m.Endif k.Endif = true
is_mark m.Context k.Context = true
is_mark m.Inv k.Inv = true
is_mark _ _ = false

abbrev pub opens : TokenKind → Bool
opens = is_mark m.Open

abbrev pub closes : TokenKind → Bool
closes = is_mark m.Close

abbrev pub separates : TokenKind → Bool
separates = is_mark m.Comma

abbrev pub qualifies : TokenKind → Bool
qualifies = is_mark m.ColonColon

abbrev pub declares : TokenKind → Bool
declares = is_mark m.Colon

abbrev pub is_identifier_kind : TokenKind → Bool
is_identifier_kind = is_mark m.Identifier

abbrev pub begins_invariant : TokenKind → Bool
begins_invariant = is_mark m.Inv

-- these need arguments after a dot
abbrev pub is_word_operator : TokenKind → Bool
is_word_operator k.Div = true
is_word_operator k.Mod = true
is_word_operator _ = false

-- what shows the name before it to be an iteration's variable
abbrev pub ends_variable : TokenKind → Bool
ends_variable k.Comma = true
ends_variable k.Colon = true
ends_variable k.Bar = true
ends_variable _ = false

-- whether the test holds of the next token
abbrev pub next_is : (TokenKind → Bool) → List Terminal → Bool
next_is test [] = false
next_is test (t ∷ ts) = test t.kind

abbrev pub NotNext : (TokenKind → Bool) → List Terminal → Type 0
NotNext test ts = next_is test ts ≡ false

abbrev pub Next : (TokenKind → Bool) → List Terminal → Type 0
Next test ts = next_is test ts ≡ true

-- no operator of this level comes next
abbrev pub Ends : ℕ → List Terminal → Type 0
Ends level [] = Unit {0}
Ends level (t ∷ ts) = operator level t.kind ≡ None

-- the variables of an iteration are there exactly where a name comes next and `|`, `,` or `:` after it
abbrev pub begins_variable : List Terminal → Bool
begins_variable ts = next_is is_identifier_kind ts && next_is ends_variable (drop 1 ts)

-- ---- types and variables; n - 1 constructs may still be opened, and the last list is what follows

pub data IsType : ℕ → List Terminal → TypeTree → List Terminal → Type 0 where
  a_plain_type : {n offset : ℕ} {text : List ℕ} {rest : List Terminal} → NotNext opens rest → IsType (suc n) (token k.Identifier offset text ∷ rest) (t.Named text offset) rest
  a_type_of : {n offset open_offset end : ℕ} {text opening closing : List ℕ} {ts rest : List Terminal} {inner : TypeTree} → IsType n ts inner (token k.Close end closing ∷ rest) → IsType (suc n) (token k.Identifier offset text ∷ token k.Open open_offset opening ∷ ts) (t.Collection text inner offset) rest

pub data IsVariable : ℕ → List Terminal → VariableTree → List Terminal → Type 0 where
  untyped : {n offset : ℕ} {text : List ℕ} {rest : List Terminal} → NotNext declares rest → IsVariable n (token k.Identifier offset text ∷ rest) (text, None) rest
  typed : {n offset colon_offset : ℕ} {text colon : List ℕ} {ts rest : List Terminal} {declared : TypeTree} → IsType n ts declared rest → IsVariable n (token k.Identifier offset text ∷ token k.Colon colon_offset colon ∷ ts) (text, Some declared) rest

-- ---- expressions, with at most `chain` operators or steps in one chain

-- Every token of a construct but its first is inside it: a parenthesis, an `if`, a `let`, a prefix operator. Where a
-- construct opens, n falls by one, and no token stands where it is zero.
mutual
  pub data IsExpr (chain : ℕ) : ℕ → List Terminal → SurfaceTree → List Terminal → Type 0 where
    let_expression : {m offset in_offset : ℕ} {text in_text : List ℕ} {ts mid rest : List Terminal} {bindings : List Bound} {body : SurfaceTree} → IsBinds chain (suc m) [] ts bindings (token k.In in_offset in_text ∷ mid) → IsExpr chain (suc m) mid body rest → IsExpr chain (suc (suc m)) (token k.Let offset text ∷ ts) (lets_at offset bindings body) rest
    plain : {n : ℕ} {ts rest : List Terminal} {tree : SurfaceTree} → IsLevel chain n top ts tree rest → IsExpr chain n ts tree rest

  pub data IsBind (chain : ℕ) : ℕ → List Terminal → Bound → List Terminal → Type 0 where
    a_bind : {n offset colon_offset equal_offset : ℕ} {text colon equal : List ℕ} {ts us rest : List Terminal} {declared : TypeTree} {value : SurfaceTree} → IsType n ts declared (token k.Equal equal_offset equal ∷ us) → IsLevel chain n top us value rest → IsBind chain n (token k.Identifier offset text ∷ token k.Colon colon_offset colon ∷ ts) (binding (text, offset) declared value) rest

  -- after the bindings that were found: one more
  pub data IsBinds (chain : ℕ) : ℕ → List Bound → List Terminal → List Bound → List Terminal → Type 0 where
    some_binds : {n : ℕ} {ts mid rest : List Terminal} {bound : Bound} {found all : List Bound} → IsBind chain n ts bound mid → MoreBinds chain n (found ++ bound ∷ []) mid all rest → IsBinds chain n found ts all rest

  pub data MoreBinds (chain : ℕ) : ℕ → List Bound → List Terminal → List Bound → List Terminal → Type 0 where
    no_more_binds : {n : ℕ} {rest : List Terminal} {found : List Bound} → NotNext separates rest → MoreBinds chain n found rest found rest
    next_bind : {n offset : ℕ} {text : List ℕ} {ts rest : List Terminal} {found all : List Bound} → IsBinds chain n found ts all rest → MoreBinds chain n found (token k.Comma offset text ∷ ts) all rest

  -- the tokens of a binary level; each level groups to the left, at the offset of its operator
  pub data IsLevel (chain : ℕ) : ℕ → ℕ → List Terminal → SurfaceTree → List Terminal → Type 0 where
    unary : {n : ℕ} {ts rest : List Terminal} {tree : SurfaceTree} → IsUnary chain n ts tree rest → IsLevel chain n zero ts tree rest
    chained : {n level : ℕ} {ts mid rest : List Terminal} {left tree : SurfaceTree} → IsLevel chain n level ts left mid → GoesOn chain n level chain left mid tree rest → IsLevel chain n (suc level) ts tree rest

  -- the rest of a chain whose operands are of this level, after `left`; c more operators are allowed
  pub data GoesOn (chain : ℕ) : ℕ → ℕ → ℕ → SurfaceTree → List Terminal → SurfaceTree → List Terminal → Type 0 where
    ends : {n level c : ℕ} {rest : List Terminal} {left : SurfaceTree} → Ends (suc level) rest → GoesOn chain n level c left rest left rest
    more : {n level c : ℕ} {t : Terminal} {ts mid rest : List Terminal} {op : BinaryOperator} {left right tree : SurfaceTree} → operator (suc level) t.kind ≡ Some op → IsLevel chain n level ts right mid → GoesOn chain n level c (Binary op left right t.offset) mid tree rest → GoesOn chain n level (suc c) left (t ∷ ts) tree rest

  pub data IsUnary (chain : ℕ) : ℕ → List Terminal → SurfaceTree → List Terminal → Type 0 where
    minus : {n offset : ℕ} {text : List ℕ} {ts rest : List Terminal} {operand : SurfaceTree} → IsUnary chain n ts operand rest → IsUnary chain (suc n) (token k.Minus offset text ∷ ts) (Prefix Negate operand offset) rest
    not : {n offset : ℕ} {text : List ℕ} {ts rest : List Terminal} {operand : SurfaceTree} → IsUnary chain n ts operand rest → IsUnary chain (suc n) (token k.Not offset text ∷ ts) (Prefix Not operand offset) rest
    post : {n : ℕ} {ts mid rest : List Terminal} {source tree : SurfaceTree} → IsPrim chain n ts source mid → IsSteps chain n chain source mid tree rest → IsUnary chain (suc n) ts tree rest

  -- a first operand: what stands inside it may open n - 1 constructs
  pub data IsPrim (chain : ℕ) : ℕ → List Terminal → SurfaceTree → List Terminal → Type 0 where
    a_number : {n value offset : ℕ} {text : List ℕ} {rest : List Terminal} → IsPrim chain n (token (k.Number value) offset text ∷ rest) (Number value offset) rest
    a_string : {n offset : ℕ} {text : List ℕ} {rest : List Terminal} → IsPrim chain n (token k.String offset text ∷ rest) (String (string_value text) offset) rest
    a_keyword : {n : ℕ} {t : Terminal} {value : kind.Keyword} {rest : List Terminal} → keyword_of t.kind ≡ Some value → IsPrim chain n (t ∷ rest) (Keyword value t.offset) rest
    an_enumeration_literal : {n offset colon_offset second_offset : ℕ} {text colon second : List ℕ} {rest : List Terminal} → IsPrim chain n (token k.Identifier offset text ∷ token k.ColonColon colon_offset colon ∷ token k.Identifier second_offset second ∷ rest) (EnumerationLiteral text second offset) rest
    a_name : {n offset : ℕ} {text : List ℕ} {rest : List Terminal} → NotNext qualifies rest → IsPrim chain n (token k.Identifier offset text ∷ rest) (Name text offset) rest
    parentheses : {n offset end : ℕ} {text closing : List ℕ} {ts rest : List Terminal} {inner : SurfaceTree} → IsExpr chain n ts inner (token k.Close end closing ∷ rest) → IsPrim chain n (token k.Open offset text ∷ ts) inner rest
    if_expression : {n offset then_offset else_offset end : ℕ} {text then_text else_text end_text : List ℕ} {ts us vs rest : List Terminal} {condition then_branch else_branch : SurfaceTree} → IsLevel chain n top ts condition (token k.Then then_offset then_text ∷ us) → IsExpr chain n us then_branch (token k.Else else_offset else_text ∷ vs) → IsExpr chain n vs else_branch (token k.Endif end end_text ∷ rest) → IsPrim chain n (token k.If offset text ∷ ts) (If condition then_branch else_branch offset) rest

  -- the steps after a source, each at the offset of the name after its dot or arrow; c more are allowed
  pub data IsSteps (chain : ℕ) : ℕ → ℕ → SurfaceTree → List Terminal → SurfaceTree → List Terminal → Type 0 where
    no_step : {n c : ℕ} {rest : List Terminal} {source : SurfaceTree} → NotNext steps_on rest → IsSteps chain n c source rest source rest
    dot : {n c dot_offset offset : ℕ} {dot_text text : List ℕ} {ts rest : List Terminal} {source tree : SurfaceTree} → NotNext opens ts → IsSteps chain n c (Property source text offset) ts tree rest → IsSteps chain n (suc c) source (token k.Dot dot_offset dot_text ∷ token k.Identifier offset text ∷ ts) tree rest
    dot_call : {n c dot_offset offset : ℕ} {dot_text text : List ℕ} {ts mid rest : List Terminal} {source tree : SurfaceTree} {arguments : List SurfaceTree} → IsArguments chain n ts arguments mid → IsSteps chain n c (Call source Dot text (trees_of arguments) offset) mid tree rest → IsSteps chain n (suc c) source (token k.Dot dot_offset dot_text ∷ token k.Identifier offset text ∷ ts) tree rest
    dot_word : {n c dot_offset : ℕ} {dot_text : List ℕ} {t : Terminal} {ts mid rest : List Terminal} {source tree : SurfaceTree} {arguments : List SurfaceTree} → is_word_operator t.kind ≡ true → IsArguments chain n ts arguments mid → IsSteps chain n c (Call source Dot t.text (trees_of arguments) t.offset) mid tree rest → IsSteps chain n (suc c) source (token k.Dot dot_offset dot_text ∷ t ∷ ts) tree rest
    arrow_call : {n c arrow_offset offset : ℕ} {arrow_text text : List ℕ} {ts mid rest : List Terminal} {source tree : SurfaceTree} {arguments : List SurfaceTree} → iterator_of text ≡ None → is_fold_name text ≡ false → IsArguments chain n ts arguments mid → IsSteps chain n c (Call source Arrow text (trees_of arguments) offset) mid tree rest → IsSteps chain n (suc c) source (token k.Arrow arrow_offset arrow_text ∷ token k.Identifier offset text ∷ ts) tree rest
    arrow_iterate : {n c arrow_offset offset : ℕ} {arrow_text text : List ℕ} {ts mid rest : List Terminal} {source body tree : SurfaceTree} {kind : IteratorKind} {variables : Variables} → iterator_of text ≡ Some kind → IsIteration chain n (variable_limit kind) ts variables body mid → IsSteps chain n c (Iterate source kind variables body offset) mid tree rest → IsSteps chain n (suc c) source (token k.Arrow arrow_offset arrow_text ∷ token k.Identifier offset text ∷ ts) tree rest
    arrow_fold : {n c arrow_offset offset : ℕ} {arrow_text text : List ℕ} {ts mid rest : List Terminal} {source body tree : SurfaceTree} {variable : VariableTree} {accumulator : Bound} → is_fold_name text ≡ true → IsFold chain n ts variable accumulator body mid → IsSteps chain n c (fold_with source variable accumulator body offset) mid tree rest → IsSteps chain n (suc c) source (token k.Arrow arrow_offset arrow_text ∷ token k.Identifier offset text ∷ ts) tree rest

  -- the closing parenthesis is inside too, so `()` needs room for a construct
  pub data IsArguments (chain : ℕ) : ℕ → List Terminal → List SurfaceTree → List Terminal → Type 0 where
    no_argument : {m offset end : ℕ} {text closing : List ℕ} {rest : List Terminal} → IsArguments chain (suc m) (token k.Open offset text ∷ token k.Close end closing ∷ rest) [] rest
    arguments : {n offset end : ℕ} {text closing : List ℕ} {ts rest : List Terminal} {all : List SurfaceTree} → IsItems chain n [] ts all (token k.Close end closing ∷ rest) → IsArguments chain n (token k.Open offset text ∷ ts) all rest

  -- after the arguments that were found: one more
  pub data IsItems (chain : ℕ) : ℕ → List SurfaceTree → List Terminal → List SurfaceTree → List Terminal → Type 0 where
    an_item : {n : ℕ} {ts mid rest : List Terminal} {found all : List SurfaceTree} {item : SurfaceTree} → IsLevel chain n top ts item mid → MoreItems chain n (found ++ item ∷ []) mid all rest → IsItems chain n found ts all rest

  pub data MoreItems (chain : ℕ) : ℕ → List SurfaceTree → List Terminal → List SurfaceTree → List Terminal → Type 0 where
    no_more_items : {n : ℕ} {rest : List Terminal} {found : List SurfaceTree} → NotNext separates rest → MoreItems chain n found rest found rest
    next_item : {n offset : ℕ} {text : List ℕ} {ts rest : List Terminal} {found all : List SurfaceTree} → IsItems chain n found ts all rest → MoreItems chain n found (token k.Comma offset text ∷ ts) all rest

  -- with so many variables at most; they stand inside the parenthesis
  pub data IsIteration (chain : ℕ) : ℕ → VariableLimit → List Terminal → Variables → SurfaceTree → List Terminal → Type 0 where
    body_alone : {n offset end : ℕ} {limit : VariableLimit} {text closing : List ℕ} {ts rest : List Terminal} {body : SurfaceTree} → begins_variable ts ≡ false → IsExpr chain n ts body (token k.Close end closing ∷ rest) → IsIteration chain n limit (token k.Open offset text ∷ ts) Unnamed body rest
    one_variable : {m offset bar_offset end : ℕ} {limit : VariableLimit} {text bar closing : List ℕ} {us ts rest : List Terminal} {v : VariableTree} {body : SurfaceTree} → begins_variable us ≡ true → IsVariable (suc m) us v (token k.Bar bar_offset bar ∷ ts) → IsExpr chain (suc m) ts body (token k.Close end closing ∷ rest) → IsIteration chain (suc m) limit (token k.Open offset text ∷ us) (Single v) body rest
    two_variables : {m offset comma_offset bar_offset end : ℕ} {text comma bar closing : List ℕ} {us vs ts rest : List Terminal} {v w : VariableTree} {body : SurfaceTree} → begins_variable us ≡ true → IsVariable (suc m) us v (token k.Comma comma_offset comma ∷ vs) → IsVariable (suc m) vs w (token k.Bar bar_offset bar ∷ ts) → IsExpr chain (suc m) ts body (token k.Close end closing ∷ rest) → IsIteration chain (suc m) TwoVariables (token k.Open offset text ∷ us) (Pair v w) body rest

  -- variable and accumulator stand inside the parenthesis
  pub data IsFold (chain : ℕ) : ℕ → List Terminal → VariableTree → Bound → SurfaceTree → List Terminal → Type 0 where
    a_fold : {m offset semicolon_offset bar_offset end : ℕ} {text semicolon bar closing : List ℕ} {us vs ts rest : List Terminal} {variable : VariableTree} {accumulator : Bound} {body : SurfaceTree} → IsVariable (suc m) us variable (token k.Semicolon semicolon_offset semicolon ∷ vs) → IsBind chain (suc m) vs accumulator (token k.Bar bar_offset bar ∷ ts) → IsExpr chain (suc m) ts body (token k.Close end closing ∷ rest) → IsFold chain (suc m) (token k.Open offset text ∷ us) variable accumulator body rest

-- the tokens before the rest spell the expression, within some limits
abbrev pub SpellsExpr : List Terminal → SurfaceTree → List Terminal → Type 0
SpellsExpr ts tree rest = (n : ℕ) × (chain : ℕ) × IsExpr chain n ts tree rest

-- ---- rules; an invariant's expression may open `nesting` constructs

-- without a name of its own an invariant is named `inv` and its number
abbrev pub numbered : ℕ → List ℕ
numbered n = codes "inv" ++ decimal n

-- the invariant of this number, in the context of this class, at that offset
pub data IsInvariant (nesting chain : ℕ) : ℕ → List ℕ → ℕ → List Terminal → Rule → List Terminal → Type 0 where
  named : {n class_offset offset name_offset colon_offset : ℕ} {class text name colon : List ℕ} {ts rest : List Terminal} {tree : SurfaceTree} → IsExpr chain (suc nesting) ts tree rest → IsInvariant nesting chain n class class_offset (token k.Inv offset text ∷ token k.Identifier name_offset name ∷ token k.Colon colon_offset colon ∷ ts) (record { name = name; context = class; offset = offset; context_offset = class_offset; tree = tree }) rest
  unnamed : {n class_offset offset colon_offset : ℕ} {class text colon : List ℕ} {ts rest : List Terminal} {tree : SurfaceTree} → IsExpr chain (suc nesting) ts tree rest → IsInvariant nesting chain n class class_offset (token k.Inv offset text ∷ token k.Colon colon_offset colon ∷ ts) (record { name = numbered n; context = class; offset = offset; context_offset = class_offset; tree = tree }) rest

-- after the rules that were found: the invariants of one context, one or more
mutual
  pub data IsInvariants (nesting chain : ℕ) : List ℕ → ℕ → List Rule → List Terminal → List Rule → List Terminal → Type 0 where
    an_invariant : {class_offset : ℕ} {class : List ℕ} {ts mid rest : List Terminal} {rule : Rule} {found all : List Rule} → IsInvariant nesting chain (suc (length found)) class class_offset ts rule mid → MoreInvariants nesting chain class class_offset (found ++ rule ∷ []) mid all rest → IsInvariants nesting chain class class_offset found ts all rest

  pub data MoreInvariants (nesting chain : ℕ) : List ℕ → ℕ → List Rule → List Terminal → List Rule → List Terminal → Type 0 where
    no_more_invariants : {class_offset : ℕ} {class : List ℕ} {rest : List Terminal} {found : List Rule} → NotNext begins_invariant rest → MoreInvariants nesting chain class class_offset found rest found rest
    next_invariant : {class_offset : ℕ} {class : List ℕ} {ts rest : List Terminal} {found all : List Rule} → Next begins_invariant ts → IsInvariants nesting chain class class_offset found ts all rest → MoreInvariants nesting chain class class_offset found ts all rest

-- after the rules that were found: the contexts of the rest of the text
pub data IsContexts (nesting chain : ℕ) : List Rule → List Terminal → List Rule → Type 0 where
  no_context : {found : List Rule} → IsContexts nesting chain found [] found
  a_context : {offset class_offset : ℕ} {text class : List ℕ} {ts mid : List Terminal} {found most all : List Rule} → IsInvariants nesting chain class class_offset found ts most mid → IsContexts nesting chain most mid all → IsContexts nesting chain found (token k.Context offset text ∷ token k.Identifier class_offset class ∷ ts) all

-- the whole list spells the rules, within these limits
abbrev pub SpellsWithin : ℕ → ℕ → List Terminal → List Rule → Type 0
SpellsWithin nesting chain ts rules = IsContexts nesting chain [] ts rules

-- the list spells the rules, within some limits
abbrev pub Spells : List Terminal → List Rule → Type 0
Spells ts rules = (nesting : ℕ) × (chain : ℕ) × SpellsWithin nesting chain ts rules
