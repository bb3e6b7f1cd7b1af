-- How what a function of the parser returned relates to what the reader on lists gives.
use Rattle.std.specs.Prelude.{◌≡◌, ◌+◌, ℕ, List, Result, Ok, Err, drop}
use Rattle.ocl_base.specs.Steps.{FaultMeaning, fault, out_of_memory, Fails, Gives}
use Rattle.ocl_tokens.specs.declared.fault.TextFlaw.TheVariants as w
use Rattle.ocl_tokens.specs.declared.fault.TextFault.{TextFault}
use Rattle.ocl_tokens.specs.declared.fault.TextFault.TheVariants as t
use Rattle.ocl_tokens.specs.declared.token.Token.{Token}
use Rattle.ocl_tokens.specs.Terminals.{Terminal, terminals}
use Rattle.ocl_text.specs.declared.cursor.Cursor.{Cursor}
use Rattle.ocl_text.specs.declared.cursor.ParseFault.{ParseFault}
use Rattle.ocl_text.specs.declared.cursor.ParseFault.TheVariants.{Syntax, TooDeep, OutOfMemory}
use Rattle.ocl_text.specs.RuleText.{first_offset}
use Rattle.ocl_text.specs.Tree.{SurfaceTree}
use Rattle.ocl_text.specs.Grammar.{top}
use Rattle.ocl_text.specs.Parse.{TokensFault, syntax, too_deep, Reading, Reader, level_of, expr}

-- the tokens from this index on
abbrev pub from : List Token → ℕ → List Terminal
from tokens index = terminals (drop index tokens)

-- the tokens that are left
abbrev pub left : Cursor → List Terminal
left c = from c.tokens.now c.index

-- those after the next token
abbrev pub after_next : Cursor → List Terminal
after_next c = from c.tokens.now (c.index + 1)

abbrev pub meaning : List Token → ParseFault → FaultMeaning TokensFault
meaning tokens (Syntax index) = fault (syntax (from tokens index))
meaning tokens (TooDeep index) = fault (too_deep (from tokens index))
meaning tokens OutOfMemory = out_of_memory

-- the cursor is among the same tokens
abbrev pub Moves : Cursor → Cursor → Type 0
Moves c d = (d.tokens ≡ c.tokens) × (d.chain ≡ c.chain)

-- What a function over a cursor gives: what the reader gives, and the cursor stands before what is left; or the fault.
abbrev pub Parses : {X A : Type 0} → Cursor → Cursor → (X → A) → Result X ParseFault → Reading A → Type 0
Parses c d view (Ok x) read = (read ≡ Ok (view x, left d)) × Moves c d
Parses c d view (Err e) read = Fails (meaning c.tokens.now) e read

-- of one that reads a token and gives nothing
abbrev pub Passes : {X : Type 0} → Cursor → Cursor → Result X ParseFault → Result (List Terminal) TokensFault → Type 0
Passes c d (Ok x) read = (read ≡ Ok (left d)) × Moves c d
Passes c d (Err e) read = Fails (meaning c.tokens.now) e read

-- of one that reads all the tokens
abbrev pub ParsesAll : {X A : Type 0} → List Token → (X → A) → Result X ParseFault → Result A TokensFault → Type 0
ParsesAll tokens view result read = Gives (meaning tokens) view result read

-- a refusal says so of the tokens; out of memory says nothing
abbrev pub UnlessOutOfMemory : Type 0 → ParseFault → Type 0
UnlessOutOfMemory P (Syntax index) = P
UnlessOutOfMemory P (TooDeep index) = P
UnlessOutOfMemory P OutOfMemory = Unit {0}

-- the fault of the text, which has this length
abbrev pub text_fault : List Token → ℕ → ParseFault → TextFault
text_fault tokens end (Syntax index) = t.At w.Syntax (first_offset end (from tokens index))
text_fault tokens end (TooDeep index) = t.At w.TooDeep (first_offset end (from tokens index))
text_fault tokens end OutOfMemory = t.OutOfMemory

-- an operand of a construct, and an expression in it, with fewer constructs than this open round a token
abbrev pub operand : Cursor → ℕ → Reader SurfaceTree
operand c depth = level_of c.chain depth top

abbrev pub whole : Cursor → ℕ → Reader SurfaceTree
whole c depth = expr c.chain depth
