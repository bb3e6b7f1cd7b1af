-- Reading fields from left to right, up to the first that is wrong.
use Rattle.std.specs.Prelude.{ℕ, zero, suc, List, [], ◌∷◌, ◌++◌, length, take, drop, Result, Ok, Err, nat_lt, if◌then◌else◌}
use Rattle.std.specs.Int.{Width, w16, byte_len, from_be_bytes}
use Rattle.std.specs.Str.{is_utf8}
use Rattle.ocl_base.specs.Steps.{◌>>=◌}
use Rattle.rule_code.specs.declared.fault.CodeFlaw.{CodeFlaw}
use Rattle.rule_code.specs.declared.fault.CodeFlaw.TheVariants as flaws
use Rattle.rule_code.specs.declared.symbol.Symbol.{Symbol}
use Rattle.rule_code.specs.declared.symbol.SymbolTag.{SymbolTag}
use Rattle.rule_code.specs.SymbolTag.{is_symbol_of}

-- what is wrong, and how many bytes are left where the wrong field begins
pub record Fault : Type 0 where
  pub flaw : CodeFlaw
  pub left : ℕ

-- what a field gives: its value and the bytes after it, or the fault
abbrev pub FieldRead : Type 0 → Type 0
FieldRead A = Result (A × List ℕ) Fault

-- the fault of the field that begins at these bytes
abbrev pub wrong : {A : Type 0} → CodeFlaw → List ℕ → Result A Fault
wrong flaw bytes = Err (record { flaw = flaw; left = length bytes })

-- a number of fixed width, the high byte first
abbrev pub number_from : Width → List ℕ → FieldRead ℕ
number_from w bytes = if nat_lt (length bytes) (byte_len w) then wrong flaws.Truncated bytes else Ok (from_be_bytes w (take (byte_len w) bytes), drop (byte_len w) bytes)

-- a count, no more than the limit
unfoldable pub count_from : ℕ → List ℕ → FieldRead ℕ
count_from limit bytes = do
  n ← number_from w16 bytes
  if nat_lt limit n.0 then wrong flaws.Limit bytes else Ok n

-- the number of one of the texts
unfoldable pub text_number_from : ℕ → List ℕ → FieldRead ℕ
text_number_from texts bytes = do
  n ← number_from w16 bytes
  if nat_lt n.0 texts then Ok n else wrong flaws.BadNumber bytes

-- the number of a symbol of that sort
unfoldable pub symbol_number_from : SymbolTag → List Symbol → List ℕ → FieldRead ℕ
symbol_number_from tag symbols bytes = do
  n ← number_from w16 bytes
  if is_symbol_of tag symbols n.0 then Ok n else wrong flaws.BadNumber bytes

-- the bytes of a text, n of them
unfoldable pub text_bytes_from : ℕ → List ℕ → FieldRead (List ℕ)
text_bytes_from n bytes =
    if nat_lt (length bytes) n then wrong flaws.Truncated bytes else (if is_utf8 (take n bytes) then Ok (take n bytes, drop n bytes) else wrong flaws.BadText bytes)

-- n things one after another, each read knowing those before it
unfoldable pub many_from : {A : Type 0} → (List A → List ℕ → FieldRead A) → List A → ℕ → List ℕ → FieldRead (List A)
many_from item_from before zero bytes = Ok ([], bytes)
many_from item_from before (suc n) bytes = do
  first ← item_from before bytes
  others ← many_from item_from (before ++ first.0 ∷ []) n first.1
  Ok (first.0 ∷ others.0, others.1)
