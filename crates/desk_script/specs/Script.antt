-- The text of a script: a call of a desk in each line.
use Rattle.std.specs.Prelude.{ℕ, ◌+◌, ◌*◌, ◌-◌, ◌&&◌, ◌==◌, nat_le, Bool, not, if◌then◌else◌, List, [], ◌∷◌, length, fold, codes, bytes_eq, Option, Some, None, Result, Ok}
use Rattle.std.specs.List.{list_all, slice_split}
use Rattle.std.specs.Option.{option_and_then}
use Rattle.std.specs.Char.{is_ascii_digit}
use Rattle.ocl_base.specs.Steps.{◌>>=◌, found, FaultMeaning, fault, out_of_memory}
use Rattle.desk_script.specs.declared.line.TheConstants.{MAX_NUMBER}
use Rattle.desk_script.specs.declared.call.Call.{Call}
use Rattle.desk_script.specs.declared.call.Call.TheVariants.{Enter, Grant, Withdraw, Lines}
use Rattle.desk_script.specs.declared.fault.ScriptFault.{ScriptFault}
use Rattle.desk_script.specs.declared.fault.ScriptFault.TheVariants.{At, OutOfMemory}

-- the parts of a text between the bytes of one value
abbrev pub parts : ℕ → List ℕ → List (List ℕ)
parts mark text = slice_split (λ b. b == mark) text

-- ---- a line

-- what digits write; leading zeros are read
abbrev pub written_number : List ℕ → ℕ
written_number digits = fold (λ value digit. value * 10 + (digit - 48)) 0 digits

-- one digit or more, which write a number within the limit
abbrev pub writes_number : List ℕ → Bool
writes_number text = not (length text == 0) && (list_all is_ascii_digit text && nat_le (written_number text) MAX_NUMBER)

-- the number that a text writes, if it is one
abbrev pub number_of : List ℕ → Option ℕ
number_of text = if writes_number text then Some (written_number text) else None

-- the call of a word alone
abbrev pub bare_call : List ℕ → Option Call
bare_call word = if bytes_eq word (codes "enter") then Some Enter else None

-- the call of a word and a job
abbrev pub job_call : List ℕ → ℕ → Option Call
job_call word k =
    if bytes_eq word (codes "withdraw") then Some (Withdraw k) else (if bytes_eq word (codes "lines") then Some (Lines k) else None)

-- the call of a word, a job and charges
abbrev pub grant_call : List ℕ → ℕ → ℕ → Option Call
grant_call word k n = if bytes_eq word (codes "grant") then Some (Grant k n) else None

-- a call by its words
abbrev pub call_by : List (List ℕ) → Option Call
call_by [] = None
call_by (word ∷ []) = bare_call word
call_by (word ∷ job ∷ []) = option_and_then (job_call word) (number_of job)
call_by (word ∷ job ∷ charges ∷ []) = option_and_then (λ k. option_and_then (grant_call word k) (number_of charges)) (number_of job)
call_by (word ∷ job ∷ charges ∷ more ∷ words) = None

-- the call that a line writes, if it is one: words with one space between
abbrev pub written_call : List ℕ → Option Call
written_call line = call_by (parts 32 line)

-- ---- a script

-- the lines among the parts of a text between newlines: after the last newline none begins
abbrev pub lines_among : List (List ℕ) → List (List ℕ)
lines_among [] = []
lines_among (part ∷ []) = if length part == 0 then [] else part ∷ []
lines_among (part ∷ next ∷ more) = part ∷ lines_among (next ∷ more)

-- the lines of a text; the last newline may be missing
abbrev pub lines_of : List ℕ → List (List ℕ)
lines_of text = lines_among (parts 10 text)

-- the calls of lines, of which the first has this number, or the number of the first that is no call
unfoldable pub calls_from : ℕ → List (List ℕ) → Result (List Call) ℕ
calls_from number [] = Ok []
calls_from number (line ∷ lines) = do
  call ← found (written_call line) number
  calls ← calls_from (number + 1) lines
  Ok (call ∷ calls)

-- the calls of a script, or the number of its first wrong line, from 1
abbrev pub script_of : List ℕ → Result (List Call) ℕ
script_of text = calls_from 1 (lines_of text)

-- what a fault means
abbrev pub script_fault : ScriptFault → FaultMeaning ℕ
script_fault (At line) = fault line
script_fault OutOfMemory = out_of_memory
