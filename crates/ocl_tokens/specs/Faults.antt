-- The faults of a rule text: their numbers and places.
use Rattle.std.specs.Prelude.{ℕ, Option, Some, None}
use Rattle.ocl_tokens.specs.declared.fault.TextFlaw.{TextFlaw}
use Rattle.ocl_tokens.specs.declared.fault.TextFlaw.TheVariants.{BadCharacter, OpenString, BadEscape, NumberTooLarge, OpenComment, Syntax, TooDeep, DuplicateRule}
use Rattle.ocl_tokens.specs.declared.fault.TextFault.{TextFault}
use Rattle.ocl_tokens.specs.declared.fault.TextFault.TheVariants.{At, OutOfMemory}

-- those of tokens are 1 to 5, those of the grammar 6 and 7, a name that stands twice 8
abbrev pub text_flaw_number : TextFlaw → ℕ
text_flaw_number BadCharacter = 1
text_flaw_number OpenString = 2
text_flaw_number BadEscape = 3
text_flaw_number NumberTooLarge = 4
text_flaw_number OpenComment = 5
text_flaw_number Syntax = 6
text_flaw_number TooDeep = 7
text_flaw_number DuplicateRule = 8

abbrev pub text_fault_number : TextFault → ℕ
text_fault_number (At flaw offset) = text_flaw_number flaw
text_fault_number OutOfMemory = 9

abbrev pub text_fault_offset : TextFault → Option ℕ
text_fault_offset (At flaw offset) = Some offset
text_fault_offset OutOfMemory = None
