-- What a line of a report is, by its words: what `ocl_check judge` prints of an object, of a rule or at the end, or none of these.
use Rattle.std.specs.Prelude.{ℕ, Bool, ◌==◌, ◌||◌, ◌&&◌, nat_le, not, List, [], length, slice_index_or, bytes_eq, codes, if◌then◌else◌}
use Rattle.std.specs.List.{list_all}
use Rattle.std.specs.Char.{is_ascii_alphabetic, is_ascii_digit}
use Rattle.report_summary.specs.declared.kinds.LineKind.{LineKind}
use Rattle.report_summary.specs.declared.kinds.LineKind.TheVariants.{Fail, Undecided, Rule, Total, Empty, Other}
use Rattle.report_summary.specs.declared.kinds.TheConstants.{MAX_DIGITS}

-- names of rules have letters, digits and `_`
abbrev pub is_rule_byte : ℕ → Bool
is_rule_byte b = is_ascii_alphabetic b || (is_ascii_digit b || b == 95)

abbrev pub is_rule_name : List ℕ → Bool
is_rule_name word = not (length word == 0) && list_all is_rule_byte word

-- ids of objects have `.`, `:` and `-` too
abbrev pub is_object_byte : ℕ → Bool
is_object_byte b = is_rule_byte b || (b == 46 || (b == 58 || b == 45))

abbrev pub is_object_id : List ℕ → Bool
is_object_id word = not (length word == 0) && list_all is_object_byte word

-- digits, few enough for 64 bits
abbrev pub is_count_number : List ℕ → Bool
is_count_number word = not (length word == 0) && (nat_le (length word) MAX_DIGITS && list_all is_ascii_digit word)

-- a name and the number behind it
abbrev pub is_count : List ℕ → List ℕ → List ℕ → Bool
is_count word number name = bytes_eq word name && is_count_number number

abbrev pub verdict_kind : List ℕ → LineKind
verdict_kind verdict = if bytes_eq verdict (codes "fail") then Fail else (if bytes_eq verdict (codes "undecided") then Undecided else Other)

abbrev pub finding_kind : List ℕ → List ℕ → List ℕ → LineKind
finding_kind verdict rule object = if is_rule_name rule && is_object_id object then verdict_kind verdict else Other

abbrev pub word_in : List (List ℕ) → ℕ → List ℕ
word_in words i = slice_index_or words i []

abbrev pub total_kind : List (List ℕ) → LineKind
total_kind words =
    if bytes_eq (word_in words 0) (codes "total") && (is_count (word_in words 1) (word_in words 2) (codes "fails")
    && is_count (word_in words 3) (word_in words 4) (codes "undecided")) then Total else Other

abbrev pub rule_kind : List (List ℕ) → LineKind
rule_kind words =
    if bytes_eq (word_in words 0) (codes "rule") && (is_rule_name (word_in words 1)
    && (is_count (word_in words 2) (word_in words 3) (codes "checked") && (is_count (word_in words 4) (word_in words 5) (codes "holds")
    && (is_count (word_in words 6) (word_in words 7) (codes "fails") && is_count (word_in words 8) (word_in words 9) (codes "undecided"))))) then Rule else Other

-- a line without a byte is one empty word
abbrev pub short_kind : List (List ℕ) → LineKind
short_kind words = if length words == 1 && length (word_in words 0) == 0 then Empty else Other

-- by how many words there are
abbrev pub kind_by : List (List ℕ) → LineKind
kind_by words =
    if length words == 3 then finding_kind (word_in words 0) (word_in words 1) (word_in words 2)
    else (if length words == 5 then total_kind words else (if length words == 10 then rule_kind words else short_kind words))
