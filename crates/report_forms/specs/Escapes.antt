-- Bytes as they are written where some of them would be read as something else.
use Rattle.std.specs.Prelude.{ℕ, ◌+◌, ◌/◌, ◌%◌, ◌==◌, ◌||◌, ◌&&◌, nat_lt, Bool, not, List, [], ◌∷◌, ◌++◌, codes, if◌then◌else◌}
use Rattle.std.specs.List.{flat_map}
use Rattle.report_forms.specs.declared.escapes.Escape.{Escape}
use Rattle.report_forms.specs.declared.escapes.Escape.TheVariants as escape
use Rattle.ocl_base.specs.Words.{is_letter_or_digit}

-- a hexadecimal digit, in capitals
abbrev pub capital_digit : ℕ → ℕ
capital_digit n = if nat_lt n 10 then n + 48 else n + 55

-- a byte as two hexadecimal digits
abbrev pub two_digits : ℕ → List ℕ
two_digits b = capital_digit (b / 16) ∷ capital_digit (b % 16) ∷ []

-- in a string of JSON
abbrev pub json_byte : ℕ → List ℕ
json_byte b = if b == 34 || b == 92 then 92 ∷ b ∷ [] else (if nat_lt b 32 then codes "\\u00" ++ two_digits b else b ∷ [])

abbrev pub json_text : List ℕ → List ℕ
json_text bytes = flat_map json_byte bytes

-- in XML, where control characters can't be
abbrev pub xml_byte : ℕ → List ℕ
xml_byte b =
    if b == 38 then codes "&amp;" else (if b == 60 then codes "&lt;" else (if b == 62 then codes "&gt;" else (if b == 34 then codes "&quot;"
    else (if nat_lt b 32 && not (b == 10) then codes "?" else b ∷ []))))

abbrev pub xml_text : List ℕ → List ℕ
xml_text bytes = flat_map xml_byte bytes

-- behind a percent sign
abbrev pub percent_digits : ℕ → List ℕ
percent_digits b = 37 ∷ two_digits b

-- in the message of an annotation: percent signs and ends of lines
abbrev pub message_byte : ℕ → List ℕ
message_byte b = if b == 37 || (b == 10 || b == 13) then percent_digits b else b ∷ []

abbrev pub message_text : List ℕ → List ℕ
message_text bytes = flat_map message_byte bytes

-- in a property of one: colons and commas too
abbrev pub property_byte : ℕ → List ℕ
property_byte b = if b == 58 || b == 44 then percent_digits b else message_byte b

abbrev pub property_text : List ℕ → List ℕ
property_text bytes = flat_map property_byte bytes

-- in the path of a URI: letters, digits and `- . _ ~ /` stay
abbrev pub stays_in_path : ℕ → Bool
stays_in_path b = is_letter_or_digit b || (b == 45 || (b == 46 || (b == 126 || b == 47)))

abbrev pub uri_byte : ℕ → List ℕ
uri_byte b = if stays_in_path b then b ∷ [] else percent_digits b

abbrev pub uri_text : List ℕ → List ℕ
uri_text bytes = flat_map uri_byte bytes

-- by where it is written
abbrev pub byte_by : Escape → ℕ → List ℕ
byte_by escape.Json = json_byte
byte_by escape.Xml = xml_byte
byte_by escape.Message = message_byte
byte_by escape.Property = property_byte
byte_by escape.Uri = uri_byte
