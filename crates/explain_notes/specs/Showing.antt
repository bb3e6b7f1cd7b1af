-- What is written for a character of an input, so that no input can steer a terminal, and all that it holds is seen.
use Rattle.std.specs.Prelude.{ℕ, ◌/◌, ◌%◌, Bool, ◌||◌, ◌&&◌, ◌==◌, List, [], ◌++◌, codes, nat_lt, nat_le, slice_index_or, if◌then◌else◌, encode_utf8}

-- A terminal obeys control characters, and U+2028 and U+2029 end a line. The others turn the direction of the text that
-- follows: U+061C, U+200E, U+200F, U+202A to U+202E and U+2066 to U+2069.
abbrev pub steers : ℕ → Bool
steers c =
    nat_lt c 32 || ((nat_le 127 c && nat_lt c 160) || (c == 1564 || ((nat_le 8206 c && nat_le c 8207) || ((nat_le 8232 c && nat_le c 8238) || (nat_le 8294 c && nat_le c 8297)))))

-- A space that isn't U+0020 looks like it, and is another character.
abbrev pub is_other_space : ℕ → Bool
is_other_space c =
    c == 160 || (c == 5760 || ((nat_le 8192 c && nat_le c 8202) || (c == 8239 || (c == 8287 || c == 12288))))

-- U+1BCA0 to U+1BCA3, U+1D173 to U+1D17A and U+E0000 to U+E0FFF: those above U+FFFF of the following
abbrev pub is_ignorable_above : ℕ → Bool
is_ignorable_above c =
    (nat_le 113824 c && nat_le c 113827) || ((nat_le 119155 c && nat_le c 119162) || (nat_le 917504 c && nat_le c 921599))

-- Nothing is shown of it: Unicode's Default_Ignorable_Code_Point (U+00AD, U+034F, U+115F and U+1160, U+17B4 and U+17B5,
-- U+180B to U+180F, U+200B to U+200F, U+2060 to U+206F, U+3164, U+FE00 to U+FE0F, U+FEFF, U+FFA0, U+FFF0 to U+FFF8, ..),
-- and the marks of annotations (U+FFF9 to U+FFFB). What turns the direction of a text is above.
abbrev pub is_ignorable : ℕ → Bool
is_ignorable c =
    c == 173 || (c == 847 || ((nat_le 4447 c && nat_le c 4448) || ((nat_le 6068 c && nat_le c 6069) || ((nat_le 6155 c && nat_le c 6159) || ((nat_le 8203 c && nat_le c 8207) || ((nat_le 8288 c && nat_le c 8303) || (c == 12644 || ((nat_le 65024 c && nat_le c 65039) || (c == 65279 || (c == 65440 || ((nat_le 65520 c && nat_le c 65531) || is_ignorable_above c)))))))))))

-- whether an escape is written in a character's place
abbrev pub is_escaped : ℕ → Bool
is_escaped c = steers c || (is_other_space c || is_ignorable c)

-- a hexadecimal digit
abbrev pub hexadecimal_digit : ℕ → ℕ
hexadecimal_digit n = slice_index_or (codes "0123456789abcdef") (n % 16) 48

-- the fifth digit from the right, where there is one (no character that is escaped has six)
abbrev pub fifth_digit : ℕ → List ℕ
fifth_digit c = if nat_le 65536 c then encode_utf8 (hexadecimal_digit (c / 65536)) else []

-- `\u{..}` with the number of a character in four hexadecimal digits, or five
abbrev pub escape_of : ℕ → List ℕ
escape_of c =
    codes "\\u{" ++ (fifth_digit c ++ (encode_utf8 (hexadecimal_digit (c / 4096)) ++ (encode_utf8 (hexadecimal_digit (c / 256)) ++ (encode_utf8 (hexadecimal_digit (c / 16)) ++ (encode_utf8 (hexadecimal_digit c) ++ codes "}")))))

-- what is written for a character, in UTF-8
abbrev pub shown_character : ℕ → List ℕ
shown_character c = if is_escaped c then escape_of c else encode_utf8 c
