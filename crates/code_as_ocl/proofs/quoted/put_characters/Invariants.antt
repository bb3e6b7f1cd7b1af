use Rattle.std.proofs.Common.{◌≡◌, ◌++◌, string_bytes}
use Rattle.std.specs.Str.{chars, IsUtf8}
use Rattle.std.specs.List.{flat_map}
use Rattle.explain_why.specs.Values.{quoted_character}
use Rattle.code_as_ocl.proofs.quoted.put_characters.Given as goal

-- what was put, and the characters that are left
abbrev pub invariant-characters : goal.invariant-characters
invariant-characters l =
    (string_bytes l.out ++ flat_map quoted_character (chars l.character-iterator.rest.now) ≡ string_bytes l.initial.out ++ flat_map quoted_character (chars l.text)) × IsUtf8 l.character-iterator.rest.now
