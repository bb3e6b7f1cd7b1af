-- The explanation that was found of a rule of a code file.
use Rattle.std.specs.Prelude.{ℕ, List, Option, Some, None, string_bytes}
use Rattle.ocl_explain.specs.declared.code_whys.CodeFound.{CodeFound}
use Rattle.ocl_explain.specs.declared.code_whys.CodeFound.TheVariants.{Explained, NoRule, NoObject, NotJudged, TooLong}

abbrev pub code_found_text : CodeFound → Option (List ℕ)
code_found_text (Explained text object) = Some (string_bytes text)
code_found_text NoRule = None
code_found_text NoObject = None
code_found_text (NotJudged context class) = None
code_found_text TooLong = None
