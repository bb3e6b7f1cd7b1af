use Rattle.std.proofs.Common.{◌≡◌, ◌++◌, false, string_bytes}
use Rattle.ocl_text.specs.Strings.{value_from}
use Rattle.ocl_text.proofs.strings.string_value.Given as goal

abbrev pub invariant-characters : goal.invariant-characters
invariant-characters l = string_bytes l.value ++ value_from l.after_backslash l.character-iterator.rest.now ≡ value_from false l.spelling
