-- What a text with its level and its kind in memory is.
use Rattle.std.specs.Prelude.{string_bytes}
use Rattle.code_as_ocl.specs.declared.typed.TypedText.{TypedText}
use Rattle.code_as_ocl.specs.TypedTexts.{Printed, printed}

abbrev pub printed_view : TypedText → Printed
printed_view t = printed (string_bytes t.text) t.level t.kind
