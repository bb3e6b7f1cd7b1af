-- What the name of an operation may be.
use Rattle.std.specs.Prelude.{ℕ, List, Bool, ◌||◌, codes, bytes_eq}
use Rattle.ocl_base.specs.Words.{is_name}

-- a name, or one of the reserved words that may stand after a dot
abbrev pub is_operation_name : List ℕ → Bool
is_operation_name text = is_name text || (bytes_eq text (codes "div") || bytes_eq text (codes "mod"))
