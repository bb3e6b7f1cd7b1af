-- Numbers of 16 bits as bytes.
use Rattle.std.specs.Prelude.{ℕ, List}
use Rattle.std.specs.Int.{w16, to_be_bytes}

-- two bytes, the high one first
abbrev pub number_bytes : ℕ → List ℕ
number_bytes n = to_be_bytes w16 n
