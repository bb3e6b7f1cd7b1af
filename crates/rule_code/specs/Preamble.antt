-- What stands before the rules of a code file, by which they are read.
use Rattle.std.specs.Prelude.{ℕ, List, map, string_bytes}
use Rattle.rule_code.specs.declared.reading.preamble.Preamble as borrowed
use Rattle.rule_code.specs.declared.symbol.Symbol.{Symbol}
use Rattle.rule_code.specs.declared.version.Version.{Version}

pub record Preamble : Type 0 where
  pub version : Version
  pub texts : List (List ℕ)
  pub symbols : List Symbol

-- a preamble without where it lies in memory
abbrev pub preamble_of : borrowed.Preamble → Preamble
preamble_of p = record { version = p.version; texts = map string_bytes p.texts.now; symbols = p.symbols.now }
