-- What sort of thing a symbol names.
use Rattle.std.specs.Prelude.{ℕ, Bool, false, List, ◌==◌, slice_get}
use Rattle.std.specs.Option.{option_map_or}
use Rattle.rule_code.specs.declared.symbol.SymbolTag.{SymbolTag}
use Rattle.rule_code.specs.declared.symbol.SymbolTag.TheVariants as tags
use Rattle.rule_code.specs.declared.symbol.Symbol.{Symbol}
use Rattle.rule_code.specs.declared.symbol.Symbol.TheVariants as symbols

abbrev pub tag_of : Symbol → SymbolTag
tag_of (symbols.Class c) = tags.Class
tag_of (symbols.Enumeration e) = tags.Enumeration
tag_of (symbols.Feature c f) = tags.Feature
tag_of (symbols.Literal e l) = tags.Literal

-- the byte that a code file has for a tag
abbrev pub tag_byte : SymbolTag → ℕ
tag_byte tags.Class = 1
tag_byte tags.Enumeration = 2
tag_byte tags.Feature = 3
tag_byte tags.Literal = 4

-- whether the symbol names that sort of thing
abbrev pub has_tag : SymbolTag → Symbol → Bool
has_tag tag s = tag_byte (tag_of s) == tag_byte tag

-- whether the number is that of a symbol that names that sort of thing
abbrev pub is_symbol_of : SymbolTag → List Symbol → ℕ → Bool
is_symbol_of tag symbols n = option_map_or (has_tag tag) (slice_get symbols n) false
