-- What the symbols of a unit name in a class model.
use Rattle.std.specs.Prelude.{ℕ, List, Option, Some, None, slice_get, option_and_then}
use Rattle.std.specs.Option.{option_map}
use Rattle.imkl_model.specs.ClassModel.{Model, class_number, enumeration_number, feature_number, literal_number}
use Rattle.imkl_model.specs.Renames.{renamed_class, renamed_feature}
use Rattle.rule_code.specs.declared.symbol.Symbol.{Symbol}
use Rattle.rule_code.specs.declared.symbol.Symbol.TheVariants as symbols
use Rattle.rule_code.specs.Content.{Content, text_at}
use Rattle.rule_verify.specs.declared.named.Named.{Named}
use Rattle.rule_verify.specs.declared.named.Named.TheVariants as named

-- The names that a symbol's texts are.
pub data SymbolNames : Type 0 where
  class_name : (class : List ℕ) → SymbolNames
  enumeration_name : (enumeration : List ℕ) → SymbolNames
  feature_names : (class : List ℕ) → (feature : List ℕ) → SymbolNames
  literal_names : (enumeration : List ℕ) → (literal : List ℕ) → SymbolNames

abbrev pub names_in : List (List ℕ) → Symbol → SymbolNames
names_in texts (symbols.Class c) = class_name (text_at texts c.0)
names_in texts (symbols.Enumeration e) = enumeration_name (text_at texts e.0)
names_in texts (symbols.Feature c f) = feature_names (text_at texts c.0) (text_at texts f.0)
names_in texts (symbols.Literal e l) = literal_names (text_at texts e.0) (text_at texts l.0)

-- Present names in place of old ones. A name is replaced once at most: first that of a class, then that of a feature, by
-- the class's present name.
abbrev pub renamed : Model → SymbolNames → SymbolNames
renamed m (class_name c) = class_name (renamed_class m c)
renamed m (enumeration_name e) = enumeration_name e
renamed m (feature_names c f) = feature_names (renamed_class m c) (renamed_feature m (renamed_class m c) f)
renamed m (literal_names e l) = literal_names e l

-- what present names name: a class or an enumeration, a feature that belongs to a class, a literal of an enumeration
abbrev pub named_in : Model → SymbolNames → Option Named
named_in m (class_name c) = option_map named.Class (class_number m c)
named_in m (enumeration_name e) = option_map named.Enumeration (enumeration_number m e)
named_in m (feature_names c f) = option_and_then (λ class. option_map (named.Feature class) (feature_number m class f)) (class_number m c)
named_in m (literal_names e l) =
    option_and_then (λ enumeration. option_map (named.Literal enumeration) (literal_number m enumeration l)) (enumeration_number m e)

-- what a symbol names, by present names and by old ones
abbrev pub named_by : Model → List (List ℕ) → Symbol → Option Named
named_by m texts s = named_in m (renamed m (names_in texts s))

-- what the symbol of a number names
abbrev pub named_at : Model → Content → ℕ → Option Named
named_at m u n = option_and_then (named_by m u.texts) (slice_get u.symbols n)

-- the class that is named
abbrev pub class_in : Option Named → Option ℕ
class_in (Some (named.Class c)) = Some c
class_in n = None
