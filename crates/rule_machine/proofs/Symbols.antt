-- What the symbols of an instruction name: a thing of the sort that its field asks for.
use Rattle.std.proofs.Common.{◌≡◌, ℕ, true, false, List, Option, Some, None, refl, subst, IfSome}
use Rattle.std.specs.Prelude.{is_some, slice_get, option_and_then}
use Rattle.std.specs.Option.{option_map, option_map_or}
use Rattle.imkl_model.specs.ClassModel.{Model, class_number, enumeration_number, feature_number, literal_number}
use Rattle.imkl_model.specs.Renames.{renamed_class, renamed_feature}
use Rattle.rule_code.specs.declared.symbol.Symbol.{Symbol}
use Rattle.rule_code.specs.declared.symbol.Symbol.TheVariants as symbols
use Rattle.rule_code.specs.declared.symbol.SymbolTag.{SymbolTag}
use Rattle.rule_code.specs.declared.symbol.SymbolTag.TheVariants as tags
use Rattle.rule_code.specs.SymbolTag.{has_tag, is_symbol_of}
use Rattle.rule_code.specs.Content.{Content, text_at}
use Rattle.rule_verify.specs.declared.named.Named.{Named}
use Rattle.rule_verify.specs.declared.named.Named.TheVariants as named
use Rattle.rule_verify.specs.Symbols.{named_by, named_at}
use Rattle.rule_verify.specs.Known.{IsKnownName}
use Rattle.rule_verify.proofs.ForAbove.{named_known}

-- a name of the sort that a tag asks for
abbrev pub IsNamed : SymbolTag → Named → Type 0
IsNamed tags.Class (named.Class c) = Unit {0}
IsNamed tags.Enumeration (named.Enumeration e) = Unit {0}
IsNamed tags.Feature (named.Feature c f) = Unit {0}
IsNamed tags.Literal (named.Literal e l) = Unit {0}
IsNamed tag n = ⊥

abbrev Found : SymbolTag → Option Named → Type 0
Found tag o = (n : Named) × (o ≡ Some n) × IsNamed tag n

class_found : (o : Option ℕ) → is_some (option_map named.Class o) ≡ true → Found tags.Class (option_map named.Class o)
class_found (Some c) h = (named.Class c, refl, tt)
class_found None h = cc

enumeration_found : (o : Option ℕ) → is_some (option_map named.Enumeration o) ≡ true → Found tags.Enumeration (option_map named.Enumeration o)
enumeration_found (Some e) h = (named.Enumeration e, refl, tt)
enumeration_found None h = cc

feature_found : (o : Option ℕ) (g : ℕ → Option ℕ) → is_some (option_and_then (λ c. option_map (named.Feature c) (g c)) o) ≡ true → Found tags.Feature (option_and_then (λ c. option_map (named.Feature c) (g c)) o)
feature_found None g h = cc
feature_found (Some c) g h = by_feature (g c) h
  where
    by_feature : (r : Option ℕ) → is_some (option_map (named.Feature c) r) ≡ true → Found tags.Feature (option_map (named.Feature c) r)
    by_feature (Some f) h = (named.Feature c f, refl, tt)
    by_feature None h = cc

literal_found : (o : Option ℕ) (g : ℕ → Option ℕ) → is_some (option_and_then (λ e. option_map (named.Literal e) (g e)) o) ≡ true → Found tags.Literal (option_and_then (λ e. option_map (named.Literal e) (g e)) o)
literal_found None g h = cc
literal_found (Some e) g h = by_literal (g e) h
  where
    by_literal : (r : Option ℕ) → is_some (option_map (named.Literal e) r) ≡ true → Found tags.Literal (option_map (named.Literal e) r)
    by_literal (Some l) h = (named.Literal e l, refl, tt)
    by_literal None h = cc

by_symbol : (m : Model) (texts : List (List ℕ)) (tag : SymbolTag) (s : Symbol) → has_tag tag s ≡ true → is_some (named_by m texts s) ≡ true → Found tag (named_by m texts s)
by_symbol m texts tags.Class (symbols.Class c) t h = class_found (class_number m (renamed_class m (text_at texts c.0))) h
by_symbol m texts tags.Enumeration (symbols.Enumeration e) t h = enumeration_found (enumeration_number m (text_at texts e.0)) h
by_symbol m texts tags.Feature (symbols.Feature c f) t h = feature_found (class_number m (renamed_class m (text_at texts c.0))) (λ class. feature_number m class (renamed_feature m (renamed_class m (text_at texts c.0)) (text_at texts f.0))) h
by_symbol m texts tags.Literal (symbols.Literal e l) t h = literal_found (enumeration_number m (text_at texts e.0)) (λ d. literal_number m d (text_at texts l.0)) h
by_symbol m texts tag s t h = cc

found_at : (m : Model) (u : Content) (tag : SymbolTag) (o : Option Symbol) → option_map_or (has_tag tag) o false ≡ true → is_some (option_and_then (named_by m u.texts) o) ≡ true → Found tag (option_and_then (named_by m u.texts) o)
found_at m u tag (Some s) t h = by_symbol m u.texts tag s t h
found_at m u tag None t h = cc

-- a symbol of a sort, that names something of the class model, names a thing of that sort, which is there
pub symbol_names : (m : Model) (u : Content) (tag : SymbolTag) (n : ℕ) → is_symbol_of tag u.symbols n ≡ true → is_some (named_at m u n) ≡ true → (x : Named) × (named_at m u n ≡ Some x) × IsNamed tag x × IsKnownName m x
symbol_names m u tag n t h =
    let f = found_at m u tag (slice_get u.symbols n) t h in
    (f.0, f.1, f.2, known f.0 (named_at m u n) f.1 (named_known m u n))
  where
    known : (x : Named) (o : Option Named) → o ≡ Some x → IfSome o (IsKnownName m) → IsKnownName m x
    known x (Some y) e k = let same : y ≡ x = cc in subst (IsKnownName m) same k
    known x None e k = cc
