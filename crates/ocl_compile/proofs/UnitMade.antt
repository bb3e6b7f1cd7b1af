-- The unit of rules, put together from its parts.
use Rattle.std.proofs.Common.{◌≡◌, ℕ, true, List, [], ◌∷◌, ◌++◌, map, None, Ok, String, Global, string_bytes, ap, ◌∙◌}
use Rattle.std.proofs.lemmas.Str.{is_utf8-from_IsUtf8, IsUtf8-string_bytes}
use Rattle.std.specs.Str.{is_utf8}
use Rattle.std.specs.List.{AllByRecursion}
use Rattle.imkl_model.specs.ClassModel.{Model}
use Rattle.ocl_core.specs.Core.{CheckedRule}
use Rattle.ocl_core.specs.Typing.{IsTypedRule}
use Rattle.rule_code.specs.declared.symbol.Symbol.{Symbol}
use Rattle.rule_code.specs.declared.unit.Rule.{Rule}
use Rattle.rule_code.specs.declared.version.Version.{Version}
use Rattle.rule_code.specs.Content.{RuleContent, rule_content, content_of}
use Rattle.ocl_compile.specs.Numbering.{Numbering, no_numbers, same_named, Use, UsedText, UsedSymbol, with_use, with_uses, rules_uses, numbering_of}
use Rattle.ocl_compile.specs.Translation.{version_of, translate_rule, translate_symbol, translate_rules}
use Rattle.ocl_compile.specs.Compiling.{limit_passed, first_passed}
use Rattle.ocl_compile.specs.CompileWalk.{numbered_rules, IsCodable}
use Rattle.ocl_compile.specs.NumberWalk.{IsNamedIn, AreUsesOf}
use Rattle.ocl_compile.proofs.CompiledUnits.{compiled_is, none_later}
use Rattle.ocl_compile.proofs.Resolving.{rules_there}
use Rattle.ocl_compile.proofs.UnitFits.{is_roomy, once_more_all}

-- what is numbered passes no limit
pub numbered_are : (m : Model) (rs : List CheckedRule) (n : Numbering) → numbered_rules m rs ≡ Ok n → (first_passed m rs [] rs ≡ None) × (n ≡ numbering_of m rs)
numbered_are m rs n e = compiled_is (first_passed m rs [] rs) (numbering_of m rs) n e

-- typed rules that pass no limit have code that is short enough
pub are_codable : (m : Model) (all before rs : List CheckedRule) → AllByRecursion (IsTypedRule m) rs → first_passed m all before rs ≡ None → AllByRecursion (IsCodable m (numbering_of m all)) rs
are_codable m all before [] typed none = tt
are_codable m all before (r ∷ rs) typed none =
    let p = none_later _ (limit_passed m all before r) (first_passed m all (before ++ r ∷ []) rs) none in
    ((typed.0, (is_roomy m all before r p.0).code), are_codable m all (before ++ r ∷ []) rs typed.1 p.1)

-- ---- symbols

use_named : (m : Model) (n : Numbering) (u : Use) → AreUsesOf m (u ∷ []) → AllByRecursion (IsNamedIn m) n.symbols → AllByRecursion (IsNamedIn m) (with_use m n u).symbols
use_named m n (UsedText t) there h = h
use_named m n (UsedSymbol s) there h = once_more_all (IsNamedIn m) same_named n.symbols s h there.0

uses_named : (m : Model) (us : List Use) (n : Numbering) → AreUsesOf m us → AllByRecursion (IsNamedIn m) n.symbols → AllByRecursion (IsNamedIn m) (with_uses m n us).symbols
uses_named m [] n there h = h
uses_named m (u ∷ us) n there h = uses_named m us (with_use m n u) there.1 (use_named m n u (there.0, tt) h)

-- the symbols of typed rules name things of the class model
pub are_named : (m : Model) (rs : List CheckedRule) → AllByRecursion (IsTypedRule m) rs → AllByRecursion (IsNamedIn m) (numbering_of m rs).symbols
are_named m rs typed = uses_named m (rules_uses m rs) no_numbers (rules_there m rs typed) tt

-- ---- texts

-- the bytes of strings are UTF-8
pub strings_are_utf8 : (texts : List (String Global)) → AllByRecursion (λ t. is_utf8 t ≡ true) (map string_bytes texts)
strings_are_utf8 [] = tt
strings_are_utf8 (t ∷ ts) = (is_utf8-from_IsUtf8 (string_bytes t) (IsUtf8-string_bytes t), strings_are_utf8 ts)

-- ---- the unit

-- texts, symbols and rules that were translated make up the unit of the rules
pub unit_is : (m : Model) (rs : List CheckedRule) (n : Numbering) (texts : List (String Global)) (symbols : List Symbol) (rules : List Rule) → n ≡ numbering_of m rs → map string_bytes texts ≡ n.texts → symbols ≡ map (translate_symbol m n) n.symbols
    → map rule_content rules ≡ map (translate_rule m n) rs → (version : Version) → version ≡ version_of (map rule_content rules) → content_of version texts symbols rules ≡ translate_rules m rs
unit_is m rs n texts symbols rules e t s r version v =
    ap (λ (x : Version). record { version = x; texts = map string_bytes texts; symbols = symbols; rules = map rule_content rules }) v
    ∙ ap (λ (x : List (List ℕ)). record { version = version_of (map rule_content rules); texts = x; symbols = symbols; rules = map rule_content rules }) t
    ∙ ap (λ (x : List Symbol). record { version = version_of (map rule_content rules); texts = n.texts; symbols = x; rules = map rule_content rules }) s
    ∙ ap (λ (x : List RuleContent). record { version = version_of x; texts = n.texts; symbols = map (translate_symbol m n) n.symbols; rules = x }) r
    ∙ ap (λ (o : Numbering). record { version = version_of (map (translate_rule m o) rs); texts = o.texts; symbols = map (translate_symbol m o) o.symbols; rules = map (translate_rule m o) rs }) e
