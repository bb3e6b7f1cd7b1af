-- The texts and symbols that code uses stand under their numbers.
use Rattle.std.specs.Prelude.{◌≡◌, List, Some}
use Rattle.std.specs.List.{AllByRecursion}
use Rattle.imkl_model.specs.ClassModel.{Model}
use Rattle.rule_code.specs.Content.{Content, text_at}
use Rattle.rule_verify.specs.Symbols.{named_at}
use Rattle.ocl_compile.specs.Numbering.{Numbering, Use, UsedText, UsedSymbol, text_number, symbol_number}

-- a use has its text, or its symbol, under the number that stands for it
abbrev pub IsUseResolved : Model → Content → Numbering → Use → Type 0
IsUseResolved m u n (UsedText t) = text_at u.texts (text_number n t) ≡ t
IsUseResolved m u n (UsedSymbol x) = named_at m u (symbol_number n x) ≡ Some x

-- so has each of these
abbrev pub AreUsesResolved : Model → Content → Numbering → List Use → Type 0
AreUsesResolved m u n us = AllByRecursion (IsUseResolved m u n) us
