-- Laws of code trees and of symbols.
use Rattle.std.specs.Prelude.{◌≡◌, ℕ, List, length, Some}
use Rattle.imkl_model.specs.ClassModel.{Model}
use Rattle.rule_code.specs.declared.symbol.Symbol.{Symbol}
use Rattle.rule_code.specs.declared.instruction.Instr.{Instr}
use Rattle.rule_verify.specs.declared.named.Named.{Named}
use Rattle.rule_verify.specs.Symbols.{names_in, named_in, named_by}
use Rattle.rule_verify.specs.CodeTree.{instr_count, code_tree}

abbrev pub EachCodeHasItsLength : Type 0
EachCodeHasItsLength = (code : List Instr) → instr_count (code_tree code) ≡ length code

-- a symbol whose names, as they are written, name something of the class model names just that
abbrev pub PresentSymbolsStay : Model → Type 0
PresentSymbolsStay m =
    (texts : List (List ℕ)) (s : Symbol) (x : Named) → named_in m (names_in texts s) ≡ Some x → named_by m texts s ≡ Some x

-- each symbol names what its names, as they are written, name
abbrev pub SymbolsNameAsWritten : Model → Type 0
SymbolsNameAsWritten m = (texts : List (List ℕ)) (s : Symbol) → named_by m texts s ≡ named_in m (names_in texts s)
