use Rattle.std.proofs.Common.{◌≡◌, ◌++◌, map, drop}
use Rattle.ocl_compile.specs.Translation.{translate_symbol}
use Rattle.ocl_compile.proofs.compiling.unit_symbols.Given as goal

abbrev pub invariant-loop-i : goal.invariant-loop-i
invariant-loop-i l =
    l.symbols.items ++ map (translate_symbol l.model l.numbers) (drop l.i l.numbers.symbols) ≡ map (translate_symbol l.model l.numbers) l.numbers.symbols
