use Rattle.std.proofs.Common.{[], ◌∷◌, ◌++◌, map, refl, sym, ap, ◌∙◌}
use Rattle.std.proofs.lemmas.Option.{get_or_from_slice_get, slice_get_within}
use Rattle.rule_code.specs.declared.symbol.Symbol.{Symbol}
use Rattle.rule_verify.specs.declared.named.Named.{Named}
use Rattle.ocl_compile.specs.Translation.{translate_symbol}
use Rattle.ocl_compile.proofs.Emitted.{walked_on}
use Rattle.ocl_compile.proofs.compiling.unit_symbols.Goals as goal

-- src/compiling.rt
pub loop-i-preserved : goal.loop-i-preserved
loop-i-preserved c =
    let to = translate_symbol c.args.model.now c.args.numbers.now in
    let names = c.args.numbers.now.symbols in
    let i = c.loop-i.i in
    let x = c.symbol.result in
    walked_on (λ (y : Named). to y ∷ []) (map to) (λ y ys. refl) names i x (sym (get_or_from_slice_get names i x x c.symbol.ensures)) (slice_get_within names i x c.symbol.ensures) c.loop-i.symbols.items c.push.new.self.items (map to names)
    ((c.in_ok-push.ensures).items ∙ ap (λ (s : Symbol). c.loop-i.symbols.items ++ s ∷ []) c.symbol_of_names.ensures)
    c.loop-i.invariant
