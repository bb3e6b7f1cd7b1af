use Rattle.std.proofs.Common.{subst, length, List, ◌<◌}
use Rattle.std.proofs.lemmas.Option.{slice_get-get_or}
use Rattle.rule_code.specs.declared.symbol.Symbol.{Symbol}
use Rattle.rule_code.specs.View.{content}
use Rattle.rule_code.proofs.ForAbove.{symbol_fits}
use Rattle.rule_verify.proofs.resolved.names_of.Goals as goal

pub look_up-requires : goal.look_up-requires
look_up-requires c =
    let same = c.as_slice-symbol-items.ensures.value in
    let within = subst (λ (l : List Symbol). c.loop-symbol.symbol-index < length l) same c.loop-symbol-test.true in
    symbol_fits (content c.args.unit.now) c.args.unit.now.is_unit c.loop-symbol.symbol-index _ (rw same (slice_get-get_or c.args.unit.now.symbols.items c.loop-symbol.symbol-index _ within))
