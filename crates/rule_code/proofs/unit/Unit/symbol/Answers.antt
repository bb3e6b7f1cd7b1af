use Rattle.rule_code.specs.View.{content}
use Rattle.rule_code.proofs.ForAbove.{symbol_at_number, symbol_fits}
use Rattle.rule_code.proofs.unit.Unit.symbol.Goals as goal

pub returns-clause-names : goal.returns-clause-names
returns-clause-names c =
    let u = c.args.self.now in
    symbol_fits (content u) u.is_unit c.args.number.0 c.index.result.now (symbol_at_number u.symbols.items c.args.number.0 c.from.result c.index.result.now c.from.ensures c.requires c.index.ensures)
