use Rattle.rule_verify.proofs.OldSymbols.{present_symbols_stay, symbols_name_as_written}
use Rattle.rule_verify.proofs.laws.symbols.Goals as goal

pub returns-clause-present : goal.returns-clause-present
returns-clause-present c = present_symbols_stay

pub returns-clause-none : goal.returns-clause-none
returns-clause-none c = symbols_name_as_written
