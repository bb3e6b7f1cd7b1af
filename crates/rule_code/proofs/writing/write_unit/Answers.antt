use Rattle.rule_code.proofs.ForAbove.{text_small, rule_small, texts_few, symbols_few, rules_few}
use Rattle.rule_code.proofs.writing.write_unit.Goals as goal

pub put_texts-requires-clause-few : goal.put_texts-requires-clause-few
put_texts-requires-clause-few c =
    let u = c.args.unit.now in
    rw c.deref.ensures.value (texts_few u.version u.texts.items u.symbols.items u.rules.items u.is_unit)

pub put_texts-requires-clause-short : goal.put_texts-requires-clause-short
put_texts-requires-clause-short c =
    let u = c.args.unit.now in
    rw c.deref.ensures.value (text_small u.version u.texts.items u.symbols.items u.rules.items u.is_unit)

pub put_symbols-requires : goal.put_symbols-requires
put_symbols-requires c =
    let u = c.args.unit.now in
    rw c.deref-2.ensures.value (symbols_few u.version u.texts.items u.symbols.items u.rules.items u.is_unit)

pub put_rules-requires-clause-few : goal.put_rules-requires-clause-few
put_rules-requires-clause-few c =
    let u = c.args.unit.now in
    rw c.deref-3.ensures.value (rules_few u.version u.texts.items u.symbols.items u.rules.items u.is_unit)

pub put_rules-requires-clause-short : goal.put_rules-requires-clause-short
put_rules-requires-clause-short c =
    let u = c.args.unit.now in
    rw c.deref-3.ensures.value (rule_small u.version u.texts.items u.symbols.items u.rules.items u.is_unit)
