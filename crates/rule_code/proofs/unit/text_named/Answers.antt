use Rattle.std.proofs.Common.{◌∙◌, sym, arith}
use Rattle.rule_code.proofs.RuleNames.{text_at-map}
use Rattle.rule_code.proofs.unit.text_named.Goals as goal

pub returns : goal.returns
returns c =
    let stands = c.index-texts-from.is in
    c.as_str.ensures.value ∙ sym (text_at-map c.args.texts.now c.args.number.0 c.index-texts-from.result (omega arith) (rw c.from.ensures at stands))
