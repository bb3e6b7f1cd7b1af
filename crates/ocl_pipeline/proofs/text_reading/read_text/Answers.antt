use Rattle.std.proofs.Common.{map, ◌∙◌}
use Rattle.ocl_text.specs.View.{rule_of}
use Rattle.ocl_pipeline.proofs.TextReadings.{text_read, text_refused, ill_formed_read}
use Rattle.ocl_pipeline.proofs.text_reading.read_text.Goals as goal

pub returns-in-Ok-clause-rules : goal.returns-in-Ok-clause-rules
returns-in-Ok-clause-rules c =
    let h = c.parse_rules.ensures in
    text_read (λ v. map rule_of v.items) c.args.bytes.now c.in-Ok.text.now c.parse_rules.result c.in-Ok.ensures.cases.0 c.in-Ok.ensures.cases.1 h.spells h.names

pub returns-in-Ok-clause-fault : goal.returns-in-Ok-clause-fault
returns-in-Ok-clause-fault c =
    let h = c.parse_rules.ensures in
    text_refused c.args.bytes.now c.in-Ok.text.now c.parse_rules.result c.in-Ok.ensures.cases.0 c.in-Ok.ensures.cases.1 h.lexical h.syntax h.too_deep h.duplicate

pub returns-in-Err-clause-fault : goal.returns-in-Err-clause-fault
returns-in-Err-clause-fault c =
    ill_formed_read c.args.bytes.now c.valid_up_to.result c.in-Err.ensures.cases.0 (c.valid_up_to.ensures ∙ c.in-Err.ensures.valid_len)
