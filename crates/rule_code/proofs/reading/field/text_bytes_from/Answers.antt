use Rattle.std.proofs.Common.{◌≡◌, true, false, arith}
use Rattle.std.proofs.lemmas.Grind.{common_steps}
use Rattle.std.proofs.lemmas.Bool.{false_from_ne_true}
use Rattle.std.proofs.lemmas.Str.{is_utf8-from_IsUtf8, IsUtf8-from_is_utf8}
use Rattle.std.specs.Str.{is_utf8}
use Rattle.rule_code.specs.Reading.{text_bytes_from}
use Rattle.rule_code.proofs.reading.field.text_bytes_from.Goals as goal

pub returns-in-Ok : goal.returns-in-Ok
unfolding text_bytes_from
returns-in-Ok c =
    let good : is_utf8 c.split_at.result.0.now ≡ true = is_utf8-from_IsUtf8 _ c.in-Ok.ensures.cases.1 in
    grind (arith, common_steps)

pub returns-in-Err : goal.returns-in-Err
unfolding text_bytes_from
returns-in-Err c =
    let bad : is_utf8 c.split_at.result.0.now ≡ false = false_from_ne_true _ (λ h. c.in-Err.ensures.cases.0 (IsUtf8-from_is_utf8 _ h)) in
    grind (arith, common_steps)
