use Rattle.std.proofs.Common.{rules, Some}
use Rattle.ocl_check_c.proofs.Compiled.{compiled}
use Rattle.ocl_check_c.proofs.exports.ocl_check_compile.Goals as goal

pub returns : goal.returns
returns c =
    let none = c.new.ensures.items in
    let file = c.new-file.ensures in
    let nothing = c.new-2.ensures.items in
    let sink = c.new-sink.ensures in
    let written = c.into_inner.ensures in
    let said = c.into_inner-2.ensures in
    let bytes = c.deref.ensures.value in
    let words = c.deref-2.ensures.value in
    compiled (λ t. Some t.0.items) (λ t. t.1) c.new-file.result c.compile_inputs-outcome.new.out (Some c.new-sink.result.0.items) (Some c.compile_inputs-outcome.new.sink.0.items) _ _ _ _ _ _ _ _ _ _ _ c.deref.result.now c.deref-2.result.now c.compile_inputs-outcome.ensures.answered c.put_answer.ensures c.put_answer-2.ensures (search rules) (search rules) (search rules) (search rules)
