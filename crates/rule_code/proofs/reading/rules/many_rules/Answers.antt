use Rattle.std.proofs.Common.{◌≡◌, ◌++◌, ◌∷◌, []}
use Rattle.std.specs.Prelude.{map}
use Rattle.std.proofs.lemmas.List.{map_push}
use Rattle.std.proofs.lemmas.Result.{err_from_is_err_and}
use Rattle.rule_code.specs.Content.{rule_content}
use Rattle.rule_code.specs.Taken.{is_name_taken}
use Rattle.rule_code.specs.Parts.{next_rule_from}
use Rattle.rule_code.specs.Preamble.{preamble_of}
use Rattle.rule_code.proofs.Loop.{begins, goes_on, ends, is_done}
use Rattle.rule_code.proofs.RuleNames.{is_name_taken-push, is_name_taken-empty}
use Rattle.rule_code.proofs.reading.rules.many_rules.Goals as goal

pub returns-in_err-rule-clause-gives : goal.returns-in_err-rule-clause-gives
returns-in_err-rule-clause-gives c =
    let p = err_from_is_err_and c.from_residual.result c.from_residual.ensures.1 in
    let preamble = preamble_of c.args.preamble in
    let failed = rw c.loop.invariant.known at c.in_err-rule.ensures.gives in
    rw (p.1, p.2) (ends (next_rule_from preamble) c.args.count c.args.reader.now.left.now c.loop.counter (map rule_content c.loop.rules.items) c.loop.reader.left.now c.in_err-rule.field-0.0 c.loop-test.true failed c.loop.invariant.read)

pub loop-preserved : goal.loop-preserved
loop-preserved c =
    let preamble = preamble_of c.args.preamble in
    let r = rule_content c.in_ok-rule.rule in
    let before = map rule_content c.loop.rules.items in
    let pushed : map rule_content c.push.new.self.items ≡ before ++ r ∷ [] = rw c.in_ok-push.ensures.items (map_push _ c.loop.rules.items c.in_ok-rule.rule) in
    let gave = rw c.loop.invariant.known at c.in_ok-rule.ensures.gives in
    rw pushed (record {
      read = goes_on (next_rule_from preamble) c.args.count c.args.reader.now.left.now c.loop.counter before c.loop.reader.left.now r c.rule_from.new.reader.left.now c.loop-test.true gave c.loop.invariant.read;
      known = is_name_taken-push preamble.texts before r (is_name_taken c.loop.taken) (is_name_taken c.rule_from.new.taken) c.loop.invariant.known c.in_ok-rule.ensures.taken;
    })

pub returns-clause-gives : goal.returns-clause-gives
returns-clause-gives c = is_done (next_rule_from (preamble_of c.args.preamble)) c.args.count c.args.reader.now.left.now c.loop.counter (map rule_content c.loop.rules.items) c.loop.reader.left.now c.loop-test.false c.loop.invariant.read

pub loop-init : goal.loop-init
loop-init c =
    let preamble = preamble_of c.args.preamble in
    rw c.new-rules.ensures.items (record {
      read = begins (next_rule_from preamble) c.args.count c.args.reader.now.left.now;
      known = is_name_taken-empty c.new-taken.result c.new-taken.ensures.empty;
    })
