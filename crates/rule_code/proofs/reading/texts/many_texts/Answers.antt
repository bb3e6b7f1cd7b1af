use Rattle.std.proofs.lemmas.Result.{err_from_is_err_and}
use Rattle.std.proofs.Common.{arith, ap, sym, ◌∙◌, ◌≡◌, ◌++◌, ◌∷◌, []}
use Rattle.std.proofs.lemmas.List.{map_push}
use Rattle.std.specs.Prelude.{map, string_bytes}
use Rattle.rule_code.specs.Parts.{text_from}
use Rattle.rule_code.proofs.Decided.{first_is_read}
use Rattle.rule_code.proofs.Loop.{goes_on, ends, is_done}
use Rattle.rule_code.proofs.reading.texts.many_texts.Goals as goal

pub returns-in_err-text-clause-gives : goal.returns-in_err-text-clause-gives
returns-in_err-text-clause-gives c =
    let p = err_from_is_err_and c.from_residual.result c.from_residual.ensures.1 in
    rw (p.1, p.2) (ends (λ before. text_from) c.args.count c.args.reader.now.left.now c.loop.counter (map string_bytes c.loop.texts.items) c.loop.reader.left.now c.in_err-text.field-0.0 c.loop-test.true c.in_err-text.ensures.gives c.loop.invariant.read)

pub loop-preserved : goal.loop-preserved
loop-preserved c =
    let pushed : map string_bytes c.push.new.self.items ≡ map string_bytes c.loop.texts.items ++ string_bytes c.in_ok-text.text ∷ [] = rw c.in_ok-push.ensures.items (map_push _ c.loop.texts.items c.in_ok-text.text) in
    rw pushed (record {
      read = goes_on (λ before. text_from) c.args.count c.args.reader.now.left.now c.loop.counter (map string_bytes c.loop.texts.items) c.loop.reader.left.now (string_bytes c.in_ok-text.text) c.text_from.new.reader.left.now c.loop-test.true c.in_ok-text.ensures.gives c.loop.invariant.read;
      start = λ e. absurd (omega arith);
      first = λ h. absurd (first_is_read c.args.count c.args.reader.now.left.now (string_bytes c.in_ok-text.text, c.text_from.new.reader.left.now) (ap text_from (sym (c.loop.invariant.start (c.loop.invariant.first h))) ∙ c.in_ok-text.ensures.gives) h);
    })

pub returns-clause-gives : goal.returns-clause-gives
returns-clause-gives c = is_done (λ before. text_from) c.args.count c.args.reader.now.left.now c.loop.counter (map string_bytes c.loop.texts.items) c.loop.reader.left.now c.loop-test.false c.loop.invariant.read
