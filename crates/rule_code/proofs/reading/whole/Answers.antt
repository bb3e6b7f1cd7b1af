use Rattle.std.proofs.Common.{map, string_bytes, arith}
use Rattle.std.proofs.lemmas.List.{length-map}
use Rattle.std.proofs.lemmas.Result.{err_from_is_err_and}
use Rattle.rule_code.proofs.Decided.{behind_head, texts_read, none_read}
use Rattle.rule_code.proofs.reading.whole.Goals as goal

pub returns-in_err-texts-clause-decided : goal.returns-in_err-texts-clause-decided
returns-in_err-texts-clause-decided c =
    let p = err_from_is_err_and c.from_residual-in_err-texts.result c.from_residual-in_err-texts.ensures.1 in
    rw (p.1, p.2) (λ h. c.in_err-texts.ensures.first (behind_head c.args.bytes.now (c.in_ok-version.version, c.head_from.new.reader.left.now) c.in_ok-version.ensures.gives h))

pub returns-in_err-symbols-clause-decided : goal.returns-in_err-symbols-clause-decided
returns-in_err-symbols-clause-decided c = λ h.
    absurd (texts_read c.head_from.new.reader.left.now (map string_bytes c.in_ok-texts.texts.items, c.texts_from.new.reader.left.now) c.in_ok-texts.ensures.gives (behind_head c.args.bytes.now (c.in_ok-version.version, c.head_from.new.reader.left.now) c.in_ok-version.ensures.gives h))

pub returns-in_err-symbols-clause-without_texts : goal.returns-in_err-symbols-clause-without_texts
returns-in_err-symbols-clause-without_texts c =
    let p = err_from_is_err_and c.from_residual-in_err-symbols.result c.from_residual-in_err-symbols.ensures.1 in
    rw (p.1, p.2) (λ none.
    let no_texts = none_read c.args.bytes.now (c.in_ok-version.version, c.head_from.new.reader.left.now) (map string_bytes c.in_ok-texts.texts.items, c.texts_from.new.reader.left.now) none c.in_ok-version.ensures.gives c.in_ok-texts.ensures.gives in
    c.in_err-symbols.ensures.without_texts (omega (arith, no_texts, length-map c.in_ok-texts.texts.items string_bytes)))

pub returns-in_err-rules-clause-decided : goal.returns-in_err-rules-clause-decided
returns-in_err-rules-clause-decided c = λ h.
    absurd (texts_read c.head_from.new.reader.left.now (map string_bytes c.in_ok-texts.texts.items, c.texts_from.new.reader.left.now) c.in_ok-texts.ensures.gives (behind_head c.args.bytes.now (c.in_ok-version.version, c.head_from.new.reader.left.now) c.in_ok-version.ensures.gives h))

pub returns-in_err-rules-clause-without_texts : goal.returns-in_err-rules-clause-without_texts
returns-in_err-rules-clause-without_texts c =
    let p = err_from_is_err_and c.from_residual-in_err-rules.result c.from_residual-in_err-rules.ensures.1 in
    rw (p.1, p.2) (λ none.
    let no_texts = none_read c.args.bytes.now (c.in_ok-version.version, c.head_from.new.reader.left.now) (map string_bytes c.in_ok-texts.texts.items, c.texts_from.new.reader.left.now) none c.in_ok-version.ensures.gives c.in_ok-texts.ensures.gives in
    c.in_err-rules.ensures.without_texts (omega (arith, no_texts, length-map c.in_ok-texts.texts.items string_bytes)))
