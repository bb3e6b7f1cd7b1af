use Rattle.std.proofs.Common.{map}
use Rattle.std.proofs.lemmas.Result.{err_from_is_err_and}
use Rattle.ocl_text.specs.declared.rule_text.TheConstants.{MAX_NESTING, MAX_CHAIN}
use Rattle.ocl_tokens.specs.Terminals.{terminals}
use Rattle.ocl_tokens.specs.Lexical.{Lexes}
use Rattle.ocl_text.specs.View.{rule_of}
use Rattle.ocl_text.proofs.Outcomes.{text_spells, text_only, refused_lexical, refused_syntax, refused_too_deep, refused_duplicate, text_repeats, stops_lexical, stops_no_syntax, stops_no_depth, stops_no_duplicate}
use Rattle.ocl_text.proofs.rule_text.parse_rules.Goals as goal

pub returns-in_err-all-clause-lexical : goal.returns-in_err-all-clause-lexical
returns-in_err-all-clause-lexical c =
    let p = err_from_is_err_and c.from_residual.result c.from_residual.ensures.1 in
    rw (p.1, p.2) (stops_lexical c.args.text.now c.in_err-all.field-0.0 c.in_err-all.ensures.fault)

pub returns-in_err-all-clause-syntax : goal.returns-in_err-all-clause-syntax
returns-in_err-all-clause-syntax c =
    let p = err_from_is_err_and c.from_residual.result c.from_residual.ensures.1 in
    rw (p.1, p.2) (stops_no_syntax c.args.text.now c.in_err-all.field-0.0 c.in_err-all.ensures.fault)

pub returns-in_err-all-clause-too_deep : goal.returns-in_err-all-clause-too_deep
returns-in_err-all-clause-too_deep c =
    let p = err_from_is_err_and c.from_residual.result c.from_residual.ensures.1 in
    rw (p.1, p.2) (stops_no_depth MAX_NESTING MAX_CHAIN c.args.text.now c.in_err-all.field-0.0 c.in_err-all.ensures.fault)

pub returns-in_err-all-clause-duplicate : goal.returns-in_err-all-clause-duplicate
returns-in_err-all-clause-duplicate c =
    let p = err_from_is_err_and c.from_residual.result c.from_residual.ensures.1 in
    rw (p.1, p.2) (stops_no_duplicate MAX_NESTING MAX_CHAIN c.args.text.now c.in_err-all.field-0.0 c.in_err-all.ensures.fault)

pub returns-in-Err-clause-lexical : goal.returns-in-Err-clause-lexical
returns-in-Err-clause-lexical c = rw c.text_fault.ensures (refused_lexical c.args.text.now c.as_slice-tokens.result.now _ c.in-Err.fault)

pub returns-in-Err-clause-syntax : goal.returns-in-Err-clause-syntax
returns-in-Err-clause-syntax c =
    let lexes : Lexes c.args.text.now (terminals c.as_slice-tokens.result.now) = rw c.as_slice-tokens.ensures.value c.in_ok-all.ensures.tokens in
    rw c.text_fault.ensures (refused_syntax MAX_NESTING MAX_CHAIN c.args.text.now (terminals c.as_slice-tokens.result.now) lexes c.as_slice-tokens.result.now c.in-Err.fault c.in-Err.ensures)

pub returns-in-Err-clause-too_deep : goal.returns-in-Err-clause-too_deep
returns-in-Err-clause-too_deep c =
    let lexes : Lexes c.args.text.now (terminals c.as_slice-tokens.result.now) = rw c.as_slice-tokens.ensures.value c.in_ok-all.ensures.tokens in
    rw c.text_fault.ensures (refused_too_deep MAX_NESTING MAX_CHAIN c.args.text.now (terminals c.as_slice-tokens.result.now) lexes c.as_slice-tokens.result.now c.in-Err.fault c.in-Err.ensures)

pub returns-in-Err-clause-duplicate : goal.returns-in-Err-clause-duplicate
returns-in-Err-clause-duplicate c = rw c.text_fault.ensures (refused_duplicate MAX_NESTING MAX_CHAIN c.args.text.now c.as_slice-tokens.result.now _ c.in-Err.fault)

pub returns-in-None-clause-spells : goal.returns-in-None-clause-spells
returns-in-None-clause-spells c =
    let lexes : Lexes c.args.text.now (terminals c.as_slice-tokens.result.now) = rw c.as_slice-tokens.ensures.value c.in_ok-all.ensures.tokens in
    text_spells MAX_NESTING MAX_CHAIN c.args.text.now (terminals c.as_slice-tokens.result.now) lexes _ c.in-Ok.ensures

pub returns-in-None-clause-only : goal.returns-in-None-clause-only
returns-in-None-clause-only c =
    let lexes : Lexes c.args.text.now (terminals c.as_slice-tokens.result.now) = rw c.as_slice-tokens.ensures.value c.in_ok-all.ensures.tokens in
    text_only MAX_NESTING MAX_CHAIN c.args.text.now (terminals c.as_slice-tokens.result.now) lexes _ c.in-Ok.ensures

pub returns-clause-duplicate : goal.returns-clause-duplicate
returns-clause-duplicate c =
    let lexes : Lexes c.args.text.now (terminals c.as_slice-tokens.result.now) = rw c.as_slice-tokens.ensures.value c.in_ok-all.ensures.tokens in
    text_repeats MAX_NESTING MAX_CHAIN c.args.text.now (terminals c.as_slice-tokens.result.now) lexes (map rule_of c.in-Ok.rules.items) c.in-Some.offset c.in-Ok.ensures (rw (c.deref.ensures.value, c.in-Some.is) at c.in_ok-repeated_offset.ensures)
