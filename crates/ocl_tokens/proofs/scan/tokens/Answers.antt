use Rattle.std.proofs.Common.{refl, ap, sym, ◌∙◌}
use Rattle.ocl_tokens.proofs.Progress.{end_of, spans_of, fault_of, blank_of, token_of}
use Rattle.ocl_tokens.specs.Written.{is_written}
use Rattle.ocl_tokens.proofs.Lexemes.{first_token}
use Rattle.ocl_tokens.proofs.Total.{token_written}
use Rattle.ocl_tokens.proofs.scan.tokens.Goals as goal

pub returns-in-End-clause-tokens : goal.returns-in-End-clause-tokens
returns-in-End-clause-tokens c = end_of c.tokens.invariant c.in-End.ensures.value

pub returns-in-End-clause-spans : goal.returns-in-End-clause-spans
returns-in-End-clause-spans c = spans_of c.tokens.invariant

pub returns-in-Fault-clause-fault : goal.returns-in-Fault-clause-fault
returns-in-Fault-clause-fault c = fault_of c.tokens.invariant c.in-Fault.ensures.value

pub first_lexeme-requires-text-text : goal.first_lexeme-requires-text-text
first_lexeme-requires-text-text c = λ _. c.tokens.invariant.utf8

pub tokens-preserved-in-Blank : goal.tokens-preserved-in-Blank
tokens-preserved-in-Blank c = blank_of c.tokens.invariant c.in-Blank.len c.range_from-rest.result.now c.in-Blank.ensures.value c.in-Blank.ensures.ends.1 c.range_from-rest.ensures.value

pub tokens-preserved : goal.tokens-preserved
tokens-preserved c = rw c.in_ok-push-in-Token.ensures.items (token_of c.tokens.invariant _ c.in-Token.len c.split_at.result.1.now c.in-Token.ensures.value c.in-Token.ensures.ends.1 refl refl c.split_at.ensures.front c.split_at.ensures.back)

pub invariant_of-push : goal.invariant_of-push
invariant_of-push c = record {
  written = ap (is_written c.in-Token.kind) c.split_at.ensures.front ∙ token_written (first_token c.tokens.rest.now c.in-Token.kind c.in-Token.len (sym c.in-Token.ensures.value));
}
