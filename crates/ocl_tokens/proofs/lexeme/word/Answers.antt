use Rattle.ocl_tokens.proofs.Boundaries.{word_end}
use Rattle.ocl_tokens.proofs.lexeme.word.Goals as goal

pub range-requires-clause-end_boundary : goal.range-requires-clause-end_boundary
range-requires-clause-end_boundary c = rw (c.word_len-len.ensures.len, c.as_bytes.ensures.value) (word_end c.args.text.now c.utf8.text)
