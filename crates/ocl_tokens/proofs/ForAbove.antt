-- What the crates above cite: a text has one list of tokens.
use Rattle.std.proofs.Common.{◌≡◌, ℕ, List}
use Rattle.ocl_tokens.specs.Terminals.{Terminal}
use Rattle.ocl_tokens.specs.Lexical.{Lexes}
use Rattle.ocl_tokens.proofs.OneReading as r

-- two lists of tokens of one text are one list
pub one_token_list : (text : List ℕ) (some others : List Terminal) → Lexes text some → Lexes text others → some ≡ others
one_token_list text some others d e = r.one_token_list d others e
