-- What holds of every text, whatever the code does.
use Rattle.std.specs.Prelude.{◌≡◌, ℕ, List, map, false, ◌⊎◌}
use Rattle.ocl_base.specs.Words.{reserved_words, is_reserved}
use Rattle.ocl_tokens.specs.declared.token.TokenKind.TheVariants.{Identifier}
use Rattle.ocl_tokens.specs.declared.fault.TextFlaw.{TextFlaw}
use Rattle.ocl_tokens.specs.Terminals.{Terminal}
use Rattle.ocl_tokens.specs.Lexical.{Lexes, HasFlaw, reserved_kinds, word_kind}

abbrev pub HasOneTokenList : Type 0
HasOneTokenList = (text : List ℕ) (some others : List Terminal) → Lexes text some → Lexes text others → some ≡ others

abbrev pub HasOneFault : Type 0
HasOneFault =
    (text : List ℕ) (one other : TextFlaw) (here there : ℕ) → HasFlaw text one here → HasFlaw text other there
    → (one ≡ other) × (here ≡ there)

abbrev pub NeverBoth : Type 0
NeverBoth = (text : List ℕ) (ts : List Terminal) (flaw : TextFlaw) (offset : ℕ) → Lexes text ts → HasFlaw text flaw offset → ⊥

abbrev pub HasTokensOrFault : Type 0
HasTokensOrFault =
    (text : List ℕ) → ((ts : List Terminal) × Lexes text ts) ⊎ ((flaw : TextFlaw) × (offset : ℕ) × HasFlaw text flaw offset)

-- the table has the reserved words, all of them and no other
abbrev pub KeepsReservedWords : Type 0
KeepsReservedWords = map (λ row. row.0) reserved_kinds ≡ reserved_words

abbrev pub NamesNothingReserved : Type 0
NamesNothingReserved = (text : List ℕ) → word_kind text ≡ Identifier → is_reserved text ≡ false
