-- What bytes are read as, by what was returned of them.
use Rattle.std.proofs.Common.{◌≡◌, ◌⊎◌, inl, inr, ℕ, Bool, true, false, List, [], ◌∷◌, ◌++◌, length, Result, Ok, Err, IfOk, IfErr, refl, sym, ap, subst}
use Rattle.std.specs.Str.{IsUtf8, is_utf8}
use Rattle.std.specs.Str.Lossy.{utf8_valid_len}
use Rattle.std.proofs.lemmas.Str.{IsUtf8-from_is_utf8, is_utf8-from_IsUtf8}
use Rattle.ocl_tokens.specs.declared.fault.TextFlaw.{TextFlaw}
use Rattle.ocl_tokens.specs.declared.fault.TextFlaw.TheVariants as flaws
use Rattle.ocl_tokens.specs.declared.fault.TextFault.{TextFault}
use Rattle.ocl_tokens.specs.declared.fault.TextFault.TheVariants as fault
use Rattle.ocl_tokens.specs.Terminals.{Terminal}
use Rattle.ocl_tokens.specs.Lexical.{Lexes, HasFlaw}
use Rattle.ocl_tokens.specs.Laws.{HasTokensOrFault}
use Rattle.ocl_text.specs.declared.rule_text.TheConstants.{MAX_NESTING, MAX_CHAIN}
use Rattle.ocl_text.specs.Tree.{Rule}
use Rattle.ocl_text.specs.Grammar.{SpellsWithin}
use Rattle.ocl_text.specs.RuleText.{TextSpellsWithin, has_name, AreNamedApart, NamesDiffer, RepeatsAt, here, later, first_offset, IsWrongAt, IsTooDeepAt, IfLexical, IfSyntax, IfTooDeep, IfDuplicate}
use Rattle.ocl_text.specs.Laws.{SpellsOrIsRefused}
use Rattle.ocl_pipeline.specs.TextReading.{TextReading, text_fault_at, TextReadsAs, BytesReadAs, ReadsAs, IsFaultRead}

-- ---- what was returned

-- a reading of a text is one of its bytes, which are UTF-8
of_utf8 : (bytes : List ℕ) (t : TextReading) → IsUtf8 bytes → TextReadsAs bytes t → ReadsAs bytes t
of_utf8 bytes t utf8 h = subst (λ (b : Bool). BytesReadAs b bytes t) (sym (is_utf8-from_IsUtf8 bytes utf8)) h

rules_read : (bytes : List ℕ) (rules : List Rule) → IsUtf8 bytes → TextSpellsWithin MAX_NESTING MAX_CHAIN bytes rules → NamesDiffer rules → ReadsAs bytes (Ok rules)
rules_read bytes rules utf8 spells names = of_utf8 bytes (Ok rules) utf8 (spells, names)

fault_read : (bytes : List ℕ) (e : TextFault) → IsUtf8 bytes → IfLexical bytes e → IfSyntax bytes e → IfTooDeep MAX_NESTING MAX_CHAIN bytes e → IfDuplicate MAX_NESTING MAX_CHAIN bytes e → IsFaultRead bytes e
fault_read bytes fault.OutOfMemory utf8 lexical syntax deep duplicate = tt
fault_read bytes (fault.At flaws.BadCharacter offset) utf8 lexical syntax deep duplicate = of_utf8 bytes (Err (text_fault_at flaws.BadCharacter offset)) utf8 (inl lexical)
fault_read bytes (fault.At flaws.OpenString offset) utf8 lexical syntax deep duplicate = of_utf8 bytes (Err (text_fault_at flaws.OpenString offset)) utf8 (inl lexical)
fault_read bytes (fault.At flaws.BadEscape offset) utf8 lexical syntax deep duplicate = of_utf8 bytes (Err (text_fault_at flaws.BadEscape offset)) utf8 (inl lexical)
fault_read bytes (fault.At flaws.NumberTooLarge offset) utf8 lexical syntax deep duplicate = of_utf8 bytes (Err (text_fault_at flaws.NumberTooLarge offset)) utf8 (inl lexical)
fault_read bytes (fault.At flaws.OpenComment offset) utf8 lexical syntax deep duplicate = of_utf8 bytes (Err (text_fault_at flaws.OpenComment offset)) utf8 (inl lexical)
fault_read bytes (fault.At flaws.Syntax offset) utf8 lexical syntax deep duplicate = of_utf8 bytes (Err (text_fault_at flaws.Syntax offset)) utf8 (inr syntax)
fault_read bytes (fault.At flaws.TooDeep offset) utf8 lexical syntax deep duplicate = of_utf8 bytes (Err (text_fault_at flaws.TooDeep offset)) utf8 (inr deep)
fault_read bytes (fault.At flaws.DuplicateRule offset) utf8 lexical syntax deep duplicate = of_utf8 bytes (Err (text_fault_at flaws.DuplicateRule offset)) utf8 (inr duplicate)

-- what `parse_rules` returned of a text is a reading of its bytes
pub text_read : {X : Type 0} (view : X → List Rule) (bytes text : List ℕ) (result : Result X TextFault) → text ≡ bytes → IsUtf8 bytes → IfOk result (λ x. TextSpellsWithin MAX_NESTING MAX_CHAIN text (view x)) → IfOk result (λ x. NamesDiffer (view x))
    → IfOk result (λ x. ReadsAs bytes (Ok (view x)))
text_read view bytes text (Ok x) same utf8 spells names = rules_read bytes (view x) utf8 (subst (λ (t : List ℕ). TextSpellsWithin MAX_NESTING MAX_CHAIN t (view x)) same spells) names
text_read view bytes text (Err e) same utf8 spells names = tt

-- and so is the fault that it refused a text with
pub text_refused : {X : Type 0} (bytes text : List ℕ) (result : Result X TextFault) → text ≡ bytes → IsUtf8 bytes → IfErr result (IfLexical text) → IfErr result (IfSyntax text) → IfErr result (IfTooDeep MAX_NESTING MAX_CHAIN text) → IfErr result (IfDuplicate MAX_NESTING MAX_CHAIN text)
    → IfErr result (IsFaultRead bytes)
text_refused bytes text (Ok x) same utf8 lexical syntax deep duplicate = tt
text_refused bytes text (Err e) same utf8 lexical syntax deep duplicate =
    fault_read bytes e utf8 (subst (λ (t : List ℕ). IfLexical t e) same lexical) (subst (λ (t : List ℕ). IfSyntax t e) same syntax)
    (subst (λ (t : List ℕ). IfTooDeep MAX_NESTING MAX_CHAIN t e) same deep) (subst (λ (t : List ℕ). IfDuplicate MAX_NESTING MAX_CHAIN t e) same duplicate)

-- bytes that aren't UTF-8 are read as a bad character
ill_formed_by : (bytes : List ℕ) (b : Bool) (offset : ℕ) → is_utf8 bytes ≡ b → (IsUtf8 bytes → ⊥) → offset ≡ utf8_valid_len bytes → BytesReadAs b bytes (Err (text_fault_at flaws.BadCharacter offset))
ill_formed_by bytes true offset utf8 ill is = absurd (ill (IsUtf8-from_is_utf8 bytes utf8))
ill_formed_by bytes false offset utf8 ill is = ap (λ (n : ℕ). Err (text_fault_at flaws.BadCharacter n)) is

pub ill_formed_read : (bytes : List ℕ) (offset : ℕ) → (IsUtf8 bytes → ⊥) → offset ≡ utf8_valid_len bytes → ReadsAs bytes (Err (text_fault_at flaws.BadCharacter offset))
ill_formed_read bytes offset ill is = ill_formed_by bytes (is_utf8 bytes) offset refl ill is

-- ---- there is a reading

-- names differ, or there is a first rule whose name an earlier one has
named_or_repeated : (before rs : List Rule) → AreNamedApart before rs ⊎ ((offset : ℕ) × RepeatsAt before rs offset)
named_or_repeated before [] = inl tt
named_or_repeated before (r ∷ rs) = by_name (has_name before r.name) refl (named_or_repeated (before ++ r ∷ []) rs)
  where
    by_name : (b : Bool) → has_name before r.name ≡ b → AreNamedApart (before ++ r ∷ []) rs ⊎ ((offset : ℕ) × RepeatsAt (before ++ r ∷ []) rs offset)
        → AreNamedApart before (r ∷ rs) ⊎ ((offset : ℕ) × RepeatsAt before (r ∷ rs) offset)
    by_name true has next = inr (r.offset, here has)
    by_name false has (inl apart) = inl (has, apart)
    by_name false has (inr (offset, repeats)) = inr (offset, later has repeats)

rules_have_reading : (text : List ℕ) (rules : List Rule) → TextSpellsWithin MAX_NESTING MAX_CHAIN text rules → NamesDiffer rules ⊎ ((offset : ℕ) × RepeatsAt [] rules offset) → (t : TextReading) × TextReadsAs text t
rules_have_reading text rules spells (inl apart) = (Ok rules, (spells, apart))
rules_have_reading text rules spells (inr (offset, repeats)) =
    (Err (text_fault_at flaws.DuplicateRule offset), inr (record { rules = rules; spells = spells; repeats = repeats }))

tokens_have_reading : (text : List ℕ) (ts : List Terminal) → Lexes text ts
    → ((rules : List Rule) × SpellsWithin MAX_NESTING MAX_CHAIN ts rules) ⊎ ((rest : List Terminal) × (IsWrongAt ts rest ⊎ IsTooDeepAt MAX_NESTING MAX_CHAIN ts rest))
    → (t : TextReading) × TextReadsAs text t
tokens_have_reading text ts lexes (inl (rules, spells)) = rules_have_reading text rules (ts, lexes, spells) (named_or_repeated [] rules)
tokens_have_reading text ts lexes (inr (rest, inl wrong)) =
    (Err (text_fault_at flaws.Syntax (first_offset (length text) rest)), inr (record { tokens = ts; rest = rest; lexes = lexes; stands = refl; wrong = wrong }))
tokens_have_reading text ts lexes (inr (rest, inr deep)) =
    (Err (text_fault_at flaws.TooDeep (first_offset (length text) rest)), inr (record { tokens = ts; rest = rest; lexes = lexes; stands = refl; too_deep = deep }))

text_has_reading : SpellsOrIsRefused → (text : List ℕ) → ((ts : List Terminal) × Lexes text ts) ⊎ ((flaw : TextFlaw) × (offset : ℕ) × HasFlaw text flaw offset) → (t : TextReading) × TextReadsAs text t
text_has_reading spells text (inl (ts, lexes)) = tokens_have_reading text ts lexes (spells MAX_NESTING MAX_CHAIN ts)
text_has_reading spells text (inr (flaw, offset, h)) = (Err (text_fault_at flaw offset), inl h)

bytes_have_reading : (b : Bool) (bytes : List ℕ) → (t : TextReading) × TextReadsAs bytes t → (t : TextReading) × BytesReadAs b bytes t
bytes_have_reading true bytes h = h
bytes_have_reading false bytes h = (Err (text_fault_at flaws.BadCharacter (utf8_valid_len bytes)), refl)

-- all bytes have a reading
pub have_reading : HasTokensOrFault → SpellsOrIsRefused → (bytes : List ℕ) → (t : TextReading) × ReadsAs bytes t
have_reading lexes spells bytes = bytes_have_reading (is_utf8 bytes) bytes (text_has_reading spells bytes (lexes bytes))
