-- Bytes are read in one way, unless they are refused as Syntax or TooDeep.
use Rattle.std.proofs.Common.{◌≡◌, ◌⊎◌, inl, inr, ℕ, Bool, true, false, List, [], ◌∷◌, ◌++◌, Ok, Err, refl, sym, ap, ◌∙◌, subst}
use Rattle.std.specs.Str.{is_utf8}
use Rattle.ocl_tokens.specs.declared.fault.TextFlaw.{TextFlaw}
use Rattle.ocl_tokens.specs.declared.fault.TextFlaw.TheVariants as flaws
use Rattle.ocl_tokens.specs.Terminals.{Terminal}
use Rattle.ocl_tokens.specs.Lexical.{Lexes, HasFlaw}
use Rattle.ocl_tokens.specs.Laws.{HasOneTokenList, HasOneFault, NeverBoth}
use Rattle.ocl_text.specs.declared.rule_text.TheConstants.{MAX_NESTING, MAX_CHAIN}
use Rattle.ocl_text.specs.Tree.{Rule}
use Rattle.ocl_text.specs.Grammar.{SpellsWithin}
use Rattle.ocl_text.specs.RuleText.{TextSpellsWithin, AreNamedApart, NamesDiffer, RepeatsAt, here, later, Agrees, IsWrong, IsTooDeep}
use Rattle.ocl_text.specs.Laws.{SpellsOneList}
use Rattle.ocl_pipeline.specs.TextReading.{TextReading, text_fault_at, HasRuleFlaw, TextReadsAs, BytesReadAs, ReadsAs}
use Rattle.ocl_pipeline.specs.ReadingLaws.{is_loose}

-- ---- what a reading of a text is

abbrev Spelled : List ℕ → List Rule → Type 0
Spelled text rules = TextSpellsWithin MAX_NESTING MAX_CHAIN text rules

-- rules whose names differ; a flaw of the tokens; tokens that spell no rules within the limits; or rules of which one
-- repeats a name
data Stands (text : List ℕ) : TextReading → Type 0 where
  spelled : (rules : List Rule) → Spelled text rules → NamesDiffer rules → Stands text (Ok rules)
  flawed : (flaw : TextFlaw) (offset : ℕ) → HasFlaw text flaw offset → Stands text (Err (text_fault_at flaw offset))
  unspelled : (t : TextReading) (ts : List Terminal) → Lexes text ts → ((rules : List Rule) → Spelled text rules → ⊥) → is_loose t ≡ true → Stands text t
  repeated : (rules : List Rule) (offset : ℕ) → Spelled text rules → RepeatsAt [] rules offset → Stands text (Err (text_fault_at flaws.DuplicateRule offset))

agrees_with_itself : (ts : List Terminal) → Agrees ts ts
agrees_with_itself [] = refl
agrees_with_itself (t ∷ ts) = (ts, refl)

module _ (one_list : HasOneTokenList) (one_flaw : HasOneFault) (never_both : NeverBoth) (one_spelling : SpellsOneList) (text : List ℕ) where
  wrong_spells_none : (offset : ℕ) → IsWrong text offset → (rules : List Rule) → Spelled text rules → ⊥
  wrong_spells_none offset w rules s =
      let same : s.0 ≡ w.wrong.before ++ w.rest = one_list text s.0 w.tokens s.1 w.lexes ∙ w.wrong.split in
      w.wrong.cannot w.rest rules (agrees_with_itself w.rest) (MAX_NESTING, MAX_CHAIN, subst (λ (ts : List Terminal). SpellsWithin MAX_NESTING MAX_CHAIN ts rules) same s.2)

  deep_spells_none : (offset : ℕ) → IsTooDeep MAX_NESTING MAX_CHAIN text offset → (rules : List Rule) → Spelled text rules → ⊥
  deep_spells_none offset d rules s =
      let same : s.0 ≡ d.too_deep.before ++ d.too_deep.first ∷ d.too_deep.after =
      one_list text s.0 d.tokens s.1 d.lexes ∙ d.too_deep.split ∙ ap (λ (ts : List Terminal). d.too_deep.before ++ ts) d.too_deep.is in
      d.too_deep.cannot d.too_deep.after rules (subst (λ (ts : List Terminal). SpellsWithin MAX_NESTING MAX_CHAIN ts rules) same s.2)

  flaw_stands : (flaw : TextFlaw) (offset : ℕ) → HasRuleFlaw text flaw offset → Stands text (Err (text_fault_at flaw offset))
  flaw_stands flaws.Syntax offset h = unspelled (Err (text_fault_at flaws.Syntax offset)) h.tokens h.lexes (wrong_spells_none offset h) refl
  flaw_stands flaws.TooDeep offset h = unspelled (Err (text_fault_at flaws.TooDeep offset)) h.tokens h.lexes (deep_spells_none offset h) refl
  flaw_stands flaws.DuplicateRule offset h = repeated h.rules offset h.spells h.repeats
  flaw_stands flaws.BadCharacter offset h = absurd h
  flaw_stands flaws.OpenString offset h = absurd h
  flaw_stands flaws.BadEscape offset h = absurd h
  flaw_stands flaws.NumberTooLarge offset h = absurd h
  flaw_stands flaws.OpenComment offset h = absurd h

  reading_stands : (t : TextReading) → TextReadsAs text t → Stands text t
  reading_stands (Ok rules) (spells, names) = spelled rules spells names
  reading_stands (Err f) (inl h) = flawed f.flaw f.offset h
  reading_stands (Err f) (inr h) = flaw_stands f.flaw f.offset h

  -- ---- two readings

  same_rules : (some others : List Rule) → Spelled text some → Spelled text others → some ≡ others
  same_rules some others s o =
      one_spelling s.0 some others (MAX_NESTING, MAX_CHAIN, s.2)
      (MAX_NESTING, MAX_CHAIN, subst (λ (ts : List Terminal). SpellsWithin MAX_NESTING MAX_CHAIN ts others) (one_list text o.0 s.0 o.1 s.1) o.2)

  apart_repeats_none : (before rs : List Rule) (offset : ℕ) → AreNamedApart before rs → RepeatsAt before rs offset → ⊥
  apart_repeats_none before [] offset apart repeats = elim repeats [ ]
  apart_repeats_none before (r ∷ rs) offset apart (here has) = let differs = apart.0 in cc
  apart_repeats_none before (r ∷ rs) offset apart (later has more) = apart_repeats_none (before ++ r ∷ []) rs offset apart.1 more

  one_repeat : (before rs : List Rule) (m n : ℕ) → RepeatsAt before rs m → RepeatsAt before rs n → m ≡ n
  one_repeat before [] m n some others = elim some [ ]
  one_repeat before (r ∷ rs) m n (here has) (here also) = refl
  one_repeat before (r ∷ rs) m n (here has) (later also more) = cc
  one_repeat before (r ∷ rs) m n (later has more) (here also) = cc
  one_repeat before (r ∷ rs) m n (later has more) (later also others) = one_repeat (before ++ r ∷ []) rs m n more others

  abbrev refused_as : TextFlaw → ℕ → TextReading
  refused_as f n = Err (text_fault_at f n)

  same_fault : (f g : TextFlaw) (m n : ℕ) → f ≡ g → m ≡ n → refused_as f m ≡ refused_as g n
  same_fault f g m n e h = rw (e, h) refl

  stand_together : (t u : TextReading) → Stands text t → Stands text u → ((is_loose t ≡ true) × (is_loose u ≡ true)) ⊎ (t ≡ u)
  stand_together t u (spelled rs s names) (spelled os o apart) = inr (ap Ok (same_rules rs os s o))
  stand_together t u (spelled rs s names) (flawed f m h) = absurd (never_both text s.0 f m s.1 h)
  stand_together t u (spelled rs s names) (unspelled v ts lexes none loose) = absurd (none rs s)
  stand_together t u (spelled rs s names) (repeated os n o repeats) = absurd (apart_repeats_none [] os n (subst NamesDiffer (same_rules rs os s o) names) repeats)
  stand_together t u (flawed f m h) (spelled os o apart) = absurd (never_both text o.0 f m o.1 h)
  stand_together t u (flawed f m h) (flawed g n i) = let e = one_flaw text f g m n h i in inr (same_fault f g m n e.0 e.1)
  stand_together t u (flawed f m h) (unspelled v ts lexes none loose) = absurd (never_both text ts f m lexes h)
  stand_together t u (flawed f m h) (repeated os n o repeats) = absurd (never_both text o.0 f m o.1 h)
  stand_together t u (unspelled w ts lexes none loose) (spelled os o apart) = absurd (none os o)
  stand_together t u (unspelled w ts lexes none loose) (flawed g n i) = absurd (never_both text ts g n lexes i)
  stand_together t u (unspelled w ts lexes none loose) (unspelled v us others nothing also) = inl (loose, also)
  stand_together t u (unspelled w ts lexes none loose) (repeated os n o repeats) = absurd (none os o)
  stand_together t u (repeated rs m s repeats) (spelled os o apart) = absurd (apart_repeats_none [] rs m (subst NamesDiffer (same_rules os rs o s) apart) repeats)
  stand_together t u (repeated rs m s repeats) (flawed g n i) = absurd (never_both text s.0 g n s.1 i)
  stand_together t u (repeated rs m s repeats) (unspelled v ts lexes none loose) = absurd (none rs s)
  stand_together t u (repeated rs m s repeats) (repeated os n o also) =
      let e = one_repeat [] os m n (subst (λ (l : List Rule). RepeatsAt [] l m) (same_rules rs os s o) repeats) also in
      inr (same_fault flaws.DuplicateRule flaws.DuplicateRule m n refl e)

  bytes_read_alike : (b : Bool) (t u : TextReading) → BytesReadAs b text t → BytesReadAs b text u → ((is_loose t ≡ true) × (is_loose u ≡ true)) ⊎ (t ≡ u)
  bytes_read_alike true t u h i = stand_together t u (reading_stands t h) (reading_stands u i)
  bytes_read_alike false t u h i = inr (h ∙ sym i)

  -- two readings of the same bytes are equal, or both are faults whose place the grammar leaves open
  pub read_alike : (t u : TextReading) → ReadsAs text t → ReadsAs text u → ((is_loose t ≡ true) × (is_loose u ≡ true)) ⊎ (t ≡ u)
  read_alike t u h i = bytes_read_alike (is_utf8 text) t u h i
