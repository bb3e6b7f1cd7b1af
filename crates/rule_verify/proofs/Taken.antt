-- What instructions take.
use Rattle.std.proofs.Common.{◌≡◌, ℕ, zero, suc, ◌+◌, ◌-◌, ◌<◌, ◌≤◌, true, false, ◌&&◌, List, [], ◌∷◌, length, get_or, drop, refl, sym, ap, ◌∙◌, subst, arith}
use Rattle.std.proofs.lemmas.List.{drop_more, drop_all}
use Rattle.imkl_model.specs.ClassModel.{Model}
use Rattle.ocl_kinds.specs.declared.kind.Kind.{Kind}
use Rattle.ocl_kinds.specs.Kinds.{IsKindOf}
use Rattle.rule_verify.specs.declared.pattern.Pattern.{Pattern}
use Rattle.rule_verify.specs.Patterns.{matches, are_there, all_match, below, IsPatternOf, ArePatterns}
use Rattle.rule_verify.specs.Known.{AreKnownKinds}
use Rattle.ocl_base.specs.declared.collection_kind.CollectionKind.{CollectionKind}
use Rattle.rule_code.specs.declared.kind.WrittenScalar.{WrittenScalar}
use Rattle.rule_code.specs.declared.kind.WrittenKind.{WrittenKind}
use Rattle.rule_code.specs.declared.symbol.SymbolNumber.{SymbolNumber}
use Rattle.rule_code.specs.declared.instruction.Instr.{Instr}
use Rattle.rule_code.specs.declared.instruction.Instr.TheVariants.{Attr, AsColl, Eq, Includes, Count, IncAll, ExcAll, AsSet}
use Rattle.rule_verify.specs.CodeTree.{block_of}
use Rattle.rule_verify.specs.InstrKinds.{Surroundings, operands_of, fixed_operands, block_takes}

-- a block, or an instruction whose operands depend on none of its fields
pub others_take : (s : Surroundings) (i : Instr) → ((a : SymbolNumber) → i ≡ Attr a → ⊥) → ((c : CollectionKind) (k : WrittenScalar) → i ≡ AsColl c k → ⊥) → ((k : WrittenKind) → i ≡ Eq k → ⊥) → ((k : WrittenScalar) → i ≡ Includes k → ⊥) → ((k : WrittenScalar) → i ≡ Count k → ⊥)
    → ((k : WrittenScalar) → i ≡ IncAll k → ⊥) → ((k : WrittenScalar) → i ≡ ExcAll k → ⊥) → ((k : WrittenScalar) → i ≡ AsSet k → ⊥) → block_takes s (block_of i) (fixed_operands i) ≡ operands_of s i
others_take s (Attr a) h1 h2 h3 h4 h5 h6 h7 h8 = absurd (h1 a refl)
others_take s (AsColl c k) h1 h2 h3 h4 h5 h6 h7 h8 = absurd (h2 c k refl)
others_take s (Eq k) h1 h2 h3 h4 h5 h6 h7 h8 = absurd (h3 k refl)
others_take s (Includes k) h1 h2 h3 h4 h5 h6 h7 h8 = absurd (h4 k refl)
others_take s (Count k) h1 h2 h3 h4 h5 h6 h7 h8 = absurd (h5 k refl)
others_take s (IncAll k) h1 h2 h3 h4 h5 h6 h7 h8 = absurd (h6 k refl)
others_take s (ExcAll k) h1 h2 h3 h4 h5 h6 h7 h8 = absurd (h7 k refl)
others_take s (AsSet k) h1 h2 h3 h4 h5 h6 h7 h8 = absurd (h8 k refl)
others_take s i h1 h2 h3 h4 h5 h6 h7 h8 = refl

-- ---- operands that are taken one by one

-- as many operands as are wanted are all there
pub enough : (ws : List Pattern) (ks : List Kind) → length ws ≤ length ks → are_there ws ks ≡ true
enough [] ks le = refl
enough (w ∷ ws) [] le = absurd (omega arith)
enough (w ∷ ws) (k ∷ ks) le = enough ws ks (omega arith)

-- after i of the operands
pub record Taking (m : Model) (ws : List Pattern) (old : List Kind) (i : ℕ) (ks : List Kind) : Type 0 where
  pub all_there : are_there ws old ≡ true
  pub there : are_there (drop i ws) ks ≡ true
  pub fit_is : all_match m ws old ≡ all_match m (drop i ws) ks
  pub past_is : below ws old ≡ below (drop i ws) ks
  pub known : AreKnownKinds m ks

-- before the first operand is taken
pub begins : (m : Model) (ws : List Pattern) (ks : List Kind) → AreKnownKinds m ks → are_there ws ks ≡ true → Taking m ws ks 0 ks
begins m ws ks known h = record { all_there = h; there = h; fit_is = refl; past_is = refl; known = known }

-- where all operands are of known kinds, so is the topmost, and so are those below it
pub top_known : (m : Model) (ks : List Kind) (k : Kind) (rest : List Kind) → ks ≡ k ∷ rest → AreKnownKinds m ks → IsKindOf m k × AreKnownKinds m rest
top_known m ks k rest e h = let P : List Kind → Type 0 = λ l. AreKnownKinds m l in subst P e h

-- each pattern of a list is known where all of them are
pub known_at : (m : Model) (ws : List Pattern) (i : ℕ) (w : Pattern) → ArePatterns m ws → i < length ws → w ≡ get_or ws i w → IsPatternOf m w
known_at m [] i w h lt e = absurd (omega arith)
known_at m (v ∷ ws) zero w h lt e = subst (IsPatternOf m) (sym e) h.0
known_at m (v ∷ ws) (suc i) w h lt e = known_at m ws i w h.1 (omega arith) e

-- one operand more is taken: the topmost one matches the next pattern
pub one_more : (m : Model) (ws : List Pattern) (old : List Kind) (i : ℕ) (ks : List Kind) (d : Pattern) (k : Kind) (rest : List Kind) → Taking m ws old i ks → i < length ws → ks ≡ k ∷ rest → matches m (get_or ws i d) k ≡ true → Taking m ws old (i + 1) rest
one_more m ws old i ks d k rest t lt e f =
    let w = get_or ws i d in let dr = drop_more ws i d lt in
    record {
      all_there = t.all_there;
      there = sym (ap (λ (l : List Pattern). are_there l ks) dr ∙ ap (are_there (w ∷ drop (i + 1) ws)) e) ∙ t.there;
      fit_is = t.fit_is ∙ ap (λ l. all_match m l ks) dr ∙ ap (all_match m (w ∷ drop (i + 1) ws)) e ∙ ap (λ b. b && all_match m (drop (i + 1) ws) rest) f;
      past_is = t.past_is ∙ ap (λ l. below l ks) dr ∙ ap (below (w ∷ drop (i + 1) ws)) e;
      known = (top_known m ks k rest e t.known).1;
    }

-- no operand is left where one is still wanted: they were not all there
pub none_left : (m : Model) (ws : List Pattern) (old : List Kind) (i : ℕ) (ks : List Kind) → Taking m ws old i ks → i < length ws → ks ≡ [] → are_there ws old ≡ false
none_left m ws old i ks t lt e = by_list ws i lt (sym (ap (are_there (drop i ws)) e) ∙ t.there)
  where
    by_list : (vs : List Pattern) (j : ℕ) → j < length vs → are_there (drop j vs) [] ≡ true → are_there ws old ≡ false
    by_list [] j lt h = absurd (omega arith)
    by_list (v ∷ vs) zero lt h = cc
    by_list (v ∷ vs) (suc j) lt h = by_list vs j (omega arith) h

-- when all patterns are done, the operands match them, and what is left lies below them
pub all_taken : (m : Model) (ws : List Pattern) (old : List Kind) (i : ℕ) (ks : List Kind) → Taking m ws old i ks → length ws ≤ i → (all_match m ws old ≡ true) × (ks ≡ below ws old)
all_taken m ws old i ks t le =
    let d = drop_all i ws le in (t.fit_is ∙ ap (λ l. all_match m l ks) d, sym (t.past_is ∙ ap (λ l. below l ks) d))
