-- Objects are told apart from other values by their texts: by how they begin, by words that are reserved, by a colon, by a
-- parenthesis and by a space.
use Rattle.std.proofs.Common.{◌≡◌, ℕ, ◌≤◌, ◌==◌, ◌&&◌, ◌||◌, ◌⊎◌, inl, inr, Bool, true, false, not, List, [], ◌∷◌, ◌++◌, slice_index_or, ℤ, pos, negsuc, Some, None, codes, refl, sym, ap, ◌∙◌, subst, arith, decimal}
use Rattle.std.specs.Prelude.{if◌then◌else◌}
use Rattle.std.specs.Fmt.{signed_decimal}
use Rattle.std.specs.List.{list_all, list_any}
use Rattle.std.specs.Str.Parse.{AllDigits}
use Rattle.std.proofs.lemmas.Fmt.{decimal_is_IsNumeral}
use Rattle.std.proofs.lemmas.Str.Parse.{digit_from_value}
use Rattle.std.proofs.lemmas.Bool.{and_parts, false≢true}
use Rattle.std.proofs.lemmas.Bool.Decides.{eqb_tells, nat_tests}
use Rattle.std.proofs.lemmas.List.{append-nil}
use Rattle.std.proofs.lemmas.List.Folds.{list_any-append}
use Rattle.ocl_base.specs.Words.{is_letter, is_letter_or_digit, begins_with_letter, is_identifier, is_reserved, is_name}
use Rattle.imkl_model.specs.ClassModel.{class_at, enumeration_at}
use Rattle.imkl_model.specs.WellFormed.{IsClassModel, IsModelName}
use Rattle.imkl_model.specs.Words.{is_model_name}
use Rattle.imkl_model.proofs.ForAbove.{has_names}
use Rattle.imkl_population.specs.declared.scalar.Scalar.TheVariants as scalar
use Rattle.imkl_population.specs.Population.{Population, class_of, object_at}
use Rattle.rule_values.specs.Value.{Element}
use Rattle.owned_values.specs.Meant.{IsElementThere}
use Rattle.explain_why.specs.Values.{has_colon, stands_alone, truth_text, is_object_element, element_text}
use Rattle.explain_why.specs.Laws.{IsInRange, ObjectsAreToldApart, IntroducedAreToldApart}
use Rattle.explain_why.proofs.Left.{not_true}

-- ---- names

abbrev has_parenthesis : List ℕ → Bool
has_parenthesis text = list_any (λ b. b == 40) text

abbrev has_space : List ℕ → Bool
has_space text = list_any (λ b. b == 32) text

-- a byte that names don't have is in none
not_in : (c : ℕ) (xs : List ℕ) → is_letter_or_digit c ≡ false → list_all is_letter_or_digit xs ≡ true → list_any (λ b. b == c) xs ≡ false
not_in c [] out h = refl
not_in c (x ∷ xs) out h =
    let parts = and_parts (is_letter_or_digit x) (list_all is_letter_or_digit xs) h in
    elim (eqb_tells x c) [
      | inl same ↦ absurd (false≢true (sym out ∙ ap is_letter_or_digit (sym same.1) ∙ parts.0))
      | inr other ↦ rw other.0 (not_in c xs out parts.1)
    ]

name_parts : (name : List ℕ) → is_name name ≡ true → (begins_with_letter name ≡ true) × (list_all is_letter_or_digit name ≡ true)
unfolding is_name is_identifier
name_parts name h =
    let identifier = (and_parts (begins_with_letter name && list_all is_letter_or_digit name) (not (is_reserved name)) h).0 in
    and_parts (begins_with_letter name) (list_all is_letter_or_digit name) identifier

model_name_parts : (name : List ℕ) → IsModelName name → (begins_with_letter name ≡ true) × (list_all is_letter_or_digit name ≡ true)
unfolding is_model_name
model_name_parts name h = name_parts name (and_parts _ (is_name name) h).1

-- ---- what other values are written as

-- it can't be an id that stands alone
abbrev IsNoId : List ℕ → Type 0
IsNoId text = (begins_with_letter text ≡ false) ⊎ ((is_reserved text ≡ true) ⊎ (has_colon text ≡ true))

-- nor one behind the name of a class
abbrev IsNoCall : List ℕ → Type 0
IsNoCall text = (begins_with_letter text ≡ false) ⊎ (has_parenthesis text ≡ false)

-- nor one with its class behind it
abbrev IsNotIntroduced : List ℕ → Type 0
IsNotIntroduced text = (begins_with_letter text ≡ false) ⊎ (has_space text ≡ false)

abbrev IsOther : List ℕ → Type 0
IsOther text = IsNoId text × (IsNoCall text × IsNotIntroduced text)

digit_no_letter : (d : ℕ) → 48 ≤ d → d ≤ 57 → is_letter d ≡ false
digit_no_letter d low high = grind (arith, nat_tests)

digits_begin : (ds : List ℕ) → AllDigits 10 ds → begins_with_letter ds ≡ false
digits_begin [] h = refl
digits_begin (d ∷ ds) h = let r = digit_from_value d h.0 in digit_no_letter d r.0 r.1

number_begins : (n : ℤ) → IsInRange (Some (scalar.Int n)) → begins_with_letter (signed_decimal n) ≡ false
number_begins (pos n) small = digits_begin (decimal n) (decimal_is_IsNumeral n small).0.1
number_begins (negsuc n) small = refl

null_reserved : is_reserved (codes "null") ≡ true
unfolding is_reserved
null_reserved = refl

truth_reserved : (b : Bool) → is_reserved (truth_text b) ≡ true
unfolding is_reserved
truth_reserved true = refl
truth_reserved false = refl

truth_open : (b : Bool) → has_parenthesis (truth_text b) ≡ false
truth_open true = refl
truth_open false = refl

truth_unspaced : (b : Bool) → has_space (truth_text b) ≡ false
truth_unspaced true = refl
truth_unspaced false = refl

or_true : (b : Bool) → b || true ≡ true
or_true true = refl
or_true false = refl

literal_colon : (name literal : List ℕ) → has_colon (name ++ (58 ∷ 58 ∷ literal)) ≡ true
literal_colon name literal = list_any-append (λ b. b == 58) name (58 ∷ 58 ∷ literal) ∙ or_true (has_colon name)

literal_open : (name literal : List ℕ) → list_all is_letter_or_digit name ≡ true → list_all is_letter_or_digit literal ≡ true → has_parenthesis (name ++ (58 ∷ 58 ∷ literal)) ≡ false
literal_open name literal h k =
    list_any-append (λ b. b == 40) name (58 ∷ 58 ∷ literal) ∙ rw (not_in 40 name refl h, not_in 40 literal refl k) refl

literal_unspaced : (name literal : List ℕ) → list_all is_letter_or_digit name ≡ true → list_all is_letter_or_digit literal ≡ true → has_space (name ++ (58 ∷ 58 ∷ literal)) ≡ false
literal_unspaced name literal h k =
    list_any-append (λ b. b == 32) name (58 ∷ 58 ∷ literal) ∙ rw (not_in 32 name refl h, not_in 32 literal refl k) refl

other_text : (p : Population) (v : Element) → IsClassModel p.model → IsElementThere p v → is_object_element v ≡ false → IsInRange v → IsOther (element_text p v)
other_text p None well there other small = (inr (inl null_reserved), (inr refl, inr refl))
other_text p (Some (scalar.Bool b)) well there other small = (inr (inl (truth_reserved b)), (inr (truth_open b), inr (truth_unspaced b)))
other_text p (Some (scalar.Int n)) well there other small = let begins = number_begins n small in (inl begins, (inl begins, inl begins))
other_text p (Some (scalar.Text t)) well there other small = (inl refl, (inl refl, inl refl))
other_text p (Some (scalar.Literal e l)) well there other small =
    let names = has_names p.model well in
    let name = model_name_parts (enumeration_at p.model e).name (names.enumerations e there.0) in
    let literal = model_name_parts (slice_index_or (enumeration_at p.model e).literals l []) (names.literals e there.0 l there.1) in
    (inr (inr (literal_colon (enumeration_at p.model e).name (slice_index_or (enumeration_at p.model e).literals l []))), (inr (literal_open (enumeration_at p.model e).name (slice_index_or (enumeration_at p.model e).literals l []) name.1 literal.1), inr (literal_unspaced (enumeration_at p.model e).name (slice_index_or (enumeration_at p.model e).literals l []) name.1 literal.1)))
other_text p (Some (scalar.Object o)) well there other small = absurd (false≢true (sym other))

-- ---- objects

alone_parts : (id : List ℕ) → stands_alone id ≡ true → (begins_with_letter id ≡ true) × ((is_reserved id ≡ false) × (has_colon id ≡ false))
alone_parts id h =
    let first = and_parts (begins_with_letter id) (not (is_reserved id) && not (has_colon id)) h in
    let second = and_parts (not (is_reserved id)) (not (has_colon id)) first.1 in
    (first.0, (not_true (is_reserved id) second.0, not_true (has_colon id) second.1))

no_id : (id : List ℕ) → stands_alone id ≡ true → IsNoId id → ⊥
no_id id alone (inl begins) = false≢true (sym begins ∙ (alone_parts id alone).0)
no_id id alone (inr (inl word)) = false≢true (sym (alone_parts id alone).1.0 ∙ word)
no_id id alone (inr (inr colon)) = false≢true (sym (alone_parts id alone).1.1 ∙ colon)

begins_still : (class rest : List ℕ) → begins_with_letter class ≡ true → begins_with_letter (class ++ rest) ≡ true
begins_still [] rest h = absurd (false≢true h)
begins_still (c ∷ cs) rest h = h

no_call : (class rest : List ℕ) → begins_with_letter class ≡ true → IsNoCall (class ++ (40 ∷ rest)) → ⊥
no_call class rest letter (inl begins) = false≢true (sym begins ∙ begins_still class (40 ∷ rest) letter)
no_call class rest letter (inr none) =
    false≢true (sym none ∙ (list_any-append (λ b. b == 40) class (40 ∷ rest) ∙ or_true (has_parenthesis class)))

by_id : (b : Bool) (class id : List ℕ) → stands_alone id ≡ b → begins_with_letter class ≡ true → IsOther (if b then id else (class ++ (40 ∷ (id ++ 41 ∷ [])))) → ⊥
by_id true class id alone letter other = no_id id alone other.0
by_id false class id alone letter other = no_call class (id ++ 41 ∷ []) letter other.1.0

not_introduced : (class id : List ℕ) → begins_with_letter id ≡ true → IsNotIntroduced (id ++ (32 ∷ 58 ∷ 32 ∷ class)) → ⊥
not_introduced class id letter (inl begins) = false≢true (sym begins ∙ begins_still id (32 ∷ 58 ∷ 32 ∷ class) letter)
not_introduced class id letter (inr none) =
    false≢true (sym none ∙ (list_any-append (λ b. b == 32) id (32 ∷ 58 ∷ 32 ∷ class) ∙ or_true (has_space id)))

by_note : (b : Bool) (class id : List ℕ) → stands_alone id ≡ b → begins_with_letter class ≡ true
    → IsOther ((if b then id else (class ++ (40 ∷ (id ++ 41 ∷ [])))) ++ (if b then codes " : " ++ class else [])) → ⊥
by_note true class id alone letter other = not_introduced class id (alone_parts id alone).0 other.1.1
by_note false class id alone letter other =
    no_call class (id ++ 41 ∷ []) letter (subst IsNoCall (append-nil (class ++ (40 ∷ (id ++ 41 ∷ [])))) other.1.0)

pub objects_are_told_apart : ObjectsAreToldApart
objects_are_told_apart p o v consistent well here there other small same =
    let class = (class_at p.model (class_of p o)).name in
    let letter = (model_name_parts class ((has_names p.model well).classes (class_of p o) (consistent.classed o here))).0 in
    by_id (stands_alone (object_at p o).id) class (object_at p o).id refl letter (subst IsOther same (other_text p v well there other small))

pub introduced_are_told_apart : IntroducedAreToldApart
introduced_are_told_apart p o v consistent well here there other small same =
    let class = (class_at p.model (class_of p o)).name in
    let letter = (model_name_parts class ((has_names p.model well).classes (class_of p o) (consistent.classed o here))).0 in
    by_note (stands_alone (object_at p o).id) class (object_at p o).id refl letter (subst IsOther same (other_text p v well there other small))
