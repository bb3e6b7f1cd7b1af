-- The unit of typed rules that pass no limit satisfies the conditions of the format.
use Rattle.std.proofs.Common.{◌≡◌, ℕ, ◌<◌, ◌≤◌, ◌||◌, Bool, true, false, List, [], ◌∷◌, ◌++◌, map, length, Option, Some, None, refl, sym, ap, ◌∙◌, subst, arith, length-append, append_assoc, append-nil, bytes_eq, if◌then◌else◌}
use Rattle.std.specs.Prelude.{nat_lt}
use Rattle.std.specs.Str.{is_utf8}
use Rattle.std.specs.List.{AllByRecursion, list_any}
use Rattle.std.proofs.lemmas.Bool.{ltb-false, leb-false}
use Rattle.std.proofs.lemmas.List.{length-map}
use Rattle.std.proofs.lemmas.Slice.Eq.{bytes_eq-Decides}
use Rattle.ocl_base.proofs.ForAbove.{all_joined}
use Rattle.ocl_base.specs.Lists.{is_among, repeats}
use Rattle.ocl_base.specs.Words.{is_name}
use Rattle.imkl_model.specs.ClassModel.{Model, class_at, enumeration_at, feature_at}
use Rattle.ocl_core.specs.Core.{CheckedRule}
use Rattle.ocl_core.specs.Typing.{IsTypedRule}
use Rattle.rule_code.specs.Content.{Content, RuleContent, text_at, names_of}
use Rattle.rule_code.specs.declared.limits.TheConstants.{MAX_RULES, MAX_TEXT_BYTES}
use Rattle.ocl_compile.specs.declared.limits.TheConstants.{MAX_COUNTED}
use Rattle.rule_code.specs.WellFormed.{IsTextOfUnit, SymbolFits, EachFits, RuleFits, IsUnit}
use Rattle.rule_verify.specs.declared.named.Named.{Named}
use Rattle.rule_verify.specs.declared.named.Named.TheVariants as named
use Rattle.rule_verify.specs.CodeTree.{End, instr_count}
use Rattle.ocl_compile.specs.declared.fault.Limit.{Limit}
use Rattle.ocl_compile.specs.Numbering.{same_named, literal_name, names_of_symbol, Use, UsedText, UsedSymbol, rule_uses, rules_uses, Numbering, no_numbers, once_more, with_texts, with_use, with_uses, numbering_of}
use Rattle.ocl_compile.specs.Translation.{rule_tree, translate_rule, translate_symbol, translate_rules}
use Rattle.ocl_compile.specs.Compiling.{is_long_text, texts_of_use, has_long_text, numbering_so_far, is_too_large, limit_passed, first_passed, compiled_tree}
use Rattle.ocl_compile.specs.Written.{IsWrittenRule}
use Rattle.ocl_compile.proofs.Added.{or_parts}
use Rattle.ocl_compile.proofs.Flat.{flat_count, translated_cut}
use Rattle.ocl_compile.proofs.Resolving.{HasText, Has, Grows, all_texts, has_uses, texts_added, grows_by_use, text_stands}
use Rattle.ocl_compile.proofs.CodeFits.{first_all, rest_all, text_within, symbol_within, tree_fits}
use Rattle.ocl_compile.proofs.CompiledUnits.{none_later}
use Rattle.ocl_compile.proofs.Versions.{HasInstrs, version_has}

-- ---- what no limit says

-- a rule that isn't too large
pub record IsRoomy (m : Model) (all before : List CheckedRule) (r : CheckedRule) : Type 0 where
  pub rules : length before < MAX_RULES
  pub texts : length (numbering_so_far m before r).texts ≤ MAX_COUNTED
  pub symbols : length (numbering_so_far m before r).symbols ≤ MAX_COUNTED
  pub short : has_long_text m (rule_uses m r) ≡ false
  pub code : instr_count (compiled_tree m all r) ≤ MAX_COUNTED

-- each rule that isn't is so
pub is_roomy_rule : (m : Model) (all before : List CheckedRule) (r : CheckedRule) → is_too_large m all before r ≡ false → IsRoomy m all before r
is_roomy_rule m all before r h =
    let d = or_parts _ (nat_lt MAX_COUNTED (instr_count (compiled_tree m all r))) h in
    let c = or_parts _ (has_long_text m (rule_uses m r)) d.0 in
    let b = or_parts _ (nat_lt MAX_COUNTED (length (numbering_so_far m before r).symbols)) c.0 in
    let a = or_parts _ (nat_lt MAX_COUNTED (length (numbering_so_far m before r).texts)) b.0 in
    record {
      rules = leb-false MAX_RULES (length before) a.0;
      texts = ltb-false MAX_COUNTED (length (numbering_so_far m before r).texts) a.1;
      symbols = ltb-false MAX_COUNTED (length (numbering_so_far m before r).symbols) b.1;
      short = c.1;
      code = ltb-false MAX_COUNTED (instr_count (compiled_tree m all r)) d.1;
    }

-- as is each that passes no limit
pub is_roomy : (m : Model) (all before : List CheckedRule) (r : CheckedRule) → limit_passed m all before r ≡ None → IsRoomy m all before r
is_roomy m all before r e = is_roomy_rule m all before r (not_first (is_too_large m all before r) _ _ e)
  where
    not_first : (b : Bool) (l : Limit) (o : Option Limit) → (if b then Some l else o) ≡ None → b ≡ false
    not_first true l o e = cc
    not_first false l o e = refl

-- rules of which none passes a limit have room for their texts and symbols
pub record HasRoom (m : Model) (rs : List CheckedRule) : Type 0 where
  pub rules : length rs ≤ MAX_RULES
  pub texts : length (numbering_of m rs).texts ≤ MAX_COUNTED
  pub symbols : length (numbering_of m rs).symbols ≤ MAX_COUNTED

-- rules that pass no limit have such room, after others that have it
pub has_room : (m : Model) (all before rs : List CheckedRule) → first_passed m all before rs ≡ None → HasRoom m before → HasRoom m (before ++ rs)
has_room m all before [] e h = subst (HasRoom m) (sym (append-nil before)) h
has_room m all before (r ∷ rs) e h =
    let p = none_later (length before) (limit_passed m all before r) (first_passed m all (before ++ r ∷ []) rs) e in
    let q = is_roomy m all before r p.0 in
    let here : HasRoom m (before ++ r ∷ []) = record { rules = omega (arith, length-append before (r ∷ []), q.rules); texts = q.texts; symbols = q.symbols } in
    subst (HasRoom m) (append_assoc before (r ∷ []) rs) (has_room m all (before ++ r ∷ []) rs p.1 here)

-- ---- the texts

-- what holds of all holds of all with one added
pub once_more_all : {A : Type 0} (P : A → Type 0) (same : A → A → Bool) (xs : List A) (x : A) → AllByRecursion P xs → P x → AllByRecursion P (once_more same xs x)
once_more_all P same xs x h g = by_test (is_among same xs x)
  where
    by_test : (b : Bool) → AllByRecursion P (if b then xs else xs ++ x ∷ [])
    by_test true = h
    by_test false = all_joined P xs (x ∷ []) h (g, tt)

with_texts_all : (P : List ℕ → Type 0) (texts ts : List (List ℕ)) → AllByRecursion P texts → AllByRecursion P ts → AllByRecursion P (with_texts texts ts)
with_texts_all P texts [] h g = h
with_texts_all P texts (t ∷ ts) h g = with_texts_all P (once_more bytes_eq texts t) ts (once_more_all P bytes_eq texts t h g.0) g.1

abbrev IsShort : List ℕ → Type 0
IsShort t = length t ≤ MAX_TEXT_BYTES

texts_short : (ts : List (List ℕ)) → list_any is_long_text ts ≡ false → AllByRecursion IsShort ts
texts_short [] e = tt
texts_short (t ∷ ts) e =
    let p = or_parts (is_long_text t) (list_any is_long_text ts) e in
    (ltb-false MAX_TEXT_BYTES (length t) p.0, texts_short ts p.1)

use_short : (m : Model) (n : Numbering) (u : Use) → AllByRecursion IsShort n.texts → AllByRecursion IsShort (texts_of_use m u) → AllByRecursion IsShort (with_use m n u).texts
use_short m n (UsedText t) h g = with_texts_all IsShort n.texts (t ∷ []) h g
use_short m n (UsedSymbol x) h g = with_texts_all IsShort n.texts (names_of_symbol m x) h g

uses_short : (m : Model) (n : Numbering) (us : List Use) → AllByRecursion IsShort n.texts → has_long_text m us ≡ false → AllByRecursion IsShort (with_uses m n us).texts
uses_short m n [] h e = h
uses_short m n (u ∷ us) h e =
    let p = or_parts (list_any is_long_text (texts_of_use m u)) (has_long_text m us) e in
    uses_short m (with_use m n u) us (use_short m n u h (texts_short (texts_of_use m u) p.0)) p.1

-- no text of several rules is long
has_long_both : (m : Model) (us vs : List Use) → has_long_text m us ≡ false → has_long_text m vs ≡ false → has_long_text m (us ++ vs) ≡ false
has_long_both m [] vs h g = g
has_long_both m (u ∷ us) vs h g =
    let p = or_parts (list_any is_long_text (texts_of_use m u)) (has_long_text m us) h in
    ap (λ (b : Bool). b || has_long_text m (us ++ vs)) p.0 ∙ has_long_both m us vs p.1 g

rules_short : (m : Model) (all before rs : List CheckedRule) → first_passed m all before rs ≡ None → has_long_text m (rules_uses m rs) ≡ false
rules_short m all before [] e = refl
rules_short m all before (r ∷ rs) e =
    let p = none_later (length before) (limit_passed m all before r) (first_passed m all (before ++ r ∷ []) rs) e in
    has_long_both m (rule_uses m r) (rules_uses m rs) (is_roomy m all before r p.0).short (rules_short m all (before ++ r ∷ []) rs p.1)

texts_of_unit : (ts : List (List ℕ)) → AllByRecursion IsShort ts → AllByRecursion (λ t. is_utf8 t ≡ true) ts → AllByRecursion IsTextOfUnit ts
texts_of_unit [] h g = tt
texts_of_unit (t ∷ ts) h g = ((h.0, g.0), texts_of_unit ts h.1 g.1)

-- ---- the symbols

-- the names of a symbol are among the texts
abbrev HasNames : Model → Numbering → Named → Type 0
HasNames m n x = AllByRecursion (HasText n) (names_of_symbol m x)

names_kept : (m : Model) (n o : Numbering) → Grows n o → (xs : List Named) → AllByRecursion (HasNames m n) xs → AllByRecursion (HasNames m o) xs
names_kept m n o g [] h = tt
names_kept m n o g (x ∷ xs) h = (all_texts n o g (names_of_symbol m x) h.0, names_kept m n o g xs h.1)

use_named : (m : Model) (n : Numbering) (u : Use) → AllByRecursion (HasNames m n) n.symbols → AllByRecursion (HasNames m (with_use m n u)) (with_use m n u).symbols
use_named m n (UsedText t) h = names_kept m n (with_use m n (UsedText t)) (grows_by_use m n (UsedText t)) n.symbols h
use_named m n (UsedSymbol x) h =
    once_more_all (HasNames m (with_use m n (UsedSymbol x))) same_named n.symbols x (names_kept m n (with_use m n (UsedSymbol x)) (grows_by_use m n (UsedSymbol x)) n.symbols h)
    (texts_added (once_more same_named n.symbols x) n.texts (names_of_symbol m x))

uses_named : (m : Model) (n : Numbering) (us : List Use) → AllByRecursion (HasNames m n) n.symbols → AllByRecursion (HasNames m (with_uses m n us)) (with_uses m n us).symbols
uses_named m n [] h = h
uses_named m n (u ∷ us) h = uses_named m (with_use m n u) us (use_named m n u h)

symbol_fits : (m : Model) (n : Numbering) (x : Named) → HasNames m n x → SymbolFits (length n.texts) (translate_symbol m n x)
symbol_fits m n (named.Class c) h = text_within m n (class_at m c).name h.0
symbol_fits m n (named.Enumeration e) h = text_within m n (enumeration_at m e).name h.0
symbol_fits m n (named.Feature c f) h = (text_within m n (class_at m c).name h.0, text_within m n (feature_at m f).name h.1.0)
symbol_fits m n (named.Literal e l) h = (text_within m n (enumeration_at m e).name h.0, text_within m n (literal_name m e l) h.1.0)

symbols_fit : (m : Model) (n : Numbering) (xs : List Named) → AllByRecursion (HasNames m n) xs → AllByRecursion (SymbolFits (length n.texts)) (map (translate_symbol m n) xs)
symbols_fit m n [] h = tt
symbols_fit m n (x ∷ xs) h = (symbol_fits m n x h.0, symbols_fit m n xs h.1)

-- ---- the rules

not_apart : (a b : List ℕ) → bytes_eq a b ≡ false → bytes_eq b a ≡ false
not_apart a b e = by_test (bytes_eq b a) refl
  where
    by_test : (t : Bool) → bytes_eq b a ≡ t → t ≡ false
    by_test false h = refl
    by_test true h = let same : b ≡ a = (bytes_eq-Decides b a).0 h in let bad = (bytes_eq-Decides a b).1 (sym same) in cc

later_apart : (p : List ℕ → Bool) (xs : List (List ℕ)) (y : List ℕ) (ys : List (List ℕ)) → list_any p (xs ++ y ∷ ys) ≡ false → p y ≡ false
later_apart p [] y ys e = (or_parts (p y) (list_any p ys) e).0
later_apart p (x ∷ xs) y ys e = later_apart p xs y ys (or_parts (p x) (list_any p (xs ++ y ∷ ys)) e).1

-- a name of several that differ is none of those before it
is_new_name : (xs : List (List ℕ)) (y : List ℕ) (ys : List (List ℕ)) → repeats bytes_eq (xs ++ y ∷ ys) ≡ false → is_among bytes_eq xs y ≡ false
is_new_name [] y ys e = refl
is_new_name (x ∷ xs) y ys e =
    let p = or_parts (is_among bytes_eq (xs ++ y ∷ ys) x) (repeats bytes_eq (xs ++ y ∷ ys)) e in
    ap (λ (b : Bool). b || is_among bytes_eq xs y) (not_apart x y (later_apart (bytes_eq x) xs y ys p.0)) ∙ is_new_name xs y ys p.1

map-append : {A B : Type 0} (f : A → B) (xs ys : List A) → map f (xs ++ ys) ≡ map f xs ++ map f ys
map-append f [] ys = refl
map-append f (x ∷ xs) ys = ap (λ l. f x ∷ l) (map-append f xs ys)

abbrev rule_name : CheckedRule → List ℕ
rule_name r = r.name

module _ (m : Model) (all : List CheckedRule) where
  abbrev n : Numbering
  n = numbering_of m all

  abbrev to : CheckedRule → RuleContent
  to = translate_rule m n

  abbrev u : Content
  u = translate_rules m all

  names_are : (rs : List CheckedRule) → AllByRecursion (Has m n) (rules_uses m rs) → names_of n.texts (map to rs) ≡ map rule_name rs
  names_are [] h = refl
  names_are (r ∷ rs) h =
      ap (λ t. t ∷ names_of n.texts (map to rs)) (text_stands n r.name h.0) ∙ ap (λ l. r.name ∷ l) (names_are rs (rest_all (Has m n) (rule_uses m r) (rules_uses m rs) h))

  rule_fits : (before : List CheckedRule) (r : CheckedRule) (rs : List CheckedRule) → IsTypedRule m r → IsWrittenRule r → AllByRecursion (Has m n) (rule_uses m r) → limit_passed m all before r ≡ None → repeats bytes_eq (map rule_name before ++ r.name ∷ map rule_name rs) ≡ false → names_of n.texts (map to before) ≡ map rule_name before
      → HasInstrs u.version (to r) → RuleFits u.version n.texts u.symbols (map to before) (to r)
  rule_fits before r rs typed written h none apart named_before instrs =
      let q = is_roomy m all before r none in
      let name_is = text_stands n r.name h.0 in
      let t = rule_tree m n r in
      record {
        name = text_within m n r.name h.0;
        is_name = ap is_name name_is ∙ written.0;
        is_new = ap (λ (x : List ℕ). is_among bytes_eq (names_of n.texts (map to before)) x) name_is ∙ ap (λ (l : List (List ℕ)). is_among bytes_eq l r.name) named_before ∙ is_new_name (map rule_name before) r.name (map rule_name rs) apart;
        context = symbol_within m n (named.Class r.context) h.1.0;
        len = omega (arith, q.code, flat_count t (translated_cut m n r.tree End tt));
        code = tree_fits m n r.tree _ typed.1.0 typed.1.1 h.1.1 written.1 End (omega (arith, q.code)) (λ _. tt);
        instrs = instrs;
      }

  rules_fit : (before rs : List CheckedRule) → AllByRecursion (IsTypedRule m) rs → AllByRecursion IsWrittenRule rs → AllByRecursion (Has m n) (rules_uses m rs) → first_passed m all before rs ≡ None → repeats bytes_eq (map rule_name before ++ map rule_name rs) ≡ false → names_of n.texts (map to before) ≡ map rule_name before
      → AllByRecursion (HasInstrs u.version) (map to rs) → EachFits (RuleFits u.version n.texts u.symbols) (map to before) (map to rs)
  rules_fit before [] typed written h none apart named_before instrs = tt
  rules_fit before (r ∷ rs) typed written h none apart named_before instrs =
      let p = none_later (length before) (limit_passed m all before r) (first_passed m all (before ++ r ∷ []) rs) none in
      let here = first_all (Has m n) (rule_uses m r) (rules_uses m rs) h in
      let later = rest_all (Has m n) (rule_uses m r) (rules_uses m rs) h in
      let names : names_of n.texts (map to (before ++ r ∷ [])) ≡ map rule_name (before ++ r ∷ []) =
      ap (names_of n.texts) (map-append to before (r ∷ []))
      ∙ map-append (λ (x : RuleContent). text_at n.texts x.name) (map to before) (to r ∷ [])
      ∙ ap (λ (l : List (List ℕ)). l ++ text_at n.texts (to r).name ∷ []) named_before
      ∙ ap (λ (t : List ℕ). map rule_name before ++ t ∷ []) (text_stands n r.name here.0)
      ∙ sym (map-append rule_name before (r ∷ [])) in
      let apart_later : repeats bytes_eq (map rule_name (before ++ r ∷ []) ++ map rule_name rs) ≡ false =
      ap (λ (l : List (List ℕ)). repeats bytes_eq (l ++ map rule_name rs)) (map-append rule_name before (r ∷ []))
      ∙ ap (repeats bytes_eq) (append_assoc (map rule_name before) (r.name ∷ []) (map rule_name rs)) ∙ apart in (
        rule_fits before r rs typed.0 written.0 here p.0 apart named_before instrs.0,
        subst (λ (l : List RuleContent). EachFits (RuleFits u.version n.texts u.symbols) l (map to rs)) (map-append to before (r ∷ []))
            (rules_fit (before ++ r ∷ []) rs typed.1 written.1 later p.1 apart_later names instrs.1),
      )

-- typed rules with names that differ, which pass no limit, are a unit
pub unit_fits : (m : Model) (rs : List CheckedRule) → AllByRecursion (IsTypedRule m) rs → AllByRecursion IsWrittenRule rs → repeats bytes_eq (map (λ r. r.name) rs) ≡ false → AllByRecursion (λ t. is_utf8 t ≡ true) (numbering_of m rs).texts → first_passed m rs [] rs ≡ None → IsUnit (translate_rules m rs)
unit_fits m rs typed written apart utf8 none =
    let n = numbering_of m rs in
    let room = has_room m rs [] rs none (record { rules = omega arith; texts = omega arith; symbols = omega arith }) in
    let has = has_uses m no_numbers (rules_uses m rs) in
    record {
      text_count = omega (arith, room.texts);
      texts = texts_of_unit n.texts (uses_short m no_numbers (rules_uses m rs) tt (rules_short m rs [] rs none)) utf8;
      symbol_count = omega (arith, room.symbols, length-map n.symbols (translate_symbol m n));
      symbols = symbols_fit m n n.symbols (uses_named m no_numbers (rules_uses m rs) tt);
      rule_count = omega (arith, room.rules, length-map rs (translate_rule m n));
      rules = rules_fit m rs [] rs typed written has none apart refl (version_has (map (translate_rule m n) rs));
    }
