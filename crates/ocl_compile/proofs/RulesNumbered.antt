-- Rules are numbered one after another, up to the first that passes a limit.
use Rattle.std.proofs.Common.{◌≡◌, ℕ, ◌+◌, ◌||◌, Bool, true, false, if◌then◌else◌, List, [], ◌∷◌, ◌++◌, length, Option, Some, None, Err, refl, sym, ap, ◌∙◌, subst, append_assoc, append-nil, length-append, bytes_eq}
use Rattle.std.specs.Prelude.{nat_lt}
use Rattle.std.specs.List.{list_any, AllByRecursion}
use Rattle.std.proofs.Math.Bool.{or-false, or_assoc}
use Rattle.ocl_base.specs.Steps.{Means}
use Rattle.imkl_model.specs.ClassModel.{Model}
use Rattle.ocl_core.specs.Core.{CheckedRule}
use Rattle.ocl_core.specs.Typing.{IsTypedRule}
use Rattle.rule_verify.specs.declared.limits.TheConstants.{MAX_BLOCKS, MAX_OPERANDS}
use Rattle.ocl_compile.specs.declared.fault.Limit.{Limit}
use Rattle.ocl_compile.specs.declared.fault.Limit.TheVariants as limits
use Rattle.ocl_compile.specs.Numbering.{Numbering, no_numbers, Use, UsedText, UsedSymbol, names_of_symbol, once_more, with_texts, with_use, with_uses, rule_uses, rules_uses, numbering_of}
use Rattle.ocl_compile.specs.Compiling.{is_long_text, texts_of_use, has_long_text, is_too_large, compiled_depths, limit_passed, LimitAt, limit_at, or_later, first_passed, unless_passed}
use Rattle.ocl_compile.specs.declared.numbers.NumberFault.{NumberFault}
use Rattle.ocl_compile.specs.declared.numbers.NumberFault.TheVariants as faults
use Rattle.ocl_compile.specs.NumberWalk.{AreCounted, FitsUnit, NumbersTo}
use Rattle.ocl_compile.specs.CompileWalk.{number_fault}
use Rattle.ocl_compile.specs.Extents.{extent_of, cut_extent, limit_by}
use Rattle.ocl_compile.proofs.Added.{once_any}
use Rattle.ocl_compile.proofs.Measured.{limit_is}
use Rattle.ocl_compile.proofs.Numbered.{uses_then}
use Rattle.ocl_compile.proofs.UnitFits.{is_roomy, is_roomy_rule}

-- ---- long texts

texts_long : (texts ts : List (List ℕ)) → list_any is_long_text (with_texts texts ts) ≡ (list_any is_long_text texts || list_any is_long_text ts)
texts_long texts [] = sym (or-false (list_any is_long_text texts))
texts_long texts (t ∷ ts) =
    texts_long (once_more bytes_eq texts t) ts
    ∙ ap (λ (b : Bool). b || list_any is_long_text ts) (once_any is_long_text texts t)
    ∙ or_assoc (list_any is_long_text texts) (is_long_text t) (list_any is_long_text ts)

use_long : (m : Model) (n : Numbering) (u : Use) → list_any is_long_text (with_use m n u).texts ≡ (list_any is_long_text n.texts || list_any is_long_text (texts_of_use m u))
use_long m n (UsedText t) = texts_long n.texts (t ∷ [])
use_long m n (UsedSymbol s) = texts_long n.texts (names_of_symbol m s)

uses_long : (m : Model) (us : List Use) (n : Numbering) → list_any is_long_text (with_uses m n us).texts ≡ (list_any is_long_text n.texts || has_long_text m us)
uses_long m [] n = sym (or-false (list_any is_long_text n.texts))
uses_long m (u ∷ us) n =
    uses_long m us (with_use m n u)
    ∙ ap (λ (b : Bool). b || has_long_text m us) (use_long m n u)
    ∙ or_assoc (list_any is_long_text n.texts) (list_any is_long_text (texts_of_use m u)) (has_long_text m us)

-- ---- one more rule

rules_then : (m : Model) (bs cs : List CheckedRule) → rules_uses m (bs ++ cs) ≡ rules_uses m bs ++ rules_uses m cs
rules_then m [] cs = refl
rules_then m (b ∷ bs) cs =
    ap (λ (us : List Use). rule_uses m b ++ us) (rules_then m bs cs) ∙ sym (append_assoc (rule_uses m b) (rules_uses m bs) (rules_uses m cs))

numbering_more : (m : Model) (before : List CheckedRule) (r : CheckedRule) → numbering_of m (before ++ r ∷ []) ≡ with_uses m (numbering_of m before) (rule_uses m r)
numbering_more m before r =
    ap (with_uses m no_numbers) (rules_then m before (r ∷ []) ∙ ap (λ (us : List Use). rules_uses m before ++ us) (append-nil (rule_uses m r)))
    ∙ uses_then m (rules_uses m before) (rule_uses m r) no_numbers

-- ---- the rules in their order

module _ (m : Model) (all : List CheckedRule) where
  -- the first rules, so many, are numbered, and pass no limit; others are left
  pub record NumberedTo (n : Numbering) (i : ℕ) (left : List CheckedRule) : Type 0 where
    pub before : List CheckedRule
    pub numbers : n ≡ numbering_of m before
    pub count : length before ≡ i
    pub parts : before ++ left ≡ all
    pub short : list_any is_long_text n.texts ≡ false
    pub typed : AllByRecursion (IsTypedRule m) left
    pub passed : first_passed m all [] all ≡ first_passed m all before left

  module _ (n new : Numbering) (i : ℕ) (r : CheckedRule) (left : List CheckedRule) (h : NumberedTo n i (r ∷ left)) (e : new ≡ with_uses m n (rule_uses m r)) where
    now : new ≡ numbering_of m (h.before ++ r ∷ [])
    now = e ∙ ap (λ (o : Numbering). with_uses m o (rule_uses m r)) h.numbers ∙ sym (numbering_more m h.before r)

    long_now : list_any is_long_text new.texts ≡ has_long_text m (rule_uses m r)
    long_now =
        ap (λ (o : Numbering). list_any is_long_text o.texts) e
        ∙ uses_long m (rule_uses m r) n
        ∙ ap (λ (b : Bool). b || has_long_text m (rule_uses m r)) h.short

    -- where a unit takes what is numbered, what is measured tells the limit
    pub limit_here : FitsUnit new → limit_by i (cut_extent (extent_of r.tree)) ≡ limit_passed m all h.before r
    limit_here fits =
        ap (λ (j : ℕ). limit_by j (cut_extent (extent_of r.tree))) (sym h.count)
        ∙ sym (limit_is m all h.before r h.typed.0 (subst AreCounted now fits.0) (sym long_now ∙ fits.1))

    -- and where it doesn't, the rule is too large
    pub too_large : (FitsUnit new → ⊥) → limit_passed m all h.before r ≡ Some limits.Size
    too_large unfit =
        ap (λ (b : Bool). if b then Some limits.Size else (
        if nat_lt MAX_BLOCKS (compiled_depths m all h.before r).blocks then Some limits.Nesting else (
        if nat_lt MAX_OPERANDS (compiled_depths m all h.before r).operands then Some limits.Stack else None))) (by_test (is_too_large m all h.before r) refl)
      where
        by_test : (b : Bool) → is_too_large m all h.before r ≡ b → is_too_large m all h.before r ≡ true
        by_test true e = e
        by_test false e =
            let q = is_roomy_rule m all h.before r e in
            absurd (unfit (subst AreCounted (sym now) (q.texts, q.symbols), long_now ∙ q.short))

    -- a limit that the rule at hand passes is the first that is passed
    pub first_is : (l : Limit) → limit_passed m all h.before r ≡ Some l → first_passed m all [] all ≡ Some (limit_at l i)
    first_is l p =
        h.passed
        ∙ ap (λ (o : Option Limit). or_later (length h.before) o (first_passed m all (h.before ++ r ∷ []) left)) p
        ∙ ap (λ (j : ℕ). Some (limit_at l j)) h.count

    -- so it is where numbering the rule stops, unless memory runs out
    pub stops_at : (f : NumberFault) (later x : Numbering) → NumbersTo (Err f) later new → Means (number_fault i f) (unless_passed (first_passed m all [] all) x)
    stops_at faults.TooLarge later x unfit = ap (λ (o : Option LimitAt). unless_passed o x) (first_is limits.Size (too_large unfit))
    stops_at faults.OutOfMemory later x unfit = tt

    -- a rule that passes none is numbered too
    pub one_numbered : limit_passed m all h.before r ≡ None → NumberedTo new (i + 1) left
    one_numbered p =
        record {
          before = h.before ++ r ∷ [];
          numbers = now;
          count = length-append h.before (r ∷ []) ∙ ap (λ (j : ℕ). j + 1) h.count;
          parts = append_assoc h.before (r ∷ []) left ∙ h.parts;
          short = long_now ∙ (is_roomy m all h.before r p).short;
          typed = h.typed.1;
          passed = h.passed ∙ ap (λ (o : Option Limit). or_later (length h.before) o (first_passed m all (h.before ++ r ∷ []) left)) p;
        }

  -- after the last rule none has passed a limit, and all are numbered
  pub all_numbered : (n : Numbering) (i : ℕ) → NumberedTo n i [] → (first_passed m all [] all ≡ None) × (n ≡ numbering_of m all)
  all_numbered n i h = (h.passed, h.numbers ∙ ap (numbering_of m) (sym (append-nil h.before) ∙ h.parts))
