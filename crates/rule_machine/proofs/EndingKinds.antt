-- What an iteration gives at its end may stand at its place.
use Rattle.std.proofs.Common.{◌≡◌, ℕ, suc, ◌*◌, ◌≤◌, Bool, true, false, not, ◌||◌, List, [], ◌∷◌, length, refl, sym, ap, ◌∙◌, subst, arith}
use Rattle.std.specs.Prelude.{◌==◌, if◌then◌else◌}
use Rattle.std.specs.List.{list_all, list_any, filter_map}
use Rattle.std.proofs.Math.Nat.{mul-le-mul_left}
use Rattle.std.proofs.lemmas.Bool.{and_parts, and_from, or_parts, or_from}
use Rattle.std.proofs.lemmas.List.{length-append}
use Rattle.std.proofs.lemmas.List.Folds.{list_all-append}
use Rattle.ocl_base.specs.Lists.{repeats}
use Rattle.ocl_base.specs.CollectionKinds.{is_unique_kind}
use Rattle.ocl_base.specs.declared.collection_kind.CollectionKind.{CollectionKind}
use Rattle.ocl_base.specs.declared.collection_kind.CollectionKind.TheVariants as collection
use Rattle.ocl_kinds.specs.declared.kind.ScalarKind.{ScalarKind}
use Rattle.ocl_kinds.specs.declared.kind.ScalarKind.TheVariants as element
use Rattle.ocl_kinds.specs.declared.kind.Kind.{Kind}
use Rattle.ocl_kinds.specs.declared.kind.Kind.TheVariants as kind
use Rattle.ocl_kinds.specs.Kinds.{is_same_collection, elements_kind, collected_kind}
use Rattle.ocl_kinds.proofs.ForAbove.{same_collection_is, same_collection_itself}
use Rattle.rule_code.specs.declared.instruction.Instr.{Instr}
use Rattle.rule_code.specs.declared.instruction.Instr.TheVariants as instrs
use Rattle.rule_verify.specs.declared.pattern.Pattern.TheVariants.{AnySingle, AnyCollection}
use Rattle.rule_verify.specs.Patterns.{matches}
use Rattle.rule_verify.specs.InstrKinds.{ends_with, collection_of}
use Rattle.rule_values.specs.Value as value
use Rattle.rule_values.specs.Value.{Element, Value, truth_value, as_element, same_element, is_element_in, are_elements, is_collection_in, is_in}
use Rattle.rule_values.specs.Operations.{is_true, is_false, is_invalid}
use Rattle.rule_values.specs.Endings.{Source, is_undecided, kept_by, collection_elements, joined, count_true, for_all, exists, collect, collect_flat}
use Rattle.rule_machine.specs.IterationResults.{accumulator, ending}
use Rattle.rule_machine.specs.Machine.{Setting, judged_by}
use Rattle.rule_machine.specs.Places.{Place, place, long, At, EachAt, kept_place, yielded}
use Rattle.rule_machine.specs.Live.{is_iteration, HasKept, turns_kept}
use Rattle.rule_machine.proofs.InKinds.{single_at, invalid_at}
use Rattle.rule_values.proofs.ForAbove.{truth_single}

-- ---- elements that are kept

kept_next : (test : Element → Bool) (e : Element) (rest : List Element) (b : Bool) → test e ≡ true → list_all test rest ≡ true → list_all test (if b then e ∷ rest else rest) ≡ true
kept_next test e rest true h all = and_from _ _ h all
kept_next test e rest false h all = all

kept_all : (test : Element → Bool) (keep : Value → Bool) (es : List Element) (bs : List Value) → list_all test es ≡ true → list_all test (kept_by keep es bs) ≡ true
kept_all test keep [] bs h = refl
kept_all test keep (e ∷ es) [] h = refl
kept_all test keep (e ∷ es) (b ∷ bs) h =
    let parts = and_parts (test e) (list_all test es) h in
    kept_next test e (kept_by keep es bs) (keep b) parts.0 (kept_all test keep es bs parts.1)

kept_none_next : (test : Element → Bool) (e : Element) (rest : List Element) (b : Bool) → test e ≡ false → list_any test rest ≡ false → list_any test (if b then e ∷ rest else rest) ≡ false
kept_none_next test e rest true h none = or_from _ _ h none
kept_none_next test e rest false h none = none

kept_none : (test : Element → Bool) (keep : Value → Bool) (es : List Element) (bs : List Value) → list_any test es ≡ false → list_any test (kept_by keep es bs) ≡ false
kept_none test keep [] bs h = refl
kept_none test keep (e ∷ es) [] h = refl
kept_none test keep (e ∷ es) (b ∷ bs) h =
    let parts = or_parts (test e) (list_any test es) h in
    kept_none_next test e (kept_by keep es bs) (keep b) parts.0 (kept_none test keep es bs parts.1)

kept_apart_next : (e : Element) (rest : List Element) (b : Bool) → list_any (same_element e) rest ≡ false → repeats same_element rest ≡ false → repeats same_element (if b then e ∷ rest else rest) ≡ false
kept_apart_next e rest true none apart = or_from _ _ none apart
kept_apart_next e rest false none apart = apart

kept_apart : (keep : Value → Bool) (es : List Element) (bs : List Value) → repeats same_element es ≡ false → repeats same_element (kept_by keep es bs) ≡ false
kept_apart keep [] bs h = refl
kept_apart keep (e ∷ es) [] h = refl
kept_apart keep (e ∷ es) (b ∷ bs) h =
    let parts = or_parts (list_any (same_element e) es) (repeats same_element es) h in
    kept_apart_next e (kept_by keep es bs) (keep b) (kept_none (same_element e) keep es bs parts.0) (kept_apart keep es bs parts.1)

fewer_next : (e : Element) (rest : List Element) (n : ℕ) (b : Bool) → length rest ≤ n → length (if b then e ∷ rest else rest) ≤ suc n
fewer_next e rest n true le = omega (arith, le)
fewer_next e rest n false le = omega (arith, le)

kept_fewer : (keep : Value → Bool) (es : List Element) (bs : List Value) → length (kept_by keep es bs) ≤ length es
kept_fewer keep [] bs = omega arith
kept_fewer keep (e ∷ es) [] = omega arith
kept_fewer keep (e ∷ es) (b ∷ bs) = fewer_next e (kept_by keep es bs) (length es) (keep b) (kept_fewer keep es bs)

-- what a unique collection has none of twice, its part hasn't either
kept_elements : (c : CollectionKind) (keep : Value → Bool) (es : List Element) (bs : List Value) → are_elements c es ≡ true → are_elements c (kept_by keep es bs) ≡ true
kept_elements c keep es bs h = by_unique (is_unique_kind c) (repeats same_element es) refl h
  where
    by_unique : (u r : Bool) → repeats same_element es ≡ r → (not u || not r) ≡ true → (not u || not (repeats same_element (kept_by keep es bs))) ≡ true
    by_unique true true e h = cc
    by_unique true false e h = ap not (kept_apart keep es bs e)
    by_unique false r e h = refl

-- ---- what is collected

module _ (s : Setting) where
  collected_all : (k : ScalarKind) (n : ℕ) (bs : List Value) → EachAt s (place (kind.Scalar k) n) bs → list_all (is_element_in s.population k) (filter_map as_element bs) ≡ true
  collected_all k n [] a = refl
  collected_all k n (value.Invalid ∷ bs) a = collected_all k n bs a.1
  collected_all k n (value.Null ∷ bs) a = collected_all k n bs a.1
  collected_all k n (value.Single v ∷ bs) a = and_from _ _ a.0.in_kind (collected_all k n bs a.1)
  collected_all k n (value.Collection c es ∷ bs) a = let bad = a.0.in_kind in cc

  collected_fewer : (bs : List Value) → length (filter_map as_element bs) ≤ length bs
  collected_fewer [] = omega arith
  collected_fewer (value.Invalid ∷ bs) = omega (arith, collected_fewer bs)
  collected_fewer (value.Null ∷ bs) = omega (arith, collected_fewer bs)
  collected_fewer (value.Single v ∷ bs) = omega (arith, collected_fewer bs)
  collected_fewer (value.Collection c es ∷ bs) = omega (arith, collected_fewer bs)

  joined_all : (d : CollectionKind) (k : ScalarKind) (n : ℕ) (bs : List Value) → EachAt s (place (kind.Collection d k) n) bs → list_all (is_element_in s.population k) (joined bs) ≡ true
  joined_all d k n [] a = refl
  joined_all d k n (value.Invalid ∷ bs) a = joined_all d k n bs a.1
  joined_all d k n (value.Null ∷ bs) a = let bad = a.0.in_kind in cc
  joined_all d k n (value.Single v ∷ bs) a = let bad = a.0.in_kind in cc
  joined_all d k n (value.Collection c es ∷ bs) a =
      let own = (and_parts (are_elements c es) (list_all (is_element_in s.population k) es) (and_parts (is_same_collection c d) (is_collection_in s.population c es k) a.0.in_kind).1).1 in
      list_all-append (is_element_in s.population k) es (joined bs) ∙ and_from _ _ own (joined_all d k n bs a.1)

  elements_long : (b : Value) → length (collection_elements b) ≡ long b
  elements_long value.Invalid = refl
  elements_long value.Null = refl
  elements_long (value.Single v) = refl
  elements_long (value.Collection c es) = refl

  joined_fewer : (r : Place) (bs : List Value) → EachAt s r bs → length (joined bs) ≤ length bs * r.longest
  joined_fewer r [] a = omega arith
  joined_fewer r (b ∷ bs) a =
      let first : length (collection_elements b) ≤ r.longest = omega (arith, elements_long b, a.0.within) in
      omega (arith, first, joined_fewer r bs a.1, length-append (collection_elements b) (joined bs))

  -- ---- endings

  invalid_or : (b : Bool) (v : Value) (p : Place) → At s v p → At s (if b then value.Invalid else v) p
  invalid_or true v p a = invalid_at s p
  invalid_or false v p a = a

  truth_at : (b : Bool) → At s (truth_value b) (place (kind.Scalar element.Boolean) 0)
  truth_at b = single_at s (truth_value b) element.Boolean 0 refl

  kept_in : (keep : Value → Bool) (c : CollectionKind) (es : List Element) (bs : List Value) (k : Kind) → is_in s.population (value.Collection c es) k ≡ true → is_in s.population (value.Collection c (kept_by keep es bs)) k ≡ true
  kept_in keep c es bs (kind.Scalar k) h = cc
  kept_in keep c es bs (kind.Collection d k) h =
      let own = and_parts (is_same_collection c d) (is_collection_in s.population c es k) h in
      let parts = and_parts (are_elements c es) (list_all (is_element_in s.population k) es) own.1 in
      and_from _ _ own.0 (and_from _ _ (kept_elements c keep es bs parts.0) (kept_all (is_element_in s.population k) keep es bs parts.1))

  kept_at : (keep : Value → Bool) (source : Source) (bs : List Value) (p : Place) → At s (value.Collection source.kind source.elements) p → At s (value.Collection source.kind (kept_by keep source.elements bs)) p
  kept_at keep source bs p a =
      record { in_kind = kept_in keep source.kind source.elements bs p.kind a.in_kind; within = omega (arith, a.within, kept_fewer keep source.elements bs) }

  same_collected : (c d : CollectionKind) → is_same_collection c d ≡ true → is_same_collection (collected_kind c) (collected_kind d) ≡ true
  same_collected c d h = subst (λ e. is_same_collection (collected_kind c) (collected_kind e) ≡ true) (same_collection_is c d h) (same_collection_itself (collected_kind c))

  may_repeat : (c : CollectionKind) (es : List Element) → are_elements (collected_kind c) es ≡ true
  may_repeat collection.Set es = refl
  may_repeat collection.OrderedSet es = refl
  may_repeat collection.Bag es = refl
  may_repeat collection.Sequence es = refl

  -- a collection of what is collected, by the kind of the source
  collected_in : (c : CollectionKind) (source es : List Element) (k : Kind) (j : ScalarKind) → is_in s.population (value.Collection c source) k ≡ true → list_all (is_element_in s.population j) es ≡ true → is_in s.population (value.Collection (collected_kind c) es) (kind.Collection (collection_of k) j) ≡ true
  collected_in c source es (kind.Scalar k) j h all = cc
  collected_in c source es (kind.Collection d k) j h all =
      let own = and_parts (is_same_collection c d) (is_collection_in s.population c source k) h in
      and_from _ _ (same_collected c d own.0) (and_from _ _ (may_repeat c es) all)

  collect_at : (source : Source) (bs : List Value) (p r : Place) (k : Kind) → r.kind ≡ k → matches s.population.model AnySingle k ≡ true → At s (value.Collection source.kind source.elements) p → EachAt s r bs → length bs ≤ length source.elements → At s (collect source bs) (place (kind.Collection (collection_of p.kind) (elements_kind r.kind)) p.longest)
  collect_at source bs p r (kind.Collection d j) e m a each le = cc
  collect_at source bs p r (kind.Scalar j) e m a each le =
      let its : EachAt s (place (kind.Scalar j) r.longest) bs = subst (λ k. EachAt s (place k r.longest) bs) e each in
      let at : At s (value.Collection (collected_kind source.kind) (filter_map as_element bs)) (place (kind.Collection (collection_of p.kind) (elements_kind r.kind)) p.longest) =
      record {
        in_kind = subst (λ k. is_in s.population (value.Collection (collected_kind source.kind) (filter_map as_element bs)) (kind.Collection (collection_of p.kind) (elements_kind k)) ≡ true) (sym e) (collected_in source.kind source.elements (filter_map as_element bs) p.kind j a.in_kind (collected_all j r.longest bs its));
        within = omega (arith, a.within, le, collected_fewer bs);
      } in
      invalid_or (list_any is_invalid bs) _ _ at

  collect_flat_at : (source : Source) (bs : List Value) (p r : Place) (k : Kind) → r.kind ≡ k → matches s.population.model AnyCollection k ≡ true → At s (value.Collection source.kind source.elements) p → EachAt s r bs → length bs ≤ length source.elements → At s (collect_flat source bs) (place (kind.Collection (collection_of p.kind) (elements_kind r.kind)) (p.longest * r.longest))
  collect_flat_at source bs p r (kind.Scalar j) e m a each le = cc
  collect_flat_at source bs p r (kind.Collection d j) e m a each le =
      let its : EachAt s (place (kind.Collection d j) r.longest) bs = subst (λ k. EachAt s (place k r.longest) bs) e each in
      let many : length bs ≤ p.longest = omega (arith, le, a.within) in
      let times : r.longest * length bs ≤ r.longest * p.longest = mul-le-mul_left r.longest many in
      let at : At s (value.Collection (collected_kind source.kind) (joined bs)) (place (kind.Collection (collection_of p.kind) (elements_kind r.kind)) (p.longest * r.longest)) =
      record {
        in_kind = subst (λ k. is_in s.population (value.Collection (collected_kind source.kind) (joined bs)) (kind.Collection (collection_of p.kind) (elements_kind k)) ≡ true) (sym e) (collected_in source.kind source.elements (joined bs) p.kind j a.in_kind (joined_all d j r.longest bs its));
        within = omega (arith, times, joined_fewer r bs each);
      } in
      invalid_or (list_any is_invalid bs) _ _ at

  -- the accumulator stands at the place of what is kept
  accumulator_at : (bs : List Value) (t : Place) (v : Value) → bs ≡ v ∷ [] → EachAt s t bs → At s (accumulator bs) t
  accumulator_at [] t v e each = cc
  accumulator_at (b ∷ bs) t v e each = each.0

  -- what an iteration gives, by its source and by what it kept
  pub ending_at : (i : Instr) (source : Source) (bs : List Value) (p r : Place) → is_iteration i ≡ true → At s (value.Collection source.kind source.elements) p → matches s.population.model (ends_with (judged_by s) i) r.kind ≡ true → EachAt s (kept_place s i r) bs → HasKept i bs → turns_kept i bs ≤ length source.elements → At s (ending i source bs) (yielded s i p r)
  ending_at (instrs.ForAll n) source bs p r it a m each has le = single_at s (for_all bs) element.Boolean 0 (truth_single s.population _ _)
  ending_at (instrs.Exists n) source bs p r it a m each has le = single_at s (exists bs) element.Boolean 0 (truth_single s.population _ _)
  ending_at (instrs.One n) source bs p r it a m each has le = invalid_or (list_any is_undecided bs) _ _ (truth_at (count_true bs == 1))
  ending_at (instrs.Select n) source bs p r it a m each has le = invalid_or (list_any is_undecided bs) _ p (kept_at is_true source bs p a)
  ending_at (instrs.Reject n) source bs p r it a m each has le = invalid_or (list_any is_undecided bs) _ p (kept_at is_false source bs p a)
  ending_at (instrs.Collect n) source bs p r it a m each has le = collect_at source bs p r r.kind refl m a each le
  ending_at (instrs.CollectFlat n) source bs p r it a m each has le = collect_flat_at source bs p r r.kind refl m a each le
  ending_at (instrs.IsUnique k n) source bs p r it a m each has le = invalid_or (list_any is_invalid bs) _ _ (truth_at (not (repeats same_element (filter_map as_element bs))))
  ending_at (instrs.Fold k n) source bs p r it a m each has le = accumulator_at bs _ has.0 has.1 each
  ending_at i source bs p r it a m each has le = cc
