-- Slots are the same where the elements are that they stand for, and lists of slots by them.
use Rattle.std.proofs.Common.{◌≡◌, ℕ, zero, suc, ◌+◌, ◌-◌, ◌≤◌, Bool, true, false, List, [], ◌∷◌, ◌++◌, length, take, drop, get_or, Some, None, refl, sym, ap, ◌∙◌, arith, bytes_eq, length-append}
use Rattle.std.specs.Prelude.{◌&&◌, ◌||◌, ◌==◌, slice_get, slice_range, encode_utf8_all, if◌then◌else◌}
use Rattle.std.specs.List.{list_all, list_any}
use Rattle.std.specs.Ordering.{int_eq}
use Rattle.std.proofs.lemmas.Bool.{and_parts, le-leb, eqb-true, eq-eqb}
use Rattle.std.proofs.lemmas.Bool.Decides.{same_from_decides}
use Rattle.std.proofs.lemmas.List.{take_at, drop_at}
use Rattle.std.proofs.lemmas.Slice.Eq.{bytes_eq-Decides}
use Rattle.std.proofs.lemmas.Str.{encodes-append, encodes_same}
use Rattle.ocl_base.specs.Lists.{is_among, repeats}
use Rattle.imkl_population.specs.Population.{Population}
use Rattle.imkl_population.specs.Values.{same_scalar}
use Rattle.imkl_population.specs.declared.scalar.Scalar.{Scalar}
use Rattle.imkl_population.specs.declared.scalar.Scalar.TheVariants as scalar
use Rattle.ocl_kinds.specs.declared.kind.ScalarKind.{ScalarKind}
use Rattle.ocl_kinds.specs.declared.kind.ScalarKind.TheVariants as element
use Rattle.rule_code.specs.declared.kind.WrittenScalar.{WrittenScalar}
use Rattle.rule_code.specs.declared.kind.WrittenScalar.TheVariants as written
use Rattle.rule_values.specs.Value.{Element, is_scalar_in, is_element_in, same_element}
use Rattle.rule_values.specs.Equality.{occurrences, same_lists, occur_as_often}
use Rattle.rule_values.specs.Operations.{distinct_after}
use Rattle.rule_slots.specs.declared.slot.Slot.{Slot}
use Rattle.rule_slots.specs.declared.slot.Mark.TheVariants as mark
use Rattle.rule_slots.specs.Slots.{Lists, ScalarIs, ElementIs, ElementsAre, TextIs, IsTextAt}
use Rattle.rule_slots.specs.Compared.{covers, text_bytes, bytes_at, bytes_within, slot_bytes, same_marked, same_words, same_slots, times_among, pairwise_same, stand_as_often, first_ones}
use Rattle.rule_slots.proofs.Stood.{elements_join}

-- ---- texts

-- an item that is there, at any default
read_at : {A : Type 0} (xs : List A) (i : ℕ) (x d : A) → slice_get xs i ≡ Some x → get_or xs i d ≡ x
read_at [] i x d e = cc
read_at (y ∷ xs) zero x d e = cc
read_at (y ∷ xs) (suc i) x d e = read_at xs i x d e

-- the bytes of a text, where its characters stand
pub whole_is : (b : Bool) (l : Lists) (i : ℕ) (t : List ℕ) → IsTextAt b l i t → bytes_at b l i ≡ encode_utf8_all t
whole_is true l i t e = ap text_bytes e
whole_is false l i t e = read_at l.texts i (encode_utf8_all t) [] e

-- the bytes between two others
pub bytes_between : (front bs rest : List ℕ) → bytes_within (front ++ (bs ++ rest)) (length front) (length bs) ≡ bs
bytes_between front bs rest =
    let le : length front + length bs ≤ length (front ++ (bs ++ rest)) = omega (arith, length-append front (bs ++ rest), length-append bs rest) in
    let n : length front + length bs - length front ≡ length bs = omega arith in
    ap (λ z. if z then slice_range (front ++ (bs ++ rest)) (length front) (length front + length bs) else []) (le-leb (length front + length bs) (length (front ++ (bs ++ rest))) le)
    ∙ ap (λ z. take z (drop (length front) (front ++ (bs ++ rest)))) n ∙ ap (take (length bs)) (drop_at front (bs ++ rest) (length front) refl) ∙ take_at bs rest (length bs) refl

-- the bytes of the text that a slot stands for
pub bytes_are : (l : Lists) (s : Slot) (t : List ℕ) → TextIs l s t → slot_bytes l s ≡ encode_utf8_all t
bytes_are l s t h =
    ap (λ z. bytes_within z s.start s.count) (whole_is (s.list == 0) l s.index (h.front ++ (t ++ h.rest)) h.there ∙ encodes-append h.front (t ++ h.rest) ∙ ap (λ z. encode_utf8_all h.front ++ z) (encodes-append t h.rest))
    ∙ ap (λ z. bytes_within (encode_utf8_all h.front ++ (encode_utf8_all t ++ encode_utf8_all h.rest)) z s.count) h.start
    ∙ ap (bytes_within (encode_utf8_all h.front ++ (encode_utf8_all t ++ encode_utf8_all h.rest)) (length (encode_utf8_all h.front))) h.count
    ∙ bytes_between (encode_utf8_all h.front) (encode_utf8_all t) (encode_utf8_all h.rest)

-- texts are the same where their bytes are
same_encoded : (t u : List ℕ) → bytes_eq (encode_utf8_all t) (encode_utf8_all u) ≡ bytes_eq t u
same_encoded t u =
    let by = bytes_eq-Decides t u in
    same_from_decides (bytes_eq (encode_utf8_all t) (encode_utf8_all u)) (bytes_eq t u) (bytes_eq-Decides (encode_utf8_all t) (encode_utf8_all u))
    ((λ h. ap encode_utf8_all (by.0 h)), (λ e. by.1 (encodes_same t u e)))

-- ---- single values of one kind

module _ (l : Lists) (p : Population) where
  same_truths : (a b : Slot) (v u : Scalar) → ScalarIs l a v → ScalarIs l b u → is_scalar_in p v element.Boolean ≡ true → is_scalar_in p u element.Boolean ≡ true → int_eq a.number b.number ≡ same_scalar v u
  same_truths a b (scalar.Bool true) (scalar.Bool true) h g i j = rw (h, g) refl
  same_truths a b (scalar.Bool true) (scalar.Bool false) h g i j = rw (h, g) refl
  same_truths a b (scalar.Bool false) (scalar.Bool true) h g i j = rw (h, g) refl
  same_truths a b (scalar.Bool false) (scalar.Bool false) h g i j = rw (h, g) refl
  same_truths a b v u h g i j = cc

  same_numbers : (a b : Slot) (v u : Scalar) → ScalarIs l a v → ScalarIs l b u → is_scalar_in p v element.Integer ≡ true → is_scalar_in p u element.Integer ≡ true → int_eq a.number b.number ≡ same_scalar v u
  same_numbers a b (scalar.Int n) (scalar.Int m) h g i j = rw (h, g) refl
  same_numbers a b v u h g i j = cc

  same_texts : (a b : Slot) (v u : Scalar) → ScalarIs l a v → ScalarIs l b u → is_scalar_in p v element.String ≡ true → is_scalar_in p u element.String ≡ true → bytes_eq (slot_bytes l a) (slot_bytes l b) ≡ same_scalar v u
  same_texts a b (scalar.Text t) (scalar.Text u) h g i j = ap (λ z. bytes_eq z (slot_bytes l b)) (bytes_are l a t h) ∙ ap (bytes_eq (encode_utf8_all t)) (bytes_are l b u g) ∙ same_encoded t u
  same_texts a b v u h g i j = cc

  same_literals : (e : ℕ) (a b : Slot) (v u : Scalar) → ScalarIs l a v → ScalarIs l b u → is_scalar_in p v (element.Enumeration e) ≡ true → is_scalar_in p u (element.Enumeration e) ≡ true → (a.index == b.index) ≡ same_scalar v u
  same_literals e a b (scalar.Literal d x) (scalar.Literal f y) h g i j =
      let same : (d == f) ≡ true = eq-eqb d f (eqb-true d e (and_parts _ _ i).0 ∙ sym (eqb-true f e (and_parts _ _ j).0)) in
      rw (h, g) (ap (λ z. z && (x == y)) (sym same))
  same_literals e a b v u h g i j = cc

  same_instances : (c : ℕ) (a b : Slot) (v u : Scalar) → ScalarIs l a v → ScalarIs l b u → is_scalar_in p v (element.Class c) ≡ true → is_scalar_in p u (element.Class c) ≡ true → (a.index == b.index) ≡ same_scalar v u
  same_instances c a b (scalar.Object x) (scalar.Object y) h g i j = rw (h, g) refl
  same_instances c a b v u h g i j = cc

  same_objects : (a b : Slot) (v u : Scalar) → ScalarIs l a v → ScalarIs l b u → is_scalar_in p v element.AnyObject ≡ true → is_scalar_in p u element.AnyObject ≡ true → (a.index == b.index) ≡ same_scalar v u
  same_objects a b (scalar.Object x) (scalar.Object y) h g i j = rw (h, g) refl
  same_objects a b v u h g i j = cc

  none_of_void : (v : Scalar) → is_scalar_in p v element.Void ≡ true → ⊥
  none_of_void (scalar.Bool b) e = cc
  none_of_void (scalar.Int n) e = cc
  none_of_void (scalar.Text t) e = cc
  none_of_void (scalar.Literal d x) e = cc
  none_of_void (scalar.Object o) e = cc

  words_same : (w : WrittenScalar) (k : ScalarKind) → covers w k ≡ true → (a b : Slot) (v u : Scalar) → ScalarIs l a v → ScalarIs l b u → is_scalar_in p v k ≡ true → is_scalar_in p u k ≡ true → same_words l w a b ≡ same_scalar v u
  words_same w element.Void c a b v u h g i j = absurd (none_of_void v i)
  words_same written.Boolean element.Boolean c a b v u h g i j = same_truths a b v u h g i j
  words_same written.Integer element.Integer c a b v u h g i j = same_numbers a b v u h g i j
  words_same written.String element.String c a b v u h g i j = same_texts a b v u h g i j
  words_same (written.Enumeration s) (element.Enumeration e) c a b v u h g i j = same_literals e a b v u h g i j
  words_same (written.Class s) (element.Class d) c a b v u h g i j = same_instances d a b v u h g i j
  words_same written.AnyObject element.AnyObject c a b v u h g i j = same_objects a b v u h g i j
  words_same w k c a b v u h g i j = cc

-- ---- elements of one kind

module _ (l : Lists) (p : Population) (w : WrittenScalar) (k : ScalarKind) (c : covers w k ≡ true) where
  -- two elements are the same where their slots are
  pub slots_same : (a b : Slot) (e f : Element) → ElementIs l a e → ElementIs l b f → is_element_in p k e ≡ true → is_element_in p k f ≡ true → same_slots l w a b ≡ same_element e f
  slots_same a b None None h g i j = rw (h, g) refl
  slots_same a b None (Some u) h g i j = rw (h, g.0) refl
  slots_same a b (Some v) None h g i j = rw (h.0, g) refl
  slots_same a b (Some v) (Some u) h g i j =
      ap (λ m. same_marked m b.mark (same_words l w a b)) h.0 ∙ ap (λ m. same_marked mark.Plain m (same_words l w a b)) g.0 ∙ words_same l p w k c a b v u h.1 g.1 i j

  -- a test of all slots is one of all elements
  pub all_same : (P : Slot → Bool) (Q : Element → Bool) → ((s : Slot) (e : Element) → ElementIs l s e → is_element_in p k e ≡ true → P s ≡ Q e) → (ss : List Slot) (es : List Element) → ElementsAre l ss es → list_all (is_element_in p k) es ≡ true → list_all P ss ≡ list_all Q es
  all_same P Q agree [] [] h i = refl
  all_same P Q agree [] (e ∷ es) h i = absurd h
  all_same P Q agree (s ∷ ss) [] h i = absurd h
  all_same P Q agree (s ∷ ss) (e ∷ es) h i =
      let both = and_parts (is_element_in p k e) (list_all (is_element_in p k) es) i in
      ap (λ z. z && list_all P ss) (agree s e h.0 both.0) ∙ ap (λ z. Q e && z) (all_same P Q agree ss es h.1 both.1)

  -- and a test of any
  pub any_same : (P : Slot → Bool) (Q : Element → Bool) → ((s : Slot) (e : Element) → ElementIs l s e → is_element_in p k e ≡ true → P s ≡ Q e) → (ss : List Slot) (es : List Element) → ElementsAre l ss es → list_all (is_element_in p k) es ≡ true → list_any P ss ≡ list_any Q es
  any_same P Q agree [] [] h i = refl
  any_same P Q agree [] (e ∷ es) h i = absurd h
  any_same P Q agree (s ∷ ss) [] h i = absurd h
  any_same P Q agree (s ∷ ss) (e ∷ es) h i =
      let both = and_parts (is_element_in p k e) (list_all (is_element_in p k) es) i in
      ap (λ z. z || list_any P ss) (agree s e h.0 both.0) ∙ ap (λ z. Q e || z) (any_same P Q agree ss es h.1 both.1)

  -- an element is one of others where its slot is
  pub among_same : (ss : List Slot) (es : List Element) → ElementsAre l ss es → list_all (is_element_in p k) es ≡ true → (s : Slot) (e : Element) → ElementIs l s e → is_element_in p k e ≡ true → is_among (same_slots l w) ss s ≡ is_among same_element es e
  among_same ss es h i s e g j = any_same (same_slots l w s) (same_element e) (λ t f a b. slots_same s t e f g a j b) ss es h i

  -- it stands as often
  pub times_same : (ss : List Slot) (es : List Element) → ElementsAre l ss es → list_all (is_element_in p k) es ≡ true → (s : Slot) (e : Element) → ElementIs l s e → is_element_in p k e ≡ true → times_among (same_slots l w) ss s ≡ occurrences es e
  times_same [] [] h i s e g j = refl
  times_same [] (f ∷ es) h i s e g j = absurd h
  times_same (t ∷ ss) [] h i s e g j = absurd h
  times_same (t ∷ ss) (f ∷ es) h i s e g j =
      let both = and_parts (is_element_in p k f) (list_all (is_element_in p k) es) i in
      ap (λ z. if z then suc (times_among (same_slots l w) ss s) else times_among (same_slots l w) ss s) (slots_same t s f e h.0 g both.0 j)
      ∙ ap (λ n. if same_element f e then suc n else n) (times_same ss es h.1 both.1 s e g j)

  -- one by one
  pub pairwise_is : (ss ts : List Slot) (es fs : List Element) → ElementsAre l ss es → ElementsAre l ts fs → list_all (is_element_in p k) es ≡ true → list_all (is_element_in p k) fs ≡ true → pairwise_same (same_slots l w) ss ts ≡ same_lists es fs
  pairwise_is [] [] [] [] h g i j = refl
  pairwise_is [] (t ∷ ts) [] (f ∷ fs) h g i j = refl
  pairwise_is (s ∷ ss) [] (e ∷ es) [] h g i j = refl
  pairwise_is (s ∷ ss) (t ∷ ts) (e ∷ es) (f ∷ fs) h g i j =
      let one = and_parts (is_element_in p k e) (list_all (is_element_in p k) es) i in
      let two = and_parts (is_element_in p k f) (list_all (is_element_in p k) fs) j in
      ap (λ z. z && pairwise_same (same_slots l w) ss ts) (slots_same s t e f h.0 g.0 one.0 two.0) ∙ ap (λ z. same_element e f && z) (pairwise_is ss ts es fs h.1 g.1 one.1 two.1)
  pairwise_is [] ts (e ∷ es) fs h g i j = absurd h
  pairwise_is (s ∷ ss) ts [] fs h g i j = absurd h
  pairwise_is ss [] es (f ∷ fs) h g i j = absurd g
  pairwise_is ss (t ∷ ts) es [] h g i j = absurd g

  -- each as often
  pub often_is : (ss ts : List Slot) (es fs : List Element) → ElementsAre l ss es → ElementsAre l ts fs → list_all (is_element_in p k) es ≡ true → list_all (is_element_in p k) fs ≡ true → stand_as_often (same_slots l w) ss ts ≡ occur_as_often es fs
  often_is ss ts es fs h g i j =
      all_same (λ x. times_among (same_slots l w) ss x == times_among (same_slots l w) ts x) (λ x. occurrences es x == occurrences fs x)
      (λ s e a b. ap (λ n. n == times_among (same_slots l w) ts s) (times_same ss es h i s e a b) ∙ ap (λ n. occurrences es e == n) (times_same ts fs g j s e a b)) ss es h i

  -- one stands twice where its slot does
  pub repeats_is : (ss : List Slot) (es : List Element) → ElementsAre l ss es → list_all (is_element_in p k) es ≡ true → repeats (same_slots l w) ss ≡ repeats same_element es
  repeats_is [] [] h i = refl
  repeats_is [] (e ∷ es) h i = absurd h
  repeats_is (s ∷ ss) [] h i = absurd h
  repeats_is (s ∷ ss) (e ∷ es) h i =
      let both = and_parts (is_element_in p k e) (list_all (is_element_in p k) es) i in
      ap (λ z. z || repeats (same_slots l w) ss) (among_same ss es h.1 both.1 s e h.0 both.0) ∙ ap (λ z. is_among same_element es e || z) (repeats_is ss es h.1 both.1)

  all_join : (es fs : List Element) → list_all (is_element_in p k) es ≡ true → list_all (is_element_in p k) fs ≡ true → list_all (is_element_in p k) (es ++ fs) ≡ true
  all_join [] fs i j = j
  all_join (e ∷ es) fs i j =
      let both = and_parts (is_element_in p k e) (list_all (is_element_in p k) es) i in
      ap (λ z. z && list_all (is_element_in p k) (es ++ fs)) both.0 ∙ all_join es fs both.1 j

  -- the first ones of slots stand for the distinct elements
  pub first_are : (bs ss : List Slot) (ds es : List Element) → ElementsAre l bs ds → list_all (is_element_in p k) ds ≡ true → ElementsAre l ss es → list_all (is_element_in p k) es ≡ true → ElementsAre l (first_ones (same_slots l w) bs ss) (distinct_after ds es)
  first_are bs [] ds [] hb ib h i = tt
  first_are bs [] ds (e ∷ es) hb ib h i = absurd h
  first_are bs (s ∷ ss) ds [] hb ib h i = absurd h
  first_are bs (s ∷ ss) ds (e ∷ es) hb ib h i =
      let both = and_parts (is_element_in p k e) (list_all (is_element_in p k) es) i in
      by_test (is_among (same_slots l w) bs s) (is_among same_element ds e) (among_same bs ds hb ib s e h.0 both.0) (first_are bs ss ds es hb ib h.1 both.1)
      (first_are (bs ++ s ∷ []) ss (ds ++ e ∷ []) es (elements_join l bs (s ∷ []) ds (e ∷ []) hb (h.0, tt)) (all_join ds (e ∷ []) ib (ap (λ z. z && true) both.0)) h.1 both.1)
    where
      by_test : (a b : Bool) → a ≡ b → ElementsAre l (first_ones (same_slots l w) bs ss) (distinct_after ds es) → ElementsAre l (first_ones (same_slots l w) (bs ++ s ∷ []) ss) (distinct_after (ds ++ e ∷ []) es)
          → ElementsAre l (if a then first_ones (same_slots l w) bs ss else s ∷ first_ones (same_slots l w) (bs ++ s ∷ []) ss) (if b then distinct_after ds es else e ∷ distinct_after (ds ++ e ∷ []) es)
      by_test true true q x y = x
      by_test false false q x y = (h.0, y)
      by_test true false q x y = cc
      by_test false true q x y = cc
