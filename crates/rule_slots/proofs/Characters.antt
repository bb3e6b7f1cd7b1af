-- The characters of texts, and where texts are cut.
use Rattle.std.proofs.Common.{◌≡◌, ℕ, ◌+◌, ◌-◌, ◌≤◌, Bool, true, false, List, [], ◌∷◌, ◌++◌, length, take, drop, Option, Some, None, refl, sym, ap, ◌∙◌, subst, append_assoc, length-append, arith}
use Rattle.std.specs.Prelude.{ℤ, pos, negsuc, ◌&&◌, ◌==◌, nat_le, slice_range, encode_utf8_all, if◌then◌else◌}
use Rattle.std.specs.Str.{chars, IsUtf8, IsCharBoundary}
use Rattle.std.proofs.Math.Utf8.{scalars}
use Rattle.std.proofs.Math.Seq.{take-append_seam}
use Rattle.std.proofs.lemmas.Bool.{and_parts, and_from, leb-true}
use Rattle.std.proofs.lemmas.Option.{same_Some}
use Rattle.std.proofs.lemmas.Str.{encodes-chars, encodes-append, encodes_same, chars-append, chars_from_encodes, IsUtf8-append, IsUtf8-take, IsCharBoundary-at_seam}
use Rattle.std.proofs.lemmas.List.{append_cancel_right, take-append-drop, take_at, drop_at}
use Rattle.imkl_population.specs.declared.scalar.Scalar.TheVariants as scalar
use Rattle.rule_values.specs.Value as value
use Rattle.rule_values.specs.Value.{Value}
use Rattle.rule_values.specs.Operations.{characters, substring}
use Rattle.rule_slots.specs.declared.slot.Slot.{Slot}
use Rattle.rule_slots.specs.declared.slot.Mark.TheVariants as mark
use Rattle.rule_slots.specs.Slots.{Lists, TextIs, SlotIs, plain_mark}
use Rattle.rule_slots.specs.Operands.{is_text_operand, is_number_operand}
use Rattle.rule_slots.proofs.Taken.{undefined}
use Rattle.rule_slots.specs.Compared.{bytes_at}
use Rattle.rule_slots.specs.Cut.{IsRestOf, bounds_in}
use Rattle.rule_slots.proofs.Alike.{whole_is}
use Rattle.rule_slots.proofs.Stood.{part_of_text}

-- ---- passing characters

-- what is left of what is left is left of the whole
pub rest_along : (text middle rest : List ℕ) → IsRestOf middle text → IsUtf8 rest → (front : List ℕ) → middle ≡ front ++ rest → IsRestOf rest text
rest_along text middle rest s u front e = (u, s.1 ++ front, s.2 ∙ ap (λ l. s.1 ++ l) e ∙ sym (append_assoc s.1 front rest))

-- what stands before it ends where a character does
pub boundary_before : (text rest : List ℕ) → IsRestOf rest text → IsCharBoundary text (length text - length rest)
boundary_before text rest s =
    let long : length text - length rest ≡ length s.1 = omega (arith, ap length s.2, length-append s.1 rest) in
    subst (IsCharBoundary text) (sym long) (IsCharBoundary-at_seam text s.1 rest s.2 s.0)

-- the characters before the ones that are left
pub chars_before : (text rest : List ℕ) (n : ℕ) → IsUtf8 text → IsRestOf rest text → chars rest ≡ drop n (chars text) → chars (take (length text - length rest) text) ≡ take n (chars text)
chars_before text rest n u s e =
    let long : length text - length rest ≡ length s.1 = omega (arith, ap length s.2, length-append s.1 rest) in
    let front : take (length text - length rest) text ≡ s.1 = ap (λ k. take k text) long ∙ ap (take (length s.1)) s.2 ∙ take-append_seam s.1 rest in
    let spelled : IsUtf8 s.1 = subst IsUtf8 front (IsUtf8-take text (length text - length rest) u (boundary_before text rest s)) in
    let whole : chars s.1 ++ drop n (chars text) ≡ take n (chars text) ++ drop n (chars text) =
    ap (λ l. chars s.1 ++ l) (sym e) ∙ sym (chars-append s.1 rest spelled) ∙ ap chars (sym s.2) ∙ sym (take-append-drop n (chars text)) in
    ap chars front ∙ append_cancel_right (chars s.1) (take n (chars text)) (drop n (chars text)) whole

-- ---- the text of a slot

scalars_parts : (a b : List ℕ) → scalars (a ++ b) ≡ true → (scalars a ≡ true) × (scalars b ≡ true)
scalars_parts [] b e = (refl, e)
scalars_parts (c ∷ a) b e =
    let both = and_parts _ _ e in
    let parts = scalars_parts a b both.1 in
    (and_from _ _ both.0 parts.0, parts.1)

-- the parts of a text that is cut between characters are texts
utf8_parts : (bs a b : List ℕ) → IsUtf8 bs → bs ≡ encode_utf8_all (a ++ b) → IsUtf8 (encode_utf8_all a) × IsUtf8 (encode_utf8_all b)
utf8_parts bs a b u e =
    let parts = scalars_parts a b (ap scalars (sym (encodes_same u.0 (a ++ b) (u.1.1 ∙ e))) ∙ u.1.0) in
    ((a, (parts.0, refl)), (b, (parts.1, refl)))

-- the bytes between two others, at their places
between : (front bs rest : List ℕ) → slice_range (front ++ (bs ++ rest)) (length front) (length front + length bs) ≡ bs
between front bs rest =
    let n : length front + length bs - length front ≡ length bs = omega arith in
    ap (λ z. take z (drop (length front) (front ++ (bs ++ rest)))) n ∙ ap (take (length bs)) (drop_at front (bs ++ rest) (length front) refl) ∙ take_at bs rest (length bs) refl

-- the text of a slot, in the whole one: its bytes, and that the whole may be cut at both its ends
pub record Stands (whole : List ℕ) (start end : ℕ) (t : List ℕ) : Type 0 where
  pub bytes : slice_range whole start end ≡ encode_utf8_all t
  pub within : end ≤ length whole
  pub begins : IsCharBoundary whole start
  pub ends : IsCharBoundary whole end
  pub spelled : IsUtf8 (encode_utf8_all t)

stands_at : (whole front t rest : List ℕ) (start end : ℕ) → IsUtf8 whole → whole ≡ encode_utf8_all (front ++ (t ++ rest)) → start ≡ length (encode_utf8_all front) → end ≡ length (encode_utf8_all front) + length (encode_utf8_all t) → Stands whole start end t
stands_at whole front t rest start end u e es ee =
    let f = encode_utf8_all front in
    let b = encode_utf8_all t in
    let r = encode_utf8_all rest in
    let one = utf8_parts whole front (t ++ rest) u e in
    let two = utf8_parts (encode_utf8_all (t ++ rest)) t rest one.1 refl in
    let apart : whole ≡ f ++ (b ++ r) = e ∙ encodes-append front (t ++ rest) ∙ ap (λ z. f ++ z) (encodes-append t rest) in
    let long : length (f ++ b) ≡ end = length-append f b ∙ sym ee in
    record {
      bytes = ap (λ z. slice_range z start end) apart ∙ ap (λ z. slice_range (f ++ (b ++ r)) z end) es ∙ ap (slice_range (f ++ (b ++ r)) (length f)) ee ∙ between f b r;
      within = omega (arith, ap length apart, length-append f (b ++ r), length-append b r, ee);
      begins = subst (IsCharBoundary whole) (sym es) (IsCharBoundary-at_seam whole f (b ++ r) apart (IsUtf8-append b r two.0 two.1));
      ends = subst (IsCharBoundary whole) long (IsCharBoundary-at_seam whole (f ++ b) r (apart ∙ sym (append_assoc f b r)) two.1);
      spelled = two.0;
    }

-- the text of a slot, in the one in which it stands
pub text_stands : (l : Lists) (s : Slot) (t whole : List ℕ) → TextIs l s t → whole ≡ bytes_at (s.list == 0) l s.index → IsUtf8 whole → Stands whole s.start (s.start + s.count) t
text_stands l s t whole h e u =
    let ends : s.start + s.count ≡ length (encode_utf8_all h.front) + length (encode_utf8_all t) = omega (arith, h.start, h.count) in
    stands_at whole h.front t h.rest s.start (s.start + s.count) u (e ∙ whole_is (s.list == 0) l s.index (h.front ++ (t ++ h.rest)) h.there) h.start ends

-- the bytes of a text, by its characters
pub bytes_by_characters : (s t : List ℕ) → chars s ≡ t → IsUtf8 s → length (encode_utf8_all t) ≡ length s
bytes_by_characters s t e u = ap (λ x. length (encode_utf8_all x)) (sym e) ∙ ap length (encodes-chars s u)

-- the characters of what is cut out
pub chars_cut : (whole text : List ℕ) (start end : ℕ) (t : List ℕ) → Stands whole start end t → text ≡ slice_range whole start end → chars text ≡ t
chars_cut whole text start end t h e = ap chars (e ∙ h.bytes) ∙ sym (chars_from_encodes t (encode_utf8_all t) h.spelled refl)

-- ---- parts of a text

-- how many bytes come before what is left
pub bytes_before : (text left : List ℕ) (k : ℕ) → IsUtf8 text → IsUtf8 left → chars left ≡ drop k (chars text) → length text - length left ≡ length (encode_utf8_all (take k (chars text)))
bytes_before text left k u v e =
    let front = encode_utf8_all (take k (chars text)) in
    let back = encode_utf8_all (drop k (chars text)) in
    let whole : text ≡ front ++ back = sym (encodes-chars text u) ∙ ap encode_utf8_all (sym (take-append-drop k (chars text))) ∙ encodes-append (take k (chars text)) (drop k (chars text)) in
    let rest : left ≡ back = sym (encodes-chars left v) ∙ ap encode_utf8_all e in
    omega (arith, ap length whole, ap length rest, length-append front back)

-- a part of a slot's text, by its bytes
pub cut_is : (l : Lists) (s : Slot) (text left part : List ℕ) (from to : ℕ) → from ≤ to → IsUtf8 text → IsUtf8 left → IsUtf8 part → chars left ≡ drop from (chars text) → chars part ≡ take (to - from) (chars left) → TextIs l s (chars text)
    → TextIs l (record s { start = s.start + (length text - length left); count = length part }) (slice_range (chars text) from to)
cut_is l s text left part from to le u v w e f h =
    part_of_text l s (chars text) from to (s.start + (length text - length left)) (length part) le h
    (ap (λ n. s.start + n) (bytes_before text left from u v e))
    (ap length (sym (encodes-chars part w)) ∙ ap (λ z. length (encode_utf8_all z)) (f ∙ ap (take (to - from)) e))

-- ---- bounds

-- without bounds there are no characters
pub bounds_none : (t : List ℕ) (x y : ℤ) → bounds_in (length t) x y ≡ None → characters t x y ≡ value.Invalid
bounds_none t (pos a) (pos b) e = by_test (nat_le 1 a && nat_le a b && nat_le b (length t)) e
  where
    by_test : (z : Bool) → (if◌then◌else◌ {A = Option (ℕ × ℕ)} z (Some (a - 1, b)) None) ≡ None → (if z then value.Single (scalar.Text (slice_range t (a - 1) b)) else value.Invalid) ≡ value.Invalid
    by_test true e = cc
    by_test false e = refl
bounds_none t (pos a) (negsuc b) e = refl
bounds_none t (negsuc a) y e = refl

-- with bounds these are the characters between them
pub bounds_some : (t : List ℕ) (x y : ℤ) (from to : ℕ) → bounds_in (length t) x y ≡ Some (from, to) → (characters t x y ≡ value.Single (scalar.Text (slice_range t from to))) × (from ≤ to) × (to ≤ length t)
bounds_some t (pos a) (pos b) from to e = by_test (nat_le 1 a && nat_le a b && nat_le b (length t)) refl e
  where
    by_test : (z : Bool) → (nat_le 1 a && nat_le a b && nat_le b (length t)) ≡ z → (if◌then◌else◌ {A = Option (ℕ × ℕ)} z (Some (a - 1, b)) None) ≡ Some (from, to) → ((if z then value.Single (scalar.Text (slice_range t (a - 1) b)) else value.Invalid) ≡ value.Single (scalar.Text (slice_range t from to))) × (from ≤ to) × (to ≤ length t)
    by_test true q e =
        let pair = same_Some (a - 1, b) (from, to) e in
        let f : a - 1 ≡ from = ap (λ q. q.0) pair in
        let g : b ≡ to = ap (λ q. q.1) pair in
        let tests = and_parts (nat_le 1 a && nat_le a b) (nat_le b (length t)) q in
        let low = leb-true a b (and_parts (nat_le 1 a) (nat_le a b) tests.0).1 in
        let high = leb-true b (length t) tests.1 in
        (ap (λ n. value.Single (scalar.Text (slice_range t n b))) f ∙ ap (λ n. value.Single (scalar.Text (slice_range t from n))) g, omega (arith, f, g, low), omega (arith, g, high))
    by_test false q e = cc
bounds_some t (pos a) (negsuc b) from to e = cc
bounds_some t (negsuc a) y from to e = cc

-- ---- substrings

-- a part of a text, by what its characters give
pub substring_is : (l : Lists) (p : List Slot) (hi : ℕ) (s lower upper r : Slot) → plain_mark s.mark ≡ true → plain_mark lower.mark ≡ true → plain_mark upper.mark ≡ true
    → ((t : List ℕ) → TextIs l s t → SlotIs l p hi r (characters t lower.number upper.number)) → (t x y : Value) → SlotIs l p hi s t → SlotIs l p hi lower x → SlotIs l p hi upper y
    → is_text_operand t ≡ true → is_number_operand x ≡ true → is_number_operand y ≡ true → SlotIs l p hi r (substring t x y)
substring_is l p hi s lower upper r a b c made (value.Single (scalar.Text t)) (value.Single (scalar.Int n)) (value.Single (scalar.Int m)) h g k i j q =
    subst (λ z. SlotIs l p hi r (characters t z m)) g.1 (subst (λ z. SlotIs l p hi r (characters t lower.number z)) k.1 (made t h.1))
substring_is l p hi s lower upper r a b c made (value.Single (scalar.Text t)) (value.Single (scalar.Int n)) value.Null h g k i j q = undefined upper.mark mark.Null k refl c
substring_is l p hi s lower upper r a b c made (value.Single (scalar.Text t)) (value.Single (scalar.Int n)) value.Invalid h g k i j q = undefined upper.mark mark.Invalid k refl c
substring_is l p hi s lower upper r a b c made (value.Single (scalar.Text t)) value.Null y h g k i j q = undefined lower.mark mark.Null g refl b
substring_is l p hi s lower upper r a b c made (value.Single (scalar.Text t)) value.Invalid y h g k i j q = undefined lower.mark mark.Invalid g refl b
substring_is l p hi s lower upper r a b c made value.Null x y h g k i j q = undefined s.mark mark.Null h refl a
substring_is l p hi s lower upper r a b c made value.Invalid x y h g k i j q = undefined s.mark mark.Invalid h refl a
substring_is l p hi s lower upper r a b c made t x y h g k i j q = cc
