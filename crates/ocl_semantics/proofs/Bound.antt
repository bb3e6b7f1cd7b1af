-- Variables as they lie in memory, the newest last.
use Rattle.std.proofs.Common.{◌≡◌, ℕ, ◌-◌, ◌<◌, ◌≤◌, List, ◌++◌, length, map, get_or, take, drop, reverse, sym, ap, ◌∙◌, subst, inl, inr, arith}
use Rattle.std.proofs.lemmas.Bool.Decides.{leb_tells}
use Rattle.std.proofs.lemmas.List.{take-map, length-map, reverse-append, length-reverse, length-drop, take-append-drop}
use Rattle.std.proofs.Math.ListN.{drop_of_length-le}
use Rattle.std.proofs.Math.ListN.{get_or-map}
use Rattle.std.proofs.Math.Seq.{drop-append_seam}
use Rattle.ocl_base.specs.Lists.{variable_at}
use Rattle.ocl_base.proofs.ForAbove.{at_bottom, past_bottom}
use Rattle.owned_values.specs.declared.value.Value.{Value as Held}
use Rattle.owned_values.specs.Meant.{meant}
use Rattle.rule_values.specs.Value.{Value, Invalid}
use Rattle.rule_values.specs.Operations.{or_invalid}

-- what is left of them, newest first, where so many are taken from the end
pub drop-reverse : {A : Type 0} (xs : List A) (count left : ℕ) → left ≡ length xs - count → drop count (reverse xs) ≡ reverse (take left xs)
drop-reverse xs count left is = elim (leb_tells count (length xs)) [
  | inl h ↦
      let parts : reverse xs ≡ reverse (drop left xs) ++ reverse (take left xs) = ap reverse (sym (take-append-drop left xs)) ∙ reverse-append (take left xs) (drop left xs) in
      let long : length (reverse (drop left xs)) ≡ count = omega (arith, length-reverse (drop left xs), length-drop left xs, is, h.1) in
      ap (drop count) parts ∙ subst (λ k. drop k (reverse (drop left xs) ++ reverse (take left xs)) ≡ reverse (take left xs)) long (drop-append_seam (reverse (drop left xs)) (reverse (take left xs)))
  | inr h ↦
      let none : left ≡ 0 = omega (arith, is, h.1) in
      drop_of_length-le (reverse xs) (omega (arith, length-reverse xs, h.1)) ∙ ap (λ k. reverse (take k xs)) (sym none)
]

-- the value of a variable that is there, and of one that isn't
pub bound_value : (items : List Held) (vars : List Value) (m n : ℕ) (x : Held) → m ≡ length items → reverse (map meant items) ≡ vars → n < m → x ≡ get_or items n x → meant x ≡ or_invalid (variable_at vars n)
bound_value items vars m n x len same lt is =
    ap or_invalid (at_bottom (map meant items) vars m n (meant x) (len ∙ sym (length-map items meant)) same lt (ap meant is ∙ sym (get_or-map meant items n x)))

pub unbound_value : (items : List Held) (vars : List Value) (m n : ℕ) → m ≡ length items → reverse (map meant items) ≡ vars → m ≤ n → Invalid ≡ or_invalid (variable_at vars n)
unbound_value items vars m n len same le =
    ap or_invalid (past_bottom (map meant items) vars m n (len ∙ sym (length-map items meant)) same le)

-- variables after the newest are forgotten
pub forgotten : (items : List Held) (vars : List Value) (count left : ℕ) → reverse (map meant items) ≡ vars → left ≡ length items - count → reverse (map meant (take left items)) ≡ drop count vars
forgotten items vars count left same is =
    ap reverse (sym (take-map meant left items))
    ∙ sym (drop-reverse (map meant items) count left (is ∙ ap (λ k. k - count) (sym (length-map items meant))))
    ∙ ap (drop count) same
