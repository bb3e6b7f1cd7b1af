-- What symbols name is there, and the trees of stretches of code.
use Rattle.std.proofs.Common.{◌≡◌, ℕ, zero, suc, get_or, ◌<◌, true, ◌&&◌, List, [], ◌∷◌, length, Option, Some, None, refl, sym, ap, ◌∙◌, subst, IfSome, arith, bytes_eq, position, ◌+◌, ◌-◌, ◌≤◌, Bool, false, take, drop, length-drop}
use Rattle.std.specs.Prelude.{slice_get, option_and_then, nat_le, if◌then◌else◌, slice_range}
use Rattle.std.specs.Option.{option_map}
use Rattle.std.proofs.lemmas.Bool.{and_parts, leb-true, le-leb, lt-leb}
use Rattle.std.proofs.lemmas.List.{length-map, length-take, take-take, drop-drop, drop_more, drop-take}
use Rattle.std.proofs.lemmas.Option.{IfSome_then, get_or_from_slice_get}
use Rattle.std.proofs.lemmas.List.Quantifiers.{position-Some}
use Rattle.imkl_model.specs.ClassModel.{Model, class_number, enumeration_number, feature_number, literal_number, class_names, enumeration_names, enumeration_at, is_named, belongs}
use Rattle.imkl_model.specs.Renames.{renamed_class, renamed_feature, linked_class}
use Rattle.ocl_base.proofs.ForAbove.{least_passes}
use Rattle.rule_code.specs.declared.symbol.Symbol.{Symbol}
use Rattle.rule_code.specs.declared.symbol.Symbol.TheVariants as symbols
use Rattle.rule_code.specs.Content.{Content, text_at}
use Rattle.rule_verify.specs.declared.named.Named.TheVariants as named
use Rattle.rule_verify.specs.Symbols.{named_by, named_at}
use Rattle.rule_verify.specs.Known.{IsKnownName}
use Rattle.rule_code.specs.declared.instruction.Instr.{Instr}
use Rattle.rule_verify.specs.declared.shape.Shape.{Shape}
use Rattle.rule_verify.specs.declared.shape.Shape.TheVariants.{Single, OneBody, TwoBodies}
use Rattle.rule_verify.specs.CodeTree.{shape_of, CodeTree, Plain, Block, Branch, Torn, instr_count, cut_one, cut, code_tree}

-- ---- symbols

-- what is known of the value of an option, if it has one, holds of the value that it has
pub at_some : {A : Type 0} (o : Option A) (P : A → Type 0) (x : A) → o ≡ Some x → IfSome o P → P x
at_some (Some y) P x e h = let same : y ≡ x = cc in subst P same h
at_some None P x e h = cc

if_map : {A B : Type 0} (o : Option A) (f : A → B) (P : A → Type 0) (Q : B → Type 0) → IfSome o P → ((x : A) → P x → Q (f x)) → IfSome (option_map f o) Q
if_map (Some x) f P Q h go = go x h
if_map None f P Q h go = tt

if_then : {A B : Type 0} (o : Option A) (f : A → Option B) (P : A → Type 0) (Q : B → Type 0) → IfSome o P → ((x : A) → P x → IfSome (f x) Q) → IfSome (option_and_then f o) Q
if_then (Some x) f P Q h go = go x h
if_then None f P Q h go = tt

position_within : (name : List ℕ) (names : List (List ℕ)) → IfSome (position (bytes_eq name) names) (λ k. k < length names)
position_within name names = by_place (position (bytes_eq name) names) refl
  where
    by_place : (o : Option ℕ) → position (bytes_eq name) names ≡ o → IfSome o (λ k. k < length names)
    by_place (Some k) e = (position-Some (bytes_eq name) names k [] e).0
    by_place None e = tt

class_known : (m : Model) (name : List ℕ) → IfSome (class_number m name) (λ c. c < length m.classes)
class_known m name =
    IfSome_then (class_number m name) (position_within name (class_names m)) (λ c lt. omega (arith, lt, length-map m.classes (λ x. x.name)))

enumeration_known : (m : Model) (name : List ℕ) → IfSome (enumeration_number m name) (λ e. e < length m.enumerations)
enumeration_known m name =
    IfSome_then (enumeration_number m name) (position_within name (enumeration_names m)) (λ e lt. omega (arith, lt, length-map m.enumerations (λ x. x.name)))

feature_known : (m : Model) (c : ℕ) (name : List ℕ) → IfSome (feature_number m c name) (λ f. (f < length m.features) × (belongs m c f ≡ true))
feature_known m c name =
    IfSome_then (feature_number m c name) (least_passes (λ f. is_named m name f && belongs m c f) (length m.features)) (λ f h. (h.0, (and_parts (is_named m name f) (belongs m c f) h.1).1))

by_symbol : (m : Model) (texts : List (List ℕ)) (s : Symbol) → IfSome (named_by m texts s) (IsKnownName m)
by_symbol m texts (symbols.Class c) =
    if_map (linked_class m (text_at texts c.0)) named.Class (λ k. k < length m.classes) (IsKnownName m) (class_known m (renamed_class m (text_at texts c.0))) (λ k h. h)
by_symbol m texts (symbols.Enumeration e) =
    if_map (enumeration_number m (text_at texts e.0)) named.Enumeration (λ k. k < length m.enumerations) (IsKnownName m) (enumeration_known m (text_at texts e.0)) (λ k h. h)
by_symbol m texts (symbols.Feature c f) =
    let name = renamed_feature m (renamed_class m (text_at texts c.0)) (text_at texts f.0) in
    if_then (linked_class m (text_at texts c.0)) (λ class. option_map (named.Feature class) (feature_number m class name)) (λ k. k < length m.classes) (IsKnownName m) (class_known m (renamed_class m (text_at texts c.0)))
    (λ class h. if_map (feature_number m class name) (named.Feature class) (λ k. (k < length m.features) × (belongs m class k ≡ true)) (IsKnownName m) (feature_known m class name) (λ k g. (h, g.0, g.1)))
by_symbol m texts (symbols.Literal e l) =
    if_then (enumeration_number m (text_at texts e.0)) (λ d. option_map (named.Literal d) (literal_number m d (text_at texts l.0))) (λ k. k < length m.enumerations) (IsKnownName m) (enumeration_known m (text_at texts e.0))
    (λ d h. if_map (literal_number m d (text_at texts l.0)) (named.Literal d) (λ k. k < length (enumeration_at m d).literals) (IsKnownName m) (position_within (text_at texts l.0) (enumeration_at m d).literals) (λ k g. (h, g)))

-- what a symbol names is there
pub named_known : (m : Model) (u : Content) (n : ℕ) → IfSome (named_at m u n) (IsKnownName m)
named_known m u n = by_place (slice_get u.symbols n)
  where
    by_place : (o : Option Symbol) → IfSome (option_and_then (named_by m u.texts) o) (IsKnownName m)
    by_place (Some s) = by_symbol m u.texts s
    by_place None = tt

-- ---- how deep a list is cut doesn't matter

-- two ways of cutting that agree on what is no longer
abbrev Agree : ℕ → (List Instr → CodeTree) → (List Instr → CodeTree) → Type 0
Agree n go go' = (js : List Instr) → length js ≤ n → go js ≡ go' js

same_one : (go go' : List Instr → CodeTree) (i : Instr) (shape : Shape) (is : List Instr) → Agree (length is) go go' → cut_one go i shape is ≡ cut_one go' i shape is
same_one go go' i Single is h = ap (Plain i) (h is (omega arith))
same_one go go' i (OneBody n) is h =
    let a = h (take n is) (omega (arith, length-take n is)) in
    let b = h (drop n is) (omega (arith, length-drop n is)) in
    ap (λ t. if nat_le n (length is) then Block i t (go (drop n is)) else Torn i (length is)) a
    ∙ ap (λ t. if nat_le n (length is) then Block i (go' (take n is)) t else Torn i (length is)) b
same_one go go' i (TwoBodies n m) is h =
    let a = h (take n is) (omega (arith, length-take n is)) in
    let b = h (take m (drop n is)) (omega (arith, length-take m (drop n is), length-drop n is)) in
    let c = h (drop (n + m) is) (omega (arith, length-drop (n + m) is)) in
    ap (λ t. if nat_le (n + m) (length is) then Branch i t (go (take m (drop n is))) (go (drop (n + m) is)) else Torn i (length is)) a
    ∙ ap (λ t. if nat_le (n + m) (length is) then Branch i (go' (take n is)) t (go (drop (n + m) is)) else Torn i (length is)) b
    ∙ ap (λ t. if nat_le (n + m) (length is) then Branch i (go' (take n is)) (go' (take m (drop n is))) t else Torn i (length is)) c

cut_any : (f g : ℕ) (is : List Instr) → length is ≤ f → length is ≤ g → cut f is ≡ cut g is
cut_any zero zero is a b = refl
cut_any zero (suc g) [] a b = refl
cut_any zero (suc g) (i ∷ is) a b = absurd (omega arith)
cut_any (suc f) zero [] a b = refl
cut_any (suc f) zero (i ∷ is) a b = absurd (omega arith)
cut_any (suc f) (suc g) [] a b = refl
cut_any (suc f) (suc g) (i ∷ is) a b = same_one (cut f) (cut g) i (shape_of i) is (λ js le. cut_any f g js (omega arith) (omega arith))

-- the tree of a list, by its first instruction
pub tree_cons : (i : Instr) (is : List Instr) → code_tree (i ∷ is) ≡ cut_one code_tree i (shape_of i) is
tree_cons i is = same_one (cut (length is)) code_tree i (shape_of i) is (λ js le. cut_any (length is) (length js) js le (omega arith))

-- ---- a tree has as many instructions as its list

count_one : (go : List Instr → CodeTree) (i : Instr) (shape : Shape) (is : List Instr) → ((js : List Instr) → length js ≤ length is → instr_count (go js) ≡ length js) → instr_count (cut_one go i shape is) ≡ suc (length is)
count_one go i Single is h = omega (arith, h is (omega arith))
count_one go i (OneBody n) is h = by_test (nat_le n (length is)) refl
  where
    by_test : (b : Bool) → nat_le n (length is) ≡ b → instr_count (if b then Block i (go (take n is)) (go (drop n is)) else Torn i (length is)) ≡ suc (length is)
    by_test true e = omega (arith, leb-true n (length is) e, h (take n is) (omega (arith, length-take n is)), h (drop n is) (omega (arith, length-drop n is)), length-take n is, length-drop n is)
    by_test false e = omega arith
count_one go i (TwoBodies n m) is h = by_test (nat_le (n + m) (length is)) refl
  where
    by_test : (b : Bool) → nat_le (n + m) (length is) ≡ b → instr_count (if b then Branch i (go (take n is)) (go (take m (drop n is))) (go (drop (n + m) is)) else Torn i (length is)) ≡ suc (length is)
    by_test true e =
        omega (arith, leb-true (n + m) (length is) e, h (take n is) (omega (arith, length-take n is)), h (take m (drop n is)) (omega (arith, length-take m (drop n is), length-drop n is)), h (drop (n + m) is) (omega (arith, length-drop (n + m) is)), length-take n is, length-take m (drop n is), length-drop n is, length-drop (n + m) is)
    by_test false e = omega arith

count_cut : (f : ℕ) (is : List Instr) → length is ≤ f → instr_count (cut f is) ≡ length is
count_cut zero [] le = refl
count_cut zero (i ∷ is) le = absurd (omega arith)
count_cut (suc f) [] le = refl
count_cut (suc f) (i ∷ is) le = count_one (cut f) i (shape_of i) is (λ js l. count_cut f js (omega arith))

-- the tree of a list has as many instructions as the list
pub code_tree_count : (is : List Instr) → instr_count (code_tree is) ≡ length is
code_tree_count is = count_cut (length is) is (omega arith)

-- ---- stretches of code

-- a stretch that ends where it begins, or before, is empty
pub stretch_none : (code : List Instr) (at end : ℕ) → end ≤ at → slice_range code at end ≡ []
stretch_none code at end le = let e : end - at ≡ 0 = omega arith in rw e refl

-- a stretch of code has as many instructions as there are from its beginning to its end
pub stretch_length : (code : List Instr) (at end : ℕ) → end ≤ length code → length (slice_range code at end) ≡ end - at
stretch_length code at end le = omega (arith, length-take (end - at) (drop at code), length-drop at code)

-- a stretch is its first instruction and the stretch from the next index on
pub stretch_first : (code : List Instr) (at end : ℕ) (i : Instr) → at < end → end ≤ length code → i ≡ get_or code at i → slice_range code at end ≡ i ∷ slice_range code (at + 1) end
stretch_first code at end i lt le is =
    let e : end - at ≡ suc (end - (at + 1)) = omega arith in
    let d = drop_more code at i (omega arith) ∙ ap (λ x. x ∷ drop (at + 1) code) (sym is) in
    ap (λ n. take n (drop at code)) e ∙ ap (take (suc (end - (at + 1)))) d

-- the first instructions of a stretch are a stretch from the same index
pub stretch_take : (code : List Instr) (at n end : ℕ) → at + n ≤ end → take n (slice_range code at end) ≡ slice_range code at (at + n)
stretch_take code at n end le =
    let e : at + n - at ≡ n = omega arith in
    take-take n (end - at) (drop at code) (omega arith) ∙ ap (λ k. take k (drop at code)) (sym e)

-- a stretch without its first instructions is a stretch to the same end
pub stretch_drop : (code : List Instr) (at n end : ℕ) → at + n ≤ end → drop n (slice_range code at end) ≡ slice_range code (at + n) end
stretch_drop code at n end le =
    let e : end - at ≡ n + (end - (at + n)) = omega arith in
    ap (λ k. drop n (take k (drop at code))) e ∙ drop-take n (end - (at + n)) (drop at code) ∙ ap (take (end - (at + n))) (drop-drop n at code)

-- the tree from an index on, by the shape of its first instruction
module _ (code : List Instr) (at end : ℕ) (i : Instr) (lt : at < end) (le : end ≤ length code) (here : slice_get code at ≡ Some i) where
  by_shape : (shape : Shape) → shape_of i ≡ shape → code_tree (slice_range code at end) ≡ cut_one code_tree i shape (slice_range code (at + 1) end)
  by_shape shape is =
      ap code_tree (stretch_first code at end i lt le (sym (get_or_from_slice_get code at i i here)))
      ∙ tree_cons i (slice_range code (at + 1) end)
      ∙ ap (λ s. cut_one code_tree i s (slice_range code (at + 1) end)) is

  -- an instruction without a body, and the tree from the next index on
  pub tree_plain : shape_of i ≡ Single → code_tree (slice_range code at end) ≡ Plain i (code_tree (slice_range code (at + 1) end))
  tree_plain is = by_shape Single is

  -- a block whose body fits: the tree of its body, and the tree after it
  pub tree_block : (n : ℕ) → shape_of i ≡ OneBody n → at + 1 + n ≤ end → code_tree (slice_range code at end) ≡ Block i (code_tree (slice_range code (at + 1) (at + 1 + n))) (code_tree (slice_range code (at + 1 + n) end))
  tree_block n is nests =
      let rest = slice_range code (at + 1) end in
      let test : nat_le n (length rest) ≡ true = le-leb n (length rest) (omega (arith, stretch_length code (at + 1) end le)) in
      by_shape (OneBody n) is
      ∙ ap (λ b. if b then Block i (code_tree (take n rest)) (code_tree (drop n rest)) else Torn i (length rest)) test
      ∙ ap (λ x. Block i (code_tree x) (code_tree (drop n rest))) (stretch_take code (at + 1) n end nests)
      ∙ ap (λ x. Block i (code_tree (slice_range code (at + 1) (at + 1 + n))) (code_tree x)) (stretch_drop code (at + 1) n end nests)

  -- a block whose two bodies fit: their trees, and the tree after them
  pub tree_branch : (n m : ℕ) → shape_of i ≡ TwoBodies n m → at + 1 + n + m ≤ end
      → code_tree (slice_range code at end) ≡ Branch i (code_tree (slice_range code (at + 1) (at + 1 + n))) (code_tree (slice_range code (at + 1 + n) (at + 1 + n + m))) (code_tree (slice_range code (at + 1 + n + m) end))
  tree_branch n m is nests =
      let rest = slice_range code (at + 1) end in
      let test : nat_le (n + m) (length rest) ≡ true = le-leb (n + m) (length rest) (omega (arith, stretch_length code (at + 1) end le)) in
      let sum : at + 1 + (n + m) ≡ at + 1 + n + m = omega arith in
      by_shape (TwoBodies n m) is
      ∙ ap (λ b. if b then Branch i (code_tree (take n rest)) (code_tree (take m (drop n rest))) (code_tree (drop (n + m) rest)) else Torn i (length rest)) test
      ∙ ap (λ x. Branch i (code_tree x) (code_tree (take m (drop n rest))) (code_tree (drop (n + m) rest))) (stretch_take code (at + 1) n end (omega arith))
      ∙ ap (λ x. Branch i (code_tree (slice_range code (at + 1) (at + 1 + n))) (code_tree x) (code_tree (drop (n + m) rest))) (ap (take m) (stretch_drop code (at + 1) n end (omega arith)) ∙ stretch_take code (at + 1 + n) m end nests)
      ∙ ap (λ x. Branch i (code_tree (slice_range code (at + 1) (at + 1 + n))) (code_tree (slice_range code (at + 1 + n) (at + 1 + n + m))) (code_tree x)) (stretch_drop code (at + 1) (n + m) end (omega arith) ∙ ap (λ p. slice_range code p end) sum)

  -- blocks that are longer than what is left
  pub tree_torn : (n : ℕ) → shape_of i ≡ OneBody n → end < at + 1 + n → code_tree (slice_range code at end) ≡ Torn i (length (slice_range code (at + 1) end))
  tree_torn n is long =
      let rest = slice_range code (at + 1) end in
      let test : nat_le n (length rest) ≡ false = lt-leb n (length rest) (omega (arith, stretch_length code (at + 1) end le)) in
      by_shape (OneBody n) is ∙ ap (λ b. if b then Block i (code_tree (take n rest)) (code_tree (drop n rest)) else Torn i (length rest)) test

  -- the same, with two bodies that are longer together than what is left
  pub tree_torn_branch : (n m : ℕ) → shape_of i ≡ TwoBodies n m → end < at + 1 + n + m → code_tree (slice_range code at end) ≡ Torn i (length (slice_range code (at + 1) end))
  tree_torn_branch n m is long =
      let rest = slice_range code (at + 1) end in
      let test : nat_le (n + m) (length rest) ≡ false = lt-leb (n + m) (length rest) (omega (arith, stretch_length code (at + 1) end le)) in
      by_shape (TwoBodies n m) is ∙ ap (λ b. if b then Branch i (code_tree (take n rest)) (code_tree (take m (drop n rest))) (code_tree (drop (n + m) rest)) else Torn i (length rest)) test
