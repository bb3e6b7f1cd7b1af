-- What operands are, by the patterns of an instruction, and what it makes of them.
use Rattle.std.proofs.Common.{◌≡◌, Bool, true, List, [], ◌∷◌, length, Option, Some, None, refl, sym, ap, ◌∙◌, subst}
use Rattle.std.specs.Prelude.{◌&&◌}
use Rattle.std.proofs.lemmas.Bool.{and_parts}
use Rattle.std.proofs.lemmas.Option.{same_Some}
use Rattle.imkl_population.specs.Population.{Population}
use Rattle.ocl_kinds.specs.declared.kind.ScalarKind.{ScalarKind}
use Rattle.ocl_kinds.proofs.ForAbove.{same_collection_itself}
use Rattle.rule_code.specs.declared.instruction.Instr.{Instr}
use Rattle.rule_code.specs.declared.kind.WrittenScalar.{WrittenScalar}
use Rattle.rule_code.specs.declared.kind.WrittenScalar.TheVariants as written
use Rattle.rule_code.specs.declared.kind.WrittenKind.{WrittenKind}
use Rattle.rule_code.specs.declared.kind.WrittenKind.TheVariants as kinds
use Rattle.rule_verify.specs.declared.named.Named.{Named}
use Rattle.rule_verify.specs.declared.named.Named.TheVariants as named
use Rattle.rule_verify.specs.declared.pattern.Pattern.{Pattern}
use Rattle.rule_verify.specs.declared.pattern.Pattern.TheVariants.{AnyCollection, CollectionOf}
use Rattle.rule_verify.specs.Patterns.{a_boolean, an_integer}
use Rattle.rule_verify.specs.Symbols.{named_at}
use Rattle.rule_verify.specs.InstrKinds.{Surroundings, operands_of, scalar_meant, kind_meant, class_kind, enumeration_kind}
use Rattle.rule_values.specs.Value as value
use Rattle.rule_values.specs.Value.{Value}
use Rattle.rule_machine.specs.Machine.{Setting, judged_by, is_what, are_what, result_of}
use Rattle.rule_machine.specs.Applied.{GivesOfOne, GivesOfTwo}
use Rattle.rule_slots.specs.declared.slot.Slot.{Slot}
use Rattle.rule_slots.specs.Slots.{Lists, SlotIs}
use Rattle.rule_slots.specs.Operands.{MakesOfOne, MakesOfTwo, is_truth_operand, is_number_operand, is_many_operand, is_elements_operand}
use Rattle.rule_slots.specs.Compared.{covers, covers_kind}
use Rattle.rule_slots.proofs.ForAbove.{truth_operand, number_operand}

-- ---- kinds

-- what a kind of the file says is how elements of the kind that it means are compared
pub covers_meant : (s : Surroundings) (w : WrittenScalar) → covers w (scalar_meant s w) ≡ true
covers_meant s written.Void = refl
covers_meant s written.Boolean = refl
covers_meant s written.Integer = refl
covers_meant s written.String = refl
covers_meant s (written.Enumeration e) = by_name (named_at s.model s.unit e.0)
  where
    by_name : (n : Option Named) → covers (written.Enumeration e) (enumeration_kind n) ≡ true
    by_name None = refl
    by_name (Some (named.Enumeration k)) = refl
    by_name (Some n) = refl
covers_meant s (written.Class c) = by_name (named_at s.model s.unit c.0)
  where
    by_name : (n : Option Named) → covers (written.Class c) (class_kind n) ≡ true
    by_name None = refl
    by_name (Some (named.Class k)) = refl
    by_name (Some n) = refl
covers_meant s written.AnyObject = refl

-- and so is a kind of values
pub covers_kind_meant : (s : Surroundings) (w : WrittenKind) → covers_kind w (kind_meant s w) ≡ true
covers_kind_meant s (kinds.Scalar w) = covers_meant s w
covers_kind_meant s (kinds.Collection c w) = ap (λ z. z && covers w (scalar_meant s w)) (same_collection_itself c) ∙ covers_meant s w

-- ---- patterns

-- a collection of elements of a kind
pub elements_what : (p : Population) (k : ScalarKind) (v : Value) → is_what p (CollectionOf k) v ≡ true → is_elements_operand p k v ≡ true
elements_what p k (value.Collection c es) e = e
elements_what p k value.Invalid e = e
elements_what p k value.Null e = cc
elements_what p k (value.Single v) e = cc

-- a collection of whatever elements
pub many_what : (p : Population) (v : Value) → is_what p AnyCollection v ≡ true → is_many_operand v ≡ true
many_what p (value.Collection c es) e = refl
many_what p value.Invalid e = refl
many_what p value.Null e = refl
many_what p (value.Single v) e = cc

-- the topmost operand is what the first pattern says
pub first_what : (p : Population) (w : Pattern) (ws : List Pattern) (v : Value) (vs : List Value) → are_what p (w ∷ ws) (v ∷ vs) ≡ true → is_what p w v ≡ true
first_what p w ws v vs a = (and_parts (is_what p w v) (are_what p ws vs) a).0

-- and the next what the second says
pub second_what : (p : Population) (w x : Pattern) (ws : List Pattern) (v u : Value) (vs : List Value) → are_what p (w ∷ x ∷ ws) (v ∷ u ∷ vs) ≡ true → is_what p x u ≡ true
second_what p w x ws v u vs a = first_what p x ws u vs (and_parts (is_what p w v) (are_what p (x ∷ ws) (u ∷ vs)) a).1

-- and the one after it what the third says
pub third_what : (p : Population) (w x y : Pattern) (ws : List Pattern) (v u t : Value) (vs : List Value) → are_what p (w ∷ x ∷ y ∷ ws) (v ∷ u ∷ t ∷ vs) ≡ true → is_what p y t ≡ true
third_what p w x y ws v u t vs a = second_what p x y ws u t vs (and_parts (is_what p w v) (are_what p (x ∷ y ∷ ws) (u ∷ t ∷ vs)) a).1

-- ---- results

-- what an instruction makes of one operand, by an operation on slots
pub one_gives : (s : Setting) (l : Lists) (p : List Slot) (i : Instr) (test : Value → Bool) (f : Value → Value) (x o : Slot) → ((vars : List Value) (v : Value) (rest : List Value) → result_of s vars i (v ∷ rest) ≡ Some (f v)) → ((v : Value) (rest : List Value) → are_what s.population (operands_of (judged_by s) i) (v ∷ rest) ≡ true → test v ≡ true)
    → MakesOfOne l p test f x o → GivesOfOne s l p i x o
one_gives s l p i test f x o same tests made vars v rest h a r e = subst (SlotIs l p (length p) o) (same_Some (f v) r (sym (same vars v rest) ∙ e)) (made v h (tests v rest a))

-- and of two
pub two_give : (s : Setting) (l : Lists) (p : List Slot) (i : Instr) (test other : Value → Bool) (f : Value → Value → Value) (x y o : Slot) → ((vars : List Value) (v w : Value) (rest : List Value) → result_of s vars i (w ∷ v ∷ rest) ≡ Some (f v w)) → ((v w : Value) (rest : List Value) → are_what s.population (operands_of (judged_by s) i) (w ∷ v ∷ rest) ≡ true → test v ≡ true) → ((v w : Value) (rest : List Value) → are_what s.population (operands_of (judged_by s) i) (w ∷ v ∷ rest) ≡ true → other w ≡ true)
    → MakesOfTwo l p test other f x y o → GivesOfTwo s l p i x y o
two_give s l p i test other f x y o same tests others made vars v w rest h g a r e =
    subst (SlotIs l p (length p) o) (same_Some (f v w) r (sym (same vars v w rest) ∙ e)) (made v w h g (tests v w rest a) (others v w rest a))

-- of two whole numbers
pub numbers_give : (s : Setting) (l : Lists) (p : List Slot) (i : Instr) (f : Value → Value → Value) (x y o : Slot) → operands_of (judged_by s) i ≡ an_integer ∷ an_integer ∷ [] → ((vars : List Value) (v w : Value) (rest : List Value) → result_of s vars i (w ∷ v ∷ rest) ≡ Some (f v w))
    → MakesOfTwo l p is_number_operand is_number_operand f x y o → GivesOfTwo s l p i x y o
numbers_give s l p i f x y o ps same made =
    two_give s l p i is_number_operand is_number_operand f x y o same
    (λ v w rest a. number_operand s.population v (second_what s.population an_integer an_integer [] w v rest (ap (λ q. are_what s.population q (w ∷ v ∷ rest)) (sym ps) ∙ a)))
    (λ v w rest a. number_operand s.population w (first_what s.population an_integer (an_integer ∷ []) w (v ∷ rest) (ap (λ q. are_what s.population q (w ∷ v ∷ rest)) (sym ps) ∙ a))) made

-- of two truth values
pub truths_give : (s : Setting) (l : Lists) (p : List Slot) (i : Instr) (f : Value → Value → Value) (x y o : Slot) → operands_of (judged_by s) i ≡ a_boolean ∷ a_boolean ∷ [] → ((vars : List Value) (v w : Value) (rest : List Value) → result_of s vars i (w ∷ v ∷ rest) ≡ Some (f v w))
    → MakesOfTwo l p is_truth_operand is_truth_operand f x y o → GivesOfTwo s l p i x y o
truths_give s l p i f x y o ps same made =
    two_give s l p i is_truth_operand is_truth_operand f x y o same
    (λ v w rest a. truth_operand s.population v (second_what s.population a_boolean a_boolean [] w v rest (ap (λ q. are_what s.population q (w ∷ v ∷ rest)) (sym ps) ∙ a)))
    (λ v w rest a. truth_operand s.population w (first_what s.population a_boolean (a_boolean ∷ []) w (v ∷ rest) (ap (λ q. are_what s.population q (w ∷ v ∷ rest)) (sym ps) ∙ a))) made
