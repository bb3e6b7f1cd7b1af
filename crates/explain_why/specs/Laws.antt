-- What holds of what explanations show and leave out. What is left out decides nothing: where one operand alone is shown, the
-- operation's value is the same whatever the others are. No two variables that a part sees have one name.
use Rattle.std.specs.Prelude.{◌≡◌, ℕ, ◌<◌, ◌≤◌, ◌^◌, false, List, ◌∷◌, ◌++◌, length, map, bytes_eq, Some, ⊤}
use Rattle.std.specs.Int.Signed.{mag}
use Rattle.std.specs.List.{count_by}
use Rattle.ocl_base.specs.Lists.{is_among, repeats}
use Rattle.imkl_model.specs.WellFormed.{IsClassModel}
use Rattle.imkl_population.specs.declared.scalar.Scalar.TheVariants as scalar
use Rattle.imkl_population.specs.Population.{Population}
use Rattle.imkl_population.specs.Consistency.{IsConsistent}
use Rattle.ocl_core.specs.declared.operator.Operator.{Operator}
use Rattle.ocl_core.specs.declared.core_tree.Iteration.TheVariants as iteration
use Rattle.ocl_kinds.specs.declared.kind.ScalarKind.{ScalarKind}
use Rattle.rule_values.specs.Value.{Element, Value, element_value, truth_value}
use Rattle.rule_values.specs.Endings.{unique_bodies}
use Rattle.ocl_semantics.specs.Meaning.{operation_value}
use Rattle.owned_values.specs.Meant.{IsElementThere}
use Rattle.explain_why.specs.Names.{Naming, next_name, with_next}
use Rattle.explain_why.specs.Values.{is_object_element, element_text, object_text, class_note}
use Rattle.explain_why.specs.Explanation.{is_first_shown, are_others_shown, decides, deciding}

-- the operands after the first are left out
abbrev pub OthersDecideNothing : Type 0
OthersDecideNothing =
    (p : Population) (operator : Operator) (v w x : Value) (ws xs : List Value) → are_others_shown operator v ≡ false → operation_value p operator v (w ∷ ws) ≡ operation_value p operator v (x ∷ xs)

-- the first operand is left out
abbrev pub FirstDecidesNothing : Type 0
FirstDecidesNothing =
    (p : Population) (operator : Operator) (u v : Value) (ws : List Value) → is_first_shown operator v ws ≡ false → operation_value p operator v ws ≡ operation_value p operator u ws

-- of an `isUnique` that is false, whose bodies are single values or null, two elements at least are of the batch that is shown
abbrev pub RepeatedAreShown : Type 0
RepeatedAreShown =
    (k : ScalarKind) (es : List Element) → unique_bodies (map element_value es) ≡ truth_value false → 2 ≤ count_by (decides (deciding (iteration.IsUnique k) (map element_value es)).which) (map element_value es)

-- a whole number is one of 64 bits
abbrev pub IsInRange : Element → Type 0
IsInRange (Some (scalar.Int n)) = mag n < 2 ^ 64
IsInRange v = ⊤

-- an object's text is no other value's
abbrev pub ObjectsAreToldApart : Type 0
ObjectsAreToldApart =
    (p : Population) (o : ℕ) (v : Element) → IsConsistent p → IsClassModel p.model → o < length p.objects → IsElementThere p v → is_object_element v ≡ false → IsInRange v → element_text p v ≡ object_text p o → ⊥

-- nor is it where its class is behind it
abbrev pub IntroducedAreToldApart : Type 0
IntroducedAreToldApart =
    (p : Population) (o : ℕ) (v : Element) → IsConsistent p → IsClassModel p.model → o < length p.objects → IsElementThere p v → is_object_element v ≡ false → IsInRange v → element_text p v ≡ object_text p o ++ class_note p o → ⊥

-- a variable that is bound has a name that none of those has that are seen beside it
abbrev pub NextNamesAreNew : Type 0
NextNamesAreNew = (s : Naming) → is_among bytes_eq s.seen (next_name s) ≡ false

-- so where no two that are seen have one name, none have in its body
abbrev pub NamesDifferInside : Type 0
NamesDifferInside = (s : Naming) → repeats bytes_eq s.seen ≡ false → repeats bytes_eq (with_next s).seen ≡ false
