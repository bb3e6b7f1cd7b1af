-- The instruction of an operator takes as many operands as the operator has, and gives what the operator means.
use Rattle.std.proofs.Common.{◌≡◌, ℕ, suc, true, List, [], ◌∷◌, length, drop, Option, refl, sym, ap, ◌∙◌, subst}
use Rattle.std.proofs.lemmas.Bool.{and_parts}
use Rattle.imkl_model.specs.ClassModel.{Model}
use Rattle.ocl_kinds.specs.declared.kind.ScalarKind.{ScalarKind}
use Rattle.ocl_kinds.specs.declared.kind.Kind.{Kind}
use Rattle.ocl_kinds.specs.declared.kind.Kind.TheVariants.{Scalar, Collection}
use Rattle.ocl_core.specs.declared.operator.PlainOperator.{PlainOperator}
use Rattle.ocl_core.specs.declared.operator.PlainOperator.TheVariants as plain
use Rattle.ocl_core.specs.declared.operator.ClassOperator.{ClassOperator}
use Rattle.ocl_core.specs.declared.operator.ClassOperator.TheVariants as of_class
use Rattle.ocl_core.specs.declared.operator.ElementOperator.{ElementOperator}
use Rattle.ocl_core.specs.declared.operator.ElementOperator.TheVariants as of_elements
use Rattle.ocl_core.specs.declared.operator.Operator.{Operator}
use Rattle.ocl_core.specs.declared.operator.Operator.TheVariants.{Plain, OfClass, OfElements, Equal}
use Rattle.ocl_core.specs.Core as tree
use Rattle.ocl_core.specs.Core.{CoreTrees}
use Rattle.ocl_core.specs.Typing.{Operand, are_operands, plain_operands, AreOthers, IsOperation, AreTyped}
use Rattle.imkl_population.specs.Population.{Population}
use Rattle.rule_verify.specs.declared.named.Named.{Named}
use Rattle.rule_verify.specs.InstrKinds.{operands_of}
use Rattle.rule_values.specs.Value.{Value}
use Rattle.rule_values.specs.Operations.{or_invalid, kind_test, type_test, cast}
use Rattle.rule_machine.specs.Machine.{Setting, judged_by, result_of, on_class_named}
use Rattle.ocl_semantics.specs.Meaning.{operation_value, meanings}
use Rattle.ocl_compile.specs.Numbering.{Numbering, operator_uses}
use Rattle.ocl_compile.specs.Translation.{operator_instr}
use Rattle.ocl_compile.specs.ResolvedUses.{AreUsesResolved}

-- operands put one after another on those below
abbrev pub stacked : List Value → List Value → List Value
stacked [] os = os
stacked (w ∷ ws) os = stacked ws (w ∷ os)

-- ---- how many operands

abbrev element_count : ElementOperator → ℕ
element_count of_elements.AsSet = 1
element_count operator = 2

abbrev pub operand_count : Operator → ℕ
operand_count (Plain operator) = length (plain_operands operator)
operand_count (OfClass operator c) = 1
operand_count (OfElements operator k) = element_count operator
operand_count (Equal k) = 2

as_many : (m : Model) (ws : List Operand) (ks : List Kind) → are_operands m ws ks ≡ true → length ks ≡ length ws
as_many m [] [] e = refl
as_many m [] (k ∷ ks) e = cc
as_many m (w ∷ ws) [] e = cc
as_many m (w ∷ ws) (k ∷ ks) e = ap suc (as_many m ws ks (and_parts _ _ e).1)

others_counted : (m : Model) (operator : ElementOperator) (k : ScalarKind) (ks : List Kind) → AreOthers m operator k ks → suc (length ks) ≡ element_count operator
others_counted m of_elements.Includes k [] h = absurd h
others_counted m of_elements.Includes k (Scalar d ∷ []) h = refl
others_counted m of_elements.Includes k (Collection c d ∷ []) h = absurd h
others_counted m of_elements.Includes k (Scalar d ∷ l ∷ ks) h = absurd h
others_counted m of_elements.Includes k (Collection c d ∷ l ∷ ks) h = absurd h
others_counted m of_elements.Occurrences k [] h = absurd h
others_counted m of_elements.Occurrences k (Scalar d ∷ []) h = refl
others_counted m of_elements.Occurrences k (Collection c d ∷ []) h = absurd h
others_counted m of_elements.Occurrences k (Scalar d ∷ l ∷ ks) h = absurd h
others_counted m of_elements.Occurrences k (Collection c d ∷ l ∷ ks) h = absurd h
others_counted m of_elements.IncludesAll k [] h = absurd h
others_counted m of_elements.IncludesAll k (Scalar d ∷ []) h = absurd h
others_counted m of_elements.IncludesAll k (Collection c d ∷ []) h = refl
others_counted m of_elements.IncludesAll k (Scalar d ∷ l ∷ ks) h = absurd h
others_counted m of_elements.IncludesAll k (Collection c d ∷ l ∷ ks) h = absurd h
others_counted m of_elements.ExcludesAll k [] h = absurd h
others_counted m of_elements.ExcludesAll k (Scalar d ∷ []) h = absurd h
others_counted m of_elements.ExcludesAll k (Collection c d ∷ []) h = refl
others_counted m of_elements.ExcludesAll k (Scalar d ∷ l ∷ ks) h = absurd h
others_counted m of_elements.ExcludesAll k (Collection c d ∷ l ∷ ks) h = absurd h
others_counted m of_elements.AsSet k [] h = refl
others_counted m of_elements.AsSet k (x ∷ ks) h = absurd h

-- an operation that is typed has the operands that it takes
pub operands_counted : (m : Model) (operator : Operator) (x : Kind) (xs : List Kind) (gives : Kind) → IsOperation m operator x xs gives → suc (length xs) ≡ operand_count operator
operands_counted m (Plain operator) x xs gives h = as_many m (plain_operands operator) (x ∷ xs) h.0
operands_counted m (OfClass operator c) x xs gives h = ap (λ (l : List Kind). suc (length l)) h.2
operands_counted m (OfElements operator k) x xs gives h = others_counted m operator k xs h.1.4
operands_counted m (Equal k) x xs gives h = ap (λ (l : List Kind). suc (length l)) h.2.1

-- as many values as kinds
pub meanings_counted : (p : Population) (vars : List Value) (g : List Kind) (ts : CoreTrees) (ks : List Kind) → AreTyped p.model g ts ks → length (meanings p ts vars) ≡ length ks
meanings_counted p vars g tree.no_core ks h = ap (λ (l : List Kind). length l) (sym h)
meanings_counted p vars g (tree.one_core t ts) ks h = ap suc (meanings_counted p vars g ts h.1 h.3) ∙ ap (λ (l : List Kind). length l) (sym h.4)

-- ---- lists of few values

none_more : (ws : List Value) → suc (length ws) ≡ 1 → ws ≡ []
none_more [] e = refl
none_more (w ∷ ws) e = cc

one_more : (ws : List Value) → suc (length ws) ≡ 2 → (w : Value) × (ws ≡ w ∷ [])
one_more [] e = cc
one_more (w ∷ []) e = (w, refl)
one_more (w ∷ x ∷ ws) e = cc

two_more : (ws : List Value) → suc (length ws) ≡ 3 → (w : Value) × (x : Value) × (ws ≡ w ∷ x ∷ [])
two_more [] e = cc
two_more (w ∷ []) e = cc
two_more (w ∷ x ∷ []) e = (w, x, refl)
two_more (w ∷ x ∷ y ∷ ws) e = cc

-- ---- values

module _ (s : Setting) (n : Numbering) (vars : List Value) (v : Value) (os : List Value) where
  -- the instruction gives the value of the operator, in the place of its operands
  pub record Operates (operator : Operator) (ws : List Value) : Type 0 where
    pub gives : or_invalid (result_of s vars (operator_instr n operator) (stacked ws (v ∷ os))) ≡ operation_value s.population operator v ws
    pub leaves : drop (length (operands_of (judged_by s) (operator_instr n operator))) (stacked ws (v ∷ os)) ≡ os

  with_none : (operator : Operator) (ws : List Value) → ws ≡ [] → Operates operator [] → Operates operator ws
  with_none operator ws e h = subst (Operates operator) (sym e) h

  with_one : (operator : Operator) (ws : List Value) → suc (length ws) ≡ 2 → ((w : Value) → Operates operator (w ∷ [])) → Operates operator ws
  with_one operator ws e h = let x = one_more ws e in subst (Operates operator) (sym x.1) (h x.0)

  plain_operates : (operator : PlainOperator) (ws : List Value) → suc (length ws) ≡ length (plain_operands operator) → Operates (Plain operator) ws
  plain_operates plain.Add ws e = with_one _ ws e (λ w. record { gives = refl; leaves = refl })
  plain_operates plain.Subtract ws e = with_one _ ws e (λ w. record { gives = refl; leaves = refl })
  plain_operates plain.Multiply ws e = with_one _ ws e (λ w. record { gives = refl; leaves = refl })
  plain_operates plain.Divide ws e = with_one _ ws e (λ w. record { gives = refl; leaves = refl })
  plain_operates plain.Modulo ws e = with_one _ ws e (λ w. record { gives = refl; leaves = refl })
  plain_operates plain.Minimum ws e = with_one _ ws e (λ w. record { gives = refl; leaves = refl })
  plain_operates plain.Maximum ws e = with_one _ ws e (λ w. record { gives = refl; leaves = refl })
  plain_operates plain.Negate ws e = with_none _ ws (none_more ws e) (record { gives = refl; leaves = refl })
  plain_operates plain.Absolute ws e = with_none _ ws (none_more ws e) (record { gives = refl; leaves = refl })
  plain_operates plain.Less ws e = with_one _ ws e (λ w. record { gives = refl; leaves = refl })
  plain_operates plain.LessEqual ws e = with_one _ ws e (λ w. record { gives = refl; leaves = refl })
  plain_operates plain.Greater ws e = with_one _ ws e (λ w. record { gives = refl; leaves = refl })
  plain_operates plain.GreaterEqual ws e = with_one _ ws e (λ w. record { gives = refl; leaves = refl })
  plain_operates plain.CharacterCount ws e = with_none _ ws (none_more ws e) (record { gives = refl; leaves = refl })
  plain_operates plain.Substring ws e =
      let x = two_more ws e in
      subst (Operates (Plain plain.Substring)) (sym x.2) (record { gives = refl; leaves = refl })
  plain_operates plain.Not ws e = with_none _ ws (none_more ws e) (record { gives = refl; leaves = refl })
  plain_operates plain.And ws e = with_one _ ws e (λ w. record { gives = refl; leaves = refl })
  plain_operates plain.Or ws e = with_one _ ws e (λ w. record { gives = refl; leaves = refl })
  plain_operates plain.Xor ws e = with_one _ ws e (λ w. record { gives = refl; leaves = refl })
  plain_operates plain.Implies ws e = with_one _ ws e (λ w. record { gives = refl; leaves = refl })
  plain_operates plain.IsUndefined ws e = with_none _ ws (none_more ws e) (record { gives = refl; leaves = refl })
  plain_operates plain.IsInvalid ws e = with_none _ ws (none_more ws e) (record { gives = refl; leaves = refl })
  plain_operates plain.BothNull ws e = with_one _ ws e (λ w. record { gives = refl; leaves = refl })
  plain_operates plain.ElementCount ws e = with_none _ ws (none_more ws e) (record { gives = refl; leaves = refl })
  plain_operates plain.IsEmpty ws e = with_none _ ws (none_more ws e) (record { gives = refl; leaves = refl })
  plain_operates plain.Sum ws e = with_none _ ws (none_more ws e) (record { gives = refl; leaves = refl })

  element_operates : (operator : ElementOperator) (k : ScalarKind) (ws : List Value) → suc (length ws) ≡ element_count operator → Operates (OfElements operator k) ws
  element_operates of_elements.Includes k ws e = with_one _ ws e (λ w. record { gives = refl; leaves = refl })
  element_operates of_elements.Occurrences k ws e = with_one _ ws e (λ w. record { gives = refl; leaves = refl })
  element_operates of_elements.IncludesAll k ws e = with_one _ ws e (λ w. record { gives = refl; leaves = refl })
  element_operates of_elements.ExcludesAll k ws e = with_one _ ws e (λ w. record { gives = refl; leaves = refl })
  element_operates of_elements.AsSet k ws e = with_none _ ws (none_more ws e) (record { gives = refl; leaves = refl })

  class_operates : (operator : ClassOperator) (c : ℕ) → AreUsesResolved s.population.model s.unit n (operator_uses (OfClass operator c)) → Operates (OfClass operator c) []
  class_operates of_class.IsKindOf c h =
      record { gives = ap (λ (x : Option Named). or_invalid (on_class_named (λ d. kind_test s.population d v) x)) h.0; leaves = refl }
  class_operates of_class.IsTypeOf c h =
      record { gives = ap (λ (x : Option Named). or_invalid (on_class_named (λ d. type_test s.population d v) x)) h.0; leaves = refl }
  class_operates of_class.AsType c h =
      record { gives = ap (λ (x : Option Named). or_invalid (on_class_named (λ d. cast s.population d v) x)) h.0; leaves = refl }

  -- the instruction of each operator gives its value, where there are as many operands as it takes
  pub operates : (operator : Operator) (ws : List Value) → suc (length ws) ≡ operand_count operator → AreUsesResolved s.population.model s.unit n (operator_uses operator) → Operates operator ws
  operates (Plain operator) ws e h = plain_operates operator ws e
  operates (OfClass operator c) ws e h = with_none _ ws (none_more ws e) (class_operates operator c h)
  operates (OfElements operator k) ws e h = element_operates operator k ws e
  operates (Equal k) ws e h = with_one _ ws e (λ w. record { gives = refl; leaves = refl })
