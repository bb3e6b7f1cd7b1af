-- Everything is there in what a tree means, where each name of the tree is one of the class model and everything in the
-- values of its variables is there.
use Rattle.std.proofs.Common.{ℕ, ◌==◌, ◌+ℤ◌, ◌-ℤ◌, Bool, true, false, List, [], ◌∷◌, length, map, Option, Some}
use Rattle.std.specs.Prelude.{pos, ◌*ℤ◌, neg_ℤ, int_div, if◌then◌else◌}
use Rattle.std.specs.Int.{int_min, int_max}
use Rattle.std.specs.Ordering.{int_eq}
use Rattle.std.specs.List.{AllByRecursion, list_any}
use Rattle.ocl_base.proofs.ForAbove.{all_mapped}
use Rattle.ocl_base.specs.Lists.{is_among, variable_at}
use Rattle.imkl_model.specs.ClassModel.{conforms}
use Rattle.imkl_population.specs.declared.scalar.Scalar.TheVariants as scalar
use Rattle.imkl_population.specs.Population.{Population, class_of}
use Rattle.imkl_population.specs.Consistency.{IsConsistent}
use Rattle.ocl_core.specs.declared.operator.PlainOperator.{PlainOperator}
use Rattle.ocl_core.specs.declared.operator.PlainOperator.TheVariants as plain
use Rattle.ocl_core.specs.declared.operator.ClassOperator.{ClassOperator}
use Rattle.ocl_core.specs.declared.operator.ClassOperator.TheVariants as of_class
use Rattle.ocl_core.specs.declared.operator.ElementOperator.{ElementOperator}
use Rattle.ocl_core.specs.declared.operator.ElementOperator.TheVariants as of_elements
use Rattle.ocl_core.specs.declared.operator.Operator.{Operator}
use Rattle.ocl_core.specs.declared.operator.Operator.TheVariants.{Plain, OfClass, OfElements, Equal}
use Rattle.ocl_core.specs.declared.core_tree.Iteration.{Iteration}
use Rattle.ocl_core.specs.declared.core_tree.Iteration.TheVariants as iteration
use Rattle.ocl_core.specs.Core as tree
use Rattle.ocl_core.specs.Core.{Constant, CoreTree, CoreTrees}
use Rattle.ocl_core.specs.Typing.{IsConstantOf}
use Rattle.ocl_semantics.specs.Meaning.{constant_value, plain_value, class_value, element_operation, equality_value, operation_value, iteration_value, iterated, fold_over, folded, chosen, meaning, meanings}
use Rattle.rule_values.specs.Value.{Element, Value, Invalid, Null, Single, Collection, truth_value, object_value, element_value, same_element}
use Rattle.rule_values.specs.Equality.{occurrences}
use Rattle.rule_values.specs.Operations.{integer_value, or_invalid, is_true, is_false, is_invalid}
use Rattle.rule_values.specs.Endings.{Source, is_undecided, count_true, kept_by}
use Rattle.owned_values.specs.Meant.{IsElementThere, AreElementsThere, IsValueThere}
use Rattle.owned_values.proofs.ForAbove.{if_there, known_there, integer_there, on_integers_there, on_integer_there, substring_there, unless_there, on_object_there, as_collection_there, on_elements_there, on_element_there, summation_there, as_set_there, element_there, kept_there, collected_there, joined_there, instances_there, read_there}
use Rattle.ocl_semantics.specs.Resolved.{IsResolved, AreThere}
use Rattle.ocl_semantics.specs.Evaluated.{node_value}

module _ (p : Population) where
  abbrev There : Value → Type 0
  There v = IsValueThere p v

  constant_there : (c : Constant) → IsConstantOf p.model c → There (constant_value c)
  constant_there (tree.Boolean b) h = tt
  constant_there (tree.Integer n) h = tt
  constant_there (tree.Text t) h = tt
  constant_there (tree.Literal e l) h = h
  constant_there tree.Null h = tt
  constant_there tree.Invalid h = tt

  variable_by : (b : Bool) (v : Value) (o : Option Value) → There v → There (or_invalid o) → There (or_invalid (if b then Some v else o))
  variable_by true v o h g = h
  variable_by false v o h g = g

  -- so it is in a variable
  pub variable_there : (vars : List Value) (n : ℕ) → AreThere p vars → There (or_invalid (variable_at vars n))
  variable_there [] n h = tt
  variable_there (v ∷ vs) n h = variable_by (n == length vs) v (variable_at vs n) h.0 (variable_there vs n h.1)

  -- ---- operations

  plain_there : (operator : PlainOperator) (v : Value) (ws : List Value) → There v → There (plain_value operator v ws)
  plain_there plain.Add v (w ∷ ws) h = on_integers_there p _ v w (λ a b. integer_there p (a +ℤ b))
  plain_there plain.Subtract v (w ∷ ws) h = on_integers_there p _ v w (λ a b. integer_there p (a -ℤ b))
  plain_there plain.Multiply v (w ∷ ws) h = on_integers_there p _ v w (λ a b. integer_there p (a *ℤ b))
  plain_there plain.Divide v (w ∷ ws) h = on_integers_there p _ v w (λ a b. if_there p (int_eq b (pos 0)) Invalid _ tt (integer_there p (int_div a b)))
  plain_there plain.Modulo v (w ∷ ws) h = on_integers_there p _ v w (λ a b. if_there p (int_eq b (pos 0)) Invalid _ tt (integer_there p (a -ℤ (int_div a b *ℤ b))))
  plain_there plain.Minimum v (w ∷ ws) h = on_integers_there p _ v w (λ a b. integer_there p (int_min a b))
  plain_there plain.Maximum v (w ∷ ws) h = on_integers_there p _ v w (λ a b. integer_there p (int_max a b))
  plain_there plain.Negate v ws h = on_integer_there p _ v (λ a. integer_there p (neg_ℤ a))
  plain_there plain.Absolute v ws h = on_integer_there p _ v (λ a. integer_there p (int_max a (neg_ℤ a)))
  plain_there plain.Less v (w ∷ ws) h = on_integers_there p _ v w (λ a b. tt)
  plain_there plain.LessEqual v (w ∷ ws) h = on_integers_there p _ v w (λ a b. tt)
  plain_there plain.Greater v (w ∷ ws) h = on_integers_there p _ w v (λ a b. tt)
  plain_there plain.GreaterEqual v (w ∷ ws) h = on_integers_there p _ w v (λ a b. tt)
  plain_there plain.CharacterCount (Single (scalar.Text t)) ws h = integer_there p (pos (length t))
  plain_there plain.Substring v (lower ∷ upper ∷ ws) h = substring_there p v lower upper
  plain_there plain.Not v ws h = known_there p _ _
  plain_there plain.And v (w ∷ ws) h = known_there p _ _
  plain_there plain.Or v (w ∷ ws) h = known_there p _ _
  plain_there plain.Xor v (w ∷ ws) h = known_there p _ _
  plain_there plain.Implies v (w ∷ ws) h = known_there p _ _
  plain_there plain.IsUndefined v ws h = tt
  plain_there plain.IsInvalid v ws h = tt
  plain_there plain.BothNull v (w ∷ ws) h = unless_there p v w _
  plain_there plain.ElementCount v ws h = on_elements_there p _ v (λ es there. integer_there p (pos (length es))) h
  plain_there plain.IsEmpty v ws h = on_elements_there p _ v (λ es there. tt) h
  plain_there plain.Sum v ws h = summation_there p v h
  plain_there operator v ws h = tt

  class_there : (operator : ClassOperator) (c : ℕ) (v : Value) → There v → There (class_value p operator c v)
  class_there of_class.IsKindOf c v h = on_object_there p _ v (λ o there. tt) h
  class_there of_class.IsTypeOf c v h = on_object_there p _ v (λ o there. tt) h
  class_there of_class.AsType c v h = on_object_there p _ v (λ o there. if_there p (conforms p.model (class_of p o) c) (object_value o) Invalid there tt) h

  element_operation_there : (operator : ElementOperator) (v : Value) (ws : List Value) → There v → There (element_operation operator v ws)
  element_operation_there of_elements.Includes v (w ∷ ws) h = on_elements_there p _ v (λ es there. on_element_there p (λ e. truth_value (is_among same_element es e)) w (λ e. tt {0})) h
  element_operation_there of_elements.Occurrences v (w ∷ ws) h = on_elements_there p _ v (λ es there. on_element_there p (λ e. integer_value (pos (occurrences es e))) w (λ e. integer_there p (pos (occurrences es e)))) h
  element_operation_there of_elements.IncludesAll v (Collection c fs ∷ ws) h = on_elements_there p _ v (λ es there. tt) h
  element_operation_there of_elements.IncludesAll v (w ∷ ws) h = on_elements_there p _ v (λ es there. tt) h
  element_operation_there of_elements.ExcludesAll v (Collection c fs ∷ ws) h = on_elements_there p _ v (λ es there. tt) h
  element_operation_there of_elements.ExcludesAll v (w ∷ ws) h = on_elements_there p _ v (λ es there. tt) h
  element_operation_there of_elements.AsSet v ws h = as_set_there p v h
  element_operation_there operator v ws h = tt

  equality_there : (v : Value) (ws : List Value) → There (equality_value v ws)
  equality_there v (w ∷ ws) = unless_there p v w _
  equality_there v [] = tt

  -- and in what an operation gives
  pub operation_there : (operator : Operator) (v : Value) (ws : List Value) → There v → There (operation_value p operator v ws)
  operation_there (Plain operator) v ws h = plain_there operator v ws h
  operation_there (OfClass operator c) v ws h = class_there operator c v h
  operation_there (OfElements operator k) v ws h = element_operation_there operator v ws h
  operation_there (Equal k) v ws h = equality_there v ws

  -- ---- iterations

  iteration_there : (i : Iteration) (s : Source) (bs : List Value) → AreElementsThere p s.elements → AllByRecursion There bs → There (iteration_value i s bs)
  iteration_there iteration.ForAll s bs h g = known_there p _ _
  iteration_there iteration.Exists s bs h g = known_there p _ _
  iteration_there iteration.One s bs h g = if_there p (list_any is_undecided bs) Invalid (truth_value (count_true bs == 1)) tt tt
  iteration_there iteration.Select s bs h g = if_there p (list_any is_undecided bs) Invalid (Collection s.kind (kept_by is_true s.elements bs)) tt (kept_there p is_true s.elements bs h)
  iteration_there iteration.Reject s bs h g = if_there p (list_any is_undecided bs) Invalid (Collection s.kind (kept_by is_false s.elements bs)) tt (kept_there p is_false s.elements bs h)
  iteration_there iteration.Collect s bs h g = if_there p (list_any is_invalid bs) Invalid _ tt (collected_there p bs g)
  iteration_there iteration.CollectFlat s bs h g = if_there p (list_any is_invalid bs) Invalid _ tt (joined_there p bs g)
  iteration_there (iteration.IsUnique k) s bs h g = if_there p (list_any is_invalid bs) Invalid _ tt tt

  iterated_there : (i : Iteration) (v : Value) (body : Element → Value) → ((e : Element) → IsElementThere p e → There (body e)) → There v → There (iterated i v body)
  iterated_there i (Collection c es) body step h =
      iteration_there i (record { kind = c; elements = es }) (map body es) h (all_mapped (IsElementThere p) There body step es h)
  iterated_there i Invalid body step h = tt
  iterated_there i Null body step h = tt
  iterated_there i (Single v) body step h = tt

  -- ---- folds

  fold_there : (next : Element → Value → Value) → ((e : Element) (a : Value) → IsElementThere p e → There a → There (next e a)) → (a : Value) (es : List Element) → There a → AreElementsThere p es → There (fold_over next a es)
  fold_there next step a [] h g = h
  fold_there next step a (e ∷ es) h g = fold_there next step (next e a) es (step e a g.0 h) g.1

  folded_there : (v start : Value) (next : Element → Value → Value) → ((e : Element) (a : Value) → IsElementThere p e → There a → There (next e a)) → There v → There start → There (folded v start next)
  folded_there (Collection c es) start next step h g = fold_there next step start es g h
  folded_there Invalid start next step h g = tt
  folded_there Null start next step h g = tt
  folded_there (Single v) start next step h g = tt

  chosen_there : (condition v w : Value) → There v → There w → There (chosen condition v w)
  chosen_there (Single (scalar.Bool true)) v w h g = h
  chosen_there (Single (scalar.Bool false)) v w h g = g
  chosen_there condition v w h g = tt

  -- ---- trees

  module _ (consistent : IsConsistent p) where
    -- everything is there in what a tree means
    pub meaning_there : (t : CoreTree) (vars : List Value) → IsResolved p.model t → AreThere p vars → There (meaning p t vars)
    meaning_there (tree.Value c) vars h there = constant_there c h
    meaning_there (tree.Variable n) vars h there = variable_there vars n there
    meaning_there (tree.AllInstances c) vars h there = instances_there p c
    meaning_there (tree.Feature source f) vars h there = read_there p consistent f (meaning p source vars) (meaning_there source vars h.0 there)
    meaning_there (tree.Operation operator first others) vars h there =
        operation_there operator (meaning p first vars) (meanings p others vars) (meaning_there first vars h.0 there)
    meaning_there (tree.AsCollection c k source) vars h there = as_collection_there p c (meaning p source vars) (meaning_there source vars h there)
    meaning_there (tree.Iterate i source body) vars h there =
        iterated_there i (meaning p source vars) (λ e. meaning p body (element_value e ∷ vars)) (λ e here. meaning_there body (element_value e ∷ vars) h.1 (element_there p e here, there)) (meaning_there source vars h.0 there)
    meaning_there (tree.Fold k source start body) vars h there =
        folded_there (meaning p source vars) (meaning p start vars) (λ e a. meaning p body (a ∷ element_value e ∷ vars)) (λ e a here before. meaning_there body (a ∷ element_value e ∷ vars) h.1.1 (before, (element_there p e here, there))) (meaning_there source vars h.0 there) (meaning_there start vars h.1.0 there)
    meaning_there (tree.Let value body) vars h there =
        meaning_there body (meaning p value vars ∷ vars) h.1 (meaning_there value vars h.0 there, there)
    meaning_there (tree.If k condition first second) vars h there =
        chosen_there (meaning p condition vars) (meaning p first vars) (meaning p second vars) (meaning_there first vars h.1.0 there) (meaning_there second vars h.1.1 there)

    -- and so it is in what a node makes of a value
    pub node_there : (t : CoreTree) (vars : List Value) (v : Value) → IsResolved p.model t → AreThere p vars → There v → There (node_value p vars t v)
    node_there (tree.Feature source f) vars v h there here = read_there p consistent f v here
    node_there (tree.Operation operator first others) vars v h there here = operation_there operator v (meanings p others vars) here
    node_there (tree.AsCollection c k source) vars v h there here = as_collection_there p c v here
    node_there (tree.Iterate i source body) vars v h there here =
        iterated_there i v (λ e. meaning p body (element_value e ∷ vars)) (λ e inside. meaning_there body (element_value e ∷ vars) h.1 (element_there p e inside, there)) here
    node_there (tree.Fold k source start body) vars v h there here =
        folded_there v (meaning p start vars) (λ e a. meaning p body (a ∷ element_value e ∷ vars)) (λ e a inside before. meaning_there body (a ∷ element_value e ∷ vars) h.1.1 (before, (element_there p e inside, there))) here (meaning_there start vars h.1.0 there)
    node_there (tree.Value c) vars v h there here = here
    node_there (tree.Variable n) vars v h there here = here
    node_there (tree.AllInstances c) vars v h there here = here
    node_there (tree.Let value body) vars v h there here = here
    node_there (tree.If k condition first second) vars v h there here = here
