-- What core trees mean: by recursion on the tree, over the values of its variables and a population.
use Rattle.std.specs.Prelude.{ℕ, pos, List, [], ◌∷◌, map, true, false}
use Rattle.std.specs.Str.{chars}
use Rattle.imkl_population.specs.declared.scalar.Scalar.TheVariants as scalar
use Rattle.imkl_population.specs.Population.{Population}
use Rattle.ocl_base.specs.Lists.{variable_at}
use Rattle.ocl_core.specs.declared.operator.PlainOperator.{PlainOperator}
use Rattle.ocl_core.specs.declared.operator.PlainOperator.TheVariants as plain
use Rattle.ocl_core.specs.declared.operator.ClassOperator.{ClassOperator}
use Rattle.ocl_core.specs.declared.operator.ClassOperator.TheVariants as of_class
use Rattle.ocl_core.specs.declared.operator.ElementOperator.{ElementOperator}
use Rattle.ocl_core.specs.declared.operator.ElementOperator.TheVariants as of_elements
use Rattle.ocl_core.specs.declared.operator.Operator.{Operator}
use Rattle.ocl_core.specs.declared.operator.Operator.TheVariants.{Plain, OfClass, OfElements, Equal}
use Rattle.ocl_core.specs.declared.core_tree.Iteration.{Iteration}
use Rattle.ocl_core.specs.declared.core_tree.Iteration.TheVariants as iteration
use Rattle.ocl_core.specs.Core as tree
use Rattle.ocl_core.specs.Core.{Constant, CoreTree, CoreTrees, CheckedRule}
use Rattle.rule_values.specs.declared.verdict.Verdict.{Verdict}
use Rattle.rule_values.specs.Value as value
use Rattle.rule_values.specs.Value.{Element, Value, truth_value, object_value, element_value}
use Rattle.rule_values.specs.Operations.{or_invalid, addition, subtraction, multiplication, division, remainder, lesser, greater, negative, absolute, less_than, at_most, negation, conjunction, disjunction, exclusive_disjunction, implication, equality, both_null, undefined_test, invalid_test, text_length, substring, kind_test, type_test, cast, value_read, all_instances, as_collection, collection_size, emptiness, membership, occurrence_count, inclusion, exclusion, summation, as_set}
use Rattle.rule_values.specs.Endings.{Source, for_all, exists, one, select, reject, collect, collect_flat, unique_bodies}
use Rattle.rule_values.specs.Verdict.{verdict_of}

-- ---- constants

abbrev pub constant_value : Constant → Value
constant_value (tree.Boolean b) = truth_value b
constant_value (tree.Integer n) = value.Single (scalar.Int (pos n))
constant_value (tree.Text t) = value.Single (scalar.Text (chars t))
constant_value (tree.Literal e l) = value.Single (scalar.Literal e l)
constant_value tree.Null = value.Null
constant_value tree.Invalid = value.Invalid

-- ---- operations, on a first operand and the others in order

abbrev pub plain_value : PlainOperator → Value → List Value → Value
plain_value plain.Add v [] = value.Invalid
plain_value plain.Add v (w ∷ ws) = addition v w
plain_value plain.Subtract v [] = value.Invalid
plain_value plain.Subtract v (w ∷ ws) = subtraction v w
plain_value plain.Multiply v [] = value.Invalid
plain_value plain.Multiply v (w ∷ ws) = multiplication v w
plain_value plain.Divide v [] = value.Invalid
plain_value plain.Divide v (w ∷ ws) = division v w
plain_value plain.Modulo v [] = value.Invalid
plain_value plain.Modulo v (w ∷ ws) = remainder v w
plain_value plain.Minimum v [] = value.Invalid
plain_value plain.Minimum v (w ∷ ws) = lesser v w
plain_value plain.Maximum v [] = value.Invalid
plain_value plain.Maximum v (w ∷ ws) = greater v w
plain_value plain.Negate v ws = negative v
plain_value plain.Absolute v ws = absolute v
plain_value plain.Less v [] = value.Invalid
plain_value plain.Less v (w ∷ ws) = less_than v w
plain_value plain.LessEqual v [] = value.Invalid
plain_value plain.LessEqual v (w ∷ ws) = at_most v w
plain_value plain.Greater v [] = value.Invalid
plain_value plain.Greater v (w ∷ ws) = less_than w v
plain_value plain.GreaterEqual v [] = value.Invalid
plain_value plain.GreaterEqual v (w ∷ ws) = at_most w v
plain_value plain.CharacterCount v ws = text_length v
plain_value plain.Substring v [] = value.Invalid
plain_value plain.Substring v (lower ∷ []) = value.Invalid
plain_value plain.Substring v (lower ∷ upper ∷ ws) = substring v lower upper
plain_value plain.Not v ws = negation v
plain_value plain.And v [] = value.Invalid
plain_value plain.And v (w ∷ ws) = conjunction v w
plain_value plain.Or v [] = value.Invalid
plain_value plain.Or v (w ∷ ws) = disjunction v w
plain_value plain.Xor v [] = value.Invalid
plain_value plain.Xor v (w ∷ ws) = exclusive_disjunction v w
plain_value plain.Implies v [] = value.Invalid
plain_value plain.Implies v (w ∷ ws) = implication v w
plain_value plain.IsUndefined v ws = undefined_test v
plain_value plain.IsInvalid v ws = invalid_test v
plain_value plain.BothNull v [] = value.Invalid
plain_value plain.BothNull v (w ∷ ws) = both_null v w
plain_value plain.ElementCount v ws = collection_size v
plain_value plain.IsEmpty v ws = emptiness v
plain_value plain.Sum v ws = summation v

abbrev pub class_value : Population → ClassOperator → ℕ → Value → Value
class_value p of_class.IsKindOf c v = kind_test p c v
class_value p of_class.IsTypeOf c v = type_test p c v
class_value p of_class.AsType c v = cast p c v

abbrev pub element_operation : ElementOperator → Value → List Value → Value
element_operation of_elements.Includes v [] = value.Invalid
element_operation of_elements.Includes v (w ∷ ws) = membership v w
element_operation of_elements.Occurrences v [] = value.Invalid
element_operation of_elements.Occurrences v (w ∷ ws) = occurrence_count v w
element_operation of_elements.IncludesAll v [] = value.Invalid
element_operation of_elements.IncludesAll v (w ∷ ws) = inclusion v w
element_operation of_elements.ExcludesAll v [] = value.Invalid
element_operation of_elements.ExcludesAll v (w ∷ ws) = exclusion v w
element_operation of_elements.AsSet v ws = as_set v

abbrev pub equality_value : Value → List Value → Value
equality_value v (w ∷ ws) = equality v w
equality_value v [] = value.Invalid

abbrev pub operation_value : Population → Operator → Value → List Value → Value
operation_value p (Plain operator) v ws = plain_value operator v ws
operation_value p (OfClass operator c) v ws = class_value p operator c v
operation_value p (OfElements operator k) v ws = element_operation operator v ws
operation_value p (Equal k) v ws = equality_value v ws

-- ---- iterations

-- what an iteration over a source gives, by what its body gives for each element
abbrev pub iteration_value : Iteration → Source → List Value → Value
iteration_value iteration.ForAll s bs = for_all bs
iteration_value iteration.Exists s bs = exists bs
iteration_value iteration.One s bs = one bs
iteration_value iteration.Select s bs = select s bs
iteration_value iteration.Reject s bs = reject s bs
iteration_value iteration.Collect s bs = collect s bs
iteration_value iteration.CollectFlat s bs = collect_flat s bs
iteration_value (iteration.IsUnique k) s bs = unique_bodies bs

-- over what is no collection it is invalid
abbrev pub iterated : Iteration → Value → (Element → Value) → Value
iterated i (value.Collection c es) body = iteration_value i (record { kind = c; elements = es }) (map body es)
iterated i v body = value.Invalid

-- ---- folds

-- what the accumulator is after these elements, one after another, if it is this before them
abbrev pub fold_over : (Element → Value → Value) → Value → List Element → Value
fold_over next a [] = a
fold_over next a (e ∷ es) = fold_over next (next e a) es

-- over what is no collection it is invalid
abbrev pub folded : Value → Value → (Element → Value → Value) → Value
folded (value.Collection c es) start next = fold_over next start es
folded v start next = value.Invalid

-- ---- if

-- neither branch is chosen by null or by invalid
abbrev pub chosen : Value → Value → Value → Value
chosen (value.Single (scalar.Bool true)) v w = v
chosen (value.Single (scalar.Bool false)) v w = w
chosen condition v w = value.Invalid

-- ---- trees

-- the variables have these values, the newest first
module _ (p : Population) where
  abbrev mutual
    pub meaning : CoreTree → List Value → Value
    meaning (tree.Value c) vars = constant_value c
    meaning (tree.Variable n) vars = or_invalid (variable_at vars n)
    meaning (tree.AllInstances c) vars = all_instances p c
    meaning (tree.Feature source f) vars = or_invalid (value_read p f (meaning source vars))
    meaning (tree.Operation operator first others) vars =
        operation_value p operator (meaning first vars) (meanings others vars)
    meaning (tree.AsCollection c k source) vars = as_collection c (meaning source vars)
    meaning (tree.Iterate i source body) vars =
        iterated i (meaning source vars) (λ e. meaning body (element_value e ∷ vars))
    meaning (tree.Fold k source start body) vars =
        folded (meaning source vars) (meaning start vars) (λ e a. meaning body (a ∷ element_value e ∷ vars))
    meaning (tree.Let v body) vars = meaning body (meaning v vars ∷ vars)
    meaning (tree.If k condition first second) vars =
        chosen (meaning condition vars) (meaning first vars) (meaning second vars)

    pub meanings : CoreTrees → List Value → List Value
    meanings tree.no_core vars = []
    meanings (tree.one_core first rest) vars = meaning first vars ∷ meanings rest vars

-- ---- rules

-- what a rule says of an object: the verdict that its expression means
abbrev pub meant_verdict : Population → CheckedRule → ℕ → Verdict
meant_verdict p r o = verdict_of (meaning p r.tree (object_value o ∷ []))
