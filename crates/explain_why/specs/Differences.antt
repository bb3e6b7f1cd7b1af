-- What makes an operation on collections false: the elements that one of them lacks, or that both have.
use Rattle.std.specs.Prelude.{ℕ, List, [], ◌∷◌, ◌++◌, codes}
use Rattle.std.specs.List.{filter}
use Rattle.imkl_population.specs.Population.{Population}
use Rattle.ocl_core.specs.declared.operator.ElementOperator.{ElementOperator}
use Rattle.ocl_core.specs.declared.operator.ElementOperator.TheVariants as of
use Rattle.ocl_core.specs.declared.operator.Operator.{Operator}
use Rattle.ocl_core.specs.declared.operator.Operator.TheVariants.{OfElements, Equal}
use Rattle.rule_values.specs.Value.{Element, Value, Collection, element_value}
use Rattle.rule_values.specs.Operations.{is_true, is_false, membership}
use Rattle.explain_why.specs.Values.{max_beside, first_elements_text, some_elements_text, value_text}

-- the elements of a collection, none of another value
abbrev pub elements_in : Value → List Element
elements_in (Collection c es) = es
elements_in v = []

-- of some elements those that a collection has, and those that it lacks
abbrev pub had_by : Value → List Element → List Element
had_by v es = filter (λ e. is_true (membership v (element_value e))) es

abbrev pub lacked_by : Value → List Element → List Element
lacked_by v es = filter (λ e. is_false (membership v (element_value e))) es

-- elements behind words, nothing where there are none
abbrev pub listed_text : Population → List ℕ → List Element → List ℕ
listed_text p words [] = []
listed_text p words (e ∷ es) = words ++ some_elements_text p (e ∷ es)

-- what two collections lack of one another; of equal elements, that they stand otherwise
abbrev pub unequal_text : Population → List Element → List Element → List ℕ
unequal_text p [] [] = codes ": they have the same elements, in another number or order"
unequal_text p [] (e ∷ es) = listed_text p (codes ": the second lacks ") (e ∷ es)
unequal_text p (e ∷ es) others = listed_text p (codes ": the first lacks ") (e ∷ es) ++ listed_text p (codes "; the second lacks ") others

-- a value that is no element, and some elements, none of which it is
abbrev pub beside_text : Population → List Element → List ℕ
beside_text p [] = codes "; it is empty"
beside_text p (e ∷ es) = codes "; it has " ++ first_elements_text p max_beside (e ∷ es)

abbrev pub missing_text : Population → Value → Value → List ℕ
missing_text p v w = codes ": it lacks " ++ (value_text p w ++ beside_text p (elements_in v))

abbrev pub element_difference : Population → ElementOperator → Value → Value → List ℕ
element_difference p of.Includes v w = missing_text p v w
element_difference p of.IncludesAll v w = listed_text p (codes ": it lacks ") (lacked_by v (elements_in w))
element_difference p of.ExcludesAll v w = listed_text p (codes ": it has ") (had_by v (elements_in w))
element_difference p operator v w = []

-- of two collections that are not equal
abbrev pub equality_difference : Population → Value → Value → List ℕ
equality_difference p (Collection c es) (Collection d fs) =
    unequal_text p (lacked_by (Collection c es) fs) (lacked_by (Collection d fs) es)
equality_difference p v w = []

-- an operation that is false, by its operands
abbrev pub difference_text : Population → Operator → Value → List Value → List ℕ
difference_text p (OfElements operator k) v (w ∷ ws) = element_difference p operator v w
difference_text p (Equal k) v (w ∷ ws) = equality_difference p v w
difference_text p operator v ws = []
