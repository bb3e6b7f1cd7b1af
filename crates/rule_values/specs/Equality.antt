-- Equality of values that are not invalid.
use Rattle.std.specs.Prelude.{ℕ, zero, suc, ◌==◌, ◌&&◌, Bool, true, false, List, [], ◌∷◌, if◌then◌else◌}
use Rattle.std.specs.List.{list_all}
use Rattle.ocl_base.specs.Lists.{is_among}
use Rattle.ocl_base.specs.declared.collection_kind.CollectionKind.{CollectionKind}
use Rattle.ocl_base.specs.declared.collection_kind.CollectionKind.TheVariants as collection
use Rattle.imkl_population.specs.Values.{same_scalar}
use Rattle.ocl_kinds.specs.Kinds.{is_same_collection}
use Rattle.rule_values.specs.Value.{Element, Value, Null, Single, Collection, same_element}

-- how often an element stands in a list
abbrev pub occurrences : List Element → Element → ℕ
occurrences [] e = zero
occurrences (f ∷ fs) e = if same_element f e then suc (occurrences fs e) else occurrences fs e

-- the same members
abbrev pub same_members : List Element → List Element → Bool
same_members es fs = list_all (is_among same_element fs) es && list_all (is_among same_element es) fs

-- each element of the first stands as often in the second
abbrev pub occur_as_often : List Element → List Element → Bool
occur_as_often es fs = list_all (λ e. occurrences es e == occurrences fs e) es

-- each as often
abbrev pub same_counts : List Element → List Element → Bool
same_counts es fs = occur_as_often es fs && occur_as_often fs es

-- one by one
abbrev pub same_lists : List Element → List Element → Bool
same_lists [] [] = true
same_lists (e ∷ es) (f ∷ fs) = same_element e f && same_lists es fs
same_lists es fs = false

-- Sets by members, Bags by counts, the ordered ones by list
abbrev pub same_elements : CollectionKind → List Element → List Element → Bool
same_elements collection.Set es fs = same_members es fs
same_elements collection.OrderedSet es fs = same_lists es fs
same_elements collection.Bag es fs = same_counts es fs
same_elements collection.Sequence es fs = same_lists es fs

-- values of different kinds are unequal
abbrev pub equal_values : Value → Value → Bool
equal_values Null Null = true
equal_values (Single v) (Single w) = same_scalar v w
equal_values (Collection c es) (Collection d fs) = is_same_collection c d && same_elements c es fs
equal_values v w = false
