-- The kind of the Set of what a collection holds.
use Rattle.std.proofs.Common.{◌≡◌, true, not, refl, ap}
use Rattle.std.specs.List.{list_all}
use Rattle.std.proofs.lemmas.Bool.{and_parts, and_from}
use Rattle.ocl_base.specs.declared.collection_kind.CollectionKind.{CollectionKind}
use Rattle.ocl_base.specs.declared.collection_kind.CollectionKind.TheVariants as collection
use Rattle.imkl_population.specs.Population.{Population}
use Rattle.ocl_kinds.specs.declared.kind.ScalarKind.{ScalarKind}
use Rattle.ocl_kinds.specs.declared.kind.Kind.TheVariants as kind
use Rattle.ocl_kinds.specs.Kinds.{is_same_collection}
use Rattle.rule_values.specs.Value as value
use Rattle.rule_values.specs.Value.{Value, is_element_in, are_elements, is_collection_in, is_in}
use Rattle.rule_values.specs.Operations.{as_set}
use Rattle.rule_values.proofs.Distinct.{distinct_apart, distinct_all}

-- of a collection of a kind, the Set of its elements is a Set of that kind
pub as_set_in : (p : Population) (v : Value) (c : CollectionKind) (k : ScalarKind) → is_in p v (kind.Collection c k) ≡ true → is_in p (as_set v) (kind.Collection collection.Set k) ≡ true
as_set_in p (value.Collection d es) c k h =
    let all = (and_parts (are_elements d es) (list_all (is_element_in p k) es) (and_parts (is_same_collection d c) (is_collection_in p d es k) h).1).1 in
    and_from _ _ (ap not (distinct_apart es)) (distinct_all (is_element_in p k) es all)
as_set_in p value.Invalid c k h = refl
as_set_in p v c k h = cc
