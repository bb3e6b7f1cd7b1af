-- What iterations give, by their elements and by what their body gave for each: conditions on whole lists.
use Rattle.std.specs.Prelude.{ℕ, suc, zero, ◌==◌, ◌||◌, Bool, not, List, [], ◌∷◌, ◌++◌, if◌then◌else◌}
use Rattle.std.specs.List.{list_all, list_any, filter_map}
use Rattle.ocl_base.specs.Lists.{repeats}
use Rattle.ocl_base.specs.declared.collection_kind.CollectionKind.{CollectionKind}
use Rattle.ocl_kinds.specs.Kinds.{collected_kind}
use Rattle.rule_values.specs.Value.{Element, Value, Invalid, Collection, truth_value, as_element, same_element}
use Rattle.rule_values.specs.Operations.{is_true, is_false, is_invalid, truth_known}

-- what an iteration goes over: the kind of the collection and its elements
pub record Source : Type 0 where
  pub kind : CollectionKind
  pub elements : List Element

-- neither true nor false
abbrev pub is_undecided : Value → Bool
is_undecided v = not (is_true v || is_false v)

-- false where one is false, else true where all are true
abbrev pub for_all : List Value → Value
for_all bs = truth_known (list_all is_true bs) (list_any is_false bs)

-- true where one is true, else false where all are false
abbrev pub exists : List Value → Value
exists bs = truth_known (list_any is_true bs) (list_all is_false bs)

abbrev pub count_true : List Value → ℕ
count_true [] = zero
count_true (b ∷ bs) = if is_true b then suc (count_true bs) else count_true bs

-- what needs each body decided
abbrev pub if_decided : List Value → Value → Value
if_decided bs v = if list_any is_undecided bs then Invalid else v

abbrev pub one : List Value → Value
one bs = if_decided bs (truth_value (count_true bs == 1))

-- the elements whose body passes a test
abbrev pub kept_by : (Value → Bool) → List Element → List Value → List Element
kept_by test [] bs = []
kept_by test (e ∷ es) [] = []
kept_by test (e ∷ es) (b ∷ bs) = if test b then e ∷ kept_by test es bs else kept_by test es bs

abbrev pub select : Source → List Value → Value
select s bs = if_decided bs (Collection s.kind (kept_by is_true s.elements bs))

abbrev pub reject : Source → List Value → Value
reject s bs = if_decided bs (Collection s.kind (kept_by is_false s.elements bs))

-- what needs each body valid
abbrev pub if_valid : List Value → Value → Value
if_valid bs v = if list_any is_invalid bs then Invalid else v

abbrev pub collect : Source → List Value → Value
collect s bs = if_valid bs (Collection (collected_kind s.kind) (filter_map as_element bs))

abbrev pub collection_elements : Value → List Element
collection_elements (Collection c es) = es
collection_elements v = []

-- the elements of all the bodies, in order
abbrev pub joined : List Value → List Element
joined [] = []
joined (b ∷ bs) = collection_elements b ++ joined bs

abbrev pub collect_flat : Source → List Value → Value
collect_flat s bs = if_valid bs (Collection (collected_kind s.kind) (joined bs))

-- whether no two bodies are equal; two nulls are
abbrev pub unique_bodies : List Value → Value
unique_bodies bs = if_valid bs (truth_value (not (repeats same_element (filter_map as_element bs))))
