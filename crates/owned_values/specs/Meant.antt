-- What owned values stand for, and when everything in a value is there.
use Rattle.std.specs.Prelude.{◌<◌, List, length, map, Some, None}
use Rattle.std.specs.List.{AllByRecursion}
use Rattle.std.specs.Str.{chars}
use Rattle.imkl_model.specs.ClassModel.{enumeration_at}
use Rattle.imkl_population.specs.declared.scalar.Scalar.{Scalar}
use Rattle.imkl_population.specs.declared.scalar.Scalar.TheVariants as scalar
use Rattle.imkl_population.specs.Population.{Population}
use Rattle.ocl_base.specs.declared.collection_kind.CollectionKind.{CollectionKind}
use Rattle.owned_values.specs.declared.value.Element.{Element as OwnedElement}
use Rattle.owned_values.specs.declared.value.Element.TheVariants as element
use Rattle.owned_values.specs.declared.value.Value.{Value as Held}
use Rattle.owned_values.specs.declared.value.Value.TheVariants as held
use Rattle.rule_values.specs.Endings.{Source}
use Rattle.rule_values.specs.Value.{Element, Value, Invalid, Null, Single, Collection, element_value}

abbrev pub meant_element : OwnedElement → Element
meant_element element.Null = None
meant_element (element.Bool b) = Some (scalar.Bool b)
meant_element (element.Int n) = Some (scalar.Int n)
meant_element (element.Text t) = Some (scalar.Text (chars t.now))
meant_element (element.Literal e l) = Some (scalar.Literal e l)
meant_element (element.Object o) = Some (scalar.Object o)

abbrev pub meant_elements : List OwnedElement → List Element
meant_elements is = map meant_element is

abbrev pub meant : Held → Value
meant held.Invalid = Invalid
meant (held.Element i) = element_value (meant_element i)
meant (held.Collection c v) = Collection c (meant_elements v.items)

-- what an iteration goes over
abbrev pub source : CollectionKind → List Element → Source
source c es = record { kind = c; elements = es }

-- ---- what is there

-- an object is one of the population, a literal one of its class model
abbrev pub IsScalarThere : Population → Scalar → Type 0
IsScalarThere p (scalar.Object o) = o < length p.objects
IsScalarThere p (scalar.Literal e l) = (e < length p.model.enumerations) × (l < length (enumeration_at p.model e).literals)
IsScalarThere p v = Unit {0}

abbrev pub IsElementThere : Population → Element → Type 0
IsElementThere p None = Unit {0}
IsElementThere p (Some v) = IsScalarThere p v

abbrev pub AreElementsThere : Population → List Element → Type 0
AreElementsThere p es = AllByRecursion (IsElementThere p) es

-- so is each in a value
abbrev pub IsValueThere : Population → Value → Type 0
IsValueThere p Invalid = Unit {0}
IsValueThere p Null = Unit {0}
IsValueThere p (Single v) = IsScalarThere p v
IsValueThere p (Collection c es) = AreElementsThere p es
