-- Values as OCL writes them: objects by their ids, which are told apart from other values, of a collection at most ten
-- elements and how many more there are.
use Rattle.std.specs.Prelude.{ℕ, zero, suc, ◌-◌, ◌==◌, ◌&&◌, Bool, true, false, not, List, [], ◌∷◌, ◌++◌, length, take, codes, Some, None, slice_index_or, if◌then◌else◌}
use Rattle.std.specs.Fmt.{decimal, signed_decimal}
use Rattle.std.specs.List.{flat_map, list_any}
use Rattle.ocl_base.specs.declared.collection_kind.CollectionKind.{CollectionKind}
use Rattle.ocl_base.specs.declared.collection_kind.CollectionKind.TheVariants as collection
use Rattle.ocl_base.specs.Words.{begins_with_letter, is_reserved}
use Rattle.imkl_model.specs.ClassModel.{Model, class_at, enumeration_at}
use Rattle.explain_notes.specs.Showing.{shown_character}
use Rattle.imkl_population.specs.declared.scalar.Scalar.{Scalar}
use Rattle.imkl_population.specs.declared.scalar.Scalar.TheVariants as scalar
use Rattle.imkl_population.specs.Population.{Population, class_of, object_at}
use Rattle.rule_values.specs.Value.{Element, Value, Invalid, Null, Single, Collection}

-- a literal, with the enumeration that it is of
abbrev pub literal_text : Model → ℕ → ℕ → List ℕ
literal_text m e l = (enumeration_at m e).name ++ (codes "::" ++ slice_index_or (enumeration_at m e).literals l [])

-- a character within quotes: OCL's escapes where it has one, and another escape where a terminal would be steered
abbrev pub quoted_character : ℕ → List ℕ
quoted_character c =
    if c == 39 then codes "\\'" else (if c == 92 then codes "\\\\" else (if c == 10 then codes "\\n" else (if c == 13 then codes "\\r" else (if c == 9 then codes "\\t" else (if c == 8 then codes "\\b" else (if c == 12 then codes "\\f" else shown_character c))))))

-- so many characters are shown of a text
abbrev pub max_quoted : ℕ
max_quoted = 60

-- how many characters a text has
abbrev pub length_note : ℕ → List ℕ
length_note n = codes ".. (" ++ (decimal n ++ codes " characters)")

-- that is written where some of them are hidden
abbrev pub length_text : ℕ → ℕ → List ℕ
length_text hidden n = if hidden == 0 then [] else length_note n

-- a text, by its characters
abbrev pub quoted_text : List ℕ → List ℕ
quoted_text t = 39 ∷ (flat_map quoted_character (take max_quoted t) ++ (39 ∷ length_text (length t - max_quoted) (length t)))

abbrev pub has_colon : List ℕ → Bool
has_colon text = list_any (λ b. b == 58) text

-- an id that can be read as nothing else: it begins with a letter, is no word of OCL, and has no colon, as literals have
abbrev pub stands_alone : List ℕ → Bool
stands_alone id = begins_with_letter id && (not (is_reserved id) && not (has_colon id))

-- an object by its id, or behind the name of its class
abbrev pub object_by : List ℕ → List ℕ → List ℕ
object_by class id = if stands_alone id then id else (class ++ (40 ∷ (id ++ 41 ∷ [])))

abbrev pub object_text : Population → ℕ → List ℕ
object_text p o = object_by (class_at p.model (class_of p o)).name (object_at p o).id

-- behind an object where it is met first: its class, unless its text has it already
abbrev pub class_note_by : List ℕ → List ℕ → List ℕ
class_note_by class id = if stands_alone id then codes " : " ++ class else []

abbrev pub class_note : Population → ℕ → List ℕ
class_note p o = class_note_by (class_at p.model (class_of p o)).name (object_at p o).id

abbrev pub truth_text : Bool → List ℕ
truth_text true = codes "true"
truth_text false = codes "false"

abbrev pub scalar_text : Population → Scalar → List ℕ
scalar_text p (scalar.Bool b) = truth_text b
scalar_text p (scalar.Int n) = signed_decimal n
scalar_text p (scalar.Text t) = quoted_text t
scalar_text p (scalar.Literal e l) = literal_text p.model e l
scalar_text p (scalar.Object o) = object_text p o

abbrev pub is_object_element : Element → Bool
is_object_element (Some (scalar.Object o)) = true
is_object_element v = false

abbrev pub element_text : Population → Element → List ℕ
element_text p None = codes "null"
element_text p (Some v) = scalar_text p v

abbrev pub kind_name : CollectionKind → List ℕ
kind_name collection.Set = codes "Set"
kind_name collection.OrderedSet = codes "OrderedSet"
kind_name collection.Bag = codes "Bag"
kind_name collection.Sequence = codes "Sequence"

-- so many elements are shown of a collection
abbrev pub max_shown : ℕ
max_shown = 10

-- and so many where none stands out
abbrev pub max_beside : ℕ
max_beside = 3

-- how many more there are, if there are more
abbrev pub more_text : ℕ → List ℕ
more_text n = if n == 0 then [] else (codes ", and " ++ (decimal n ++ codes " more"))

-- what stands before an element, the first excepted
abbrev pub before_element : ℕ → List ℕ
before_element zero = []
before_element (suc k) = codes ", "

-- the first elements, from the one of this number on
abbrev pub elements_text : Population → ℕ → List Element → List ℕ
elements_text p k [] = []
elements_text p k (e ∷ es) = before_element k ++ (element_text p e ++ elements_text p (suc k) es)

-- so many of some elements, and how many more there are
abbrev pub first_elements_text : Population → ℕ → List Element → List ℕ
first_elements_text p most es = elements_text p 0 (take most es) ++ more_text (length es - most)

abbrev pub some_elements_text : Population → List Element → List ℕ
some_elements_text p es = first_elements_text p max_shown es

abbrev pub collection_text : Population → CollectionKind → List Element → List ℕ
collection_text p c es = kind_name c ++ (123 ∷ (some_elements_text p es ++ 125 ∷ []))

abbrev pub value_text : Population → Value → List ℕ
value_text p Invalid = codes "invalid"
value_text p Null = codes "null"
value_text p (Single v) = scalar_text p v
value_text p (Collection c es) = collection_text p c es

-- behind a value where it is met first: the class of an object
abbrev pub value_note : Population → Value → List ℕ
value_note p (Single (scalar.Object o)) = class_note p o
value_note p v = []

abbrev pub introduced_text : Population → Value → List ℕ
introduced_text p v = value_text p v ++ value_note p v
