-- The objects of each class as they are gathered.
use Rattle.std.specs.Prelude.{◌≡◌, ℕ, ◌<◌, ◌≤◌, ◌==◌, ◌++◌, Bool, false, List, [], Vec, Some, length, map, filter, nat_lt, slice_index_or, slice_range}
use Rattle.std.specs.List.{flat_map}
use Rattle.std.specs.declared.cmp.Ordering.{Ordering}
use Rattle.std.specs.Ordering.{nat_cmp}
use Rattle.std.specs.Cmp.Lexicographic.{slice_cmp}
use Rattle.std.specs.BTreeMap.{get}
use Rattle.std.specs.declared.alloc.Global.{Global}
use Rattle.ocl_base.specs.Numbers.{places}
use Rattle.imkl_model.specs.ClassModel.{Model, conforms}
use Rattle.imkl_population.specs.declared.sharing.Members.{Members}
use Rattle.imkl_population.specs.declared.sharing.SharedLists.{SharedLists}
use Rattle.imkl_population.specs.declared.store.Segment.{Segment}
use Rattle.imkl_population.specs.Population.{Population, class_of}
use Rattle.imkl_population.specs.Required.{is_one_of}
use Rattle.imkl_population.specs.declared.limits.TheConstants.{MAX_OBJECTS}
use Rattle.imkl_population.specs.Sizes.{list_below}

-- an object is directly of one class
abbrev pub is_direct : Population → ℕ → ℕ → Bool
is_direct p c o = class_of p o == c

-- the list of a class
abbrev pub list_of : List (Vec ℕ Global) → ℕ → List ℕ
list_of lists c = slice_index_or (map (λ v. v.items) lists) c []

-- for each class the objects below n that are directly of it
pub record AreDirect (p : Population) (n : ℕ) (lists : List (Vec ℕ Global)) : Type 0 where
  pub count : length lists ≡ length p.model.classes
  pub parts : (c : ℕ) → c < length p.model.classes → list_of lists c ≡ places (is_direct p c) n
  pub known : (o : ℕ) → o < n → class_of p o < length p.model.classes

-- the objects by their classes, and the classes of the objects
pub record AreMembers (p : Population) (members : Members) : Type 0 where
  pub direct : AreDirect p (length p.objects) members.direct.items
  pub classes : members.classes.items ≡ list_below (class_of p) (length p.objects)
  pub limited : length p.objects ≤ MAX_OBJECTS

-- of so many classes those are marked that are among some
pub record AreMarks (count : ℕ) (cs : List ℕ) (marks : List Bool) : Type 0 where
  pub so_long : length marks ≡ count
  pub each : (c : ℕ) → c < count → slice_index_or marks c false ≡ is_one_of cs c

-- the classes that have objects of their own, and those of some classes that conform to a class
abbrev pub has_objects : List (Vec ℕ Global) → ℕ → Bool
has_objects lists c = nat_lt 0 (length (list_of lists c))

abbrev pub inhabited : List (Vec ℕ Global) → List ℕ
inhabited lists = places (has_objects lists) (length lists)

abbrev pub conforming : Model → List ℕ → ℕ → List ℕ
conforming m cs c = filter (λ d. conforms m d c) cs

-- the objects directly of some classes: class by class, and in order
abbrev pub direct_of : List (Vec ℕ Global) → List ℕ → List ℕ
direct_of lists cs = flat_map (list_of lists) cs

abbrev pub objects_of_classes : Population → List ℕ → List ℕ
objects_of_classes p cs = places (λ o. is_one_of cs (class_of p o)) (length p.objects)

-- a range of a list has the objects directly of some classes
pub record IsRangeOf (p : Population) (all cs : List ℕ) (r : Segment) : Type 0 where
  pub ascends : r.start ≤ r.end
  pub within : r.end ≤ length all
  pub part : slice_range all r.start r.end ≡ objects_of_classes p cs

-- each range that is kept has the objects of the classes that it is kept for
abbrev pub by_classes : Vec ℕ Global → Vec ℕ Global → Ordering
by_classes x y = slice_cmp nat_cmp x.items y.items

abbrev pub AreShared : Population → SharedLists → Type 0
AreShared p lists = (cs : Vec ℕ Global) (r : Segment) → get by_classes lists.ranges cs ≡ Some r → IsRangeOf p lists.list.items cs.items r

-- a list begins with another one
abbrev pub Begins : List ℕ → List ℕ → Type 0
Begins xs all = (ys : List ℕ) × (all ≡ xs ++ ys)
