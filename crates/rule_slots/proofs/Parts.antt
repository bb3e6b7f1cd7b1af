-- The elements of parts of lists.
use Rattle.std.proofs.Common.{◌≡◌, ℕ, zero, suc, ◌+◌, ◌-◌, ◌<◌, ◌≤◌, List, [], ◌∷◌, ◌++◌, length, take, drop, map, get_or, Some, refl, sym, ap, ◌∙◌, arith}
use Rattle.std.specs.Prelude.{slice_get, slice_range}
use Rattle.std.proofs.lemmas.List.{length-drop, length-map, length-take-le, get_or-take, get_or-drop, take_more, drop-take, drop-map, drop-drop}
use Rattle.std.proofs.lemmas.Option.{slice_get-get_or}
use Rattle.imkl_population.specs.declared.scalar.Scalar.{Scalar}
use Rattle.rule_slots.specs.declared.slot.Home.{Home}
use Rattle.rule_slots.specs.declared.slot.Home.TheVariants as home
use Rattle.rule_slots.specs.declared.slot.Slot.{Slot}
use Rattle.rule_slots.specs.Slots.{Lists, index_slot, scalar_slot, scalar_slots, part_slots, home_length}

-- an item of a part
pub range_read : {A : Type 0} (xs : List A) (a n k : ℕ) (d : A) → a + n ≤ length xs → k < n → slice_get (slice_range xs a (a + n)) k ≡ Some (get_or xs (a + k) d)
range_read xs a n k d le lt =
    let long : length (take (a + n - a) (drop a xs)) ≡ n = omega (arith, length-take-le (a + n - a) (drop a xs) (omega (arith, length-drop a xs, le))) in
    let inside : k < length (take (a + n - a) (drop a xs)) = omega (arith, long, lt) in
    let within : k < a + n - a = omega (arith, lt) in
    slice_get-get_or (take (a + n - a) (drop a xs)) k d inside ∙ ap Some (get_or-take (a + n - a) (drop a xs) k d within ∙ get_or-drop a xs k d)

-- the slot of one of the population's values
pub scalar_at : (i : ℕ) (vs : List Scalar) (k : ℕ) (v : Scalar) → slice_get vs k ≡ Some v → slice_get (scalar_slots i vs) k ≡ Some (scalar_slot (i + k) v)
scalar_at i [] k v e = cc
scalar_at i (w ∷ vs) zero v e = let q : w ≡ v = cc in let n : i ≡ i + 0 = omega arith in ap (λ x. Some (scalar_slot i x)) q ∙ ap (λ x. Some (scalar_slot x v)) n
scalar_at i (w ∷ vs) (suc k) v e = let n : i + 1 + k ≡ i + suc k = omega arith in scalar_at (i + 1) vs k v e ∙ ap (λ x. Some (scalar_slot x v)) n

-- an item of a list that is mapped
pub map_at : {A B : Type 0} (f : A → B) (xs : List A) (k : ℕ) (x : A) → slice_get xs k ≡ Some x → slice_get (map f xs) k ≡ Some (f x)
map_at f [] k x e = cc
map_at f (y ∷ xs) zero x e = let q : y ≡ x = cc in ap (λ z. Some (f z)) q
map_at f (y ∷ xs) (suc k) x e = map_at f xs k x e

-- ---- parts from an item on

-- a part without its first items
pub range_from : {A : Type 0} (xs : List A) (a n k : ℕ) → k ≤ n → drop k (slice_range xs a (a + n)) ≡ slice_range xs (a + k) (a + n)
range_from xs a n k le =
    let e : a + n - a ≡ k + (a + n - (a + k)) = omega (arith, le) in
    ap (λ m. drop k (take m (drop a xs))) e ∙ drop-take k (a + n - (a + k)) (drop a xs) ∙ ap (take (a + n - (a + k))) (drop-drop k a xs)

-- the slots of values without the first
pub scalars_from : (i : ℕ) (vs : List Scalar) (k : ℕ) → drop k (scalar_slots i vs) ≡ scalar_slots (i + k) (drop k vs)
scalars_from i vs zero = let e : i ≡ i + 0 = omega arith in ap (λ n. scalar_slots n vs) e
scalars_from i [] (suc k) = refl
scalars_from i (v ∷ vs) (suc k) = let e : i + 1 + k ≡ i + suc k = omega arith in scalars_from (i + 1) vs k ∙ ap (λ n. scalar_slots n (drop k vs)) e

-- the slots of a part without the first, where it is a part of the population's values
pub scalar_part_from : (h : Home) (l : Lists) (p : List Slot) (a n k : ℕ) → h ≡ home.Scalars → k ≤ n → drop k (part_slots h l p a n) ≡ scalar_slots (a + k) (slice_range l.scalars (a + k) (a + n))
scalar_part_from home.Scalars l p a n k e le = scalars_from a (slice_range l.scalars a (a + n)) k ∙ ap (scalar_slots (a + k)) (range_from l.scalars a n k le)
scalar_part_from home.Instances l p a n k e le = cc
scalar_part_from home.Pool l p a n k e le = cc

-- of the instances
pub instance_part_from : (h : Home) (l : Lists) (p : List Slot) (a n k : ℕ) → h ≡ home.Instances → k ≤ n → drop k (part_slots h l p a n) ≡ map index_slot (slice_range l.instances (a + k) (a + n))
instance_part_from home.Scalars l p a n k e le = cc
instance_part_from home.Instances l p a n k e le = drop-map index_slot k (slice_range l.instances a (a + n)) ∙ ap (map index_slot) (range_from l.instances a n k le)
instance_part_from home.Pool l p a n k e le = cc

-- of the pool
pub pool_part_from : (h : Home) (l : Lists) (p : List Slot) (a n k : ℕ) → h ≡ home.Pool → k ≤ n → drop k (part_slots h l p a n) ≡ slice_range p (a + k) (a + n)
pool_part_from home.Scalars l p a n k e le = cc
pool_part_from home.Instances l p a n k e le = cc
pool_part_from home.Pool l p a n k e le = range_from p a n k le

-- ---- parts with an item more

-- a part of no items
pub range_none : {A : Type 0} (xs : List A) (a : ℕ) → slice_range xs a (a + 0) ≡ []
range_none xs a = let e : a + 0 - a ≡ 0 = omega arith in ap (λ n. take n (drop a xs)) e

-- a part with an item more
pub range_more : {A : Type 0} (xs : List A) (a n : ℕ) (d : A) → a + n < length xs → slice_range xs a (a + (n + 1)) ≡ slice_range xs a (a + n) ++ get_or xs (a + n) d ∷ []
range_more xs a n d lt =
    let e : a + (n + 1) - a ≡ n + 1 = omega arith in
    let f : a + n - a ≡ n = omega arith in
    ap (λ k. take k (drop a xs)) e ∙ take_more (drop a xs) n d (omega (arith, length-drop a xs, lt)) ∙ ap (λ k. take k (drop a xs) ++ get_or (drop a xs) n d ∷ []) (sym f) ∙ ap (λ y. take (a + n - a) (drop a xs) ++ y ∷ []) (get_or-drop a xs n d)

slots_behind : (i : ℕ) (vs : List Scalar) (v : Scalar) → scalar_slots i (vs ++ v ∷ []) ≡ scalar_slots i vs ++ scalar_slot (i + length vs) v ∷ []
slots_behind i [] v = let e : i ≡ i + 0 = omega arith in ap (λ k. scalar_slot k v ∷ []) e
slots_behind i (w ∷ vs) v =
    let e : i + 1 + length vs ≡ i + suc (length vs) = omega arith in
    ap (λ l. scalar_slot i w ∷ l) (slots_behind (i + 1) vs v ∙ ap (λ k. scalar_slots (i + 1) vs ++ scalar_slot k v ∷ []) e)

-- the slots of a part of the population's values with one more
pub scalars_more : (xs : List Scalar) (a n : ℕ) (d : Scalar) → a + n < length xs → scalar_slots a (slice_range xs a (a + (n + 1))) ≡ scalar_slots a (slice_range xs a (a + n)) ++ scalar_slot (a + n) (get_or xs (a + n) d) ∷ []
scalars_more xs a n d lt =
    let long : length (slice_range xs a (a + n)) ≡ n = omega (arith, length-take-le (a + n - a) (drop a xs) (omega (arith, length-drop a xs, lt))) in
    ap (scalar_slots a) (range_more xs a n d lt) ∙ slots_behind a (slice_range xs a (a + n)) (get_or xs (a + n) d) ∙ ap (λ k. scalar_slots a (slice_range xs a (a + n)) ++ scalar_slot (a + k) (get_or xs (a + n) d) ∷ []) long

map_behind : {A B : Type 0} (f : A → B) (xs : List A) (x : A) → map f (xs ++ x ∷ []) ≡ map f xs ++ f x ∷ []
map_behind f [] x = refl
map_behind f (y ∷ xs) x = ap (λ l. f y ∷ l) (map_behind f xs x)

-- the slots of a part of the instances with one more
pub instances_more : (xs : List ℕ) (a n : ℕ) (d : ℕ) → a + n < length xs → map index_slot (slice_range xs a (a + (n + 1))) ≡ map index_slot (slice_range xs a (a + n)) ++ index_slot (get_or xs (a + n) d) ∷ []
instances_more xs a n d lt = ap (map index_slot) (range_more xs a n d lt) ∙ map_behind index_slot (slice_range xs a (a + n)) (get_or xs (a + n) d)

-- ---- how long parts are

-- a part is as long as its range
pub range_long : {A : Type 0} (xs : List A) (a n : ℕ) → a + n ≤ length xs → length (slice_range xs a (a + n)) ≡ n
range_long xs a n le = omega (arith, length-take-le (a + n - a) (drop a xs) (omega (arith, length-drop a xs, le)))

-- there are as many slots as values
pub scalar_slots_long : (i : ℕ) (vs : List Scalar) → length (scalar_slots i vs) ≡ length vs
scalar_slots_long i [] = refl
scalar_slots_long i (v ∷ vs) = ap suc (scalar_slots_long (i + 1) vs)

-- the slots of a part are as many as its range is long
pub part_long : (h : Home) (l : Lists) (p : List Slot) (hi a n : ℕ) → hi ≤ length p → a + n ≤ home_length h l hi → length (part_slots h l p a n) ≡ n
part_long home.Scalars l p hi a n le w = scalar_slots_long a (slice_range l.scalars a (a + n)) ∙ range_long l.scalars a n w
part_long home.Instances l p hi a n le w = length-map (slice_range l.instances a (a + n)) index_slot ∙ range_long l.instances a n w
part_long home.Pool l p hi a n le w = range_long p a n (omega (arith, w, le))
