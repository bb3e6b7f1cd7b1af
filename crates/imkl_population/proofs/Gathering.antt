-- The objects of a class, gathered class by class.
use Rattle.std.proofs.Common.{◌≡◌, ℕ, ◌<◌, ◌==◌, Bool, true, false, List, [], ◌∷◌, ◌++◌, ◌&&◌, ◌||◌, All, Vec, length, map, filter, get_or, set, nat_lt, refl, sym, ap, subst, ◌∙◌, eqb, arith, if◌then◌else◌}
use Rattle.std.specs.declared.alloc.Global.{Global}
use Rattle.std.specs.Ordering.{nat_cmp}
use Rattle.std.proofs.lemmas.Bool.{false≢true, eq-eqb, eqb-true, lt-ltb}
use Rattle.std.proofs.Math.Bool.{and-false}
use Rattle.std.proofs.lemmas.List.{append-nil, get_or-map, map-set, get_or-set_same, get_or-set_other, length-map}
use Rattle.std.proofs.lemmas.List.Elements.{All-append, All-filter, All-head, All-tail}
use Rattle.std.proofs.lemmas.List.Folds.{list_any-append}
use Rattle.imkl_model.specs.ClassModel.{Model, conforms}
use Rattle.imkl_population.specs.declared.sharing.Members.{Members}
use Rattle.imkl_population.specs.Population.{Population, class_of, is_instance, instances}
use Rattle.imkl_population.specs.Required.{is_one_of}
use Rattle.imkl_population.specs.Order.{AreInOrder}
use Rattle.ocl_base.specs.Numbers.{places}
use Rattle.imkl_population.specs.Sizes.{list_below}
use Rattle.imkl_population.specs.Instances.{is_direct, list_of, AreDirect, AreMarks, AreMembers, has_objects, inhabited, conforming, direct_of, objects_of_classes}
use Rattle.imkl_population.proofs.Fitting.{get_or-list_below}
use Rattle.imkl_population.proofs.Lengths.{length-list_below}
use Rattle.imkl_population.proofs.Orders.{ordered, one_of-places, places-same, places-small}

-- ---- the list of a class

abbrev items_of : Vec ℕ Global → List ℕ
items_of v = v.items

list_at : (lists : List (Vec ℕ Global)) (c : ℕ) (v : Vec ℕ Global) → c < length lists → v ≡ get_or lists c v → list_of lists c ≡ v.items
list_at lists c v lt is = get_or-map items_of lists c v [] lt ∙ ap items_of (sym is)

set_by : (lists : List (Vec ℕ Global)) (c k : ℕ) (old new : Vec ℕ Global) (o : ℕ) (b : Bool) → (c == k) ≡ b → c < length lists → old ≡ get_or lists c old → new.items ≡ old.items ++ o ∷ []
    → list_of (set lists c new) k ≡ list_of lists k ++ (if b then o ∷ [] else [])
set_by lists c k old new o true e lt is pushed =
    let same : c ≡ k = eqb-true c k e in
    let inside : c < length (map items_of lists) = subst (λ (n : ℕ). c < n) (sym (length-map lists items_of)) lt in
    let here : list_of (set lists c new) c ≡ list_of lists c ++ o ∷ [] =
    ap (λ (l : List (List ℕ)). get_or l c []) (map-set items_of lists c new) ∙ get_or-set_same (map items_of lists) c new.items [] inside
    ∙ pushed ∙ ap (λ (l : List ℕ). l ++ o ∷ []) (sym (list_at lists c old lt is)) in
    subst (λ (j : ℕ). list_of (set lists c new) j ≡ list_of lists j ++ o ∷ []) same here
set_by lists c k old new o false e lt is pushed =
    ap (λ (l : List (List ℕ)). get_or l k []) (map-set items_of lists c new)
    ∙ get_or-set_other (map items_of lists) c k new.items [] (λ h. false≢true (sym e ∙ eq-eqb c k (sym h)))
    ∙ sym (append-nil (list_of lists k))

-- an object more in one list
pub list_more : (lists : List (Vec ℕ Global)) (c k : ℕ) (old new : Vec ℕ Global) (o : ℕ) → c < length lists → old ≡ get_or lists c old → new.items ≡ old.items ++ o ∷ []
    → list_of (set lists c new) k ≡ list_of lists k ++ (if c == k then o ∷ [] else [])
list_more lists c k old new o = set_by lists c k old new o (c == k) refl

-- ---- the objects of some classes

-- the objects of some classes, class by class
direct-each : (p : Population) (lists : List (Vec ℕ Global)) → AreDirect p (length p.objects) lists → (cs : List ℕ) → All (λ c. c < length lists) cs → (o : ℕ) → o < length p.objects
    → is_one_of (direct_of lists cs) o ≡ is_one_of cs (class_of p o)
direct-each p lists direct [] known o lt = refl
direct-each p lists direct (c ∷ cs) known o lt =
    let inside : c < length p.model.classes = omega (arith, direct.count, All-head (λ (d : ℕ). d < length lists) c cs known) in
    list_any-append (λ g. o == g) (list_of lists c) (direct_of lists cs)
    ∙ ap (λ (l : List ℕ). is_one_of l o || is_one_of (direct_of lists cs) o) (direct.parts c inside)
    ∙ ap (λ (b : Bool). b || is_one_of (direct_of lists cs) o) (one_of-places (is_direct p c) (length p.objects) o lt)
    ∙ ap (λ (b : Bool). is_direct p c o || b) (direct-each p lists direct cs (All-tail (λ (d : ℕ). d < length lists) c cs known) o lt)

direct-small : (p : Population) (lists : List (Vec ℕ Global)) → AreDirect p (length p.objects) lists → (cs : List ℕ) → All (λ c. c < length lists) cs → All (λ o. o < length p.objects) (direct_of lists cs)
direct-small p lists direct [] known = λ k d lt. absurd (omega (arith, lt))
direct-small p lists direct (c ∷ cs) known =
    let inside : c < length p.model.classes = omega (arith, direct.count, All-head (λ (d : ℕ). d < length lists) c cs known) in
    All-append (λ o. o < length p.objects) (list_of lists c) (direct_of lists cs)
    (places-small (is_direct p c) (length p.objects) (list_of lists c) (direct.parts c inside))
    (direct-small p lists direct cs (All-tail (λ (d : ℕ). d < length lists) c cs known))

-- the same, in order
pub direct-in_order : (p : Population) (lists : List (Vec ℕ Global)) (cs xs zs : List ℕ) → AreDirect p (length p.objects) lists → All (λ c. c < length lists) cs → xs ≡ direct_of lists cs → AreInOrder nat_cmp eqb xs zs
    → zs ≡ objects_of_classes p cs
direct-in_order p lists cs xs zs direct known are order =
    let small : All (λ o. o < length p.objects) xs = subst (All (λ o. o < length p.objects)) (sym are) (direct-small p lists direct cs known) in
    ordered xs zs order (length p.objects) small
    ∙ places-same (is_one_of xs) (λ o. is_one_of cs (class_of p o)) (length p.objects)
    (λ o lt. ap (λ (l : List ℕ). is_one_of l o) are ∙ direct-each p lists direct cs known o lt)

-- the classes of the objects are classes of the model
pub classes-known : (p : Population) (members : Members) → AreMembers p members → All (λ c. c < length members.direct.items) members.classes.items
classes-known p members are =
    let long : length members.classes.items ≡ length p.objects = ap length are.classes ∙ length-list_below (class_of p) (length p.objects) in
    λ o d lt.
    let inside : o < length p.objects = omega (arith, lt, long) in
    let class : get_or members.classes.items o d ≡ class_of p o = ap (λ (l : List ℕ). get_or l o d) are.classes ∙ get_or-list_below (class_of p) (length p.objects) o d inside in
    omega (arith, class, are.direct.known o inside, are.direct.count)

-- the objects whose classes are marked are those of the classes that the marks are of
pub marked-objects : (p : Population) (classes cs : List ℕ) (marks : List Bool) (count : ℕ) → classes ≡ list_below (class_of p) (length p.objects) → AreMarks count cs marks → ((o : ℕ) → o < length p.objects → class_of p o < count)
    → places (λ o. get_or marks (get_or classes o 0) false) (length classes) ≡ objects_of_classes p cs
marked-objects p classes cs marks count are marked known =
    let long : length classes ≡ length p.objects = ap length are ∙ length-list_below (class_of p) (length p.objects) in
    ap (places (λ o. get_or marks (get_or classes o 0) false)) long
    ∙ places-same (λ o. get_or marks (get_or classes o 0) false) (λ o. is_one_of cs (class_of p o)) (length p.objects)
    (λ o lt.
    ap (λ (l : List ℕ). get_or marks (get_or l o 0) false) are
    ∙ ap (λ (c : ℕ). get_or marks c false) (get_or-list_below (class_of p) (length p.objects) o 0 lt)
    ∙ marked.each (class_of p o) (known o lt))

-- ---- the classes whose objects are the instances of a class

kept_by : (q : ℕ → Bool) (x k : ℕ) (xs ys : List ℕ) (b e : Bool) → q x ≡ b → (k == x) ≡ e → is_one_of ys k ≡ (is_one_of xs k && q k) → is_one_of (if b then x ∷ ys else ys) k ≡ ((e || is_one_of xs k) && q k)
kept_by q x k xs ys true true passes same rest = rw same (sym (ap q (eqb-true k x same) ∙ passes))
kept_by q x k xs ys true false passes same rest = rw same rest
kept_by q x k xs ys false true passes same rest =
    let fails : q k ≡ false = ap q (eqb-true k x same) ∙ passes in
    rest ∙ rw fails (and-false (is_one_of xs k))
kept_by q x k xs ys false false passes same rest = rest

-- what is among the numbers that pass
one_of-filter : (q : ℕ → Bool) (xs : List ℕ) (k : ℕ) → is_one_of (filter q xs) k ≡ (is_one_of xs k && q k)
one_of-filter q [] k = refl
one_of-filter q (x ∷ xs) k = kept_by q x k xs (filter q xs) (q x) (k == x) refl refl (one_of-filter q xs k)

some_where : (xs : List ℕ) (k : ℕ) → is_one_of xs k ≡ true → nat_lt 0 (length xs) ≡ true
some_where [] k h = absurd (false≢true h)
some_where (x ∷ xs) k h = lt-ltb 0 (length (x ∷ xs)) (omega arith)

-- an object's class has objects of its own
own_class : (p : Population) (lists : List (Vec ℕ Global)) → AreDirect p (length p.objects) lists → (o : ℕ) → o < length p.objects → is_one_of (inhabited lists) (class_of p o) ≡ true
own_class p lists direct o lt =
    let c : ℕ = class_of p o in
    let known : c < length p.model.classes = direct.known o lt in
    let here : is_one_of (list_of lists c) o ≡ true =
    ap (λ (l : List ℕ). is_one_of l o) (direct.parts c known) ∙ one_of-places (is_direct p c) (length p.objects) o lt ∙ eq-eqb c c refl in
    one_of-places (has_objects lists) (length lists) c (omega (arith, direct.count, known)) ∙ some_where (list_of lists c) o here

-- classes with objects are classes of the model, and so are those of them that conform to a class
pub inhabited-known : (lists : List (Vec ℕ Global)) (cs : List ℕ) (n : ℕ) → length lists ≡ n → cs ≡ inhabited lists → All (λ c. c < n) cs
inhabited-known lists cs n count are = subst (λ (m : ℕ). All (λ c. c < m) cs) count (places-small (has_objects lists) (length lists) cs are)

pub conforming-known : (m : Model) (lists : List (Vec ℕ Global)) (cs : List ℕ) (c n : ℕ) → length lists ≡ n → cs ≡ conforming m (inhabited lists) c → All (λ d. d < n) cs
conforming-known m lists cs c n count are =
    subst (All (λ d. d < n)) (sym are) (All-filter (λ d. conforms m d c) (λ d. d < n) (inhabited lists) (inhabited-known lists (inhabited lists) n count refl))

-- the same classes, of equals
pub conforming-same : (m n : Model) (cs ds found : List ℕ) (c d : ℕ) → found ≡ conforming m cs c → m ≡ n → cs ≡ ds → c ≡ d → found ≡ conforming n ds d
conforming-same m n cs ds found c d are model classes class =
    are ∙ ap (λ (k : Model). conforming k cs c) model ∙ ap (λ (l : List ℕ). conforming n l c) classes ∙ ap (conforming n ds) class

-- the instances of a class are the objects of those classes with objects that conform to it
pub conforming-instances : (p : Population) (lists : List (Vec ℕ Global)) (cs : List ℕ) (c : ℕ) → AreDirect p (length p.objects) lists → cs ≡ conforming p.model (inhabited lists) c
    → objects_of_classes p cs ≡ instances p c
conforming-instances p lists cs c direct are =
    places-same (λ o. is_one_of cs (class_of p o)) (is_instance p c) (length p.objects)
    (λ o lt.
    ap (λ (l : List ℕ). is_one_of l (class_of p o)) are
    ∙ one_of-filter (λ d. conforms p.model d c) (inhabited lists) (class_of p o)
    ∙ ap (λ (b : Bool). b && is_instance p c o) (own_class p lists direct o lt))
