-- The features that a class requires, gathered from what each class owns.
use Rattle.std.proofs.Common.{◌≡◌, ℕ, zero, suc, ◌<◌, ◌≤◌, ◌==◌, Bool, true, false, ◌&&◌, ◌||◌, List, [], ◌++◌, All, length, get_or, nat_lt, refl, sym, ap, subst, ◌∙◌, eqb, arith, if◌then◌else◌, inl, inr}
use Rattle.std.specs.Ordering.{nat_cmp}
use Rattle.std.proofs.lemmas.Bool.{false≢true, eq-eqb, ne_eqb, or_from}
use Rattle.std.proofs.lemmas.Bool.Decides.{leb_tells}
use Rattle.std.proofs.Math.Bool.{or-false}
use Rattle.std.proofs.lemmas.List.Elements.{All-append, All-nil}
use Rattle.std.proofs.lemmas.List.Folds.{list_any-append}
use Rattle.imkl_model.specs.ClassModel.{conforms, feature_at}
use Rattle.imkl_population.specs.Order.{AreInOrder}
use Rattle.imkl_population.specs.Required.{Requirements, is_on, is_one_of, is_required, required}
use Rattle.imkl_population.specs.Owners.{AreListedByOwner, inherited, is_needed, is_owned}
use Rattle.imkl_population.proofs.Orders.{ordered, one_of-places, places-same, places-small}

one_of-more : (xs ys : List ℕ) (f : ℕ) (b : Bool) → is_one_of (xs ++ (if b then ys else [])) f ≡ (is_one_of xs f || (b && is_one_of ys f))
one_of-more xs ys f true = list_any-append (λ g. f == g) xs ys
one_of-more xs ys f false = list_any-append (λ g. f == g) xs []

abbrev owner_of : Requirements → ℕ → ℕ
owner_of r f = (feature_at r.model f).owner

-- with the list of one owner more
next : (r : Requirements) (lists : List (List ℕ)) (c f k : ℕ) → AreListedByOwner r (length r.model.features) lists → f < length r.model.features → k < length r.model.classes
    → is_one_of (inherited r.model c lists (suc k)) f ≡ (is_one_of (inherited r.model c lists k) f || (conforms r.model c k && is_owned r k f))
next r lists c f k owned lt within =
    one_of-more (inherited r.model c lists k) (get_or lists k []) f (conforms r.model c k)
    ∙ ap (λ (l : List ℕ). is_one_of (inherited r.model c lists k) f || (conforms r.model c k && is_one_of l f)) (owned.parts k within)
    ∙ ap (λ (b : Bool). is_one_of (inherited r.model c lists k) f || (conforms r.model c k && b)) (one_of-places (is_owned r k) (length r.model.features) f lt)

none_by : (a b : Bool) → (a && (b && false)) ≡ false
none_by false b = refl
none_by true false = refl
none_by true true = refl

-- another class does not own it
other_owner : (r : Requirements) (c f k : ℕ) → (owner_of r f ≡ k → ⊥) → (conforms r.model c k && is_owned r k f) ≡ false
other_owner r c f k other =
    ap (λ (b : Bool). conforms r.model c k && (is_needed r.side (feature_at r.model f) && b)) (ne_eqb (owner_of r f) k other)
    ∙ none_by (conforms r.model c k) (is_needed r.side (feature_at r.model f))

-- before its owner's turn a feature is not there
none_yet : (r : Requirements) (lists : List (List ℕ)) (c f k : ℕ) → AreListedByOwner r (length r.model.features) lists → f < length r.model.features → k ≤ length r.model.classes → k ≤ owner_of r f
    → is_one_of (inherited r.model c lists k) f ≡ false
none_yet r lists c f zero owned lt within before = refl
none_yet r lists c f (suc k) owned lt within before =
    next r lists c f k owned lt (omega (arith, within))
    ∙ or_from (is_one_of (inherited r.model c lists k) f) (conforms r.model c k && is_owned r k f)
    (none_yet r lists c f k owned lt (omega (arith, within)) (omega (arith, before)))
    (other_owner r c f k (λ e. absurd (omega (arith, before, e))))

own_by : (found a b l e : Bool) → found ≡ false → e ≡ true → (found || (a && ((b && l) && e))) ≡ (a && b && l)
own_by true a b l e none same = absurd (false≢true (sym none))
own_by false a b l false none same = absurd (false≢true same)
own_by false false b l true none same = refl
own_by false true false l true none same = refl
own_by false true true false true none same = refl
own_by false true true true true none same = refl

-- after its owner's turn it is there if the class requires it
found_after : (r : Requirements) (lists : List (List ℕ)) (c f k : ℕ) → AreListedByOwner r (length r.model.features) lists → f < length r.model.features → k ≤ length r.model.classes → owner_of r f < k
    → is_one_of (inherited r.model c lists k) f ≡ is_required r c f
found_after r lists c f zero owned lt within after = absurd (omega (arith, after))
found_after r lists c f (suc k) owned lt within after =
    elim (leb_tells k (owner_of r f)) [
      | inl le ↦
          let same : k ≡ owner_of r f = omega (arith, le.1, after) in
          next r lists c f k owned lt (omega (arith, within))
          ∙ own_by (is_one_of (inherited r.model c lists k) f) (conforms r.model c k) (is_on r.side (feature_at r.model f).role) (nat_lt 0 (feature_at r.model f).lower) (owner_of r f == k)
          (none_yet r lists c f k owned lt (omega (arith, within)) le.1) (eq-eqb (owner_of r f) k (sym same))
          ∙ ap (λ (j : ℕ). conforms r.model c j && is_on r.side (feature_at r.model f).role && nat_lt 0 (feature_at r.model f).lower) same
      | inr less ↦
          next r lists c f k owned lt (omega (arith, within))
          ∙ ap (λ (b : Bool). is_one_of (inherited r.model c lists k) f || b) (other_owner r c f k (λ e. absurd (omega (arith, less.1, e))))
          ∙ or-false (is_one_of (inherited r.model c lists k) f)
          ∙ found_after r lists c f k owned lt (omega (arith, within)) less.1
    ]

all_by : (P : ℕ → Type 0) (xs ys : List ℕ) (b : Bool) → All P xs → All P ys → All P (xs ++ (if b then ys else []))
all_by P xs ys true all more = All-append P xs ys all more
all_by P xs ys false all more = All-append P xs [] all (All-nil P)

-- what a class inherits are features of the model
inherited-small : (r : Requirements) (lists : List (List ℕ)) (c k : ℕ) → AreListedByOwner r (length r.model.features) lists → k ≤ length r.model.classes
    → All (λ f. f < length r.model.features) (inherited r.model c lists k)
inherited-small r lists c zero owned within = All-nil (λ f. f < length r.model.features)
inherited-small r lists c (suc k) owned within =
    all_by (λ f. f < length r.model.features) (inherited r.model c lists k) (get_or lists k []) (conforms r.model c k)
    (inherited-small r lists c k owned (omega (arith, within)))
    (places-small (is_owned r k) (length r.model.features) (get_or lists k []) (owned.parts k (omega (arith, within))))

-- what a class inherits of all owners is in order what it requires
pub inherited-required : (r : Requirements) (lists : List (List ℕ)) (c : ℕ) (xs zs : List ℕ) → ((f : ℕ) → f < length r.model.features → owner_of r f < length r.model.classes) → AreListedByOwner r (length r.model.features) lists
    → xs ≡ inherited r.model c lists (length r.model.classes) → AreInOrder nat_cmp eqb xs zs → zs ≡ required r c
inherited-required r lists c xs zs owners owned are order =
    let n : ℕ = length r.model.classes in
    let small : All (λ f. f < length r.model.features) xs = subst (All (λ f. f < length r.model.features)) (sym are) (inherited-small r lists c n owned (omega arith)) in
    ordered xs zs order (length r.model.features) small
    ∙ places-same (is_one_of xs) (is_required r c) (length r.model.features)
    (λ f lt. ap (λ (l : List ℕ). is_one_of l f) are ∙ found_after r lists c f n owned lt (omega arith) (owners f lt))
