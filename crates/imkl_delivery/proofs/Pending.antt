-- What is pending by its features, while members are read and while they are put.
use Rattle.std.proofs.Common.{◌≡◌, ◌≢◌, ◌∙◌, ◌<◌, ◌≤◌, ◌+◌, ◌==◌, ℕ, zero, suc, Bool, true, false, ◌&&◌, ◌||◌, List, [], ◌∷◌, ◌++◌, length, take, drop, drop-cons, get_or, set, Option, Some, None, option_map, is_some, Ordering, Less, Equal, Greater, refl, sym, ap, subst, arith, ◌⊎◌, inl, inr, string_bytes, take_all, if◌then◌else◌}
use Rattle.std.specs.Prelude.{nat_eq}
use Rattle.std.specs.Ordering.{nat_cmp, match_ordering}
use Rattle.std.specs.Cmp.Lexicographic.{slice_cmp}
use Rattle.std.proofs.lemmas.Bool.{false≢true, and_parts, or_parts, or_right, eqb-false, eq-eqb}
use Rattle.std.proofs.lemmas.Bool.Decides.{eqb_tells, leb_tells}
use Rattle.std.proofs.lemmas.List.{get_or-set_same, get_or-set_other, length-set, take_more, take-append-drop}
use Rattle.std.proofs.lemmas.Cmp.{nat_eq_equiv}
use Rattle.std.proofs.lemmas.List.Folds.{list_any-append}
use Rattle.serde_json.specs.Data.{Data, Members, no_members, member, put}
use Rattle.serde_json.specs.Find.{get_member}
use Rattle.serde_json.specs.View.{members_view}
use Rattle.std.specs.Option.{option_or}
use Rattle.serde_json.proofs.Views.{Entry, member_here, member_later, get_member-put, get_member-put_other}
use Rattle.ocl_base.specs.Lists.{repeats}
use Rattle.ocl_base.specs.Numbers.{places}
use Rattle.ocl_base.proofs.ForAbove.{found_again}
use Rattle.imkl_model.specs.ClassModel.{Model, feature_at, feature_number, belongs}
use Rattle.imkl_model.specs.WellFormed.{IsClassModel}
use Rattle.imkl_population.specs.Population.{Population, class_of}
use Rattle.imkl_population.specs.Required.{Requirements, is_required, is_one_of, with_required}
use Rattle.imkl_delivery.specs.Loading.{are_features}
use Rattle.imkl_delivery.specs.declared.pending_value.Pending.{Pending}
use Rattle.imkl_delivery.specs.declared.pending_value.Pending.TheVariants.{Tree}
use Rattle.imkl_delivery.specs.Pending.{pending_view, pending_at, NonePending, IsPendingOnly, IsPendingAt, ArePending}
use Rattle.imkl_delivery.proofs.Passed.{IsSameAt, feature_is, feature_named}

-- ---- one value more, or one fewer

-- a value at a feature
here_set : (values : List (Option Pending)) (f g : ℕ) (x : Option Pending) → g ≡ f → f < length values → pending_at (set values f x) g ≡ option_map pending_view x
here_set values f g x same lt = ap (pending_at (set values f x)) same ∙ ap (option_map pending_view) (get_or-set_same values f x None lt)

-- the others stay
other_set : (values : List (Option Pending)) (f g : ℕ) (x : Option Pending) → g ≢ f → pending_at (set values f x) g ≡ pending_at values g
other_set values f g x apart = ap (option_map pending_view) (get_or-set_other values f g x None apart)

-- one feature more at which something may be pending
pub only-push : (fs : List ℕ) (values : List (Option Pending)) (f : ℕ) (x : Option Pending) → IsPendingOnly fs values → IsPendingOnly (fs ++ f ∷ []) (set values f x)
only-push fs values f x only = λ g no.
    let parts = or_parts (is_one_of fs g) (is_one_of (f ∷ []) g) (sym (list_any-append (λ h. g == h) fs (f ∷ [])) ∙ no) in
    other_set values f g x (eqb-false g f (or_parts (g == f) false parts.1).0) ∙ only g parts.0

-- ---- one member more

put_named_at : (o : Ordering) (m : Model) (c : ℕ) (k l : List ℕ) (d e : Data) (ms : Members) → is_some (feature_number m c k) ≡ true
    → (is_some (feature_number m c l) && are_features m c ms) ≡ true → (are_features m c ms ≡ true → are_features m c (put k d ms) ≡ true)
    → are_features m c (match_ordering o (member k d (member l e ms)) (member l d ms) (member l e (put k d ms))) ≡ true
put_named_at Less m c k l d e ms here all later = rw here all
put_named_at Equal m c k l d e ms here all later = all
put_named_at Greater m c k l d e ms here all later =
    let parts = and_parts (is_some (feature_number m c l)) (are_features m c ms) all in
    rw (parts.0, later parts.1) refl

-- a name more that is a feature's
are_features-put : (m : Model) (c : ℕ) (k : List ℕ) (d : Data) (ms : Members) → is_some (feature_number m c k) ≡ true → are_features m c ms ≡ true → are_features m c (put k d ms) ≡ true
are_features-put m c k d no_members here all = rw here refl
are_features-put m c k d (member l e ms) here all = put_named_at (slice_cmp nat_cmp k l) m c k l d e ms here all (are_features-put m c k d ms here)

-- what one member more writes is pending
pub pending-put : (m : Model) (c f : ℕ) (k : List ℕ) (v : Pending) (ms : Members) (values : List (Option Pending)) → IsClassModel m → feature_number m c k ≡ Some f → f < length values
    → ArePending m c ms values → ArePending m c (put k (pending_view v) ms) (set values f (Some v))
pending-put m c f k v ms values formed found lt before = record {
  named = are_features-put m c k (pending_view v) ms (ap is_some found) before.named;
  written = λ g below here. elim (eqb_tells g f) [
    | inl at ↦
        let name : (feature_at m g).name ≡ k = ap (λ (h : ℕ). (feature_at m h).name) at.1 ∙ feature_named m c f k found in
        ap (λ (n : List ℕ). get_member n (put k (pending_view v) ms)) name ∙ get_member-put k (pending_view v) ms ∙ sym (here_set values f g (Some v) at.1 lt)
    | inr apart ↦
        get_member-put_other (feature_at m g).name k (pending_view v) ms (λ same. apart.1 (feature_is m c g f k formed below here found same))
        ∙ before.written g below here ∙ sym (other_set values f g (Some v) apart.1)
  ];
}

-- ---- the members of a tree, one after another

-- a value is pending at a feature where nothing was
abbrev pub KeepsFirst : List (Option Pending) → ℕ → Pending → List (Option Pending) → Type 0
KeepsFirst old f v new = ((d : Data) → pending_at old f ≡ Some d → new ≡ old) × (pending_at old f ≡ None → new ≡ set old f (Some v))

module _ (m : Model) (c f : ℕ) (e : Entry) (es : List Entry) (old new : List (Option Pending)) (formed : IsClassModel m) (found : feature_number m c (string_bytes e.0) ≡ Some f) (lt : f < length old) where
  abbrev pub Next : ℕ → Type 0
  Next g = option_or (pending_at new g) (get_member (feature_at m g).name (members_view es)) ≡ option_or (pending_at old g) (get_member (feature_at m g).name (members_view (e ∷ es)))

  next_by : (o : Option Data) → pending_at old f ≡ o → KeepsFirst old f (Tree e.1) new → (g : ℕ) → g < length m.features → belongs m c g ≡ true
      → (((g == f) ≡ true) × (g ≡ f)) ⊎ (((g == f) ≡ false) × (g ≢ f)) → Next g
  next_by (Some d) was kept g below here (inl at) =
      let is : pending_at old g ≡ Some d = ap (pending_at old) at.1 ∙ was in
      rw (kept.0 d was, is) refl
  next_by None was kept g below here (inl at) =
      let name : (feature_at m g).name ≡ string_bytes e.0 = ap (λ (h : ℕ). (feature_at m h).name) at.1 ∙ feature_named m c f (string_bytes e.0) found in
      let now : pending_at new g ≡ Some (pending_view (Tree e.1)) = ap (λ (values : List (Option Pending)). pending_at values g) (kept.1 was) ∙ here_set old f g (Some (Tree e.1)) at.1 lt in
      let before : pending_at old g ≡ None = ap (pending_at old) at.1 ∙ was in
      rw (now, before) (sym (member_here (feature_at m g).name e es name))
  next_by (Some d) was kept g below here (inr apart) =
      rw (kept.0 d was) (ap (option_or (pending_at old g)) (sym (member_later (feature_at m g).name e es (λ same. apart.1 (feature_is m c g f (string_bytes e.0) formed below here found same)))))
  next_by None was kept g below here (inr apart) =
      ap (λ (values : List (Option Pending)). option_or (pending_at values g) (get_member (feature_at m g).name (members_view es))) (kept.1 was)
      ∙ ap (λ (o : Option Data). option_or o (get_member (feature_at m g).name (members_view es))) (other_set old f g (Some (Tree e.1)) apart.1)
      ∙ ap (option_or (pending_at old g)) (sym (member_later (feature_at m g).name e es (λ same. apart.1 (feature_is m c g f (string_bytes e.0) formed below here found same))))

  -- what is pending and what is still to come are all along what the members write
  pub tree_next : KeepsFirst old f (Tree e.1) new → (g : ℕ) → g < length m.features → belongs m c g ≡ true → Next g
  tree_next kept g below here = next_by (pending_at old f) refl kept g below here (eqb_tells g f)

-- at another feature nothing more is pending, and the room stays
only_by : (fs : List ℕ) (old new : List (Option Pending)) (f : ℕ) (v : Pending) (o : Option Data) → pending_at old f ≡ o → KeepsFirst old f v new → IsPendingOnly fs old → IsPendingOnly (fs ++ f ∷ []) new
only_by fs old new f v (Some d) was kept only = λ g no.
    let parts = or_parts (is_one_of fs g) (is_one_of (f ∷ []) g) (sym (list_any-append (λ h. g == h) fs (f ∷ [])) ∙ no) in
    ap (λ (values : List (Option Pending)). pending_at values g) (kept.0 d was) ∙ only g parts.0
only_by fs old new f v None was kept only = λ g no. ap (λ (values : List (Option Pending)). pending_at values g) (kept.1 was) ∙ only-push fs old f (Some v) only g no

pub only-kept : (fs : List ℕ) (old new : List (Option Pending)) (f : ℕ) (v : Pending) → KeepsFirst old f v new → IsPendingOnly fs old → IsPendingOnly (fs ++ f ∷ []) new
only-kept fs old new f v kept only = only_by fs old new f v (pending_at old f) refl kept only

room_by : (old new : List (Option Pending)) (f : ℕ) (v : Pending) (o : Option Data) → pending_at old f ≡ o → KeepsFirst old f v new → length new ≡ length old
room_by old new f v (Some d) was kept = ap length (kept.0 d was)
room_by old new f v None was kept = ap length (kept.1 was) ∙ length-set old f (Some v)

pub room-kept : (old new : List (Option Pending)) (f : ℕ) (v : Pending) → KeepsFirst old f v new → length new ≡ length old
room-kept old new f v kept = room_by old new f v (pending_at old f) refl kept

pub nothing_more : (o : Option Data) → option_or o None ≡ o
nothing_more None = refl
nothing_more (Some d) = refl

-- ---- features that are put one after another

-- where none stands twice, the next is not among those before
not_before : (ks : List ℕ) (i k : ℕ) → repeats nat_eq ks ≡ false → i < length ks → k ≡ get_or ks i k → is_one_of (take i ks) k ≡ false
not_before ks i k apart lt is = by_test (is_one_of (take i ks) k) refl
  where
    cut : take i ks ++ k ∷ drop (suc i) ks ≡ ks
    cut = ap (λ (r : List ℕ). take i ks ++ r) (sym (drop-cons ks i k lt ∙ ap (λ (x : ℕ). x ∷ drop (suc i) ks) (sym is))) ∙ take-append-drop i ks

    by_test : (b : Bool) → is_one_of (take i ks) k ≡ b → b ≡ false
    by_test false e = refl
    by_test true e = absurd (false≢true (sym apart ∙ ap (repeats nat_eq) (sym cut) ∙ found_again nat_eq nat_eq_equiv.symm (take i ks) k (drop (suc i) ks) e))

last_true : {A : Type 0} (a b : Bool) (x y : A) → b ≡ true → (if a || b then x else y) ≡ x
last_true true b x y h = refl
last_true false b x y h = rw h refl

last_false : {A : Type 0} (a b : Bool) (x y : A) → b ≡ false → (if a || b then x else y) ≡ (if a then x else y)
last_false true b x y h = refl
last_false false b x y h = rw h refl

-- what was pending at features that were put is so no longer
abbrev pub AreTaken : List ℕ → List (Option Pending) → List (Option Pending) → Type 0
AreTaken fs old now = (f : ℕ) → pending_at now f ≡ (if is_one_of fs f then None else pending_at old f)

module _ (old now : List (Option Pending)) (ks : List ℕ) (i k : ℕ) (lt : i < length ks) (is : k ≡ get_or ks i k) (taken : AreTaken (take i ks) old now) where
  -- at the next feature what was pending still is
  pub pending_next : repeats nat_eq ks ≡ false → pending_at now k ≡ pending_at old k
  pending_next apart = taken k ∙ rw (not_before ks i k apart lt is) refl

  pub taken_next : (new : List (Option Pending)) → k < length now → new ≡ set now k None → AreTaken (take (i + 1) ks) old new
  taken_next new below put = λ f.
      let more : take (i + 1) ks ≡ take i ks ++ k ∷ [] = take_more ks i k lt ∙ ap (λ (x : ℕ). take i ks ++ x ∷ []) (sym is) in
      let test : is_one_of (take (i + 1) ks) f ≡ (is_one_of (take i ks) f || is_one_of (k ∷ []) f) = ap (λ (l : List ℕ). is_one_of l f) more ∙ list_any-append (λ g. f == g) (take i ks) (k ∷ []) in
      let old_at = pending_at old f in
      ap (λ (values : List (Option Pending)). pending_at values f) put
      ∙ elim (eqb_tells f k) [
        | inl at ↦ here_set now k f None at.1 below ∙ sym (last_true (is_one_of (take i ks) f) (is_one_of (k ∷ []) f) None old_at (rw at.0 refl))
        | inr apart ↦ other_set now k f None apart.1 ∙ taken f ∙ sym (last_false (is_one_of (take i ks) f) (is_one_of (k ∷ []) f) None old_at (rw apart.0 refl))
      ]
      ∙ ap (λ (b : Bool). if b then None else old_at) (sym test)

-- what is pending at a feature still is where the model and the object's class are the same
pub pending_still : (ms : Members) (o : ℕ) (p q : Population) (values now : List (Option Pending)) (k : ℕ) → IsSameAt o p q → ArePending p.model (class_of p o) ms values → k < length p.model.features
    → pending_at now k ≡ pending_at values k → IsPendingAt q.model (class_of q o) ms now k
pending_still ms o p q values now k stays pending below still =
    subst (λ (c : ℕ). IsPendingAt q.model c ms now k) (sym stays.class) (subst (λ (m : Model). IsPendingAt m (class_of p o) ms now k) (sym stays.model) (λ mine. pending.written k below mine ∙ sym still))

-- ---- all of them

among_by : (p : ℕ → Bool) (n f : ℕ) (xs : List ℕ) (b : Bool) → p n ≡ b → f < suc n → p f ≡ true → (f < n → is_one_of xs f ≡ true) → is_one_of (xs ++ (if b then n ∷ [] else [])) f ≡ true
among_by p n f xs b is lt passes before =
    list_any-append (λ g. f == g) xs (if b then n ∷ [] else [])
    ∙ elim (leb_tells n f) [
      | inl le ↦
          let same : f ≡ n = omega (arith, le, lt) in
          let here : b ≡ true = sym is ∙ ap p (sym same) ∙ passes in
          or_right (is_one_of xs f) (is_one_of (if b then n ∷ [] else []) f) (rw here (rw (eq-eqb f n same) refl))
      | inr less ↦ rw (before less.1) refl
    ]

-- a number below the bound that passes is among the places
among_places : (p : ℕ → Bool) (n f : ℕ) → f < n → p f ≡ true → is_one_of (places p n) f ≡ true
among_places p zero f lt passes = absurd (omega (arith, lt))
among_places p (suc n) f lt passes = among_by p n f (places p n) (p n) refl lt passes (λ less. among_places p n f less passes)

or_true : (a : Bool) → (a || true) ≡ true
or_true true = refl
or_true false = refl

beyond : (values : List (Option Pending)) (f : ℕ) → length values ≤ f → get_or values f None ≡ None
beyond [] f le = refl
beyond (v ∷ values) zero le = absurd (omega (arith, le))
beyond (v ∷ values) (suc f) le = beyond values f (omega (arith, le))

-- once all were put, nothing is pending
pub none_left : (r : Requirements) (c : ℕ) (fs ks : List ℕ) (i : ℕ) (old now : List (Option Pending)) → ks ≡ with_required r c fs → length ks ≤ i → length old ≡ length r.model.features → IsPendingOnly fs old
    → AreTaken (take i ks) old now → NonePending now
none_left r c fs ks i old now is end room only taken = λ f. by_listed f (is_one_of ks f) refl
  where
    all : take i ks ≡ ks
    all = take_all i ks end

    unlisted : (f : ℕ) (b : Bool) → is_one_of fs f ≡ b → is_one_of ks f ≡ false → pending_at old f ≡ None
    unlisted f false named listed = only f named
    unlisted f true named listed =
        elim (leb_tells (length r.model.features) f) [
          | inl le ↦ ap (option_map pending_view) (beyond old f (omega (arith, le, room)))
          | inr less ↦
              let there : is_one_of ks f ≡ true = ap (λ (l : List ℕ). is_one_of l f) is ∙ among_places (λ g. is_required r c g || is_one_of fs g) (length r.model.features) f less.1 (rw named (or_true (is_required r c f))) in
              absurd (let bad : false ≡ true = sym listed ∙ there in cc)
        ]

    by_listed : (f : ℕ) (b : Bool) → is_one_of ks f ≡ b → pending_at now f ≡ None
    by_listed f true listed = taken f ∙ ap (λ (l : List ℕ). if is_one_of l f then None else pending_at old f) all ∙ rw listed refl
    by_listed f false listed = taken f ∙ ap (λ (l : List ℕ). if is_one_of l f then None else pending_at old f) all ∙ rw listed (unlisted f (is_one_of fs f) refl listed)
