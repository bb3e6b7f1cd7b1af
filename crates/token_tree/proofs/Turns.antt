-- More turns than there are tokens change nothing.
use Rattle.std.proofs.Common.{◌≡◌, ℕ, zero, suc, ◌<◌, ◌≤◌, List, [], ◌∷◌, length, Option, Some, None, option_and_then, refl, sym, ap, arith}
use Rattle.json.specs.Token.{Token}
use Rattle.json.specs.Json.{Json, Items, item, Members, member, Parse, parse_map, after_end_array, read_key, items_step, members_step, items, members}
use Rattle.json.proofs.Grammar.{read_key-shorter, left, Takes}

-- what comes behind a value, where two ways of going on agree on what is shorter
goes_on_alike : {B : Type 0} (f : Json → B → B) (x y : Parse B) (o : Option (Json × List Token)) → ((r : List Token) → left o ≡ Some r → x r ≡ y r)
    → option_and_then (λ q. parse_map (f q.0) (x q.1)) o ≡ option_and_then (λ q. parse_map (f q.0) (y q.1)) o
goes_on_alike f x y None same = refl
goes_on_alike f x y (Some q) same = ap (parse_map (f q.0)) (same q.1 refl)

nothing_of : (o : Option (Json × List Token)) → ((r : List Token) → left o ≡ Some r → length r < 0) → o ≡ None
nothing_of None h = refl
nothing_of (Some q) h = absurd (omega (arith, h q.1 refl))

module _ (p : Parse Json) (takes : Takes p) where
  nothing : p [] ≡ None
  nothing = nothing_of (p []) (takes [])

  items_turn : (x y : Parse Items) (ts : List Token) (o : Option (List Token)) → ((r : List Token) → length r < length ts → x r ≡ y r) → items_step p x ts o ≡ items_step p y ts o
  items_turn x y ts (Some rest) same = refl
  items_turn x y ts None same = goes_on_alike item x y (p ts) (λ r e. same r (takes ts r e))

  no_items_left : (n : ℕ) (ts : List Token) → length ts ≤ 0 → items p n ts ≡ None
  unfolding items
  no_items_left zero ts h = refl
  no_items_left (suc n) [] h = ap (option_and_then (λ q. parse_map (item q.0) (items p n q.1))) nothing
  no_items_left (suc n) (t ∷ ts) h = absurd (omega arith)

  pub enough_items : (m n : ℕ) (ts : List Token) → length ts ≤ m → length ts ≤ n → items p m ts ≡ items p n ts
  unfolding items
  enough_items zero n ts h k = sym (no_items_left n ts h)
  enough_items (suc m) zero ts h k = no_items_left (suc m) ts k
  enough_items (suc m) (suc n) ts h k = items_turn (items p m) (items p n) ts (after_end_array ts) (λ r less. enough_items m n r (omega arith) (omega arith))

  members_turn : (x y : Parse Members) (ts : List Token) (o : Option (Option (List ℕ) × List Token)) → read_key ts ≡ o → ((r : List Token) → length r < length ts → x r ≡ y r)
      → option_and_then (λ q. members_step p x q.0 q.1) o ≡ option_and_then (λ q. members_step p y q.0 q.1) o
  members_turn x y ts None e same = refl
  members_turn x y ts (Some (None, s)) e same = refl
  members_turn x y ts (Some (Some k, s)) e same = goes_on_alike (member k) x y (p s) (λ r f. same r (omega (arith, takes s r f, read_key-shorter ts (Some k) s e)))

  no_members_left : (n : ℕ) (ts : List Token) → length ts ≤ 0 → members p n ts ≡ None
  unfolding members
  no_members_left zero ts h = refl
  no_members_left (suc n) [] h = refl
  no_members_left (suc n) (t ∷ ts) h = absurd (omega arith)

  pub enough_members : (m n : ℕ) (ts : List Token) → length ts ≤ m → length ts ≤ n → members p m ts ≡ members p n ts
  unfolding members
  enough_members zero n ts h k = sym (no_members_left n ts h)
  enough_members (suc m) zero ts h k = no_members_left (suc m) ts k
  enough_members (suc m) (suc n) ts h k = members_turn (members p m) (members p n) ts (read_key ts) refl (λ r less. enough_members m n r (omega arith) (omega arith))
