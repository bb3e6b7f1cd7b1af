-- Reading a text's tokens a part at a time: what comes next is there, and what is left is read as before.
use Rattle.std.proofs.Common.{◌≡◌, ℕ, ◌-◌, ◌<◌, List, [], ◌∷◌, length, Bool, Option, Some, None, option_map, option_and_then, refl, sym, ap, ◌∙◌, arith}
use Rattle.json.specs.Token.{Token}
use Rattle.json.specs.Lex.{tokens}
use Rattle.json.specs.Json as json
use Rattle.json.specs.Json.{Parse, parse_map, after_end_array, read_key, items_step, members_step, items, members, value, if_last, skip_value}
use Rattle.json.proofs.Grammar.{value_is, value-begin_array, value-begin_object, items_end, items_more, members_end, members_more, read_key-shorter, skip_value-shorter}
use Rattle.serde_json.specs.Data.{Num, Data, null, boolean, number, string, array, object, Items, no_items, item, Members, no_members, put}
use Rattle.serde_json.specs.Read.{number_of, of_json, of_items, of_members, converted, read}
use Rattle.token_tree.specs.Tokens.{data_at, items_at, members_at}
use Rattle.token_tree.proofs.Turns.{enough_items, enough_members}

-- ---- what is there where more is

pub map_there : {A B : Type 0} (f : A → B) (x : Option A) (b : B) → option_map f x ≡ Some b → (a : A) × (x ≡ Some a) × (f a ≡ b)
map_there f None b h = absurd (cc)
map_there f (Some a) b h = let same : f a ≡ b = cc in (a, refl, same)

pub then_there : {A B : Type 0} (f : A → Option B) (x : Option A) (b : B) → option_and_then f x ≡ Some b → (a : A) × (x ≡ Some a) × (f a ≡ Some b)
then_there f None b h = absurd (cc)
then_there f (Some a) b h = (a, refl, h)

-- what was converted was there, with the same left
pub parts : {A B : Type 0} (f : A → Option B) (o : Option (A × List Token)) (b : B) (r : List Token) → converted f o ≡ Some (b, r) → (a : A) × (o ≡ Some (a, r)) × (f a ≡ Some b)
parts {A} {B} f o b r h =
    let first = then_there (λ (p : A × List Token). option_map {U = B × List Token} (λ y. (y, p.1)) (f p.0)) o (b, r) h in
    let p = first.0 in
    let second = map_there (λ (y : B). (y, p.1)) (f p.0) (b, r) first.2 in
    let left : p.1 ≡ r = ap (λ (q : B × List Token). q.1) second.2 in
    let it : second.0 ≡ b = ap (λ (q : B × List Token). q.0) second.2 in
    (p.0, first.1 ∙ ap (λ s. Some (p.0, s)) left, second.1 ∙ ap (λ y. Some y) it)

-- two conversions one after the other
converted_on : {A B : Type 0} (g : A → B) (s : List Token) (x : Option A) → option_map {U = B × List Token} (λ b. (b, s)) (option_map g x) ≡ parse_map g (option_map (λ a. (a, s)) x)
converted_on g s None = refl
converted_on g s (Some a) = refl

item_converted : (j : json.Json) (d : Data) → of_json j ≡ Some d → (o : Option (json.Items × List Token)) → converted of_items (parse_map (json.item j) o) ≡ parse_map (item d) (converted of_items o)
item_converted j d e None = refl
item_converted j d e (Some p) = rw e (converted_on (item d) p.1 (of_items p.0))

member_converted : (k : List ℕ) (j : json.Json) (d : Data) (found : Members) → of_json j ≡ Some d → (o : Option (json.Members × List Token))
    → converted (λ ms. of_members ms found) (parse_map (json.member k j) o) ≡ converted (λ ms. of_members ms (put k d found)) o
member_converted k j d found e None = refl
member_converted k j d found e (Some p) = rw e

array_converted : (o : Option (json.Items × List Token)) → converted of_json (parse_map json.array o) ≡ parse_map array (converted of_items o)
array_converted None = refl
array_converted (Some p) = converted_on array p.1 (of_items p.0)

object_converted : (o : Option (json.Members × List Token)) → converted of_json (parse_map json.object o) ≡ parse_map object (converted (λ ms. of_members ms no_members) o)
object_converted None = refl
object_converted (Some p) = converted_on object p.1 (of_members p.0 no_members)

-- ---- values

-- passing over a value leaves what reading it leaves
pub skip_agrees : (depth : ℕ) (ts : List Token) (d : Data) (r s : List Token) → data_at depth ts ≡ Some (d, r) → skip_value depth ts ≡ Some s → r ≡ s
unfolding data_at
skip_agrees depth ts d r s h k = let j = parts of_json (value depth ts) d r h in let same : Some r ≡ Some s = sym (ap (option_map (λ p. p.1)) j.1) ∙ k in cc

pub data-string : (depth : ℕ) (s : List ℕ) (ts : List Token) → data_at depth (Token.string s ∷ ts) ≡ Some (string s, ts)
unfolding data_at
data-string depth s ts = ap (converted of_json) (value_is depth (Token.string s ∷ ts))

pub data-boolean : (depth : ℕ) (b : Bool) (ts : List Token) → data_at depth (Token.boolean b ∷ ts) ≡ Some (boolean b, ts)
unfolding data_at
data-boolean depth b ts = ap (converted of_json) (value_is depth (Token.boolean b ∷ ts))

pub data-null : (depth : ℕ) (ts : List Token) → data_at depth (Token.null ∷ ts) ≡ Some (null, ts)
unfolding data_at
data-null depth ts = ap (converted of_json) (value_is depth (Token.null ∷ ts))

pub data-number : (depth : ℕ) (s : List ℕ) (n : Num) (ts : List Token) → number_of s ≡ Some n → data_at depth (Token.number s ∷ ts) ≡ Some (number n, ts)
unfolding data_at
data-number depth s n ts e = ap (converted of_json) (value_is depth (Token.number s ∷ ts)) ∙ rw e

pub data-array : (depth : ℕ) (ts : List Token) → 0 < depth → data_at depth (Token.begin_array ∷ ts) ≡ parse_map array (items_at (depth - 1) ts)
unfolding data_at items_at
data-array depth ts h = ap (converted of_json) (value-begin_array depth ts h) ∙ array_converted (items (value (depth - 1)) (length ts) ts)

pub data-object : (depth : ℕ) (ts : List Token) → 0 < depth → data_at depth (Token.begin_object ∷ ts) ≡ parse_map object (members_at (depth - 1) no_members ts)
unfolding data_at members_at
data-object depth ts h = ap (converted of_json) (value-begin_object depth ts h) ∙ object_converted (members (value (depth - 1)) (length ts) ts)

-- ---- a turn of a list, and of an object

pub items_over : (depth : ℕ) (ts r : List Token) → after_end_array ts ≡ Some r → items_at depth ts ≡ Some (no_items, r)
unfolding items_at
items_over depth ts r e = ap (converted of_items) (items_end (value depth) (length ts) ts r (omega arith) e)

pub items_next : (depth : ℕ) (ts r : List Token) (d : Data) → after_end_array ts ≡ None → data_at depth ts ≡ Some (d, r) → items_at depth ts ≡ parse_map (item d) (items_at depth r)
unfolding items_at data_at
items_next depth ts r d going h =
    let j = parts of_json (value depth ts) d r h in
    let less = skip_value-shorter depth ts r (ap (option_map (λ p. p.1)) j.1) in
    let turn = items_more (value depth) (length ts) ts r j.0 (omega (arith, less)) going j.1 in
    let enough = enough_items (value depth) (skip_value-shorter depth) (length ts - 1) (length r) r (omega (arith, less)) (omega arith) in
    ap (converted of_items) (turn ∙ ap (parse_map (json.item j.0)) enough) ∙ item_converted j.0 d j.2 (items (value depth) (length r) r)

pub members_over : (depth : ℕ) (found : Members) (ts r : List Token) → read_key ts ≡ Some (None, r) → members_at depth found ts ≡ Some (found, r)
unfolding members_at
members_over depth found ts r e = ap (converted (λ ms. of_members ms found)) (members_end (value depth) (length ts) ts r (omega arith) e)

pub members_next : (depth : ℕ) (found : Members) (k : List ℕ) (ts s r : List Token) (d : Data) → read_key ts ≡ Some (Some k, s) → data_at depth s ≡ Some (d, r)
    → members_at depth found ts ≡ members_at depth (put k d found) r
unfolding members_at data_at
members_next depth found k ts s r d key h =
    let j = parts of_json (value depth s) d r h in
    let less = skip_value-shorter depth s r (ap (option_map (λ p. p.1)) j.1) in
    let first = read_key-shorter ts (Some k) s key in
    let turn = members_more (value depth) (length ts) k ts s r j.0 (omega (arith, less, first)) key j.1 in
    let enough = enough_members (value depth) (skip_value-shorter depth) (length ts - 1) (length r) r (omega (arith, less, first)) (omega arith) in
    ap (converted (λ ms. of_members ms found)) (turn ∙ ap (parse_map (json.member k j.0)) enough) ∙ member_converted k j.0 d found j.2 (members (value depth) (length r) r)

-- ---- what is there where the whole is

-- a value, and what comes behind it
pub record ItemThere (depth : ℕ) (ts : List Token) (all : Items) (r : List Token) : Type 0 where
  pub first : Data
  pub left : List Token
  pub rest : Items
  pub is : data_at depth ts ≡ Some (first, left)
  pub more : items_at depth left ≡ Some (rest, r)
  pub all_is : all ≡ item first rest

pub record MemberThere (depth : ℕ) (found : Members) (k : List ℕ) (ts : List Token) (all : Members) (r : List Token) : Type 0 where
  pub first : Data
  pub left : List Token
  pub is : data_at depth ts ≡ Some (first, left)
  pub more : members_at depth (put k first found) left ≡ Some (all, r)

item_there_by : (more : Parse json.Items) (o : Option (json.Json × List Token)) (all : Items) (r : List Token) → converted of_items (option_and_then (λ q. parse_map (json.item q.0) (more q.1)) o) ≡ Some (all, r)
    → (j : json.Json) × (s : List Token) × (d : Data) × (rest : Items) × (o ≡ Some (j, s)) × (of_json j ≡ Some d) × (converted of_items (more s) ≡ Some (rest, r)) × (all ≡ item d rest)
item_there_by more o all r h =
    let whole = parts of_items (option_and_then (λ q. parse_map (json.item q.0) (more q.1)) o) all r h in
    let first = then_there (λ (q : json.Json × List Token). parse_map (json.item q.0) (more q.1)) o (whole.0, r) whole.1 in
    let j = first.0.0 in
    let s = first.0.1 in
    let second = map_there (λ (p : json.Items × List Token). (json.item j p.0, p.1)) (more s) (whole.0, r) first.2 in
    let js = second.0.0 in
    let all_is : json.item j js ≡ whole.0 = ap (λ (p : json.Items × List Token). p.0) second.2 in
    let left : second.0.1 ≡ r = ap (λ (p : json.Items × List Token). p.1) second.2 in
    let third = then_there (λ (d : Data). option_map (item d) (of_items js)) (of_json j) all (ap of_items all_is ∙ whole.2) in
    let d = third.0 in
    let last = map_there (item d) (of_items js) all third.2 in
    let more_is : more s ≡ Some (js, r) = second.1 ∙ ap (λ x. Some (js, x)) left in
    (j, s, d, last.0, first.1, third.1, ap (converted of_items) more_is ∙ ap (option_map (λ y. (y, r))) last.1, sym last.2)

-- a value is next in a list that is there
pub item_there : (depth : ℕ) (ts : List Token) (all : Items) (r : List Token) → after_end_array ts ≡ None → items_at depth ts ≡ Some (all, r) → ItemThere depth ts all r
unfolding items_at data_at items
item_there depth [] all r going h = absurd (cc)
item_there depth (t ∷ ts) all r going h =
    let p = value depth in
    let one = ap (λ o. converted of_items (items_step p (items p (length ts)) (t ∷ ts) o)) (sym going) ∙ h in
    let it = item_there_by (items p (length ts)) (p (t ∷ ts)) all r one in
    let less = skip_value-shorter depth (t ∷ ts) it.1 (ap (option_map (λ q. q.1)) it.4) in
    let enough = enough_items p (skip_value-shorter depth) (length it.1) (length ts) it.1 (omega arith) (omega (arith, less)) in
    record {
      first = it.2;
      left = it.1;
      rest = it.3;
      is = ap (converted of_json) it.4 ∙ ap (option_map (λ y. (y, it.1))) it.5;
      more = ap (converted of_items) enough ∙ it.6;
      all_is = it.7;
    }

member_there_by : (found : Members) (k : List ℕ) (more : Parse json.Members) (o : Option (json.Json × List Token)) (all : Members) (r : List Token)
    → converted (λ ms. of_members ms found) (option_and_then (λ q. parse_map (json.member k q.0) (more q.1)) o) ≡ Some (all, r)
    → (j : json.Json) × (s : List Token) × (d : Data) × (o ≡ Some (j, s)) × (of_json j ≡ Some d) × (converted (λ ms. of_members ms (put k d found)) (more s) ≡ Some (all, r))
member_there_by found k more o all r h =
    let whole = parts (λ ms. of_members ms found) (option_and_then (λ q. parse_map (json.member k q.0) (more q.1)) o) all r h in
    let first = then_there (λ (q : json.Json × List Token). parse_map (json.member k q.0) (more q.1)) o (whole.0, r) whole.1 in
    let j = first.0.0 in
    let s = first.0.1 in
    let second = map_there (λ (p : json.Members × List Token). (json.member k j p.0, p.1)) (more s) (whole.0, r) first.2 in
    let js = second.0.0 in
    let all_is : json.member k j js ≡ whole.0 = ap (λ (p : json.Members × List Token). p.0) second.2 in
    let left : second.0.1 ≡ r = ap (λ (p : json.Members × List Token). p.1) second.2 in
    let third = then_there (λ (d : Data). of_members js (put k d found)) (of_json j) all (ap (λ ms. of_members ms found) all_is ∙ whole.2) in
    let d = third.0 in
    let more_is : more s ≡ Some (js, r) = second.1 ∙ ap (λ x. Some (js, x)) left in
    (j, s, d, first.1, third.1, ap (converted (λ ms. of_members ms (put k d found))) more_is ∙ ap (option_map (λ y. (y, r))) third.2)

-- a member's value is next in an object that is there
pub member_there : (depth : ℕ) (found : Members) (k : List ℕ) (ts s : List Token) (all : Members) (r : List Token) → read_key ts ≡ Some (Some k, s) → members_at depth found ts ≡ Some (all, r) → MemberThere depth found k s all r
unfolding members_at data_at members
member_there depth found k [] s all r key h = absurd (cc)
member_there depth found k (t ∷ ts) s all r key h =
    let p = value depth in
    let first = read_key-shorter (t ∷ ts) (Some k) s key in
    let one = ap (λ o. converted (λ ms. of_members ms found) (option_and_then (λ q. members_step p (members p (length ts)) q.0 q.1) o)) (sym key) ∙ h in
    let it = member_there_by found k (members p (length ts)) (p s) all r one in
    let less = skip_value-shorter depth s it.1 (ap (option_map (λ q. q.1)) it.3) in
    let enough = enough_members p (skip_value-shorter depth) (length it.1) (length ts) it.1 (omega arith) (omega (arith, less, first)) in
    record {
      first = it.2;
      left = it.1;
      is = ap (converted of_json) it.3 ∙ ap (option_map (λ y. (y, it.1))) it.4;
      more = ap (converted (λ ms. of_members ms (put k it.2 found))) enough ∙ it.5;
    }

-- ---- a whole text

if_last_there : (p : json.Json × List Token) (j : json.Json) → if_last p.0 p.1 ≡ Some j → (p.0 ≡ j) × (p.1 ≡ [])
if_last_there (i, []) j h = let same : i ≡ j = cc in (same, refl)
if_last_there (i, t ∷ ts) j h = absurd (cc)

pub read_there : (text : List ℕ) (d : Data) → read text ≡ Some d → data_at 127 (tokens text) ≡ Some (d, [])
unfolding data_at
read_there text d h =
    let o = value 127 (tokens text) in
    let first = then_there of_json (option_and_then (λ p. if_last p.0 p.1) o) d h in
    let second = then_there (λ (p : json.Json × List Token). if_last p.0 p.1) o first.0 first.1 in
    let last = if_last_there second.0 first.0 second.2 in
    let j : second.0.0 ≡ first.0 = last.0 in
    let o_is : o ≡ Some (first.0, []) = second.1 ∙ ap (λ i. Some (i, second.0.1)) j ∙ ap (λ s. Some (first.0, s)) last.1 in
    ap (converted of_json) o_is ∙ ap (option_map (λ y. (y, []))) first.2

pub read_is : (text : List ℕ) (d : Data) → data_at 127 (tokens text) ≡ Some (d, []) → read text ≡ Some d
unfolding data_at
read_is text d h =
    let j = parts of_json (value 127 (tokens text)) d [] h in
    ap (λ o. option_and_then of_json (option_and_then (λ p. if_last p.0 p.1) o)) j.1 ∙ j.2
