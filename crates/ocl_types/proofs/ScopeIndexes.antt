-- The index beside a scope's variables, as they are pushed and popped.
use Rattle.std.proofs.Common.{◌≡◌, ◌<◌, ◌+◌, ◌-◌, ℕ, zero, suc, Bool, true, false, List, [], ◌∷◌, ◌++◌, length, map, take, drop, get_or, Option, Some, None, bytes_eq, All, if◌then◌else◌, refl, sym, ap, ◌∙◌, arith, append_assoc, append-nil}
use Rattle.std.proofs.lemmas.List.{map-append, length-map, same_from_push, drop_more}
use Rattle.std.proofs.Math.Seq.{take-append_seam}
use Rattle.std.proofs.lemmas.List.Elements.{All-nil, All-cons, All-head, All-tail}
use Rattle.std.proofs.lemmas.Slice.Eq.{bytes_eq-Decides}
use Rattle.std.specs.Option.{option_or}
use Rattle.std.specs.BTreeMap.{BTreeMap}
use denote.Ref.{Bor}
use Rattle.imkl_model.specs.ClassModel.{Model}
use Rattle.ocl_kinds.specs.declared.kind.Kind.{Kind}
use Rattle.ocl_kinds.specs.Kinds.{IsKindOf}
use Rattle.ocl_types.specs.declared.scope.ScopeVariable as declared
use Rattle.ocl_types.specs.declared.scope.ImplicitVariable.{ImplicitVariable}
use Rattle.ocl_core.specs.Core as tree
use Rattle.ocl_types.specs.TypedTrees.{TypedTree, typed}
use Rattle.ocl_types.specs.Scope.{Binder, Named, Implicit, Hidden, ScopeVariable, VariableScope, inside, has_binder_name, by_binder, by_feature, feature_of, innermost}
use Rattle.ocl_types.specs.ScopeView.{binder_by, binder_of, variable_view, scope_view, AreKnownVariables}
use Rattle.ocl_types.specs.ScopeIndex.{name_number, number_named, hidden_by, hidden_from, with_implicit, implicit_from, last_feature, IsIndexed}
use Rattle.ocl_types.proofs.Scopes.{view_inside}

-- ---- one more variable

number_by : (b : Bool) (i j : ℕ) (r x : Option ℕ) → i ≡ j → option_or (if b then Some i else r) x ≡ (if b then Some j else option_or r x)
number_by true i j r x e = ap (λ (n : ℕ). Some n) e
number_by false i j r x e = refl

first_by : (b : Bool) (i j : ℕ) → i ≡ j → option_or None (if b then Some i else None) ≡ (if b then Some j else None)
first_by true i j e = ap (λ (n : ℕ). Some n) e
first_by false i j e = refl

number_inside : (name : List ℕ) (n : ℕ) (s : VariableScope) (v : ScopeVariable) → number_named name n (inside s v) ≡ (if has_binder_name v.binder name then Some (n + length s) else number_named name n s)
number_inside name n [] v = first_by (has_binder_name v.binder name) n (n + 0) (omega arith)
number_inside name n (w ∷ ws) v =
    ap (λ (o : Option ℕ). option_or o (if has_binder_name w.binder name then Some n else None)) (number_inside name (suc n) ws v)
    ∙ number_by (has_binder_name v.binder name) (suc n + length ws) (n + suc (length ws)) (number_named name (suc n) ws) (if has_binder_name w.binder name then Some n else None) (omega arith)

hidden_inside : (outer s : VariableScope) (v : ScopeVariable) → hidden_from outer (inside s v) ≡ hidden_from outer s ++ hidden_by (outer ++ s) v.binder ∷ []
hidden_inside outer [] v = ap (λ (s : VariableScope). hidden_by s v.binder ∷ []) (sym (append-nil outer))
hidden_inside outer (w ∷ ws) v =
    ap (λ (hs : List (Option ℕ)). hidden_by outer w.binder ∷ hs) (hidden_inside (inside outer w) ws v)
    ∙ ap (λ (s : VariableScope). hidden_by outer w.binder ∷ (hidden_from (inside outer w) ws ++ hidden_by s v.binder ∷ [])) (append_assoc outer (w ∷ []) ws)

implicit_by : (b : Binder) (v : ImplicitVariable) (vs ws : List ImplicitVariable) → with_implicit b v (vs ++ ws) ≡ with_implicit b v vs ++ ws
implicit_by (Named name) v vs ws = refl
implicit_by Implicit v vs ws = refl
implicit_by Hidden v vs ws = refl

abbrev pub numbered : ℕ → Kind → ImplicitVariable
numbered n kind = record { number = n; kind = kind }

implicit_inside : (n : ℕ) (s : VariableScope) (v : ScopeVariable) → implicit_from n (inside s v) ≡ implicit_from n s ++ with_implicit v.binder (numbered (n + length s) v.kind) []
implicit_inside n [] v =
    let e : n ≡ n + 0 = omega arith in
    ap (λ (i : ℕ). with_implicit v.binder (numbered i v.kind) []) e
implicit_inside n (w ∷ ws) v =
    let e : suc n + length ws ≡ n + suc (length ws) = omega arith in
    ap (with_implicit w.binder (numbered n w.kind)) (implicit_inside (suc n) ws v)
    ∙ implicit_by w.binder (numbered n w.kind) (implicit_from (suc n) ws) (with_implicit v.binder (numbered (suc n + length ws) v.kind) [])
    ∙ ap (λ (i : ℕ). with_implicit w.binder (numbered n w.kind) (implicit_from (suc n) ws) ++ with_implicit v.binder (numbered i v.kind) []) e

same_by : (b : Bool) (i j : ℕ) (r t : Option ℕ) → i ≡ j → r ≡ t → (if b then Some i else r) ≡ (if b then Some j else t)
same_by true i j r t e f = ap (λ (n : ℕ). Some n) e
same_by false i j r t e f = f

-- an index with what a variable that is pushed changes in it
pub pushed : (vs : List declared.ScopeVariable) (named after : BTreeMap (Bor (List ℕ)) ℕ) (implicit more : List ImplicitVariable) (v : declared.ScopeVariable) → IsIndexed vs named implicit → ((q : List ℕ) → name_number after q ≡ (if has_binder_name (binder_of v) q then Some (length vs) else name_number named q)) → v.hides ≡ hidden_by (scope_view vs) (binder_of v) → more ≡ implicit ++ with_implicit (binder_of v) (numbered (length vs) v.kind) [] → IsIndexed (vs ++ v ∷ []) after more
pushed vs named after implicit more v h names hides implicits =
    let s = scope_view vs in
    let long : length s ≡ length vs = length-map vs variable_view in
    record {
      names = λ q. names q
          ∙ same_by (has_binder_name (binder_of v) q) (length vs) (0 + length s) (name_number named q) (number_named q 0 s) (omega (arith, long)) (h.names q)
          ∙ sym (number_inside q 0 s (variable_view v))
          ∙ ap (number_named q 0) (sym (view_inside vs v));
      hides = map-append (λ (w : declared.ScopeVariable). w.hides) vs (v ∷ [])
          ∙ ap (λ (hs : List (Option ℕ)). hs ++ v.hides ∷ []) h.hides
          ∙ ap (λ (o : Option ℕ). hidden_from [] s ++ o ∷ []) hides
          ∙ sym (hidden_inside [] s (variable_view v))
          ∙ ap (hidden_from []) (sym (view_inside vs v));
      implicits =
          let e : length vs ≡ 0 + length s = omega (arith, long) in
          implicits
          ∙ ap (λ (is : List ImplicitVariable). is ++ with_implicit (binder_of v) (numbered (length vs) v.kind) []) h.implicits
          ∙ ap (λ (n : ℕ). implicit_from 0 s ++ with_implicit (binder_of v) (numbered n v.kind) []) e
          ∙ sym (implicit_inside 0 s (variable_view v))
          ∙ ap (implicit_from 0) (sym (view_inside vs v));
    }

-- ---- one variable less

-- what an index says of the innermost variable and of those outside it
record Outside (vs : List declared.ScopeVariable) (named : BTreeMap (Bor (List ℕ)) ℕ) (implicit : List ImplicitVariable) (v : declared.ScopeVariable) : Type 0 where
  names : (q : List ℕ) → name_number named q ≡ (if has_binder_name (binder_of v) q then Some (0 + length (scope_view vs)) else number_named q 0 (scope_view vs))
  hides : map (λ w. w.hides) vs ≡ hidden_from [] (scope_view vs)
  hidden : v.hides ≡ hidden_by (scope_view vs) (binder_of v)
  implicits : implicit ≡ implicit_from 0 (scope_view vs) ++ with_implicit (binder_of v) (numbered (0 + length (scope_view vs)) v.kind) []

outside : (all vs : List declared.ScopeVariable) (named : BTreeMap (Bor (List ℕ)) ℕ) (implicit : List ImplicitVariable) (v : declared.ScopeVariable) → IsIndexed all named implicit → all ≡ vs ++ v ∷ [] → Outside vs named implicit v
outside all vs named implicit v h is =
    let s = scope_view vs in
    let whole : scope_view all ≡ inside s (variable_view v) = ap scope_view is ∙ view_inside vs v in
    let hidden = same_from_push (map (λ (w : declared.ScopeVariable). w.hides) vs) (hidden_from [] s) v.hides (hidden_by s (binder_of v))
    (sym (map-append (λ (w : declared.ScopeVariable). w.hides) vs (v ∷ []))
    ∙ ap (map (λ (w : declared.ScopeVariable). w.hides)) (sym is)
    ∙ h.hides ∙ ap (hidden_from []) whole ∙ hidden_inside [] s (variable_view v)) in
    record {
      names = λ q. h.names q ∙ ap (number_named q 0) whole ∙ number_inside q 0 s (variable_view v);
      hides = hidden.0;
      hidden = hidden.1;
      implicits = h.implicits ∙ ap (implicit_from 0) whole ∙ implicit_inside 0 s (variable_view v);
    }

binder_named : (v : declared.ScopeVariable) (name : Bor (List ℕ)) → v.name ≡ Some name → binder_of v ≡ Named name.now
binder_named v name is = ap (λ (o : Option (Bor (List ℕ))). binder_by o v.is_implicit) is

binder_unnamed : (v : declared.ScopeVariable) (b : Bool) → v.name ≡ None → v.is_implicit ≡ b → binder_of v ≡ binder_by None b
binder_unnamed v b none is = ap (λ (o : Option (Bor (List ℕ))). binder_by o v.is_implicit) none ∙ ap (binder_by None) is

-- the innermost variable had a name, which is now that of the one that it hid
pub popped_named : (all vs : List declared.ScopeVariable) (named after : BTreeMap (Bor (List ℕ)) ℕ) (implicit : List ImplicitVariable) (v : declared.ScopeVariable) (name : Bor (List ℕ)) → IsIndexed all named implicit → all ≡ vs ++ v ∷ [] → v.name ≡ Some name → ((q : List ℕ) → name_number after q ≡ (if bytes_eq name.now q then v.hides else name_number named q)) → IsIndexed vs after implicit
popped_named all vs named after implicit v name h is called names =
    let o = outside all vs named implicit v h is in
    let binder = binder_named v name called in
    record {
      names = λ q. names q ∙ restored q (bytes_eq name.now q) refl;
      hides = o.hides;
      implicits = o.implicits ∙ ap (λ (b : Binder). implicit_from 0 (scope_view vs) ++ with_implicit b (numbered (0 + length (scope_view vs)) v.kind) []) binder ∙ append-nil (implicit_from 0 (scope_view vs));
    }
  where
    restored : (q : List ℕ) (b : Bool) → bytes_eq name.now q ≡ b → (if b then v.hides else name_number named q) ≡ number_named q 0 (scope_view vs)
    restored q true e =
        let o = outside all vs named implicit v h is in
        let same : name.now ≡ q = (bytes_eq-Decides name.now q).0 e in
        o.hidden ∙ ap (hidden_by (scope_view vs)) (binder_named v name called) ∙ ap (λ (n : List ℕ). number_named n 0 (scope_view vs)) same
    restored q false e =
        let o = outside all vs named implicit v h is in
        let other : has_binder_name (binder_of v) q ≡ false = ap (λ (b : Binder). has_binder_name b q) (binder_named v name called) ∙ e in
        o.names q ∙ ap (λ (b : Bool). if b then Some (0 + length (scope_view vs)) else number_named q 0 (scope_view vs)) other

last_off : {A : Type 0} (all xs : List A) (x : A) → all ≡ xs ++ x ∷ [] → take (length all - 1) all ≡ xs
last_off {A = A} all xs x is = rw is (long (length (xs ++ x ∷ []) - 1) (omega (arith, length_one xs x)))
  where
    length_one : (ys : List A) (y : A) → length (ys ++ y ∷ []) ≡ suc (length ys)
    length_one [] y = refl
    length_one (z ∷ zs) y = ap suc (length_one zs y)

    long : (n : ℕ) → n ≡ length xs → take n (xs ++ x ∷ []) ≡ xs
    long n e = rw e (take-append_seam xs (x ∷ []))

-- the features of the innermost variable could be named without it
pub popped_implicit : (all vs : List declared.ScopeVariable) (named : BTreeMap (Bor (List ℕ)) ℕ) (implicit left : List ImplicitVariable) (v : declared.ScopeVariable) (n : ℕ) → IsIndexed all named implicit → all ≡ vs ++ v ∷ [] → v.name ≡ None → v.is_implicit ≡ true → n ≡ length implicit → left ≡ take (n - 1) implicit → IsIndexed vs named left
popped_implicit all vs named implicit left v n h is called implied long rest =
    let o = outside all vs named implicit v h is in
    let binder : binder_of v ≡ Implicit = binder_unnamed v true called implied in
    record {
      names = λ q. o.names q ∙ ap (λ (b : Binder). if has_binder_name b q then Some (0 + length (scope_view vs)) else number_named q 0 (scope_view vs)) binder;
      hides = o.hides;
      implicits = rest ∙ ap (λ (k : ℕ). take (k - 1) implicit) long ∙ last_off implicit (implicit_from 0 (scope_view vs)) (numbered (0 + length (scope_view vs)) v.kind)
          (o.implicits ∙ ap (λ (b : Binder). implicit_from 0 (scope_view vs) ++ with_implicit b (numbered (0 + length (scope_view vs)) v.kind) []) binder);
    }

-- nothing could name the innermost variable
pub popped_hidden : (all vs : List declared.ScopeVariable) (named : BTreeMap (Bor (List ℕ)) ℕ) (implicit : List ImplicitVariable) (v : declared.ScopeVariable) → IsIndexed all named implicit → all ≡ vs ++ v ∷ [] → v.name ≡ None → v.is_implicit ≡ false → IsIndexed vs named implicit
popped_hidden all vs named implicit v h is called implied =
    let o = outside all vs named implicit v h is in
    let binder : binder_of v ≡ Hidden = binder_unnamed v false called implied in
    record {
      names = λ q. o.names q ∙ ap (λ (b : Binder). if has_binder_name b q then Some (0 + length (scope_view vs)) else number_named q 0 (scope_view vs)) binder;
      hides = o.hides;
      implicits = o.implicits ∙ ap (λ (b : Binder). implicit_from 0 (scope_view vs) ++ with_implicit b (numbered (0 + length (scope_view vs)) v.kind) []) binder ∙ append-nil (implicit_from 0 (scope_view vs));
    }

-- the innermost variable's name has a number
pub has_number : (all vs : List declared.ScopeVariable) (named : BTreeMap (Bor (List ℕ)) ℕ) (implicit : List ImplicitVariable) (v : declared.ScopeVariable) (name : Bor (List ℕ)) → IsIndexed all named implicit → all ≡ vs ++ v ∷ [] → v.name ≡ Some name → name_number named name.now ≡ Some (0 + length (scope_view vs))
has_number all vs named implicit v name h is called =
    let o = outside all vs named implicit v h is in
    let itself : has_binder_name (binder_of v) name.now ≡ true = ap (λ (b : Binder). has_binder_name b name.now) (binder_named v name called) ∙ (bytes_eq-Decides name.now name.now).1 refl in
    o.names name.now ∙ ap (λ (b : Bool). if b then Some (0 + length (scope_view vs)) else number_named name.now 0 (scope_view vs)) itself

-- ---- what a name finds

none_by : (b : Bool) (n : ℕ) (x : TypedTree) → (if b then Some n else None) ≡ None → (if b then Some x else None) ≡ None
none_by true n x e = absurd (let none : Some n ≡ None = e in cc)
none_by false n x e = refl

neither : (x y : Option ℕ) → option_or x y ≡ None → (x ≡ None) × (y ≡ None)
neither None y e = (refl, e)
neither (Some n) y e = absurd (let none : Some n ≡ None = e in cc)

-- a name without a number finds no variable
pub none_named : (name : List ℕ) (n : ℕ) (s : VariableScope) → number_named name n s ≡ None → innermost (by_binder name) n s ≡ None
none_named name n [] e = refl
none_named name n (v ∷ vs) e =
    let p = neither (number_named name (suc n) vs) (if has_binder_name v.binder name then Some n else None) e in
    ap (λ (o : Option TypedTree). option_or o (by_binder name n v)) (none_named name (suc n) vs p.0)
    ∙ none_by (has_binder_name v.binder name) n (typed (tree.Variable n) v.kind) p.1

-- a name's number is that of a variable, which the name finds
pub record Finds (name : List ℕ) (n : ℕ) (vs : List declared.ScopeVariable) (k : ℕ) : Type 0 where
  pub index : ℕ
  pub number : k ≡ n + index
  pub within : index < length vs
  pub found : (d : declared.ScopeVariable) → innermost (by_binder name) n (scope_view vs) ≡ Some (typed (tree.Variable k) (get_or vs index d).kind)

some_same : (i j : ℕ) → Some i ≡ Some j → i ≡ j
some_same i j e = cc

pub one_named : (name : List ℕ) (n : ℕ) (vs : List declared.ScopeVariable) (k : ℕ) → number_named name n (scope_view vs) ≡ Some k → Finds name n vs k
one_named name n [] k e = absurd (let none : None ≡ Some k = e in cc)
one_named name n (v ∷ vs) k e = by_rest (λ h. one_named name (suc n) vs k h) (number_named name (suc n) (scope_view vs)) refl
  where
    here : (b : Bool) → has_binder_name (binder_of v) name ≡ b → number_named name (suc n) (scope_view vs) ≡ None → (if b then Some n else None) ≡ Some k → Finds name n (v ∷ vs) k
    here true own none is =
        let same : n ≡ k = some_same n k is in
        record {
          index = 0;
          number = omega (arith, same);
          within = omega arith;
          found = λ d. ap (λ (o : Option TypedTree). option_or o (by_binder name n (variable_view v))) (none_named name (suc n) (scope_view vs) none)
              ∙ ap (λ (b : Bool). if b then Some (typed (tree.Variable n) v.kind) else None) own
              ∙ ap (λ (i : ℕ). Some (typed (tree.Variable i) v.kind)) same;
        }
    here false own none is = absurd (let none : None ≡ Some k = is in cc)

    by_rest : (number_named name (suc n) (scope_view vs) ≡ Some k → Finds name (suc n) vs k) → (o : Option ℕ) → number_named name (suc n) (scope_view vs) ≡ o → Finds name n (v ∷ vs) k
    by_rest again (Some j) is =
        let whole : Some j ≡ Some k = ap (λ (o : Option ℕ). option_or o (if has_binder_name (binder_of v) name then Some n else None)) (sym is) ∙ e in
        let f = again (is ∙ whole) in
        record {
          index = suc f.index;
          number = omega (arith, f.number);
          within = omega (arith, f.within);
          found = λ d. ap (λ (o : Option TypedTree). option_or o (by_binder name n (variable_view v))) (f.found d);
        }
    by_rest again None is =
        here (has_binder_name (binder_of v) name) refl is (ap (λ (o : Option ℕ). option_or o (if has_binder_name (binder_of v) name then Some n else None)) (sym is) ∙ e)

pub variable_at : (name : List ℕ) (vs : List declared.ScopeVariable) (k : ℕ) → number_named name 0 (scope_view vs) ≡ Some k → (k < length vs) × ((d : declared.ScopeVariable) → innermost (by_binder name) 0 (scope_view vs) ≡ Some (typed (tree.Variable k) (get_or vs k d).kind))
variable_at name vs k e =
    let f = one_named name 0 vs k e in
    let same : f.index ≡ k = omega (arith, f.number) in
    (omega (arith, f.within, same), λ d. f.found d ∙ ap (λ (i : ℕ). Some (typed (tree.Variable k) (get_or vs i d).kind)) same)

-- ---- what a feature's name finds

-- what the last of these variables gives, where those after it give nothing
pub feature_here : (m : Model) (name : List ℕ) (vs : List ImplicitVariable) (i : ℕ) (d : ImplicitVariable) → i < length vs → last_feature m name (drop (i + 1) vs) ≡ None → last_feature m name (drop i vs) ≡ feature_of m (tree.Variable (get_or vs i d).number) (get_or vs i d).kind name
feature_here m name vs i d within none =
    ap (last_feature m name) (drop_more vs i d within)
    ∙ ap (λ (o : Option TypedTree). option_or o (feature_of m (tree.Variable (get_or vs i d).number) (get_or vs i d).kind name)) none

-- what is found from some variable on is found in all
pub feature_from : (m : Model) (name : List ℕ) (vs : List ImplicitVariable) (i : ℕ) (x : TypedTree) → last_feature m name (drop i vs) ≡ Some x → last_feature m name vs ≡ Some x
feature_from m name vs zero x e = e
feature_from m name [] (suc i) x e = e
feature_from m name (v ∷ vs) (suc i) x e = ap (λ (o : Option TypedTree). option_or o (feature_of m (tree.Variable v.number) v.kind name)) (feature_from m name vs i x e)

feature_by : (m : Model) (name : List ℕ) (n : ℕ) (b : Binder) (kind : Kind) (vs : List ImplicitVariable) → last_feature m name (with_implicit b (numbered n kind) vs) ≡ option_or (last_feature m name vs) (by_feature m name n b kind)
feature_by m name n (Named own) kind vs = or_none (last_feature m name vs)
  where
    or_none : (o : Option TypedTree) → o ≡ option_or o None
    or_none None = refl
    or_none (Some x) = refl
feature_by m name n Implicit kind vs = refl
feature_by m name n Hidden kind vs = or_none (last_feature m name vs)
  where
    or_none : (o : Option TypedTree) → o ≡ option_or o None
    or_none None = refl
    or_none (Some x) = refl

known_implicit : (m : Model) (b : Binder) (n : ℕ) (kind : Kind) (vs : List ImplicitVariable) → IsKindOf m kind → All (λ v. IsKindOf m v.kind) vs → All (λ v. IsKindOf m v.kind) (with_implicit b (numbered n kind) vs)
known_implicit m (Named name) n kind vs k h = h
known_implicit m Implicit n kind vs k h = All-cons (λ (v : ImplicitVariable). IsKindOf m v.kind) (numbered n kind) vs k h
known_implicit m Hidden n kind vs k h = h

-- the kinds of the variables that needn't be named
pub implicit_known : (m : Model) (n : ℕ) (s : VariableScope) → AreKnownVariables m s → All (λ v. IsKindOf m v.kind) (implicit_from n s)
implicit_known m n [] h = All-nil (λ (v : ImplicitVariable). IsKindOf m v.kind)
implicit_known m n (v ∷ vs) h =
    let P : ScopeVariable → Type 0 = λ w. IsKindOf m w.kind in
    known_implicit m v.binder n v.kind (implicit_from (suc n) vs) (All-head P v vs h) (implicit_known m (suc n) vs (All-tail P v vs h))

-- the variables that needn't be named give what all of them give
pub implicit_features : (m : Model) (name : List ℕ) (n : ℕ) (s : VariableScope) → last_feature m name (implicit_from n s) ≡ innermost (λ k v. by_feature m name k v.binder v.kind) n s
implicit_features m name n [] = refl
implicit_features m name n (v ∷ vs) =
    feature_by m name n v.binder v.kind (implicit_from (suc n) vs)
    ∙ ap (λ (o : Option TypedTree). option_or o (by_feature m name n v.binder v.kind)) (implicit_features m name (suc n) vs)
