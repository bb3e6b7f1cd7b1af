-- The texts and symbols that typed rules use stand under their numbers in the unit of the rules.
use Rattle.std.proofs.Common.{◌≡◌, ℕ, suc, ◌+◌, ◌<◌, ◌==◌, Bool, true, false, ◌||◌, ◌&&◌, not, cond, List, [], ◌∷◌, ◌++◌, length, get_or, Option, Some, None, refl, sym, ap, ◌∙◌, subst, arith, bytes_eq, position, if◌then◌else◌}
use Rattle.std.specs.Prelude.{slice_get, unwrap_or, option_and_then}
use Rattle.std.specs.Option.{option_map}
use Rattle.std.specs.List.{list_any, AllByRecursion, position_or_len, prefix_len}
use Rattle.std.proofs.lemmas.Bool.{and_parts, or_right, lt-ltb, eq-eqb, eqb-true}
use Rattle.std.proofs.lemmas.List.Folds.{list_any-append}
use Rattle.std.proofs.lemmas.List.Quantifiers.{position-Some}
use Rattle.std.proofs.lemmas.Option.{slice_get-map, slice_get-get_or}
use Rattle.std.proofs.lemmas.Slice.Eq.{bytes_eq-Decides}
use Rattle.ocl_base.specs.Lists.{is_among}
use Rattle.imkl_model.specs.ClassModel.{Model, class_at, enumeration_at, feature_at, class_number, enumeration_number, feature_number, literal_number, belongs}
use Rattle.imkl_model.specs.Renames.{renamed_class, renamed_feature, linked_class, feature_by_names}
use Rattle.imkl_model.specs.WellFormed.{IsClassModel}
use Rattle.imkl_model.proofs.ForAbove.{conforms_to_itself, classes_have_names, enumerations_have_names, literals_have_names, features_have_names, present_classes_stay, present_features_stay}
use Rattle.ocl_base.specs.declared.collection_kind.CollectionKind.{CollectionKind}
use Rattle.ocl_kinds.specs.declared.kind.ScalarKind.{ScalarKind}
use Rattle.ocl_kinds.specs.declared.kind.ScalarKind.TheVariants as element
use Rattle.ocl_kinds.specs.declared.kind.Kind.{Kind}
use Rattle.ocl_kinds.specs.declared.kind.Kind.TheVariants.{Scalar, Collection}
use Rattle.ocl_kinds.specs.Kinds.{IsScalarKindOf, IsKindOf}
use Rattle.ocl_core.specs.declared.operator.Operator.{Operator}
use Rattle.ocl_core.specs.declared.operator.Operator.TheVariants.{Plain, OfClass, OfElements, Equal}
use Rattle.ocl_core.specs.declared.core_tree.Iteration.{Iteration}
use Rattle.ocl_core.specs.declared.core_tree.Iteration.TheVariants as iteration
use Rattle.ocl_core.specs.Core as tree
use Rattle.ocl_core.specs.Core.{Constant, CoreTree, CoreTrees, CheckedRule}
use Rattle.ocl_core.specs.Typing.{IsConstantOf, IsOperation, IsTypedIteration, IsTyped, AreTyped, IsTypedRule}
use Rattle.rule_code.specs.Content.{text_at}
use Rattle.rule_verify.specs.declared.named.Named.{Named}
use Rattle.rule_verify.specs.declared.named.Named.TheVariants as named
use Rattle.rule_verify.specs.Symbols.{named_by, named_at}
use Rattle.ocl_compile.specs.NumberWalk.{IsNamedIn, IsUseOf, AreUsesOf}
use Rattle.ocl_compile.specs.Numbering.{same_named, literal_name, names_of_symbol, Use, UsedText, UsedSymbol, constant_uses, scalar_uses, kind_uses, operator_uses, iteration_uses, tree_uses, trees_uses, rule_uses, rules_uses, Numbering, no_numbers, once_more, with_texts, with_use, with_uses, numbering_of, text_number, symbol_number}
use Rattle.ocl_compile.specs.Translation.{translate_symbol, unit_with}
use Rattle.ocl_compile.specs.ResolvedUses.{IsUseResolved, AreUsesResolved}

-- ---- numbers of what stands in a list

found_before : {A : Type 0} (p : A → Bool) (xs : List A) → list_any p xs ≡ true → position_or_len p xs < length xs
found_before p [] e = cc
found_before p (x ∷ xs) e = by_test (p x) refl e (found_before p xs)
  where
    by_test : (b : Bool) → p x ≡ b → (b || list_any p xs) ≡ true → (list_any p xs ≡ true → position_or_len p xs < length xs) → position_or_len p (x ∷ xs) < suc (length xs)
    by_test true h e more = subst (λ (t : Bool). cond (not t) (1 + prefix_len (λ y. not (p y)) xs) 0 < suc (length xs)) (sym h) (omega arith)
    by_test false h e more = subst (λ (t : Bool). cond (not t) (1 + prefix_len (λ y. not (p y)) xs) 0 < suc (length xs)) (sym h) (omega (arith, more e))

-- what is there has a number, at which something equal stands
pub numbered : {A : Type 0} (same : A → A → Bool) (xs : List A) (x : A) → is_among same xs x ≡ true → (i : ℕ) × (position (same x) xs ≡ Some i) × (i < length xs) × (same x (get_or xs i x) ≡ true)
numbered same xs x e =
    let i = position_or_len (same x) xs in
    let lt = found_before (same x) xs e in
    let at : position (same x) xs ≡ Some i = ap (λ (b : Bool). cond b (Some i) None) (lt-ltb i (length xs) lt) in
    let p = position-Some (same x) xs i x at in
    (i, at, p.0, p.1)

-- ---- what is there stays there

stays : {A : Type 0} (same : A → A → Bool) (xs : List A) (x y : A) → is_among same xs y ≡ true → is_among same (once_more same xs x) y ≡ true
stays same xs x y e = by_test (is_among same xs x)
  where
    by_test : (b : Bool) → list_any (same y) (if b then xs else xs ++ x ∷ []) ≡ true
    by_test true = e
    by_test false = list_any-append (same y) xs (x ∷ []) ∙ ap (λ (t : Bool). t || list_any (same y) (x ∷ [])) e

is_added : {A : Type 0} (same : A → A → Bool) (xs : List A) (x : A) → same x x ≡ true → is_among same (once_more same xs x) x ≡ true
is_added same xs x itself = by_test (is_among same xs x) refl
  where
    by_test : (b : Bool) → is_among same xs x ≡ b → list_any (same x) (if b then xs else xs ++ x ∷ []) ≡ true
    by_test true h = h
    by_test false h = list_any-append (same x) xs (x ∷ []) ∙ or_right (list_any (same x) xs) (list_any (same x) (x ∷ [])) (ap (λ (t : Bool). t || false) itself)

-- a text is equal to itself
pub text_itself : (t : List ℕ) → bytes_eq t t ≡ true
text_itself t = (bytes_eq-Decides t t).1 refl

named_itself : (x : Named) → same_named x x ≡ true
named_itself (named.Class c) = eq-eqb c c refl
named_itself (named.Enumeration e) = eq-eqb e e refl
named_itself (named.Feature c f) = ap (λ (b : Bool). b && (f == f)) (eq-eqb c c refl) ∙ eq-eqb f f refl
named_itself (named.Literal e l) = ap (λ (b : Bool). b && (l == l)) (eq-eqb e e refl) ∙ eq-eqb l l refl

-- names that are found to be the same are equal
pub same_is : (x y : Named) → same_named x y ≡ true → x ≡ y
same_is (named.Class c) (named.Class d) e = ap (λ (k : ℕ). named.Class k) (eqb-true c d e)
same_is (named.Enumeration c) (named.Enumeration d) e = ap (λ (k : ℕ). named.Enumeration k) (eqb-true c d e)
same_is (named.Feature c f) (named.Feature d g) e =
    let p = and_parts (c == d) (f == g) e in
    ap (λ (k : ℕ). named.Feature k f) (eqb-true c d p.0) ∙ ap (λ (k : ℕ). named.Feature d k) (eqb-true f g p.1)
same_is (named.Literal c f) (named.Literal d g) e =
    let p = and_parts (c == d) (f == g) e in
    ap (λ (k : ℕ). named.Literal k f) (eqb-true c d p.0) ∙ ap (λ (k : ℕ). named.Literal d k) (eqb-true f g p.1)
same_is x y e = cc

-- ---- numberings have what is used

abbrev pub HasText : Numbering → List ℕ → Type 0
HasText n t = is_among bytes_eq n.texts t ≡ true

-- a use's text is there, or its symbol with its names
abbrev pub Has : Model → Numbering → Use → Type 0
Has m n (UsedText t) = HasText n t
Has m n (UsedSymbol x) = (is_among same_named n.symbols x ≡ true) × AllByRecursion (HasText n) (names_of_symbol m x)

text_stays : (texts ts : List (List ℕ)) (t : List ℕ) → is_among bytes_eq texts t ≡ true → is_among bytes_eq (with_texts texts ts) t ≡ true
text_stays texts [] t e = e
text_stays texts (x ∷ ts) t e = text_stays (once_more bytes_eq texts x) ts t (stays bytes_eq texts x t e)

-- texts that are added are there
pub texts_added : (symbols : List Named) (texts ts : List (List ℕ)) → AllByRecursion (HasText (record { texts = with_texts texts ts; symbols = symbols })) ts
texts_added symbols texts [] = tt
texts_added symbols texts (t ∷ ts) =
    (text_stays (once_more bytes_eq texts t) ts t (is_added bytes_eq texts t (text_itself t)), texts_added symbols (once_more bytes_eq texts t) ts)

-- a numbering has all that another has
pub record Grows (n o : Numbering) : Type 0 where
  pub texts : (t : List ℕ) → HasText n t → HasText o t
  pub symbols : (x : Named) → is_among same_named n.symbols x ≡ true → is_among same_named o.symbols x ≡ true

-- a numbering keeps all that it has when a use is numbered
pub grows_by_use : (m : Model) (n : Numbering) (u : Use) → Grows n (with_use m n u)
grows_by_use m n (UsedText t) = record { texts = λ x e. text_stays n.texts (t ∷ []) x e; symbols = λ x e. e }
grows_by_use m n (UsedSymbol s) =
    record { texts = λ x e. text_stays n.texts (names_of_symbol m s) x e; symbols = λ x e. stays same_named n.symbols s x e }

-- texts that are there stay there as a numbering grows
pub all_texts : (n o : Numbering) → Grows n o → (ts : List (List ℕ)) → AllByRecursion (HasText n) ts → AllByRecursion (HasText o) ts
all_texts n o g [] h = tt
all_texts n o g (t ∷ ts) h = (g.texts t h.0, all_texts n o g ts h.1)

keeps : (m : Model) (n o : Numbering) → Grows n o → (u : Use) → Has m n u → Has m o u
keeps m n o g (UsedText t) h = g.texts t h
keeps m n o g (UsedSymbol x) h = (g.symbols x h.0, all_texts n o g (names_of_symbol m x) h.1)

has_use : (m : Model) (n : Numbering) (u : Use) → Has m (with_use m n u) u
has_use m n (UsedText t) = (texts_added n.symbols n.texts (t ∷ [])).0
has_use m n (UsedSymbol x) =
    (is_added same_named n.symbols x (named_itself x), texts_added (once_more same_named n.symbols x) n.texts (names_of_symbol m x))

grows_by_uses : (m : Model) (n : Numbering) (us : List Use) → Grows n (with_uses m n us)
grows_by_uses m n [] = record { texts = λ t e. e; symbols = λ x e. e }
grows_by_uses m n (u ∷ us) =
    let a = grows_by_use m n u in
    let b = grows_by_uses m (with_use m n u) us in
    record { texts = λ t e. b.texts t (a.texts t e); symbols = λ x e. b.symbols x (a.symbols x e) }

-- uses are there once they are numbered
pub has_uses : (m : Model) (n : Numbering) (us : List Use) → AllByRecursion (Has m (with_uses m n us)) us
has_uses m n [] = tt
has_uses m n (u ∷ us) =
    (keeps m (with_use m n u) (with_uses m (with_use m n u) us) (grows_by_uses m (with_use m n u) us) u (has_use m n u), has_uses m (with_use m n u) us)

-- ---- what typed rules use is in the class model

both : (m : Model) (us vs : List Use) → AreUsesOf m us → AreUsesOf m vs → AreUsesOf m (us ++ vs)
both m [] vs h g = g
both m (u ∷ us) vs h g = (h.0, both m us vs h.1 g)

scalar_there : (m : Model) (k : ScalarKind) → IsScalarKindOf m k → AreUsesOf m (scalar_uses k)
scalar_there m element.Void h = tt
scalar_there m element.Boolean h = tt
scalar_there m element.Integer h = tt
scalar_there m element.String h = tt
scalar_there m (element.Enumeration e) h = (h, tt)
scalar_there m (element.Class c) h = (h, tt)
scalar_there m element.AnyObject h = tt

kind_there : (m : Model) (k : Kind) → IsKindOf m k → AreUsesOf m (kind_uses k)
kind_there m (Scalar k) h = scalar_there m k h
kind_there m (Collection c k) h = scalar_there m k h

constant_there : (m : Model) (c : Constant) → IsConstantOf m c → AreUsesOf m (constant_uses c)
constant_there m (tree.Boolean b) h = tt
constant_there m (tree.Integer i) h = tt
constant_there m (tree.Text t) h = (tt, tt)
constant_there m (tree.Literal e l) h = (h, tt)
constant_there m tree.Null h = tt
constant_there m tree.Invalid h = tt

operator_there : (m : Model) (operator : Operator) (x : Kind) (xs : List Kind) (gives : Kind) → IsOperation m operator x xs gives → AreUsesOf m (operator_uses operator)
operator_there m (Plain operator) x xs gives h = tt
operator_there m (OfClass operator c) x xs gives h = (h.0, tt)
operator_there m (OfElements operator k) x xs gives h = scalar_there m k h.0
operator_there m (Equal k) x xs gives h = kind_there m k h.0

iteration_there : (m : Model) (it : Iteration) (c : CollectionKind) (e : ScalarKind) (y gives : Kind) → IsTypedIteration m it c e y gives → AreUsesOf m (iteration_uses it)
iteration_there m iteration.ForAll c e y gives h = tt
iteration_there m iteration.Exists c e y gives h = tt
iteration_there m iteration.One c e y gives h = tt
iteration_there m iteration.Select c e y gives h = tt
iteration_there m iteration.Reject c e y gives h = tt
iteration_there m iteration.Collect c e y gives h = tt
iteration_there m iteration.CollectFlat c e y gives h = tt
iteration_there m (iteration.IsUnique k) c e y gives h = scalar_there m k h.0

module _ (m : Model) where
  mutual
    -- all that a typed tree uses is in the class model
    pub tree_there : (t : CoreTree) (g : List Kind) (k : Kind) → IsTyped m g t k → AreUsesOf m (tree_uses m t)
    tree_there (tree.Value c) g k t = constant_there m c t.0
    tree_there (tree.Variable v) g k t = tt
    tree_there (tree.AllInstances c) g k t = (t.0, tt)
    tree_there (tree.Feature source f) g k t = both m (tree_uses m source) _ (tree_there source g t.1.0 t.1.1) ((t.0, refl), tt)
    tree_there (tree.Operation operator first others) g k t =
        both m (tree_uses m first) _ (tree_there first g t.0 t.2) (both m (trees_uses m others) _ (trees_there others g t.1 t.3) (operator_there m operator t.0 t.1 k t.4))
    tree_there (tree.AsCollection c e source) g k t = both m (tree_uses m source) _ (tree_there source g t.1.0 t.1.1) (scalar_there m e t.0)
    tree_there (tree.Iterate it source body) g k t =
        both m (tree_uses m source) _ (tree_there source g _ t.4) (both m (iteration_uses it) _ (iteration_there m it t.0 t.1 t.3 k t.7) (tree_there body _ t.3 t.6))
    tree_there (tree.Fold x source start body) g k t =
        both m (tree_uses m source) _ (tree_there source g _ t.1.5) (both m (tree_uses m start) _ (tree_there start g _ t.1.6) (both m (scalar_uses x) _ (scalar_there m x t.0) (tree_there body _ t.1.4 t.1.9)))
    tree_there (tree.Let v body) g k t = both m (tree_uses m v) _ (tree_there v g t.0 t.2) (tree_there body _ k t.4)
    tree_there (tree.If kind condition first second) g k t =
        both m (tree_uses m condition) _ (tree_there condition g t.1.0 t.1.3) (both m (kind_uses kind) _ (kind_there m kind t.0) (both m (tree_uses m first) _ (tree_there first g t.1.1 t.1.5) (tree_there second g t.1.2 t.1.7)))

    trees_there : (ts : CoreTrees) (g ks : List Kind) → AreTyped m g ts ks → AreUsesOf m (trees_uses m ts)
    trees_there tree.no_core g ks t = tt
    trees_there (tree.one_core first others) g ks t = both m (tree_uses m first) _ (tree_there first g t.0 t.2) (trees_there others g t.1 t.3)

  -- and so is all that typed rules use
  pub rules_there : (rs : List CheckedRule) → AllByRecursion (IsTypedRule m) rs → AreUsesOf m (rules_uses m rs)
  rules_there [] h = tt
  rules_there (r ∷ rs) h = both m (rule_uses m r) _ (tt, (h.0.0, tree_there r.tree _ h.0.1.0 h.0.1.1)) (rules_there rs h.1)

-- ---- so each stands under its number

-- a text that is there is the text of its number
pub text_stands : (n : Numbering) (t : List ℕ) → HasText n t → text_at n.texts (text_number n t) ≡ t
text_stands n t h =
    let p = numbered bytes_eq n.texts t h in
    let at : text_number n t ≡ p.0 = ap (λ (o : Option ℕ). unwrap_or o 0) p.1 in
    let q = position-Some (bytes_eq t) n.texts p.0 [] p.1 in
    ap (text_at n.texts) at ∙ sym ((bytes_eq-Decides t (get_or n.texts p.0 [])).0 q.1)

module _ (m : Model) (model : IsClassModel m) (n : Numbering) (rs : List CheckedRule) where
  symbol_stands : (x : Named) → IsNamedIn m x → AllByRecursion (HasText n) (names_of_symbol m x) → named_by m n.texts (translate_symbol m n x) ≡ Some x
  symbol_stands (named.Class c) there h =
      let number = (classes_have_names m model (class_at m c).name c).1 (there, refl) in
      ap (λ (t : List ℕ). option_map named.Class (linked_class m t)) (text_stands n (class_at m c).name h.0)
      ∙ ap (option_map named.Class) (present_classes_stay m model (class_at m c).name c number).1
  symbol_stands (named.Enumeration e) there h =
      ap (λ (t : List ℕ). option_map named.Enumeration (enumeration_number m t)) (text_stands n (enumeration_at m e).name h.0)
      ∙ ap (option_map named.Enumeration) ((enumerations_have_names m model (enumeration_at m e).name e).1 (there, refl))
  symbol_stands (named.Feature c f) there h =
      let owned : belongs m c f ≡ true = subst (λ (k : ℕ). belongs m k f ≡ true) (sym there.1) (conforms_to_itself m (feature_at m f).owner) in
      let inside : c < length m.classes = subst (λ (k : ℕ). k < length m.classes) (sym there.1) (model.known_owners f there.0) in
      let class = (class_at m c).name in
      let name = (feature_at m f).name in
      let text = text_at n.texts (text_number n name) in
      let class_is = (classes_have_names m model class c).1 (inside, refl) in
      let feature_is = (features_have_names m model name c f).1 (there.0, owned, refl) in
      let both : feature_by_names m class name ≡ Some f = ap (λ (o : Option ℕ). option_and_then (λ k. feature_number m k name) o) class_is ∙ feature_is in
      ap (λ (t : List ℕ). option_and_then (λ k. option_map (named.Feature k) (feature_number m k (renamed_feature m (renamed_class m t) text))) (class_number m (renamed_class m t))) (text_stands n class h.0)
      ∙ ap (λ (t : List ℕ). option_and_then (λ k. option_map (named.Feature k) (feature_number m k (renamed_feature m t text))) (class_number m t)) (present_classes_stay m model class c class_is).0
      ∙ ap (λ (o : Option ℕ). option_and_then (λ k. option_map (named.Feature k) (feature_number m k (renamed_feature m class text))) o) class_is
      ∙ ap (λ (t : List ℕ). option_map (named.Feature c) (feature_number m c (renamed_feature m class t))) (text_stands n name h.1.0)
      ∙ ap (λ (t : List ℕ). option_map (named.Feature c) (feature_number m c t)) (present_features_stay m model class name f both).0
      ∙ ap (option_map (named.Feature c)) feature_is
  symbol_stands (named.Literal e l) there h =
      ap (λ (t : List ℕ). option_and_then (λ enumeration. option_map (named.Literal enumeration) (literal_number m enumeration (text_at n.texts (text_number n (literal_name m e l))))) (enumeration_number m t)) (text_stands n (enumeration_at m e).name h.0)
      ∙ ap (λ (o : Option ℕ). option_and_then (λ enumeration. option_map (named.Literal enumeration) (literal_number m enumeration (text_at n.texts (text_number n (literal_name m e l))))) o) ((enumerations_have_names m model (enumeration_at m e).name e).1 (there.0, refl))
      ∙ ap (λ (t : List ℕ). option_map (named.Literal e) (literal_number m e t)) (text_stands n (literal_name m e l) h.1.0)
      ∙ ap (option_map (named.Literal e)) ((literals_have_names m model e there.0 (literal_name m e l) l).1 (there.1, refl))

  use_resolved : (u : Use) → IsUseOf m u → Has m n u → IsUseResolved m (unit_with m n rs) n u
  use_resolved (UsedText t) there h = text_stands n t h
  use_resolved (UsedSymbol x) there h =
      let p = numbered same_named n.symbols x h.0 in
      let at : symbol_number n x ≡ p.0 = ap (λ (o : Option ℕ). unwrap_or o 0) p.1 in
      let is : slice_get n.symbols p.0 ≡ Some x = slice_get-get_or n.symbols p.0 x p.2 ∙ ap (λ (y : Named). Some y) (sym (same_is x (get_or n.symbols p.0 x) p.3)) in
      ap (λ (k : ℕ). named_at m (unit_with m n rs) k) at
      ∙ ap (option_and_then (named_by m n.texts)) (slice_get-map (translate_symbol m n) n.symbols p.0 ∙ ap (option_map (translate_symbol m n)) is)
      ∙ symbol_stands x there h.1

  uses_resolved : (us : List Use) → AreUsesOf m us → AllByRecursion (Has m n) us → AreUsesResolved m (unit_with m n rs) n us
  uses_resolved [] there h = tt
  uses_resolved (u ∷ us) there h = (use_resolved u there.0 h.0, uses_resolved us there.1 h.1)

-- all that typed rules use is resolved in their unit
pub rules_resolved : (m : Model) → IsClassModel m → (rs : List CheckedRule) → AllByRecursion (IsTypedRule m) rs → AreUsesResolved m (unit_with m (numbering_of m rs) rs) (numbering_of m rs) (rules_uses m rs)
rules_resolved m model rs typed =
    uses_resolved m model (numbering_of m rs) rs (rules_uses m rs) (rules_there m rs typed) (has_uses m no_numbers (rules_uses m rs))
