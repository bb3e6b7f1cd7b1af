-- An instruction without a body whose operands match gives a value that may stand at its place.
use Rattle.std.proofs.Common.{◌≡◌, ℕ, suc, ◌<◌, ◌≤◌, Bool, true, false, not, ◌&&◌, List, [], ◌∷◌, ◌++◌, length, Option, Some, None, refl, sym, ap, ◌∙◌, subst, arith}
use Rattle.std.specs.Prelude.{◌==◌, ℤ, pos, ◌+ℤ◌, ◌-ℤ◌, ◌*ℤ◌, neg_ℤ, is_some, nat_lt, if◌then◌else◌}
use Rattle.std.specs.Int.{int_min, int_max}
use Rattle.std.specs.List.{list_all}
use Rattle.std.proofs.lemmas.Bool.{and_parts, and_from, or_right, eq-eqb, ltb-true, lt-ltb}
use Rattle.ocl_base.specs.declared.collection_kind.CollectionKind.{CollectionKind}
use Rattle.ocl_base.specs.declared.collection_kind.CollectionKind.TheVariants as collection
use Rattle.imkl_model.specs.ClassModel.{enumeration_at, conforms, feature_at, belongs}
use Rattle.imkl_model.specs.WellFormed.{IsClassModel}
use Rattle.imkl_model.proofs.ForAbove.{inherits}
use Rattle.imkl_population.specs.declared.scalar.Scalar.TheVariants as scalar
use Rattle.imkl_population.specs.Population.{class_of, values_of}
use Rattle.imkl_population.specs.Consistency.{IsConsistent}
use Rattle.ocl_kinds.specs.declared.kind.ScalarKind.{ScalarKind}
use Rattle.ocl_kinds.specs.declared.kind.ScalarKind.TheVariants as element
use Rattle.ocl_kinds.specs.declared.kind.Kind.{Kind}
use Rattle.ocl_kinds.specs.declared.kind.Kind.TheVariants as kind
use Rattle.ocl_kinds.specs.Kinds.{feature_kind, elements_kind, is_same_collection}
use Rattle.ocl_kinds.proofs.ForAbove.{same_collection_itself}
use Rattle.rule_code.specs.declared.instruction.Instr.{Instr}
use Rattle.rule_code.specs.declared.instruction.Instr.TheVariants as instrs
use Rattle.rule_code.specs.declared.symbol.SymbolTag.TheVariants as tags
use Rattle.rule_verify.specs.declared.named.Named.{Named}
use Rattle.rule_verify.specs.declared.named.Named.TheVariants as named
use Rattle.rule_verify.specs.declared.pattern.Pattern.{Pattern}
use Rattle.rule_verify.specs.declared.pattern.Pattern.TheVariants.{Fitting, Anything, AnyCollection, CollectionOf}
use Rattle.rule_verify.specs.declared.shape.Shape.TheVariants.{Single}
use Rattle.rule_verify.specs.CodeTree.{shape_of}
use Rattle.rule_verify.specs.Known.{IsKnownName}
use Rattle.rule_verify.specs.Patterns.{matches, all_match, a_boolean, an_integer, a_string, an_object}
use Rattle.ocl_base.specs.Lists.{variable_at}
use Rattle.rule_verify.specs.InstrKinds.{owner_kind, class_kind, literal_kind, scalar_meant, kind_meant, feature_read}
use Rattle.rule_cost.specs.Bounds.{named_length, feature_length}
use Rattle.rule_values.specs.Value as value
use Rattle.rule_values.specs.Value.{Value, object_value, is_element_in, is_in}
use Rattle.rule_values.specs.Equality.{equal_values}
use Rattle.rule_values.specs.Operations.{integer_value, on_integers, division, remainder, negative, absolute, less_than, at_most, negation, conjunction, disjunction, exclusive_disjunction, implication, is_true, is_false, is_null, equality, both_null, undefined_test, invalid_test, text_length, substring, kind_test, type_test, cast, feature_value, value_read, all_instances, as_collection, collection_size, emptiness, membership, occurrence_count, inclusion, exclusion, summation, as_set}
use Rattle.rule_machine.specs.Machine.{Setting, judged_by, literal_named, on_class_named, value_named_read, symbol_named, result_of}
use Rattle.rule_machine.specs.Places.{Place, place, kinds_of, lengths_of, long, At, AllAt, self_place, sizes_in, given}
use Rattle.rule_machine.specs.Live.{IsTaken}
use Rattle.rule_values.proofs.ForAbove.{fits_in, IsSingle, fits_integer, integer_single, on_integers_single, on_integer_single, division_single, remainder_single, truth_single, unless_invalid_single, text_length_single, substring_single, on_object_single, on_elements_single, membership_single, occurrence_count_single, inclusion_single, exclusion_single, summation_single, distinct_apart, distinct_all, distinct_fewer}
use Rattle.rule_machine.proofs.InKinds.{single_at, invalid_at}
use Rattle.rule_machine.proofs.Symbols.{IsNamed, symbol_names}
use Rattle.rule_machine.proofs.FeatureValues.{feature_value_at, all_instances_at}

-- ---- variables

-- places have as many kinds
pub kinds_count : (ps : List Place) → length (kinds_of ps) ≡ length ps
kinds_count [] = refl
kinds_count (p ∷ ps) = ap suc (kinds_count ps)

lengths_count : (ps : List Place) → length (lengths_of ps) ≡ length ps
lengths_count [] = refl
lengths_count (p ∷ ps) = ap suc (lengths_count ps)

-- the place of a variable that is there
place_by : (ps : List Place) (q : Place) (x : ℕ) (b : Bool) → is_some (if b then Some q.kind else variable_at (kinds_of ps) x) ≡ true
    → (is_some (variable_at (kinds_of ps) x) ≡ true → (p : Place) × (variable_at ps x ≡ Some p) × (variable_at (kinds_of ps) x ≡ Some p.kind) × (variable_at (lengths_of ps) x ≡ Some p.longest))
    → (p : Place) × ((if b then Some q else variable_at ps x) ≡ Some p) × ((if b then Some q.kind else variable_at (kinds_of ps) x) ≡ Some p.kind) × ((if b then Some q.longest else variable_at (lengths_of ps) x) ≡ Some p.longest)
place_by ps q x true h go = (q, refl, refl, refl)
place_by ps q x false h go = go h

abbrev HasPlace : List Place → ℕ → Type 0
HasPlace ps x = (p : Place) × (variable_at ps x ≡ Some p) × (variable_at (kinds_of ps) x ≡ Some p.kind) × (variable_at (lengths_of ps) x ≡ Some p.longest)

has_place : (ps : List Place) (x : ℕ) → is_some (variable_at (kinds_of ps) x) ≡ true → HasPlace ps x
has_place [] x h = cc
has_place (q ∷ ps) x h =
    let same_kinds : (x == length (kinds_of ps)) ≡ (x == length ps) = ap (λ n. x == n) (kinds_count ps) in
    let same_lengths : (x == length (lengths_of ps)) ≡ (x == length ps) = ap (λ n. x == n) (lengths_count ps) in
    let r = place_by ps q x (x == length ps) (ap (λ b. is_some (if b then Some q.kind else variable_at (kinds_of ps) x)) (sym same_kinds) ∙ h) (λ g. has_place ps x g) in
    (r.0, r.1, ap (λ b. if b then Some q.kind else variable_at (kinds_of ps) x) same_kinds ∙ r.2, ap (λ b. if b then Some q.longest else variable_at (lengths_of ps) x) same_lengths ∙ r.3)

module _ (s : Setting) where
  same_count : (vs : List Value) (ps : List Place) → AllAt s vs ps → length vs ≡ length ps
  same_count [] [] a = refl
  same_count [] (p ∷ ps) a = absurd a
  same_count (v ∷ vs) [] a = absurd a
  same_count (v ∷ vs) (p ∷ ps) a = ap suc (same_count vs ps a.1)

  abbrev HasVariable : List Value → ℕ → Place → Type 0
  HasVariable vs x p = (v : Value) × (variable_at vs x ≡ Some v) × At s v p

  variable_by : (vs : List Value) (v : Value) (ps : List Place) (q : Place) (x : ℕ) (p : Place) (b : Bool) → At s v q → (variable_at ps x ≡ Some p → HasVariable vs x p) → (if b then Some q else variable_at ps x) ≡ Some p → (w : Value) × ((if b then Some v else variable_at vs x) ≡ Some w) × At s w p
  variable_by vs v ps q x p true a go e = let same : q ≡ p = cc in (v, refl, subst (At s v) same a)
  variable_by vs v ps q x p false a go e = go e

  -- the variable of a place stands at it
  variable_there : (vs : List Value) (ps : List Place) (x : ℕ) (p : Place) → AllAt s vs ps → variable_at ps x ≡ Some p → HasVariable vs x p
  variable_there [] [] x p a e = cc
  variable_there [] (q ∷ ps) x p a e = absurd a
  variable_there (v ∷ vs) [] x p a e = absurd a
  variable_there (v ∷ vs) (q ∷ ps) x p a e =
      let r = variable_by vs v ps q x p (x == length ps) a.0 (λ g. variable_there vs ps x p a.1 g) e in
      (r.0, ap (λ n. if x == n then Some v else variable_at vs x) (same_count vs ps a.1) ∙ r.1, r.2)

  -- ---- operands

  -- one operand, at a place that matches
  record One (w : Pattern) (os : List Value) (ps : List Place) : Type 0 where
    first : Value
    rest : List Value
    is : os ≡ first ∷ rest
    stand : Place
    stands : List Place
    place_is : ps ≡ stand ∷ stands
    at : At s first stand
    match : matches s.population.model w stand.kind ≡ true

  one : (w : Pattern) (ws : List Pattern) (os : List Value) (ps below : List Place) → all_match s.population.model (w ∷ ws) (kinds_of ps) ≡ true → AllAt s os (ps ++ below) → One w os ps
  one w ws os [] below m a = cc
  one w ws [] (p ∷ ps) below m a = absurd a
  one w ws (o ∷ os) (p ∷ ps) below m a =
      record { first = o; rest = os; is = refl; stand = p; stands = ps; place_is = refl; at = a.0; match = (and_parts (matches s.population.model w p.kind) (all_match s.population.model ws (kinds_of ps)) m).0 }

  -- two operands, and three
  abbrev Two : List Value → Type 0
  Two os = (w : Value) × (v : Value) × (rest : List Value) × (os ≡ w ∷ v ∷ rest)

  two : (u w : Pattern) (ws : List Pattern) (os : List Value) (ps below : List Place) → all_match s.population.model (u ∷ w ∷ ws) (kinds_of ps) ≡ true → AllAt s os (ps ++ below) → Two os
  two u w ws os [] below m a = cc
  two u w ws [] (p ∷ ps) below m a = absurd a
  two u w ws (o ∷ os) (p ∷ ps) below m a =
      let r = one w ws os ps below (and_parts (matches s.population.model u p.kind) (all_match s.population.model (w ∷ ws) (kinds_of ps)) m).1 a.1 in
      (o, r.first, r.rest, ap (λ l. o ∷ l) r.is)

  abbrev Three : List Value → Type 0
  Three os = (x : Value) × (w : Value) × (v : Value) × (rest : List Value) × (os ≡ x ∷ w ∷ v ∷ rest)

  three : (t u w : Pattern) (os : List Value) (ps below : List Place) → all_match s.population.model (t ∷ u ∷ w ∷ []) (kinds_of ps) ≡ true → AllAt s os (ps ++ below) → Three os
  three t u w os [] below m a = cc
  three t u w [] (p ∷ ps) below m a = absurd a
  three t u w (o ∷ os) (p ∷ ps) below m a =
      let r = two u w [] os ps below (and_parts (matches s.population.model t p.kind) (all_match s.population.model (u ∷ w ∷ []) (kinds_of ps)) m).1 a.1 in
      (o, r.0, r.1, r.2, ap (λ l. o ∷ l) r.3)

  -- an operand that fits a kind is in it
  operand_in : (k : Kind) (os : List Value) (ps : List Place) (o : One (Fitting k) os ps) → is_in s.population o.first k ≡ true
  operand_in k os ps o = fits_in s.population o.first o.stand.kind k o.match o.at.in_kind

  -- ---- results that depend on the kinds of operands

  abbrev Given : Option Value → Place → Type 0
  Given o p = (v : Value) × (o ≡ Some v) × At s v p

  single : (k : ScalarKind) (v : Value) (o : Option Value) → o ≡ Some v → IsSingle s.population k v → Given o (place (kind.Scalar k) 0)
  single k v o e h = (v, e, single_at s v k 0 h)

  object_in_class : (d o : ℕ) (b : Bool) → conforms s.population.model (class_of s.population o) d ≡ b → nat_lt o (length s.population.objects) ≡ true → IsSingle s.population (element.Class d) (if b then object_value o else value.Invalid)
  object_in_class d o true e lt = and_from _ _ lt e
  object_in_class d o false e lt = refl

  cast_single : (d : ℕ) (v : Value) → IsSingle s.population element.AnyObject v → IsSingle s.population (element.Class d) (cast s.population d v)
  cast_single d (value.Single (scalar.Object o)) h = object_in_class d o (conforms s.population.model (class_of s.population o) d) refl h
  cast_single d v h = refl

  as_collection_at : (c : CollectionKind) (k : ScalarKind) (v : Value) → IsSingle s.population k v → At s (as_collection c v) (place (kind.Collection c k) 1)
  as_collection_at c k value.Null h = record { in_kind = and_from _ _ (same_collection_itself c) (and_from _ _ (or_right _ _ refl) refl); within = omega arith }
  as_collection_at c k (value.Single v) h = record { in_kind = and_from _ _ (same_collection_itself c) (and_from _ _ (or_right _ _ refl) (and_from _ _ h refl)); within = omega arith }
  as_collection_at c k v h = invalid_at s (place (kind.Collection c k) 1)

  as_set_at : (w : ScalarKind) (v : Value) (p : Place) → matches s.population.model (CollectionOf w) p.kind ≡ true → At s v p → At s (as_set v) (place (kind.Collection collection.Set (elements_kind p.kind)) p.longest)
  as_set_at w v p m a = by_kind p.kind v m a.in_kind a.within
    where
      by_kind : (k : Kind) (v : Value) → matches s.population.model (CollectionOf w) k ≡ true → is_in s.population v k ≡ true → long v ≤ p.longest → At s (as_set v) (place (kind.Collection collection.Set (elements_kind k)) p.longest)
      by_kind (kind.Scalar j) v m h le = cc
      by_kind (kind.Collection d j) (value.Collection c es) m h le =
          let all = (and_parts _ (list_all (is_element_in s.population j) es) (and_parts (is_same_collection c d) _ h).1).1 in
          record { in_kind = and_from _ _ (ap not (distinct_apart es)) (distinct_all (is_element_in s.population j) es all); within = omega (arith, le, distinct_fewer es) }
      by_kind (kind.Collection d j) v m h le = invalid_at s (place (kind.Collection collection.Set j) p.longest)

  -- ---- results that depend on names

  literal_given : (o : Option Named) (x : Named) → o ≡ Some x → IsNamed tags.Literal x → IsKnownName s.population.model x → Given (literal_named o) (place (kind.Scalar (literal_kind o)) 0)
  literal_given o (named.Literal e l) is n there = subst (λ y. Given (literal_named y) (place (kind.Scalar (literal_kind y)) 0)) (sym is) (single (element.Enumeration e) (value.Single (scalar.Literal e l)) _ refl (and_from _ _ (eq-eqb e e refl) (lt-ltb l (length (enumeration_at s.population.model e).literals) there.1)))
  literal_given o x is n there = absurd n

  class_given : (f : ℕ → Value) (k : ScalarKind) (o : Option Named) (x : Named) → o ≡ Some x → IsNamed tags.Class x → ((d : ℕ) → IsSingle s.population k (f d)) → Given (on_class_named f o) (place (kind.Scalar k) 0)
  class_given f k o (named.Class d) is n h = single k (f d) _ (ap (on_class_named f) is) (h d)
  class_given f k o x is n h = absurd n

  cast_given : (v : Value) (o : Option Named) (x : Named) → o ≡ Some x → IsNamed tags.Class x → IsSingle s.population element.AnyObject v → Given (on_class_named (λ d. cast s.population d v) o) (place (kind.Scalar (class_kind o)) 0)
  cast_given v o (named.Class d) is n h = subst (λ y. Given (on_class_named (λ d. cast s.population d v) y) (place (kind.Scalar (class_kind y)) 0)) (sym is) (single (element.Class d) (cast s.population d v) _ refl (cast_single d v h))
  cast_given v o x is n h = absurd n

  instances_given : (o : Option Named) (x : Named) → o ≡ Some x → IsNamed tags.Class x → IsKnownName s.population.model x → Given (on_class_named (all_instances s.population) o) (place (kind.Collection collection.Set (class_kind o)) (named_length s.population.model (sizes_in s) o))
  instances_given o (named.Class d) is n k = subst (λ y. Given (on_class_named (all_instances s.population) y) (place (kind.Collection collection.Set (class_kind y)) (named_length s.population.model (sizes_in s) y))) (sym is) (all_instances s.population d, refl, all_instances_at s d k)
  instances_given o x is n k = absurd n

  module _ (m : IsClassModel s.population.model) (c : IsConsistent s.population) where
    read_by : (d f o : ℕ) (b : Bool) → belongs s.population.model (class_of s.population o) f ≡ b → b ≡ true → o < length s.population.objects → f < length s.population.model.features
        → Given (if b then Some (feature_value (feature_at s.population.model f) (values_of s.population o f)) else None) (place (feature_kind (feature_at s.population.model f)) (feature_length (sizes_in s) f (feature_at s.population.model f)))
    read_by d f o true e t lt known = (_, refl, feature_value_at s.population o f m c lt known e s refl)
    read_by d f o false e t lt known = cc

    read_single : (d f : ℕ) (v : Value) → IsKnownName s.population.model (named.Feature d f) → IsSingle s.population (element.Class d) v → Given (value_read s.population f v) (place (feature_kind (feature_at s.population.model f)) (feature_length (sizes_in s) f (feature_at s.population.model f)))
    read_single d f value.Invalid k h = (value.Invalid, refl, invalid_at s _)
    read_single d f value.Null k h = (value.Invalid, refl, invalid_at s _)
    read_single d f (value.Single (scalar.Object o)) k h =
        let parts = and_parts (nat_lt o (length s.population.objects)) (conforms s.population.model (class_of s.population o) d) h in
        read_by d f o (belongs s.population.model (class_of s.population o) f) refl (inherits s.population.model (class_of s.population o) d f parts.1 k.2) (ltb-true o (length s.population.objects) parts.0) k.1
    read_single d f v k h = cc

    read_given : (v : Value) (o : Option Named) (x : Named) → o ≡ Some x → IsNamed tags.Feature x → IsKnownName s.population.model x → IsSingle s.population (owner_kind o) v → Given (value_named_read s.population o v) (place (feature_read s.population.model o) (named_length s.population.model (sizes_in s) o))
    read_given v o (named.Feature d f) is n k h = subst (λ y. IsSingle s.population (owner_kind y) v → Given (value_named_read s.population y v) (place (feature_read s.population.model y) (named_length s.population.model (sizes_in s) y))) (sym is) (λ h. read_single d f v k h) h
    read_given v o x is n k h = absurd n

    -- ---- every instruction without a body

    module _ (vars : List Value) (vps : List Place) (os : List Value) (ps below : List Place) (va : AllAt s vars vps) (oa : AllAt s os (ps ++ below)) where
      abbrev Results : Instr → Type 0
      Results i = Given (result_of s vars i os) (given s vps i ps)

      -- a fixed scalar kind, whatever one operand
      from_one : (i : Instr) (w : Pattern) (k : ScalarKind) (f : Value → Value) → all_match s.population.model (w ∷ []) (kinds_of ps) ≡ true → ((v : Value) (rest : List Value) → result_of s vars i (v ∷ rest) ≡ Some (f v)) → ((v : Value) → IsSingle s.population k (f v)) → Given (result_of s vars i os) (place (kind.Scalar k) 0)
      from_one i w k f a e h =
          let o = one w [] os ps below a oa in
          single k (f o.first) _ (ap (result_of s vars i) o.is ∙ e o.first o.rest) (h o.first)

      -- whatever two operands, the second of which is the topmost
      from_two : (i : Instr) (u w : Pattern) (k : ScalarKind) (f : Value → Value → Value) → all_match s.population.model (u ∷ w ∷ []) (kinds_of ps) ≡ true → ((v w : Value) (rest : List Value) → result_of s vars i (w ∷ v ∷ rest) ≡ Some (f v w)) → ((v w : Value) → IsSingle s.population k (f v w)) → Given (result_of s vars i os) (place (kind.Scalar k) 0)
      from_two i u w k f a e h =
          let o = two u w [] os ps below a oa in
          single k (f o.1 o.0) _ (ap (result_of s vars i) o.3 ∙ e o.1 o.0 o.2) (h o.1 o.0)

      on_two_integers : (i : Instr) (f : ℤ → ℤ → ℤ) → all_match s.population.model (an_integer ∷ an_integer ∷ []) (kinds_of ps) ≡ true → ((v w : Value) (rest : List Value) → result_of s vars i (w ∷ v ∷ rest) ≡ Some (on_integers (λ a b. integer_value (f a b)) v w)) → Given (result_of s vars i os) (place (kind.Scalar element.Integer) 0)
      on_two_integers i f a e = from_two i an_integer an_integer element.Integer (λ v w. on_integers (λ a b. integer_value (f a b)) v w) a e (λ v w. on_integers_single s.population element.Integer _ v w (λ a b. integer_single s.population (f a b)))

      -- every instruction without a body gives a value, which may stand at the place that is given
      pub results : (i : Instr) → shape_of i ≡ Single → IsTaken s i vps ps → Results i
      results instrs.SelfObject e t = let v = variable_there vars vps 0 (self_place s) va t.object in (v.0, v.1, v.2)
      results (instrs.Get n) e t =
          let h = has_place vps n t.read in
          let v = variable_there vars vps n h.0 va h.1 in
          (v.0, v.1, rw h.2 (rw h.3 v.2))
      results (instrs.Int n) e t = single element.Integer _ _ refl (fits_integer n t.fits.0)
      results (instrs.Bool b) e t = single element.Boolean _ _ refl refl
      results (instrs.Text n) e t = single element.String _ _ refl refl
      results (instrs.Enum l) e t =
          let x = symbol_names s.population.model s.unit tags.Literal l.0 t.fits.0 (and_parts _ true t.names).0 in
          literal_given (symbol_named s l.0) x.0 x.1 x.2 x.3
      results instrs.Null e t = single element.Void _ _ refl refl
      results instrs.Invalid e t = single element.Void _ _ refl refl
      results (instrs.Attr a) e t =
          let x = symbol_names s.population.model s.unit tags.Feature a.0 t.fits.0 (and_parts _ true t.names).0 in
          let o = one _ [] os ps below t.match oa in
          let r = read_given o.first (symbol_named s a.0) x.0 x.1 x.2 x.3 (operand_in _ os ps o) in
          (r.0, ap (result_of s vars (instrs.Attr a)) o.is ∙ r.1, r.2)
      results (instrs.All c) e t =
          let x = symbol_names s.population.model s.unit tags.Class c.0 t.fits.0 (and_parts _ true t.names).0 in
          instances_given (symbol_named s c.0) x.0 x.1 x.2 x.3
      results (instrs.AsColl k w) e t =
          let o = one _ [] os ps below t.match oa in
          (as_collection k o.first, ap (result_of s vars (instrs.AsColl k w)) o.is, as_collection_at k _ o.first (operand_in _ os ps o))
      results (instrs.KindOf c) e t =
          let x = symbol_names s.population.model s.unit tags.Class c.0 t.fits.0 (and_parts _ true t.names).0 in
          let o = one an_object [] os ps below t.match oa in
          let r = class_given (λ d. kind_test s.population d o.first) element.Boolean (symbol_named s c.0) x.0 x.1 x.2 (λ d. on_object_single s.population element.Boolean _ o.first (λ n. refl)) in
          (r.0, ap (result_of s vars (instrs.KindOf c)) o.is ∙ r.1, r.2)
      results (instrs.TypeOf c) e t =
          let x = symbol_names s.population.model s.unit tags.Class c.0 t.fits.0 (and_parts _ true t.names).0 in
          let o = one an_object [] os ps below t.match oa in
          let r = class_given (λ d. type_test s.population d o.first) element.Boolean (symbol_named s c.0) x.0 x.1 x.2 (λ d. on_object_single s.population element.Boolean _ o.first (λ n. refl)) in
          (r.0, ap (result_of s vars (instrs.TypeOf c)) o.is ∙ r.1, r.2)
      results (instrs.AsType c) e t =
          let x = symbol_names s.population.model s.unit tags.Class c.0 t.fits.0 (and_parts _ true t.names).0 in
          let o = one an_object [] os ps below t.match oa in
          let r = cast_given o.first (symbol_named s c.0) x.0 x.1 x.2 (operand_in (kind.Scalar element.AnyObject) os ps o) in
          (r.0, ap (result_of s vars (instrs.AsType c)) o.is ∙ r.1, r.2)
      results instrs.Add e t = on_two_integers instrs.Add (λ a b. a +ℤ b) t.match (λ v w rest. refl)
      results instrs.Sub e t = on_two_integers instrs.Sub (λ a b. a -ℤ b) t.match (λ v w rest. refl)
      results instrs.Mul e t = on_two_integers instrs.Mul (λ a b. a *ℤ b) t.match (λ v w rest. refl)
      results instrs.Div e t = from_two instrs.Div an_integer an_integer element.Integer division t.match (λ v w rest. refl) (λ v w. division_single s.population v w)
      results instrs.Mod e t = from_two instrs.Mod an_integer an_integer element.Integer remainder t.match (λ v w rest. refl) (λ v w. remainder_single s.population v w)
      results instrs.Neg e t = from_one instrs.Neg an_integer element.Integer negative t.match (λ v rest. refl) (λ v. on_integer_single s.population element.Integer _ v (λ a. integer_single s.population (neg_ℤ a)))
      results instrs.Abs e t = from_one instrs.Abs an_integer element.Integer absolute t.match (λ v rest. refl) (λ v. on_integer_single s.population element.Integer _ v (λ a. integer_single s.population (int_max a (neg_ℤ a))))
      results instrs.Min e t = on_two_integers instrs.Min int_min t.match (λ v w rest. refl)
      results instrs.Max e t = on_two_integers instrs.Max int_max t.match (λ v w rest. refl)
      results instrs.Lt e t = from_two instrs.Lt an_integer an_integer element.Boolean less_than t.match (λ v w rest. refl) (λ v w. on_integers_single s.population element.Boolean _ v w (λ a b. refl))
      results instrs.Le e t = from_two instrs.Le an_integer an_integer element.Boolean at_most t.match (λ v w rest. refl) (λ v w. on_integers_single s.population element.Boolean _ v w (λ a b. refl))
      results instrs.Gt e t = from_two instrs.Gt an_integer an_integer element.Boolean (λ v w. less_than w v) t.match (λ v w rest. refl) (λ v w. on_integers_single s.population element.Boolean _ w v (λ a b. refl))
      results instrs.Ge e t = from_two instrs.Ge an_integer an_integer element.Boolean (λ v w. at_most w v) t.match (λ v w rest. refl) (λ v w. on_integers_single s.population element.Boolean _ w v (λ a b. refl))
      results instrs.Not e t = from_one instrs.Not a_boolean element.Boolean negation t.match (λ v rest. refl) (λ v. truth_single s.population (is_false v) (is_true v))
      results instrs.And e t = from_two instrs.And a_boolean a_boolean element.Boolean conjunction t.match (λ v w rest. refl) (λ v w. truth_single s.population _ _)
      results instrs.Or e t = from_two instrs.Or a_boolean a_boolean element.Boolean disjunction t.match (λ v w rest. refl) (λ v w. truth_single s.population _ _)
      results instrs.Xor e t = from_two instrs.Xor a_boolean a_boolean element.Boolean exclusive_disjunction t.match (λ v w rest. refl) (λ v w. truth_single s.population _ _)
      results instrs.Implies e t = from_two instrs.Implies a_boolean a_boolean element.Boolean implication t.match (λ v w rest. refl) (λ v w. truth_single s.population _ _)
      results (instrs.Eq k) e t = from_two (instrs.Eq k) (Fitting (kind_meant (judged_by s) k)) (Fitting (kind_meant (judged_by s) k)) element.Boolean equality t.match (λ v w rest. refl) (λ v w. unless_invalid_single s.population v w (equal_values v w))
      results instrs.Eqx e t = from_two instrs.Eqx Anything Anything element.Boolean both_null t.match (λ v w rest. refl) (λ v w. unless_invalid_single s.population v w (is_null v && is_null w))
      results instrs.Undef e t = from_one instrs.Undef Anything element.Boolean undefined_test t.match (λ v rest. refl) (λ v. refl)
      results instrs.IsInv e t = from_one instrs.IsInv Anything element.Boolean invalid_test t.match (λ v rest. refl) (λ v. refl)
      results instrs.TLen e t = from_one instrs.TLen a_string element.Integer text_length t.match (λ v rest. refl) (λ v. text_length_single s.population v)
      results instrs.SubStr e t =
          let o = three an_integer an_integer a_string os ps below t.match oa in
          single element.String (substring o.2 o.1 o.0) _ (ap (result_of s vars instrs.SubStr) o.4) (substring_single s.population o.2 o.1 o.0)
      results instrs.Size e t = from_one instrs.Size AnyCollection element.Integer collection_size t.match (λ v rest. refl) (λ v. on_elements_single s.population element.Integer _ v (λ es. integer_single s.population (pos (length es))))
      results instrs.IsEmpty e t = from_one instrs.IsEmpty AnyCollection element.Boolean emptiness t.match (λ v rest. refl) (λ v. on_elements_single s.population element.Boolean _ v (λ es. refl))
      results (instrs.Includes k) e t = from_two (instrs.Includes k) (Fitting (kind.Scalar (scalar_meant (judged_by s) k))) (CollectionOf (scalar_meant (judged_by s) k)) element.Boolean membership t.match (λ v w rest. refl) (λ v w. membership_single s.population v w)
      results (instrs.Count k) e t = from_two (instrs.Count k) (Fitting (kind.Scalar (scalar_meant (judged_by s) k))) (CollectionOf (scalar_meant (judged_by s) k)) element.Integer occurrence_count t.match (λ v w rest. refl) (λ v w. occurrence_count_single s.population v w)
      results (instrs.IncAll k) e t = from_two (instrs.IncAll k) (CollectionOf (scalar_meant (judged_by s) k)) (CollectionOf (scalar_meant (judged_by s) k)) element.Boolean inclusion t.match (λ v w rest. refl) (λ v w. inclusion_single s.population v w)
      results (instrs.ExcAll k) e t = from_two (instrs.ExcAll k) (CollectionOf (scalar_meant (judged_by s) k)) (CollectionOf (scalar_meant (judged_by s) k)) element.Boolean exclusion t.match (λ v w rest. refl) (λ v w. exclusion_single s.population v w)
      results instrs.Sum e t = from_one instrs.Sum (CollectionOf element.Integer) element.Integer summation t.match (λ v rest. refl) (λ v. summation_single s.population v)
      results (instrs.AsSet k) e t =
          let o = one (CollectionOf (scalar_meant (judged_by s) k)) [] os ps below t.match oa in
          let at = as_set_at (scalar_meant (judged_by s) k) o.first o.stand o.match o.at in
          (as_set o.first, ap (result_of s vars (instrs.AsSet k)) o.is, subst (λ l. At s (as_set o.first) (given s vps (instrs.AsSet k) l)) (sym o.place_is) at)
      results i e t = cc

-- what an instruction gives doesn't depend on what lies below its operands
pub given_above : (s : Setting) (i : Instr) (vps ps below : List Place) → IsTaken s i vps ps → given s vps i (ps ++ below) ≡ given s vps i ps
given_above s (instrs.AsSet k) vps [] below t = let bad = t.match in cc
given_above s (instrs.AsSet k) vps (p ∷ ps) below t = refl
given_above s i vps ps below t = refl
