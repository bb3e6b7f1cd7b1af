-- The code of a typed core tree has kinds wherever it keeps within the limits.
use Rattle.std.proofs.Common.{◌≡◌, ℕ, zero, suc, ◌+◌, true, List, [], ◌∷◌, ◌++◌, Option, Some, refl, sym, ap, ◌∙◌, subst}
use Rattle.std.specs.Prelude.{slice_get, is_some}
use Rattle.std.proofs.lemmas.Bool.{and_parts, and_from}
use Rattle.imkl_model.specs.ClassModel.{feature_at}
use Rattle.ocl_base.specs.declared.collection_kind.CollectionKind.{CollectionKind}
use Rattle.ocl_base.specs.declared.collection_kind.CollectionKind.TheVariants as collection
use Rattle.ocl_kinds.specs.declared.kind.ScalarKind.{ScalarKind}
use Rattle.ocl_kinds.specs.declared.kind.ScalarKind.TheVariants as element
use Rattle.ocl_kinds.specs.declared.kind.Kind.{Kind}
use Rattle.ocl_kinds.specs.declared.kind.Kind.TheVariants.{Scalar, Collection}
use Rattle.ocl_kinds.specs.Kinds.{is_same_collection, scalar_fits, fits, elements_kind, collected_kind}
use Rattle.ocl_kinds.proofs.ForAbove.{same_collection_is, same_collection_itself, fits_along}
use Rattle.ocl_core.specs.declared.core_tree.Iteration.{Iteration}
use Rattle.ocl_core.specs.declared.core_tree.Iteration.TheVariants as iteration
use Rattle.ocl_core.specs.Core as tree
use Rattle.ocl_core.specs.Core.{Constant, CoreTree, CoreTrees}
use Rattle.ocl_core.specs.OperatorKinds.{truth_kind}
use Rattle.ocl_core.specs.Typing.{constant_kind, IsTypedIteration, IsTyped, AreTyped}
use Rattle.rule_code.specs.declared.instruction.Instr.{Instr}
use Rattle.rule_code.specs.declared.instruction.Instr.TheVariants as instrs
use Rattle.rule_verify.specs.declared.depths.Depths.{Depths}
use Rattle.rule_verify.specs.declared.named.Named.{Named}
use Rattle.rule_verify.specs.declared.named.Named.TheVariants as named
use Rattle.rule_verify.specs.declared.pattern.Pattern.TheVariants as pattern
use Rattle.rule_verify.specs.CodeTree as code
use Rattle.rule_verify.specs.CodeTree.{CodeTree, instr_count}
use Rattle.rule_verify.specs.InstrKinds.{Surroundings, has_names, has_variable, operands_of, result_kind, block_operand, binds, ends_with, yields, or_void, class_kind, literal_kind, owner_kind, feature_read, collection_of, scalar_meant, kind_meant}
use Rattle.rule_verify.specs.Patterns.{matches}
use Rattle.rule_verify.specs.KindRules.{Enclosing, in_block, kinds_after}
use Rattle.ocl_compile.specs.Numbering.{Numbering, Use, tree_uses, trees_uses, constant_uses, scalar_uses, kind_uses, iteration_uses, owned_feature}
use Rattle.ocl_compile.specs.Translation.{constant_instr, variable_instr, operator_instr, iteration_instr, iteration_block, fold_block, let_block, if_block, written_scalar, written_kind, symbol_of_unit, translate, translate_all}
use Rattle.ocl_compile.specs.ResolvedUses.{AreUsesResolved}
use Rattle.ocl_compile.proofs.Resolved.{of_first, of_rest}
use Rattle.ocl_compile.proofs.Kinded.{Narrower, bound_too, StandsDeep, IsShallow, TakesKinds, Past, past_plain, past_block, past_branch}
use Rattle.ocl_compile.proofs.OperandKinds.{AllNarrower, kinds_stacked, TakesAndGives, scalar_is, kind_is, one_named, scalar_named, kind_named, is_fitting, takes_none, takes_one, takes_two, operator_takes}

module _ (s : Surroundings) (n : Numbering) where
  abbrev Known : List Use → Type 0
  Known us = AreUsesResolved s.model s.unit n us

  -- ---- what has no operand

  constant_takes : (c : Constant) (vars ks : List Kind) → Known (constant_uses c) → TakesAndGives s n vars (constant_instr n c) ks ks (constant_kind c)
  constant_takes (tree.Boolean b) vars ks h = record { takes = takes_none s n vars _ ks refl refl refl; gives = refl }
  constant_takes (tree.Integer i) vars ks h = record { takes = takes_none s n vars _ ks refl refl refl; gives = refl }
  constant_takes (tree.Text t) vars ks h = record { takes = takes_none s n vars _ ks refl refl refl; gives = refl }
  constant_takes (tree.Literal e l) vars ks h =
      record { takes = takes_none s n vars _ ks refl (one_named s n (named.Literal e l) h.0) refl; gives = is_fitting s n _ _ (ap (λ (o : Option Named). Scalar (literal_kind o)) h.0) }
  constant_takes tree.Null vars ks h = record { takes = takes_none s n vars _ ks refl refl refl; gives = refl }
  constant_takes tree.Invalid vars ks h = record { takes = takes_none s n vars _ ks refl refl refl; gives = refl }

  -- variable 0 is an object of the context class
  abbrev IsObject : List Kind → Type 0
  IsObject g = slice_get g zero ≡ Some (Scalar (element.Class s.context))

  object_stays : (g : List Kind) (x : Kind) → IsObject g → IsObject (g ++ x ∷ [])
  object_stays [] x h = cc
  object_stays (y ∷ g) x h = h

  variable_takes : (v : ℕ) (g vars ks : List Kind) (k : Kind) → IsObject g → Narrower s.model vars g → slice_get g v ≡ Some k → TakesAndGives s n vars (variable_instr v) ks ks k
  variable_takes zero g vars ks k object h e =
      let same : Scalar (element.Class s.context) ≡ k = some_is (sym object ∙ e) in
      record { takes = takes_none s n vars _ ks refl refl refl; gives = is_fitting s n _ k same }
    where
      some_is : {x y : Kind} → Some x ≡ Some y → x ≡ y
      some_is e = cc
  variable_takes (suc v) g vars ks k object h e =
      let f = h.each (suc v) k e in
      record { takes = takes_none s n vars _ ks refl refl (ap is_some f.1); gives = ap (λ (o : Option Kind). fits s.model (or_void o) k) f.1 ∙ f.2 }

  -- ---- iterations

  -- what an iteration takes and binds
  record Iterates (it : Iteration) (len : ℕ) : Type 0 where
    operands : operands_of s (iteration_instr n it len) ≡ pattern.AnyCollection ∷ []
    variable : (vars : List Kind) → has_variable vars (iteration_instr n it len) ≡ true
    binding : (k : Kind) → binds s (iteration_instr n it len) k ≡ Scalar (elements_kind k) ∷ []
    topmost : (k : Kind) (ks : List Kind) → block_operand (iteration_instr n it len) (k ∷ ks) ≡ k

  iterates : (it : Iteration) (len : ℕ) → Iterates it len
  iterates iteration.ForAll len = record { operands = refl; variable = λ vars. refl; binding = λ k. refl; topmost = λ k ks. refl }
  iterates iteration.Exists len = record { operands = refl; variable = λ vars. refl; binding = λ k. refl; topmost = λ k ks. refl }
  iterates iteration.One len = record { operands = refl; variable = λ vars. refl; binding = λ k. refl; topmost = λ k ks. refl }
  iterates iteration.Select len = record { operands = refl; variable = λ vars. refl; binding = λ k. refl; topmost = λ k ks. refl }
  iterates iteration.Reject len = record { operands = refl; variable = λ vars. refl; binding = λ k. refl; topmost = λ k ks. refl }
  iterates iteration.Collect len = record { operands = refl; variable = λ vars. refl; binding = λ k. refl; topmost = λ k ks. refl }
  iterates iteration.CollectFlat len = record { operands = refl; variable = λ vars. refl; binding = λ k. refl; topmost = λ k ks. refl }
  iterates (iteration.IsUnique k) len = record { operands = refl; variable = λ vars. refl; binding = λ k. refl; topmost = λ k ks. refl }

  iteration_named : (it : Iteration) (len : ℕ) → Known (iteration_uses it) → has_names s (iteration_instr n it len) ≡ true
  iteration_named iteration.ForAll len h = refl
  iteration_named iteration.Exists len h = refl
  iteration_named iteration.One len h = refl
  iteration_named iteration.Select len h = refl
  iteration_named iteration.Reject len h = refl
  iteration_named iteration.Collect len h = refl
  iteration_named iteration.CollectFlat len h = refl
  iteration_named (iteration.IsUnique k) len h = scalar_named s n k h

  any_collection : (j : Kind) (c : CollectionKind) (e : ScalarKind) → fits s.model j (Collection c e) ≡ true → matches s.model pattern.AnyCollection j ≡ true
  any_collection (Scalar j) c e h = cc
  any_collection (Collection d j) c e h = refl

  iteration_takes : (it : Iteration) (len : ℕ) (vars : List Kind) (l : Kind) (c : CollectionKind) (e : ScalarKind) (ks : List Kind) → Known (iteration_uses it) → fits s.model l (Collection c e) ≡ true → TakesKinds s vars (iteration_instr n it len) (l ∷ ks) ks
  iteration_takes it len vars l c e ks known h =
      takes_one s n vars (iteration_instr n it len) pattern.AnyCollection l ks (iterates it len).operands (iteration_named it len known) ((iterates it len).variable vars) (any_collection l c e h)

  -- the variable of its body is of a kind that the element's kind fits
  element_fits : (l : Kind) (c : CollectionKind) (e : ScalarKind) (wider : Kind) → fits s.model l (Collection c e) ≡ true → fits s.model (Scalar e) wider ≡ true → fits s.model (Scalar (elements_kind l)) wider ≡ true
  element_fits l c e wider h g = fits_along s.model (Scalar (elements_kind l)) (Scalar e) wider (within l h) g
    where
      within : (j : Kind) → fits s.model j (Collection c e) ≡ true → scalar_fits s.model (elements_kind j) e ≡ true
      within (Scalar j) h = cc
      within (Collection d j) h = (and_parts (is_same_collection d c) (scalar_fits s.model j e) h).1

  -- what is collected
  collected_fits : (l r : Kind) (c : CollectionKind) (e d : ScalarKind) → fits s.model l (Collection c e) ≡ true → scalar_fits s.model (elements_kind r) d ≡ true → fits s.model (Collection (collection_of l) (elements_kind r)) (Collection (collected_kind c) d) ≡ true
  collected_fits (Scalar j) r c e d h g = cc
  collected_fits (Collection b j) r c e d h g =
      let same = same_collection_is b c (and_parts (is_same_collection b c) (scalar_fits s.model j e) h).0 in
      fits_by (collected_kind b) (collected_kind c) (ap (λ (x : CollectionKind). collected_kind x) same)
    where
      fits_by : (x y : CollectionKind) → x ≡ y → fits s.model (Collection x (elements_kind r)) (Collection y d) ≡ true
      fits_by x y same = ap (λ (z : CollectionKind). fits s.model (Collection z (elements_kind r)) (Collection y d)) same ∙ and_from (is_same_collection y y) (scalar_fits s.model (elements_kind r) d) (same_collection_itself y) g

  single_matches : (r y : Kind) (d : ScalarKind) → y ≡ Scalar d → fits s.model r y ≡ true → (matches s.model pattern.AnySingle r ≡ true) × (scalar_fits s.model (elements_kind r) d ≡ true)
  single_matches (Scalar j) y d e h = (refl, subst (λ (x : Kind). fits s.model (Scalar j) x ≡ true) e h)
  single_matches (Collection c j) y d e h = let bad = subst (λ (x : Kind). fits s.model (Collection c j) x ≡ true) e h in cc

  many_matches : (r y : Kind) (b : CollectionKind) (d : ScalarKind) → y ≡ Collection b d → fits s.model r y ≡ true → (matches s.model pattern.AnyCollection r ≡ true) × (scalar_fits s.model (elements_kind r) d ≡ true)
  many_matches (Scalar j) y b d e h = let bad = subst (λ (x : Kind). fits s.model (Scalar j) x ≡ true) e h in cc
  many_matches (Collection c j) y b d e h =
      (refl, (and_parts (is_same_collection c b) (scalar_fits s.model j d) (subst (λ (x : Kind). fits s.model (Collection c j) x ≡ true) e h)).1)

  iteration_ends : (it : Iteration) (len : ℕ) (c : CollectionKind) (e : ScalarKind) (y gives l r : Kind) → IsTypedIteration s.model it c e y gives → Known (iteration_uses it) → fits s.model l (Collection c e) ≡ true → fits s.model r y ≡ true
      → (matches s.model (ends_with s (iteration_instr n it len)) r ≡ true) × (fits s.model (yields s (iteration_instr n it len) l r) gives ≡ true)
  iteration_ends iteration.ForAll len c e y gives l r h known f g = (fits_along s.model r y truth_kind g h.0, is_fitting s n _ gives (sym h.1))
  iteration_ends iteration.Exists len c e y gives l r h known f g = (fits_along s.model r y truth_kind g h.0, is_fitting s n _ gives (sym h.1))
  iteration_ends iteration.One len c e y gives l r h known f g = (fits_along s.model r y truth_kind g h.0, is_fitting s n _ gives (sym h.1))
  iteration_ends iteration.Select len c e y gives l r h known f g = (fits_along s.model r y truth_kind g h.0, ap (fits s.model l) h.1 ∙ f)
  iteration_ends iteration.Reject len c e y gives l r h known f g = (fits_along s.model r y truth_kind g h.0, ap (fits s.model l) h.1 ∙ f)
  iteration_ends iteration.Collect len c e y gives l r h known f g =
      let p = single_matches r y h.0 h.1 g in
      (p.0, ap (fits s.model (Collection (collection_of l) (elements_kind r))) h.2 ∙ collected_fits l r c e h.0 f p.1)
  iteration_ends iteration.CollectFlat len c e y gives l r h known f g =
      let p = many_matches r y h.0 h.1 h.2 g in
      (p.0, ap (fits s.model (Collection (collection_of l) (elements_kind r))) h.3 ∙ collected_fits l r c e h.1 f p.1)
  iteration_ends (iteration.IsUnique k) len c e y gives l r h known f g =
      let p = fits_along s.model r y (Scalar h.1.0) g (is_fitting s n y (Scalar h.1.0) h.1.1) in
      (ap (λ (z : ScalarKind). fits s.model r (Scalar z)) (scalar_is s n k known) ∙ fits_along s.model r (Scalar h.1.0) (Scalar k) p h.1.2, is_fitting s n _ gives (sym h.1.3))

  -- ---- trees

  -- past an instruction that gives a kind that fits this one
  plain_past : (e : Enclosing) (d : Depths) (i : Instr) (rest : CodeTree) (at : ℕ) (stack left : List Kind) (k : Kind) → TakesAndGives s n e.variables i stack left k → StandsDeep d e stack → IsShallow s (code.Plain i rest) d
      → Past s (code.Plain i rest) rest e at stack left k
  plain_past e d i rest at stack left k t stands shallow =
      let p = past_plain s e d i rest at stack left k t.takes t.gives stands shallow in
      record { kind = result_kind s e.variables i stack; is_narrower = t.gives; next = at + 1; depths = p.0; after = p.1; stands = p.2; shallow = p.3 }

  -- and one piece of code after another
  then_past : (from mid rest : CodeTree) (e : Enclosing) (at : ℕ) (ks : List Kind) (j k : Kind) → (p : Past s from mid e at ks ks j) → Past s mid rest e p.next (p.kind ∷ ks) ks k → Past s from rest e at ks ks k
  then_past from mid rest e at ks j k p q =
      record { kind = q.kind; is_narrower = q.is_narrower; next = q.next; depths = q.depths; after = p.after ∙ q.after; stands = q.stands; shallow = q.shallow }

  -- several operands more, of kinds that fit these
  record AllPast (from rest : CodeTree) (e : Enclosing) (at : ℕ) (ks : List Kind) (wanted : List Kind) : Type 0 where
    kinds : List Kind
    are_narrower : AllNarrower s.model kinds wanted
    next : ℕ
    depths : Depths
    after : kinds_after s from e at ks ≡ kinds_after s rest e next (kinds_stacked kinds ks)
    stands : StandsDeep depths e (kinds_stacked kinds ks)
    shallow : IsShallow s rest depths

  mutual
    -- the rules of kinds come past the code of a typed tree, with one operand of a kind that fits the tree's
    pub tree_past : (t : CoreTree) (g : List Kind) (k : Kind) → IsTyped s.model g t k → IsObject g → Known (tree_uses s.model t)
        → (rest : CodeTree) (e : Enclosing) (d : Depths) (at : ℕ) (ks : List Kind)
        → Narrower s.model e.variables g → StandsDeep d e ks → IsShallow s (translate s.model n t rest) d
        → Past s (translate s.model n t rest) rest e at ks ks k
    tree_past (tree.Value c) g k t o h rest e d at ks w stands shallow =
        subst (λ (x : Kind). Past s (code.Plain (constant_instr n c) rest) rest e at ks ks x) (sym t.1) (plain_past e d _ rest at ks ks _ (constant_takes c e.variables ks h) stands shallow)
    tree_past (tree.Variable v) g k t o h rest e d at ks w stands shallow =
        plain_past e d _ rest at ks ks k (variable_takes v g e.variables ks k o w t) stands shallow
    tree_past (tree.AllInstances c) g k t o h rest e d at ks w stands shallow =
        let i = instrs.All (symbol_of_unit n (named.Class c)) in
        plain_past e d i rest at ks ks k
        (record { takes = takes_none s n e.variables i ks refl (one_named s n (named.Class c) h.0) refl; gives = is_fitting s n _ k (ap (λ (x : Option Named). Collection collection.Set (class_kind x)) h.0 ∙ sym t.1) }) stands shallow
    tree_past (tree.Feature source f) g k t o h rest e d at ks w stands shallow =
        let m = s.model in
        let i = instrs.Attr (symbol_of_unit n (owned_feature m f)) in
        let there = of_rest m s.unit n (tree_uses m source) _ h in
        let p = tree_past source g t.1.0 t.1.1 o (of_first m s.unit n (tree_uses m source) _ h) (code.Plain i rest) e d at ks w stands shallow in
        let owner = ap (λ (x : Option Named). pattern.Fitting (Scalar (owner_kind x)) ∷ []) there.0 in
        let fit = fits_along m p.kind t.1.0 (Scalar (element.Class (feature_at m f).owner)) p.is_narrower t.1.2 in
        then_past _ (code.Plain i rest) rest e at ks t.1.0 k p
        (plain_past e p.depths i rest p.next (p.kind ∷ ks) ks k
        (record { takes = takes_one s n e.variables i (pattern.Fitting (Scalar (element.Class (feature_at m f).owner))) p.kind ks owner (one_named s n (owned_feature m f) there.0) refl fit; gives = is_fitting s n _ k (ap (feature_read m) there.0 ∙ sym t.1.3) }) p.stands p.shallow)
    tree_past (tree.Operation operator first others) g k t o h rest e d at ks w stands shallow =
        let m = s.model in
        let i = operator_instr n operator in
        let after = of_rest m s.unit n (tree_uses m first) _ h in
        let p = tree_past first g t.0 t.2 o (of_first m s.unit n (tree_uses m first) _ h) (translate_all m n others (code.Plain i rest)) e d at ks w stands shallow in
        let q = trees_past others g t.1 t.3 o (of_first m s.unit n (trees_uses m others) _ after) (code.Plain i rest) e p.depths p.next (p.kind ∷ ks) w p.stands p.shallow in
        let takes = operator_takes s n operator e.variables t.0 p.kind t.1 q.kinds ks k t.4 (of_rest m s.unit n (trees_uses m others) _ after) p.is_narrower q.are_narrower in
        let r = plain_past e q.depths i rest q.next (kinds_stacked q.kinds (p.kind ∷ ks)) ks k takes q.stands q.shallow in
        record { kind = r.kind; is_narrower = r.is_narrower; next = r.next; depths = r.depths; after = p.after ∙ q.after ∙ r.after; stands = r.stands; shallow = r.shallow }
    tree_past (tree.AsCollection c x source) g k t o h rest e d at ks w stands shallow =
        let m = s.model in
        let i = instrs.AsColl c (written_scalar n x) in
        let known = of_rest m s.unit n (tree_uses m source) _ h in
        let p = tree_past source g t.1.0 t.1.1 o (of_first m s.unit n (tree_uses m source) _ h) (code.Plain i rest) e d at ks w stands shallow in
        let operand = ap (λ (z : ScalarKind). pattern.Fitting (Scalar z) ∷ []) (scalar_is s n x known) in
        then_past _ (code.Plain i rest) rest e at ks t.1.0 k p
        (plain_past e p.depths i rest p.next (p.kind ∷ ks) ks k
        (record { takes = takes_one s n e.variables i (pattern.Fitting (Scalar x)) p.kind ks operand (scalar_named s n x known) refl (fits_along m p.kind t.1.0 (Scalar x) p.is_narrower t.1.2); gives = is_fitting s n _ k (ap (λ (z : ScalarKind). Collection c z) (scalar_is s n x known) ∙ sym t.1.3) }) p.stands p.shallow)
    tree_past (tree.Iterate it source body) g k t o h rest e d at ks w stands shallow =
        let m = s.model in
        let b = translate m n body code.End in
        let len = instr_count b in
        let i = iteration_instr n it len in
        let x = Collection t.0 t.1 in
        let after = of_rest m s.unit n (tree_uses m source) _ h in
        let known = of_first m s.unit n (iteration_uses it) _ after in
        let p = tree_past source g x t.4 o (of_first m s.unit n (tree_uses m source) _ h) (iteration_block n it b rest) e d at ks w stands shallow in
        let on = block_operand i (p.kind ∷ ks) in
        let same = (iterates it len).topmost p.kind ks in
        let inner = in_block e (binds s i on ++ e.variables) ks in
        let bound = subst (λ (l : List Kind). Narrower m (l ++ e.variables) (g ++ t.2 ∷ [])) (sym (ap (binds s i) same ∙ (iterates it len).binding p.kind)) (bound_too m e.variables g (Scalar (elements_kind p.kind)) t.2 w (element_fits p.kind t.0 t.1 t.2 p.is_narrower t.5)) in
        let q = past_block s e p.depths i b rest p.next (p.kind ∷ ks) ks (λ r. fits m (yields s i on r) k ≡ true) (iteration_takes it len e.variables p.kind t.0 t.1 ks known p.is_narrower) p.stands p.shallow
        (λ deep stands_in shallow_in.
        let r = tree_past body (g ++ t.2 ∷ []) t.3 t.6 (object_stays g t.2 o) (of_rest m s.unit n (iteration_uses it) _ after) code.End inner deep (p.next + 1) [] bound stands_in shallow_in in
        let z = iteration_ends it len t.0 t.1 t.3 k p.kind r.kind t.7 known p.is_narrower r.is_narrower in
        (r.kind, r.after, z.0, subst (λ j. fits m (yields s i j r.kind) k ≡ true) (sym same) z.1)) in
        then_past _ (iteration_block n it b rest) rest e at ks x k p
        (record { kind = yields s i on q.0; is_narrower = q.5; next = p.next + 1 + len; depths = q.1; after = q.2; stands = q.3; shallow = q.4 })
    tree_past (tree.Fold x source start body) g k t o h rest e d at ks w stands shallow =
        let m = s.model in
        let b = translate m n body code.End in
        let len = instr_count b in
        let i = instrs.Fold (written_scalar n x) len in
        let block = fold_block n x b rest in
        let from_start = of_rest m s.unit n (tree_uses m source) _ h in
        let after = of_rest m s.unit n (tree_uses m start) _ from_start in
        let known = of_first m s.unit n (scalar_uses x) _ after in
        let meant = ap (λ (z : ScalarKind). Scalar z) (scalar_is s n x known) in
        let p = tree_past source g (Collection t.1.0 t.1.1) t.1.5 o (of_first m s.unit n (tree_uses m source) _ h) (translate m n start block) e d at ks w stands shallow in
        let q = tree_past start g t.1.3 t.1.6 o (of_first m s.unit n (tree_uses m start) _ from_start) block e p.depths p.next (p.kind ∷ ks) w p.stands p.shallow in
        let fitting : (j y : Kind) → fits m j y ≡ true → fits m y (Scalar x) ≡ true → matches m (ends_with s i) j ≡ true = λ j y f f'. ap (λ (z : Kind). fits m j z) meant ∙ fits_along m j y (Scalar x) f f' in
        let takes : TakesKinds s e.variables i (q.kind ∷ p.kind ∷ ks) ks = takes_two s n e.variables i _ pattern.AnyCollection q.kind p.kind ks refl (scalar_named s n x known) refl (fitting q.kind t.1.3 q.is_narrower t.1.7) (any_collection p.kind t.1.0 t.1.1 p.is_narrower) in
        let element = bound_too m e.variables g (Scalar (elements_kind p.kind)) t.1.2 w (element_fits p.kind t.1.0 t.1.1 t.1.2 p.is_narrower t.1.8) in
        let bound = bound_too m (Scalar (elements_kind p.kind) ∷ e.variables) (g ++ t.1.2 ∷ []) (Scalar (scalar_meant s (written_scalar n x))) (Scalar x) element (is_fitting s n _ (Scalar x) meant) in
        let r = past_block s e q.depths i b rest q.next (q.kind ∷ p.kind ∷ ks) ks (λ j. Unit {0}) takes q.stands q.shallow
        (λ deep stands_in shallow_in.
        let z = tree_past body ((g ++ t.1.2 ∷ []) ++ Scalar x ∷ []) t.1.4 t.1.9 (object_stays (g ++ t.1.2 ∷ []) (Scalar x) (object_stays g t.1.2 o)) (of_rest m s.unit n (scalar_uses x) _ after) code.End (in_block e (Scalar (scalar_meant s (written_scalar n x)) ∷ Scalar (elements_kind p.kind) ∷ e.variables) ks) deep (q.next + 1) [] bound stands_in shallow_in in
        (z.kind, z.after, fitting z.kind t.1.4 z.is_narrower t.1.10, tt)) in
        record { kind = Scalar (scalar_meant s (written_scalar n x)); is_narrower = is_fitting s n _ k (meant ∙ sym t.1.12); next = q.next + 1 + len; depths = r.1; after = p.after ∙ q.after ∙ r.2; stands = r.3; shallow = r.4 }
    tree_past (tree.Let v body) g k t o h rest e d at ks w stands shallow =
        let m = s.model in
        let b = translate m n body code.End in
        let len = instr_count b in
        let i = instrs.Let len in
        let p = tree_past v g t.0 t.2 o (of_first m s.unit n (tree_uses m v) _ h) (let_block b rest) e d at ks w stands shallow in
        let bound = bound_too m e.variables g p.kind t.1 w (fits_along m p.kind t.0 t.1 p.is_narrower t.3) in
        let q = past_block s e p.depths i b rest p.next (p.kind ∷ ks) ks (λ r. fits m r k ≡ true) (takes_one s n e.variables i pattern.Anything p.kind ks refl refl refl refl) p.stands p.shallow
        (λ deep stands_in shallow_in.
        let r = tree_past body (g ++ t.1 ∷ []) k t.4 (object_stays g t.1 o) (of_rest m s.unit n (tree_uses m v) _ h) code.End (in_block e (p.kind ∷ e.variables) ks) deep (p.next + 1) [] bound stands_in shallow_in in
        (r.kind, r.after, refl, r.is_narrower)) in
        then_past _ (let_block b rest) rest e at ks t.0 k p
        (record { kind = q.0; is_narrower = q.5; next = p.next + 1 + len; depths = q.1; after = q.2; stands = q.3; shallow = q.4 })
    tree_past (tree.If kind condition first second) g k t o h rest e d at ks w stands shallow =
        let m = s.model in
        let a = translate m n first code.End in
        let b = translate m n second code.End in
        let i = instrs.If (written_kind n kind) (instr_count a) (instr_count b) in
        let after = of_rest m s.unit n (tree_uses m condition) _ h in
        let known = of_first m s.unit n (kind_uses kind) _ after in
        let branches = of_rest m s.unit n (kind_uses kind) _ after in
        let p = tree_past condition g t.1.0 t.1.3 o (of_first m s.unit n (tree_uses m condition) _ h) (if_block n kind a b rest) e d at ks w stands shallow in
        let inner = in_block e e.variables ks in
        let meant = kind_is s n kind known in
        let q = past_branch s e p.depths i a b rest p.next (p.kind ∷ ks) ks (takes_one s n e.variables i (pattern.Fitting truth_kind) p.kind ks refl (kind_named s n kind known) refl (fits_along m p.kind t.1.0 truth_kind p.is_narrower t.1.4)) p.stands p.shallow
        (λ deep place stands_in shallow_in.
        let r = tree_past first g t.1.1 t.1.5 o (of_first m s.unit n (tree_uses m first) _ branches) code.End inner deep place [] w stands_in shallow_in in
        (r.kind, r.after, ap (λ (z : Kind). fits m r.kind z) meant ∙ fits_along m r.kind t.1.1 kind r.is_narrower t.1.6))
        (λ deep place stands_in shallow_in.
        let r = tree_past second g t.1.2 t.1.7 o (of_rest m s.unit n (tree_uses m first) _ branches) code.End inner deep place [] w stands_in shallow_in in
        (r.kind, r.after, ap (λ (z : Kind). fits m r.kind z) meant ∙ fits_along m r.kind t.1.2 kind r.is_narrower t.1.8)) in
        then_past _ (if_block n kind a b rest) rest e at ks t.1.0 k p
        (record { kind = kind_meant s (written_kind n kind); is_narrower = is_fitting s n _ k (meant ∙ sym t.1.9); next = q.1; depths = q.2; after = q.3; stands = q.4; shallow = q.5 })

    trees_past : (ts : CoreTrees) (g : List Kind) (wanted : List Kind) → AreTyped s.model g ts wanted → IsObject g → Known (trees_uses s.model ts)
        → (rest : CodeTree) (e : Enclosing) (d : Depths) (at : ℕ) (ks : List Kind)
        → Narrower s.model e.variables g → StandsDeep d e ks → IsShallow s (translate_all s.model n ts rest) d
        → AllPast (translate_all s.model n ts rest) rest e at ks wanted
    trees_past tree.no_core g wanted t o h rest e d at ks w stands shallow =
        subst (AllPast rest rest e at ks) (sym t) (record { kinds = []; are_narrower = tt; next = at; depths = d; after = refl; stands = stands; shallow = shallow })
    trees_past (tree.one_core first others) g wanted t o h rest e d at ks w stands shallow =
        let m = s.model in
        let p = tree_past first g t.0 t.2 o (of_first m s.unit n (tree_uses m first) _ h) (translate_all m n others rest) e d at ks w stands shallow in
        let q = trees_past others g t.1 t.3 o (of_rest m s.unit n (tree_uses m first) _ h) rest e p.depths p.next (p.kind ∷ ks) w p.stands p.shallow in
        subst (AllPast (translate m n first (translate_all m n others rest)) rest e at ks) (sym t.4)
        (record { kinds = p.kind ∷ q.kinds; are_narrower = (p.is_narrower, q.are_narrower); next = q.next; depths = q.depths; after = p.after ∙ q.after; stands = q.stands; shallow = q.shallow })
