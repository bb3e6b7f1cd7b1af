-- What an instruction whose symbols are present names takes and gives, whatever old names there are.
use Rattle.std.proofs.Common.{◌≡◌, ℕ, ◌&&◌, List, [], ◌∷◌, ◌++◌, All, Option, refl, ap, is_some}
use Rattle.std.specs.List.{list_all}
use Rattle.std.proofs.lemmas.List.Elements.{All-head, All-tail}
use Rattle.ocl_base.specs.declared.collection_kind.CollectionKind.TheVariants as collection
use Rattle.ocl_kinds.specs.declared.kind.ScalarKind.{ScalarKind}
use Rattle.ocl_kinds.specs.declared.kind.Kind.{Kind}
use Rattle.ocl_kinds.specs.declared.kind.Kind.TheVariants.{Scalar, Collection}
use Rattle.rule_code.specs.declared.instruction.Instr.{Instr}
use Rattle.rule_code.specs.declared.instruction.Instr.TheVariants as instrs
use Rattle.rule_code.specs.declared.kind.WrittenScalar.{WrittenScalar}
use Rattle.rule_code.specs.declared.kind.WrittenScalar.TheVariants as written
use Rattle.rule_code.specs.declared.kind.WrittenKind.{WrittenKind}
use Rattle.rule_code.specs.declared.kind.WrittenKind.TheVariants as kinds
use Rattle.rule_verify.specs.declared.named.Named.{Named}
use Rattle.rule_verify.specs.declared.pattern.Pattern.TheVariants.{Fitting, AnyCollection, CollectionOf}
use Rattle.rule_verify.specs.Symbols.{named_at}
use Rattle.rule_verify.specs.InstrKinds.{Surroundings, surroundings, scalar_symbols, kind_symbols, symbols_used, has_names, class_kind, enumeration_kind, literal_kind, owner_kind, feature_read, scalar_meant, kind_meant, operands_of, result_kind, an_element, binds, ends_with, yields}
use Rattle.old_name_laws.proofs.Symbols.{Case, other, Agrees, IsAlike, all_alone}

-- what the code of a rule is checked against, by the class model and by the other
abbrev pub by_one : Case → ℕ → ℕ → Surroundings
by_one x n c = surroundings x.model x.unit n c

abbrev pub by_other : Case → ℕ → ℕ → Surroundings
by_other x n c = surroundings (other x) x.unit n c

module _ (x : Case) (n c : ℕ) where
  abbrev s : Surroundings
  s = by_one x n c

  abbrev t : Surroundings
  t = by_other x n c

  -- ---- names

  all_named : (ks : List ℕ) → All (Agrees x) ks
      → list_all (λ k. is_some (named_at t.model t.unit k)) ks ≡ list_all (λ k. is_some (named_at s.model s.unit k)) ks
  all_named [] h = refl
  all_named (k ∷ ks) h = λ j. is_some (All-head (Agrees x) k ks h j) && all_named ks (All-tail (Agrees x) k ks h) j

  -- its names are there in both, or in neither
  pub names_alike : (i : Instr) → IsAlike x i → has_names t i ≡ has_names s i
  names_alike i h = all_named (symbols_used i) h

  -- ---- kinds of the file

  scalar_alike : (k : WrittenScalar) → All (Agrees x) (scalar_symbols k) → scalar_meant t k ≡ scalar_meant s k
  scalar_alike written.Void h = refl
  scalar_alike written.Boolean h = refl
  scalar_alike written.Integer h = refl
  scalar_alike written.String h = refl
  scalar_alike (written.Enumeration e) h = ap enumeration_kind (All-head (Agrees x) e.0 [] h)
  scalar_alike (written.Class e) h = ap class_kind (All-head (Agrees x) e.0 [] h)
  scalar_alike written.AnyObject h = refl

  kind_alike : (k : WrittenKind) → All (Agrees x) (kind_symbols k) → kind_meant t k ≡ kind_meant s k
  kind_alike (kinds.Scalar k) h = ap Scalar (scalar_alike k h)
  kind_alike (kinds.Collection d k) h = ap (Collection d) (scalar_alike k h)

  -- the kind of an instruction's one field with symbols
  field_alike : (k : WrittenScalar) → All (Agrees x) (scalar_symbols k ++ []) → scalar_meant t k ≡ scalar_meant s k
  field_alike k h = scalar_alike k (all_alone (Agrees x) (scalar_symbols k) h)

  kind_field_alike : (k : WrittenKind) → All (Agrees x) (kind_symbols k ++ []) → kind_meant t k ≡ kind_meant s k
  kind_field_alike k h = kind_alike k (all_alone (Agrees x) (kind_symbols k) h)

  -- ---- rows

  -- it takes the same operands
  pub operands_alike : (i : Instr) → IsAlike x i → operands_of t i ≡ operands_of s i
  operands_alike (instrs.Attr a) h = ap (λ (o : Option Named). Fitting (Scalar (owner_kind o)) ∷ []) (All-head (Agrees x) a.0 [] h)
  operands_alike (instrs.AsColl d k) h = ap (λ (z : ScalarKind). Fitting (Scalar z) ∷ []) (field_alike k h)
  operands_alike (instrs.Eq k) h = ap (λ (z : Kind). Fitting z ∷ Fitting z ∷ []) (kind_field_alike k h)
  operands_alike (instrs.Includes k) h = ap (λ (z : ScalarKind). Fitting (Scalar z) ∷ CollectionOf z ∷ []) (field_alike k h)
  operands_alike (instrs.Count k) h = ap (λ (z : ScalarKind). Fitting (Scalar z) ∷ CollectionOf z ∷ []) (field_alike k h)
  operands_alike (instrs.IncAll k) h = ap (λ (z : ScalarKind). CollectionOf z ∷ CollectionOf z ∷ []) (field_alike k h)
  operands_alike (instrs.ExcAll k) h = ap (λ (z : ScalarKind). CollectionOf z ∷ CollectionOf z ∷ []) (field_alike k h)
  operands_alike (instrs.AsSet k) h = ap (λ (z : ScalarKind). CollectionOf z ∷ []) (field_alike k h)
  operands_alike (instrs.Fold k a) h = ap (λ (z : ScalarKind). Fitting (Scalar z) ∷ AnyCollection ∷ []) (field_alike k h)
  operands_alike i h = refl

  -- it gives the same
  pub results_alike : (vars : List Kind) (i : Instr) (ks : List Kind) → IsAlike x i → result_kind t vars i ks ≡ result_kind s vars i ks
  results_alike vars (instrs.Enum l) ks h = ap (λ (o : Option Named). Scalar (literal_kind o)) (All-head (Agrees x) l.0 [] h)
  results_alike vars (instrs.Attr a) ks h = ap (feature_read s.model) (All-head (Agrees x) a.0 [] h)
  results_alike vars (instrs.All a) ks h = ap (λ (o : Option Named). Collection collection.Set (class_kind o)) (All-head (Agrees x) a.0 [] h)
  results_alike vars (instrs.AsColl d k) ks h = ap (Collection d) (field_alike k h)
  results_alike vars (instrs.AsType a) ks h = ap (λ (o : Option Named). Scalar (class_kind o)) (All-head (Agrees x) a.0 [] h)
  results_alike vars i ks h = refl

  -- its body sees the same variables
  pub bindings_alike : (i : Instr) (k : Kind) → IsAlike x i → binds t i k ≡ binds s i k
  bindings_alike (instrs.Fold w a) k h = ap (λ (z : ScalarKind). Scalar z ∷ an_element k) (field_alike w h)
  bindings_alike i k h = refl

  -- its bodies end with the same
  pub ends_alike : (i : Instr) → IsAlike x i → ends_with t i ≡ ends_with s i
  ends_alike (instrs.If k a b) h = ap Fitting (kind_field_alike k h)
  ends_alike (instrs.IsUnique k a) h = ap (λ (z : ScalarKind). Fitting (Scalar z)) (field_alike k h)
  ends_alike (instrs.Fold k a) h = ap (λ (z : ScalarKind). Fitting (Scalar z)) (field_alike k h)
  ends_alike i h = refl

  -- the block gives the same
  pub yields_alike : (i : Instr) (k r : Kind) → IsAlike x i → yields t i k r ≡ yields s i k r
  yields_alike (instrs.If w a b) k r h = kind_field_alike w h
  yields_alike (instrs.Fold w a) k r h = ap Scalar (field_alike w h)
  yields_alike i k r h = refl
