-- The kinds that code has are kinds of the class model.
use Rattle.std.proofs.Common.{◌≡◌, ℕ, ◌==◌, ◌<◌, Bool, true, false, List, [], ◌∷◌, ◌++◌, length, drop, zero, suc, Option, Some, IfSome, if◌then◌else◌, sym, subst}
use Rattle.imkl_model.specs.ClassModel.{Model}
use Rattle.imkl_model.specs.WellFormed.{IsClassModel}
use Rattle.ocl_kinds.specs.declared.kind.Kind.{Kind}
use Rattle.ocl_kinds.specs.declared.kind.Kind.TheVariants.{Scalar, Collection}
use Rattle.ocl_kinds.specs.Kinds.{IsScalarKindOf, IsKindOf, elements_kind}
use Rattle.ocl_kinds.proofs.ForAbove.{features_have_kinds}
use Rattle.rule_code.specs.declared.instruction.Instr.{Instr}
use Rattle.rule_code.specs.declared.instruction.Instr.TheVariants as instrs
use Rattle.rule_code.specs.declared.kind.WrittenScalar.{WrittenScalar}
use Rattle.rule_code.specs.declared.kind.WrittenScalar.TheVariants as written
use Rattle.rule_code.specs.declared.kind.WrittenKind.{WrittenKind}
use Rattle.rule_code.specs.declared.kind.WrittenKind.TheVariants as kinds
use Rattle.rule_verify.specs.declared.named.Named.{Named}
use Rattle.rule_verify.specs.declared.pattern.Pattern.{Pattern}
use Rattle.rule_verify.specs.declared.named.Named.TheVariants as named
use Rattle.rule_verify.specs.Known.{IsKnownName, AreKnownKinds}
use Rattle.rule_verify.specs.Symbols.{named_at}
use Rattle.rule_verify.specs.Patterns.{IsPatternOf, ArePatterns}
use Rattle.ocl_base.specs.Lists.{variable_at}
use Rattle.rule_verify.specs.InstrKinds.{Surroundings, class_kind, enumeration_kind, literal_kind, owner_kind, feature_read, scalar_meant, kind_meant, operands_of, or_void, topmost, result_kind, operands_above, block_operand, binds, ends_with, yields}
use Rattle.rule_verify.proofs.Stretches.{named_known}

-- ---- names

class_kind_known : (m : Model) (o : Option Named) → IfSome o (IsKnownName m) → IsScalarKindOf m (class_kind o)
class_kind_known m (Some (named.Class c)) h = h
class_kind_known m o h = tt

enumeration_kind_known : (m : Model) (o : Option Named) → IfSome o (IsKnownName m) → IsScalarKindOf m (enumeration_kind o)
enumeration_kind_known m (Some (named.Enumeration e)) h = h
enumeration_kind_known m o h = tt

literal_kind_known : (m : Model) (o : Option Named) → IfSome o (IsKnownName m) → IsScalarKindOf m (literal_kind o)
literal_kind_known m (Some (named.Literal e l)) h = h.0
literal_kind_known m o h = tt

owner_kind_known : (m : Model) (o : Option Named) → IfSome o (IsKnownName m) → IsScalarKindOf m (owner_kind o)
owner_kind_known m (Some (named.Feature c f)) h = h.0
owner_kind_known m o h = tt

feature_read_known : (m : Model) → IsClassModel m → (o : Option Named) → IfSome o (IsKnownName m) → IsKindOf m (feature_read m o)
feature_read_known m well (Some (named.Feature c f)) h = features_have_kinds m well f h.1
feature_read_known m well o h = tt

-- ---- variables and operands

variable_known : (m : Model) (vars : List Kind) (n : ℕ) → AreKnownKinds m vars → IsKindOf m (or_void (variable_at vars n))
variable_known m [] n h = tt
variable_known m (k ∷ ks) n h = by_test (n == length ks) (variable_known m ks n h.1)
  where
    by_test : (b : Bool) → IsKindOf m (or_void (variable_at ks n)) → IsKindOf m (or_void (if b then Some k else variable_at ks n))
    by_test true g = h.0
    by_test false g = g

element_known : (m : Model) (k : Kind) → IsKindOf m k → IsScalarKindOf m (elements_kind k)
element_known m (Scalar k) h = h
element_known m (Collection c k) h = h

-- where the operands are of known kinds, so is the topmost
pub topmost_known : (m : Model) (ks : List Kind) → AreKnownKinds m ks → IsKindOf m (topmost ks)
topmost_known m [] h = tt
topmost_known m (k ∷ ks) h = h.0

dropped_known : (m : Model) (n : ℕ) (ks : List Kind) → AreKnownKinds m ks → AreKnownKinds m (drop n ks)
dropped_known m zero ks h = h
dropped_known m (suc n) [] h = tt
dropped_known m (suc n) (k ∷ ks) h = dropped_known m n ks h.1

-- and so is the one that a block works on
pub block_operand_known : (m : Model) (i : Instr) (ks : List Kind) → AreKnownKinds m ks → IsKindOf m (block_operand i ks)
block_operand_known m i ks h = topmost_known m (drop (operands_above i) ks) (dropped_known m (operands_above i) ks h)

-- ---- instructions

module _ (s : Surroundings) where
  name : (n : ℕ) → IfSome (named_at s.model s.unit n) (IsKnownName s.model)
  name n = named_known s.model s.unit n

  scalar_known : (k : WrittenScalar) → IsScalarKindOf s.model (scalar_meant s k)
  scalar_known (written.Enumeration e) = enumeration_kind_known s.model (named_at s.model s.unit e.0) (name e.0)
  scalar_known (written.Class c) = class_kind_known s.model (named_at s.model s.unit c.0) (name c.0)
  scalar_known k = tt

  kind_known : (k : WrittenKind) → IsKindOf s.model (kind_meant s k)
  kind_known (kinds.Scalar k) = scalar_known k
  kind_known (kinds.Collection c k) = scalar_known k

  -- what instructions take
  pub operands_known : (i : Instr) → ArePatterns s.model (operands_of s i)
  operands_known (instrs.Attr a) = (owner_kind_known s.model (named_at s.model s.unit a.0) (name a.0), tt)
  operands_known (instrs.AsColl c k) = (scalar_known k, tt)
  operands_known (instrs.Eq k) = (kind_known k, (kind_known k, tt))
  operands_known (instrs.Includes k) = (scalar_known k, (scalar_known k, tt))
  operands_known (instrs.Count k) = (scalar_known k, (scalar_known k, tt))
  operands_known (instrs.IncAll k) = (scalar_known k, (scalar_known k, tt))
  operands_known (instrs.ExcAll k) = (scalar_known k, (scalar_known k, tt))
  operands_known (instrs.AsSet k) = (scalar_known k, tt)
  operands_known (instrs.Fold k n) = (scalar_known k, (tt, tt))
  operands_known i = search

  -- the same, where the class model and the list are known by equations alone
  pub wanted_known : (i : Instr) (m : Model) (ws : List Pattern) → m ≡ s.model → ws ≡ operands_of s i → ArePatterns m ws
  wanted_known i m ws same are = subst (λ (n : Model). ArePatterns n ws) (sym same) (subst (λ (l : List Pattern). ArePatterns s.model l) (sym are) (operands_known i))

  -- what they give
  pub result_known : IsClassModel s.model → s.context < length s.model.classes → (vars : List Kind) (i : Instr) (ks : List Kind) → AreKnownKinds s.model vars → AreKnownKinds s.model ks → IsKindOf s.model (result_kind s vars i ks)
  result_known well context vars instrs.SelfObject ks v h = context
  result_known well context vars (instrs.Get n) ks v h = variable_known s.model vars n v
  result_known well context vars (instrs.Enum l) ks v h = literal_kind_known s.model (named_at s.model s.unit l.0) (name l.0)
  result_known well context vars (instrs.Attr a) ks v h = feature_read_known s.model well (named_at s.model s.unit a.0) (name a.0)
  result_known well context vars (instrs.All c) ks v h = class_kind_known s.model (named_at s.model s.unit c.0) (name c.0)
  result_known well context vars (instrs.AsColl c k) ks v h = scalar_known k
  result_known well context vars (instrs.AsType c) ks v h = class_kind_known s.model (named_at s.model s.unit c.0) (name c.0)
  result_known well context vars (instrs.AsSet k) ks v h = element_known s.model (topmost ks) (topmost_known s.model ks h)
  result_known well context vars i ks v h = tt

  -- what blocks bind, ask of their bodies and give
  pub binds_known : (i : Instr) (k : Kind) (vars : List Kind) → IsKindOf s.model k → AreKnownKinds s.model vars → AreKnownKinds s.model (binds s i k ++ vars)
  binds_known (instrs.Let n) k vars h v = (h, v)
  binds_known (instrs.Fold w n) k vars h v = (scalar_known w, (element_known s.model k h, v))
  binds_known i k vars h v = (element_known s.model k h, v)

  -- what a block asks of the end of its body names known kinds alone
  pub ends_known : (i : Instr) → IsPatternOf s.model (ends_with s i)
  ends_known (instrs.If k n m) = kind_known k
  ends_known (instrs.IsUnique k n) = scalar_known k
  ends_known (instrs.Fold k n) = scalar_known k
  ends_known i = tt

  -- what a block gives is of a known kind, where its operand and its body are
  pub yields_known : (i : Instr) (k r : Kind) → IsKindOf s.model k → IsKindOf s.model r → IsKindOf s.model (yields s i k r)
  yields_known (instrs.Let n) k r h g = g
  yields_known (instrs.If w n m) k r h g = kind_known w
  yields_known (instrs.Select n) k r h g = h
  yields_known (instrs.Reject n) k r h g = h
  yields_known (instrs.Collect n) k r h g = element_known s.model r g
  yields_known (instrs.CollectFlat n) k r h g = element_known s.model r g
  yields_known (instrs.Fold w n) k r h g = scalar_known w
  yields_known i k r h g = tt
