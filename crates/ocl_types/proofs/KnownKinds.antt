-- Kinds of the class model.
use Rattle.std.proofs.Common.{Bool, true, false, Some, None, IfSome, if◌then◌else◌}
use Rattle.imkl_model.specs.ClassModel.{Model}
use Rattle.ocl_kinds.specs.declared.kind.Kind.{Kind}
use Rattle.ocl_kinds.specs.Kinds.{IsKindOf, fits, wider_kind}

either_known : (m : Model) (a b : Bool) (j k : Kind) → IsKindOf m j → IsKindOf m k → IfSome (if a then Some k else (if b then Some j else None)) (IsKindOf m)
either_known m true b j k p q = q
either_known m false true j k p q = p
either_known m false false j k p q = tt

-- the wider of two is one of them
pub wider_known : (m : Model) (j k : Kind) → IsKindOf m j → IsKindOf m k → IfSome (wider_kind m j k) (IsKindOf m)
wider_known m j k p q = either_known m (fits m j k) (fits m k j) j k p q
