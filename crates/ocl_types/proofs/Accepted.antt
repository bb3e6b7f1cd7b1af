-- Arguments beside the types that are asked.
use Rattle.std.proofs.Common.{◌≡◌, List, [], ◌∷◌, length, Bool, true, false, ◌&&◌, refl, ap, ◌∙◌, arith}
use Rattle.imkl_model.specs.ClassModel.{Model}
use Rattle.ocl_kinds.specs.declared.kind.Kind.{Kind}
use Rattle.ocl_kinds.specs.Kinds.{fits}
use Rattle.ocl_core.specs.declared.operator.BasicType.{BasicType}
use Rattle.ocl_core.specs.OperatorKinds.{basic}
use Rattle.ocl_types.specs.Operators.{accepts}

and_false : (b : Bool) → (b && false) ≡ false
and_false true = refl
and_false false = refl

-- arguments are not accepted where they are not as many as the types that are asked
pub not_as_many : (m : Model) (ts : List BasicType) (kinds : List Kind) → (length ts ≡ length kinds → ⊥) → accepts m ts kinds ≡ false
not_as_many m [] [] other = absurd (other refl)
not_as_many m [] (a ∷ rest) other = refl
not_as_many m (t ∷ ts) [] other = refl
not_as_many m (t ∷ ts) (k ∷ kinds) other =
    ap (λ b. fits m k (basic t) && b) (not_as_many m ts kinds (λ e. other (omega (arith, e)))) ∙ and_false (fits m k (basic t))
