-- Folds are typed.
use Rattle.std.proofs.Common.{◌≡◌, ℕ, true, List, [], ◌∷◌, ◌++◌, IfOk, IfSome, refl}
use Rattle.imkl_model.specs.ClassModel.{Model}
use Rattle.imkl_model.specs.WellFormed.{IsClassModel}
use Rattle.ocl_base.specs.Steps.{check}
use Rattle.ocl_kinds.specs.declared.kind.ScalarKind.{ScalarKind}
use Rattle.ocl_kinds.specs.declared.kind.ScalarKind.TheVariants as element
use Rattle.ocl_kinds.specs.declared.kind.Kind.{Kind}
use Rattle.ocl_kinds.specs.declared.kind.Kind.TheVariants.{Scalar, Collection}
use Rattle.ocl_kinds.specs.Kinds.{IsScalarKindOf, IsKindOf, fits}
use Rattle.ocl_text.specs.Tree.{TypeTree, type_offset}
use Rattle.ocl_types.specs.declared.fault.TypeFlaw.TheVariants.{WrongType}
use Rattle.ocl_types.specs.Faults.{type_fault_at}
use Rattle.ocl_core.specs.Core.{CoreTree}
use Rattle.ocl_types.specs.TypedTrees.{TypedTree}
use Rattle.ocl_types.specs.Elaboration.{Gathered, declared_kind, accumulator_scalar, accumulator_kind, fold_of}
use Rattle.ocl_types.proofs.TypedSteps.{chained, checked, there}
use Rattle.ocl_types.proofs.TypedScopes.{Sound}
use Rattle.ocl_types.proofs.TypedTypes.{declared_known, Fitting}
use Rattle.ocl_types.proofs.TypedIterations.{IsGathered, IsVariable}

module _ (m : Model) where
  -- what may be accumulated is of the class model where its kind is
  pub accumulated_known : (kind : Kind) → IsKindOf m kind → IfSome (accumulator_scalar kind) (IsScalarKindOf m)
  accumulated_known (Scalar element.Void) h = tt
  accumulated_known (Scalar element.Boolean) h = tt
  accumulated_known (Scalar element.Integer) h = tt
  accumulated_known (Scalar element.String) h = tt
  accumulated_known (Scalar (element.Enumeration e)) h = h
  accumulated_known (Scalar (element.Class c)) h = h
  accumulated_known (Scalar element.AnyObject) h = tt
  accumulated_known (Collection c e) h = tt

  -- the kind of an accumulator is of the class model
  pub accumulator_known : IsClassModel m → (declared : TypeTree) → IfOk (accumulator_kind m declared) (IsScalarKindOf m)
  unfolding accumulator_kind
  accumulator_known well declared =
      chained (IsKindOf m) (IsScalarKindOf m) (declared_kind m declared) _ (declared_known m well declared) (λ kind known.
      there (IsScalarKindOf m) (accumulator_scalar kind) (type_fault_at WrongType (type_offset declared)) (accumulated_known kind known))

  -- a fold, whose body sees an element of a wider kind and the accumulator
  pub fold_sound : (g : List Kind) (k : ScalarKind) (x : Gathered) (start : CoreTree) (wider : Kind) (y : TypedTree) (offset : ℕ)
      → IsScalarKindOf m k → IsGathered m g x → Fitting m g (Scalar k) start → IsVariable m x.element wider → Sound m ((g ++ wider ∷ []) ++ Scalar k ∷ []) y → IfOk (fold_of m k x start y offset) (Sound m g)
  unfolding fold_of
  fold_sound g k x start wider y offset known p f w q =
      chained (λ u. fits m y.kind (Scalar k) ≡ true) (Sound m g) (check (fits m y.kind (Scalar k)) (type_fault_at WrongType offset)) _ (checked (fits m y.kind (Scalar k)) _) (λ u h.
      ((known, (x.collection, x.element, wider, f.0, y.kind, p.0, f.1, f.2, w.0, q.0, h, w.1, refl)), known))
