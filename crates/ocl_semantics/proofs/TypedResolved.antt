-- In a tree that is typed in a class model each name is one of the class model.
use Rattle.std.proofs.Common.{List}
use Rattle.imkl_model.specs.ClassModel.{Model}
use Rattle.ocl_kinds.specs.declared.kind.Kind.{Kind}
use Rattle.ocl_core.specs.declared.operator.Operator.{Operator}
use Rattle.ocl_core.specs.declared.operator.Operator.TheVariants.{Plain, OfClass, OfElements, Equal}
use Rattle.ocl_core.specs.Core as tree
use Rattle.ocl_core.specs.Core.{CoreTree, CoreTrees}
use Rattle.ocl_core.specs.Typing.{IsOperation, IsTyped, AreTyped}
use Rattle.ocl_semantics.specs.Resolved.{IsOperatorOf, IsResolved, AreResolved}

module _ (m : Model) where
  operator_resolved : (operator : Operator) (x : Kind) (xs : List Kind) (gives : Kind) → IsOperation m operator x xs gives → IsOperatorOf m operator
  operator_resolved (Plain operator) x xs gives h = tt
  operator_resolved (OfClass operator class) x xs gives h = h.0
  operator_resolved (OfElements operator k) x xs gives h = tt
  operator_resolved (Equal k) x xs gives h = tt

  mutual
    pub typed_resolved : (g : List Kind) (t : CoreTree) (gives : Kind) → IsTyped m g t gives → IsResolved m t
    typed_resolved g (tree.Value value) gives h = h.0
    typed_resolved g (tree.Variable n) gives h = tt
    typed_resolved g (tree.AllInstances class) gives h = h.0
    typed_resolved g (tree.Feature source f) gives h = (typed_resolved g source h.1.0 h.1.1, h.0)
    typed_resolved g (tree.Operation operator first others) gives h =
        (typed_resolved g first h.0 h.2, (operator_resolved operator h.0 h.1 gives h.4, typed_all g others h.1 h.3))
    typed_resolved g (tree.AsCollection c e source) gives h = typed_resolved g source h.1.0 h.1.1
    typed_resolved g (tree.Iterate iteration source body) gives h = (typed_resolved g source _ h.4, typed_resolved _ body h.3 h.6)
    typed_resolved g (tree.Fold k source start body) gives h =
        (typed_resolved g source _ h.1.5, (typed_resolved g start h.1.3 h.1.6, typed_resolved _ body h.1.4 h.1.9))
    typed_resolved g (tree.Let value body) gives h = (typed_resolved g value h.0 h.2, typed_resolved _ body gives h.4)
    typed_resolved g (tree.If kind condition first second) gives h =
        (typed_resolved g condition h.1.0 h.1.3, (typed_resolved g first h.1.1 h.1.5, typed_resolved g second h.1.2 h.1.7))

    typed_all : (g : List Kind) (ts : CoreTrees) (kinds : List Kind) → AreTyped m g ts kinds → AreResolved m ts
    typed_all g tree.no_core kinds h = tt
    typed_all g (tree.one_core first rest) kinds h = (typed_resolved g first h.0 h.2, typed_all g rest h.1 h.3)
