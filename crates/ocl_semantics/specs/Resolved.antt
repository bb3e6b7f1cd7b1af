-- What an evaluator is given: a tree of which each name is one of the class model, and variables in which everything is there.
use Rattle.std.specs.Prelude.{◌<◌, List, length}
use Rattle.std.specs.List.{AllByRecursion}
use Rattle.imkl_model.specs.ClassModel.{Model}
use Rattle.imkl_population.specs.Population.{Population}
use Rattle.ocl_core.specs.declared.operator.Operator.{Operator}
use Rattle.ocl_core.specs.declared.operator.Operator.TheVariants.{Plain, OfClass, OfElements, Equal}
use Rattle.ocl_core.specs.Core as tree
use Rattle.ocl_core.specs.Core.{CoreTree, CoreTrees}
use Rattle.ocl_core.specs.Typing.{IsConstantOf}
use Rattle.owned_values.specs.Meant.{IsValueThere}
use Rattle.rule_values.specs.Value.{Value}

-- ---- names

-- the class that an operator asks for is one of the class model
abbrev pub IsOperatorOf : Model → Operator → Type 0
IsOperatorOf m (Plain operator) = Unit {0}
IsOperatorOf m (OfClass operator class) = class < length m.classes
IsOperatorOf m (OfElements operator kind) = Unit {0}
IsOperatorOf m (Equal kind) = Unit {0}

-- each class, feature and literal that a tree names is one of the class model
module _ (m : Model) where
  abbrev mutual
    pub IsResolved : CoreTree → Type 0
    IsResolved (tree.Value value) = IsConstantOf m value
    IsResolved (tree.Variable n) = Unit {0}
    IsResolved (tree.AllInstances class) = class < length m.classes
    IsResolved (tree.Feature source f) = IsResolved source × (f < length m.features)
    IsResolved (tree.Operation operator first others) =
        IsResolved first × (IsOperatorOf m operator × AreResolved others)
    IsResolved (tree.AsCollection c k source) = IsResolved source
    IsResolved (tree.Iterate i source body) = IsResolved source × IsResolved body
    IsResolved (tree.Fold k source start body) = IsResolved source × (IsResolved start × IsResolved body)
    IsResolved (tree.Let value body) = IsResolved value × IsResolved body
    IsResolved (tree.If k condition first second) = IsResolved condition × (IsResolved first × IsResolved second)

    pub AreResolved : CoreTrees → Type 0
    AreResolved tree.no_core = Unit {0}
    AreResolved (tree.one_core first rest) = IsResolved first × AreResolved rest

-- ---- variables

-- everything in the values of variables is there
abbrev pub AreThere : Population → List Value → Type 0
AreThere p vars = AllByRecursion (IsValueThere p) vars
