-- The kind that is wanted of a variable: what the first of its uses in a tree has to be, by what it is an operand or a part of.
-- A variable whose value is null gets its type by this.
use Rattle.std.specs.Prelude.{ℕ, ◌==◌, nat_lt, List, ◌∷◌, drop, length, Option, Some, None, unwrap_or, if◌then◌else◌}
use Rattle.std.specs.Option.{option_or}
use Rattle.imkl_model.specs.ClassModel.{Model, feature_at}
use Rattle.ocl_kinds.specs.declared.kind.ScalarKind.{ScalarKind}
use Rattle.ocl_kinds.specs.declared.kind.ScalarKind.TheVariants as element
use Rattle.ocl_kinds.specs.declared.kind.Kind.{Kind}
use Rattle.ocl_kinds.specs.declared.kind.Kind.TheVariants.{Scalar, Collection}
use Rattle.ocl_core.specs.declared.operator.Operator.{Operator}
use Rattle.ocl_core.specs.declared.operator.Operator.TheVariants.{Plain, OfClass, OfElements, Equal}
use Rattle.ocl_core.specs.declared.core_tree.Iteration.{Iteration}
use Rattle.ocl_core.specs.declared.core_tree.Iteration.TheVariants as iteration
use Rattle.ocl_core.specs.Core as tree
use Rattle.ocl_core.specs.Core.{CoreTree, CoreTrees}
use Rattle.ocl_core.specs.OperatorKinds.{basic_kind}
use Rattle.ocl_core.specs.Typing.{Operand, Of, plain_operands}

-- ---- what is wanted

-- no variable is wanted to be null, or any object
abbrev pub wanting : Option ScalarKind → Option ScalarKind
wanting None = None
wanting (Some element.Void) = None
wanting (Some element.AnyObject) = None
wanting (Some k) = Some k

-- a collection is wanted of no variable that is null
abbrev pub single_wanted : Kind → Option ScalarKind
single_wanted (Scalar k) = Some k
single_wanted (Collection c k) = None

-- of the first of operands
abbrev pub operand_wanted : List Operand → Option ScalarKind
operand_wanted (Of t ∷ os) = Some (basic_kind t)
operand_wanted os = None

-- of an operator's first operand
abbrev pub first_wanted : Operator → Option ScalarKind
first_wanted (Plain operator) = operand_wanted (plain_operands operator)
first_wanted (OfClass operator c) = Some (element.Class c)
first_wanted (OfElements operator k) = None
first_wanted (Equal k) = single_wanted k

-- of each other
abbrev pub others_wanted : Operator → Option ScalarKind
others_wanted (Plain operator) = operand_wanted (drop 1 (plain_operands operator))
others_wanted (OfClass operator c) = None
others_wanted (OfElements operator k) = Some k
others_wanted (Equal k) = single_wanted k

-- of an iteration's body
abbrev pub body_wanted : Iteration → Option ScalarKind
body_wanted iteration.ForAll = Some element.Boolean
body_wanted iteration.Exists = Some element.Boolean
body_wanted iteration.One = Some element.Boolean
body_wanted iteration.Select = Some element.Boolean
body_wanted iteration.Reject = Some element.Boolean
body_wanted iteration.Collect = None
body_wanted iteration.CollectFlat = None
body_wanted (iteration.IsUnique k) = Some k

-- of the object whose feature is read; nothing if the class model has no such feature
abbrev pub owner_wanted : Model → ℕ → Option ScalarKind
owner_wanted m f = if nat_lt f (length m.features) then Some (element.Class (feature_at m f).owner) else None

-- ---- of a variable of this number, in a tree of which something is wanted

module _ (m : Model) (n : ℕ) where
  abbrev mutual
    pub wanted_of : CoreTree → Option ScalarKind → Option ScalarKind
    wanted_of (tree.Value c) w = None
    wanted_of (tree.Variable v) w = if v == n then wanting w else None
    wanted_of (tree.AllInstances c) w = None
    wanted_of (tree.Feature source f) w = wanted_of source (owner_wanted m f)
    wanted_of (tree.Operation operator first others) w =
        option_or (wanted_of first (first_wanted operator)) (wanted_of_each others (others_wanted operator))
    wanted_of (tree.AsCollection c k source) w = wanted_of source (Some k)
    wanted_of (tree.Iterate i source body) w = option_or (wanted_of source None) (wanted_of body (body_wanted i))
    wanted_of (tree.Fold k source start body) w =
        option_or (wanted_of source None) (option_or (wanted_of start (Some k)) (wanted_of body (Some k)))
    wanted_of (tree.Let value body) w = option_or (wanted_of value None) (wanted_of body w)
    wanted_of (tree.If k condition first second) w =
        option_or (wanted_of condition (Some element.Boolean)) (option_or (wanted_of first (single_wanted k)) (wanted_of second (single_wanted k)))

    -- in trees of each of which the same is wanted
    pub wanted_of_each : CoreTrees → Option ScalarKind → Option ScalarKind
    wanted_of_each tree.no_core w = None
    wanted_of_each (tree.one_core first rest) w = option_or (wanted_of first w) (wanted_of_each rest w)

-- ---- the kind of a variable

-- Of a value that is null it is the kind that is wanted of the variable in the body, where nothing is wanted of the body itself. Where
-- no use wants one it is that of truth values, since some type has to be printed.
abbrev pub let_kind : Model → ℕ → Kind → CoreTree → Kind
let_kind m n (Scalar element.Void) body = Scalar (unwrap_or (wanted_of m n body None) element.Boolean)
let_kind m n k body = k
