-- What links as they lie in memory want: of what stands before them, and of a variable in their other operands and their bodies.
use Rattle.std.specs.Prelude.{ℕ, List, [], ◌∷◌, Option, Some, None}
use Rattle.std.specs.Option.{option_or}
use Rattle.imkl_model.specs.ClassModel.{Model}
use Rattle.ocl_kinds.specs.declared.kind.ScalarKind.{ScalarKind}
use Rattle.ocl_core.specs.declared.core_tree.CoreLink.{CoreLink}
use Rattle.ocl_core.specs.Core as tree
use Rattle.ocl_core.specs.Core.{CoreTree}
use Rattle.ocl_semantics.specs.Evaluated.{on_null}
use Rattle.code_as_ocl.specs.WantedKinds.{first_wanted, others_wanted, body_wanted, owner_wanted, wanted_of, wanted_of_each}

module _ (m : Model) where
  -- of the topmost node's first operand
  abbrev pub source_wanted : CoreTree → Option ScalarKind
  source_wanted (tree.Feature source f) = owner_wanted m f
  source_wanted (tree.Operation operator first others) = first_wanted operator
  source_wanted (tree.AsCollection c k source) = Some k
  source_wanted t = None

  -- of what stands before links, if this is wanted of the whole
  abbrev pub before_links : List CoreLink → Option ScalarKind → Option ScalarKind
  before_links [] w = w
  before_links (k ∷ ks) w = source_wanted (on_null k)

module _ (m : Model) (n : ℕ) where
  -- in its other parts
  abbrev pub wanted_beside : CoreTree → Option ScalarKind
  wanted_beside (tree.Operation operator first others) = wanted_of_each m n others (others_wanted operator)
  wanted_beside (tree.Iterate i source body) = wanted_of m n body (body_wanted i)
  wanted_beside (tree.Fold k source start body) = option_or (wanted_of m n start (Some k)) (wanted_of m n body (Some k))
  wanted_beside t = None

  -- in those of links
  abbrev pub wanted_in_links : List CoreLink → Option ScalarKind
  wanted_in_links [] = None
  wanted_in_links (k ∷ ks) = option_or (wanted_beside (on_null k)) (wanted_in_links ks)
