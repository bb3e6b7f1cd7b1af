-- What elaboration gives of an expression.
use Rattle.std.specs.Prelude.{List}
use Rattle.ocl_kinds.specs.declared.kind.Kind.{Kind}
use Rattle.ocl_core.specs.Core.{CoreTree}

-- a core tree, and the kind of its value
pub record TypedTree : Type 0 where
  pub core : CoreTree
  pub kind : Kind

abbrev pub typed : CoreTree → Kind → TypedTree
typed core kind = record { core = core; kind = kind }

-- several of them
pub record TypedTrees : Type 0 where
  pub cores : List CoreTree
  pub kinds : List Kind

abbrev pub typed_trees : List CoreTree → List Kind → TypedTrees
typed_trees cores kinds = record { cores = cores; kinds = kinds }
