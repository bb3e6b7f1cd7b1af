-- What the code of a tree asks of it, and the code of what is applied to a first operand.
use Rattle.std.specs.Prelude.{ℕ, ◌<◌, ◌≤◌, List, [], ◌∷◌, ◌++◌, length}
use Rattle.std.specs.List.{flat_map, AllByRecursion}
use Rattle.imkl_model.specs.ClassModel.{Model}
use Rattle.ocl_core.specs.declared.core_tree.CoreLink.{CoreLink}
use Rattle.ocl_core.specs.Core as tree
use Rattle.ocl_core.specs.Core.{CoreTree, CoreTrees}
use Rattle.ocl_core.specs.CoreView.{core_link_of}
use Rattle.rule_code.specs.declared.instruction.Instr.{Instr}
use Rattle.rule_code.specs.declared.instruction.Instr.TheVariants as instrs
use Rattle.rule_verify.specs.CodeTree as code
use Rattle.rule_verify.specs.CodeTree.{instr_count}
use Rattle.ocl_compile.specs.Numbering.{Numbering, owned_feature}
use Rattle.ocl_compile.specs.declared.limits.TheConstants.{COUNTING_END, MAX_COUNTED}
use Rattle.ocl_compile.specs.Translation.{symbol_of_unit, written_scalar, operator_instr, iteration_instr, translate, translate_all, instrs_of}

-- each feature that a tree names is one of the class model
module _ (m : Model) where
  abbrev mutual
    pub KnownIn : CoreTree → Type 0
    KnownIn (tree.Value c) = Unit {0}
    KnownIn (tree.Variable v) = Unit {0}
    KnownIn (tree.AllInstances c) = Unit {0}
    KnownIn (tree.Feature source f) = KnownIn source × (f < length m.features)
    KnownIn (tree.Operation operator first others) = KnownIn first × KnownIn_all others
    KnownIn (tree.AsCollection c k source) = KnownIn source
    KnownIn (tree.Iterate i source body) = KnownIn source × KnownIn body
    KnownIn (tree.Fold k source start body) = KnownIn source × (KnownIn start × KnownIn body)
    KnownIn (tree.Let v body) = KnownIn v × KnownIn body
    KnownIn (tree.If k condition first second) = KnownIn condition × (KnownIn first × KnownIn second)

    pub KnownIn_all : CoreTrees → Type 0
    KnownIn_all tree.no_core = Unit {0}
    KnownIn_all (tree.one_core first rest) = KnownIn first × KnownIn_all rest

-- each variable that a tree names is below a number
module _ (n : ℕ) where
  abbrev mutual
    pub VariablesBelow : CoreTree → Type 0
    VariablesBelow (tree.Value c) = Unit {0}
    VariablesBelow (tree.Variable v) = v < n
    VariablesBelow (tree.AllInstances c) = Unit {0}
    VariablesBelow (tree.Feature source f) = VariablesBelow source
    VariablesBelow (tree.Operation operator first others) = VariablesBelow first × VariablesBelow_all others
    VariablesBelow (tree.AsCollection c k source) = VariablesBelow source
    VariablesBelow (tree.Iterate i source body) = VariablesBelow source × VariablesBelow body
    VariablesBelow (tree.Fold k source start body) = VariablesBelow source × (VariablesBelow start × VariablesBelow body)
    VariablesBelow (tree.Let v body) = VariablesBelow v × VariablesBelow body
    VariablesBelow (tree.If k condition first second) =
        VariablesBelow condition × (VariablesBelow first × VariablesBelow second)

    pub VariablesBelow_all : CoreTrees → Type 0
    VariablesBelow_all tree.no_core = Unit {0}
    VariablesBelow_all (tree.one_core first rest) = VariablesBelow first × VariablesBelow_all rest

module _ (m : Model) (n : Numbering) where
  -- the code of a tree, and of trees in order
  abbrev pub code_of : CoreTree → List Instr
  code_of t = instrs_of (translate m n t code.End)

  abbrev pub codes_of : CoreTrees → List Instr
  codes_of ts = instrs_of (translate_all m n ts code.End)

  -- the code of values as variables of a body with this code
  abbrev pub lets_code : List CoreTree → List Instr → List Instr
  lets_code [] body = body
  lets_code (v ∷ vs) body = code_of v ++ instrs.Let (length (lets_code vs body)) ∷ lets_code vs body

  -- a tree that has code whose fields fit into two bytes
  pub record IsEmittable (t : CoreTree) : Type 0 where
    pub known : KnownIn m t
    pub variables : VariablesBelow COUNTING_END t
    pub room : length (code_of t) ≤ MAX_COUNTED

  abbrev pub AreEmittable : CoreTrees → Type 0
  AreEmittable tree.no_core = Unit {0}
  AreEmittable (tree.one_core first rest) = IsEmittable first × AreEmittable rest

  -- ---- what the topmost node of a tree adds to the code of its first operand

  abbrev pub top_code : CoreTree → List Instr
  top_code (tree.Feature source f) = instrs.Attr (symbol_of_unit n (owned_feature m f)) ∷ []
  top_code (tree.Operation operator first others) = codes_of others ++ operator_instr n operator ∷ []
  top_code (tree.AsCollection c k source) = instrs.AsColl c (written_scalar n k) ∷ []
  top_code (tree.Iterate i source body) = iteration_instr n i (instr_count (translate m n body code.End)) ∷ code_of body
  top_code (tree.Fold k source start body) =
      code_of start ++ instrs.Fold (written_scalar n k) (instr_count (translate m n body code.End)) ∷ code_of body
  top_code t = []

  abbrev pub IsTopEmittable : CoreTree → Type 0
  IsTopEmittable (tree.Feature source f) = f < length m.features
  IsTopEmittable (tree.Operation operator first others) = AreEmittable others
  IsTopEmittable (tree.Iterate i source body) = IsEmittable body
  IsTopEmittable (tree.Fold k source start body) = IsEmittable start × IsEmittable body
  IsTopEmittable t = Unit {0}

-- a link as a node on some first operand
abbrev pub link_node : CoreLink → CoreTree
link_node link = core_link_of link (tree.Value tree.Null)

module _ (m : Model) (n : Numbering) where
  abbrev pub links_code : List CoreLink → List Instr
  links_code links = flat_map (λ l. top_code m n (link_node l)) links

  abbrev pub AreEmittableLinks : List CoreLink → Type 0
  AreEmittableLinks links = AllByRecursion (λ l. IsTopEmittable m n (link_node l)) links
