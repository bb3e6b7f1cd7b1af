-- What `eval` prints: the value and the kind of an expression in the population of a delivery.
use Rattle.std.specs.Prelude.{◌≡◌, ℕ, List, [], ◌∷◌, ◌++◌, Option, Some, None, Result, Ok, Err, codes}
use Rattle.imkl_model.specs.ClassModel.{class_at}
use Rattle.imkl_population.specs.Population.{Population, class_of, object_number}
use Rattle.ocl_kinds.specs.declared.kind.Kind.{Kind}
use Rattle.ocl_text.specs.declared.tree.BinaryOperator.TheVariants as operator
use Rattle.ocl_text.specs.declared.tree.Keyword.TheVariants as keyword
use Rattle.ocl_text.specs.Tree as surface
use Rattle.ocl_text.specs.Tree.{Rule, SurfaceTree}
use Rattle.ocl_core.specs.Core as core
use Rattle.ocl_core.specs.Core.{CoreTree, CheckedRule}
use Rattle.ocl_types.specs.AllRules.{elaborate_rules}
use Rattle.ocl_pipeline.specs.declared.refusal.Refusal.{Refusal}
use Rattle.ocl_pipeline.specs.TextReading.{ReadsAs}
use Rattle.explain_why.specs.Valued.{valued_text}

-- ---- the expression as a rule

-- the line before an expression with which it is the rule of a class
abbrev pub frame : List ℕ → List ℕ
frame class = codes "context " ++ (class ++ codes " inv eval:\n")

abbrev pub framed : List ℕ → List ℕ → List ℕ
framed class text = frame class ++ text

abbrev pub choice_tree : SurfaceTree → SurfaceTree
choice_tree e = surface.If (surface.Keyword keyword.True 0) e (surface.Keyword keyword.Null 0) 0

abbrev pub null_test : SurfaceTree → SurfaceTree
null_test e = surface.Binary operator.Equal e (surface.Keyword keyword.Null 0) 0

-- `if true then E else null endif = null` has a type whichever E has, and its `if` has the same as E
abbrev pub probe : Rule → Rule
probe r = record { name = r.name; context = r.context; offset = r.offset; context_offset = r.context_offset; tree = null_test (choice_tree r.tree) }

-- E's core tree in that of a probe, with its kind
abbrev pub chosen_part : CoreTree → Option (Kind × CoreTree)
chosen_part (core.If kind condition then_branch else_branch) = Some (kind, then_branch)
chosen_part t = None

abbrev pub probed_part : CoreTree → Option (Kind × CoreTree)
probed_part (core.Operation operator first others) = chosen_part first
probed_part t = None

abbrev pub probed : List CheckedRule → Option (Kind × CoreTree)
probed [] = None
probed (r ∷ rs) = probed_part r.tree

-- ---- a population

-- a core tree that is found has this kind, and its meaning this text; `self` is an object, or invalid where there is none
abbrev pub IsFoundValue : Population → Option ℕ → Option (Kind × CoreTree) → Kind → List ℕ → Type 0
IsFoundValue p o found kind value = (t : CoreTree) × (found ≡ Some (kind, t)) × (value ≡ valued_text p t o)

-- the value of the one rule of a text, which has types
abbrev pub IsRuleValue : Population → Option ℕ → Rule → Kind → List ℕ → Type 0
IsRuleValue p o r kind value =
    (rs : List CheckedRule) × (elaborate_rules p.model 0 (probe r ∷ []) ≡ Ok rs) × IsFoundValue p o (probed rs) kind value

abbrev pub IsTextValue : Population → Option ℕ → List ℕ → Kind → List ℕ → Type 0
IsTextValue p o text kind value = (r : Rule) × ReadsAs text (Ok (r ∷ [])) × IsRuleValue p o r kind value

-- the class of the object, or the first one
abbrev pub context_number : Population → Option ℕ → ℕ
context_number p None = 0
context_number p (Some o) = class_of p o

-- the value of an expression, of which `self` is an object or nothing
abbrev pub IsValued : Population → Option ℕ → List ℕ → Kind → List ℕ → Type 0
IsValued p o text kind value = IsTextValue p o (framed (class_at p.model (context_number p o)).name text) kind value

-- the object of an id, where one is named
abbrev pub IsSelf : Population → Option (List ℕ) → Option ℕ → Type 0
IsSelf p None o = o ≡ None
IsSelf p (Some id) o = (n : ℕ) × (object_number p id ≡ Some n) × (o ≡ Some n)

-- ---- inputs

-- an expression has this kind and this value in a population that is given, where `self` is the object of an id
abbrev pub HasValue : Option (List ℕ) → List ℕ → Result Population Refusal → Kind → List ℕ → Type 0
HasValue id text (Ok p) kind value = (o : Option ℕ) × IsSelf p id o × IsValued p o text kind value
HasValue id text (Err r) kind value = ⊥
