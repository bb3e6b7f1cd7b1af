-- A rule of a unit as OCL: its context class, its name, and the core tree of its code, whose meaning is the rule's.
use Rattle.std.specs.Prelude.{ℕ, Bool, List, [], ◌∷◌, ◌++◌, Option, Some, None, length, codes, nat_lt, unwrap_or, if◌then◌else◌}
use Rattle.imkl_model.specs.ClassModel.{Model, class_at}
use Rattle.ocl_kinds.specs.declared.kind.ScalarKind.TheVariants as element
use Rattle.ocl_kinds.specs.declared.kind.Kind.TheVariants.{Scalar}
use Rattle.ocl_core.specs.Core.{CoreTree}
use Rattle.rule_code.specs.Content.{Content, RuleContent, text_at}
use Rattle.rule_verify.specs.UnitRules.{unit_rule, context_class}
use Rattle.rule_trees.specs.CoreOf.{core_of_rule}
use Rattle.code_as_ocl.specs.TypedTexts.{printed_of}
use Rattle.code_as_ocl.specs.declared.rules.TheConstants.{MAX_INSTRUCTIONS}

-- a rule that is too long isn't shown
abbrev pub is_too_long : RuleContent → Bool
is_too_long r = nat_lt MAX_INSTRUCTIONS (length r.code)

-- the tree of a rule of a context class, whose object is the variable that it sees; each rule of an accepted unit has one
abbrev pub tree_shown : Model → ℕ → Option CoreTree → List ℕ
tree_shown m context None = []
tree_shown m context (Some c) = (printed_of m c (Scalar (element.Class context) ∷ [])).text

module _ (m : Model) (u : Content) where
  abbrev pub context_shown : ℕ → ℕ
  context_shown n = unwrap_or (context_class m u (unit_rule u n)) 0

  abbrev pub context_name : ℕ → List ℕ
  context_name n = (class_at m (context_shown n)).name

  abbrev pub expression_shown : ℕ → List ℕ
  expression_shown n =
      if is_too_long (unit_rule u n) then codes "-- not shown: it has more than 1000 instructions" else tree_shown m (context_shown n) (core_of_rule m u n)

  -- its context class and its name
  abbrev pub head_shown : ℕ → List ℕ
  head_shown n =
      codes "context " ++ (context_name n ++ (codes "\n  inv " ++ (text_at u.texts (unit_rule u n).name ++ codes ":\n")))

  -- its expression in one line
  abbrev pub line_shown : ℕ → List ℕ
  line_shown n = codes "    " ++ (expression_shown n ++ codes "\n")

  abbrev pub rule_shown : ℕ → List ℕ
  rule_shown n = head_shown n ++ line_shown n

-- a mark, with the reason
abbrev pub mark_shown : List ℕ → List ℕ
mark_shown why = codes "    -- can't be written as OCL: " ++ (why ++ codes "\n")

-- a rule with a mark
abbrev pub rule_marked : Model → Content → List ℕ → ℕ → List ℕ
rule_marked m u why n = head_shown m u n ++ (mark_shown why ++ line_shown m u n)
