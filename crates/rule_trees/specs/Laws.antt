-- What holds of the core trees of code, whoever made it.
use Rattle.std.specs.Prelude.{◌≡◌, ℕ, ◌<◌, List, [], ◌∷◌, length, Some, Ok, slice_get}
use Rattle.imkl_model.specs.ClassModel.{Model}
use Rattle.imkl_model.specs.WellFormed.{IsClassModel}
use Rattle.imkl_population.specs.Population.{Population}
use Rattle.ocl_kinds.specs.declared.kind.Kind.{Kind}
use Rattle.ocl_core.specs.Core.{CoreTree, CheckedRule}
use Rattle.ocl_core.specs.Typing.{IsTyped}
use Rattle.ocl_semantics.specs.Meaning.{meaning}
use Rattle.ocl_semantics.specs.Resolved.{IsResolved}
use Rattle.rule_code.specs.Content.{Content}
use Rattle.rule_code.specs.WellFormed.{IsUnit}
use Rattle.rule_values.specs.Value.{object_value}
use Rattle.rule_values.specs.Verdict.{verdict_of}
use Rattle.rule_verify.specs.InstrKinds.{Surroundings}
use Rattle.rule_verify.specs.CodeTree.{CodeTree}
use Rattle.rule_verify.specs.UnitRules.{IsAcceptedUnit}
use Rattle.rule_machine.specs.Machine.{setting_of, configuration, run, start}
use Rattle.rule_machine.specs.Laws.{IsAcceptedRun, tree_of_rule, verdict_at}
use Rattle.ocl_compile.specs.Numbering.{Numbering, tree_uses}
use Rattle.ocl_compile.specs.ResolvedUses.{AreUsesResolved}
use Rattle.ocl_compile.specs.Translation.{translate}
use Rattle.ocl_compile.specs.Compiling.{compile_of}
use Rattle.ocl_compile.specs.CompileLaws.{AreTypedRules}
use Rattle.rule_trees.specs.CoreOf.{trees_after, core_of_rule}

-- the core tree of a unit's rule, by its index
abbrev pub IsCoreOf : Model → Content → ℕ → CoreTree → Type 0
IsCoreOf m u n c = core_of_rule m u n ≡ Some c

-- ---- accepted code

-- each rule of an accepted unit has a core tree
abbrev pub AcceptedRulesHaveTrees : Type 0
AcceptedRulesHaveTrees =
    (m : Model) (u : Content) (n : ℕ)
    → IsUnit u → IsAcceptedUnit m u → n < length u.rules
    → (c : CoreTree) × IsCoreOf m u n c

-- each class, feature and literal that the tree names is one of the class model
abbrev pub TreesAreResolved : Type 0
TreesAreResolved = (m : Model) (u : Content) (n : ℕ) (c : CoreTree) → IsCoreOf m u n c → IsResolved m c

-- a run of accepted code ends with one operand, which is what the rule's tree means
abbrev pub RunsEndWithTrees : Type 0
RunsEndWithTrees =
    (u : Content) (p : Population) (n o : ℕ) (c : CoreTree)
    → IsAcceptedRun u p n o → IsCoreOf p.model u n c
    → (k : ℕ) × (run (setting_of u p n) k (start (tree_of_rule u n) o)
    ≡ Some (configuration [] (object_value o ∷ []) (meaning p c (object_value o ∷ []) ∷ [])))

-- so the machine's verdict is that of the tree's meaning
abbrev pub VerdictsAreOfTrees : Type 0
VerdictsAreOfTrees =
    (u : Content) (p : Population) (n o : ℕ) (c : CoreTree)
    → IsAcceptedRun u p n o → IsCoreOf p.model u n c
    → verdict_at u p n o ≡ Some (verdict_of (meaning p c (object_value o ∷ [])))

-- ---- compiled code

-- the code of a typed tree puts this very tree on those before it
abbrev pub TranslatingIsUndone : Type 0
TranslatingIsUndone =
    (s : Surroundings) (n : Numbering) (g : List Kind) (c : CoreTree) (k : Kind) (rest : CodeTree) (cs : List CoreTree)
    → IsTyped s.model g c k → AreUsesResolved s.model s.unit n (tree_uses s.model c)
    → trees_after s (translate s.model n c rest) cs ≡ trees_after s rest (c ∷ cs)

-- so a rule of a compiled unit has the very tree that was compiled
abbrev pub CompiledRulesKeepTrees : Type 0
CompiledRulesKeepTrees =
    (m : Model) (rs : List CheckedRule) (u : Content) (n : ℕ) (r : CheckedRule)
    → IsClassModel m → AreTypedRules m rs → compile_of m rs ≡ Ok u → slice_get rs n ≡ Some r
    → IsCoreOf m u n r.tree
