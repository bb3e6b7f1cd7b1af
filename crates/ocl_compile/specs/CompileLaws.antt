-- What holds of compiled rules: they are accepted, and their runs end with what the rules mean.
use Rattle.std.specs.Prelude.{◌≡◌, ℕ, List, [], ◌∷◌, length, Some, Ok, slice_get}
use Rattle.std.specs.List.{AllByRecursion}
use Rattle.imkl_model.specs.ClassModel.{Model}
use Rattle.imkl_model.specs.WellFormed.{IsClassModel}
use Rattle.imkl_population.specs.Population.{Population, IsInstance}
use Rattle.imkl_population.specs.Consistency.{IsConsistent}
use Rattle.ocl_core.specs.Core.{CheckedRule}
use Rattle.ocl_core.specs.Typing.{IsTypedRule}
use Rattle.rule_code.specs.Content.{Content, text_at}
use Rattle.rule_code.specs.WellFormed.{IsUnit}
use Rattle.rule_verify.specs.UnitRules.{unit_rule, context_class, IsAcceptedUnit}
use Rattle.rule_values.specs.Value.{object_value}
use Rattle.rule_machine.specs.Machine.{setting_of, configuration, run, start}
use Rattle.rule_machine.specs.Laws.{tree_of_rule, verdict_at}
use Rattle.ocl_semantics.specs.Meaning.{meaning, meant_verdict}
use Rattle.ocl_compile.specs.Compiling.{compile_of}

abbrev pub AreTypedRules : Model → List CheckedRule → Type 0
AreTypedRules m rs = AllByRecursion (IsTypedRule m) rs

-- typed rules that compile are accepted
abbrev pub CompiledIsAccepted : Type 0
CompiledIsAccepted =
    (m : Model) (rs : List CheckedRule) (u : Content)
    → IsClassModel m → AreTypedRules m rs → compile_of m rs ≡ Ok u
    → IsAcceptedUnit m u

-- the unit has as many rules, and each has the name and the context class of the one in its place
pub record KeepsRules (m : Model) (rs : List CheckedRule) (u : Content) : Type 0 where
  pub count : length u.rules ≡ length rs
  pub names : (n : ℕ) (r : CheckedRule) → slice_get rs n ≡ Some r → text_at u.texts (unit_rule u n).name ≡ r.name
  pub contexts : (n : ℕ) (r : CheckedRule) → slice_get rs n ≡ Some r → context_class m u (unit_rule u n) ≡ Some r.context

-- compiled rules keep their order, their names and their context classes
abbrev pub CompiledKeepsRules : Type 0
CompiledKeepsRules =
    (m : Model) (rs : List CheckedRule) (u : Content)
    → IsClassModel m → AreTypedRules m rs → compile_of m rs ≡ Ok u
    → KeepsRules m rs u

-- a rule of a unit that is compiled from typed rules, a consistent population of its class model, and an object of the
-- rule's context class
pub record IsCompiledRun (rs : List CheckedRule) (u : Content) (p : Population) (n : ℕ) (r : CheckedRule) (o : ℕ) : Type 0 where
  pub model : IsClassModel p.model
  pub population : IsConsistent p
  pub typed : AreTypedRules p.model rs
  pub compiled : compile_of p.model rs ≡ Ok u
  pub unit : IsUnit u
  pub rule : slice_get rs n ≡ Some r
  pub object : IsInstance p r.context o

-- a run of compiled code ends with one operand, which is what the rule's expression means
abbrev pub RunsEndWithMeaning : Type 0
RunsEndWithMeaning =
    (rs : List CheckedRule) (u : Content) (p : Population) (n o : ℕ) (r : CheckedRule)
    → IsCompiledRun rs u p n r o
    → (k : ℕ) × (run (setting_of u p n) k (start (tree_of_rule u n) o)
    ≡ Some (configuration [] (object_value o ∷ []) (meaning p r.tree (object_value o ∷ []) ∷ [])))

-- the machine's verdict is the one that is meant
abbrev pub VerdictsAreMeant : Type 0
VerdictsAreMeant =
    (rs : List CheckedRule) (u : Content) (p : Population) (n o : ℕ) (r : CheckedRule)
    → IsCompiledRun rs u p n r o
    → verdict_at u p n o ≡ Some (meant_verdict p r o)
