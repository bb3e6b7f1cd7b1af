-- What `why` prints of a code file: the explanation of the core tree of a rule's code.
use Rattle.std.specs.Prelude.{ℕ, zero, suc, bytes_eq, List, Option, Some, None, length, unwrap_or, if◌then◌else◌}
use Rattle.imkl_population.specs.Population.{Population, is_instance, object_number}
use Rattle.ocl_core.specs.Core.{CoreTree, CheckedRule}
use Rattle.rule_code.specs.Content.{Content, text_at}
use Rattle.rule_verify.specs.UnitRules.{unit_rule, context_class}
use Rattle.rule_trees.specs.CoreOf.{core_of_rule}
use Rattle.code_as_ocl.specs.ShownRules.{is_too_long}
use Rattle.explain_why.specs.Explanation.{explanation}
use Rattle.ocl_check.specs.declared.commands.judge.TheConstants.{MAX_BUDGET}
use Rattle.ocl_check.specs.Reply.{Answer}
use Rattle.ocl_check.specs.Given.{given_answer}
use Rattle.ocl_pipeline.specs.Asked.{PopulationAndUnit, admitted_in, code_with}
use Rattle.ocl_pipeline.specs.Steps.{inputs_in}
use Rattle.ocl_explain.specs.WhyAnswers.{why_answer, shown_answer}

-- ---- a population and a unit

-- a rule by its parts
abbrev pub rule_of_tree : List ℕ → ℕ → CoreTree → CheckedRule
rule_of_tree name context c = record { name = name; context = context; tree = c }

abbrev pub name_of_rule : Content → ℕ → List ℕ
name_of_rule u n = text_at u.texts (unit_rule u n).name

-- of so many rules from one of an index on, the index of the first of a name
abbrev pub index_of_rule_from : Content → List ℕ → ℕ → ℕ → Option ℕ
index_of_rule_from u name zero n = None
index_of_rule_from u name (suc left) n = if bytes_eq (name_of_rule u n) name then Some n else index_of_rule_from u name left (suc n)

abbrev pub rule_number : Content → List ℕ → Option ℕ
rule_number u name = index_of_rule_from u name (length u.rules) 0

module _ (p : Population) (u : Content) where
  abbrev pub context_of_rule : ℕ → ℕ
  context_of_rule n = unwrap_or (context_class p.model u (unit_rule u n)) 0

  -- each rule of an accepted unit has a core tree
  abbrev pub text_by_tree : ℕ → ℕ → Option CoreTree → Option (List ℕ)
  text_by_tree n o None = None
  text_by_tree n o (Some c) = Some (explanation p (rule_of_tree (name_of_rule u n) (context_of_rule n) c) o)

  -- why a rule has its verdict for an object; a rule that is too long isn't explained
  abbrev pub text_of_rule : ℕ → ℕ → Option (List ℕ)
  text_of_rule n o = if is_too_long (unit_rule u n) then None else text_by_tree n o (core_of_rule p.model u n)

  -- the same, if the rule judges the object: one of its context class or of a subclass of it
  abbrev pub code_judged_text : ℕ → ℕ → Option (List ℕ)
  code_judged_text n o = if is_instance p (context_of_rule n) o then text_of_rule n o else None

  abbrev pub code_object_text : ℕ → Option ℕ → Option (List ℕ)
  code_object_text n None = None
  code_object_text n (Some o) = code_judged_text n o

  abbrev pub code_rule_text : Option ℕ → List ℕ → Option (List ℕ)
  code_rule_text None id = None
  code_rule_text (Some n) id = code_object_text n (object_number p id)

  -- why the rule of a name has its verdict for the object of an id
  abbrev pub code_why_text : List ℕ → List ℕ → Option (List ℕ)
  code_why_text name id = code_rule_text (rule_number u name) id

-- ---- inputs

-- refused for the cost of a rule, else so many lines of the explanation; nothing, with status 2, where there is none
abbrev pub code_why_of : List ℕ → List ℕ → ℕ → PopulationAndUnit → Answer
code_why_of name id lines asked =
    given_answer (λ _. shown_answer lines (why_answer (code_why_text asked.0 asked.1 name id))) (admitted_in MAX_BUDGET asked.0 asked.1)

-- of the bytes of a class model, a delivery and a code file
abbrev pub code_why_answer : List ℕ → List ℕ → List ℕ → List ℕ → List ℕ → ℕ → Answer
code_why_answer model delivery code name id lines = given_answer (code_why_of name id lines) (code_with code (inputs_in model delivery))
