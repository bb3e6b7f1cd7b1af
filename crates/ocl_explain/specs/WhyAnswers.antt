-- What `why` prints of the bytes of its inputs, a rule's name and an object's id, and its status: the explanation of the rule's
-- verdict; nothing, where there is none; or the line by which `judge` refuses an input.
use Rattle.std.specs.Prelude.{◌≡◌, ◌==◌, ◌⊎◌, ℕ, bytes_eq, List, [], ◌∷◌, Option, Some, None, if◌then◌else◌}
use Rattle.imkl_population.specs.Population.{Population, is_instance, object_number}
use Rattle.ocl_core.specs.Core.{CheckedRule}
use Rattle.ocl_check.specs.declared.commands.judge.TheConstants.{MAX_BUDGET}
use Rattle.ocl_check.specs.Reply.{Answer}
use Rattle.ocl_pipeline.specs.TextReading.{TextReading, ReadsAs}
use Rattle.explain_notes.specs.Lines.{cut_text}
use Rattle.explain_why.specs.Explanation.{named_explanation}
use Rattle.ocl_explain.specs.RuleNames.{RuleNames, given_for, names_by}
use Rattle.ocl_explain.specs.Judged.{AreJudged, IsRefusedBy}

-- ---- a population and rules

-- the first rule of a name
abbrev pub rule_named : List CheckedRule → List ℕ → Option CheckedRule
rule_named [] name = None
rule_named (r ∷ rs) name = if bytes_eq r.name name then Some r else rule_named rs name

module _ (p : Population) (names : List RuleNames) where
  -- why a rule has its verdict for an object that it judges: one of its context class or of a subclass of it
  abbrev pub judged_text : CheckedRule → ℕ → Option (List ℕ)
  judged_text r o = if is_instance p r.context o then Some (named_explanation p r (given_for names r.name) o) else None

  abbrev pub text_for_object : CheckedRule → Option ℕ → Option (List ℕ)
  text_for_object r None = None
  text_for_object r (Some o) = judged_text r o

  abbrev pub rule_text : Option CheckedRule → List ℕ → Option (List ℕ)
  rule_text None id = None
  rule_text (Some r) id = text_for_object r (object_number p id)

  -- why the rule of a name has its verdict for the object of an id; none where there is no such rule or no such object, or
  -- the rule doesn't judge it
  abbrev pub why_text : List CheckedRule → List ℕ → List ℕ → Option (List ℕ)
  why_text rs name id = rule_text (rule_named rs name) id

-- ---- inputs

-- the explanation with status 0; nothing, with status 2, where there is none
abbrev pub why_answer : Option (List ℕ) → Answer
why_answer None = ([], 2)
why_answer (Some text) = (text, 0)

-- what is told of the bytes of inputs: why the rule of a name has its verdict for the object of an id, with the names that the text
-- gives to its variables
abbrev pub IsTold : List ℕ → List ℕ → List ℕ → List ℕ → List ℕ → Answer → Type 0
IsTold model delivery rules name id answer =
    (p : Population) × (rs : List CheckedRule) × (t : TextReading) × ReadsAs rules t × AreJudged MAX_BUDGET model delivery rules p rs × (answer ≡ why_answer (why_text p (names_by t rs) rs name id))

-- of an explanation so many lines, and how many more there are
abbrev pub shown_answer : ℕ → Answer → Answer
shown_answer lines (text, status) = if status == 0 then (cut_text lines text, 0) else (text, status)

-- What `why` may print of an explanation of which so many lines are shown: one answer, but where a text is refused as Syntax or
-- TooDeep.
abbrev pub WhyAnswers : List ℕ → List ℕ → List ℕ → List ℕ → List ℕ → ℕ → Answer → Type 0
WhyAnswers model delivery rules name id lines answer =
    ((told : Answer) × IsTold model delivery rules name id told × (answer ≡ shown_answer lines told))
    ⊎ IsRefusedBy MAX_BUDGET model delivery rules answer
