-- What `bound` answers.
use Rattle.std.specs.Prelude.{ℕ, zero, suc, List, [], ◌∷◌, ◌++◌, length, codes}
use Rattle.std.specs.Fmt.{decimal}
use Rattle.imkl_population.specs.Population.{Population}
use Rattle.imkl_population.specs.Sizes.{Sizes, sizes_of}
use Rattle.rule_code.specs.Content.{Content}
use Rattle.rule_cost.specs.declared.cut.Bound.{Bound}
use Rattle.rule_cost.specs.declared.cut.Bound.TheVariants.{Steps, Over}
use Rattle.rule_cost.specs.Admission.{rule_step_bound}
use Rattle.rule_cost.specs.Limits.{limited_bound}
use Rattle.rule_report.specs.Report.{name_of}
use Rattle.ocl_check.specs.Reply.{Answer}
use Rattle.ocl_check.specs.CodeRules.{code_file_answer}
use Rattle.ocl_check.specs.ThreeInputs.{inputs_answer}

-- a bound is a number, or over
abbrev pub bound_word : Bound → List ℕ
bound_word (Steps n) = decimal n
bound_word Over = codes "over"

abbrev pub bound_line_of : List ℕ → Bound → List ℕ
bound_line_of name b = codes "bound " ++ (name ++ (32 ∷ (bound_word b ++ 10 ∷ [])))

-- the line of a rule
abbrev pub bound_line : Content → Sizes → ℕ → List ℕ
bound_line u z r = bound_line_of (name_of u r) (limited_bound (rule_step_bound u z r))

-- the lines of the first n rules
abbrev pub bounds_below : Content → Sizes → ℕ → List ℕ
bounds_below u z zero = []
bounds_below u z (suc r) = bounds_below u z r ++ bound_line u z r

-- the lines of all rules, in the file's order
abbrev pub bound_lines : Content → Sizes → List ℕ
bound_lines u z = bounds_below u z (length u.rules)

-- what is answered of a population and a unit accepted in its class model
abbrev pub bounds_answer : Population → Content → Answer
bounds_answer p u = (bound_lines u (sizes_of p), 0)

-- what `bound` answers of the bytes of its three inputs: the line of the first that is refused, else the bounds of the
-- rules
abbrev pub bound_answer : List ℕ → List ℕ → List ℕ → Answer
bound_answer model delivery code = inputs_answer (code_file_answer bounds_answer code) model delivery
