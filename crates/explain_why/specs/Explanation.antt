-- Why a rule has its verdict for an object: the verdict, and indented below it each part of the expression with its value.
-- Each value is the part's meaning in the values of its variables, and each variable has the name by which the parts speak of it.
use Rattle.std.specs.Prelude.{ℕ, suc, ◌-◌, ◌*◌, ◌==◌, ◌||◌, Bool, true, false, not, List, [], ◌∷◌, ◌++◌, length, take, map, replicate, codes, if◌then◌else◌}
use Rattle.std.specs.Fmt.{decimal}
use Rattle.std.specs.List.{list_any, flat_map}
use Rattle.imkl_model.specs.ClassModel.{class_at}
use Rattle.imkl_population.specs.Population.{Population, class_of, object_at}
use Rattle.ocl_core.specs.declared.operator.PlainOperator.{PlainOperator}
use Rattle.ocl_core.specs.declared.operator.PlainOperator.TheVariants as plain
use Rattle.ocl_core.specs.declared.operator.Operator.{Operator}
use Rattle.ocl_core.specs.declared.operator.Operator.TheVariants.{Plain}
use Rattle.ocl_core.specs.declared.core_tree.Iteration.{Iteration}
use Rattle.ocl_core.specs.declared.core_tree.Iteration.TheVariants as iteration
use Rattle.ocl_core.specs.Core as tree
use Rattle.ocl_core.specs.Core.{CoreTree, CoreTrees, CheckedRule}
use Rattle.rule_values.specs.declared.verdict.Verdict.{Verdict}
use Rattle.rule_values.specs.declared.verdict.Verdict.TheVariants as verdict
use Rattle.rule_values.specs.Value as value
use Rattle.rule_values.specs.Value.{Element, Value, object_value, element_value}
use Rattle.rule_values.specs.Operations.{is_true, is_false, is_null, is_invalid, equality}
use Rattle.rule_values.specs.Endings.{is_undecided, kept_by}
use Rattle.owned_values.specs.Meant.{meant}
use Rattle.ocl_semantics.specs.Meaning.{meaning, meanings, meant_verdict}
use Rattle.explain_why.specs.declared.deciding.Deciding as declared
use Rattle.explain_why.specs.declared.deciding.Deciding.TheVariants as held
use Rattle.explain_why.specs.declared.deciding.Batch as declared_batch
use Rattle.explain_why.specs.Values.{max_shown, max_beside, value_text, introduced_text}
use Rattle.explain_why.specs.Names.{Naming, next_name, past, with_next, naming_of}
use Rattle.explain_why.specs.Texts.{text_of}
use Rattle.explain_why.specs.Turns.{Turn, turns_from, told_turns}
use Rattle.explain_why.specs.Reasons.{operation_reason, feature_reason, choice_reason}

-- ---- lines

-- two spaces for each level
abbrev pub indent : ℕ → List ℕ
indent k = replicate (2 * k) 32

-- a part with its value, and why that is null or invalid
abbrev pub part_line : ℕ → List ℕ → List ℕ → List ℕ → List ℕ
part_line k part value reason = indent k ++ (part ++ (codes " is " ++ (value ++ (reason ++ 10 ∷ []))))

-- a variable with its value; an object has its class there
abbrev pub named_value : List ℕ → List ℕ → List ℕ
named_value name value = name ++ (codes " is " ++ value)

abbrev pub binding_line : ℕ → List ℕ → List ℕ → List ℕ
binding_line k name value = indent k ++ (named_value name value ++ 10 ∷ [])

-- the two variables of a fold
abbrev pub bindings_line : ℕ → List ℕ → List ℕ → List ℕ → List ℕ → List ℕ
bindings_line k name accumulator first second =
    indent k ++ (named_value name first ++ (codes ", " ++ (named_value accumulator second ++ 10 ∷ [])))

-- lines that are shown or left out
abbrev pub lines_if : Bool → List ℕ → List ℕ
lines_if shown lines = if shown then lines else []

-- ---- operands that decide an operation

-- whether the first operand decides, whatever the second is
abbrev pub first_decides : PlainOperator → Value → Bool
first_decides plain.And v = is_false v
first_decides plain.Or v = is_true v
first_decides plain.Implies v = is_false v
first_decides operator v = false

-- whether the second operand decides, whatever the first is
abbrev pub second_decides : PlainOperator → Value → Bool
second_decides plain.And w = is_false w
second_decides plain.Or w = is_true w
second_decides plain.Implies w = is_true w
second_decides operator w = false

-- the first operand is left out where it doesn't decide and the second does
abbrev pub is_first_shown : Operator → Value → List Value → Bool
is_first_shown (Plain operator) v (w ∷ ws) = first_decides operator v || not (second_decides operator w)
is_first_shown operator v ws = true

-- those after it are left out where it decides
abbrev pub are_others_shown : Operator → Value → Bool
are_others_shown (Plain operator) v = not (first_decides operator v)
are_others_shown operator v = true

-- ---- elements that decide an iteration

-- which bodies: those that are true, false, neither, null, not null, invalid, equal to a value, all, or none
pub data Deciding : Type 0 where
  True : Deciding
  False : Deciding
  Undecided : Deciding
  Absent : Deciding
  Present : Deciding
  Invalid : Deciding
  Equal : Value → Deciding
  All : Deciding
  Nothing : Deciding

abbrev pub deciding_of : declared.Deciding → Deciding
deciding_of held.True = True
deciding_of held.False = False
deciding_of held.Undecided = Undecided
deciding_of held.Absent = Absent
deciding_of held.Present = Present
deciding_of held.Invalid = Invalid
deciding_of (held.Equal v) = Equal (meant v.now)
deciding_of held.All = All
deciding_of held.Nothing = Nothing

abbrev pub decides : Deciding → Value → Bool
decides True b = is_true b
decides False b = is_false b
decides Undecided b = is_undecided b
decides Absent b = is_null b
decides Present b = not (is_null b)
decides Invalid b = is_invalid b
decides (Equal v) b = is_true (equality v b)
decides All b = true
decides Nothing b = false

-- a batch of elements: those whose bodies are so, of which no more than that number are shown
pub record Batch : Type 0 where
  pub which : Deciding
  pub most : ℕ

abbrev pub batch_of : declared_batch.Batch → Batch
batch_of g = record { which = deciding_of g.which; most = g.most }

-- as many as are shown of those that decide
abbrev pub deciding_batch : Deciding → Batch
deciding_batch d = record { which = d; most = max_shown }

-- as many as are shown of those of which none stands out
abbrev pub beside_batch : Deciding → Batch
beside_batch d = record { which = d; most = max_beside }

-- one batch where a body is so, else another
abbrev pub where_any : Deciding → Batch → Batch → List Value → Batch
where_any d g h bs = if list_any (decides d) bs then g else h

-- another batch, unless a body is undecided
abbrev pub unless_undecided : Batch → List Value → Batch
unless_undecided g bs = where_any Undecided (deciding_batch Undecided) g bs

-- the elements whose bodies are equal to the first body that a later one is equal to, else some of all
abbrev pub repeated_batch : List Value → Batch
repeated_batch [] = beside_batch All
repeated_batch (b ∷ bs) = if list_any (decides (Equal b)) bs then deciding_batch (Equal b) else repeated_batch bs

-- the first batch that is shown of an iteration: the elements that decide, else some of all
abbrev pub deciding : Iteration → List Value → Batch
deciding iteration.ForAll bs = where_any False (deciding_batch False) (unless_undecided (beside_batch All) bs) bs
deciding iteration.Exists bs =
    where_any True (record { which = True; most = 1 }) (unless_undecided (beside_batch All) bs) bs
deciding iteration.One bs = unless_undecided (where_any True (deciding_batch True) (beside_batch All) bs) bs
deciding iteration.Select bs = unless_undecided (deciding_batch True) bs
deciding iteration.Reject bs = unless_undecided (deciding_batch False) bs
deciding iteration.Collect bs =
    where_any Invalid (deciding_batch Invalid) (where_any Absent (deciding_batch Absent) (deciding_batch All) bs) bs
deciding iteration.CollectFlat bs = where_any Invalid (deciding_batch Invalid) (deciding_batch All) bs
deciding (iteration.IsUnique k) bs = where_any Invalid (deciding_batch Invalid) (repeated_batch bs) bs

-- no batch
abbrev pub no_batch : Batch
no_batch = record { which = Nothing; most = 0 }

-- the second batch: of `select` and `reject` the elements that aren't kept, of `collect` those that aren't null beside those that are
abbrev pub beside : Iteration → List Value → Batch
beside iteration.Select bs = where_any Undecided no_batch (beside_batch False) bs
beside iteration.Reject bs = where_any Undecided no_batch (beside_batch True) bs
beside iteration.Collect bs = where_any Invalid no_batch (where_any Absent (beside_batch Present) no_batch bs) bs
beside i bs = no_batch

-- an element that is to be kept, in a list
abbrev pub kept_element : Bool → Element → List Element
kept_element keep e = if keep then e ∷ [] else []

-- how many more there are, where there are more
abbrev pub more_line : ℕ → ℕ → List ℕ
more_line k n = if n == 0 then [] else (indent k ++ (codes "and " ++ (decimal n ++ codes " more\n")))

-- the lines of elements, of which no more than that number are shown
abbrev pub deciding_lines : (Element → List ℕ) → ℕ → ℕ → List Element → List ℕ
deciding_lines show k most es = flat_map show (take most es) ++ more_line k (length es - most)

-- the lines of a batch, by what the body gives for each element
abbrev pub batch_lines : (Element → List ℕ) → ℕ → Batch → List Element → List Value → List ℕ
batch_lines show k g es bs = deciding_lines show k g.most (kept_by (decides g.which) es bs)

-- the lines of an iteration over a collection, by what its body gives for each element
abbrev pub iteration_lines : Iteration → (Element → List ℕ) → (Element → Value) → ℕ → Value → List ℕ
iteration_lines i show body k (value.Collection c es) =
    batch_lines show k (deciding i (map body es)) es (map body es) ++ batch_lines show k (beside i (map body es)) es (map body es)
iteration_lines i show body k v = []

-- the lines of turns of a fold, each with what is accumulated before it, and how many more turns there are
unfoldable pub turns_lines : (Element → Value → List ℕ) → ℕ → List Turn → List ℕ
turns_lines show k ts =
    flat_map (λ t. show t.element t.before) (told_turns ts) ++ more_line k (length ts - length (told_turns ts))

-- the lines of a fold over a collection, from what is accumulated at its start
abbrev pub accumulation_lines : (Element → Value → List ℕ) → (Element → Value → Value) → ℕ → Value → Value → List ℕ
accumulation_lines show next k start (value.Collection c es) = turns_lines show k (turns_from 0 next start es)
accumulation_lines show next k start v = []

-- ---- parts

-- the lines of the branch that is chosen
abbrev pub chosen_lines : Value → List ℕ → List ℕ → List ℕ
chosen_lines condition first second = if is_true condition then first else (if is_false condition then second else [])

module _ (p : Population) where
  -- a part, by what it means
  abbrev pub valued_part : CoreTree → ℕ → List Value → Naming → List ℕ → List ℕ
  valued_part t k vars s reason = part_line k (text_of p.model t s) (value_text p (meaning p t vars)) reason

  -- the variable that is bound next
  abbrev pub next_line : ℕ → Naming → Value → List ℕ
  next_line k s v = binding_line k (next_name s) (introduced_text p v)

  -- the two that a fold binds next
  abbrev pub step_line : ℕ → Naming → Element → Value → List ℕ
  step_line k s e a = bindings_line k (next_name s) (next_name (with_next s)) (introduced_text p (element_value e)) (introduced_text p a)

  -- the parts of a tree at a level, and below it; constants and variables stand in the text of what they are in
  abbrev mutual
    pub explained : CoreTree → ℕ → List Value → Naming → List ℕ
    explained (tree.Value c) k vars s = []
    explained (tree.Variable n) k vars s = []
    explained (tree.AllInstances c) k vars s = valued_part (tree.AllInstances c) k vars s []
    explained (tree.Feature source f) k vars s =
        valued_part (tree.Feature source f) k vars s (feature_reason p f (meaning p source vars) (meaning p (tree.Feature source f) vars))
        ++ explained source (suc k) vars s
    explained (tree.Operation operator first others) k vars s =
        valued_part (tree.Operation operator first others) k vars s (operation_reason p operator (meaning p first vars) (meanings p others vars) (meaning p (tree.Operation operator first others) vars))
        ++ (lines_if (is_first_shown operator (meaning p first vars) (meanings p others vars)) (explained first (suc k) vars s)
        ++ lines_if (are_others_shown operator (meaning p first vars)) (all_explained others (suc k) vars (past first s)))
    explained (tree.AsCollection c kind source) k vars s =
        valued_part (tree.AsCollection c kind source) k vars s [] ++ explained source (suc k) vars s
    explained (tree.Iterate i source body) k vars s =
        valued_part (tree.Iterate i source body) k vars s []
        ++ (explained source (suc k) vars s
        ++ iteration_lines i
        (λ e. next_line (suc k) (past source s) (element_value e) ++ explained body (suc (suc k)) (element_value e ∷ vars) (with_next (past source s)))
        (λ e. meaning p body (element_value e ∷ vars))
        (suc k) (meaning p source vars))
    explained (tree.Fold kind source start body) k vars s =
        valued_part (tree.Fold kind source start body) k vars s []
        ++ (explained source (suc k) vars s
        ++ (explained start (suc k) vars (past source s)
        ++ accumulation_lines
        (λ e a. step_line (suc k) (past start (past source s)) e a ++ explained body (suc (suc k)) (a ∷ element_value e ∷ vars) (with_next (with_next (past start (past source s)))))
        (λ e a. meaning p body (a ∷ element_value e ∷ vars))
        (suc k) (meaning p start vars) (meaning p source vars)))
    explained (tree.Let value body) k vars s =
        valued_part (tree.Let value body) k vars s []
        ++ ((next_line (suc k) (past value s) (meaning p value vars) ++ explained value (suc (suc k)) vars s)
        ++ explained body (suc k) (meaning p value vars ∷ vars) (with_next (past value s)))
    explained (tree.If kind condition first second) k vars s =
        valued_part (tree.If kind condition first second) k vars s (choice_reason (meaning p condition vars))
        ++ (explained condition (suc k) vars s
        ++ chosen_lines (meaning p condition vars) (explained first (suc k) vars (past condition s)) (explained second (suc k) vars (past first (past condition s))))

    pub all_explained : CoreTrees → ℕ → List Value → Naming → List ℕ
    all_explained tree.no_core k vars s = []
    all_explained (tree.one_core first rest) k vars s = explained first k vars s ++ all_explained rest k vars (past first s)

-- ---- verdicts

abbrev pub verdict_word : Verdict → List ℕ
verdict_word verdict.Holds = codes "holds"
verdict_word verdict.Fails = codes "fails"
verdict_word verdict.Undecided = codes "is undecided"

-- an object by its id and its class
abbrev pub judged_object : Population → ℕ → List ℕ
judged_object p o = (object_at p o).id ++ (codes " : " ++ (class_at p.model (class_of p o)).name)

-- the first line: the verdict that the report has
abbrev pub verdict_line : Population → CheckedRule → ℕ → List ℕ
verdict_line p r o =
    codes "rule " ++ (r.name ++ (32 ∷ (verdict_word (meant_verdict p r o) ++ (codes " for " ++ (judged_object p o ++ 10 ∷ [])))))

-- the verdict, and why, with names of variables that the rule's text gives
abbrev pub named_explanation : Population → CheckedRule → List (List ℕ) → ℕ → List ℕ
named_explanation p r names o = verdict_line p r o ++ explained p r.tree 1 (object_value o ∷ []) (naming_of names)

-- and of a rule whose variables no text names
abbrev pub explanation : Population → CheckedRule → ℕ → List ℕ
explanation p r o = named_explanation p r [] o
