-- Explanations in parts: of a link on what stands before it, of an element, of a variable, and of lists of them.
use Rattle.std.specs.Prelude.{ℕ, suc, ◌-◌, Bool, true, List, [], ◌∷◌, ◌++◌, map, take, drop}
use Rattle.imkl_population.specs.Population.{Population}
use Rattle.ocl_core.specs.declared.core_tree.CoreLink.{CoreLink}
use Rattle.ocl_core.specs.Core as tree
use Rattle.ocl_core.specs.Core.{CoreTree, lets_of}
use Rattle.ocl_core.specs.CoreView.{core_link_of, core_spine}
use Rattle.rule_values.specs.Value.{Element, Value, element_value}
use Rattle.ocl_semantics.specs.Meaning.{meaning, meanings}
use Rattle.ocl_semantics.specs.Evaluated.{on_null, link_value}
use Rattle.explain_why.specs.Names.{Naming, past, with_next}
use Rattle.explain_why.specs.Reasons.{operation_reason, feature_reason}
use Rattle.explain_why.specs.Explanation.{lines_if, is_first_shown, are_others_shown, iteration_lines, accumulation_lines, valued_part, next_line, step_line, explained, all_explained}

module _ (p : Population) where
  -- why what a node makes of the value of its first operand is null or invalid
  abbrev pub node_reason : CoreTree → List Value → Value → Value → List ℕ
  node_reason (tree.Feature source f) vars v gave = feature_reason p f v gave
  node_reason (tree.Operation operator first others) vars v gave = operation_reason p operator v (meanings p others vars) gave
  node_reason t vars v gave = []

  -- a link on a tree, with its value
  abbrev pub node_line : CoreLink → CoreTree → ℕ → List Value → Naming → List ℕ
  node_line link left k vars s =
      valued_part p (core_link_of link left) k vars s (node_reason (on_null link) vars (meaning p left vars) (meaning p (core_link_of link left) vars))

  -- an element with the parts of a body
  abbrev pub element_lines : CoreTree → ℕ → List Value → Naming → Element → List ℕ
  element_lines body k vars s e = next_line p k s (element_value e) ++ explained p body (suc k) (element_value e ∷ vars) (with_next s)

  -- an element and what is accumulated before it, with the parts of a body
  abbrev pub step_lines : CoreTree → ℕ → List Value → Naming → Element → Value → List ℕ
  step_lines body k vars s e a =
      step_line p k s e a ++ explained p body (suc k) (a ∷ element_value e ∷ vars) (with_next (with_next s))

  -- the parts of a node besides its first operand, which has this value, with the names that are known behind that
  abbrev pub rest_lines : CoreTree → ℕ → List Value → Naming → Value → List ℕ
  rest_lines (tree.Operation operator first others) k vars s v = lines_if (are_others_shown operator v) (all_explained p others k vars s)
  rest_lines (tree.Iterate i source body) k vars s v =
      iteration_lines i (element_lines body k vars s) (λ e. meaning p body (element_value e ∷ vars)) k v
  rest_lines (tree.Fold kind source start body) k vars s v =
      explained p start k vars s ++ accumulation_lines (step_lines body k vars (past start s)) (λ e a. meaning p body (a ∷ element_value e ∷ vars)) k (meaning p start vars) v
  rest_lines t k vars s v = []

  abbrev pub link_lines : CoreLink → ℕ → List Value → Naming → Value → List ℕ
  link_lines link k vars s v = rest_lines (on_null link) k vars s v

  -- and so of links one after another, each a level above the one before it
  abbrev pub links_lines : List CoreLink → ℕ → List Value → Naming → Value → List ℕ
  links_lines [] k vars s v = []
  links_lines (l ∷ ls) k vars s v = link_lines l k vars s v ++ links_lines ls (k - 1) vars (past (on_null l) s) (link_value p vars v l)

  -- whether a node's first operand, which has this value, is shown
  abbrev pub is_source_shown : CoreTree → List Value → Value → Bool
  is_source_shown (tree.Operation operator first others) vars v = is_first_shown operator v (meanings p others vars)
  is_source_shown t vars v = true

  -- links on a tree, up to a link and from there on: the parts of what stands before that link, and those of the links after it
  abbrev pub spine_lines : CoreTree → List CoreLink → List CoreLink → ℕ → List Value → Naming → List ℕ
  spine_lines first before after k vars s =
      explained p (core_spine first (map core_link_of before)) k vars s ++ links_lines after k vars (past (core_spine first (map core_link_of before)) s) (meaning p (core_spine first (map core_link_of before)) vars)

  -- what is left where the nodes from a link on are put: the first operand, where it is shown, and what else those links have
  abbrev pub below_lines : CoreTree → List CoreLink → ℕ → ℕ → Bool → List Value → Naming → List ℕ
  below_lines first links k from whole vars s =
      lines_if whole (explained p first k vars s) ++ links_lines (drop from links) k vars (past (core_spine first (map core_link_of (take from links))) s) (meaning p (core_spine first (map core_link_of (take from links))) vars)

  -- a variable that is bound to what a tree means, with the tree's parts
  abbrev pub let_value_lines : CoreTree → ℕ → List Value → Naming → List ℕ
  let_value_lines t k vars s = next_line p k (past t s) (meaning p t vars) ++ explained p t (suc k) vars s

  -- values as variables of a body, up to the body's own parts
  abbrev pub lets_lines : List CoreTree → CoreTree → ℕ → List Value → Naming → List ℕ
  lets_lines [] body k vars s = []
  lets_lines (w ∷ ws) body k vars s =
      valued_part p (lets_of (w ∷ ws) body) k vars s [] ++ (let_value_lines w (suc k) vars s ++ lets_lines ws body (suc k) (meaning p w vars ∷ vars) (with_next (past w s)))
