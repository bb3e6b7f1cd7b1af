-- Texts in parts: of a link on what stands before it, and of values before the body that sees them.
use Rattle.std.specs.Prelude.{ℕ, Bool, true, List, [], ◌∷◌, ◌++◌, codes, string_bytes}
use Rattle.imkl_model.specs.ClassModel.{Model}
use Rattle.ocl_core.specs.declared.core_tree.CoreLink.{CoreLink}
use Rattle.ocl_core.specs.Core as tree
use Rattle.ocl_core.specs.Core.{CoreTree}
use Rattle.ocl_semantics.specs.Evaluated.{on_null}
use Rattle.explain_why.specs.declared.texts.Text.{Text}
use Rattle.explain_why.specs.Names.{Naming, next_name, past, with_next}
use Rattle.explain_why.specs.Texts.{operator_form, operator_word, class_asked, is_form_open, is_open, wrapped, feature_text, operation_text, conversion_text, iterate_text, fold_text, let_front, text_of, others_text}

-- a text with whether it stands in parentheses as an operand
abbrev pub written_text : Text → Bool × List ℕ
written_text t = (t.is_open, string_bytes t.text)

abbrev pub tree_text : Model → CoreTree → Naming → Bool × List ℕ
tree_text m t s = (is_open t, text_of m t s)

-- the variable of an iteration and its body, up to the parenthesis
abbrev pub body_text : Model → CoreTree → Naming → List ℕ
body_text m body s = next_name s ++ (codes " | " ++ (text_of m body (with_next s) ++ 41 ∷ []))

-- the body of a fold behind its start, up to the parenthesis
abbrev pub fold_body_text : Model → CoreTree → Naming → List ℕ
fold_body_text m body s = codes " | " ++ (text_of m body (with_next (with_next s)) ++ 41 ∷ [])

-- a node by the text of its first operand, with the names that are known behind that
abbrev pub node_text : Model → CoreTree → Naming → List ℕ → List ℕ
node_text m (tree.Feature source f) s first = feature_text m f first
node_text m (tree.Operation operator source others) s first =
    operation_text (operator_form operator) (operator_word operator) (class_asked m operator) first (others_text m (is_form_open (operator_form operator)) 0 others s)
node_text m (tree.AsCollection c k source) s first = conversion_text c first
node_text m (tree.Iterate i source body) s first = iterate_text i (next_name s) first (text_of m body (with_next s))
node_text m (tree.Fold k source start body) s first =
    fold_text (next_name (past start s)) (next_name (with_next (past start s))) first (text_of m start s) (text_of m body (with_next (with_next (past start s))))
node_text m t s first = first

-- a link on a text
abbrev pub link_text : Model → Naming → CoreLink → Bool × List ℕ → Bool × List ℕ
link_text m s link t = (is_open (on_null link), node_text m (on_null link) s (wrapped t.0 t.1))

-- links one after another on a text
abbrev pub links_text : Model → Naming → List CoreLink → Bool × List ℕ → Bool × List ℕ
links_text m s [] t = t
links_text m s (k ∷ ks) t = links_text m (past (on_null k) s) ks (link_text m s k t)

-- what stands before the body of values as variables
abbrev pub lets_front : Model → List CoreTree → Naming → List ℕ
lets_front m [] s = []
lets_front m (v ∷ vs) s = let_front (next_name (past v s)) (text_of m v s) ++ lets_front m vs (with_next (past v s))

-- whether values as variables of a body stand in parentheses as an operand, by whether the body does
abbrev pub are_lets_open : List CoreTree → Bool → Bool
are_lets_open [] b = b
are_lets_open (v ∷ vs) b = true
