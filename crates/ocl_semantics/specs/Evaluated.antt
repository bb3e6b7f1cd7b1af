-- What the topmost node of a tree makes of the value of its first operand, and a chain of nodes of one value.
use Rattle.std.specs.Prelude.{List, [], ◌∷◌, fold}
use Rattle.std.specs.List.{AllByRecursion}
use Rattle.imkl_model.specs.ClassModel.{Model}
use Rattle.imkl_population.specs.Population.{Population}
use Rattle.ocl_core.specs.declared.core_tree.CoreLink.{CoreLink}
use Rattle.ocl_core.specs.Core as tree
use Rattle.ocl_core.specs.Core.{CoreTree}
use Rattle.ocl_core.specs.CoreView.{core_link_of}
use Rattle.ocl_semantics.specs.Meaning.{operation_value, iterated, folded, meaning, meanings}
use Rattle.ocl_semantics.specs.Resolved.{IsResolved}
use Rattle.rule_values.specs.Value.{Value, element_value}
use Rattle.rule_values.specs.Operations.{or_invalid, value_read, as_collection}

-- a link as a node on some first operand
abbrev pub on_null : CoreLink → CoreTree
on_null link = core_link_of link (tree.Value tree.Null)

module _ (p : Population) (vars : List Value) where
  -- a node, its first operand having this value
  abbrev pub node_value : CoreTree → Value → Value
  node_value (tree.Feature source f) v = or_invalid (value_read p f v)
  node_value (tree.Operation operator first others) v = operation_value p operator v (meanings p others vars)
  node_value (tree.AsCollection c k source) v = as_collection c v
  node_value (tree.Iterate i source body) v = iterated i v (λ e. meaning p body (element_value e ∷ vars))
  node_value (tree.Fold k source start body) v = folded v (meaning p start vars) (λ e a. meaning p body (a ∷ element_value e ∷ vars))
  node_value t v = v

  -- a link, applied to a value
  abbrev pub link_value : Value → CoreLink → Value
  link_value v link = node_value (on_null link) v

  -- links one after another
  abbrev pub links_value : Value → List CoreLink → Value
  links_value v links = fold link_value v links

-- variables in which these values are bound, each seen by those after it
abbrev pub bindings : Population → List CoreTree → List Value → List Value
bindings p [] vars = vars
bindings p (v ∷ vs) vars = bindings p vs (meaning p v vars ∷ vars)

abbrev pub IsLinkResolved : Model → CoreLink → Type 0
IsLinkResolved m link = IsResolved m (on_null link)

abbrev pub AreLinksResolved : Model → List CoreLink → Type 0
AreLinksResolved m links = AllByRecursion (IsLinkResolved m) links
