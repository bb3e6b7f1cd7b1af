use Rattle.std.proofs.Common.{map, is_ok, sym, ◌∙◌}
use Rattle.std.proofs.lemmas.List.Folds.{list_all-map}
use Rattle.serde_json.specs.View.{view}
use Rattle.imkl_model.specs.Shape.{name_from}
use Rattle.imkl_model.proofs.members.are_names.Goals as goal

pub returns-in-Some : goal.returns-in-Some
returns-in-Some c = rw (sym c.list_of.ensures, c.in-Some.is) (c.all_names.ensures ∙ sym (list_all-map (λ d. is_ok (name_from d)) view c.in-Some.values.now))
