use Rattle.std.proofs.Common.{ap, ◌∙◌, ◌++◌, map, string_bytes}
use Rattle.std.proofs.lemmas.Result.{on_ok_weaker}
use Rattle.ocl_core.specs.CoreView.{core_view, core_link_of, core_spine}
use Rattle.owned_values.specs.Meant.{meant}
use Rattle.explain_why.specs.NameWalk.{naming_view}
use Rattle.explain_why.specs.TextWalk.{written_text}
use Rattle.explain_why.proofs.PartNodes.{node_line_is}
use Rattle.explain_why.proofs.explainer.Explainer.put_node.Goals as goal

pub returns-clause-text : goal.returns-clause-text
returns-clause-text c =
    let left = core_spine (core_view c.args.first.now) (map core_link_of c.args.before.now) in
    let operand = rw c.model-model.ensures at c.in_ok-operand.ensures in
    let text = rw c.model-model.ensures at c.in_ok-text.ensures in
    let gave = rw c.in_ok-source.ensures.kept at c.in_ok-gave.ensures.value in
    let reason = rw (c.in_ok-gave.ensures.kept, c.in_ok-source.ensures.kept) at c.in_ok-reason.ensures.reason in
    let line = node_line_is c.args.self.population.now.content c.args.link.now left c.args.self.level c.args.variables.now (naming_view c.args.self.naming) (naming_view c.in_ok-behind.behind) (written_text c.in_ok-operand.operand) (written_text c.in_ok-text.text) (meant c.in_ok-source.source) (meant c.in_ok-gave.gave) (string_bytes c.in_ok-reason.reason) c.in_ok-behind.ensures operand text c.in_ok-source.ensures.value gave reason in
    let put = rw (c.deref.ensures, c.deref-2.ensures) at c.in_ok-put_part.ensures in
    on_ok_weaker c.is_source_shown.result (λ h. put ∙ ap (λ xs. string_bytes c.args.out.now ++ xs) line) c.is_source_shown.ensures.kept

pub returns-clause-shown : goal.returns-clause-shown
returns-clause-shown c =
    let after = rw (c.in_ok-reason.ensures.kept, c.in_ok-gave.ensures.kept, c.in_ok-source.ensures.kept, c.in_ok-source.ensures.value) at c.is_source_shown.ensures.shown in
    after
