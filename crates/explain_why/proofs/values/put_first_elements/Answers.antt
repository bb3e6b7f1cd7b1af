use Rattle.std.proofs.Common.{refl}
use Rattle.std.proofs.lemmas.Result.{on_ok_weaker}
use Rattle.owned_values.specs.Meant.{meant_elements}
use Rattle.explain_why.specs.Values.{elements_text, more_text}
use Rattle.explain_why.proofs.Left.{first_there}
use Rattle.explain_why.proofs.PartNodes.{shown_lines, two_put}
use Rattle.explain_why.proofs.values.put_first_elements.Goals as goal

pub put_elements-requires : goal.put_elements-requires
put_elements-requires c = first_there c.args.population.now.content c.args.elements.now c.min-shown.result c.requires

pub returns : goal.returns
returns c =
    let whole = shown_lines (elements_text c.args.population.now.content 0) more_text c.args.most c.min-shown.result c.args.elements.now (meant_elements c.args.elements.now) refl c.min-shown.ensures in
    on_ok_weaker c.put_more_elements.result (λ h. two_put _ _ _ _ _ _ c.in_ok-put_elements.ensures h whole) c.put_more_elements.ensures
