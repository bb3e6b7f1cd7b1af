use Rattle.std.proofs.Common.{◌≡◌, ◌-◌, length, take, ap, ◌∙◌, arith}
use Rattle.std.specs.Str.{chars}
use Rattle.owned_values.proofs.Characters.{boundary_before, chars_before}
use Rattle.owned_values.proofs.texts.first.Goals as goal

-- src/texts.rt
pub range-requires-clause-end_boundary : goal.range-requires-clause-end_boundary
range-requires-clause-end_boundary c = boundary_before c.args.text.now c.after-left.result.now c.after-left.ensures.suffix

pub returns : goal.returns
returns c =
    let width = length c.args.text.now - length c.after-left.result.now in
    let whole : width - 0 ≡ width = omega arith in
    ap chars c.range.ensures.value ∙ ap (λ k. chars (take k c.args.text.now)) whole
    ∙ chars_before c.args.text.now c.after-left.result.now c.args.count c.utf8.text c.after-left.ensures.suffix c.after-left.ensures.left
