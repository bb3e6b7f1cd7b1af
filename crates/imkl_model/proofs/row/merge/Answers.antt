use Rattle.std.proofs.Common.{◌≡◌, ◌∙◌, get_or, arith, inl, inr, refl}
use Rattle.std.proofs.lemmas.Bool.Decides.{leb_tells}
use Rattle.std.proofs.lemmas.List.{get_or_past}
use Rattle.imkl_model.proofs.Marks.{is_marked-merged}
use Rattle.imkl_model.proofs.row.merge.Goals as goal

pub returns-clause-marks : goal.returns-clause-marks
returns-clause-marks c =
    let ws = c.args.words.now.items in
    let vs = c.args.more.now.items in
    let us = c.loop-i.words.items in
    is_marked-merged ws vs us (λ k. elim (leb_tells c.loop-i.i k) [
      | inl le ↦
          let old : get_or ws k 0 ≡ 0 = get_or_past ws k 0 (omega (arith, le.1)) in
          let more : get_or vs k 0 ≡ 0 = get_or_past vs k 0 (omega (arith, le.1)) in
          c.loop-i.invariant.left k le.1 ∙ rw (old, more) refl
      | inr less ↦ c.loop-i.invariant.joined k less.1
    ])
