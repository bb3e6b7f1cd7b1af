use Rattle.std.proofs.Common.{◌+◌, ◌-◌, ◌%◌, ◌/◌, ◌<◌, arith, inl, inr}
use Rattle.std.proofs.lemmas.Bool.Decides.{leb_tells}
use Rattle.imkl_model.proofs.Marks.{word_apart, one_word_on}
use Rattle.imkl_model.proofs.row.common.Goals as goal

pub loop-number-preserved-then-words-number-eq0 : goal.loop-number-preserved-then-words-number-eq0
loop-number-preserved-then-words-number-eq0 c = λ j lt.
    let n = c.loop-number.number in
    let below : j < n + (64 - n % 64) = omega (arith, lt, c.saturating_add-number.ensures) in
    elim (leb_tells n j) [
      | inl le ↦ word_apart c.args.words.now c.args.others.now (n / 64) j (one_word_on n j le.1 below) c.if-words-number-eq0.true
      | inr less ↦ c.loop-number.invariant j less.1
    ]
