use Rattle.std.proofs.Common.{◌-◌}
use Rattle.imkl_model.proofs.SortedTexts.{IsNarrowed}
use Rattle.imkl_model.proofs.sorted_texts.count_before.Given as goal

abbrev pub invariant-loop-low : goal.invariant-loop-low
invariant-loop-low l = IsNarrowed l.sorted l.name l.low l.high

abbrev pub decreases-loop-low : goal.decreases-loop-low
decreases-loop-low l = l.high - l.low
