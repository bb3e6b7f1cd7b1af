use Rattle.std.proofs.Common.{◌≡◌, length}
use Rattle.imkl_model.specs.Groups.{model_with}
use Rattle.imkl_model.proofs.ClashWalks.{IsWalked}
use Rattle.imkl_model.proofs.clash.meet_somewhere.Given as goal

abbrev pub invariant-loop-number : goal.invariant-loop-number
invariant-loop-number l = record {
  owners_long : length l.owners ≡ length l.classes;
  taken_long : length l.taken ≡ length l.classes;
  walked : IsWalked (model_with l.classes l.features) l.numbers l.number-index l.owners l.taken;
}
