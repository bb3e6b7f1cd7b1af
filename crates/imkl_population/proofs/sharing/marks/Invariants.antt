use Rattle.std.proofs.Common.{◌≡◌, ◌<◌, ℕ, false, length, take, get_or}
use Rattle.imkl_population.specs.Required.{is_one_of}
use Rattle.imkl_population.proofs.sharing.marks.Given as goal

abbrev pub invariant-loop-class : goal.invariant-loop-class
invariant-loop-class l = record {
  so_long : length l.marks.items ≡ l.fn.count;
  each : (c : ℕ) → c < l.fn.count → get_or l.marks.items c false ≡ is_one_of (take l.class-index l.classes) c;
}
