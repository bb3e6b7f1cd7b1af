use Rattle.std.proofs.Common.{length}
use Rattle.imkl_model.specs.ClassModel.{is_named_in}
use Rattle.ocl_base.proofs.ForAbove.{places_below}
use Rattle.imkl_model.proofs.clash.group_meets.Goals as goal

pub meet_somewhere-requires-clause-numbers : goal.meet_somewhere-requires-clause-numbers
meet_somewhere-requires-clause-numbers c = rw (c.numbers-numbers.ensures, c.in-Some.ensures.numbers) (places_below (is_named_in c.args.features.now c.as_str.result.now) (length c.args.features.now))
