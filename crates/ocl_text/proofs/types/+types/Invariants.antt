use Rattle.std.proofs.Common.{◌+◌, ◌*◌}
use Rattle.ocl_text.proofs.types.+types.Given as goal

abbrev pub decreases-a_type : goal.decreases-a_type
decreases-a_type l = 2 * l.depth

abbrev pub decreases-type_over : goal.decreases-type_over
decreases-type_over l = 2 * l.depth + 1
