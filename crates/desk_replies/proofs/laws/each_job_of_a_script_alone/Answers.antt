use Rattle.desk_replies.proofs.Scripts.{alone}
use Rattle.desk_replies.proofs.laws.each_job_of_a_script_alone.Goals as goal

pub returns : goal.returns
returns c = alone c.each_job_from_its_entry.ensures
