-- What private contracts say of replies that are told one after another.
use Rattle.std.specs.Prelude.{◌≡◌, ℕ, List, ◌++◌}
use Rattle.imkl_population.specs.Population.{Population}
use Rattle.rule_cost.specs.Admission.{Admission}
use Rattle.rule_desk.specs.World.{Jobs}
use Rattle.desk_script.specs.declared.call.Call.{Call}
use Rattle.desk_replies.specs.Replies.{event_of, next_jobs, reply_to}

-- a call was made, and its reply appended
pub record IsReplied (a : Admission) (p : Population) (c : Call) (old new : Jobs) (before after : List ℕ) : Type 0 where
  pub jobs : new ≡ next_jobs (event_of a p c) old
  pub text : after ≡ before ++ reply_to a p c old

-- the same of a call that enters no job, whatever a job would be
abbrev pub IsRepliedAnyway : Call → Jobs → Jobs → List ℕ → List ℕ → Type 0
IsRepliedAnyway c old new before after = (a : Admission) (p : Population) → IsReplied a p c old new before after
