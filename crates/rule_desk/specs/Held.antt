-- How a desk holds its jobs.
use Rattle.std.specs.Prelude.{ℕ, List, map, Option, Some, None}
use Rattle.std.specs.Option.{option_map}
use Rattle.rule_desk.specs.Seen.{JobSeen, DeskSeen}

-- a job, and how many bytes its lines have room for
pub record JobHeld : Type 0 where
  pub job : JobSeen
  pub room : ℕ

abbrev pub job_held : JobSeen → ℕ → JobHeld
job_held j n = record { job = j; room = n }

abbrev pub job_in : JobHeld → JobSeen
job_in h = h.job

abbrev pub room_in : Option JobHeld → ℕ
room_in None = 0
room_in (Some h) = h.room

abbrev pub desk_seen : List (Option JobHeld) → DeskSeen
desk_seen hs = record { jobs = map (option_map job_in) hs; rooms = map room_in hs }
