-- The room that jobs have for their lines, and when a grant needs no memory.
use Rattle.std.specs.Prelude.{◌≡◌, ◌≢◌, ℕ, ◌<◌, ◌≤◌, false, length, Option, Some, None, Result, Ok, Err, slice_index_or}
use Rattle.rule_verify.specs.UnitRules.{unit_rule, takes_memory}
use Rattle.rule_report.specs.Report.{longest_report}
use Rattle.rule_desk.specs.declared.fault.DeskFault.{DeskFault}
use Rattle.rule_desk.specs.declared.fault.DeskFault.TheVariants.{NoSuchJob, OutOfMemory}
use Rattle.rule_desk.specs.Seen.{JobSeen, DeskSeen}

-- how many bytes of lines the job of a number has room for, those that it has included
abbrev pub room_at : DeskSeen → ℕ → ℕ
room_at d k = slice_index_or d.rooms k 0

-- no job's room gets smaller
abbrev pub KeepsRooms : DeskSeen → DeskSeen → Type 0
KeepsRooms old new = (k : ℕ) → room_at old k ≤ room_at new k

-- nor that of any job but one
abbrev pub KeepsOtherRooms : DeskSeen → ℕ → DeskSeen → Type 0
KeepsOtherRooms old k new = (i : ℕ) → i ≢ k → room_at old i ≤ room_at new i

-- how many bytes the report of a job can have
abbrev pub longest_lines : JobSeen → ℕ
longest_lines j = longest_report j.admission.resolved.unit j.population

-- no rule of its code takes memory
abbrev pub GathersNothing : JobSeen → Type 0
GathersNothing j = (r : ℕ) → r < length j.admission.resolved.unit.rules → takes_memory (unit_rule j.admission.resolved.unit r) ≡ false

-- a job needs no memory: there is room for its report, however long it gets, and its rules take none
abbrev pub NeedsNoMemory : JobSeen → ℕ → Type 0
NeedsNoMemory j room = GathersNothing j × (longest_lines j ≤ room)

-- nor is any needed where there is no job
abbrev pub NeedsNoneAt : Option JobSeen → ℕ → Type 0
NeedsNoneAt None room = Unit {0}
NeedsNoneAt (Some j) room = NeedsNoMemory j room

-- there is room for the report of a job, however long it gets; or memory ran out
abbrev pub IsReserved : Option JobSeen → ℕ → Result (Unit {0}) DeskFault → Type 0
IsReserved None room r = r ≡ Err NoSuchJob
IsReserved (Some j) room (Ok done) = longest_lines j ≤ room
IsReserved (Some j) room (Err e) = e ≡ OutOfMemory
