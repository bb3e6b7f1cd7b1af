-- What is replied to a script is decided by the charges, the costs and the lines of its one job.
use Rattle.std.proofs.Common.{◌≡◌, ◌∙◌, ℕ, zero, suc, ◌+◌, List, [], ◌∷◌, ◌++◌, length, map, sum, get_or, Option, Some, None, refl, sym, ap, option_map, if◌then◌else◌}
use Rattle.std.specs.Prelude.{slice_set, slice_index_or, nat_le}
use Rattle.std.proofs.lemmas.List.{map-append, map-set, length-map}
use Rattle.imkl_population.specs.Population.{Population}
use Rattle.rule_cost.specs.Admission.{Admission}
use Rattle.rule_desk.specs.declared.fault.DeskFault.TheVariants.{NoSuchJob}
use Rattle.rule_desk.specs.Seen.{JobSeen, job_seen}
use Rattle.rule_desk.specs.Job.{charges_of, costs_of, lines_at, greatest_total}
use Rattle.rule_desk.specs.World.{Jobs, job_at, goes, says}
use Rattle.rule_desk.specs.World.Own.{Given, Left}
use Rattle.rule_desk.specs.World.DeskAnswer.{Number, PausedAt, OverAt, IsWithdrawn, WasOver}
use Rattle.desk_script.specs.declared.call.Call.{Call}
use Rattle.desk_script.specs.declared.call.Call.TheVariants.{Enter, Grant, Withdraw, Lines}
use Rattle.desk_replies.specs.Replies.{refused_desk, answer_line, lines_or_refusal, event_of, next_jobs, reply_to, replies_from, script_replies}

-- what decides the replies about a job
pub record Decided : Type 0 where
  pub charges : List ℕ
  pub costs : List ℕ
  pub lines : ℕ → List ℕ

-- ---- by what is spent of each job

abbrev given : Decided → ℕ → Option ℕ → Option ℕ
given w n None = None
given w n (Some s) = Some (greatest_total w.charges (s + n))

abbrev spent_after : Decided → Call → List (Option ℕ) → List (Option ℕ)
spent_after w Enter ss = ss ++ Some 0 ∷ []
spent_after w (Grant k n) ss = slice_set ss k (given w n (slice_index_or ss k None))
spent_after w (Withdraw k) ss = slice_set ss k None
spent_after w (Lines k) ss = ss

abbrev granted : Decided → ℕ → ℕ → Option ℕ → List ℕ
granted w k n None = refused_desk NoSuchJob
granted w k n (Some s) =
    answer_line k
    (if nat_le (sum w.costs) s then WasOver
    else (if nat_le (sum w.costs) (s + n) then OverAt (greatest_total w.charges (s + n)) else PausedAt (greatest_total w.charges (s + n))))

abbrev withdrawn : ℕ → Option ℕ → List ℕ
withdrawn k None = refused_desk NoSuchJob
withdrawn k (Some s) = answer_line k IsWithdrawn

abbrev looked : Decided → Option ℕ → List ℕ
looked w None = refused_desk NoSuchJob
looked w (Some s) = w.lines s

abbrev reply_by : Decided → Call → List (Option ℕ) → List ℕ
reply_by w Enter ss = answer_line (length ss) (Number (length ss))
reply_by w (Grant k n) ss = granted w k n (slice_index_or ss k None)
reply_by w (Withdraw k) ss = withdrawn k (slice_index_or ss k None)
reply_by w (Lines k) ss = looked w (slice_index_or ss k None)

-- what is replied to calls, by what is spent of the jobs before them
abbrev pub replies_by : Decided → List Call → List (Option ℕ) → List ℕ
replies_by w [] ss = []
replies_by w (c ∷ cs) ss = reply_by w c ss ++ replies_by w cs (spent_after w c ss)

-- ---- the jobs of which that is spent

mapped_at : {X Y : Type 0} (f : X → Y) (xs : List X) (none : X) (k : ℕ) → get_or (map f xs) k (f none) ≡ f (get_or xs k none)
mapped_at f [] none k = refl
mapped_at f (x ∷ xs) none zero = refl
mapped_at f (x ∷ xs) none (suc k) = mapped_at f xs none k

module _ (a : Admission) (p : Population) where
  abbrev decided : Decided
  decided = record { charges = charges_of a.resolved.unit p; costs = costs_of a.resolved.unit p; lines = lines_at a.resolved.unit p }

  abbrev job : Option ℕ → Option JobSeen
  job o = option_map (job_seen a p) o

  abbrev jobs : List (Option ℕ) → Jobs
  jobs ss = map job ss

  job_is : (ss : List (Option ℕ)) (k : ℕ) → job_at (jobs ss) k ≡ job (slice_index_or ss k None)
  job_is ss k = mapped_at job ss None k

  -- ---- one call

  says_given : (k n : ℕ) (o : Option ℕ) → answer_line k (says (Given n) (job o)) ≡ granted decided k n o
  says_given k n None = refl
  says_given k n (Some s) = refl

  says_left : (k : ℕ) (o : Option ℕ) → answer_line k (says Left (job o)) ≡ withdrawn k o
  says_left k None = refl
  says_left k (Some s) = refl

  shows : (o : Option ℕ) → lines_or_refusal (job o) ≡ looked decided o
  shows None = refl
  shows (Some s) = refl

  replied : (c : Call) (ss : List (Option ℕ)) → reply_to a p c (jobs ss) ≡ reply_by decided c ss
  replied Enter ss = ap (λ (n : ℕ). answer_line n (Number n)) (length-map ss job)
  replied (Grant k n) ss = ap (λ (o : Option JobSeen). answer_line k (says (Given n) o)) (job_is ss k) ∙ says_given k n (slice_index_or ss k None)
  replied (Withdraw k) ss = ap (λ (o : Option JobSeen). answer_line k (says Left o)) (job_is ss k) ∙ says_left k (slice_index_or ss k None)
  replied (Lines k) ss = ap lines_or_refusal (job_is ss k) ∙ shows (slice_index_or ss k None)

  goes_given : (n : ℕ) (o : Option ℕ) → goes (Given n) (job o) ≡ job (given decided n o)
  goes_given n None = refl
  goes_given n (Some s) = refl

  goes_left : (o : Option ℕ) → goes Left (job o) ≡ None
  goes_left None = refl
  goes_left (Some s) = refl

  moved : (c : Call) (ss : List (Option ℕ)) → next_jobs (event_of a p c) (jobs ss) ≡ jobs (spent_after decided c ss)
  moved Enter ss = sym (map-append job ss (Some 0 ∷ []))
  moved (Grant k n) ss =
      ap (λ (o : Option JobSeen). slice_set (jobs ss) k (goes (Given n) o)) (job_is ss k)
      ∙ ap (slice_set (jobs ss) k) (goes_given n (slice_index_or ss k None)) ∙ sym (map-set job ss k (given decided n (slice_index_or ss k None)))
  moved (Withdraw k) ss =
      ap (λ (o : Option JobSeen). slice_set (jobs ss) k (goes Left o)) (job_is ss k)
      ∙ ap (slice_set (jobs ss) k) (goes_left (slice_index_or ss k None)) ∙ sym (map-set job ss k None)
  moved (Lines k) ss = refl

  -- ---- scripts

  replied_on : (cs : List Call) (ss : List (Option ℕ)) → replies_from a p cs (jobs ss) ≡ replies_by decided cs ss
  replied_on [] ss = refl
  replied_on (c ∷ cs) ss =
      λ j. replied c ss j ++ (ap (replies_from a p cs) (moved c ss) ∙ replied_on cs (spent_after decided c ss)) j

  -- the replies to a script are by what decides them of its job
  pub script_is : (cs : List Call) → script_replies a p cs ≡ replies_by decided cs []
  script_is cs = replied_on cs []

-- scripts of two jobs of which the same is decided have the same replies
pub scripts_alike : (a b : Admission) (p q : Population) (cs : List Call) → charges_of b.resolved.unit q ≡ charges_of a.resolved.unit p
    → costs_of b.resolved.unit q ≡ costs_of a.resolved.unit p → lines_at b.resolved.unit q ≡ lines_at a.resolved.unit p
    → script_replies b q cs ≡ script_replies a p cs
scripts_alike a b p q cs charges costs lines =
    script_is b q cs ∙ (λ j. replies_by (record { charges = charges j; costs = costs j; lines = lines j }) cs []) ∙ sym (script_is a p cs)
