-- What a call of a desk did, as an event of its world.
use Rattle.std.proofs.Common.{◌≡◌, ℕ, List, ◌++◌, Option, Some, None, Result, Ok, Err, OnOk, refl, sym, ap, ◌∙◌, subst}
use Rattle.std.proofs.lemmas.Result.{on_ok_weaker}
use Rattle.rule_desk.specs.declared.job.JobReply.{JobReply}
use Rattle.rule_desk.specs.declared.job.JobReply.TheVariants.{Paused, Over}
use Rattle.rule_desk.specs.declared.fault.DeskFault.{DeskFault}
use Rattle.rule_desk.specs.declared.fault.DeskFault.TheVariants.{NoSuchJob, JobOver, OutOfMemory}
use Rattle.imkl_population.specs.Population.{Population}
use Rattle.rule_cost.specs.Admission.{Admission}
use Rattle.rule_desk.specs.Seen.{JobSeen}
use Rattle.rule_desk.specs.World.{Own, DeskAnswer, Jobs, job_at, next, answer, says, MayLeave}
use Rattle.rule_desk.specs.World.Own.{Given, GivenRefused, Left}
use Rattle.rule_desk.specs.World.Event.{To}
use Rattle.rule_desk.specs.World.DeskAnswer.{PausedAt, OverAt, NoJob, WasOver, NoMemory}
use Rattle.rule_desk.specs.Calls.{IsGranted}
use Rattle.rule_desk.specs.Events.{spent_of, fault_answer, grant_answer, IsGive, GrantsAreEvents}
use Rattle.desk_script.specs.declared.call.Call.{Call}
use Rattle.desk_script.specs.declared.call.Call.TheVariants.{Grant, Lines}
use Rattle.desk_replies.specs.Replies.{answer_line, lines_or_refusal}
use Rattle.desk_replies.specs.Told.{IsReplied, IsRepliedAnyway}

-- a grant that isn't answered for memory wasn't refused for it
given : (q : Option JobSeen) (o : Own) (n : ℕ) (x : DeskAnswer) → IsGive n o → MayLeave o q → x ≡ says o q → (x ≡ NoMemory → ⊥) → o ≡ Given n
given q (Given m) n x give may said other = ap (λ (i : ℕ). Given i) give
given None (GivenRefused m left) n x give may said other = absurd may
given (Some j) (GivenRefused m left) n x give may said other = absurd (other said)
given q Left n x give may said other = absurd give

-- a grant that isn't refused for memory isn't answered so
remembered : (r : Result JobReply DeskFault) (q : Option JobSeen) → (r ≡ Err OutOfMemory → ⊥) → grant_answer r q ≡ NoMemory → ⊥
remembered (Ok Paused) q other e = let no : PausedAt (spent_of q) ≡ NoMemory = e in cc
remembered (Ok Over) q other e = let no : OverAt (spent_of q) ≡ NoMemory = e in cc
remembered (Err NoSuchJob) q other e = let no : NoJob ≡ NoMemory = e in cc
remembered (Err JobOver) q other e = let no : WasOver ≡ NoMemory = e in cc
remembered (Err OutOfMemory) q other e = other refl

-- a grant that isn't refused for memory is that event, and is answered as the world says
pub granted : GrantsAreEvents → (old new : Jobs) (k n : ℕ) (r : Result JobReply DeskFault) → IsGranted old k n r new → (r ≡ Err OutOfMemory → ⊥)
    → (new ≡ next (To k (Given n)) old) × (grant_answer r (job_at new k) ≡ answer (To k (Given n)) old)
granted law old new k n r h other =
    let e = law old new k n r h in
    let is = given (job_at old k) e.0 n (grant_answer r (job_at new k)) e.1 e.2.may_come e.2.answered (remembered r (job_at new k) other) in (
      subst (λ (o : Own). new ≡ next (To k o) old) is e.2.moves,
      subst (λ (o : Own). grant_answer r (job_at new k) ≡ says o (job_at old k)) is e.2.answered,
    )

-- a grant's line is appended
pub grant_replied : (old new : Jobs) (k n : ℕ) (r : Result JobReply DeskFault) (before after line : List ℕ)
    → (new ≡ next (To k (Given n)) old) × (grant_answer r (job_at new k) ≡ answer (To k (Given n)) old)
    → line ≡ answer_line k (grant_answer r (job_at new k)) → after ≡ before ++ line → IsRepliedAnyway (Grant k n) old new before after
grant_replied old new k n r before after line did said appended = λ a p. record {
  jobs = did.0;
  text = appended ∙ ap (λ (l : List ℕ). before ++ l) (said ∙ ap (answer_line k) did.1);
}

-- there is no job whose lines could be told
pub no_lines : (d : Jobs) (k : ℕ) (e : DeskFault) (before after line : List ℕ) → job_at d k ≡ None → e ≡ NoSuchJob
    → line ≡ answer_line k (fault_answer e) → after ≡ before ++ line → IsRepliedAnyway (Lines k) d d before after
no_lines d k e before after line none fault said appended = λ a p. record {
  jobs = refl;
  text = appended ∙ ap (λ (l : List ℕ). before ++ l) (said ∙ ap (λ (f : DeskFault). answer_line k (fault_answer f)) fault ∙ sym (ap lines_or_refusal none));
}

-- a call that enters no job, as one of any admission and population
pub as_any : {X E : Type 0} (r : Result X E) (a : Admission) (p : Population) (c made : Call) (old new : Jobs) (before after : List ℕ) → c ≡ made
    → OnOk r (IsRepliedAnyway made old new before after) → OnOk r (IsReplied a p c old new before after)
as_any r a p c made old new before after is h =
    on_ok_weaker r (λ (f : IsRepliedAnyway made old new before after). subst (λ (x : Call). IsReplied a p x old new before after) (sym is) (f a p)) h
