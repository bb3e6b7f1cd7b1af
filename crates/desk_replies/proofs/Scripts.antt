-- Scripts as lists of events.
use Rattle.std.proofs.Common.{◌≡◌, ℕ, ◌+◌, List, [], ◌∷◌, ◌++◌, Some, refl, ap, ◌∙◌, subst}
use Rattle.imkl_population.specs.Population.{Population}
use Rattle.rule_cost.specs.Admission.{Admission}
use Rattle.rule_desk.specs.Seen.{job_seen}
use Rattle.rule_desk.specs.Laws.{EachJobFromItsEntry}
use Rattle.rule_desk.specs.World.{Own, Event, Jobs, job_at, next, after, own, entries, goes_on, says}
use Rattle.rule_desk.specs.World.Own.{Given, Left}
use Rattle.rule_desk.specs.World.Event.{Entered, To}
use Rattle.desk_script.specs.declared.call.Call.{Call}
use Rattle.desk_script.specs.declared.call.Call.TheVariants.{Enter, Grant, Withdraw, Lines}
use Rattle.desk_replies.specs.Replies.{answer_line, lines_or_refusal, jobs_after, reply_to}
use Rattle.desk_replies.specs.Alone.{ScriptsAreWorlds, EachJobOfAScriptAlone, events_of, jobs_entered, own_calls, own_if, IsOnJob, job_reply}

-- the jobs of a script are those of its events
jobs_are : (a : Admission) (p : Population) (cs : List Call) (d : Jobs) → jobs_after a p cs d ≡ after (events_of a p cs) d
jobs_are a p [] d = refl
jobs_are a p (Enter ∷ cs) d = jobs_are a p cs (next (Entered a p) d)
jobs_are a p (Grant k n ∷ cs) d = jobs_are a p cs (next (To k (Given n)) d)
jobs_are a p (Withdraw k ∷ cs) d = jobs_are a p cs (next (To k Left) d)
jobs_are a p (Lines k ∷ cs) d = jobs_are a p cs d

-- the jobs of a script are what its events make of them, and each may come where it does
pub worlds : ScriptsAreWorlds
worlds a p [] d admission fits = (refl, tt)
worlds a p (Enter ∷ cs) d admission fits = let h = worlds a p cs (next (Entered a p) d) admission fits in (h.0, ((admission, fits), h.1))
worlds a p (Grant k n ∷ cs) d admission fits = let h = worlds a p cs (next (To k (Given n)) d) admission fits in (h.0, (tt, h.1))
worlds a p (Withdraw k ∷ cs) d admission fits = let h = worlds a p cs (next (To k Left) d) admission fits in (h.0, (tt, h.1))
worlds a p (Lines k ∷ cs) d admission fits = worlds a p cs d admission fits

-- the events of a script round an entry
events_round : (a : Admission) (p : Population) (cs ds : List Call) → events_of a p (cs ++ Enter ∷ ds) ≡ events_of a p cs ++ Entered a p ∷ events_of a p ds
events_round a p [] ds = refl
events_round a p (Enter ∷ cs) ds = ap (λ (es : List Event). Entered a p ∷ es) (events_round a p cs ds)
events_round a p (Grant k n ∷ cs) ds = ap (λ (es : List Event). To k (Given n) ∷ es) (events_round a p cs ds)
events_round a p (Withdraw k ∷ cs) ds = ap (λ (es : List Event). To k Left ∷ es) (events_round a p cs ds)
events_round a p (Lines k ∷ cs) ds = events_round a p cs ds

-- each entry of a script is one of its events
entries_are : (a : Admission) (p : Population) (cs : List Call) → entries (events_of a p cs) ≡ jobs_entered cs
entries_are a p [] = refl
entries_are a p (Enter ∷ cs) = ap (λ (n : ℕ). 1 + n) (entries_are a p cs)
entries_are a p (Grant k n ∷ cs) = entries_are a p cs
entries_are a p (Withdraw k ∷ cs) = entries_are a p cs
entries_are a p (Lines k ∷ cs) = entries_are a p cs

-- the events of a job are its own calls
own_are : (a : Admission) (p : Population) (k : ℕ) (cs : List Call) → own k (events_of a p cs) ≡ own_calls k cs
own_are a p k [] = refl
own_are a p k (Enter ∷ cs) = own_are a p k cs
own_are a p k (Grant i n ∷ cs) = ap (own_if k i (Given n)) (own_are a p k cs)
own_are a p k (Withdraw i ∷ cs) = ap (own_if k i Left) (own_are a p k cs)
own_are a p k (Lines i ∷ cs) = own_are a p k cs

-- a job of a script is what its own calls since its entry make it
job_is : EachJobFromItsEntry → (a : Admission) (p : Population) (cs ds : List Call)
    → job_at (jobs_after a p (cs ++ Enter ∷ ds) []) (jobs_entered cs) ≡ goes_on (own_calls (jobs_entered cs) ds) (Some (job_seen a p 0))
job_is law a p cs ds =
    let whole = jobs_are a p (cs ++ Enter ∷ ds) [] ∙ ap (λ (es : List Event). after es []) (events_round a p cs ds) in
    let alone = law (events_of a p cs) (events_of a p ds) a p in
    let at = subst (λ (k : ℕ). job_at (after (events_of a p cs ++ Entered a p ∷ events_of a p ds) []) k ≡ goes_on (own k (events_of a p ds)) (Some (job_seen a p 0))) (entries_are a p cs) alone in
    ap (λ (d : Jobs). job_at d (jobs_entered cs)) whole ∙ at ∙ ap (λ (os : List Own). goes_on os (Some (job_seen a p 0))) (own_are a p (jobs_entered cs) ds)

-- a reply to a call on a job, by that job
replied : (a : Admission) (p : Population) (c : Call) (d : Jobs) (k : ℕ) → IsOnJob k c → reply_to a p c d ≡ job_reply c (job_at d k)
replied a p Enter d k on = absurd on
replied a p (Grant i n) d k on = ap (λ (j : ℕ). answer_line i (says (Given n) (job_at d j))) on
replied a p (Withdraw i) d k on = ap (λ (j : ℕ). answer_line i (says Left (job_at d j))) on
replied a p (Lines i) d k on = ap (λ (j : ℕ). lines_or_refusal (job_at d j)) on

-- what is replied of a job is replied by its own calls alone
pub alone : EachJobFromItsEntry → EachJobOfAScriptAlone
alone law a p cs ds c on =
    replied a p c (jobs_after a p (cs ++ Enter ∷ ds) []) (jobs_entered cs) on ∙ ap (job_reply c) (job_is law a p cs ds)
