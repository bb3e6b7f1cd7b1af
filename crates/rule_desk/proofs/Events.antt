-- Each call of a desk is an event of its world.
use Rattle.std.proofs.Common.{◌≡◌, ℕ, ◌+◌, ◌<◌, ◌≤◌, Bool, true, false, leb, length, Option, Some, None, Result, Ok, Err, refl, sym, ap, ◌∙◌, subst, arith, inl, inr, set, get_or-set_same, if◌then◌else◌}
use Rattle.std.proofs.lemmas.Bool.{cases_lt}
use Rattle.std.proofs.lemmas.Bool.Decides.{leb_tells}
use Rattle.std.proofs.lemmas.List.{set_past, get_or_past}
use Rattle.rule_desk.specs.declared.job.JobReply.{JobReply}
use Rattle.rule_desk.specs.declared.job.JobReply.TheVariants.{Paused, Over}
use Rattle.rule_desk.specs.declared.fault.DeskFault.{DeskFault}
use Rattle.rule_desk.specs.declared.fault.DeskFault.TheVariants.{NoSuchJob, JobOver, OutOfMemory}
use Rattle.rule_desk.specs.Seen.{JobSeen, job_seen}
use Rattle.rule_desk.specs.Job.{IsWhole, total_cost, spent_after}
use Rattle.rule_desk.proofs.Costs.{paid_all}
use Rattle.rule_desk.specs.World.{Own, Jobs, job_at, goes, says, MayLeave}
use Rattle.rule_desk.specs.World.Own.{Given, GivenRefused, Left}
use Rattle.rule_desk.specs.World.Event.{Entered, EnteredRefused}
use Rattle.rule_desk.specs.World.DeskAnswer.{Number, PausedAt, OverAt, WasOver}
use Rattle.rule_desk.specs.Calls.{SameJob, IsGrantedAt, IsGivenUp}
use Rattle.rule_desk.specs.Events.{grant_answer, withdraw_answer, IsGive, EntersAreEvents, GrantsAreEvents, WithdrawalsAreEvents}

pub enters : EntersAreEvents
enters old new a p (Ok k) admission fits h = (Entered a p, (refl, refl), record { may_come = (admission, fits); moves = h.1; answered = ap Number h.0 })
enters old new a p (Err OutOfMemory) admission fits h = (EnteredRefused a p, (refl, refl), record { may_come = (admission, fits); moves = h; answered = refl })
enters old new a p (Err NoSuchJob) admission fits h = absurd h
enters old new a p (Err JobOver) admission fits h = absurd h

leb_no : (a b : ℕ) → b < a → leb a b ≡ false
leb_no a b h = elim (leb_tells a b) [ inl t ↦ absurd (omega (arith, t.1, h)) | inr t ↦ t.0 ]

leb_yes : (a b : ℕ) → a ≤ b → leb a b ≡ true
leb_yes a b h = elim (leb_tells a b) [ inl t ↦ t.0 | inr t ↦ absurd (omega (arith, t.1, h)) ]

-- the same job with so many steps spent
is_job : (i j : JobSeen) (s : ℕ) → SameJob j i → i.spent ≡ s → Some i ≡ Some (job_seen j.admission j.population s)
is_job i j s same e =
    ap (λ a. Some (job_seen a i.population i.spent)) same.admission ∙ ap (λ p. Some (job_seen j.admission p i.spent)) same.population
    ∙ ap (λ t. Some (job_seen j.admission j.population t)) e

-- what is spent of it is the total of whole steps
whole_of : (i j : JobSeen) → SameJob j i → IsWhole i → IsWhole (job_seen j.admission j.population i.spent)
whole_of i j same whole = subst (λ a. IsWhole (job_seen a j.population i.spent)) same.admission (subst (λ p. IsWhole (job_seen i.admission p i.spent)) same.population whole)

says_by : (j : JobSeen) (n : ℕ) (b d : Bool) → leb (total_cost j) j.spent ≡ b → leb (total_cost j) (j.spent + n) ≡ d
    → (if b then WasOver else (if d then OverAt (spent_after j n) else PausedAt (spent_after j n))) ≡ says (Given n) (Some j)
says_by j n b d e f =
    ap (λ x. if x then WasOver else (if d then OverAt (spent_after j n) else PausedAt (spent_after j n))) (sym e)
    ∙ ap (λ x. if leb (total_cost j) j.spent then WasOver else (if x then OverAt (spent_after j n) else PausedAt (spent_after j n))) (sym f)

granted_at : (old new : Option JobSeen) (n : ℕ) (r : Result JobReply DeskFault) → IsGrantedAt old n r new
    → (o : Own) × IsGive n o × MayLeave o old × (new ≡ goes o old) × (grant_answer r new ≡ says o old)
granted_at None q n r h = (Given n, refl, tt, h.1, ap (λ x. grant_answer x q) h.0)
granted_at (Some j) None n r h = absurd h
granted_at (Some j) (Some i) n (Ok Paused) h =
    let e : i.spent ≡ spent_after j n = h.1.1.0 in
    (Given n, refl, tt, is_job i j (spent_after j n) h.0 e, ap PausedAt e ∙ says_by j n false false (leb_no _ _ h.1.0) (leb_no _ _ h.1.1.1))
granted_at (Some j) (Some i) n (Ok Over) h =
    let e : i.spent ≡ spent_after j n = h.1.1.0 in
    (Given n, refl, tt, is_job i j (spent_after j n) h.0 e, ap OverAt e ∙ says_by j n false true (leb_no _ _ h.1.0) (leb_yes _ _ h.1.1.1))
granted_at (Some j) (Some i) n (Err OutOfMemory) h =
    (GivenRefused n i.spent, refl, (h.1.1.0, h.1.1.1, h.1.1.2, whole_of i j h.0 h.1.1.3), is_job i j i.spent h.0 refl, refl)
granted_at (Some j) (Some i) n (Err JobOver) h =
    let e : i.spent ≡ spent_after j n = ap (λ x. x.spent) h.1.1 ∙ over j n h.1.0 in
    (Given n, refl, tt, is_job i j (spent_after j n) h.0 e, says_by j n true true (leb_yes _ _ (omega (arith, h.1.0))) (leb_yes _ _ (omega (arith, h.1.0))))
  where
    over : (j : JobSeen) (n : ℕ) → j.spent ≡ total_cost j → j.spent ≡ spent_after j n
    over j n e = e ∙ sym (paid_all j.admission.resolved.unit j.population (j.spent + n) (omega (arith, e)))
granted_at (Some j) (Some i) n (Err NoSuchJob) h = absurd h.1

-- the job that was put there
put_there : (d : Jobs) (k n : ℕ) (q : Option JobSeen) (r : Result JobReply DeskFault) → IsGrantedAt (job_at d k) n r q → job_at (set d k q) k ≡ q
put_there d k n q r h =
    elim (cases_lt k (length d)) [
      | inl l ↦ get_or-set_same d k q None l
      | inr g ↦
          let none : job_at d k ≡ None = get_or_past d k None g in
          let at : IsGrantedAt None n r q = subst (λ x. IsGrantedAt x n r q) none h in
          ap (λ x. job_at x k) (set_past d k q g) ∙ none ∙ sym at.1
    ]

pub grants : GrantsAreEvents
grants old new k n r h =
    let g = granted_at (job_at old k) h.0 n r h.2 in
    let there : job_at new k ≡ h.0 = ap (λ x. job_at x k) h.1 ∙ put_there old k n h.0 r h.2 in
    (g.0, g.1, record { may_come = g.2; moves = h.1 ∙ ap (set old k) g.3; answered = ap (grant_answer r) there ∙ g.4 })

taken : (q : Option JobSeen) (r : Result (Unit {0}) DeskFault) → IsGivenUp q r → (None ≡ goes Left q) × (withdraw_answer r ≡ says Left q) × MayLeave Left q
taken None r h = (refl, ap withdraw_answer h, tt)
taken (Some j) r h = (refl, ap withdraw_answer h, tt)

pub withdrawals : WithdrawalsAreEvents
withdrawals old new k r h =
    let t = taken (job_at old k) r h.1 in
    record { may_come = t.2; moves = h.0 ∙ ap (set old k) t.0; answered = t.1 }
