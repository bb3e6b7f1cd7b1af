-- The laws of the desk's world.
use Rattle.std.proofs.Common.{◌≡◌, ℕ, zero, suc, ◌+◌, ◌<◌, ◌≤◌, Bool, List, [], ◌∷◌, ◌++◌, length, Option, Some, None, refl, sym, ap, ◌∙◌, subst, arith, length-append, set, get_or-set_same, get_or-set_other, inl, inr, if◌then◌else◌}
use Rattle.std.proofs.lemmas.Bool.Decides.{eqb_tells}
use Rattle.std.proofs.lemmas.List.{length-set}
use Rattle.std.proofs.Math.ListN.{get_or-append}
use Rattle.std.proofs.Math.Seq.{get_or-append_seam}
use Rattle.rule_desk.specs.Seen.{JobSeen, job_seen}
use Rattle.rule_desk.specs.Job.{charges_of, total_cost, spent_after}
use Rattle.rule_desk.proofs.Totals.{total_at_most}
use Rattle.rule_desk.proofs.Costs.{charges_are_costs}
use Rattle.rule_desk.specs.World.{Own, Event, Jobs, job_at, next, after, answers_to, own, goes, says, goes_on, says_on, MayLeave, entries}
use Rattle.rule_desk.specs.World.Own.{Given, GivenRefused, Left}
use Rattle.rule_desk.specs.World.Event.{Entered, EnteredRefused, To}
use Rattle.rule_desk.specs.Laws.{EachJobAlone, NeverPastItsCost, IsWithinCost, EachJobFromItsEntry, NumbersInOrder}

-- the job of that number goes on
same_job : (d : Jobs) (i k : ℕ) (o : Own) → i ≡ k → k < length d → job_at (set d i (goes o (job_at d i))) k ≡ goes o (job_at d k)
same_job d i k o e lt = ap (λ j. job_at (set d j (goes o (job_at d j))) k) e ∙ get_or-set_same d k (goes o (job_at d k)) None lt

pub each_alone : EachJobAlone
each_alone [] d k lt = (refl, refl)
each_alone (Entered a p ∷ es) d k lt =
    let q : Option JobSeen = Some (job_seen a p 0) in
    let e : job_at (d ++ q ∷ []) k ≡ job_at d k = get_or-append d (q ∷ []) None k lt in
    let h = each_alone es (d ++ q ∷ []) k (omega (arith, lt, length-append d (q ∷ []))) in
    (h.0 ∙ ap (goes_on (own k es)) e, h.1 ∙ ap (says_on (own k es)) e)
each_alone (EnteredRefused a p ∷ es) d k lt = each_alone es d k lt
each_alone (To i o ∷ es) d k lt =
    let m : Jobs = set d i (goes o (job_at d i)) in
    let h = each_alone es m k (omega (arith, lt, length-set d i (goes o (job_at d i)))) in
    let P : Bool → Type 0 = λ b. (job_at (after es m) k ≡ goes_on (if b then o ∷ own k es else own k es) (job_at d k)) × ((if b then says o (job_at d i) ∷ answers_to k es m else answers_to k es m) ≡ says_on (if b then o ∷ own k es else own k es) (job_at d k)) in
    elim (eqb_tells i k) [
      | inl t ↦
          let e : job_at m k ≡ goes o (job_at d k) = same_job d i k o t.1 lt in
          let s : says o (job_at d i) ≡ says o (job_at d k) = ap (λ j. says o (job_at d j)) t.1 in
          subst P (sym t.0) (h.0 ∙ ap (goes_on (own k es)) e, ap (λ a. a ∷ answers_to k es m) s ∙ ap (λ l. says o (job_at d k) ∷ l) (h.1 ∙ ap (says_on (own k es)) e))
      | inr t ↦
          let e : job_at m k ≡ job_at d k = get_or-set_other d i k (goes o (job_at d i)) None (λ q. t.1 (sym q)) in
          subst P (sym t.0) (h.0 ∙ ap (goes_on (own k es)) e, h.1 ∙ ap (says_on (own k es)) e)
    ]

within_append : (d : Jobs) (q : Option JobSeen) → ((k : ℕ) → IsWithinCost (job_at d k)) → IsWithinCost q → (k : ℕ) → IsWithinCost (job_at (d ++ q ∷ []) k)
within_append [] q f w zero = w
within_append [] q f w (suc k) = tt
within_append (p ∷ d) q f w zero = f 0
within_append (p ∷ d) q f w (suc k) = within_append d q (λ i. f (suc i)) w k

within_set : (d : Jobs) (i : ℕ) (q : Option JobSeen) → ((k : ℕ) → IsWithinCost (job_at d k)) → IsWithinCost q → (k : ℕ) → IsWithinCost (job_at (set d i q) k)
within_set [] i q f w k = tt
within_set (p ∷ d) zero q f w zero = w
within_set (p ∷ d) zero q f w (suc k) = f (suc k)
within_set (p ∷ d) (suc i) q f w zero = f 0
within_set (p ∷ d) (suc i) q f w (suc k) = within_set d i q (λ j. f (suc j)) w k

within_goes : (o : Own) (q : Option JobSeen) → MayLeave o q → IsWithinCost q → IsWithinCost (goes o q)
within_goes (Given n) None f w = tt
within_goes (GivenRefused n l) None f w = tt
within_goes Left None f w = tt
within_goes (Given n) (Some j) f w =
    let u = j.admission.resolved.unit in
    let h : spent_after j n ≤ total_cost j = omega (arith, total_at_most (charges_of u j.population) (j.spent + n), charges_are_costs u j.population) in h
within_goes (GivenRefused n l) (Some j) f w = let h : l ≤ total_cost j = omega (arith, f.2) in h
within_goes Left (Some j) f w = tt

pub never_past : NeverPastItsCost
never_past [] d w f k = f k
never_past (Entered a p ∷ es) d w f k =
    let q : Option JobSeen = Some (job_seen a p 0) in
    let z : 0 ≤ total_cost (job_seen a p 0) = omega arith in
    never_past es (d ++ q ∷ []) w.1 (within_append d q f z) k
never_past (EnteredRefused a p ∷ es) d w f k = never_past es d w.1 f k
never_past (To i o ∷ es) d w f k = never_past es (next (To i o) d) w.1 (within_set d i (goes o (job_at d i)) f (within_goes o (job_at d i) w.0 (f i))) k

pub in_order : NumbersInOrder
in_order [] d = omega arith
in_order (Entered a p ∷ es) d =
    let q : Option JobSeen = Some (job_seen a p 0) in
    omega (arith, in_order es (d ++ q ∷ []), length-append d (q ∷ []))
in_order (EnteredRefused a p ∷ es) d = in_order es d
in_order (To k o ∷ es) d = omega (arith, in_order es (set d k (goes o (job_at d k))), length-set d k (goes o (job_at d k)))

after_append : (es fs : List Event) (d : Jobs) → after (es ++ fs) d ≡ after fs (after es d)
after_append [] fs d = refl
after_append (e ∷ es) fs d = after_append es fs (next e d)

pub from_entry : EachJobFromItsEntry
from_entry es fs a p =
    let k : ℕ = entries es in
    let d : Jobs = after es [] in
    let q : Option JobSeen = Some (job_seen a p 0) in
    let o = in_order es [] in
    let e : length d ≡ k = omega (arith, o) in
    let lt : k < length (d ++ q ∷ []) = omega (arith, e, length-append d (q ∷ [])) in
    let s : job_at (d ++ q ∷ []) k ≡ q = subst (λ i. job_at (d ++ q ∷ []) i ≡ q) e (get_or-append_seam d q [] None) in
    ap (λ x. job_at x k) (after_append es (Entered a p ∷ fs) []) ∙ (each_alone fs (d ++ q ∷ []) k lt).0 ∙ ap (goes_on (own k fs)) s
