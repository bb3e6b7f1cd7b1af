-- A desk's jobs and their rooms, by the list that holds them, and as that list changes.
use Rattle.std.proofs.Common.{◌≡◌, ℕ, ◌<◌, ◌≤◌, Bool, true, false, if◌then◌else◌, List, [], ◌∷◌, ◌++◌, length, get_or, set, map, Option, None, Some, Result, sym, ap, ◌∙◌, subst, arith, inl, inr, get_or-set_same, get_or-set_other}
use Rattle.std.specs.Option.{option_map}
use Rattle.std.proofs.lemmas.Bool.Decides.{eqb_tells}
use Rattle.std.proofs.lemmas.Bool.{cases_lt}
use Rattle.std.proofs.lemmas.List.{get_or_append_left, get_or_past, length-map, map-append, map-set, set-get_or}
use Rattle.std.proofs.Math.ListN.{get_or-map}
use Rattle.rule_desk.specs.declared.job.JobReply.{JobReply}
use Rattle.rule_desk.specs.declared.fault.DeskFault.{DeskFault}
use Rattle.rule_desk.specs.Seen.{DeskSeen}
use Rattle.rule_desk.specs.Held.{JobHeld, job_in, room_in, desk_seen}
use Rattle.rule_desk.specs.World.{job_at}
use Rattle.rule_desk.specs.Calls.{IsGrantedAt, IsGranted}
use Rattle.rule_desk.specs.Rooms.{room_at, KeepsRooms, KeepsOtherRooms, IsReserved}

-- what stands at a number is seen there
pub job_held_at : (hs : List (Option JobHeld)) (k : ℕ) → job_at (desk_seen hs).jobs k ≡ option_map job_in (get_or hs k None)
job_held_at hs k = get_or-map (option_map job_in) hs k None

pub room_held_at : (hs : List (Option JobHeld)) (k : ℕ) → room_at (desk_seen hs) k ≡ room_in (get_or hs k None)
room_held_at hs k = get_or-map room_in hs k None

-- one job changes
pub jobs_set : (hs : List (Option JobHeld)) (k : ℕ) (q : Option JobHeld) → (desk_seen (set hs k q)).jobs ≡ set (desk_seen hs).jobs k (option_map job_in q)
jobs_set hs k q = map-set (option_map job_in) hs k q

pub other_rooms : (hs : List (Option JobHeld)) (k : ℕ) (q : Option JobHeld) → KeepsOtherRooms (desk_seen hs) k (desk_seen (set hs k q))
other_rooms hs k q i ne = omega (arith, room_held_at hs i, room_held_at (set hs k q) i, ap room_in (get_or-set_other hs k i q None ne))

pub rooms_set : (hs : List (Option JobHeld)) (k : ℕ) (q : Option JobHeld) → k < length hs → room_in (get_or hs k None) ≤ room_in q → KeepsRooms (desk_seen hs) (desk_seen (set hs k q))
rooms_set hs k q there more i =
    elim (eqb_tells i k) [
      | inl t ↦
          omega (
            arith,
            more,
            room_held_at hs i,
            ap (λ n. room_in (get_or hs n None)) t.1,
            room_held_at (set hs k q) i,
            ap (λ n. room_in (get_or (set hs k q) n None)) t.1,
            ap room_in (get_or-set_same hs k q None there),
          )
      | inr t ↦ other_rooms hs k q i t.1
    ]

-- a job enters
rooms_push : (hs : List (Option JobHeld)) (q : Option JobHeld) → KeepsRooms (desk_seen hs) (desk_seen (hs ++ q ∷ []))
rooms_push hs q i =
    elim (cases_lt i (length hs)) [
      | inl l ↦ omega (arith, room_held_at hs i, room_held_at (hs ++ q ∷ []) i, ap room_in (get_or_append_left hs (q ∷ []) None i l))
      | inr g ↦ omega (arith, room_held_at hs i, ap room_in (get_or_past hs i None g))
    ]

rooms_either : (hs : List (Option JobHeld)) (q : Option JobHeld) (entered : Bool) → KeepsRooms (desk_seen hs) (desk_seen (if entered then hs ++ q ∷ [] else hs))
rooms_either hs q true = rooms_push hs q
rooms_either hs q false = λ i. omega arith

-- or doesn't
pub rooms_after : (d : DeskSeen) (hs new : List (Option JobHeld)) (q : Option JobHeld) (entered : Bool) → desk_seen hs ≡ d → new ≡ (if entered then hs ++ q ∷ [] else hs) → KeepsRooms d (desk_seen new)
rooms_after d hs new q entered seen items =
    subst (λ x. KeepsRooms x (desk_seen new)) seen (subst (λ (xs : List (Option JobHeld)). KeepsRooms (desk_seen hs) (desk_seen xs)) (sym items) (rooms_either hs q entered))

-- a job is entered behind the others
pub entered_behind : (d : DeskSeen) (hs new : List (Option JobHeld)) (h : JobHeld) → desk_seen hs ≡ d → new ≡ hs ++ Some h ∷ [] → map (option_map job_in) new ≡ d.jobs ++ Some (job_in h) ∷ []
entered_behind d hs new h seen items =
    ap (map (option_map job_in)) items ∙ map-append (option_map job_in) hs (Some h ∷ []) ∙ ap (λ x. x.jobs ++ Some (job_in h) ∷ []) seen

pub number_behind : (d : DeskSeen) (hs : List (Option JobHeld)) → desk_seen hs ≡ d → length hs ≡ length d.jobs
number_behind d hs seen = sym (length-map hs (option_map job_in)) ∙ ap (λ x. length x.jobs) seen

-- ---- the calls, by the place of a job in the list

module _ (d : DeskSeen) (hs : List (Option JobHeld)) (n k : ℕ) (old new : Option JobHeld) (seen : desk_seen hs ≡ d) (number : n ≡ k) (at : get_or hs n None ≡ old) where
  pub seen_at : job_at d.jobs k ≡ option_map job_in old
  seen_at = ap (λ x. job_at x.jobs k) (sym seen) ∙ ap (job_at (desk_seen hs).jobs) (sym number) ∙ job_held_at hs n ∙ ap (option_map job_in) at

  pub set_at : (desk_seen (set hs n new)).jobs ≡ set d.jobs k (option_map job_in new)
  set_at = jobs_set hs n new ∙ ap (λ x. set x.jobs n (option_map job_in new)) seen ∙ ap (λ i. set d.jobs i (option_map job_in new)) number

  pub is_granted : (g : ℕ) (r : Result JobReply DeskFault) → IsGrantedAt (option_map job_in old) g r (option_map job_in new) → IsGranted d.jobs k g r (desk_seen (set hs n new)).jobs
  is_granted g r granted = (option_map job_in new, set_at, subst (λ q. IsGrantedAt q g r (option_map job_in new)) (sym seen_at) granted)

  pub rooms_kept : n < length hs → room_in old ≤ room_in new → KeepsRooms d (desk_seen (set hs n new))
  rooms_kept there more = subst (λ x. KeepsRooms x (desk_seen (set hs n new))) seen (rooms_set hs n new there (omega (arith, ap room_in at, more)))

  pub other_rooms_kept : KeepsOtherRooms d k (desk_seen (set hs n new))
  other_rooms_kept = subst (λ x. KeepsOtherRooms x k (desk_seen (set hs n new))) seen (subst (λ i. KeepsOtherRooms (desk_seen hs) i (desk_seen (set hs n new))) number (other_rooms hs n new))

  -- nothing but the room changes
  pub jobs_kept : option_map job_in new ≡ option_map job_in old → (desk_seen (set hs n new)).jobs ≡ d.jobs
  jobs_kept same = set_at ∙ ap (set d.jobs k) (same ∙ sym seen_at) ∙ set-get_or d.jobs k None

  pub is_reserved : (r : Result (Unit {0}) DeskFault) → n < length hs → IsReserved (option_map job_in old) (room_in new) r → IsReserved (job_at d.jobs k) (room_at (desk_seen (set hs n new)) k) r
  is_reserved r there reserved =
      let room : room_in new ≡ room_at (desk_seen (set hs n new)) k =
      sym (ap (room_at (desk_seen (set hs n new))) (sym number) ∙ room_held_at (set hs n new) n ∙ ap room_in (get_or-set_same hs n new None there)) in
      subst (λ q. IsReserved q (room_at (desk_seen (set hs n new)) k) r) (sym seen_at) (subst (λ m. IsReserved (option_map job_in old) m r) room reserved)
