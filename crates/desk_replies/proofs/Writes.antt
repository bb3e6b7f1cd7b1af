-- Replies that are written as they are told.
use Rattle.std.proofs.Common.{◌≡◌, ℕ, ◌+◌, ◌<◌, ◌≤◌, min, List, ◌∷◌, ◌++◌, length, take, drop, get_or, Option, sym, ap, ◌∙◌, subst, arith, append_assoc}
use Rattle.std.specs.Io.KnownBytes.{Appends}
use Rattle.std.proofs.KnownBytes.{Appends-nil, Appends-trans}
use Rattle.std.proofs.lemmas.List.{take-append-le, take_min, append-nil, at_drop_more, at_drop_all}
use Rattle.std.proofs.Math.Seq.{take-append-add}
use Rattle.imkl_population.specs.Population.{Population}
use Rattle.rule_cost.specs.Admission.{Admission}
use Rattle.rule_report.specs.Sink.{WritesPrefix, IsWrittenSoFar}
use Rattle.rule_desk.specs.World.{Jobs}
use Rattle.desk_script.specs.declared.call.Call.{Call}
use Rattle.desk_script.specs.declared.call.Call.TheVariants.{Enter}
use Rattle.desk_replies.specs.Replies.{event_of, next_jobs, reply_to, replies_from, script_replies}
use Rattle.desk_replies.specs.Told.{IsReplied}

-- what is told and what is still to be replied is all that is replied to a script
pub record IsAt (a : Admission) (p : Population) (calls : List Call) (i : ℕ) (d : Jobs) (old now : Option (List ℕ)) (waiting : List ℕ) : Type 0 where
  pub told : List ℕ
  pub written : IsWrittenSoFar old now waiting told
  pub whole : told ++ replies_from a p (drop i calls) d ≡ script_replies a p calls

-- what is replied next
next_reply : (a : Admission) (p : Population) (calls : List Call) (i : ℕ) (call : Call) (d : Jobs) → i < length calls → call ≡ get_or calls i Enter
    → replies_from a p (drop i calls) d ≡ reply_to a p call d ++ replies_from a p (drop (i + 1) calls) (next_jobs (event_of a p call) d)
next_reply a p calls i call d lt is =
    at_drop_more (λ (cs : List Call). replies_from a p cs d) calls i Enter lt ∙ ap (λ (c : Call). replies_from a p (c ∷ drop (i + 1) calls) d) (sym is)

-- what was written is a prefix of all, also where a write took only some of what waited
prefix_of : (old mid new : Option (List ℕ)) (waiting told rest all : List ℕ) → IsWrittenSoFar old mid waiting told → told ++ rest ≡ all → WritesPrefix mid new waiting → WritesPrefix old new all
prefix_of old mid new waiting told rest all so is some =
    let k = min some.0 (length waiting) in
    let whole : all ≡ so.0 ++ (waiting ++ rest) = sym is ∙ ap (λ (x : List ℕ). x ++ rest) (sym so.2) ∙ append_assoc so.0 waiting rest in
    let cut : take (length so.0 + k) all ≡ so.0 ++ take some.0 waiting =
    ap (take (length so.0 + k)) whole ∙ take-append-add so.0 (waiting ++ rest) k
    ∙ ap (λ (x : List ℕ). so.0 ++ x) (take-append-le k waiting rest (omega arith) ∙ take_min some.0 waiting) in
    (length so.0 + k, subst (λ (x : List ℕ). Appends old new x) (sym cut) (Appends-trans old mid new so.0 (take some.0 waiting) so.1 some.1))

module _ (a : Admission) (p : Population) (calls : List Call) (i : ℕ) (call : Call) (d e : Jobs) (old mid : Option (List ℕ)) (waiting more : List ℕ) (lt : i < length calls) (is : call ≡ get_or calls i Enter) (at : IsAt a p calls i d old mid waiting) (replied : IsReplied a p call d e waiting more) where
  -- the next reply waits with what waited
  abbrev waits : IsWrittenSoFar old mid more (at.told ++ reply_to a p call d)
  waits = (
    at.written.0,
    at.written.1,
    ap (λ (x : List ℕ). at.written.0 ++ x) replied.text ∙ sym (append_assoc at.written.0 waiting (reply_to a p call d)) ∙ ap (λ (x : List ℕ). x ++ reply_to a p call d) at.written.2,
  )

  -- with the replies that follow it is all
  whole_next : (at.told ++ reply_to a p call d) ++ replies_from a p (drop (i + 1) calls) e ≡ script_replies a p calls
  whole_next =
      ap (λ (j : Jobs). (at.told ++ reply_to a p call d) ++ replies_from a p (drop (i + 1) calls) j) replied.jobs
      ∙ append_assoc at.told (reply_to a p call d) (replies_from a p (drop (i + 1) calls) (next_jobs (event_of a p call) d))
      ∙ ap (λ (x : List ℕ). at.told ++ x) (sym (next_reply a p calls i call d lt is)) ∙ at.whole

  -- one call more, and some of what waits is written
  pub at_next : (new : Option (List ℕ)) (still : List ℕ) → IsWrittenSoFar mid new still more → IsAt a p calls (i + 1) e old new still
  at_next new still on = record {
    told = at.told ++ reply_to a p call d;
    written = (at.written.0 ++ on.0, Appends-trans old mid new at.written.0 on.0 at.written.1 on.1, append_assoc at.written.0 on.0 still ∙ ap (λ (x : List ℕ). at.written.0 ++ x) on.2 ∙ waits.2);
    whole = whole_next;
  }

  -- a write failed after one call more
  pub stops_after : (new : Option (List ℕ)) → WritesPrefix mid new more → WritesPrefix old new (script_replies a p calls)
  stops_after new some = prefix_of old mid new more (at.told ++ reply_to a p call d) (replies_from a p (drop (i + 1) calls) e) (script_replies a p calls) waits whole_next some

-- memory ran out, or the last write failed
pub stops_at : (a : Admission) (p : Population) (calls : List Call) (i : ℕ) (d : Jobs) (old mid new : Option (List ℕ)) (waiting : List ℕ) → IsAt a p calls i d old mid waiting
    → WritesPrefix mid new waiting → WritesPrefix old new (script_replies a p calls)
stops_at a p calls i d old mid new waiting at some = prefix_of old mid new waiting at.told (replies_from a p (drop i calls) d) (script_replies a p calls) at.written at.whole some

-- nothing of what waits is written
pub nothing_more : (o : Option (List ℕ)) (waiting : List ℕ) → WritesPrefix o o waiting
nothing_more o waiting = (0, Appends-nil o)

-- all calls are made, and all that waited is written
pub at_last : (a : Admission) (p : Population) (calls : List Call) (i : ℕ) (d : Jobs) (old mid new : Option (List ℕ)) (waiting : List ℕ) → length calls ≤ i → IsAt a p calls i d old mid waiting
    → Appends mid new waiting → Appends old new (script_replies a p calls)
at_last a p calls i d old mid new waiting end at now =
    let all : at.told ≡ script_replies a p calls = sym (append-nil at.told) ∙ ap (λ (x : List ℕ). at.told ++ x) (sym (at_drop_all (λ (cs : List Call). replies_from a p cs d) calls i end)) ∙ at.whole in
    subst (λ (x : List ℕ). Appends old new x) (at.written.2 ∙ all) (Appends-trans old mid new at.written.0 waiting at.written.1 now)
