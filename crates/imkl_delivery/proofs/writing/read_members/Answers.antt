use Rattle.std.proofs.Common.{◌≡◌, ◌∙◌, ◌<◌, Some, length, refl, sym, subst, arith}
use Rattle.std.proofs.lemmas.List.Elements.{All-nil}
use Rattle.serde_json.specs.Data.{no_members, put}
use Rattle.token_tree.proofs.Reading.{members_over, members_next}
use Rattle.imkl_model.specs.ClassModel.{feature_number}
use Rattle.imkl_delivery.specs.Pending.{pending_view, ArePending}
use Rattle.imkl_delivery.proofs.Pending.{pending-put}
use Rattle.imkl_delivery.proofs.writing.read_members.Goals as goal

pub loop-init : goal.loop-init
loop-init c = record {
  found = (no_members, refl, record { named = refl; written = λ f below here. sym (c.requires.none f) });
  only = λ f no. c.requires.none f;
  in_range = rw c.clear.ensures.items (All-nil (λ f. f < length c.args.model.now.features));
  room = refl;
}

pub returns-in-Ok-None-clause-there : goal.returns-in-Ok-None-clause-there
returns-in-Ok-None-clause-there c =
    let now = c.loop.invariant.found in
    let over = rw c.in-Ok-None.field-0-is at c.in-Ok-None.ensures.value in
    (now.0, now.1 ∙ members_over 123 now.0 c.loop.reader c.next_key.new.self over, now.2)

pub loop-preserved : goal.loop-preserved
loop-preserved c =
    let l = c.loop in
    let m = c.args.model.now in
    let class = c.args.class in
    let now = l.invariant.found in
    let k = c.in-Ok-Some.name.now in
    let v = c.in_ok-value-in-Ok-Some.value in
    let f = c.in-Some.feature in
    let key = rw c.in-Ok-Some.field-0-is at c.in-Ok-Some.ensures.value in
    let number : feature_number m class k ≡ Some f = sym c.in-Some.ensures.number in
    let below : f < length l.pending = omega (arith, c.in-Some.ensures.in_range, l.invariant.room, c.requires.room) in
    let kept = c.in_ok-keep_last-in-Ok-Some.ensures in
    record {
      found = (
        put k (pending_view v) now.0,
        now.1 ∙ members_next 123 now.0 k l.reader c.next_key.new.self c.read_pending.new.reader (pending_view v) key c.in_ok-value-in-Ok-Some.ensures,
        subst (ArePending m class (put k (pending_view v) now.0)) (sym kept.put) (pending-put m class f k v now.0 l.pending c.well_formed-2.ensures number below now.2),
      );
      only = kept.only l.invariant.only;
      in_range = kept.in_range (length m.features) c.in-Some.ensures.in_range l.invariant.in_range;
      room = kept.room ∙ l.invariant.room;
    }
