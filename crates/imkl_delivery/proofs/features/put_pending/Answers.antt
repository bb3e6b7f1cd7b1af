use Rattle.std.proofs.Common.{◌≡◌, ◌<◌, ◌∙◌, ◌||◌, ℕ, List, None, false, length, refl, sym, ap, subst, arith}
use Rattle.std.specs.Prelude.{nat_eq}
use Rattle.std.proofs.lemmas.List.{length-set}
use Rattle.std.proofs.lemmas.List.Elements.{All-get_or}
use Rattle.ocl_base.specs.Lists.{repeats}
use Rattle.ocl_base.proofs.ForAbove.{places_apart}
use Rattle.imkl_population.specs.Population.{class_of}
use Rattle.imkl_population.specs.Required.{is_required, is_one_of, with_required}
use Rattle.imkl_delivery.specs.Named.{written_requirements}
use Rattle.imkl_delivery.specs.Loading.{put_member, put_members}
use Rattle.imkl_delivery.proofs.FromTokens.{leaves_ok}
use Rattle.imkl_delivery.proofs.Passed.{same, stays_along, walk-put_members}
use Rattle.imkl_delivery.proofs.Pending.{pending_next, taken_next, pending_still, none_left}
use Rattle.imkl_delivery.proofs.Walks.{walks_on, walk_stops_by, walk_ends}
use Rattle.imkl_delivery.proofs.features.put_pending.Goals as goal

pub loop-feature-init : goal.loop-feature-init
loop-feature-init c =
    let b = c.args.builder.now in
    let o = c.args.object in
    let m = b.model in
    let fs = c.args.named.items in
    let ks = c.deref-feature-items.result.now in
    let list : ks ≡ with_required (written_requirements m) (class_of b o) fs = c.deref-feature-items.ensures.value ∙ c.in_ok-features.ensures.list ∙ rw (c.requires.required, c.class_of-class.ensures.class) refl in
    record {
      kept = record { model = refl; count = refl };
      in_range = rw c.deref-feature-items.ensures.value (rw c.requires.required at c.in_ok-features.ensures.known);
      apart = subst (λ (l : List ℕ). repeats nat_eq l ≡ false) (sym list) (places_apart (λ f. is_required (written_requirements m) (class_of b o) f || is_one_of fs f) (length m.features));
      room = refl;
      taken = λ f. refl;
      left = λ ms pending. (same o b, rw list (walk-put_members ms o b fs c.args.pending.now pending c.requires.only));
    }

pub put_member-put-requires-clause-feature : goal.put_member-put-requires-clause-feature
put_member-put-requires-clause-feature c =
    let m = c.args.builder.now.model in
    let ks = c.deref-feature-items.result.now in
    let below : c.feature-item.result < length m.features = rw c.feature-item.is (All-get_or (λ f. f < length m.features) ks c.loop-feature.feature-index c.feature-item.result c.loop-feature-test.true c.loop-feature.invariant.in_range) in
    rw c.loop-feature.invariant.kept.model below

pub put_member-put-requires-clause-room : goal.put_member-put-requires-clause-room
put_member-put-requires-clause-room c =
    let m = c.args.builder.now.model in
    let ks = c.deref-feature-items.result.now in
    let below : c.feature-item.result < length m.features = rw c.feature-item.is (All-get_or (λ f. f < length m.features) ks c.loop-feature.feature-index c.feature-item.result c.loop-feature-test.true c.loop-feature.invariant.in_range) in
    omega (arith, below, c.loop-feature.invariant.room, c.requires.room)

pub returns-then-is_err-clause-leaves : goal.returns-then-is_err-clause-leaves
returns-then-is_err-clause-leaves c = λ ms pending.
    let b = c.args.builder.now in
    let o = c.args.object in
    let ks = c.deref-feature-items.result.now in
    let i = c.loop-feature.feature-index in
    let k = c.feature-item.result in
    let h = c.loop-feature.invariant in
    let before = h.left ms pending in
    let below : k < length b.model.features = rw c.feature-item.is (All-get_or (λ f. f < length b.model.features) ks i k c.loop-feature-test.true h.in_range) in
    let still = pending_next c.args.pending.now c.loop-feature.pending ks i k c.loop-feature-test.true c.feature-item.is h.taken h.apart in
    let here = pending_still ms o b c.loop-feature.builder c.args.pending.now c.loop-feature.pending k before.0 pending below still in
    walk_stops_by (put_member o ms) c.put_member-put.result ks i k c.loop-feature.builder c.put_member-put.new.builder c.put_member-put.new.builder (put_members o ms b) (sym c.if-is_err.ensures.value) c.loop-feature-test.true c.feature-item.is (c.put_member-put.ensures.leaves ms here) before.1

pub loop-feature-preserved : goal.loop-feature-preserved
loop-feature-preserved c =
    let b = c.args.builder.now in
    let o = c.args.object in
    let t = c.loop-feature.builder in
    let u = c.put_member-put.new.builder in
    let old = c.args.pending.now in
    let now = c.loop-feature.pending in
    let ks = c.deref-feature-items.result.now in
    let i = c.loop-feature.feature-index in
    let k = c.feature-item.result in
    let h = c.loop-feature.invariant in
    let lt = c.loop-feature-test.true in
    let is = c.feature-item.is in
    let put = c.put_member-put.ensures in
    let below : k < length b.model.features = rw is (All-get_or (λ f. f < length b.model.features) ks i k lt h.in_range) in
    let still = pending_next old now ks i k lt is h.taken h.apart in
    record {
      kept = record { model = put.kept.model ∙ h.kept.model; count = put.kept.count ∙ h.kept.count };
      in_range = h.in_range;
      apart = h.apart;
      room = ap length put.taken ∙ length-set now k None ∙ h.room;
      taken = taken_next old now ks i k lt is h.taken c.put_member-put.new.pending (omega (arith, below, h.room, c.requires.room)) put.taken;
      left = λ ms pending.
          let before = h.left ms pending in
          let left = leaves_ok c.put_member-put.result _ _ (sym c.if-is_err.ensures.value) (put.leaves ms (pending_still ms o b t old now k before.0 pending below still)) in
          (stays_along ms o k b t u before.0 left, walks_on (put_member o ms) ks i k t u (put_members o ms b) lt is left before.1);
    }

pub returns-clause-leaves : goal.returns-clause-leaves
returns-clause-leaves c = λ ms pending.
    let o = c.args.object in
    walk_ends (put_member o ms) c.deref-feature-items.result.now c.loop-feature.feature-index c.loop-feature.builder (put_members o ms c.args.builder.now) c.loop-feature-test.false (c.loop-feature.invariant.left ms pending).1

pub returns-clause-none : goal.returns-clause-none
returns-clause-none c =
    let b = c.args.builder.now in
    let o = c.args.object in
    let m = b.model in
    let fs = c.args.named.items in
    let ks = c.deref-feature-items.result.now in
    let list : ks ≡ with_required (written_requirements m) (class_of b o) fs = c.deref-feature-items.ensures.value ∙ c.in_ok-features.ensures.list ∙ rw (c.requires.required, c.class_of-class.ensures.class) refl in
    none_left (written_requirements m) (class_of b o) fs ks c.loop-feature.feature-index c.args.pending.now c.loop-feature.pending list c.loop-feature-test.false c.requires.room c.requires.only c.loop-feature.invariant.taken
