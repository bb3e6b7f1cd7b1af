use Rattle.std.proofs.Common.{◌≡◌, ◌<◌, ℕ, All, true, length}
use Rattle.std.specs.Option.{option_or}
use Rattle.serde_json.specs.Find.{get_member}
use Rattle.serde_json.specs.View.{members_view}
use Rattle.imkl_model.specs.ClassModel.{feature_at, belongs}
use Rattle.imkl_delivery.specs.Loading.{are_features}
use Rattle.imkl_delivery.specs.Pending.{pending_at, IsPendingOnly}
use Rattle.imkl_delivery.proofs.features.take_members.Given as goal

abbrev pub invariant-loop-name : goal.invariant-loop-name
invariant-loop-name l = record {
  next : (goal.iterator-loop-name).can_next l.name-iterator;
  finite : (goal.iterator-loop-name).is_finite l.name-iterator;
  written : (f : ℕ) → f < length l.model.features → belongs l.model l.class f ≡ true
      → option_or (pending_at l.pending f) (get_member (feature_at l.model f).name (members_view l.name-iterator)) ≡ get_member (feature_at l.model f).name (members_view l.fn.members.entries);
  named : are_features l.model l.class (members_view l.name-iterator) ≡ are_features l.model l.class (members_view l.fn.members.entries);
  only : IsPendingOnly l.named.items l.pending;
  in_range : All (λ f. f < length l.model.features) l.named.items;
  room : length l.pending ≡ length l.initial.pending;
}
