use Rattle.std.proofs.Common.{◌≡◌, ◌<◌, All, length}
use Rattle.serde_json.specs.Data.{Members, no_members}
use Rattle.token_tree.specs.Tokens.{members_at}
use Rattle.imkl_delivery.specs.Pending.{IsPendingOnly, ArePending}
use Rattle.imkl_delivery.proofs.writing.read_members.Given as goal

abbrev pub invariant-loop : goal.invariant-loop
invariant-loop l = record {
  found : (found : Members) × (members_at 123 no_members l.initial.reader ≡ members_at 123 found l.reader) × ArePending l.model l.class found l.pending;
  only : IsPendingOnly l.named.items l.pending;
  in_range : All (λ f. f < length l.model.features) l.named.items;
  room : length l.pending ≡ length l.initial.pending;
}
