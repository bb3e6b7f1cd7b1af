use Rattle.std.proofs.Common.{◌≡◌, List, Some, sym, subst}
use Rattle.json.specs.Token.{Token}
use Rattle.serde_json.specs.Data.{Members, put}
use Rattle.token_tree.specs.Tokens.{members_at}
use Rattle.token_tree.proofs.Reading.{members_over, member_there}
use Rattle.imkl_delivery.specs.Straight.{AreFound}
use Rattle.imkl_delivery.proofs.FromTokens.{same_read}
use Rattle.imkl_delivery.proofs.outline.take_members.Goals as goal

pub returns-in-Ok-None : goal.returns-in-Ok-None
returns-in-Ok-None c = λ all r h.
    let now = c.loop.invariant all r h in
    let over = rw c.in-Ok-None.field-0-is at c.in-Ok-None.ensures.value in
    let both = same_read {A = Members} now.0 all c.next_key.new.self r (members_at 124 now.0 c.loop.reader) (members_over 124 now.0 c.loop.reader c.next_key.new.self over) now.1 in
    (sym both.1, subst (λ (ms : Members). AreFound c.loop.found ms) both.0 now.2)

pub loop-preserved : goal.loop-preserved
loop-preserved c = λ all r h.
    let now = c.loop.invariant all r h in
    let k = c.in-Ok-Some.name.now in
    let key = rw c.in-Ok-Some.field-0-is at c.in-Ok-Some.ensures.value in
    let it = member_there 124 now.0 k c.loop.reader c.next_key.new.self all r key now.1 in
    let taken = c.in_ok-found-in-Ok-Some.ensures it.first it.left it.is in
    (put k it.first now.0, subst (λ (x : List Token). members_at 124 (put k it.first now.0) x ≡ Some (all, r)) taken.0 it.more, taken.1 now.0 now.2)
