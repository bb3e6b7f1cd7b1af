use Rattle.std.proofs.Common.{◌≡◌, List, Some, sym, subst}
use Rattle.json.specs.Token.{Token}
use Rattle.serde_json.specs.Data.{Members, put}
use Rattle.token_tree.specs.Tokens.{members_at}
use Rattle.token_tree.proofs.Reading.{skip_agrees, members_over, member_there}
use Rattle.imkl_delivery.proofs.FromTokens.{same_read}
use Rattle.imkl_delivery.proofs.tokens.skip_members.Goals as goal

pub returns-in-Ok-None : goal.returns-in-Ok-None
returns-in-Ok-None c = λ found all r h.
    let now = c.loop.invariant found all r h in
    let over = rw c.in-Ok-None.field-0-is at c.in-Ok-None.ensures.value in
    sym (same_read {A = Members} now.0 all c.next_key.new.self r (members_at 123 now.0 c.loop.reader) (members_over 123 now.0 c.loop.reader c.next_key.new.self over) now.1).1

pub loop-preserved : goal.loop-preserved
loop-preserved c = λ found all r h.
    let now = c.loop.invariant found all r h in
    let k = c.in-Ok-Some.field-0-0.now in
    let s = c.next_key.new.self in
    let key = rw c.in-Ok-Some.field-0-is at c.in-Ok-Some.ensures.value in
    let it = member_there 123 now.0 k c.loop.reader s all r key now.1 in
    let left = skip_agrees 123 s it.first it.left c.skip_value.new.self it.is c.in_ok-skip_value-in-Ok-Some.ensures.value in
    (put k it.first now.0, subst (λ (x : List Token). members_at 123 (put k it.first now.0) x ≡ Some (all, r)) left it.more)
