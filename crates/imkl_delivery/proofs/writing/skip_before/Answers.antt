use Rattle.std.proofs.Common.{◌∙◌, refl, ap}
use Rattle.serde_json.specs.Data.{string, no_members, put}
use Rattle.token_tree.specs.Tokens.{data_at}
use Rattle.token_tree.proofs.Reading.{data-string, members_next}
use Rattle.imkl_delivery.proofs.writing.skip_before.Goals as goal

pub loop-init : goal.loop-init
loop-init c = (no_members, refl)

pub loop-preserved : goal.loop-preserved
loop-preserved c =
    let now = c.loop.invariant in
    let k = c.in-Ok-Some.name.now in
    let s = c.in_ok-string-in-Ok-Some.field-0.now in
    let key = rw c.in-Ok-Some.field-0-is at c.in-Ok-Some.ensures.value in
    let is = ap (data_at 124) c.in_ok-string-in-Ok-Some.ensures ∙ data-string 124 s c.string.new.reader in
    (put k (string s) now.0, now.1 ∙ members_next 124 now.0 k c.loop.reader c.next_key.new.self c.string.new.reader (string s) key is)
