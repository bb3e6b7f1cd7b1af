use Rattle.std.proofs.Common.{◌∙◌, codes, refl, sym, ap}
use Rattle.serde_json.specs.Data.{string, put}
use Rattle.serde_json.proofs.Views.{get_member-put_other}
use Rattle.token_tree.specs.Tokens.{data_at}
use Rattle.token_tree.proofs.Reading.{data-string, members_over, members_next}
use Rattle.imkl_delivery.proofs.FromTokens.{differ}
use Rattle.imkl_delivery.proofs.writing.skip_behind.Goals as goal

pub loop-init : goal.loop-init
loop-init c = λ found. (found, refl, refl)

pub returns-in-Ok-None : goal.returns-in-Ok-None
returns-in-Ok-None c = λ found.
    let now = c.loop.invariant found in
    let over = rw c.in-Ok-None.field-0-is at c.in-Ok-None.ensures.value in
    (now.0, now.1 ∙ members_over 124 now.0 c.loop.reader c.next_key.new.self over, now.2)

pub loop-preserved : goal.loop-preserved
loop-preserved c = λ found.
    let now = c.loop.invariant found in
    let k = c.in-Ok-Some.name.now in
    let s = c.in_ok-string-in-Ok-Some.field-0.now in
    let key = rw c.in-Ok-Some.field-0-is at c.in-Ok-Some.ensures.value in
    let is = ap (data_at 124) c.in_ok-string-in-Ok-Some.ensures ∙ data-string 124 s c.string.new.reader in
    let other = differ k (codes "features") (sym c.if-eq.ensures) in
    (put k (string s) now.0, now.1 ∙ members_next 124 now.0 k c.loop.reader c.next_key.new.self c.string.new.reader (string s) key is, get_member-put_other (codes "features") k (string s) now.0 other ∙ now.2)
