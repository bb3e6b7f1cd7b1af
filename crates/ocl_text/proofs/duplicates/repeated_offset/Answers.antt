use Rattle.ocl_text.proofs.Taken.{is_free, is_held, still_apart, still_repeated, still_seen, repeated_here}
use Rattle.ocl_text.proofs.duplicates.repeated_offset.Goals as goal

pub returns-then-not-branch : goal.returns-then-not-branch
returns-then-not-branch c =
    let held = is_held c.in_ok-insert.field-0 _ _ c.in_ok-insert.ensures.added c.if-not-branch.true (c.rules.invariant.seen c.as_str.result) in
    repeated_here c.args.rules.now c.rules.rule-index c.rule-item.result c.rule-item.is c.rules-test.true (rw c.as_str.ensures.text at held) c.rules.invariant.repeated

pub rules-preserved : goal.rules-preserved
rules-preserved c =
    let free = rw c.as_str.ensures.text at (is_free c.in_ok-insert.field-0 _ _ c.in_ok-insert.ensures.added c.if-not-branch.false (c.rules.invariant.seen c.as_str.result)) in
    record {
      seen = λ q. still_seen c.args.rules.now c.rules.rule-index c.rule-item.result c.rule-item.is c.rules-test.true c.as_str.result.now q.now _ _ c.as_str.ensures.text (c.rules.invariant.seen q) (c.in_ok-insert.ensures.updates.0 q);
      apart = still_apart c.args.rules.now c.rules.rule-index c.rule-item.result c.rule-item.is c.rules-test.true free c.rules.invariant.apart;
      repeated = still_repeated c.args.rules.now c.rules.rule-index c.rule-item.result c.rule-item.is c.rules-test.true free c.rules.invariant.repeated;
    }
