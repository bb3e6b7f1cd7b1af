use Rattle.std.proofs.Common.{sym, ◌∙◌, length, map, arith}
use Rattle.std.proofs.lemmas.List.{map_push, length-map}
use Rattle.std.proofs.lemmas.Result.{err_from_is_err_and}
use Rattle.ocl_text.specs.View.{rule_of}
use Rattle.ocl_text.specs.Parses.{left, whole}
use Rattle.ocl_text.proofs.Turns.{invariants_err, invariants_last, invariants_more, moves_on, fails_on}
use Rattle.ocl_text.proofs.rules.invariants.Goals as goal

pub returns-in_err-rule : goal.returns-in_err-rule
returns-in_err-rule c =
    let p = err_from_is_err_and c.from_residual.result c.from_residual.ensures.1 in
    let turn = rw c.count-left.ensures at c.invariants-test.true in
    let refused = rw c.invariants.invariant.moves.1 at c.in_err-rule.ensures in
    rw (p.1, p.2, c.invariants.invariant.reads) (fails_on c.args.cursor.now c.invariants.cursor c.in_err-rule.field-0.0 _ _ c.invariants.invariant.moves (λ s h. invariants_err (whole c.args.cursor.now c.args.depth) (c.args.class.now.name, c.args.class.now.offset) (length (left c.args.cursor.now)) c.invariants._turn _ (map rule_of c.invariants.all.items) (left c.invariants.cursor) s turn (let l = length-map c.invariants.all.items rule_of in omega (arith, l)) h) refused)

pub returns-then-not-next_is : goal.returns-then-not-next_is
returns-then-not-next_is c =
    let turn = rw c.count-left.ensures at c.invariants-test.true in
    let read = rw c.invariants.invariant.moves.1 at c.in_ok-rule.ensures.0 in (
      c.invariants.invariant.reads
          ∙ invariants_last (whole c.args.cursor.now c.args.depth) (c.args.class.now.name, c.args.class.now.offset) (length (left c.args.cursor.now)) c.invariants._turn _ (map rule_of c.invariants.all.items) _ (left c.invariants.cursor) (rule_of c.in_ok-rule.rule) _ turn (let l = length-map c.invariants.all.items rule_of in omega (arith, l)) read (sym c.next_is.ensures ∙ c.if-not-next_is.true) (rw c.in_ok-push.ensures.items (map_push rule_of c.invariants.all.items c.in_ok-rule.rule)),
      moves_on c.args.cursor.now c.invariants.cursor c.invariant.new.cursor c.invariants.invariant.moves c.in_ok-rule.ensures.1,
    )

pub invariants-preserved : goal.invariants-preserved
invariants-preserved c =
    let turn = rw c.count-left.ensures at c.invariants-test.true in
    let read = rw c.invariants.invariant.moves.1 at c.in_ok-rule.ensures.0 in
    record {
      reads = c.invariants.invariant.reads ∙ invariants_more (whole c.args.cursor.now c.args.depth) (c.args.class.now.name, c.args.class.now.offset) (length (left c.args.cursor.now)) c.invariants._turn _ (map rule_of c.invariants.all.items) _ (left c.invariants.cursor) (rule_of c.in_ok-rule.rule) _ turn (let l = length-map c.invariants.all.items rule_of in omega (arith, l)) read (sym c.next_is.ensures ∙ c.if-not-next_is.false) (rw c.in_ok-push.ensures.items (map_push rule_of c.invariants.all.items c.in_ok-rule.rule));
      moves = moves_on c.args.cursor.now c.invariants.cursor c.invariant.new.cursor c.invariants.invariant.moves c.in_ok-rule.ensures.1;
    }
