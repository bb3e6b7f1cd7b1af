use Rattle.std.proofs.Common.{◌∷◌, ◌++◌, map, length, List, sym, ap, ◌∙◌, rules, subst}
use Rattle.std.specs.List.{AllByRecursion}
use Rattle.ocl_core.specs.declared.core_tree.Core.{Core, the_lemmas}
use Rattle.ocl_core.specs.Core.{cores_of}
use Rattle.ocl_core.specs.CoreView.{core_view}
use Rattle.rule_code.specs.declared.instruction.Instr.{Instr}
use Rattle.rule_code.specs.declared.instruction.Instr.TheVariants as instrs
use Rattle.ocl_compile.specs.EmitWalk.{code_of, codes_of, lets_code}
use Rattle.ocl_compile.specs.Written.{IsWritten}
use Rattle.ocl_compile.proofs.Emitted.{spine_written, operands_written, asked, spine_is, spine_parts, lets_is, lets_are, lets_parts, lets_written, value_here, drop_before, if_is, if_parts, iterate_is, fold_is, fold_parts, operand_code, operands_here, walked_on, joined, on_ok}
use Rattle.ocl_compile.proofs.emitting.+emit.Goals as goal

pub code_of_body-emit-requires : goal.code_of_body-emit-requires
code_of_body-emit-requires t c =
    (search (rules, the_lemmas), (asked c.args.model.now c.args.numbers.now (core_view c.args.body.now) c.requires))

-- ---- a first operand with its links

pub emit-emit-requires : goal.emit-emit-requires
emit-emit-requires t c =
    let m = c.args.model.now in
    let n = c.args.numbers.now in
    let p = spine_parts m n c.args.core.now c.in-Spine.first c.in-Spine.links c.in-Spine.is c.requires.known c.requires.variables c.requires.room in
    (search (rules, the_lemmas), (rw c.deref.ensures (asked m n (core_view c.in-Spine.first.value) p.0)))

pub emit-emit_links-requires : goal.emit-emit_links-requires
emit-emit_links-requires t c =
    let m = c.args.model.now in
    let n = c.args.numbers.now in
    let p = spine_parts m n c.args.core.now c.in-Spine.first c.in-Spine.links c.in-Spine.is c.requires.known c.requires.variables c.requires.room in
    (search (rules, the_lemmas), (rw c.deref-in-Spine.ensures.value p.1))

pub emit-returns-in_ok-emit-in-Spine-clause-emitted : goal.emit-returns-in_ok-emit-in-Spine-clause-emitted
emit-returns-in_ok-emit-in-Spine-clause-emitted t c =
    let m = c.args.model.now in
    let n = c.args.numbers.now in
    let first = rw c.deref.ensures at c.in_ok-emit-in-Spine.ensures.emitted in
    let after = rw c.deref-in-Spine.ensures.value at c.emit_links.ensures.codes in
    on_ok _ _ c.emit_links.result (λ e. joined _ _ _ _ _ _ e first (spine_is m n c.args.core.now c.in-Spine.first c.in-Spine.links c.in-Spine.is)) after

pub emit-returns-in_ok-emit-in-Spine-clause-written : goal.emit-returns-in_ok-emit-in-Spine-clause-written
emit-returns-in_ok-emit-in-Spine-clause-written t c =
    let first = subst (λ (x : Core). IsWritten (core_view x)) c.deref.ensures c.in_ok-emit-in-Spine.ensures.written in
    on_ok _ _ c.emit_links.result (spine_written c.args.core.now c.in-Spine.first c.in-Spine.links c.in-Spine.is first) (rw c.deref-in-Spine.ensures.value at c.emit_links.ensures.written)

-- ---- values with the body that sees them

pub emit-code_of_body-requires : goal.emit-code_of_body-requires
emit-code_of_body-requires t c =
    let p = lets_parts c.args.model.now c.args.numbers.now c.args.core.now c.in-Let.values c.in-Let.body c.in-Let.is c.requires.known c.requires.variables c.requires.room in
    (search (rules, the_lemmas), (rw c.deref-in-Let.ensures p.body))

pub emit-code_of_lets-requires : goal.emit-code_of_lets-requires
emit-code_of_lets-requires t c =
    let p = lets_parts c.args.model.now c.args.numbers.now c.args.core.now c.in-Let.values c.in-Let.body c.in-Let.is c.requires.known c.requires.variables c.requires.room in
    (search (rules, the_lemmas), ((rw c.deref-in-Let-2.ensures.value p.values, rw (c.in_ok-inner-in-Let.ensures.code, c.deref-in-Let-2.ensures.value, c.deref-in-Let.ensures) p.room)))

pub emit-returns-in_ok-lets-in-Let-clause-emitted : goal.emit-returns-in_ok-lets-in-Let-clause-emitted
emit-returns-in_ok-lets-in-Let-clause-emitted t c =
    let m = c.args.model.now in
    let n = c.args.numbers.now in
    let vs = map core_view c.in-Let.values.items in
    let body = core_view c.in-Let.body.value in
    let after = rw (c.in_ok-lets-in-Let.ensures.code, c.in_ok-inner-in-Let.ensures.code, c.deref-in-Let-2.ensures.value, c.deref-in-Let.ensures) at c.put_code.ensures in
    rw (lets_is c.args.core.now c.in-Let.values c.in-Let.body c.in-Let.is, lets_are m n vs body) after

pub emit-returns-in_ok-lets-in-Let-clause-written : goal.emit-returns-in_ok-lets-in-Let-clause-written
emit-returns-in_ok-lets-in-Let-clause-written t c =
    let values = rw c.deref-in-Let-2.ensures.value at c.in_ok-lets-in-Let.ensures.written in
    let body = rw c.deref-in-Let.ensures at c.in_ok-inner-in-Let.ensures.written in
    let written = lets_written (map core_view c.in-Let.values.items) (core_view c.in-Let.body.value) values body in
    on_ok _ _ c.put_code.result (λ e. subst IsWritten (sym (lets_is c.args.core.now c.in-Let.values c.in-Let.body c.in-Let.is)) written) c.put_code.ensures

pub code_of_lets-code_of_let-requires : goal.code_of_lets-code_of_let-requires
code_of_lets-code_of_let-requires t c =
    let m = c.args.model.now in
    let n = c.args.numbers.now in
    let xs = c.args.values.now in
    let i = c.loop-i.i in
    let x = c.index-values-i.result in
    let here = drop_before xs i x c.index-values-i.is c.loop-i-test.true c.loop-i.auto.i in
    let p = value_here m n xs c.args.body.items i x here c.requires.values c.requires.room in
    (search (rules, the_lemmas), ((p.0, rw c.loop-i.invariant.0 p.1)))

pub code_of_lets-loop-i-preserved : goal.code_of_lets-loop-i-preserved
code_of_lets-loop-i-preserved t c =
    let m = c.args.model.now in
    let n = c.args.numbers.now in
    let xs = c.args.values.now in
    let i = c.loop-i.i in
    let x = c.index-values-i.result in
    let here = drop_before xs i x c.index-values-i.is c.loop-i-test.true c.loop-i.auto.i in (
      c.in_ok-code.ensures.code
          ∙ ap (λ (is : List Instr). code_of m n (core_view x) ++ instrs.Let (length is) ∷ is) c.loop-i.invariant.0
          ∙ ap (λ (ys : List Core). lets_code m n (map core_view ys) c.args.body.items) (sym here),
      subst (λ (ys : List Core). AllByRecursion IsWritten (map core_view ys)) (sym here) (c.in_ok-code.ensures.written, c.loop-i.invariant.1),
    )

-- ---- a condition with its branches

pub emit-emit-requires-in-If : goal.emit-emit-requires-in-If
emit-emit-requires-in-If t c =
    let m = c.args.model.now in
    let n = c.args.numbers.now in
    let p = if_parts m n c.args.core.now c.in-If.kind c.in-If.condition c.in-If.then_branch c.in-If.else_branch c.in-If.is c.requires.known c.requires.variables c.requires.room in
    (search (rules, the_lemmas), (rw c.deref-in-If.ensures (asked m n (core_view c.in-If.condition.value) p.0)))

pub emit-code_of_body-requires-in-If : goal.emit-code_of_body-requires-in-If
emit-code_of_body-requires-in-If t c =
    let m = c.args.model.now in
    let n = c.args.numbers.now in
    let p = if_parts m n c.args.core.now c.in-If.kind c.in-If.condition c.in-If.then_branch c.in-If.else_branch c.in-If.is c.requires.known c.requires.variables c.requires.room in
    (search (rules, the_lemmas), (rw c.deref-in-If-2.ensures p.1))

pub emit-code_of_body-requires-in-If-2 : goal.emit-code_of_body-requires-in-If-2
emit-code_of_body-requires-in-If-2 t c =
    let m = c.args.model.now in
    let n = c.args.numbers.now in
    let p = if_parts m n c.args.core.now c.in-If.kind c.in-If.condition c.in-If.then_branch c.in-If.else_branch c.in-If.is c.requires.known c.requires.variables c.requires.room in
    (search (rules, the_lemmas), (rw c.deref-in-If-3.ensures p.2))

pub emit-body_length-requires : goal.emit-body_length-requires
emit-body_length-requires t c =
    let m = c.args.model.now in
    let n = c.args.numbers.now in
    let p = if_parts m n c.args.core.now c.in-If.kind c.in-If.condition c.in-If.then_branch c.in-If.else_branch c.in-If.is c.requires.known c.requires.variables c.requires.room in
    rw (c.deref-in-If-4.ensures.value, c.in_ok-first-in-If.ensures.code, c.deref-in-If-2.ensures) p.1.room

pub emit-body_length-requires-in-If : goal.emit-body_length-requires-in-If
emit-body_length-requires-in-If t c =
    let m = c.args.model.now in
    let n = c.args.numbers.now in
    let p = if_parts m n c.args.core.now c.in-If.kind c.in-If.condition c.in-If.then_branch c.in-If.else_branch c.in-If.is c.requires.known c.requires.variables c.requires.room in
    rw (c.deref-in-If-5.ensures.value, c.in_ok-second-in-If.ensures.code, c.deref-in-If-3.ensures) p.2.room

pub emit-returns-in_ok-second-in-If-clause-emitted : goal.emit-returns-in_ok-second-in-If-clause-emitted
emit-returns-in_ok-second-in-If-clause-emitted t c =
    let m = c.args.model.now in
    let n = c.args.numbers.now in
    let first = rw c.deref-in-If.ensures at c.in_ok-emit-in-If.ensures.emitted in
    let after = rw (c.written_kind-kind.ensures, c.body_length.ensures, c.body_length-in-If.ensures, c.deref-in-If-4.ensures.value, c.deref-in-If-5.ensures.value, c.in_ok-first-in-If.ensures.code, c.in_ok-second-in-If.ensures.code, c.deref-in-If-2.ensures, c.deref-in-If-3.ensures) at c.put_branches.ensures in
    on_ok _ _ c.put_branches.result (λ e. joined _ _ _ _ _ _ e first (if_is m n c.args.core.now c.in-If.kind c.in-If.condition c.in-If.then_branch c.in-If.else_branch c.in-If.is)) after

-- ---- links

pub emit_link-returns-in_ok-inner-in-Iterate-clause-code : goal.emit_link-returns-in_ok-inner-in-Iterate-clause-code
emit_link-returns-in_ok-inner-in-Iterate-clause-code t c =
    let m = c.args.model.now in
    let n = c.args.numbers.now in
    let after = rw (c.iteration_instr-block.ensures, c.body_length.ensures, c.deref-in-Iterate.ensures.value, c.in_ok-inner-in-Iterate.ensures.code) at c.put_block.ensures in
    rw (iterate_is m n c.args.link.now c.in-Iterate.iteration c.in-Iterate.body c.in-Iterate.is) after

pub emit_link-emit-requires : goal.emit_link-emit-requires
emit_link-emit-requires t c =
    let m = c.args.model.now in
    let n = c.args.numbers.now in
    let p = fold_parts m n c.args.link.now c.in-Fold.kind c.in-Fold.start c.in-Fold.body c.in-Fold.is c.requires in
    (search (rules, the_lemmas), (rw c.deref-in-Fold.ensures (asked m n (core_view c.in-Fold.start.value) p.0)))

pub emit_link-code_of_body-requires-in-Fold : goal.emit_link-code_of_body-requires-in-Fold
emit_link-code_of_body-requires-in-Fold t c =
    let m = c.args.model.now in
    let n = c.args.numbers.now in
    let p = fold_parts m n c.args.link.now c.in-Fold.kind c.in-Fold.start c.in-Fold.body c.in-Fold.is c.requires in
    (search (rules, the_lemmas), p.1)

pub emit_link-body_length-requires-in-Fold : goal.emit_link-body_length-requires-in-Fold
emit_link-body_length-requires-in-Fold t c =
    let m = c.args.model.now in
    let n = c.args.numbers.now in
    let p = fold_parts m n c.args.link.now c.in-Fold.kind c.in-Fold.start c.in-Fold.body c.in-Fold.is c.requires in
    rw (c.deref-in-Fold-2.ensures.value, c.in_ok-inner-in-Fold.ensures.code) p.1.room

pub emit_link-returns-in_ok-inner-in-Fold-clause-code : goal.emit_link-returns-in_ok-inner-in-Fold-clause-code
emit_link-returns-in_ok-inner-in-Fold-clause-code t c =
    let m = c.args.model.now in
    let n = c.args.numbers.now in
    let first = rw c.deref-in-Fold.ensures at c.in_ok-emit-in-Fold.ensures.emitted in
    let after = rw (c.written_scalar-in-Fold.ensures, c.body_length-in-Fold.ensures, c.deref-in-Fold-2.ensures.value, c.in_ok-inner-in-Fold.ensures.code) at c.put_block-in-Fold.ensures in
    on_ok _ _ c.put_block-in-Fold.result (λ e. joined _ _ _ _ _ _ e first (fold_is m n c.args.link.now c.in-Fold.kind c.in-Fold.start c.in-Fold.body c.in-Fold.is)) after

-- ---- operands

pub emit_operands-emit-requires : goal.emit_operands-emit-requires
emit_operands-emit-requires t c =
    let m = c.args.model.now in
    let n = c.args.numbers.now in
    let p = operands_here m n c.args.operands.now c.operands.operand-index c.operand-item.result c.operand-item.is c.operands-test.true c.operands.invariant.1 in
    (search (rules, the_lemmas), (asked m n (core_view c.operand-item.result) p.0))

pub emit_operands-operands-preserved : goal.emit_operands-operands-preserved
emit_operands-operands-preserved t c =
    let m = c.args.model.now in
    let n = c.args.numbers.now in
    let xs = c.args.operands.now in
    let i = c.operands.operand-index in
    let x = c.operand-item.result in
    let F = λ (ys : List Core). codes_of m n (cores_of (map core_view ys)) in
    let p = operands_here m n xs i x c.operand-item.is c.operands-test.true c.operands.invariant.1 in
    (walked_on (λ (y : Core). code_of m n (core_view y)) F (λ y ys. operand_code m n (core_view y) (cores_of (map core_view ys))) xs i x c.operand-item.is c.operands-test.true c.operands.code.items c.emit.new.code.items (c.args.code.now.items ++ F xs) c.in_ok-emit.ensures.emitted c.operands.invariant.0, p.1, λ w. c.operands.invariant.2 (operands_written xs i x c.operand-item.is c.operands-test.true c.in_ok-emit.ensures.written w))
