use Rattle.std.proofs.lemmas.Result.{on_ok_weaker}
use Rattle.text_names.proofs.ReadNodes.{spine_marked, let_marked, choice_marked, both_marked, three_marked}
use Rattle.text_names.proofs.marks.+marks.Goals as goal

pub put_marks-returns-in_ok-put_marks-in-Spine : goal.put_marks-returns-in_ok-put_marks-in-Spine
put_marks-returns-in_ok-put_marks-in-Spine t c =
    let first = rw c.deref.ensures at c.in_ok-put_marks-in-Spine.ensures in
    let links = rw c.deref-in-Spine.ensures.value at c.put_links.ensures in
    on_ok_weaker c.put_links.result (λ h. both_marked _ _ _ _ _ _ first h (spine_marked c.args.core.now c.in-Spine.first c.in-Spine.links c.in-Spine.is)) links

pub put_marks-returns-in_ok-put_values-in-Let : goal.put_marks-returns-in_ok-put_values-in-Let
put_marks-returns-in_ok-put_values-in-Let t c =
    let values = rw c.deref-in-Let.ensures.value at c.in_ok-put_values-in-Let.ensures in
    let body = rw c.deref-in-Let-2.ensures at c.put_marks-in-Let.ensures in
    on_ok_weaker c.put_marks-in-Let.result (λ h. both_marked _ _ _ _ _ _ values h (let_marked c.args.core.now c.in-Let.values c.in-Let.body c.in-Let.is)) body

pub put_marks-returns-in_ok-put_marks-in-If-2 : goal.put_marks-returns-in_ok-put_marks-in-If-2
put_marks-returns-in_ok-put_marks-in-If-2 t c =
    let condition = rw c.deref-in-If.ensures at c.in_ok-put_marks-in-If.ensures in
    let first = rw c.deref-in-If-2.ensures at c.in_ok-put_marks-in-If-2.ensures in
    let second = rw c.deref-in-If-3.ensures at c.put_marks-in-If-3.ensures in
    on_ok_weaker c.put_marks-in-If-3.result (λ h. three_marked _ _ _ _ _ _ _ _ condition first h (choice_marked c.args.core.now c.in-If.kind c.in-If.condition c.in-If.then_branch c.in-If.else_branch c.in-If.is)) second
