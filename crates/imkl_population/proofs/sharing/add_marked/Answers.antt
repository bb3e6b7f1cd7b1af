use Rattle.std.proofs.Common.{◌≡◌, ◌∙◌, ◌++◌, ◌∷◌, [], ℕ, Bool, true, false, List, Vec, ap, sym, get_or}
use Rattle.std.specs.declared.alloc.Global.{Global}
use Rattle.std.proofs.lemmas.List.{append-nil, get_or_read}
use Rattle.imkl_population.proofs.Orders.{places-more}
use Rattle.imkl_population.proofs.sharing.add_marked.Goals as goal
use Rattle.imkl_population.proofs.sharing.add_marked.Goals.{then-marks-index+in_ok-push, else-marks-index}

abbrev items : Vec ℕ Global → List ℕ
items v = v.items

pub loop-object-preserved : goal.loop-object-preserved
loop-object-preserved c =
    let marks : List Bool = c.args.marks.now in
    let classes : List ℕ = c.args.classes.now in
    let i = c.loop-object.object in
    let passes : ℕ → Bool = λ o. get_or marks (get_or classes o 0) false in
    let class : c.index.result ≡ get_or classes i 0 = c.index.ensures ∙ get_or_read classes i c.index-classes-object.result c.loop-object-test.true c.index-classes-object.is 0 in
    elim c.if-marks-index.branch [
      | then-marks-index+in_ok-push w ↦ places-more passes c.args.list.now.items c.loop-object.list.items c.if-marks-index.list.items i true (ap (λ k. get_or marks k false) (sym class) ∙ w.if-marks-index.true) c.loop-object.invariant
          (ap items w.list-is ∙ w.in_ok-push.ensures.items ∙ ap (λ (o : ℕ). c.loop-object.list.items ++ o ∷ []) w.new.ensures)
      | else-marks-index w ↦ places-more passes c.args.list.now.items c.loop-object.list.items c.if-marks-index.list.items i false (ap (λ k. get_or marks k false) (sym class) ∙ w.if-marks-index.false) c.loop-object.invariant
          (ap items w.list-is ∙ sym (append-nil c.loop-object.list.items))
    ]
