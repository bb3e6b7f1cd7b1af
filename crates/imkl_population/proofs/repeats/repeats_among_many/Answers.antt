use Rattle.std.proofs.Common.{◌≡◌, ◌∙◌, ◌+◌, ◌||◌, sym, ap, List, [], ◌∷◌, ◌++◌, take, Bool}
use Rattle.std.proofs.lemmas.List.{take_more}
use Rattle.imkl_population.specs.declared.scalar.Scalar.{Scalar}
use Rattle.imkl_population.specs.Values.{is_value_among, repeats_value, same_scalar}
use Rattle.ocl_base.proofs.ForAbove.{apart_push, among_push}
use Rattle.imkl_population.proofs.Twice.{same_scalar-sym, again, absent_of, there_of}
use Rattle.imkl_population.proofs.repeats.repeats_among_many.Goals as goal

pub returns-then-not-branch : goal.returns-then-not-branch
returns-then-not-branch c =
    let v = c.value-item.result in
    let e = c.in_ok-is_new.ensures in
    sym (again c.args.values.now c.loop-value.value-index v v c.loop-value-test.true c.value-item.is
    (there_of c.in_ok-is_new.field-0 _ _ e.new c.if-not-branch.true (c.loop-value.invariant.seen v e.encodable)))

pub loop-value-preserved : goal.loop-value-preserved
loop-value-preserved c =
    let vs = c.args.values.now in
    let i = c.loop-value.value-index in
    let v = c.value-item.result in
    let e = c.in_ok-is_new.ensures in
    let grown : take (i + 1) vs ≡ take i vs ++ v ∷ [] = take_more vs i v c.loop-value-test.true ∙ ap (λ (x : Scalar). take i vs ++ x ∷ []) (sym c.value-item.is) in
    let absent = absent_of c.in_ok-is_new.field-0 _ _ e.new c.if-not-branch.false (c.loop-value.invariant.seen v e.encodable) in
    record {
      seen = λ w enc. e.more w enc ∙ ap (λ (b : Bool). b || same_scalar w v) (c.loop-value.invariant.seen w enc) ∙ sym (ap (λ (l : List Scalar). is_value_among l w) grown ∙ among_push same_scalar (take i vs) v w);
      apart = ap repeats_value grown ∙ apart_push same_scalar same_scalar-sym (take i vs) v c.loop-value.invariant.apart absent;
    }
