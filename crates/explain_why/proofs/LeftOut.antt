-- What one operand decides, the others don't.
use Rattle.std.proofs.Common.{◌≡◌, ◌&&◌, ◌||◌, Bool, true, false, not, List, [], ◌∷◌, refl, sym, ap, ◌∙◌}
use Rattle.std.proofs.lemmas.Bool.{false≢true}
use Rattle.imkl_population.specs.declared.scalar.Scalar.TheVariants as scalar
use Rattle.ocl_core.specs.declared.operator.PlainOperator.{PlainOperator}
use Rattle.ocl_core.specs.declared.operator.PlainOperator.TheVariants as plain
use Rattle.ocl_core.specs.declared.operator.Operator.TheVariants.{Plain}
use Rattle.rule_values.specs.Value.{Value, Single, truth_value}
use Rattle.rule_values.specs.Operations.{is_true, is_false, truth_known, conjunction, disjunction, implication}
use Rattle.ocl_semantics.specs.Meaning.{plain_value}
use Rattle.explain_why.specs.Explanation.{first_decides, second_decides}
use Rattle.explain_why.specs.Laws.{OthersDecideNothing, FirstDecidesNothing}
use Rattle.explain_why.proofs.Left.{is_so, not_true}

-- what is false isn't true
false_alone : (v : Value) → is_false v ≡ true → is_true v ≡ false
false_alone (Single (scalar.Bool b)) h = not_true b h
false_alone v h = refl

second_is_so : (a b : Bool) → a || not b ≡ false → b ≡ true
second_is_so true b h = absurd (false≢true (sym h))
second_is_so false b h = is_so b h

-- ---- each operator

known_false : (a b : Bool) → truth_known (a && false) (b || true) ≡ truth_value false
known_false true true = refl
known_false true false = refl
known_false false true = refl
known_false false false = refl

known_true : (a b : Bool) → truth_known (a || true) b ≡ truth_value true
known_true true b = refl
known_true false b = refl

first_is_false : (v w : Value) → is_false v ≡ true → conjunction v w ≡ truth_value false
first_is_false v w h =
    ap (λ (b : Bool). truth_known (is_true v && is_true w) (b || is_false w)) h ∙ ap (λ (b : Bool). truth_known (b && is_true w) true) (false_alone v h)

second_is_false : (v w : Value) → is_false w ≡ true → conjunction v w ≡ truth_value false
second_is_false v w h =
    ap (λ (b : Bool). truth_known (is_true v && is_true w) (is_false v || b)) h
    ∙ ap (λ (b : Bool). truth_known (is_true v && b) (is_false v || true)) (false_alone w h)
    ∙ known_false (is_true v) (is_false v)

first_is_true : (v w : Value) → is_true v ≡ true → disjunction v w ≡ truth_value true
first_is_true v w h = ap (λ (b : Bool). truth_known (b || is_true w) (is_false v && is_false w)) h

second_is_true : (v w : Value) → is_true w ≡ true → disjunction v w ≡ truth_value true
second_is_true v w h =
    ap (λ (b : Bool). truth_known (is_true v || b) (is_false v && is_false w)) h ∙ known_true (is_true v) (is_false v && is_false w)

premise_is_false : (v w : Value) → is_false v ≡ true → implication v w ≡ truth_value true
premise_is_false v w h = ap (λ (b : Bool). truth_known (b || is_true w) (is_true v && is_false w)) h

conclusion_is_true : (v w : Value) → is_true w ≡ true → implication v w ≡ truth_value true
conclusion_is_true v w h =
    ap (λ (b : Bool). truth_known (is_false v || b) (is_true v && is_false w)) h ∙ known_true (is_false v) (is_true v && is_false w)

-- ---- all of them

by_first : (operator : PlainOperator) (v w x : Value) (ws xs : List Value) → not (first_decides operator v) ≡ false → plain_value operator v (w ∷ ws) ≡ plain_value operator v (x ∷ xs)
by_first plain.And v w x ws xs h = first_is_false v w (is_so (is_false v) h) ∙ sym (first_is_false v x (is_so (is_false v) h))
by_first plain.Or v w x ws xs h = first_is_true v w (is_so (is_true v) h) ∙ sym (first_is_true v x (is_so (is_true v) h))
by_first plain.Implies v w x ws xs h = premise_is_false v w (is_so (is_false v) h) ∙ sym (premise_is_false v x (is_so (is_false v) h))
by_first operator v w x ws xs h = absurd (false≢true (sym h))

by_second : (operator : PlainOperator) (u v w : Value) (ws : List Value) → first_decides operator v || not (second_decides operator w) ≡ false → plain_value operator v (w ∷ ws) ≡ plain_value operator u (w ∷ ws)
by_second plain.And u v w ws h =
    let so = second_is_so (is_false v) (is_false w) h in
    second_is_false v w so ∙ sym (second_is_false u w so)
by_second plain.Or u v w ws h =
    let so = second_is_so (is_true v) (is_true w) h in
    second_is_true v w so ∙ sym (second_is_true u w so)
by_second plain.Implies u v w ws h =
    let so = second_is_so (is_false v) (is_true w) h in
    conclusion_is_true v w so ∙ sym (conclusion_is_true u w so)
by_second operator u v w ws h = absurd (false≢true (sym h))

pub others_decide_nothing : OthersDecideNothing
others_decide_nothing p (Plain operator) v w x ws xs h = by_first operator v w x ws xs h
others_decide_nothing p operator v w x ws xs h = absurd (false≢true (sym h))

pub first_decides_nothing : FirstDecidesNothing
first_decides_nothing p (Plain operator) u v (w ∷ ws) h = by_second operator u v w ws h
first_decides_nothing p (Plain operator) u v [] h = absurd (false≢true (sym h))
first_decides_nothing p operator u v ws h = absurd (false≢true (sym h))
