use Rattle.std.proofs.Common.{◌≡◌, [], ◌∷◌, ◌++◌, sym, refl}
use Rattle.std.proofs.lemmas.List.{append-nil}
use Rattle.imkl_population.specs.declared.scalar.Scalar.{Scalar}
use Rattle.imkl_population.specs.Population.{pairs_of}
use Rattle.imkl_population.proofs.Holdings.{values-more, no-pair}
use Rattle.imkl_population.proofs.column.add_pairs.Goals as goal
use Rattle.imkl_population.proofs.column.add_pairs.Goals.{in-Object+in_ok-push, in_default}

pub loop-value-preserved : goal.loop-value-preserved
loop-value-preserved c =
    let v : Scalar = c.value-item.result in
    let more : c.match-value.pairs.items ≡ c.loop-value.pairs.items ++ pairs_of c.args.holder (v ∷ []) =
    elim c.match-value.branch [
      | in-Object+in_ok-push w ↦ rw (w.pairs-is, w.in_ok-push.ensures.items, w.index.ensures, w.in-Object.is) refl
      | in_default w ↦ rw (w.pairs-is, no-pair c.args.holder v w.in_default.not-Object) (sym (append-nil c.loop-value.pairs.items))
    ] in
    values-more c.args.pairs.now.items c.loop-value.pairs.items c.match-value.pairs.items c.args.holder c.loop-value.value-index c.args.values.now v c.loop-value-test.true c.value-item.is c.loop-value.invariant more
