use Rattle.std.proofs.Common.{◌≡◌, ◌++◌, ◌+◌, ◌-◌, ◌∙◌, take, drop, length, arith, length-drop, sym, ap, subst, List, ℕ}
use Rattle.std.proofs.lemmas.List.{take_rest}
use Rattle.std.proofs.Math.Seq.{take-add}
use Rattle.std.specs.Io.KnownBytes.{Appends}
use Rattle.std.proofs.KnownBytes.{Appends-trans}
use Rattle.rule_report.proofs.Writes.{takes_some}
use Rattle.rule_report.proofs.put.write_whole.Goals as goal

pub loop-at-preserved : goal.loop-at-preserved
loop-at-preserved g c =
    let at = c.loop-at.at in
    let bs : List ℕ = c.args.bytes.now in
    let more = c.in-Ok.ensures in
    let rest : take (length bs - at) (drop at bs) ≡ drop at bs = take_rest bs at in
    let parts : take at bs ++ take c.in-Ok.n (take (length bs - at) (drop at bs)) ≡ take (at + c.in-Ok.n) bs = rw rest (sym (take-add at c.in-Ok.n bs)) in
    record {
      within = omega (arith, more.bound, ap length rest, length-drop at bs);
      written = subst (λ (xs : List ℕ). Appends (g.S.Sink.contents c.args.sink.now) (g.S.Sink.contents c.write.new.self) xs) parts (Appends-trans _ (g.S.Sink.contents c.loop-at.sink) _ (take at bs) _ c.loop-at.invariant.written more.bytes);
      well = more.failed ∙ takes_some (take (length bs - at) (drop at bs)) c.in-Ok.n c.in-Ok.n-test.1;
      flushes = more.flushes ∙ c.loop-at.invariant.flushes;
    }
