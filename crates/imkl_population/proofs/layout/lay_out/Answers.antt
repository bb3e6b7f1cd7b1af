use Rattle.std.proofs.Common.{◌≡◌, ◌∙◌, List, All, ap, arith, length, subst, sym}
use Rattle.imkl_population.specs.Consistency.{IsConsistent}
use Rattle.imkl_population.specs.Ends.{AreEnds}
use Rattle.imkl_population.specs.Layout.{AreInstances, stored_content}
use Rattle.imkl_population.specs.Population.{Population}
use Rattle.imkl_population.specs.Store.{AreSegments, maps_in, maps_of, object_row}
use Rattle.imkl_population.proofs.Layouts.{Maps}
use Rattle.imkl_population.proofs.Placed.{ends-maps, ends-within, written-maps, written-within}
use Rattle.imkl_population.proofs.layout.lay_out.Goals as goal
use Rattle.imkl_population.proofs.layout.lay_out.Goals.{In_ok-ends}

-- the values at the ranges of what is written, and of the ends, are those of the columns
maps : (c : In_ok-ends) → maps_in c.into_ranges-2.new.list.items c.in_ok-written.written.items ≡ maps_of c.into_parts-heads.result.2
maps c =
    let all = c.into_ranges-2.new.list.items in
    ap (maps_in all) c.in_ok-written.ensures.ranges
    ∙ written-maps c.in_ok-scalars.scalars.items c.into_ranges.new.list.items all c.into_parts-heads.result.2 c.args.ends c.in_ok-written.ensures.moved c.in_ok-ends.ensures.moved c.within.ensures

maps_of_ends : (c : In_ok-ends) → maps_in c.into_ranges-2.new.list.items c.in_ok-ends.ends.items ≡ maps_of c.args.ends
maps_of_ends c =
    let all = c.into_ranges-2.new.list.items in
    ap (maps_in all) c.in_ok-ends.ensures.ranges
    ∙ ends-maps c.in_ok-scalars.scalars.items c.into_ranges.new.list.items all c.into_parts-heads.result.2 c.args.ends c.in_ok-written.ensures.moved c.in_ok-ends.ensures.moved c.within-2.ensures

pub returns : goal.returns
returns c = ap (stored_content c.into_parts-heads.result.0.now c.into_parts-heads.result.1.items) (maps c) ∙ c.into_parts-heads.ensures.content

pub invariant_of-result : goal.invariant_of-result
invariant_of-result c =
    let none = c.in_ok-scalars.scalars.items in
    let first = c.into_ranges.new.list.items in
    let all = c.into_ranges-2.new.list.items in
    let written = c.into_parts-heads.result.2 in
    let same = sym (returns c) in
    record {
      consistent = subst IsConsistent same c.requires.consistent;
      idle = λ o le.
          ap (λ (w : Maps). object_row w o) (maps c) ∙ c.into_parts-heads.ensures.idle o (omega (arith, le, ap (λ (p : Population). length p.objects) same));
      written_within = subst (λ (rs : List _). All (AreSegments (length all)) rs) (sym c.in_ok-written.ensures.ranges) (written-within none first all written c.args.ends c.in_ok-written.ensures.moved c.in_ok-ends.ensures.moved c.within.ensures);
      ends_within = subst (λ (rs : List _). All (AreSegments (length all)) rs) (sym c.in_ok-ends.ensures.ranges) (ends-within none first all written c.args.ends c.in_ok-written.ensures.moved c.in_ok-ends.ensures.moved c.within-2.ensures);
      derived = subst (λ (p : Population). AreEnds p (maps_in all c.in_ok-ends.ends.items)) same (subst (λ (w : Maps). AreEnds c.args.builder w) (sym (maps_of_ends c)) c.requires.ends);
      classes = c.in_ok-instances.ensures.0 ∙ ap (λ (p : Population). length p.model.classes) same;
      instances_are = subst (λ (p : Population). AreInstances p c.in_ok-instances.instances.items c.in_ok-instances.ranges.items (length p.model.classes)) same c.in_ok-instances.ensures.1;
    }
