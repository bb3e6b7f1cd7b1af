use Rattle.std.proofs.Common.{◌≡◌, ◌∙◌, ◌<◌, All, ap, arith, length, length-append, refl, subst, sym}
use Rattle.imkl_model.specs.ClassModel.{Model}
use Rattle.imkl_population.specs.declared.store.Segment.{Segment}
use Rattle.imkl_population.specs.Instances.{conforming, inhabited}
use Rattle.imkl_population.proofs.Gathering.{conforming-instances, conforming-known, conforming-same, inhabited-known}
use Rattle.imkl_population.proofs.Ranges.{class_more}
use Rattle.imkl_population.proofs.instances.instances.Goals as goal

pub loop-class-init : goal.loop-class-init
loop-class-init c = record {
  so_long = ap length c.new-ranges.ensures.items;
  parts = λ k lt. absurd (omega (arith, lt));
  shared = c.no_lists-shared.ensures c.args.builder.now;
}

pub classes_below-requires-clause-classes : goal.classes_below-requires-clause-classes
classes_below-requires-clause-classes c =
    let p = c.args.builder.now in
    let lists = c.in_ok-members.members.direct.items in
    let classes = c.deref-in-loop-class.result.now in
    let are : classes ≡ inhabited lists = c.deref-in-loop-class.ensures.value ∙ c.in_ok-inhabited.ensures ∙ ap inhabited c.deref.ensures.value in
    subst (λ (m : Model). All (λ d. d < length m.classes) classes) (sym c.model-in-loop-class.ensures) (inhabited-known lists classes (length p.model.classes) c.in_ok-members.ensures.direct.count are)

pub range_of-requires-clause-classes : goal.range_of-requires-clause-classes
range_of-requires-clause-classes c =
    let p = c.args.builder.now in
    let lists = c.in_ok-members.members.direct.items in
    let classes = c.deref-in-loop-class.result.now in
    let sources = c.in_ok-sources.sources.items in
    let are : classes ≡ inhabited lists = c.deref-in-loop-class.ensures.value ∙ c.in_ok-inhabited.ensures ∙ ap inhabited c.deref.ensures.value in
    let found : sources ≡ conforming p.model (inhabited lists) c.loop-class.class =
    conforming-same c.model-in-loop-class.result.now p.model classes (inhabited lists) sources c.new.result c.loop-class.class c.in_ok-sources.ensures c.model-in-loop-class.ensures are c.new.ensures in
    conforming-known p.model lists sources c.loop-class.class (length lists) refl found

pub loop-class-preserved : goal.loop-class-preserved
loop-class-preserved c =
    let p = c.args.builder.now in
    let lists = c.in_ok-members.members.direct.items in
    let classes = c.deref-in-loop-class.result.now in
    let sources = c.in_ok-sources.sources.items in
    let are : classes ≡ inhabited lists = c.deref-in-loop-class.ensures.value ∙ c.in_ok-inhabited.ensures ∙ ap inhabited c.deref.ensures.value in
    let found : sources ≡ conforming p.model (inhabited lists) c.loop-class.class =
    conforming-same c.model-in-loop-class.result.now p.model classes (inhabited lists) sources c.new.result c.loop-class.class c.in_ok-sources.ensures c.model-in-loop-class.ensures are c.new.ensures in
    record {
      so_long = omega (arith, c.loop-class.invariant.so_long, ap length c.in_ok-push.ensures.items, length-append {A = Segment});
      parts = class_more p c.loop-class.shared.list.items c.range_of.new.lists.list.items sources c.loop-class.ranges.items c.push.new.self.items c.loop-class.class c.in_ok-range.range
          c.loop-class.invariant.so_long c.loop-class.invariant.parts c.in_ok-range.ensures.kept c.in_ok-range.ensures.range
          (conforming-instances p lists sources c.loop-class.class c.in_ok-members.ensures.direct found) c.in_ok-push.ensures.items;
      shared = c.in_ok-range.ensures.shared;
    }
