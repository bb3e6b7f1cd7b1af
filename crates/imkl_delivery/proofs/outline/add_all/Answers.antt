use Rattle.std.proofs.Common.{◌≡◌, ◌∙◌, List, Some, None, refl, subst, arith}
use Rattle.json.specs.Token.{Token}
use Rattle.json.specs.Json.{after_end_array}
use Rattle.imkl_delivery.specs.Straight.{IsHead}
use Rattle.imkl_delivery.proofs.Listed.{none_added, one_added, all_added}
use Rattle.imkl_delivery.proofs.outline.add_all.Goals as goal

pub loop-place-init : goal.loop-place-init
loop-place-init c = record {
  model = refl;
  added = λ all r h. none_added all r c.args.reader.now c.args.builder.now h;
}

pub returns-then-take_end_array-clause-added : goal.returns-then-take_end_array-clause-added
returns-then-take_end_array-clause-added c = λ all r h.
    let l = c.loop-place in
    let over : after_end_array l.reader ≡ Some c.take_end_array.new.self = grind arith in
    all_added all r l.place c.args.builder.now l.reader c.take_end_array.new.self l.builder (l.invariant.added all r h) over

pub loop-place-preserved : goal.loop-place-preserved
loop-place-preserved c =
    let l = c.loop-place in
    let e = c.in_ok-head.head in
    let going : (after_end_array l.reader ≡ None) × (c.take_end_array.new.self ≡ l.reader) = grind arith in
    let head : IsHead e.id.now e.class.now l.reader c.take_entry.new.reader = subst (λ (x : List Token). IsHead e.id.now e.class.now x c.take_entry.new.reader) going.1 c.in_ok-head.ensures in
    record {
      model = c.add.ensures.model ∙ l.invariant.model;
      added = λ all r h. one_added all r l.place c.args.builder.now l.reader c.take_entry.new.reader l.builder c.add.new.builder e.id.now e.class.now (l.invariant.added all r h) going.0 head c.in_ok-add.ensures.added;
    }
