use Rattle.std.proofs.Common.{◌≡◌, ◌∙◌, ℕ, List, Some, None, refl, subst, arith}
use Rattle.json.specs.Token.{Token}
use Rattle.json.specs.Json.{after_end_array}
use Rattle.imkl_delivery.specs.Straight.{IsEntryPut}
use Rattle.imkl_delivery.proofs.Listed.{none_put, one_put, all_put}
use Rattle.imkl_delivery.proofs.writing.put_all.Goals as goal

pub loop-place-init : goal.loop-place-init
loop-place-init c = record {
  kept = record { model = refl; count = refl };
  room = refl;
  none = c.requires.none;
  same = refl;
  put = none_put c.args.reader.now c.args.builder.now;
}

pub loop-place-preserved : goal.loop-place-preserved
loop-place-preserved c =
    let l = c.loop-place in
    let new = c.put_entry.new.reader in
    let u = c.put_entry.new.builder in
    let going : (after_end_array l.reader ≡ None) × (c.take_end_array.new.self ≡ l.reader) = grind arith in
    let here : IsEntryPut l.place c.take_end_array.new.self l.builder new u = subst (λ (o : ℕ). IsEntryPut o c.take_end_array.new.self l.builder new u) c.new.ensures c.in_ok-put_entry.ensures.put in
    let put : IsEntryPut l.place l.reader l.builder new u = subst (λ (x : List Token). IsEntryPut l.place x l.builder new u) going.1 here in
    record {
      kept = record { model = c.put_entry.ensures.kept.model ∙ l.invariant.kept.model; count = c.put_entry.ensures.kept.count ∙ l.invariant.kept.count };
      room = c.put_entry.ensures.room ∙ l.invariant.room;
      none = c.in_ok-put_entry.ensures.none;
      same = c.put_entry.ensures.same ∙ l.invariant.same;
      put = one_put c.args.reader.now l.place c.args.builder.now l.reader new l.builder u l.invariant.put going.0 put;
    }

pub returns-then-take_end_array-2 : goal.returns-then-take_end_array-2
returns-then-take_end_array-2 c =
    let l = c.loop-place in
    let over : after_end_array l.reader ≡ Some c.take_end_array-2.new.self = grind arith in
    all_put c.args.reader.now l.place c.args.builder.now l.reader c.take_end_array-2.new.self l.builder l.invariant.put over
