use Rattle.std.proofs.Common.{◌≡◌, ◌++◌, List, ℕ, sym, ap, ◌∙◌}
use Rattle.imkl_population.specs.declared.sharing.SharedLists.{SharedLists}
use Rattle.imkl_population.specs.Instances.{Begins, IsRangeOf, objects_of_classes}
use Rattle.imkl_population.proofs.Ranges.{range-new, shared-more}
use Rattle.imkl_population.proofs.sharing.range_of.Goals as goal

pub returns-in-Some-clause-range : goal.returns-in-Some-clause-range
returns-in-Some-clause-range c = c.requires.shared c.args.classes c.in-Some.range.now (sym c.in-Some.ensures.value)

pub returns-clause-shared : goal.returns-clause-shared
returns-clause-shared c =
    let p = c.args.builder.now in
    let old = c.args.lists.now in
    let new : SharedLists = record { list = c.add_objects.new.list; ranges = c.insert.new.self } in
    let classes = c.args.classes in
    let grown : new.list.items ≡ old.list.items ++ objects_of_classes p classes.items =
    c.in_ok-range.ensures.grown ∙ ap (λ (l : List ℕ). old.list.items ++ objects_of_classes p l) c.deref.ensures.value in
    let begins : Begins old.list.items new.list.items = (objects_of_classes p classes.items, grown) in
    let here : IsRangeOf p new.list.items classes.items c.in_ok-range.range = range-new p old.list.items new.list.items classes.items c.in_ok-range.range grown c.in_ok-range.ensures.range in
    shared-more p old new classes c.in_ok-range.range c.requires.shared begins here c.in_ok-insert.ensures.updates.0
