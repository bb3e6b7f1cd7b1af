use Rattle.std.proofs.Common.{◌≡◌, ◌≤◌, ◌+◌, Some, get_or, length, sym, ap, ◌∙◌, subst}
use Rattle.std.specs.Prelude.{slice_get, slice_range}
use Rattle.rule_slots.specs.declared.slot.Home.TheVariants as home
use Rattle.rule_slots.specs.Slots.{home_length, home_named, part_slots, index_slot, scalar_slot, lists_in}
use Rattle.rule_slots.proofs.Parts.{range_read, scalar_at, map_at}
use Rattle.rule_slots.proofs.reading.element_in.Goals as goal

pub returns-in-Scalars : goal.returns-in-Scalars
returns-in-Scalars c =
    let a = c.args in
    let s = a.source in
    let l = lists_in a.lists in
    let xs = a.lists.population.now.scalars in
    let d = c.index-scalars-place.result in
    let at : home_named s.list ≡ home.Scalars = c.requires.home ∙ c.in-Scalars.is in
    let le = subst (λ h. s.start + s.count ≤ home_length h l (length a.pool.now)) at c.requires.within in
    ap (λ h. slice_get (part_slots h l a.pool.now s.start s.count) a.index) at
    ∙ scalar_at s.start (slice_range xs s.start (s.start + s.count)) a.index (get_or xs (s.start + a.index) d) (range_read xs s.start s.count a.index d le c.requires.index)
    ∙ ap (λ v. Some (scalar_slot (s.start + a.index) v)) (sym (c.index-scalars-place.is ∙ ap (λ ys. get_or ys (s.start + a.index) d) c.scalars-scalars.ensures)) ∙ ap Some (sym c.scalar_slot.ensures)

pub returns-in-Instances : goal.returns-in-Instances
returns-in-Instances c =
    let a = c.args in
    let s = a.source in
    let l = lists_in a.lists in
    let xs = a.lists.population.now.instance_list in
    let d = c.index-instances-place.result in
    let at : home_named s.list ≡ home.Instances = c.requires.home ∙ c.in-Instances.is in
    let le = subst (λ h. s.start + s.count ≤ home_length h l (length a.pool.now)) at c.requires.within in
    ap (λ h. slice_get (part_slots h l a.pool.now s.start s.count) a.index) at
    ∙ map_at index_slot (slice_range xs s.start (s.start + s.count)) a.index (get_or xs (s.start + a.index) d) (range_read xs s.start s.count a.index d le c.requires.index)
    ∙ ap (λ v. Some (index_slot v)) (sym (c.index.ensures ∙ c.index-instances-place.is ∙ ap (λ ys. get_or ys (s.start + a.index) d) c.instances-instances.ensures)) ∙ ap Some (sym c.index_slot.ensures)

pub returns-in-Pool : goal.returns-in-Pool
returns-in-Pool c =
    let a = c.args in
    let s = a.source in
    let l = lists_in a.lists in
    let at : home_named s.list ≡ home.Pool = c.requires.home ∙ c.in-Pool.is in
    let le = subst (λ h. s.start + s.count ≤ home_length h l (length a.pool.now)) at c.requires.within in
    ap (λ h. slice_get (part_slots h l a.pool.now s.start s.count) a.index) at ∙ range_read a.pool.now s.start s.count a.index _ le c.requires.index
