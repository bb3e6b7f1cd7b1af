use Rattle.std.proofs.Common.{◌≡◌, ◌+◌, sym, ap, ◌∙◌, map}
use Rattle.std.specs.Prelude.{slice_range}
use Rattle.ocl_base.specs.Lists.{is_among}
use Rattle.rule_slots.specs.declared.slot.Home.TheVariants as home
use Rattle.rule_slots.specs.Slots.{lists_in, home_named, index_slot, scalar_slots}
use Rattle.rule_slots.specs.Compared.{same_slots}
use Rattle.rule_slots.proofs.Parts.{scalar_part_from, instance_part_from, pool_part_from}
use Rattle.rule_slots.proofs.elements.find_in_list.Goals as goal

pub returns-in-Scalars : goal.returns-in-Scalars
returns-in-Scalars c =
    let s = c.args.source in
    let l = lists_in c.args.lists in
    let same = same_slots l c.args.kind in
    let at : home_named s.list ≡ home.Scalars = sym c.home_named.ensures ∙ c.in-Scalars.is in
    c.find_in_scalars.ensures
    ∙ ap (λ xs. is_among same (scalar_slots (s.start + c.args.first) (slice_range xs (s.start + c.args.first) (s.start + s.count))) c.args.slot) c.scalars-scalars.ensures
    ∙ sym (ap (λ ys. is_among same ys c.args.slot) (scalar_part_from (home_named s.list) l c.args.pool.now s.start s.count c.args.first at c.requires.first))

pub returns-in-Instances : goal.returns-in-Instances
returns-in-Instances c =
    let s = c.args.source in
    let l = lists_in c.args.lists in
    let same = same_slots l c.args.kind in
    let at : home_named s.list ≡ home.Instances = sym c.home_named.ensures ∙ c.in-Instances.is in
    c.find_in_objects.ensures
    ∙ ap (λ xs. is_among same (map index_slot (slice_range xs (s.start + c.args.first) (s.start + s.count))) c.args.slot) c.instances-instances.ensures
    ∙ sym (ap (λ ys. is_among same ys c.args.slot) (instance_part_from (home_named s.list) l c.args.pool.now s.start s.count c.args.first at c.requires.first))

pub returns-in-Pool : goal.returns-in-Pool
returns-in-Pool c =
    let s = c.args.source in
    let l = lists_in c.args.lists in
    let at : home_named s.list ≡ home.Pool = sym c.home_named.ensures ∙ c.in-Pool.is in
    c.find_in_slots.ensures
    ∙ sym (ap (λ ys. is_among (same_slots l c.args.kind) ys c.args.slot) (pool_part_from (home_named s.list) l c.args.pool.now s.start s.count c.args.first at c.requires.first))
