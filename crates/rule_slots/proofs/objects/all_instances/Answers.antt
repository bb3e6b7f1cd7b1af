use Rattle.std.proofs.Common.{length}
use Rattle.ocl_base.specs.declared.collection_kind.CollectionKind.TheVariants as collection
use Rattle.imkl_population.specs.Population.{instances}
use Rattle.rule_slots.specs.Slots.{lists_in}
use Rattle.rule_slots.proofs.Stood.{instances_range}
use Rattle.rule_slots.proofs.objects.all_instances.Goals as goal

pub returns : goal.returns
returns c = λ pool.
    let range = c.instance_range-start in
    instances_range (lists_in c.args.lists) pool (length pool) collection.Set c.part_slot.result range.result.0 range.result.1 (instances c.args.lists.population.now.content c.args.class) c.part_slot.ensures range.ensures.ordered range.ensures.within range.ensures.instances
