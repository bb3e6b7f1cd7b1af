-- What the crates above cite: slots keep their meaning under a pool that is the same below their ends, what the elements
-- of parts of lists are, which slots stand for the population's values, and what operands are by their kinds.
pub use Rattle.rule_slots.proofs.Pool.{range_same, part_same, slot_same, slots_same, less, grows, is_cut, is_replaced, kept_more}
pub use Rattle.rule_slots.proofs.Parts.{range_read, scalar_at, map_at, range_none, range_more, scalars_more, instances_more, range_long, scalar_slots_long, part_long}
pub use Rattle.rule_slots.proofs.Stood.{slots_long, elements_long, elements_join, as_many, element_next, element_slot, none_left, one_scalar, scalars_are, instances_are, all_is, part_of_text}
pub use Rattle.rule_slots.proofs.Made.{truth_by, invalid_by, known_is, truth_is}
pub use Rattle.rule_slots.proofs.Taken.{truth_operand, number_operand, text_operand, many_operand, lies_within, compares_within}
