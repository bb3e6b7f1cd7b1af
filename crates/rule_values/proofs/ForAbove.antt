-- What the crates above cite: kinds that values are in, and distinct elements.
pub use Rattle.rule_values.proofs.FittingKinds.{elements_fit_in, collection_fits_in, fits_in}
pub use Rattle.rule_values.proofs.ValueKinds.{IsSingle, fits_integer, integer_single, on_integers_single, on_integer_single, division_single, remainder_single, truth_single, unless_invalid_single, text_length_single, substring_single, on_object_single, on_elements_single, on_element_single, summation_single, membership_single, occurrence_count_single, inclusion_single, exclusion_single}
pub use Rattle.rule_values.proofs.Distinct.{distinct_apart, distinct_all, distinct_fewer, same_lists_length, different_lengths}
