-- What the crates above cite: everything is there in what operations and iterations give.
pub use Rattle.owned_values.proofs.There.{if_there, known_there, integer_there, on_integers_there, on_integer_there, substring_there, unless_there, on_object_there, as_collection_there, on_elements_there, on_element_there, summation_there, as_set_there, element_there, kept_there, collected_there, joined_there, enumeration_there, instances_there, read_there}
