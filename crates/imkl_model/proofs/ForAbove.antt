-- What the crates above cite: what the public laws say.
pub use Rattle.imkl_model.proofs.Warshall.{is_or_reaches-decides}
pub use Rattle.imkl_model.proofs.Cycles.{cyclic-decides}
pub use Rattle.imkl_model.proofs.ClashLaws.{clash-decides}
pub use Rattle.imkl_model.proofs.ModelLaws.{conforms_to_itself, conforms_along, inherits, conforms_one_way, conforms_within, classes_have_names, enumerations_have_names, literals_have_names, features_have_names, types_differ, types_are_defined, associations_differ, supers_differ, has_names, within_limits, no_clash, features_are_sound, ends_are_paired}
pub use Rattle.imkl_model.proofs.Links.{linked_classes_are_there, linked_features_belong, present_classes_stay, present_features_stay, names_stay, no_old_clash}
