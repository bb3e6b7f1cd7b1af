-- The features that a class model writes, in the model's order.
use Rattle.std.specs.Prelude.{ℕ, ◌+◌, List, [], ◌∷◌, ◌++◌, length, map, true}
use Rattle.imkl_model.specs.declared.written.WrittenAttribute.{WrittenAttribute}
use Rattle.imkl_model.specs.declared.written.WrittenClass.{WrittenClass}
use Rattle.imkl_model.specs.declared.written.WrittenAssociation.{WrittenAssociation}
use Rattle.imkl_model.specs.declared.written.WrittenFeature.{WrittenFeature}
use Rattle.imkl_model.specs.declared.written.Written.{Written}
use Rattle.imkl_model.specs.declared.feature.Role.TheVariants as role

abbrev pub written_attribute_of : List ℕ → WrittenAttribute → WrittenFeature
written_attribute_of owner a = record {
  owner = owner;
  name = a.name;
  element = a.element;
  lower = a.lower;
  upper = a.upper;
  ordered = a.ordered;
  unique = a.unique;
  role = role.Attribute;
}

-- the source end, where it is feature n: its owner is the class `from`, its elements are objects of the class `to`
abbrev pub written_source_end : ℕ → WrittenAssociation → WrittenFeature
written_source_end n a = record {
  owner = a.from;
  name = a.end.name;
  element = a.to;
  lower = a.end.lower;
  upper = a.end.upper;
  ordered = a.end.ordered;
  unique = true;
  role = role.SourceEnd (n + 1);
}

-- the opposite end of feature n
abbrev pub written_opposite_end : ℕ → WrittenAssociation → WrittenFeature
written_opposite_end n a = record {
  owner = a.to;
  name = a.opposite.name;
  element = a.from;
  lower = a.opposite.lower;
  upper = a.opposite.upper;
  ordered = a.opposite.ordered;
  unique = true;
  role = role.OppositeEnd n;
}

-- attributes class by class
abbrev pub written_attributes : List WrittenClass → List WrittenFeature
written_attributes [] = []
written_attributes (c ∷ cs) = map (written_attribute_of c.name) c.attributes ++ written_attributes cs

-- both ends of each association, from feature n on
abbrev pub written_ends : ℕ → List WrittenAssociation → List WrittenFeature
written_ends n [] = []
written_ends n (a ∷ as') = written_source_end n a ∷ written_opposite_end n a ∷ written_ends (n + 2) as'

abbrev pub written_features : Written → List WrittenFeature
written_features w = written_attributes w.classes ++ written_ends (length (written_attributes w.classes)) w.associations
