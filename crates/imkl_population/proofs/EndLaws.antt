-- The opposite ends that are collected, as the values of their features.
use Rattle.std.proofs.Common.{◌≡◌, ℕ, ◌<◌, true, false, List, [], length, refl, sym, ap, ◌∙◌, get_or}
use Rattle.std.proofs.lemmas.Bool.{false≢true}
use Rattle.imkl_model.specs.declared.feature.Role.{Role}
use Rattle.imkl_model.specs.declared.feature.Role.TheVariants.{Attribute, SourceEnd, OppositeEnd}
use Rattle.imkl_model.specs.ClassModel.{Model, feature_at, belongs}
use Rattle.imkl_population.specs.declared.scalar.Scalar.{Scalar}
use Rattle.imkl_population.specs.Written.{written_in}
use Rattle.imkl_population.specs.Population.{Population, class_of, values_of, values_by, written_at}
use Rattle.imkl_model.specs.Features.{is_attribute, is_opposite}
use Rattle.imkl_population.specs.Building.{bounds_fault}
use Rattle.imkl_population.specs.Finishing.{end_fault}
use Rattle.imkl_population.specs.Ends.{AreEnds}
use Rattle.imkl_population.proofs.Soundness.{end_within}

no_attribute : (r : Role) → is_opposite r ≡ true → is_attribute r ≡ false
no_attribute Attribute h = absurd (false≢true h)
no_attribute (SourceEnd g) h = refl
no_attribute (OppositeEnd g) h = refl

by_role : (p : Population) (ends : List (List (ℕ × List Scalar))) → AreEnds p ends → (o f : ℕ) → f < length p.model.features → (r : Role) → (feature_at p.model f).role ≡ r → is_opposite r ≡ true
    → written_in (get_or ends f []) o ≡ values_by r p o f
by_role p ends a o f lt Attribute e h = absurd (false≢true h)
by_role p ends a o f lt (SourceEnd g) e h = absurd (false≢true h)
by_role p ends a o f lt (OppositeEnd source) e h = a f source lt e o

-- an opposite end is a feature of the model
end_inside : (m : Model) (f : ℕ) → is_opposite (feature_at m f).role ≡ true → f < length m.features
end_inside m f h = end_within m f (no_attribute (feature_at m f).role h)

-- the values of an opposite end are those collected
pub ends_values : (p : Population) (ends : List (List (ℕ × List Scalar))) → AreEnds p ends → (o f : ℕ) → is_opposite (feature_at p.model f).role ≡ true
    → written_in (get_or ends f []) o ≡ values_of p o f
ends_values p ends a o f h = by_role p ends a o f (end_inside p.model f h) (feature_at p.model f).role refl h

-- a count of what is collected against the bounds is the fault of the end
pub end_fault-counted : (p : Population) (ends : List (List (ℕ × List Scalar))) → AreEnds p ends → (o f n : ℕ) → belongs p.model (class_of p o) f ≡ true → is_opposite (feature_at p.model f).role ≡ true
    → n ≡ length (written_in (get_or ends f []) o) → bounds_fault (feature_at p.model f) o f n ≡ end_fault p o f
end_fault-counted p ends a o f n b h e =
    let count : n ≡ length (values_of p o f) = e ∙ ap length (ends_values p ends a o f h) in
    rw (b, h, count) refl

written_by : (p : Population) (o f : ℕ) (r : Role) → is_opposite r ≡ false → values_by r p o f ≡ written_at p o f
written_by p o f Attribute h = refl
written_by p o f (SourceEnd g) h = refl
written_by p o f (OppositeEnd source) h = absurd (false≢true (sym h))

-- the values of an attribute or a source end are those written
pub values_written : (p : Population) (o f : ℕ) → is_opposite (feature_at p.model f).role ≡ false → values_of p o f ≡ written_at p o f
values_written p o f h = written_by p o f (feature_at p.model f).role h
