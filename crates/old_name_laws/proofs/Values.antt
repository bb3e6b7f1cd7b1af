-- What is read of a population doesn't depend on old names.
use Rattle.std.proofs.Common.{◌≡◌, ℕ, zero, suc, ◌&&◌, length, max, Some, None, refl, if◌then◌else◌}
use Rattle.imkl_model.specs.declared.feature.Role.{Role}
use Rattle.imkl_model.specs.declared.feature.Role.TheVariants.{Attribute, SourceEnd, OppositeEnd}
use Rattle.imkl_model.specs.Features.{is_opposite}
use Rattle.imkl_model.specs.ClassModel.{Renames, feature_at, belongs}
use Rattle.imkl_population.specs.declared.scalar.Scalar.TheVariants as scalar
use Rattle.imkl_population.specs.Population.{Population, class_of, values_by, values_of}
use Rattle.imkl_population.specs.Building.{bounds_fault}
use Rattle.imkl_population.specs.Numbers.{first_below}
use Rattle.imkl_population.specs.Finishing.{end_fault, first_object_fault}
use Rattle.imkl_population.specs.Sizes.{list_below, count_of, longest_below, is_unbounded, longest_of, sizes_of}
use Rattle.rule_values.specs.Value as value
use Rattle.rule_values.specs.Value.{Value}
use Rattle.rule_values.specs.Operations.{feature_value, value_read}
use Rattle.old_name_laws.specs.OldNames.{with_old_names, population_with}

module _ (r : Renames) (p : Population) where
  values_by_alike : (role : Role) (o f : ℕ) → values_by role (population_with r p) o f ≡ values_by role p o f
  values_by_alike Attribute o f = refl
  values_by_alike (SourceEnd g) o f = refl
  values_by_alike (OppositeEnd g) o f = refl

  values_alike : (o f : ℕ) → values_of (population_with r p) o f ≡ values_of p o f
  values_alike o f = values_by_alike (feature_at p.model f).role o f

  -- ---- faults of opposite ends

  end_alike : (o f : ℕ) → end_fault (population_with r p) o f ≡ end_fault p o f
  end_alike o f =
      λ j. if belongs p.model (class_of p o) f && is_opposite (feature_at p.model f).role
      then bounds_fault (feature_at p.model f) o f (length (values_alike o f j))
      else None

  -- opposite ends have the same first fault
  pub ends_alike : first_object_fault end_fault (population_with r p) ≡ first_object_fault end_fault p
  ends_alike = λ j. first_below (λ o. first_below (λ f. end_alike o f j) (length p.model.features)) (length p.objects)

  -- ---- sizes

  longest_below_alike : (f n : ℕ) → longest_below (population_with r p) f n ≡ longest_below p f n
  longest_below_alike f zero = refl
  longest_below_alike f (suc o) = λ j. max (longest_below_alike f o j) (length (values_alike o f j))

  longest_alike : (f : ℕ) → longest_of (population_with r p) f ≡ longest_of p f
  longest_alike f = λ j. if is_unbounded (feature_at p.model f) then longest_below_alike f (length p.objects) j else 0

  -- the sizes are the same
  pub sizes_alike : sizes_of (population_with r p) ≡ record (sizes_of p) { model = with_old_names r p.model }
  sizes_alike =
      λ j. record {
        model = with_old_names r p.model;
        counts = list_below (count_of p) (length p.model.classes);
        longest = list_below (λ f. longest_alike f j) (length p.model.features);
      }

  -- ---- reads

  -- the same is read at a feature of an object
  pub read_alike : (f : ℕ) (v : Value) → value_read (population_with r p) f v ≡ value_read p f v
  read_alike f (value.Single (scalar.Object o)) =
      λ j. if belongs p.model (class_of p o) f then Some (feature_value (feature_at p.model f) (values_alike o f j)) else None
  read_alike f v = refl
