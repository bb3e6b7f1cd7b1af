-- A delivery describes one population, whatever old names its class model has.
use Rattle.std.proofs.Common.{◌≡◌, ◌∙◌, ℕ, zero, suc, Bool, true, false, List, length, Option, Some, None, Result, Ok, Err, refl, ap, bytes_eq, if◌then◌else◌}
use Rattle.std.specs.Option.{option_or}
use Rattle.serde_json.specs.Data.{Data, Members}
use Rattle.serde_json.specs.Find.{as_str, get_member}
use Rattle.ocl_base.specs.Steps.{◌>>=◌, found}
use Rattle.imkl_model.specs.declared.feature.Role.{Role}
use Rattle.imkl_model.specs.declared.feature.Role.TheVariants.{Attribute, SourceEnd, OppositeEnd}
use Rattle.imkl_model.specs.ClassModel.{Model, Renames, class_number, feature_at, belongs}
use Rattle.imkl_population.specs.declared.fault.PopulationFault.{PopulationFault}
use Rattle.imkl_population.specs.declared.fault.PopulationFault.TheVariants.{WrongKind}
use Rattle.imkl_population.specs.Population.{Population, class_of, object_number}
use Rattle.imkl_population.specs.Building.{unless, object_fault, with_object, value_fault, with_values, link_fault, as_objects, add_outcome, set_outcome, link_outcome}
use Rattle.imkl_population.specs.Finishing.{gap, end_fault, first_object_fault, finish_outcome}
use Rattle.imkl_delivery.specs.declared.fault.DeliveryFault.{DeliveryFault}
use Rattle.imkl_delivery.specs.declared.fault.DeliveryFault.TheVariants as fault
use Rattle.imkl_delivery.specs.Steps.{steps, at_object}
use Rattle.imkl_delivery.specs.Document.{Written, Document, document_from}
use Rattle.imkl_delivery.specs.Scalars.{is_absent, member_values, scalar_from, all_found}
use Rattle.imkl_delivery.specs.Loading.{entry_at, add_entry, are_features, left_out, put_values, put_targets, put_by, put_member, put_members, finish, empty, add_entries, put_entries, population_from, describes_population}
use Rattle.old_name_laws.specs.OldNames.{with_old_names, population_with, described_with}
use Rattle.old_name_laws.proofs.Values.{ends_alike}

module _ (r : Renames) where
  abbrev Outcome : Type 0
  Outcome = Result Population DeliveryFault

  abbrev same : Population → Population
  same p = population_with r p

  abbrev also : Outcome → Outcome
  also x = described_with r x

  -- a step that goes on alike from populations that differ in old names
  abbrev GoesOn : (Population → Outcome) → Type 0
  GoesOn f = (p : Population) → f (same p) ≡ also (f p)

  -- ---- parts of a step

  after : (f : Population → Outcome) → GoesOn f → (x : Outcome) → (also x >>= f) ≡ also (x >>= f)
  after f goes (Ok p) = goes p
  after f goes (Err e) = refl

  where_found : {A : Type 0} (o : Option A) (e : DeliveryFault) (f g : A → Outcome) → ((a : A) → f a ≡ also (g a)) → (found o e >>= f) ≡ also (found o e >>= g)
  where_found None e f g goes = refl
  where_found (Some a) e f g goes = goes a

  either : (b : Bool) (x y v w : Outcome) → x ≡ also v → y ≡ also w → (if b then x else y) ≡ also (if b then v else w)
  either true x y v w first second = first
  either false x y v w first second = second

  built : (o : ℕ) (e : Option PopulationFault) (p : Population) → at_object o (unless e (same p)) ≡ also (at_object o (unless e p))
  built o None p = refl
  built o (Some e) p = refl

  finished : (e : Option PopulationFault) (p : Population) → finish (unless e (same p)) ≡ also (finish (unless e p))
  finished None p = refl
  finished (Some e) p = refl

  -- ---- entries

  entry_added : (o : ℕ) (w : Written) → GoesOn (add_entry o w)
  unfolding add_entry
  entry_added o w p =
      where_found (class_number p.model w.class) (fault.UnknownClass o) (λ c. at_object o (add_outcome (same p) w.id c)) (λ c. at_object o (add_outcome p w.id c))
      (λ c. built o (object_fault p w.id c) (with_object p w.id c))

  values_put : (o f : ℕ) (ds : List Data) → GoesOn (put_values o f ds)
  unfolding put_values
  values_put o f ds p =
      where_found (all_found (scalar_from p.model (feature_at p.model f).element) ds) (fault.Population o WrongKind) (λ vs. at_object o (set_outcome (same p) o f vs)) (λ vs. at_object o (set_outcome p o f vs))
      (λ vs. built o (value_fault p o f (feature_at p.model f) vs) (with_values p o f vs))

  targets_put : (o f : ℕ) (ds : List Data) → GoesOn (put_targets o f ds)
  unfolding put_targets
  targets_put o f ds p =
      where_found (all_found as_str ds) (fault.Population o WrongKind)
      (λ ids. found (all_found (object_number (same p)) ids) (fault.UnknownTarget o) >>= λ ts. at_object o (link_outcome (same p) o f ts))
      (λ ids. found (all_found (object_number p) ids) (fault.UnknownTarget o) >>= λ ts. at_object o (link_outcome p o f ts))
      (λ ids. where_found (all_found (object_number p) ids) (fault.UnknownTarget o) (λ ts. at_object o (link_outcome (same p) o f ts)) (λ ts. at_object o (link_outcome p o f ts))
      (λ ts. built o (link_fault p o f (feature_at p.model f) (as_objects ts)) (with_values p o f (as_objects ts))))

  nothing_put : (o f : ℕ) → GoesOn (λ p. left_out o f (feature_at p.model f) p)
  nothing_put o f p = either _ _ _ _ _ refl refl

  put_by_role : (role : Role) (o f : ℕ) (v : Option Data) → GoesOn (put_by role o f v)
  put_by_role Attribute o f v p = either (is_absent v) _ _ _ _ (nothing_put o f p) (values_put o f (member_values v) p)
  put_by_role (SourceEnd g) o f v p = either (is_absent v) _ _ _ _ (nothing_put o f p) (targets_put o f (member_values v) p)
  put_by_role (OppositeEnd g) o f v p = either (is_absent v) _ _ _ _ refl refl

  member_put : (o : ℕ) (ms : Members) (f : ℕ) → GoesOn (put_member o ms f)
  unfolding put_member
  member_put o ms f p =
      either (belongs p.model (class_of p o) f) _ _ _ _ (put_by_role (feature_at p.model f).role o f (get_member (feature_at p.model f).name ms) p) refl

  -- steps one after another
  stepped : (f : ℕ → Population → Outcome) → ((k : ℕ) → GoesOn (f k)) → (n : ℕ) → GoesOn (steps f n)
  unfolding steps
  stepped f goes zero p = refl
  stepped f goes (suc n) p = ap (λ (x : Outcome). x >>= f n) (stepped f goes n p) ∙ after (f n) (goes n) (steps f n p)

  members_put : (o : ℕ) (ms : Members) → GoesOn (put_members o ms)
  unfolding put_members
  members_put o ms p =
      either (are_features p.model (class_of p o) ms) _ _ _ _ (stepped (put_member o ms) (member_put o ms) (length p.model.features) p) refl

  -- ---- the whole

  population_made : (m : Model) (ws : List Written) → population_from (with_old_names r m) ws ≡ also (population_from m ws)
  unfolding population_from
  population_made m ws =
      let added : add_entries ws (same (empty m)) ≡ also (add_entries ws (empty m)) = stepped (λ o. add_entry o (entry_at ws o)) (λ o. entry_added o (entry_at ws o)) (length ws) (empty m) in
      let put : GoesOn (put_entries ws) = stepped (λ o. put_members o (entry_at ws o).features) (λ o. members_put o (entry_at ws o).features) (length ws) in
      let ends : GoesOn (λ q. finish (finish_outcome q)) =
      λ q. ap (λ (e : Option PopulationFault). finish (unless (option_or (first_object_fault gap q) e) (same q))) (ends_alike r q)
      ∙ finished (option_or (first_object_fault gap q) (first_object_fault end_fault q)) q in
      let rest : GoesOn (λ p. put_entries ws p >>= λ q. finish (finish_outcome q)) =
      λ p. ap (λ (x : Outcome). x >>= λ q. finish (finish_outcome q)) (put p) ∙ after (λ q. finish (finish_outcome q)) ends (put_entries ws p) in
      ap (λ (x : Outcome). x >>= λ p. put_entries ws p >>= λ q. finish (finish_outcome q)) added
      ∙ after (λ p. put_entries ws p >>= λ q. finish (finish_outcome q)) rest (add_entries ws (empty m))

  document_read : (m : Model) (x : Result Document DeliveryFault)
      → (x >>= λ d. if bytes_eq d.model m.name then population_from (with_old_names r m) d.entries else Err fault.OtherModel)
      ≡ also (x >>= λ d. if bytes_eq d.model m.name then population_from m d.entries else Err fault.OtherModel)
  document_read m (Err e) = refl
  document_read m (Ok d) = either (bytes_eq d.model m.name) _ _ _ _ (population_made m d.entries) refl

  -- a document describes one population, whatever old names its class model has
  pub described_alike : (m : Model) (d : Data) → describes_population (with_old_names r m) d ≡ described_with r (describes_population m d)
  unfolding describes_population
  described_alike m d = document_read m (document_from d)
