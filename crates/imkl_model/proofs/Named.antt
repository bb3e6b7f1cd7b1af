-- The features of a name.
use Rattle.std.proofs.Common.{◌≡◌, ℕ, ◌<◌, ◌+◌, ◌&&◌, true, false, List, [], ◌∷◌, ◌++◌, length, get_or, Option, Some, None, refl, sym, subst, ◌∙◌, add-one, cond, bytes_eq, eqb, inl, inr, if◌then◌else◌}
use Rattle.std.proofs.lemmas.List.{get_or_read, append-nil}
use Rattle.std.proofs.lemmas.Bool.{cases_Bool}
use Rattle.std.proofs.lemmas.Slice.Eq.{bytes_eq-Decides}
use Rattle.std.specs.Cmp.Lexicographic.{nat_list_eq_equiv}
use Rattle.std.specs.Option.{option_or}
use Rattle.imkl_model.specs.declared.feature.FeatureInfo.{FeatureInfo}
use Rattle.ocl_base.specs.Numbers.{places, least}
use Rattle.imkl_model.specs.ClassModel.{is_named_in, is_own_in, no_feature}
use Rattle.imkl_model.specs.Held.{Group, IsGroup, own_in}

option_or-none : (o : Option ℕ) → o ≡ option_or o None
option_or-none None = refl
option_or-none (Some x) = refl

module _ (fs : List FeatureInfo) (n : ℕ) (f : FeatureInfo) (lt : n < length fs) (is : f ≡ get_or fs n f) where
  feature_is : get_or fs n no_feature ≡ f
  feature_is = sym (get_or_read fs n f lt is no_feature)

  places_more : (q : List ℕ) → places (is_named_in fs q) (n + 1) ≡ places (is_named_in fs q) n ++ (if bytes_eq q f.name then n ∷ [] else [])
  places_more q = rw (add-one, feature_is) refl

  own_more : (q : List ℕ) (c : ℕ) → least (is_own_in fs q c) (n + 1) ≡ option_or (least (is_own_in fs q c) n) (if bytes_eq q f.name && eqb f.owner c then Some n else None)
  own_more q c = rw (add-one, feature_is) refl

  taken : (here pushed : Group) → IsGroup fs n f.name here → pushed.numbers ≡ here.numbers ++ n ∷ []
      → ((c : ℕ) → own_in pushed c ≡ option_or (own_in here c) (if eqb f.owner c then Some n else None)) → IsGroup fs (n + 1) f.name pushed
  taken here pushed of_name numbers own =
      let same : bytes_eq f.name f.name ≡ true = (bytes_eq-Decides f.name f.name).1 refl in
      record {
        numbers = rw (numbers, of_name.numbers, places_more f.name, same) refl;
        own = λ c. rw (own c, of_name.own c, own_more f.name c, same) refl;
      }

  kept : (q : List ℕ) (old : Group) → bytes_eq q f.name ≡ false → IsGroup fs n q old → IsGroup fs (n + 1) q old
  kept q old apart of_q =
      record {
        numbers = rw (of_q.numbers, places_more q, apart) (sym (append-nil (places (is_named_in fs q) n)));
        own = λ c. rw (of_q.own c, own_more q c, apart) (option_or-none (least (is_own_in fs q c) n));
      }

  -- the group of its name takes the next feature, and the others stay
  pub next_group : (q : List ℕ) (here pushed old new : Group) → IsGroup fs n f.name here → IsGroup fs n q old
      → pushed.numbers ≡ here.numbers ++ n ∷ [] → ((c : ℕ) → own_in pushed c ≡ option_or (own_in here c) (if eqb f.owner c then Some n else None))
      → new ≡ cond (bytes_eq f.name q) pushed old → IsGroup fs (n + 1) q new
  next_group q here pushed old new of_name of_q numbers own is_new =
      elim (cases_Bool (bytes_eq f.name q)) [
        | inl e ↦
            let same : f.name ≡ q = (bytes_eq-Decides f.name q).0 e in
            let at_q : IsGroup fs (n + 1) q pushed = subst (λ (name : List ℕ). IsGroup fs (n + 1) name pushed) same (taken here pushed of_name numbers own) in
            let new_is : new ≡ pushed = is_new ∙ rw e refl in
            subst (λ (g : Group). IsGroup fs (n + 1) q g) (sym new_is) at_q
        | inr e ↦
            let new_is : new ≡ old = is_new ∙ rw e refl in
            subst (λ (g : Group). IsGroup fs (n + 1) q g) (sym new_is) (kept q old (nat_list_eq_equiv.symm q f.name ∙ e) of_q)
      ]
