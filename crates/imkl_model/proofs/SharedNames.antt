-- Rows of the classes that features belong to, and what two of them have in common.
use Rattle.std.proofs.Common.{◌≡◌, ◌∙◌, ℕ, ◌<◌, ◌&&◌, Bool, true, false, List, [], length, Option, Some, None, is_some, IfSome, refl, sym}
use Rattle.std.specs.List.{list_any}
use Rattle.std.proofs.lemmas.Bool.{and_from}
use Rattle.imkl_model.specs.Chains.{any_below}
use Rattle.imkl_model.specs.ClassModel.{Model, belongs}
use Rattle.imkl_model.specs.Tables.{has_mark}
use Rattle.imkl_model.specs.Groups.{features_named, is_shared}
use Rattle.imkl_model.proofs.Below.{any_found, any_none}

and_false : (b : Bool) → (b && false) ≡ false
and_false true = refl
and_false false = refl

-- a name of no feature of the second model is not shared
pub not_shared : (a m : Model) (name : List ℕ) → features_named m name ≡ [] → is_shared a m name ≡ false
not_shared a m name none = any_none (λ c. list_any (belongs a c) (features_named a name) && list_any (belongs m c) (features_named m name)) (length m.classes) (λ c lt. rw none (and_false (list_any (belongs a c) (features_named a name))))

-- two rows have a mark in common just where some number passes both tests
pub common_passes : (p q : ℕ → Bool) (n : ℕ) (xs ys : List Bool) (o : Option ℕ) → ((c : ℕ) → c < n → has_mark xs c ≡ p c) → ((c : ℕ) → c < n → has_mark ys c ≡ q c)
    → IfSome o (λ c. (c < n) × (has_mark xs c ≡ true) × (has_mark ys c ≡ true)) → (o ≡ None → (c : ℕ) → (has_mark xs c && has_mark ys c) ≡ false) → is_some o ≡ any_below (λ c. p c && q c) n
common_passes p q n xs ys (Some c) left right found none =
    sym (any_found (λ k. p k && q k) n c found.0 (and_from (p c) (q c) (sym (left c found.0) ∙ found.1) (sym (right c found.0) ∙ found.2)))
common_passes p q n xs ys None left right found none =
    sym (any_none (λ k. p k && q k) n (λ c lt. rw (sym (left c lt), sym (right c lt)) (none refl c)))
