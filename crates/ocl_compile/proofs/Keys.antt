-- Symbols are compared by their keys.
use Rattle.std.proofs.Common.{◌≡◌, ℕ, ◌&&◌, ◌==◌, Bool, refl, sym, ap, ◌∙◌, nat_cmp}
use Rattle.std.specs.Cmp.{tied_then, unsigned_tied}
use Rattle.std.specs.Ordering.{is_eq, ordering_then}
use Rattle.rule_verify.specs.declared.named.Named.{Named}
use Rattle.rule_verify.specs.declared.named.Named.TheVariants as named
use Rattle.ocl_compile.specs.contracts.symbols.KeyOrd.TheImpl.{cmp-value}
use Rattle.ocl_compile.specs.Numbering.{same_named}
use Rattle.ocl_compile.specs.NumbersView.{key_of}

pairs_tied : (c f d g : ℕ) → is_eq (ordering_then (nat_cmp c d) (nat_cmp f g)) ≡ (c == d && f == g)
pairs_tied c f d g =
    sym (tied_then (nat_cmp c d) (nat_cmp f g))
    ∙ ap (λ (b : Bool). b && is_eq (nat_cmp f g)) (unsigned_tied c d)
    ∙ ap (λ (b : Bool). c == d && b) (unsigned_tied f g)

-- keys are equal where they are those of the same symbol
pub keys_tied : (x y : Named) → is_eq (cmp-value.it (key_of x) (key_of y)) ≡ same_named x y
keys_tied (named.Class c) (named.Class d) = unsigned_tied c d
keys_tied (named.Class c) (named.Enumeration d) = refl
keys_tied (named.Class c) (named.Feature d g) = refl
keys_tied (named.Class c) (named.Literal d g) = refl
keys_tied (named.Enumeration c) (named.Class d) = refl
keys_tied (named.Enumeration c) (named.Enumeration d) = unsigned_tied c d
keys_tied (named.Enumeration c) (named.Feature d g) = refl
keys_tied (named.Enumeration c) (named.Literal d g) = refl
keys_tied (named.Feature c f) (named.Class d) = refl
keys_tied (named.Feature c f) (named.Enumeration d) = refl
keys_tied (named.Feature c f) (named.Feature d g) = pairs_tied c f d g
keys_tied (named.Feature c f) (named.Literal d g) = refl
keys_tied (named.Literal c f) (named.Class d) = refl
keys_tied (named.Literal c f) (named.Enumeration d) = refl
keys_tied (named.Literal c f) (named.Feature d g) = refl
keys_tied (named.Literal c f) (named.Literal d g) = pairs_tied c f d g
