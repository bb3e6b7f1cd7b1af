use Rattle.std.proofs.Common.{◌≡◌, ℕ, Bool, List, [], ◌∷◌, ◌++◌, length, Some, position, cond, sym, ap, ◌∙◌, subst, rules}
use Rattle.std.specs.Ordering.{is_eq}
use Rattle.rule_verify.specs.declared.named.Named.{Named}
use Rattle.ocl_compile.specs.declared.symbols.Key.{Key}
use Rattle.ocl_compile.specs.contracts.symbols.KeyOrd.TheImpl.{cmp-value}
use Rattle.ocl_compile.specs.Numbering.{same_named}
use Rattle.ocl_compile.specs.NumbersView.{FindsPlaces, key_of, number_at}
use Rattle.ocl_compile.proofs.Keys.{keys_tied}
use Rattle.ocl_compile.proofs.Resolving.{same_is}
use Rattle.ocl_compile.proofs.Places.{place_learned}
use Rattle.ocl_compile.proofs.symbols.Symbols.push.Goals as goal

-- src/symbols.rt
pub invariant_of-self-2 : goal.invariant_of-self-2
invariant_of-self-2 c =
    let symbols = c.self.inside.symbols.items in
    let symbol = c.args.symbol in
    let find = number_at c.self.inside.numbers in
    let learned = number_at c.insert.new.self in
    let count : c.len.result ≡ length symbols = search rules in
    let learns : (y : Named) → learned y ≡ cond (same_named symbol y) (Some (length symbols)) (find y) = λ y.
    c.in_ok-insert.ensures.updates.0 (key_of y)
    ∙ ap (λ (k : Key). cond (is_eq (cmp-value.it k (key_of y))) (Some c.len.result) (find y)) c.key_of.ensures
    ∙ ap (λ (b : Bool). cond b (Some c.len.result) (find y)) (keys_tied symbol y)
    ∙ ap (λ (n : ℕ). cond (same_named symbol y) (Some n) (find y)) count in
    let longer : c.push.new.self.items ≡ symbols ++ symbol ∷ [] =
    c.in_ok-push.ensures.items ∙ ap (λ (xs : List Named). xs ++ symbol ∷ []) c.in_ok-reserve.ensures.items in
    subst (λ (xs : List Named). FindsPlaces same_named xs learned) (sym longer)
    (place_learned same_named same_is symbols symbol find learned c.self.invariant (ap (λ (xs : List Named). position (same_named symbol) xs) c.self.view_is ∙ c.requires) learns)
