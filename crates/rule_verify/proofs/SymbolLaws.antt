-- What is read of resolved units.
use Rattle.std.proofs.Common.{◌≡◌, ℕ, get_or, ◌<◌, ◌≤◌, List, length, Option, Some, None, map, refl, sym, ap, ◌∙◌, subst, IfSome, arith}
use Rattle.std.specs.Prelude.{slice_get, option_and_then}
use Rattle.std.specs.Option.{option_map}
use Rattle.std.proofs.lemmas.List.{length-map}
use Rattle.std.proofs.lemmas.Option.{slice_get_past, slice_get_read, slice_get-map}
use Rattle.imkl_model.specs.ClassModel.{Model}
use Rattle.rule_verify.proofs.Stretches.{named_known}
use Rattle.rule_code.specs.Content.{Content}
use Rattle.rule_verify.specs.declared.named.Named.{Named}
use Rattle.rule_verify.specs.Symbols.{named_by, named_at}
use Rattle.rule_verify.specs.Known.{IsKnownName}
use Rattle.rule_verify.specs.Resolved.{ResolvedUnit, resolved_unit}

joined : {X Y : Type 0} (f : X → Option Y) (o : Option X) (r : Option Y) → option_map f o ≡ Some r → option_and_then f o ≡ r
joined f (Some x) r e = cc
joined f None r e = cc

-- a name in the table is what the symbol of its number names
pub name_read : (m : Model) (u : Content) (names : List (Option Named)) (n i : ℕ) (r : Option Named) → names ≡ map (named_by m u.texts) u.symbols → i ≡ n → i < length names → r ≡ get_or names i r → named_at m u n ≡ r
name_read m u names n i r is e within read =
    let here = slice_get_read names (length names) i r refl within read in
    let there = ap (λ (l : List (Option Named)). slice_get l i) (sym is) ∙ here in
    ap (named_at m u) (sym e) ∙ joined (named_by m u.texts) (slice_get u.symbols i) r (sym (slice_get-map (named_by m u.texts) u.symbols i) ∙ there)

-- a number past the table names nothing
pub nothing_named : (v : ResolvedUnit) (m : Model) (u : Content) (names : List (Option Named)) (n i : ℕ) → resolved_unit m u ≡ v → names ≡ map (named_by m u.texts) u.symbols → i ≡ n → length names ≤ i → None ≡ named_at v.model v.unit n
nothing_named v m u names n i same is e past =
    let beyond : length u.symbols ≤ n = omega (arith, e, past, ap length is, length-map u.symbols (named_by m u.texts)) in
    subst (λ (x : ResolvedUnit). None ≡ named_at x.model x.unit n) same (sym (ap (option_and_then (named_by m u.texts)) (slice_get_past u.symbols n beyond)))

-- what is read from the table of names is something that the class model has
pub known_read : (v : ResolvedUnit) (m : Model) (u : Content) (names : List (Option Named)) (n i : ℕ) (r : Option Named) → resolved_unit m u ≡ v → names ≡ map (named_by m u.texts) u.symbols → i ≡ n → i < length names → r ≡ get_or names i r → IfSome r (IsKnownName v.model)
known_read v m u names n i r same is e within read =
    subst (λ (x : ResolvedUnit). IfSome r (IsKnownName x.model)) same (subst (λ (o : Option Named). IfSome o (IsKnownName m)) (name_read m u names n i r is e within read) (named_known m u n))
