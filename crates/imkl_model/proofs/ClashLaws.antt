-- Clashes of features.
use Rattle.std.proofs.Common.{◌≡◌, ◌≢◌, ℕ, ◌<◌, ◌&&◌, not, Bool, true, false, eqb, length, Decides, refl}
use Rattle.std.proofs.lemmas.Bool.{false≢true, eqb-false, ne_eqb, not-true, not_from_false}
use Rattle.std.proofs.lemmas.Slice.Eq.{bytes_eq-Decides}
use Rattle.imkl_model.specs.Chains.{any_below}
use Rattle.imkl_model.specs.ClassModel.{Model, supers, feature_at, is_named, belongs, clashes, has_clash, IsClash}
use Rattle.imkl_model.proofs.Warshall.{is_or_reaches-decides}
use Rattle.imkl_model.proofs.Below.{any_found, found_any}

-- the four parts of a clash
pub parts : (a b c d : Bool) → (a && b && c && d) ≡ true → (a ≡ true) × (b ≡ true) × (c ≡ true) × (d ≡ true)
parts true true true true e = (refl, refl, refl, refl)
parts true true true false e = absurd (false≢true e)
parts true true false d e = absurd (false≢true e)
parts true false c d e = absurd (false≢true e)
parts false b c d e = absurd (false≢true e)

-- a clash from its four parts
pub joined : (a b c d : Bool) → a ≡ true → b ≡ true → c ≡ true → d ≡ true → (a && b && c && d) ≡ true
joined a b c d ea eb ec ed = rw (ea, eb, ec, ed) refl

-- numbers that the test tells apart differ
pub different : (a b : ℕ) → not (eqb a b) ≡ true → a ≢ b
different a b h = eqb-false a b (not-true (eqb a b) h)

-- numbers that differ are told apart by the test
pub unequal : (a b : ℕ) → a ≢ b → not (eqb a b) ≡ true
unequal a b ne = not_from_false (eqb a b) (ne_eqb a b ne)

-- two features for which the test of a clash passes do clash
pub clash_of : (m : Model) (c f g : ℕ) → c < length m.classes → f < length m.features → g < length m.features → clashes m c f g ≡ true → IsClash m c f g
clash_of m c f g lc lf lg h =
    let p = parts (is_named m (feature_at m f).name g) (not (eqb (feature_at m f).owner (feature_at m g).owner)) (belongs m c f) (belongs m c g) h in
    record {
      class = lc;
      first = lf;
      second = lg;
      one_name = (bytes_eq-Decides (feature_at m f).name (feature_at m g).name).0 p.0;
      two_owners = different (feature_at m f).owner (feature_at m g).owner p.1;
      first_belongs = (is_or_reaches-decides (supers m) c (feature_at m f).owner).0 p.2;
      second_belongs = (is_or_reaches-decides (supers m) c (feature_at m g).owner).0 p.3;
    }

-- the test passes for two features that clash
pub clash_is : (m : Model) (c f g : ℕ) → IsClash m c f g → clashes m c f g ≡ true
clash_is m c f g h =
    joined (is_named m (feature_at m f).name g) (not (eqb (feature_at m f).owner (feature_at m g).owner)) (belongs m c f) (belongs m c g)
    ((bytes_eq-Decides (feature_at m f).name (feature_at m g).name).1 h.one_name) (unequal (feature_at m f).owner (feature_at m g).owner h.two_owners)
    ((is_or_reaches-decides (supers m) c (feature_at m f).owner).1 h.first_belongs) ((is_or_reaches-decides (supers m) c (feature_at m g).owner).1 h.second_belongs)

-- a clash is found where one is
pub clash_found : (m : Model) (c f g : ℕ) → c < length m.classes → f < length m.features → g < length m.features → clashes m c f g ≡ true → has_clash m ≡ true
clash_found m c f g lc lf lg h =
    any_found (λ c. any_below (λ f. any_below (λ g. clashes m c f g) (length m.features)) (length m.features)) (length m.classes) c lc
    (any_found (λ f. any_below (λ g. clashes m c f g) (length m.features)) (length m.features) f lf
    (any_found (λ g. clashes m c f g) (length m.features) g lg h))

-- a model that has a clash by the test has two features that clash in a class
pub found_clash : (m : Model) → has_clash m ≡ true → (c f g : ℕ) × IsClash m c f g
found_clash m h =
    let w = found_any (λ c. any_below (λ f. any_below (λ g. clashes m c f g) (length m.features)) (length m.features)) (length m.classes) h in
    let u = found_any (λ f. any_below (λ g. clashes m w.0 f g) (length m.features)) (length m.features) w.2 in
    let v = found_any (λ g. clashes m w.0 u.0 g) (length m.features) u.2 in
    (w.0, u.0, v.0, clash_of m w.0 u.0 v.0 w.1 u.1 v.1 v.2)

-- the test `has_clash` decides whether two features clash in a class
pub clash-decides : (m : Model) → Decides (has_clash m) ((c f g : ℕ) × IsClash m c f g)
clash-decides m = (found_clash m, λ h. clash_found m h.0 h.1 h.2 h.3.class h.3.first h.3.second (clash_is m h.0 h.1 h.2 h.3))
