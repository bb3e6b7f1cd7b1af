-- The features that a class model writes: attributes, then pairs of ends.
use Rattle.std.proofs.Common.{◌≡◌, ℕ, zero, suc, ◌+◌, ◌<◌, List, [], ◌∷◌, ◌++◌, length, get_or, map, true, false, None, refl, ap, ◌∙◌, subst, arith}
use Rattle.std.specs.List.{AllByRecursion}
use Rattle.std.proofs.lemmas.Bool.{false≢true}
use Rattle.imkl_model.specs.declared.written.WrittenFeature.{WrittenFeature}
use Rattle.imkl_model.specs.declared.written.WrittenClass.{WrittenClass}
use Rattle.imkl_model.specs.declared.written.WrittenAssociation.{WrittenAssociation}
use Rattle.imkl_model.specs.declared.written.Written.{Written}
use Rattle.imkl_model.specs.declared.feature.Role.{Role}
use Rattle.imkl_model.specs.declared.feature.Role.TheVariants as role
use Rattle.imkl_model.specs.WrittenFeatures.{written_attribute_of, written_source_end, written_opposite_end, written_attributes, written_ends, written_features}
use Rattle.imkl_model.specs.Features.{is_end}
use Rattle.imkl_model.specs.Spelled.{IsSpelledFeature, IsSpelledAttribute, IsSpelledClass, IsSpelledAssociation, IsSpelled}
use Rattle.ocl_base.proofs.ForAbove.{from_all, all_joined, all_mapped}

abbrev pub no_written : WrittenFeature
no_written = record { owner = []; name = []; element = []; lower = 0; upper = None; ordered = false; unique = false; role = role.Attribute }

abbrev pub at : List WrittenFeature → ℕ → WrittenFeature
at xs j = get_or xs j no_written

-- a source end at place j and its opposite end after it, in a list that begins with feature b
pub record PairAt (xs : List WrittenFeature) (b j : ℕ) : Type 0 where
  pub within : suc j < length xs
  pub source : (at xs j).role ≡ role.SourceEnd (suc (b + j))
  pub opposite : (at xs (suc j)).role ≡ role.OppositeEnd (b + j)
  pub there : (at xs j).element ≡ (at xs (suc j)).owner
  pub back : (at xs (suc j)).element ≡ (at xs j).owner

pub record ArePairs (xs : List WrittenFeature) (b : ℕ) : Type 0 where
  pub sources : (j g : ℕ) → j < length xs → (at xs j).role ≡ role.SourceEnd g → PairAt xs b j
  pub opposites : (j g : ℕ) → j < length xs → (at xs j).role ≡ role.OppositeEnd g → (i : ℕ) × (j ≡ suc i) × PairAt xs b i

shifted : (x : WrittenFeature) (xs : List WrittenFeature) (b j : ℕ) → PairAt xs (suc b) j → PairAt (x ∷ xs) b (suc j)
shifted x xs b j h = record {
  within = omega (arith, h.within);
  source = h.source ∙ ap (λ (k : ℕ). role.SourceEnd (suc k)) (omega arith);
  opposite = h.opposite ∙ ap (λ (k : ℕ). role.OppositeEnd k) (omega arith);
  there = h.there;
  back = h.back;
}

source_attribute : (g : ℕ) (r : Role) → r ≡ role.Attribute → r ≡ role.SourceEnd g → ⊥
source_attribute g r a s = cc

opposite_attribute : (g : ℕ) (r : Role) → r ≡ role.Attribute → r ≡ role.OppositeEnd g → ⊥
opposite_attribute g r a s = cc

source_opposite : (n g : ℕ) → role.OppositeEnd n ≡ role.SourceEnd g → ⊥
source_opposite n g e = cc

opposite_source : (n g : ℕ) → role.SourceEnd n ≡ role.OppositeEnd g → ⊥
opposite_source n g e = cc

attribute_sources : (x : WrittenFeature) (xs : List WrittenFeature) (b : ℕ) → x.role ≡ role.Attribute → ArePairs xs (suc b) → (j g : ℕ) → j < length (x ∷ xs) → (at (x ∷ xs) j).role ≡ role.SourceEnd g → PairAt (x ∷ xs) b j
attribute_sources x xs b a h zero g lt e = absurd (source_attribute g x.role a e)
attribute_sources x xs b a h (suc j) g lt e = shifted x xs b j (h.sources j g (omega (arith, lt)) e)

attribute_opposites : (x : WrittenFeature) (xs : List WrittenFeature) (b : ℕ) → x.role ≡ role.Attribute → ArePairs xs (suc b) → (j g : ℕ) → j < length (x ∷ xs) → (at (x ∷ xs) j).role ≡ role.OppositeEnd g → (i : ℕ) × (j ≡ suc i) × PairAt (x ∷ xs) b i
attribute_opposites x xs b a h zero g lt e = absurd (opposite_attribute g x.role a e)
attribute_opposites x xs b a h (suc j) g lt e = let w = h.opposites j g (omega (arith, lt)) e in (suc w.0, ap suc w.1, shifted x xs b w.0 w.2)

first_pair : (n : ℕ) (a : WrittenAssociation) (rest : List WrittenFeature) → PairAt (written_source_end n a ∷ written_opposite_end n a ∷ rest) n zero
first_pair n a rest = record {
  within = omega arith;
  source = ap (λ (k : ℕ). role.SourceEnd k) (omega arith);
  opposite = ap (λ (k : ℕ). role.OppositeEnd k) (omega arith);
  there = refl;
  back = refl;
}

end_sources : (n : ℕ) (a : WrittenAssociation) (rest : List WrittenFeature) → ArePairs rest (suc (suc n)) → (j g : ℕ) → j < length (written_source_end n a ∷ written_opposite_end n a ∷ rest) → (at (written_source_end n a ∷ written_opposite_end n a ∷ rest) j).role ≡ role.SourceEnd g → PairAt (written_source_end n a ∷ written_opposite_end n a ∷ rest) n j
end_sources n a rest h zero g lt e = first_pair n a rest
end_sources n a rest h (suc zero) g lt e = absurd (source_opposite n g e)
end_sources n a rest h (suc (suc j)) g lt e = shifted (written_source_end n a) (written_opposite_end n a ∷ rest) n (suc j) (shifted (written_opposite_end n a) rest (suc n) j (h.sources j g (omega (arith, lt)) e))

end_opposites : (n : ℕ) (a : WrittenAssociation) (rest : List WrittenFeature) → ArePairs rest (suc (suc n)) → (j g : ℕ) → j < length (written_source_end n a ∷ written_opposite_end n a ∷ rest) → (at (written_source_end n a ∷ written_opposite_end n a ∷ rest) j).role ≡ role.OppositeEnd g
    → (i : ℕ) × (j ≡ suc i) × PairAt (written_source_end n a ∷ written_opposite_end n a ∷ rest) n i
end_opposites n a rest h zero g lt e = absurd (opposite_source (n + 1) g e)
end_opposites n a rest h (suc zero) g lt e = (zero, refl, first_pair n a rest)
end_opposites n a rest h (suc (suc j)) g lt e =
    let w = h.opposites j g (omega (arith, lt)) e in
    (suc (suc w.0), ap (λ (k : ℕ). suc (suc k)) w.1, shifted (written_source_end n a) (written_opposite_end n a ∷ rest) n (suc w.0) (shifted (written_opposite_end n a) rest (suc n) w.0 w.2))

ends_paired : (as' : List WrittenAssociation) (n : ℕ) → ArePairs (written_ends n as') n
ends_paired [] n = record { sources = λ j g lt e. absurd (omega (arith, lt)); opposites = λ j g lt e. absurd (omega (arith, lt)) }
ends_paired (a ∷ as') n =
    let rest = written_ends (n + 2) as' in
    let later : ArePairs rest (suc (suc n)) = subst (ArePairs rest) (omega arith) (ends_paired as' (n + 2)) in
    record { sources = end_sources n a rest later; opposites = end_opposites n a rest later }

joined : (xs : List WrittenFeature) → AllByRecursion (λ d. d.role ≡ role.Attribute) xs → (ys : List WrittenFeature) (b n : ℕ) → n ≡ b + length xs → ArePairs ys n → ArePairs (xs ++ ys) b
joined [] h ys b n e pairs = subst (ArePairs ys) (omega (arith, e)) pairs
joined (x ∷ xs) h ys b n e pairs =
    let later = joined xs h.1 ys (suc b) n (omega (arith, e)) pairs in
    record { sources = attribute_sources x (xs ++ ys) b h.0 later; opposites = attribute_opposites x (xs ++ ys) b h.0 later }

all_of_map : {X : Type 0} (Q : WrittenFeature → Type 0) (f : X → WrittenFeature) → ((x : X) → Q (f x)) → (xs : List X) → AllByRecursion Q (map f xs)
all_of_map Q f each [] = tt
all_of_map Q f each (x ∷ xs) = (each x, all_of_map Q f each xs)

attributes : (cs : List WrittenClass) → AllByRecursion (λ d. d.role ≡ role.Attribute) (written_attributes cs)
attributes [] = tt
attributes (c ∷ cs) = all_joined (λ (d : WrittenFeature). d.role ≡ role.Attribute) (map (written_attribute_of c.name) c.attributes) (written_attributes cs) (all_of_map (λ d. d.role ≡ role.Attribute) (written_attribute_of c.name) (λ a. refl) c.attributes) (attributes cs)

-- the ends that a model writes come in pairs: a source end, and its opposite end right after it
pub paired : (w : Written) → ArePairs (written_features w) 0
paired w =
    let xs = written_attributes w.classes in
    joined xs (attributes w.classes) (written_ends (length xs) w.associations) 0 (length xs) (omega arith) (ends_paired w.associations (length xs))

-- ---- ends are unique

abbrev pub IsUniqueEnd : WrittenFeature → Type 0
IsUniqueEnd d = is_end d.role ≡ true → d.unique ≡ true

attributes_unique : (cs : List WrittenClass) → AllByRecursion IsUniqueEnd (written_attributes cs)
attributes_unique [] = tt
attributes_unique (c ∷ cs) = all_joined IsUniqueEnd (map (written_attribute_of c.name) c.attributes) (written_attributes cs) (all_of_map IsUniqueEnd (written_attribute_of c.name) (λ a e. absurd (false≢true e)) c.attributes) (attributes_unique cs)

ends_unique : (n : ℕ) (as' : List WrittenAssociation) → AllByRecursion IsUniqueEnd (written_ends n as')
ends_unique n [] = tt
ends_unique n (a ∷ as') = (λ e. refl, (λ e. refl, ends_unique (n + 2) as'))

-- each end that a model writes is unique
pub all_unique : (w : Written) → AllByRecursion IsUniqueEnd (written_features w)
all_unique w = all_joined IsUniqueEnd (written_attributes w.classes) (written_ends (length (written_attributes w.classes)) w.associations) (attributes_unique w.classes) (ends_unique (length (written_attributes w.classes)) w.associations)

-- ---- names are names, and bounds are small

abbrev pub IsSpelledWritten : WrittenFeature → Type 0
IsSpelledWritten d = IsSpelledFeature d.name d.lower d.upper

attributes_spelled : (cs : List WrittenClass) → AllByRecursion IsSpelledClass cs → AllByRecursion IsSpelledWritten (written_attributes cs)
attributes_spelled [] h = tt
attributes_spelled (c ∷ cs) h =
    all_joined IsSpelledWritten (map (written_attribute_of c.name) c.attributes) (written_attributes cs)
    (all_mapped IsSpelledAttribute IsSpelledWritten (written_attribute_of c.name) (λ a g. g) c.attributes (from_all IsSpelledAttribute c.attributes h.0.1)) (attributes_spelled cs h.1)

ends_spelled : (n : ℕ) (as' : List WrittenAssociation) → AllByRecursion IsSpelledAssociation as' → AllByRecursion IsSpelledWritten (written_ends n as')
ends_spelled n [] h = tt
ends_spelled n (a ∷ as') h = (h.0.1, (h.0.2, ends_spelled (n + 2) as' h.1))

-- where what a model writes is spelled well, its features have names that are names and small bounds
pub all_spelled : (w : Written) → IsSpelled w → AllByRecursion IsSpelledWritten (written_features w)
all_spelled w h =
    all_joined IsSpelledWritten (written_attributes w.classes) (written_ends (length (written_attributes w.classes)) w.associations) (attributes_spelled w.classes (from_all IsSpelledClass w.classes h.2))
    (ends_spelled (length (written_attributes w.classes)) w.associations (from_all IsSpelledAssociation w.associations h.3))
