-- The values that a set of values holds.
use Rattle.std.specs.Prelude.{◌≡◌, ◌||◌, Bool, true, encode_utf8_all}
use Rattle.std.specs.Str.{all_scalars}
use Rattle.std.specs.Ordering.{nat_cmp, int_cmp, bool_cmp, ordering_then}
use Rattle.std.specs.BTreeSet.{contains, contains_text}
use Rattle.imkl_population.specs.declared.scalar.Scalar.{Scalar}
use Rattle.imkl_population.specs.declared.scalar.Scalar.TheVariants as scalar
use Rattle.imkl_population.specs.declared.repeats.Seen.{Seen}
use Rattle.imkl_population.specs.Values.{same_scalar}

abbrev pub has_seen : Seen → Scalar → Bool
has_seen s (scalar.Bool b) = contains bool_cmp s.truths b
has_seen s (scalar.Int n) = contains int_cmp s.integers n
has_seen s (scalar.Text t) = contains_text s.texts (encode_utf8_all t)
has_seen s (scalar.Literal e l) = contains (λ p q. ordering_then (nat_cmp p.0 q.0) (nat_cmp p.1 q.1)) s.literals (e, l)
has_seen s (scalar.Object o) = contains nat_cmp s.objects o

-- the characters of a text are Unicode scalar values, as those of each text of the program are
abbrev pub is_encodable : Scalar → Bool
is_encodable (scalar.Text t) = all_scalars t
is_encodable v = true

-- one value more is seen
abbrev pub SeesMore : Seen → Scalar → Seen → Type 0
SeesMore old value new = (w : Scalar) → is_encodable w ≡ true → has_seen new w ≡ (has_seen old w || same_scalar w value)
