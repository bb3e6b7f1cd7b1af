-- The kinds that operations give, whatever their operands.
use Rattle.std.proofs.Common.{◌≡◌, ℕ, ◌-◌, ◌<◌, ◌^◌, Bool, true, false, ◌&&◌, ◌||◌, List, length, Option, Some, None, refl, arith}
use Rattle.std.specs.Prelude.{ℤ, pos, negsuc, ◌-ℤ◌, ◌*ℤ◌, int_div, nat_le, slice_range, FitsSigned, if◌then◌else◌}
use Rattle.std.specs.Int.{w64}
use Rattle.std.specs.Ordering.{int_eq}
use Rattle.std.specs.Option.{option_map}
use Rattle.std.proofs.lemmas.Bool.{and_from, le-leb}
use Rattle.ocl_base.specs.Lists.{is_among}
use Rattle.imkl_population.specs.declared.scalar.Scalar.TheVariants as scalar
use Rattle.imkl_population.specs.Population.{Population}
use Rattle.imkl_population.specs.Values.{is_integer}
use Rattle.ocl_kinds.specs.declared.kind.Kind.TheVariants as kind
use Rattle.ocl_kinds.specs.declared.kind.ScalarKind.{ScalarKind}
use Rattle.ocl_kinds.specs.declared.kind.ScalarKind.TheVariants as element
use Rattle.rule_values.specs.Value as value
use Rattle.rule_values.specs.Value.{Element, Value, truth_value, same_element, is_in}
use Rattle.rule_values.specs.Equality.{occurrences}
use Rattle.rule_values.specs.Operations.{integer_value, on_integers, on_integer, division, remainder, truth_known, unless_invalid, is_invalid, text_length, characters, substring, on_object, on_elements, on_element, membership, occurrence_count, inclusion, exclusion, sum_of, or_invalid, summation}

abbrev pub IsSingle : Population → ScalarKind → Value → Type 0
IsSingle p k v = is_in p v (kind.Scalar k) ≡ true

-- a number of 64 bits is in range
pub fits_integer : (n : ℤ) → FitsSigned w64 n → is_integer n ≡ true
fits_integer (pos n) f = let lt : n < 2 ^ 63 = f.sfits in and_from _ _ refl (le-leb n (2 ^ 63 - 1) (omega (arith, lt)))
fits_integer (negsuc n) f = let lt : n < 2 ^ 63 = f.sfits in and_from _ _ (le-leb n (2 ^ 63 - 1) (omega (arith, lt))) refl

module _ (p : Population) where
  integer_by : (n : ℤ) (b : Bool) → is_integer n ≡ b → IsSingle p element.Integer (if b then value.Single (scalar.Int n) else value.Invalid)
  integer_by n true e = e
  integer_by n false e = refl

  -- a whole number is an Integer, or invalid where it is out of range
  pub integer_single : (n : ℤ) → IsSingle p element.Integer (integer_value n)
  integer_single n = integer_by n (is_integer n) refl

  -- what works on two integers gives a value of a kind where its function does
  pub on_integers_single : (k : ScalarKind) (f : ℤ → ℤ → Value) (v w : Value) → ((a b : ℤ) → IsSingle p k (f a b)) → IsSingle p k (on_integers f v w)
  on_integers_single k f (value.Single (scalar.Int a)) (value.Single (scalar.Int b)) h = h a b
  on_integers_single k f v w h = refl

  -- and so does what works on one
  pub on_integer_single : (k : ScalarKind) (f : ℤ → Value) (v : Value) → ((a : ℤ) → IsSingle p k (f a)) → IsSingle p k (on_integer f v)
  on_integer_single k f (value.Single (scalar.Int a)) h = h a
  on_integer_single k f v h = refl

  unless_zero : (b : Bool) (n : ℤ) → IsSingle p element.Integer (if b then value.Invalid else integer_value n)
  unless_zero true n = refl
  unless_zero false n = integer_single n

  -- a quotient is an Integer
  pub division_single : (v w : Value) → IsSingle p element.Integer (division v w)
  division_single v w = on_integers_single element.Integer _ v w (λ a b. unless_zero (int_eq b (pos 0)) (int_div a b))

  -- and so is a remainder
  pub remainder_single : (v w : Value) → IsSingle p element.Integer (remainder v w)
  remainder_single v w = on_integers_single element.Integer _ v w (λ a b. unless_zero (int_eq b (pos 0)) (a -ℤ (int_div a b *ℤ b)))

  -- what is known of a truth value is a Boolean
  pub truth_single : (a b : Bool) → IsSingle p element.Boolean (truth_known a b)
  truth_single true b = refl
  truth_single false true = refl
  truth_single false false = refl

  unless_by : (b t : Bool) → IsSingle p element.Boolean (if b then value.Invalid else truth_value t)
  unless_by true t = refl
  unless_by false t = refl

  -- a test of two values is a Boolean, or invalid
  pub unless_invalid_single : (v w : Value) (b : Bool) → IsSingle p element.Boolean (unless_invalid v w b)
  unless_invalid_single v w b = unless_by (is_invalid v || is_invalid w) b

  -- the length of a text is an Integer
  pub text_length_single : (v : Value) → IsSingle p element.Integer (text_length v)
  text_length_single (value.Single (scalar.Text t)) = integer_single (pos (length t))
  text_length_single v = refl

  text_by : (b : Bool) (t : List ℕ) → IsSingle p element.String (if b then value.Single (scalar.Text t) else value.Invalid)
  text_by true t = refl
  text_by false t = refl

  characters_single : (t : List ℕ) (a b : ℤ) → IsSingle p element.String (characters t a b)
  characters_single t (pos a) (pos b) = text_by (nat_le 1 a && nat_le a b && nat_le b (length t)) (slice_range t (a - 1) b)
  characters_single t a b = refl

  -- a part of a text is a String
  pub substring_single : (v lower upper : Value) → IsSingle p element.String (substring v lower upper)
  substring_single (value.Single (scalar.Text t)) lower upper = on_integers_single element.String (characters t) lower upper (λ a b. characters_single t a b)
  substring_single v lower upper = refl

  -- what works on an object gives a value of a kind where its function does
  pub on_object_single : (k : ScalarKind) (f : ℕ → Value) (v : Value) → ((o : ℕ) → IsSingle p k (f o)) → IsSingle p k (on_object f v)
  on_object_single k f (value.Single (scalar.Object o)) h = h o
  on_object_single k f v h = refl

  -- so does what works on the elements of a collection
  pub on_elements_single : (k : ScalarKind) (f : List Element → Value) (v : Value) → ((es : List Element) → IsSingle p k (f es)) → IsSingle p k (on_elements f v)
  on_elements_single k f (value.Collection c es) h = h es
  on_elements_single k f v h = refl

  -- and what works on one element
  pub on_element_single : (k : ScalarKind) (f : Element → Value) (v : Value) → ((e : Element) → IsSingle p k (f e)) → IsSingle p k (on_element f v)
  on_element_single k f value.Null h = h None
  on_element_single k f (value.Single v) h = h (Some v)
  on_element_single k f v h = refl

  sum_single : (o : Option ℤ) → IsSingle p element.Integer (or_invalid (option_map integer_value o))
  sum_single None = refl
  sum_single (Some n) = integer_single n

  -- the sum of a collection is an Integer
  pub summation_single : (v : Value) → IsSingle p element.Integer (summation v)
  summation_single v = on_elements_single element.Integer _ v (λ es. sum_single (sum_of es))

  -- whether an element is in a collection is a Boolean
  pub membership_single : (v w : Value) → IsSingle p element.Boolean (membership v w)
  membership_single v w = on_elements_single element.Boolean _ v (λ es. on_element_single element.Boolean (λ e. truth_value (is_among same_element es e)) w (λ e. refl))

  -- how often it is there is an Integer
  pub occurrence_count_single : (v w : Value) → IsSingle p element.Integer (occurrence_count v w)
  occurrence_count_single v w = on_elements_single element.Integer _ v (λ es. on_element_single element.Integer (λ e. integer_value (pos (occurrences es e))) w (λ e. integer_single (pos (occurrences es e))))

  -- whether all elements of one collection are in another is a Boolean
  pub inclusion_single : (v w : Value) → IsSingle p element.Boolean (inclusion v w)
  inclusion_single v w = on_elements_single element.Boolean _ v (λ es. on_elements_single element.Boolean _ w (λ fs. refl))

  -- and so is whether none is
  pub exclusion_single : (v w : Value) → IsSingle p element.Boolean (exclusion v w)
  exclusion_single v w = on_elements_single element.Boolean _ v (λ es. on_elements_single element.Boolean _ w (λ fs. refl))
