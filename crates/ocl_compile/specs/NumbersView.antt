-- How texts and symbols are numbered in memory.
use Rattle.std.specs.Prelude.{◌≡◌, ℕ, Bool, List, Option, position}
use Rattle.std.specs.BTreeMap.{BTreeMap, get}
use Rattle.rule_verify.specs.declared.named.Named.{Named}
use Rattle.rule_verify.specs.declared.named.Named.TheVariants as named
use Rattle.ocl_compile.specs.declared.symbols.Key.{Key}
use Rattle.ocl_compile.specs.declared.symbols.Key.TheVariants as keys
use Rattle.ocl_compile.specs.contracts.symbols.KeyOrd.TheImpl.{cmp-value}

-- a look-up gives the place in a list of each that stands there
abbrev pub FindsPlaces : {A : Type 0} → (A → A → Bool) → List A → (A → Option ℕ) → Type 0
FindsPlaces {A} same xs find = (x : A) → find x ≡ position (same x) xs

-- a symbol by its numbers
abbrev pub key_of : Named → Key
key_of (named.Class c) = keys.Class c
key_of (named.Enumeration e) = keys.Enumeration e
key_of (named.Feature c f) = keys.Feature c f
key_of (named.Literal e l) = keys.Literal e l

-- the number of a symbol
abbrev pub number_at : BTreeMap Key ℕ → Named → Option ℕ
number_at numbers x = get cmp-value.it numbers (key_of x)
