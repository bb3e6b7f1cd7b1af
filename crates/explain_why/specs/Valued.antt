-- The value of a tree by itself, as OCL writes it.
use Rattle.std.specs.Prelude.{ℕ, List, [], ◌∷◌, Option, Some, None}
use Rattle.imkl_population.specs.Population.{Population}
use Rattle.ocl_core.specs.Core.{CoreTree}
use Rattle.rule_values.specs.Value.{Value, Invalid, object_value}
use Rattle.ocl_semantics.specs.Meaning.{meaning}
use Rattle.explain_why.specs.Values.{value_text}

-- what `self` is: an object, or invalid where there is none
abbrev pub self_value : Option ℕ → Value
self_value None = Invalid
self_value (Some o) = object_value o

-- what a tree whose one variable is `self` means
abbrev pub valued_text : Population → CoreTree → Option ℕ → List ℕ
valued_text p t o = value_text p (meaning p t (self_value o ∷ []))
