-- What an operand may be.
use Rattle.std.specs.Prelude.{◌&&◌, Bool, true, false, List, [], ◌∷◌}
use Rattle.imkl_model.specs.ClassModel.{Model}
use Rattle.ocl_kinds.specs.declared.kind.Kind.{Kind}
use Rattle.ocl_kinds.specs.declared.kind.Kind.TheVariants.{Scalar, Collection}
use Rattle.ocl_kinds.specs.declared.kind.ScalarKind.TheVariants as element
use Rattle.ocl_kinds.specs.Kinds.{IsScalarKindOf, IsKindOf, scalar_fits, fits}
use Rattle.rule_verify.specs.declared.pattern.Pattern.{Pattern}
use Rattle.rule_verify.specs.declared.pattern.Pattern.TheVariants.{Fitting, Anything, AnySingle, AnyCollection, CollectionOf}

-- an operand of this kind is what it may be
abbrev pub matches : Model → Pattern → Kind → Bool
matches m (Fitting w) k = fits m k w
matches m Anything k = true
matches m AnySingle (Scalar k) = true
matches m AnySingle (Collection c k) = false
matches m AnyCollection (Scalar k) = false
matches m AnyCollection (Collection c k) = true
matches m (CollectionOf w) (Scalar k) = false
matches m (CollectionOf w) (Collection c k) = scalar_fits m k w

abbrev pub a_boolean : Pattern
a_boolean = Fitting (Scalar element.Boolean)

abbrev pub an_integer : Pattern
an_integer = Fitting (Scalar element.Integer)

abbrev pub a_string : Pattern
a_string = Fitting (Scalar element.String)

abbrev pub an_object : Pattern
an_object = Fitting (Scalar element.AnyObject)

-- as many operands are there as are taken
abbrev pub are_there : List Pattern → List Kind → Bool
are_there [] ks = true
are_there (w ∷ ws) [] = false
are_there (w ∷ ws) (k ∷ ks) = are_there ws ks

-- each that is taken is what it may be
abbrev pub all_match : Model → List Pattern → List Kind → Bool
all_match m [] ks = true
all_match m (w ∷ ws) [] = false
all_match m (w ∷ ws) (k ∷ ks) = matches m w k && all_match m ws ks

-- the operands below those that are taken
abbrev pub below : List Pattern → List Kind → List Kind
below [] ks = ks
below (w ∷ ws) [] = []
below (w ∷ ws) (k ∷ ks) = below ws ks

-- ---- patterns of a class model: what they name is there

abbrev pub IsPatternOf : Model → Pattern → Type 0
IsPatternOf m (Fitting k) = IsKindOf m k
IsPatternOf m (CollectionOf k) = IsScalarKindOf m k
IsPatternOf m w = Unit {0}

abbrev pub ArePatterns : Model → List Pattern → Type 0
ArePatterns m [] = Unit {0}
ArePatterns m (w ∷ ws) = IsPatternOf m w × ArePatterns m ws
