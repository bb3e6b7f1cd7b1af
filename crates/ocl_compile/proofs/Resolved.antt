-- Uses one after another: the first ones, and those after them.
use Rattle.std.proofs.Common.{List, [], ◌∷◌, ◌++◌}
use Rattle.imkl_model.specs.ClassModel.{Model}
use Rattle.rule_code.specs.Content.{Content}
use Rattle.ocl_compile.specs.Numbering.{Numbering, Use}
use Rattle.ocl_compile.specs.ResolvedUses.{AreUsesResolved}

-- of uses one after another, the first ones
pub of_first : (m : Model) (u : Content) (n : Numbering) (us vs : List Use) → AreUsesResolved m u n (us ++ vs) → AreUsesResolved m u n us
of_first m u n [] vs h = tt
of_first m u n (x ∷ us) vs h = (h.0, of_first m u n us vs h.1)

-- and those after them
pub of_rest : (m : Model) (u : Content) (n : Numbering) (us vs : List Use) → AreUsesResolved m u n (us ++ vs) → AreUsesResolved m u n vs
of_rest m u n [] vs h = h
of_rest m u n (x ∷ us) vs h = of_rest m u n us vs h.1
