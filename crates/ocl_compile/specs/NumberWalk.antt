-- What a tree uses is in the class model, what links use, and where numbering stops.
use Rattle.std.specs.Prelude.{◌≡◌, ◌<◌, ◌≤◌, List, false, Result, Ok, Err, length}
use Rattle.std.specs.List.{flat_map, list_any, AllByRecursion}
use Rattle.imkl_model.specs.ClassModel.{Model, enumeration_at, feature_at}
use Rattle.imkl_model.specs.WellFormed.{IsFeature}
use Rattle.ocl_core.specs.declared.core_tree.CoreLink.{CoreLink}
use Rattle.rule_verify.specs.declared.named.Named.{Named}
use Rattle.rule_verify.specs.declared.named.Named.TheVariants as named
use Rattle.ocl_compile.specs.declared.numbers.NumberFault.{NumberFault}
use Rattle.ocl_compile.specs.declared.numbers.NumberFault.TheVariants.{TooLarge, OutOfMemory}
use Rattle.ocl_compile.specs.Numbering.{Numbering, Use, UsedText, UsedSymbol, tree_uses}
use Rattle.ocl_compile.specs.declared.limits.TheConstants.{MAX_COUNTED}
use Rattle.ocl_compile.specs.Compiling.{is_long_text}
use Rattle.ocl_compile.specs.EmitWalk.{link_node}

abbrev pub IsNamedIn : Model → Named → Type 0
IsNamedIn m (named.Class c) = c < length m.classes
IsNamedIn m (named.Enumeration e) = e < length m.enumerations
IsNamedIn m (named.Feature c f) = IsFeature m f × (c ≡ (feature_at m f).owner)
IsNamedIn m (named.Literal e l) = (e < length m.enumerations) × (l < length (enumeration_at m e).literals)

abbrev pub IsUseOf : Model → Use → Type 0
IsUseOf m (UsedText t) = Unit {0}
IsUseOf m (UsedSymbol x) = IsNamedIn m x

abbrev pub AreUsesOf : Model → List Use → Type 0
AreUsesOf m us = AllByRecursion (IsUseOf m) us

-- what links use, whatever stands on their left
abbrev pub links_uses : Model → List CoreLink → List Use
links_uses m links = flat_map (λ l. tree_uses m (link_node l)) links

-- as many texts and symbols as a unit takes
abbrev pub AreCounted : Numbering → Type 0
AreCounted n = (length n.texts ≤ MAX_COUNTED) × (length n.symbols ≤ MAX_COUNTED)

-- and none too long
abbrev pub FitsUnit : Numbering → Type 0
FitsUnit n = AreCounted n × (list_any is_long_text n.texts ≡ false)

-- What numbering returned, and where it got to, if it was to get to some numbers: it stops only where a unit doesn't
-- take them, or memory ran out.
abbrev pub NumbersTo : Result (Unit {0}) NumberFault → Numbering → Numbering → Type 0
NumbersTo (Ok _) new wanted = new ≡ wanted
NumbersTo (Err TooLarge) new wanted = FitsUnit wanted → ⊥
NumbersTo (Err OutOfMemory) new wanted = Unit {0}
