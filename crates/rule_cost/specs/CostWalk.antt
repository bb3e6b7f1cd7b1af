-- The walk over code: how it stands to the bounds of code trees.
use Rattle.std.specs.Prelude.{◌≡◌, ◌<◌, ◌≤◌, ℕ, List, [], ◌∷◌, length, All, slice_range}
use Rattle.imkl_population.specs.Sizes.{Sizes, list_below}
use Rattle.rule_code.specs.Content.{Content}
use Rattle.rule_code.specs.WellFormed.{InstrFits}
use Rattle.rule_verify.specs.CodeTree.{code_tree}
use Rattle.rule_verify.specs.InstrKinds.{Surroundings}
use Rattle.rule_verify.specs.Resolved.{ResolvedUnit}
use Rattle.rule_cost.specs.declared.place.Place.{Place}
use Rattle.rule_cost.specs.declared.place.Advance.{Advance}
use Rattle.rule_cost.specs.declared.place.Total.{Total}
use Rattle.rule_cost.specs.declared.sized.SizedCode.{SizedCode}
use Rattle.rule_cost.specs.Bounds.{Cost, more_charges, top_length, cost_of}
use Rattle.rule_cost.specs.Limits.{SameCut}
use Rattle.rule_cost.specs.Admission.{Admission, rule_surroundings, rule_step_bound}

-- ---- the code of a rule

abbrev pub surroundings_of_code : SizedCode → Surroundings
surroundings_of_code c = rule_surroundings c.accepted.now.unit c.sizes.now c.rule

-- the sizes are of the class model, and the instructions fit the unit
pub record IsSizedCode (c : SizedCode) : Type 0 where
  pub one_model : c.sizes.now.model ≡ c.accepted.now.model
  pub fits : All (InstrFits (length c.accepted.now.unit.texts) c.accepted.now.unit.symbols) c.code.now

-- an instruction of the code, or the end of its sequence
pub record IsRange (c : SizedCode) (p : Place) : Type 0 where
  pub before : p.at ≤ p.end
  pub within : p.end ≤ length c.code.now

-- what the instructions between two indices cost, by the lengths of the variables and of the operands before them
abbrev pub cost_between : SizedCode → List ℕ → ℕ → ℕ → List ℕ → Cost
cost_between c vars at end ls = cost_of (surroundings_of_code c) c.sizes.now (code_tree (slice_range c.code.now at end)) vars ls

-- ---- costs that are one when they are cut

abbrev pub SameLengths : List ℕ → List ℕ → Type 0
SameLengths [] [] = Unit {0}
SameLengths (l ∷ ls) (m ∷ ms) = SameCut l m × SameLengths ls ms
SameLengths ls ms = ⊥

pub record SameCost (a b : Cost) : Type 0 where
  pub charges : SameCut a.charges b.charges
  pub lengths : SameLengths a.lengths b.lengths

-- an instruction with its bodies: its charges, and then what is left of its sequence
pub record Advances (c : SizedCode) (vars : List ℕ) (p : Place) (before : List ℕ) (a : Advance) (after : List ℕ) : Type 0 where
  pub forward : p.at < a.next
  pub within : a.next ≤ p.end
  pub cost : SameCost (cost_between c vars p.at p.end before) (more_charges a.charges (cost_between c vars a.next p.end after))

-- a sequence whose first operand is its own
pub record Totals (c : SizedCode) (vars : List ℕ) (p : Place) (t : Total) : Type 0 where
  pub charges : SameCut (cost_between c vars p.at p.end []).charges t.charges
  pub length : SameCut (top_length (cost_between c vars p.at p.end []).lengths) t.length

-- ---- admission

abbrev pub admission_of : ResolvedUnit → Sizes → ℕ → Admission
admission_of l z budget = record { resolved = l; sizes = z; budget = budget }

-- a number for each rule
abbrev pub AreRuleBounds : Content → Sizes → List ℕ → Type 0
AreRuleBounds u z bounds = bounds ≡ list_below (rule_step_bound u z) (length u.rules)
