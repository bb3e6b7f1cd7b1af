-- Bounds on code trees: how long collections get, and what a run is charged. Numbers have no limit.
use Rattle.std.specs.Prelude.{ℕ, ◌+◌, ◌*◌, min, max, List, [], ◌∷◌, ◌++◌, length, drop, Option, Some, None, slice_index_or, if◌then◌else◌}
use Rattle.imkl_model.specs.declared.feature.ElementType.{ElementType}
use Rattle.imkl_model.specs.declared.feature.ElementType.TheVariants as type
use Rattle.imkl_model.specs.declared.feature.FeatureInfo.{FeatureInfo}
use Rattle.imkl_model.specs.ClassModel.{Model, feature_at}
use Rattle.imkl_model.specs.Features.{is_attribute}
use Rattle.imkl_population.specs.Sizes.{Sizes}
use Rattle.rule_code.specs.declared.instruction.Instr.{Instr}
use Rattle.rule_code.specs.declared.instruction.Instr.TheVariants as instrs
use Rattle.rule_code.specs.declared.kind.WrittenKind.TheVariants as kinds
use Rattle.rule_verify.specs.declared.block_instr.BlockInstr.{BlockInstr}
use Rattle.rule_verify.specs.declared.block_instr.BlockInstr.TheVariants as blocks
use Rattle.rule_verify.specs.declared.named.Named.{Named}
use Rattle.rule_verify.specs.declared.named.Named.TheVariants as named
use Rattle.rule_verify.specs.Symbols.{named_at}
use Rattle.rule_verify.specs.CodeTree.{CodeTree, End, Plain, Block, Branch, Torn, block_of}
use Rattle.ocl_base.specs.Lists.{variable_at}
use Rattle.rule_verify.specs.InstrKinds.{Surroundings, operands_of, operands_above}

-- ---- lengths of collections

-- the number of instances of a class
abbrev pub class_size : Sizes → ℕ → ℕ
class_size z c = slice_index_or z.counts c 0

-- the most members of an attribute's value: its upper bound, else the length of the longest value
abbrev pub attribute_length : Sizes → ℕ → Option ℕ → ℕ
attribute_length z f (Some upper) = upper
attribute_length z f None = slice_index_or z.longest f 0

abbrev pub within_upper : Option ℕ → ℕ → ℕ
within_upper (Some upper) n = min upper n
within_upper None n = n

-- the most members of an association end: its upper bound or the size of its class, whichever is less
abbrev pub end_length : Sizes → ElementType → Option ℕ → ℕ
end_length z (type.Class c) upper = within_upper upper (class_size z c)
end_length z t upper = 0

abbrev pub feature_length : Sizes → ℕ → FeatureInfo → ℕ
feature_length z f i = if is_attribute i.role then attribute_length z f i.upper else end_length z i.element i.upper

abbrev pub named_length : Model → Sizes → Option Named → ℕ
named_length m z (Some (named.Class c)) = class_size z c
named_length m z (Some (named.Feature c f)) = feature_length z f (feature_at m f)
named_length m z n = 0

-- the length of the topmost operand
abbrev pub top_length : List ℕ → ℕ
top_length [] = 0
top_length (l ∷ ls) = l

abbrev pub or_zero : Option ℕ → ℕ
or_zero None = 0
or_zero (Some n) = n

-- the length of what an instruction without a body gives, by the lengths of the variables and of the operands before it
abbrev pub length_given : Surroundings → Sizes → List ℕ → Instr → List ℕ → ℕ
length_given s z vars instrs.SelfObject ls = 0
length_given s z vars (instrs.Get n) ls = or_zero (variable_at vars n)
length_given s z vars (instrs.Int n) ls = 0
length_given s z vars (instrs.Bool b) ls = 0
length_given s z vars (instrs.Text t) ls = 0
length_given s z vars (instrs.Enum l) ls = 0
length_given s z vars instrs.Null ls = 0
length_given s z vars instrs.Invalid ls = 0
length_given s z vars (instrs.Attr a) ls = named_length s.model z (named_at s.model s.unit a.0)
length_given s z vars (instrs.All c) ls = named_length s.model z (named_at s.model s.unit c.0)
length_given s z vars (instrs.AsColl c k) ls = 1
length_given s z vars (instrs.KindOf c) ls = 0
length_given s z vars (instrs.TypeOf c) ls = 0
length_given s z vars (instrs.AsType c) ls = 0
length_given s z vars instrs.Add ls = 0
length_given s z vars instrs.Sub ls = 0
length_given s z vars instrs.Mul ls = 0
length_given s z vars instrs.Div ls = 0
length_given s z vars instrs.Mod ls = 0
length_given s z vars instrs.Neg ls = 0
length_given s z vars instrs.Abs ls = 0
length_given s z vars instrs.Min ls = 0
length_given s z vars instrs.Max ls = 0
length_given s z vars instrs.Lt ls = 0
length_given s z vars instrs.Le ls = 0
length_given s z vars instrs.Gt ls = 0
length_given s z vars instrs.Ge ls = 0
length_given s z vars instrs.Not ls = 0
length_given s z vars instrs.And ls = 0
length_given s z vars instrs.Or ls = 0
length_given s z vars instrs.Xor ls = 0
length_given s z vars instrs.Implies ls = 0
length_given s z vars (instrs.Eq k) ls = 0
length_given s z vars instrs.Eqx ls = 0
length_given s z vars instrs.Undef ls = 0
length_given s z vars instrs.IsInv ls = 0
length_given s z vars instrs.TLen ls = 0
length_given s z vars instrs.SubStr ls = 0
length_given s z vars instrs.Size ls = 0
length_given s z vars instrs.IsEmpty ls = 0
length_given s z vars (instrs.Includes k) ls = 0
length_given s z vars (instrs.Count k) ls = 0
length_given s z vars (instrs.IncAll k) ls = 0
length_given s z vars (instrs.ExcAll k) ls = 0
length_given s z vars instrs.Sum ls = 0
length_given s z vars (instrs.AsSet k) ls = top_length ls
length_given s z vars (instrs.Let n) ls = 0
length_given s z vars (instrs.If k n m) ls = 0
length_given s z vars (instrs.ForAll n) ls = 0
length_given s z vars (instrs.Exists n) ls = 0
length_given s z vars (instrs.One n) ls = 0
length_given s z vars (instrs.Select n) ls = 0
length_given s z vars (instrs.Reject n) ls = 0
length_given s z vars (instrs.Collect n) ls = 0
length_given s z vars (instrs.CollectFlat n) ls = 0
length_given s z vars (instrs.IsUnique k n) ls = 0
length_given s z vars (instrs.Fold k n) ls = 0

-- the length of the operand that a block works on
abbrev pub block_length : Instr → List ℕ → ℕ
block_length i ls = top_length (drop (operands_above i) ls)

-- the lengths of the variables that a block with one body binds, the newest first, by that of the operand that it works
-- on; of no other instruction this is asked
abbrev pub block_binds_lengths : Option BlockInstr → ℕ → List ℕ
block_binds_lengths None l = 0 ∷ []
block_binds_lengths (Some (blocks.Let n)) l = l ∷ []
block_binds_lengths (Some (blocks.If k n m)) l = 0 ∷ []
block_binds_lengths (Some (blocks.ForAll n)) l = 0 ∷ []
block_binds_lengths (Some (blocks.Exists n)) l = 0 ∷ []
block_binds_lengths (Some (blocks.One n)) l = 0 ∷ []
block_binds_lengths (Some (blocks.Select n)) l = 0 ∷ []
block_binds_lengths (Some (blocks.Reject n)) l = 0 ∷ []
block_binds_lengths (Some (blocks.Collect n)) l = 0 ∷ []
block_binds_lengths (Some (blocks.CollectFlat n)) l = 0 ∷ []
block_binds_lengths (Some (blocks.IsUnique k n)) l = 0 ∷ []
block_binds_lengths (Some (blocks.Fold k n)) l = 0 ∷ 0 ∷ []

abbrev pub lengths_bound_by : Instr → ℕ → List ℕ
lengths_bound_by i l = block_binds_lengths (block_of i) l

-- the length of what a block with one body gives, by those of the operand that it works on and of what its body ends with
abbrev pub block_yields_length : Option BlockInstr → ℕ → ℕ → ℕ
block_yields_length None l r = 0
block_yields_length (Some (blocks.Let n)) l r = r
block_yields_length (Some (blocks.If k n m)) l r = 0
block_yields_length (Some (blocks.ForAll n)) l r = 0
block_yields_length (Some (blocks.Exists n)) l r = 0
block_yields_length (Some (blocks.One n)) l r = 0
block_yields_length (Some (blocks.Select n)) l r = l
block_yields_length (Some (blocks.Reject n)) l r = l
block_yields_length (Some (blocks.Collect n)) l r = l
block_yields_length (Some (blocks.CollectFlat n)) l r = l * r
block_yields_length (Some (blocks.IsUnique k n)) l r = 0
block_yields_length (Some (blocks.Fold k n)) l r = 0

abbrev pub length_yielded : Instr → ℕ → ℕ → ℕ
length_yielded i l r = block_yields_length (block_of i) l r

-- ---- charges

-- the length of the operand below the topmost one
abbrev pub second_length : List ℕ → ℕ
second_length ls = top_length (drop 1 ls)

-- what an instruction without a body is charged besides its step, by the lengths of its operands, the topmost first
abbrev pub extra_charge : Instr → List ℕ → ℕ
extra_charge instrs.SelfObject ls = 0
extra_charge (instrs.Get n) ls = 0
extra_charge (instrs.Int n) ls = 0
extra_charge (instrs.Bool b) ls = 0
extra_charge (instrs.Text t) ls = 0
extra_charge (instrs.Enum l) ls = 0
extra_charge instrs.Null ls = 0
extra_charge instrs.Invalid ls = 0
extra_charge (instrs.Attr a) ls = 0
extra_charge (instrs.All c) ls = 0
extra_charge (instrs.AsColl c k) ls = 0
extra_charge (instrs.KindOf c) ls = 0
extra_charge (instrs.TypeOf c) ls = 0
extra_charge (instrs.AsType c) ls = 0
extra_charge instrs.Add ls = 0
extra_charge instrs.Sub ls = 0
extra_charge instrs.Mul ls = 0
extra_charge instrs.Div ls = 0
extra_charge instrs.Mod ls = 0
extra_charge instrs.Neg ls = 0
extra_charge instrs.Abs ls = 0
extra_charge instrs.Min ls = 0
extra_charge instrs.Max ls = 0
extra_charge instrs.Lt ls = 0
extra_charge instrs.Le ls = 0
extra_charge instrs.Gt ls = 0
extra_charge instrs.Ge ls = 0
extra_charge instrs.Not ls = 0
extra_charge instrs.And ls = 0
extra_charge instrs.Or ls = 0
extra_charge instrs.Xor ls = 0
extra_charge instrs.Implies ls = 0
extra_charge (instrs.Eq (kinds.Scalar k)) ls = 0
extra_charge (instrs.Eq (kinds.Collection c k)) ls = second_length ls * top_length ls
extra_charge instrs.Eqx ls = 0
extra_charge instrs.Undef ls = 0
extra_charge instrs.IsInv ls = 0
extra_charge instrs.TLen ls = 0
extra_charge instrs.SubStr ls = 0
extra_charge instrs.Size ls = 0
extra_charge instrs.IsEmpty ls = 0
extra_charge (instrs.Includes k) ls = second_length ls
extra_charge (instrs.Count k) ls = second_length ls
extra_charge (instrs.IncAll k) ls = second_length ls * top_length ls
extra_charge (instrs.ExcAll k) ls = second_length ls * top_length ls
extra_charge instrs.Sum ls = top_length ls
extra_charge (instrs.AsSet k) ls = top_length ls * top_length ls
extra_charge (instrs.Let n) ls = 0
extra_charge (instrs.If k n m) ls = 0
extra_charge (instrs.ForAll n) ls = 0
extra_charge (instrs.Exists n) ls = 0
extra_charge (instrs.One n) ls = 0
extra_charge (instrs.Select n) ls = 0
extra_charge (instrs.Reject n) ls = 0
extra_charge (instrs.Collect n) ls = 0
extra_charge (instrs.CollectFlat n) ls = 0
extra_charge (instrs.IsUnique k n) ls = 0
extra_charge (instrs.Fold k n) ls = 0

-- what the step is charged besides that takes the value of an iteration's body, by the length of that value
abbrev pub block_taking_charge : Option BlockInstr → ℕ → ℕ
block_taking_charge None m = 0
block_taking_charge (Some (blocks.Let n)) m = 0
block_taking_charge (Some (blocks.If k a b)) m = 0
block_taking_charge (Some (blocks.ForAll n)) m = 0
block_taking_charge (Some (blocks.Exists n)) m = 0
block_taking_charge (Some (blocks.One n)) m = 0
block_taking_charge (Some (blocks.Select n)) m = 0
block_taking_charge (Some (blocks.Reject n)) m = 0
block_taking_charge (Some (blocks.Collect n)) m = 0
block_taking_charge (Some (blocks.CollectFlat n)) m = m
block_taking_charge (Some (blocks.IsUnique k n)) m = 0
block_taking_charge (Some (blocks.Fold k n)) m = 0

abbrev pub taking_charge : Instr → ℕ → ℕ
taking_charge i m = block_taking_charge (block_of i) m

-- what the step is charged besides that ends an iteration, by the length of its source
abbrev pub block_ending_charge : Option BlockInstr → ℕ → ℕ
block_ending_charge None l = 0
block_ending_charge (Some (blocks.Let n)) l = 0
block_ending_charge (Some (blocks.If k n m)) l = 0
block_ending_charge (Some (blocks.ForAll n)) l = 0
block_ending_charge (Some (blocks.Exists n)) l = 0
block_ending_charge (Some (blocks.One n)) l = 0
block_ending_charge (Some (blocks.Select n)) l = 0
block_ending_charge (Some (blocks.Reject n)) l = 0
block_ending_charge (Some (blocks.Collect n)) l = 0
block_ending_charge (Some (blocks.CollectFlat n)) l = 0
block_ending_charge (Some (blocks.IsUnique k n)) l = l * l
block_ending_charge (Some (blocks.Fold k n)) l = 0

abbrev pub ending_charge : Instr → ℕ → ℕ
ending_charge i l = block_ending_charge (block_of i) l

-- the charges of an iteration over a source of length l: of its opening and its end, and for each element of a turn, its
-- body and what taking the body's value is charged
abbrev pub turns_charges : ℕ → ℕ → ℕ → ℕ → ℕ
turns_charges l b taking ending = 2 + l * (1 + b + taking) + ending

-- the charges of a block with one body, by the length of the operand that it works on, the charges of its body, and what
-- taking the body's value and the end of an iteration are charged; of no other instruction this is asked
abbrev pub block_body_charges : Option BlockInstr → ℕ → ℕ → ℕ → ℕ → ℕ
block_body_charges None l b t e = turns_charges l b t e
block_body_charges (Some (blocks.Let n)) l b t e = 2 + b
block_body_charges (Some (blocks.If k n m)) l b t e = turns_charges l b t e
block_body_charges (Some (blocks.ForAll n)) l b t e = turns_charges l b t e
block_body_charges (Some (blocks.Exists n)) l b t e = turns_charges l b t e
block_body_charges (Some (blocks.One n)) l b t e = turns_charges l b t e
block_body_charges (Some (blocks.Select n)) l b t e = turns_charges l b t e
block_body_charges (Some (blocks.Reject n)) l b t e = turns_charges l b t e
block_body_charges (Some (blocks.Collect n)) l b t e = turns_charges l b t e
block_body_charges (Some (blocks.CollectFlat n)) l b t e = turns_charges l b t e
block_body_charges (Some (blocks.IsUnique k n)) l b t e = turns_charges l b t e
block_body_charges (Some (blocks.Fold k n)) l b t e = turns_charges l b t e

-- the same, by the length of what its body ends with
abbrev pub block_charges : Instr → ℕ → ℕ → ℕ → ℕ
block_charges i l b m = block_body_charges (block_of i) l b (taking_charge i m) (ending_charge i l)

-- the charges of a block with two bodies, by theirs
abbrev pub branch_charges : ℕ → ℕ → ℕ
branch_charges n m = 1 + max n m

-- ---- code

-- charges, and the lengths of the operands afterwards, the topmost first
pub record Cost : Type 0 where
  pub charges : ℕ
  pub lengths : List ℕ

-- the cost with n more charges before it
abbrev pub more_charges : ℕ → Cost → Cost
more_charges n c = record { charges = n + c.charges; lengths = c.lengths }

-- the operands below those that an instruction takes
abbrev pub lengths_below : Surroundings → Instr → List ℕ → List ℕ
lengths_below s i ls = drop (length (operands_of s i)) ls

-- the cost of a tree, by the lengths of the variables and of the operands before it
abbrev pub cost_of : Surroundings → Sizes → CodeTree → List ℕ → List ℕ → Cost
cost_of s z End vars ls = record { charges = 0; lengths = ls }
cost_of s z (Plain i rest) vars ls = more_charges (1 + extra_charge i ls) (cost_of s z rest vars (length_given s z vars i ls ∷ lengths_below s i ls))
cost_of s z (Block i body rest) vars ls =
    more_charges (block_charges i (block_length i ls) (cost_of s z body (lengths_bound_by i (block_length i ls) ++ vars) []).charges (top_length (cost_of s z body (lengths_bound_by i (block_length i ls) ++ vars) []).lengths))
    (cost_of s z rest vars
    (length_yielded i (block_length i ls) (top_length (cost_of s z body (lengths_bound_by i (block_length i ls) ++ vars) []).lengths)
    ∷ lengths_below s i ls))
cost_of s z (Branch i first second rest) vars ls =
    more_charges (branch_charges (cost_of s z first vars []).charges (cost_of s z second vars []).charges)
    (cost_of s z rest vars
    (max (top_length (cost_of s z first vars []).lengths) (top_length (cost_of s z second vars []).lengths)
    ∷ lengths_below s i ls))
cost_of s z (Torn i left) vars ls = record { charges = 0; lengths = ls }

-- an upper limit on what a run of a rule's code is charged, whose variable 0 is an object
abbrev pub step_bound : Surroundings → Sizes → CodeTree → ℕ
step_bound s z t = (cost_of s z t (0 ∷ []) []).charges
