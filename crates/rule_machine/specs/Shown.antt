-- What the parts of a machine stand for, and what its steps keep.
use Rattle.std.specs.Prelude.{◌≡◌, ◌⊎◌, ℕ, ◌+◌, ◌*◌, ◌<◌, ◌≤◌, max, vec_capacity, true, List, [], ◌∷◌, length, map, nat_le, if◌then◌else◌, Option, Some, None, All}
use Rattle.std.specs.List.{list_any}
use Rattle.imkl_population.specs.FinishedPopulation.{FinishedPopulation}
use Rattle.imkl_population.specs.declared.scalar.Scalar.TheVariants as scalar
use Rattle.imkl_model.specs.ClassModel.{Model}
use Rattle.rule_code.specs.Content.{Content}
use Rattle.rule_code.specs.WellFormed.{InstrFits}
use Rattle.rule_code.specs.declared.instruction.Instr.{Instr}
use Rattle.rule_verify.specs.declared.depths.Depths.{Depths}
use Rattle.rule_verify.specs.CodeTree.{code_tree}
use Rattle.rule_verify.specs.InstrKinds.{gathers}
use Rattle.rule_verify.specs.UnitRules.{unit_rule, depths_of}
use Rattle.rule_cost.specs.Bounds.{top_length, taking_charge, ending_charge}
use Rattle.rule_slots.specs.declared.slot.Slot.{Slot}
use Rattle.rule_slots.specs.Slots.{Lists, plain_mark}
use Rattle.rule_values.specs.Value as value
use Rattle.rule_values.specs.Value.{Value}
use Rattle.rule_machine.specs.declared.piece.Turn.{Turn}
use Rattle.rule_machine.specs.declared.piece.Piece.{Piece as Pending}
use Rattle.rule_machine.specs.declared.piece.Piece.TheVariants as piece
use Rattle.rule_machine.specs.declared.state.State.{State}
use Rattle.rule_machine.specs.declared.task.Task.{Task}
use Rattle.rule_machine.specs.Machine.{Setting, setting_of, Piece, Configuration, step, start}
use Rattle.rule_machine.specs.Outcome.{outcome}
use Rattle.rule_machine.specs.Live.{is_iteration}
use Rattle.rule_machine.specs.StandFor.{IsAt, Between}

-- ---- what a run works on

abbrev pub code_in : Task → List Instr
code_in t = (unit_rule t.accepted.now.unit t.rule).code

abbrev pub setting_in : Task → Setting
setting_in t = setting_of t.accepted.now.unit t.population.now.content t.rule

-- what slots index in a unit and a population: the unit's texts, the population's values and its instances
abbrev pub lists_of : Content → FinishedPopulation → Lists
lists_of u p = record { texts = u.texts; scalars = p.scalars; instances = p.instance_list }

abbrev pub task_lists : Task → Lists
task_lists t = lists_of t.accepted.now.unit t.population.now

-- the rule is there, its code is the one that is held, and the population is of the class model
pub record IsTask (t : Task) : Type 0 where
  pub rule : t.rule < length t.accepted.now.unit.rules
  pub code : t.code.now ≡ code_in t
  pub fits : All (InstrFits (length t.accepted.now.unit.texts) t.accepted.now.unit.symbols) t.code.now
  pub one_model : t.population.now.content.model ≡ t.accepted.now.model

-- ---- places

-- the body lies in the code, no more elements are taken than there are, and an instruction that gathers stands in the code
pub record IsTurnIn (code : List Instr) (t : Turn) : Type 0 where
  pub iterates : is_iteration t.instr ≡ true
  pub order : t.from ≤ t.end
  pub within : t.end ≤ length code
  pub next : t.next ≤ t.source.count
  pub listed : gathers t.instr ≡ true → list_any gathers code ≡ true

abbrev pub IsPieceIn : List Instr → Pending → Type 0
IsPieceIn code (piece.Rest from end) = (from ≤ end) × (end ≤ length code)
IsPieceIn code piece.LetEnd = Unit {0}
IsPieceIn code (piece.Opened t) = IsTurnIn code t
IsPieceIn code (piece.Turning t) = IsTurnIn code t
IsPieceIn code piece.Skipped = Unit {0}

abbrev pub ArePiecesIn : List Instr → List Pending → Type 0
ArePiecesIn code [] = Unit {0}
ArePiecesIn code (c ∷ cs) = IsPieceIn code c × ArePiecesIn code cs

pub record LiesInAt (code : List Instr) (at end : ℕ) (cs : List Pending) : Type 0 where
  pub order : at ≤ end
  pub within : end ≤ length code
  pub pending : ArePiecesIn code cs

-- what is pending lies in the code
abbrev pub LiesIn : Task → State → Type 0
LiesIn t m = LiesInAt (code_in t) m.at m.end m.pieces.0

-- ---- room

-- the stacks have room for what a rule that goes so deep puts on them, for one step more, and for a start value that is
-- left on the operands
pub record HasRoomFor (d : Depths) (m : State) : Type 0 where
  pub operands : d.operands + 2 ≤ m.operands.1
  pub variables : d.variables + 2 ≤ m.variables.1
  pub pieces : 2 * d.blocks + 3 ≤ m.pieces.1

-- they have room for each rule
abbrev pub HasRoomForRules : Model → Content → ℕ → State → Type 0
HasRoomForRules model u count m = (r : ℕ) → r < count → HasRoomFor (depths_of model u r (unit_rule u r)) m

-- no item is on them, or in the pool
pub record HasNoItems (m : State) : Type 0 where
  pub operands : m.operands.0 ≡ []
  pub variables : m.variables.0 ≡ []
  pub pieces : m.pieces.0 ≡ []
  pub pool : m.pool.items ≡ []

-- and there is no room
pub record HasNoRoom (m : State) : Type 0 where
  pub items : HasNoItems m
  pub operands : m.operands.1 ≡ 0
  pub variables : m.variables.1 ≡ 0
  pub pieces : m.pieces.1 ≡ 0
  pub pool : vec_capacity m.pool ≡ 0

-- the stacks have room for the deeper of two: of a rule that goes so deep, and of what they had room for
pub record HasRoomOfBoth (d : Depths) (old new : State) : Type 0 where
  pub operands : new.operands.1 ≡ max old.operands.1 (d.operands + 2)
  pub variables : new.variables.1 ≡ max old.variables.1 (d.variables + 2)
  pub pieces : new.pieces.1 ≡ max old.pieces.1 (2 * d.blocks + 3)

-- room is for no more than is enough for each of so many rules, of which each wants so much
abbrev pub IsNoMoreThan : ℕ → (ℕ → ℕ) → ℕ → Type 0
IsNoMoreThan count wants room = (n : ℕ) → ((r : ℕ) → r < count → wants r ≤ n) → room ≤ n

-- no stack has more room than the deepest of so many rules wants
pub record HasRoomForRulesAlone (model : Model) (u : Content) (count : ℕ) (m : State) : Type 0 where
  pub operands : IsNoMoreThan count (λ r. (depths_of model u r (unit_rule u r)).operands + 2) m.operands.1
  pub variables : IsNoMoreThan count (λ r. (depths_of model u r (unit_rule u r)).variables + 2) m.variables.1
  pub pieces : IsNoMoreThan count (λ r. 2 * (depths_of model u r (unit_rule u r)).blocks + 3) m.pieces.1

abbrev pub depths_in : Task → Depths
depths_in t = depths_of t.population.now.content.model t.accepted.now.unit t.rule (unit_rule t.accepted.now.unit t.rule)

-- there is room for what a step puts on the stacks
pub record Room (m : State) : Type 0 where
  pub operands : length m.operands.0 < m.operands.1
  pub variables : length m.variables.0 + 2 ≤ m.variables.1
  pub pieces : length m.pieces.0 + 2 ≤ m.pieces.1

-- as much room
pub record SameRoom (old new : State) : Type 0 where
  pub operands : new.operands.1 ≡ old.operands.1
  pub variables : new.variables.1 ≡ old.variables.1
  pub pieces : new.pieces.1 ≡ old.pieces.1

-- ---- configurations

-- the machine stands in a configuration
abbrev pub Is : Task → State → Configuration → Type 0
Is t m c = IsAt (setting_in t) (task_lists t) (code_in t) m.pool.items m.at m.end m.pieces.0 m.variables.0 m.operands.0 c

-- there is a next configuration
abbrev pub HasNext : Option Configuration → Type 0
HasNext None = ⊥
HasNext (Some d) = Unit {0}

-- it stands in a configuration that has a next one
abbrev pub HasStep : Task → State → Type 0
HasStep t m = (c : Configuration) × Is t m c × HasNext (step (setting_in t) c)

-- an operand that may be the verdict: a truth value, null or invalid
abbrev pub IsTruth : Value → Type 0
IsTruth (value.Single (scalar.Bool b)) = Unit {0}
IsTruth value.Null = Unit {0}
IsTruth value.Invalid = Unit {0}
IsTruth v = ⊥

-- with nothing pending, the topmost operand is one
abbrev pub EndsInTruth : List Piece → List Value → Type 0
EndsInTruth [] (v ∷ vs) = IsTruth v
EndsInTruth ps vs = Unit {0}

-- The machine stands in a configuration that has a verdict or a next one, and that goes no deeper than there is room for.
pub record CanGoOn (t : Task) (m : State) (c : Configuration) : Type 0 where
  pub is : Is t m c
  pub next : outcome c ≡ None → HasNext (step (setting_in t) c)
  pub truth : EndsInTruth c.pending c.operands

-- the same run, the same count and the same room
pub record Kept (old new : State) : Type 0 where
  pub started : new.started ≡ old.started
  pub count : new.count ≡ old.count
  pub room : SameRoom old new

-- it stands in the same configuration
pub record Same (t : Task) (old new : State) : Type 0 where
  pub same : (c : Configuration) → Is t old c → Is t new c
  pub place : LiesIn t new
  pub kept : Kept old new

-- c goes on to a configuration in which the machine stands
abbrev pub GoesTo : Task → Configuration → State → Type 0
GoesTo t c new = (d : Configuration) × (step (setting_in t) c ≡ Some d) × Is t new d

-- a step is made
pub record Stepped (t : Task) (old new : State) : Type 0 where
  pub made : (c : Configuration) → Is t old c → HasNext (step (setting_in t) c) → GoesTo t c new
  pub place : LiesIn t new
  pub kept : Kept old new

-- ---- pieces that are no sequences

abbrev pub IsMark : Pending → Type 0
IsMark (piece.Rest from end) = ⊥
IsMark c = Unit {0}

-- such a piece comes first
abbrev pub IsFirstMark : List Pending → Type 0
IsFirstMark [] = ⊥
IsFirstMark (c ∷ cs) = IsMark c

-- no sequence that is through stands first
abbrev pub IsAtFront : State → Type 0
IsAtFront m = (m.at < m.end) ⊎ IsFirstMark m.pieces.0

-- ---- charges

-- the length of a slot's collection, 0 of null and invalid
abbrev pub slot_length : Slot → ℕ
slot_length s = if plain_mark s.mark then s.count else 0

abbrev pub slot_lengths : List Slot → List ℕ
slot_lengths ss = map slot_length ss

-- what the next turn is charged besides its step, by the length of the source and the number of elements that were taken
abbrev pub turn_charge_by : Instr → ℕ → ℕ → ℕ
turn_charge_by i l n = if nat_le l n then ending_charge i l else 0

-- what the step of such a piece is charged, by the lengths of the operands
abbrev pub mark_charge_by : Pending → List ℕ → ℕ
mark_charge_by (piece.Opened t) ls = 1 + turn_charge_by t.instr t.source.count 0
mark_charge_by (piece.Turning t) ls = 1 + taking_charge t.instr (top_length ls) + turn_charge_by t.instr t.source.count t.next
mark_charge_by c ls = 1

-- ---- iterations

-- an iteration stands between two turns, by what its body gave last
abbrev pub BetweenIn : Task → Turn → Slot → State → Configuration → Type 0
BetweenIn t turn last m d = Between (setting_in t) (task_lists t) (code_in t) m.pool.items turn last m.pieces.0 m.variables.0 m.operands.0 d

-- it goes on to its next turn, or to its end
pub record WentOn (t : Task) (turn : Turn) (last : Slot) (old new : State) : Type 0 where
  pub made : (d : Configuration) → BetweenIn t turn last old d → Is t new d
  pub place : LiesIn t new
  pub kept : Kept old new

-- a turn is over: its step leads to where the iteration stands between two turns
pub record TurnEnded (t : Task) (after : Turn) (last : Slot) (old new : State) : Type 0 where
  pub made : (c : Configuration) → Is t old c → HasNext (step (setting_in t) c) → (d : Configuration) × (step (setting_in t) c ≡ Some d) × BetweenIn t after last new d
  pub turn : IsTurnIn (code_in t) after
  pub place : LiesIn t new
  pub kept : Kept old new

-- an iteration in a turn comes first
abbrev pub IsTurning : List Pending → Type 0
IsTurning ps = (t : Turn) × (cs : List Pending) × (ps ≡ piece.Turning t ∷ cs)

-- the iteration comes first, with this piece, and stands between two turns
abbrev pub BetweenOnTop : Task → Turn → List Pending → Slot → State → Configuration → Type 0
BetweenOnTop t after below last m d = Between (setting_in t) (task_lists t) (code_in t) m.pool.items after last below m.variables.0 m.operands.0 d

-- an iteration that comes first has ended a turn
pub record IsOnTop (t : Task) (last : Slot) (m : State) : Type 0 where
  pub after : Turn
  pub below : List Pending
  pub first : m.pieces.0 ≡ piece.Turning after ∷ below
  pub turn : IsTurnIn (code_in t) after
  pub place : LiesInAt (code_in t) m.at m.end below
  pub somewhere : (d : Configuration) × BetweenOnTop t after below last m d

-- the step that ends the turn leads there
pub record TurnOver (t : Task) (last : Slot) (old new : State) : Type 0 where
  pub after : Turn
  pub below : List Pending
  pub first : new.pieces.0 ≡ piece.Turning after ∷ below
  pub turn : IsTurnIn (code_in t) after
  pub place : LiesInAt (code_in t) new.at new.end below
  pub made : (c : Configuration) → Is t old c → HasNext (step (setting_in t) c) → (d : Configuration) × (step (setting_in t) c ≡ Some d) × BetweenOnTop t after below last new d
  pub kept : Kept old new

-- and from there it goes on to its next turn, or to its end
pub record GoneOn (t : Task) (last : Slot) (old new : State) : Type 0 where
  pub made : (after : Turn) (below : List Pending) (d : Configuration) → old.pieces.0 ≡ piece.Turning after ∷ below → BetweenOnTop t after below last old d → Is t new d
  pub place : LiesIn t new
  pub kept : Kept old new

-- ---- starts

-- before the first step of the rule for an object, with nothing of an earlier run in the pool
pub record IsStartOf (t : Task) (o : ℕ) (m : State) : Type 0 where
  pub is : Is t m (start (code_tree (code_in t)) o)
  pub place : LiesIn t m
  pub started : m.started ≡ Some (record { rule = t.rule; object = o })
  pub count : m.count ≡ 0
  pub pool : m.pool.items ≡ []

-- the task is that for which the machine was started
abbrev pub IsTaskOf : Task → State → Type 0
IsTaskOf t m = (o : ℕ) × (m.started ≡ Some (record { rule = t.rule; object = o }))
