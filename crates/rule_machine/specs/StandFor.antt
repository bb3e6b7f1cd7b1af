-- Which configurations the machine's parts stand for.
use Rattle.std.specs.Prelude.{◌≡◌, ℕ, suc, ◌+◌, ◌<◌, ◌≤◌, Bool, true, false, not, List, [], ◌∷◌, ◌++◌, length, take, drop, slice_range, Option, Some, None, IsSome, ◌==◌, pos, ◌&&◌, nat_lt, if◌then◌else◌}
use Rattle.std.specs.List.{filter_map, list_all, AllByRecursion}
use Rattle.std.specs.Ordering.{int_eq}
use Rattle.ocl_base.specs.Lists.{repeats}
use Rattle.imkl_population.specs.Population.{Population}
use Rattle.ocl_kinds.specs.declared.kind.ScalarKind.{ScalarKind}
use Rattle.rule_code.specs.declared.kind.WrittenScalar.{WrittenScalar}
use Rattle.rule_code.specs.declared.instruction.Instr.{Instr}
use Rattle.rule_code.specs.declared.instruction.Instr.TheVariants as instrs
use Rattle.rule_verify.specs.declared.block_instr.BlockInstr.{BlockInstr}
use Rattle.rule_verify.specs.declared.block_instr.BlockInstr.TheVariants as blocks
use Rattle.rule_verify.specs.CodeTree.{CodeTree, block_of, code_tree}
use Rattle.rule_verify.specs.InstrKinds.{ends_with, operands_of, operands_above}
use Rattle.rule_values.specs.Value as value
use Rattle.rule_values.specs.Value.{Element, Value, as_element, same_element, is_element_in}
use Rattle.rule_values.specs.Operations.{is_true, is_false, is_invalid}
use Rattle.rule_values.specs.Endings.{Source, kept_by, joined}
use Rattle.rule_machine.specs.Machine.{Setting, judged_by, is_what, are_what, result_of, performed, step, Piece, Sequence, LetEnd, Opened, Turning, Skipped, Configuration, configuration, turned}
use Rattle.rule_slots.specs.declared.slot.Slot.{Slot}
use Rattle.rule_values.specs.declared.verdict.Verdict.{Verdict}
use Rattle.rule_values.specs.declared.verdict.Verdict.TheVariants.{Holds, Fails, Undecided}
use Rattle.rule_slots.specs.Slots.{Lists, ElementsAre, PartIs, SlotIs, SlotsAre, plain_mark, invalid_mark, held_slots, truth_slot, invalid_slot, part_slot, POOL}
use Rattle.rule_slots.specs.Operands.{is_number, known_slot}
use Rattle.rule_slots.specs.Compared.{covers}
use Rattle.rule_machine.specs.declared.piece.Turn.{Turn}
use Rattle.rule_machine.specs.declared.piece.Counts.{Counts}
use Rattle.rule_machine.specs.declared.piece.Piece.{Piece as Pending}
use Rattle.rule_machine.specs.declared.piece.Piece.TheVariants as piece
use Rattle.rule_machine.specs.Counts.{Balanced, LeavesOne}

-- ---- iterations

-- what an iteration keeps in the pool of its elements and bodies so far
abbrev pub block_kept_elements : Option BlockInstr → List Element → List Value → List Element
block_kept_elements None es bs = []
block_kept_elements (Some (blocks.Let n)) es bs = []
block_kept_elements (Some (blocks.If k n m)) es bs = []
block_kept_elements (Some (blocks.ForAll n)) es bs = []
block_kept_elements (Some (blocks.Exists n)) es bs = []
block_kept_elements (Some (blocks.One n)) es bs = []
block_kept_elements (Some (blocks.Select n)) es bs = kept_by is_true es bs
block_kept_elements (Some (blocks.Reject n)) es bs = kept_by is_false es bs
block_kept_elements (Some (blocks.Collect n)) es bs = filter_map as_element bs
block_kept_elements (Some (blocks.CollectFlat n)) es bs = joined bs
block_kept_elements (Some (blocks.IsUnique k n)) es bs = filter_map as_element bs
block_kept_elements (Some (blocks.Fold k n)) es bs = []

abbrev pub kept_elements : Instr → List Element → List Value → List Element
kept_elements i es bs = block_kept_elements (block_of i) es bs

-- how many pass a test
abbrev pub count_passing : (Value → Bool) → List Value → ℕ
count_passing p [] = 0
count_passing p (b ∷ bs) = if p b then suc (count_passing p bs) else count_passing p bs

-- the body of an iteration gives truth values
abbrev pub block_gives_truths : Option BlockInstr → Bool
block_gives_truths None = false
block_gives_truths (Some (blocks.Let n)) = false
block_gives_truths (Some (blocks.If k n m)) = false
block_gives_truths (Some (blocks.ForAll n)) = true
block_gives_truths (Some (blocks.Exists n)) = true
block_gives_truths (Some (blocks.One n)) = true
block_gives_truths (Some (blocks.Select n)) = true
block_gives_truths (Some (blocks.Reject n)) = true
block_gives_truths (Some (blocks.Collect n)) = false
block_gives_truths (Some (blocks.CollectFlat n)) = false
block_gives_truths (Some (blocks.IsUnique k n)) = false
block_gives_truths (Some (blocks.Fold k n)) = false

abbrev pub gives_truths : Instr → Bool
gives_truths i = block_gives_truths (block_of i)

-- no collection
abbrev pub IsNoCollection : Value → Type 0
IsNoCollection (value.Collection c es) = ⊥
IsNoCollection v = Unit {0}

-- what an iteration keeps, by the values of its bodies: FOLD one value, every other all of them
abbrev pub BlockKeeps : Option BlockInstr → List Value → List Value → Type 0
BlockKeeps None bodies kept = kept ≡ bodies
BlockKeeps (Some (blocks.Let n)) bodies kept = kept ≡ bodies
BlockKeeps (Some (blocks.If k n m)) bodies kept = kept ≡ bodies
BlockKeeps (Some (blocks.ForAll n)) bodies kept = kept ≡ bodies
BlockKeeps (Some (blocks.Exists n)) bodies kept = kept ≡ bodies
BlockKeeps (Some (blocks.One n)) bodies kept = kept ≡ bodies
BlockKeeps (Some (blocks.Select n)) bodies kept = kept ≡ bodies
BlockKeeps (Some (blocks.Reject n)) bodies kept = kept ≡ bodies
BlockKeeps (Some (blocks.Collect n)) bodies kept = kept ≡ bodies
BlockKeeps (Some (blocks.CollectFlat n)) bodies kept = kept ≡ bodies
BlockKeeps (Some (blocks.IsUnique k n)) bodies kept = kept ≡ bodies
BlockKeeps (Some (blocks.Fold k n)) bodies kept = (v : Value) × (kept ≡ v ∷ [])

abbrev pub Keeps : Instr → List Value → List Value → Type 0
Keeps i bodies kept = BlockKeeps (block_of i) bodies kept

-- the same between two turns, by the slot of what its body gave last: the value that FOLD keeps is that slot's
abbrev pub BlockKeepsLast : Lists → List Slot → Option BlockInstr → List Value → Slot → List Value → Type 0
BlockKeepsLast l pool None bodies last kept = kept ≡ bodies
BlockKeepsLast l pool (Some (blocks.Let n)) bodies last kept = kept ≡ bodies
BlockKeepsLast l pool (Some (blocks.If k n m)) bodies last kept = kept ≡ bodies
BlockKeepsLast l pool (Some (blocks.ForAll n)) bodies last kept = kept ≡ bodies
BlockKeepsLast l pool (Some (blocks.Exists n)) bodies last kept = kept ≡ bodies
BlockKeepsLast l pool (Some (blocks.One n)) bodies last kept = kept ≡ bodies
BlockKeepsLast l pool (Some (blocks.Select n)) bodies last kept = kept ≡ bodies
BlockKeepsLast l pool (Some (blocks.Reject n)) bodies last kept = kept ≡ bodies
BlockKeepsLast l pool (Some (blocks.Collect n)) bodies last kept = kept ≡ bodies
BlockKeepsLast l pool (Some (blocks.CollectFlat n)) bodies last kept = kept ≡ bodies
BlockKeepsLast l pool (Some (blocks.IsUnique k n)) bodies last kept = kept ≡ bodies
BlockKeepsLast l pool (Some (blocks.Fold k n)) bodies last kept = (v : Value) × (kept ≡ v ∷ []) × SlotIs l pool (length pool) last v × IsNoCollection v

abbrev pub KeepsLast : Lists → List Slot → Instr → List Value → Slot → List Value → Type 0
KeepsLast l pool i bodies last kept = BlockKeepsLast l pool (block_of i) bodies last kept

-- the same before the first turn: FOLD's start value is left on the operands
abbrev pub BlockKeepsStart : Lists → List Slot → Option BlockInstr → List Slot → List Value → Type 0
BlockKeepsStart l pool None os kept = kept ≡ []
BlockKeepsStart l pool (Some (blocks.Let n)) os kept = kept ≡ []
BlockKeepsStart l pool (Some (blocks.If k n m)) os kept = kept ≡ []
BlockKeepsStart l pool (Some (blocks.ForAll n)) os kept = kept ≡ []
BlockKeepsStart l pool (Some (blocks.Exists n)) os kept = kept ≡ []
BlockKeepsStart l pool (Some (blocks.One n)) os kept = kept ≡ []
BlockKeepsStart l pool (Some (blocks.Select n)) os kept = kept ≡ []
BlockKeepsStart l pool (Some (blocks.Reject n)) os kept = kept ≡ []
BlockKeepsStart l pool (Some (blocks.Collect n)) os kept = kept ≡ []
BlockKeepsStart l pool (Some (blocks.CollectFlat n)) os kept = kept ≡ []
BlockKeepsStart l pool (Some (blocks.IsUnique k n)) os kept = kept ≡ []
BlockKeepsStart l pool (Some (blocks.Fold k n)) os kept = (start : Slot) × (left : List Slot) × (v : Value) × (os ≡ start ∷ left) × (kept ≡ v ∷ []) × SlotIs l pool (length pool) start v × IsNoCollection v

abbrev pub KeepsStart : Lists → List Slot → Instr → List Slot → List Value → Type 0
KeepsStart l pool i os kept = BlockKeepsStart l pool (block_of i) os kept

-- the iteration of a piece: its source has no part of the pool past where the iteration was opened, and what it keeps lies
-- from there on
pub record TurnIs (s : Setting) (l : Lists) (code : List Instr) (pool : List Slot) (hi : ℕ) (t : Turn) (i : Instr) (body : CodeTree) (source : Source) (left : List Element) (bodies : List Value) : Type 0 where
  pub same_instr : i ≡ t.instr
  pub same_body : body ≡ code_tree (slice_range code t.from t.end)
  pub part : PartIs l pool t.opened t.source source.elements
  pub rest : left ≡ drop t.next source.elements
  pub above : t.opened + t.kept ≤ hi
  pub keeps : ElementsAre l (slice_range pool t.opened (t.opened + t.kept)) (kept_elements t.instr source.elements bodies)
  pub trues : gives_truths t.instr ≡ true → t.trues ≡ count_passing is_true bodies
  pub falses : gives_truths t.instr ≡ true → t.falses ≡ count_passing is_false bodies
  pub invalids : t.invalids ≡ count_passing is_invalid bodies
  pub fitting : AllByRecursion (λ b. is_what s.population (ends_with (judged_by s) t.instr) b ≡ true) bodies

-- the same in a turn, by what is kept: the bodies so far are those of the turns before this one
pub record TurnKeeps (s : Setting) (l : Lists) (code : List Instr) (pool : List Slot) (hi : ℕ) (t : Turn) (i : Instr) (body : CodeTree) (source : Source) (left : List Element) (kept : List Value) : Type 0 where
  pub bodies : List Value
  pub keeps : Keeps i bodies kept
  pub turn : TurnIs s l code pool hi t i body source left bodies
  pub turns : length bodies + 1 ≡ t.next

-- ---- segments

-- the n topmost of a stack stand for these values, with no part of the pool past the bound; below them lie others
pub record Cut (l : Lists) (pool : List Slot) (hi n : ℕ) (ss : List Slot) (vs : List Value) : Type 0 where
  pub here : List Slot
  pub below : List Slot
  pub here_values : List Value
  pub below_values : List Value
  pub slots : ss ≡ here ++ below
  pub values : vs ≡ here_values ++ below_values
  pub are : SlotsAre l pool hi here here_values
  pub long : length here_values ≡ n

-- What is pending, variables and operands stand for a configuration's; v variables and n operands are of the innermost
-- segment. Each iteration in a turn cuts both stacks: what lies below it has no part of the pool past where it was opened.
abbrev pub StandsFor : Setting → Lists → List Instr → List Slot → ℕ → ℕ → ℕ → List Pending → List Slot → List Slot → List Piece → List Value → List Value → Type 0
StandsFor s l code pool hi v n [] vs os [] vars ops =
    (length vars ≡ v) × (length ops ≡ n) × SlotsAre l pool hi vs vars × SlotsAre l pool hi os ops
StandsFor s l code pool hi v n (piece.Rest a b ∷ cs) vs os (Sequence t ∷ q) vars ops =
    (t ≡ code_tree (slice_range code a b)) × StandsFor s l code pool hi v n cs vs os q vars ops
StandsFor s l code pool hi v n (piece.LetEnd ∷ cs) vs os (LetEnd ∷ q) vars ops = StandsFor s l code pool hi v n cs vs os q vars ops
StandsFor s l code pool hi v n (piece.Skipped ∷ cs) vs os (Skipped ∷ q) vars ops = StandsFor s l code pool hi v n cs vs os q vars ops
StandsFor s l code pool hi v n (piece.Turning t ∷ cs) vs os (Turning i body source left kept ∷ q) vars ops =
    (a : Cut l pool hi v vs vars) × (b : Cut l pool hi n os ops) × TurnKeeps s l code pool hi t i body source left kept × Balanced s body 0 1
    × (w : ℕ) × (m : ℕ) × LeavesOne s q w (suc m) × StandsFor s l code pool t.opened w m cs a.below b.below q a.below_values b.below_values
StandsFor s l code pool hi v n cs vs os q vars ops = ⊥

-- An iteration before its first turn stands on top alone; the pool is as long as when it was opened. What stands for the
-- operands lies below the start value of FOLD.
abbrev pub TopStandsFor : Setting → Lists → List Instr → List Slot → ℕ → ℕ → List Pending → List Slot → List Slot → List Piece → List Value → List Value → Type 0
TopStandsFor s l code pool v n (piece.Opened t ∷ cs) vs os (Opened i body source kept ∷ q) vars ops =
    (t.opened ≡ length pool) × KeepsStart l pool i os kept × TurnIs s l code pool (length pool) t i body source source.elements []
    × StandsFor s l code pool (length pool) v n cs vs (drop (operands_above i) os) q vars ops
    × (t.next ≡ 0) × Balanced s body 0 1
TopStandsFor s l code pool v n cs vs os q vars ops = StandsFor s l code pool (length pool) v n cs vs os q vars ops

-- the machine stands at an index of a sequence with an end, in this configuration
pub record IsAt (s : Setting) (l : Lists) (code : List Instr) (pool : List Slot) (at end : ℕ) (cs : List Pending) (vs os : List Slot) (c : Configuration) : Type 0 where
  pub pieces : List Piece
  pub vars : List Value
  pub ops : List Value
  pub v : ℕ
  pub n : ℕ
  pub same : c ≡ configuration (Sequence (code_tree (slice_range code at end)) ∷ pieces) vars ops
  pub ends : LeavesOne s (Sequence (code_tree (slice_range code at end)) ∷ pieces) v n
  pub top : TopStandsFor s l code pool v n cs vs os pieces vars ops
  pub stand : at < end → StandsFor s l code pool (length pool) v n cs vs os pieces vars ops

-- ---- steps

-- the slot stands for what an instruction makes of variables and operands, whatever values these stand for
abbrev pub GivesSlot : Setting → Lists → List Slot → List Slot → List Slot → List Slot → Instr → Slot → Type 0
GivesSlot s l p q vs os i o =
    (vars ops : List Value) → SlotsAre l p (length p) vs vars → SlotsAre l p (length p) os ops
    → (r : Value) → result_of s vars i ops ≡ Some r → are_what s.population (operands_of (judged_by s) i) ops ≡ true → SlotIs l q (length q) o r

-- an instruction without a body can be carried out on values that the variables and operands stand for
abbrev pub CanPerform : Setting → Lists → List Slot → List Slot → List Slot → Instr → Type 0
CanPerform s l p vs os i =
    (vars : List Value) × (ops : List Value) × SlotsAre l p (length p) vs vars × SlotsAre l p (length p) os ops × IsSome (performed s vars i ops)

-- its result takes the place of its operands, and the pool only grows
pub record Performed (s : Setting) (l : Lists) (p q : List Slot) (vs os os' : List Slot) (i : Instr) : Type 0 where
  pub result : Slot
  pub operands : os' ≡ result ∷ drop (length (operands_of (judged_by s) i)) os
  pub longer : length p ≤ length q
  pub same : take (length p) p ≡ take (length p) q
  pub gives : GivesSlot s l p q vs os i result

-- a step leads to a configuration in which the machine then stands
pub record StepsTo (s : Setting) (l : Lists) (code : List Instr) (q : List Slot) (at end : ℕ) (cs : List Pending) (vs os : List Slot) (c : Configuration) : Type 0 where
  pub next : Configuration
  pub made : step s c ≡ Some next
  pub stands : IsAt s l code q at end cs vs os next

-- ---- pieces of iterations

-- an iteration before its first turn
abbrev pub opening_turn : Instr → ℕ → ℕ → Slot → ℕ → Turn
opening_turn i from end source opened =
    record { instr = i; from = from; end = end; source = source; next = 0; opened = opened; kept = 0; trues = 0; falses = 0; invalids = 0 }

-- the piece that the opening of an iteration puts
abbrev pub opening_mark : Instr → ℕ → ℕ → Slot → ℕ → Pending
opening_mark i from end source opened =
    if plain_mark source.mark then piece.Opened (opening_turn i from end source opened) else piece.Skipped

-- at the next element
abbrev pub following_turn : Turn → Turn
following_turn t = record t { next = t.next + 1 }

-- the branch that a condition chooses
abbrev pub choice_slot : Slot → Option Bool
choice_slot s = if plain_mark s.mark then Some (int_eq s.number (pos 1)) else None

-- ---- what iterations keep, and give

-- the slots that a turn adds to what is kept, by its element and by what its body gave
abbrev pub block_kept_slots : Lists → List Slot → Option BlockInstr → Slot → Slot → List Slot
block_kept_slots l pool None e y = []
block_kept_slots l pool (Some (blocks.Let n)) e y = []
block_kept_slots l pool (Some (blocks.If k n m)) e y = []
block_kept_slots l pool (Some (blocks.ForAll n)) e y = []
block_kept_slots l pool (Some (blocks.Exists n)) e y = []
block_kept_slots l pool (Some (blocks.One n)) e y = []
block_kept_slots l pool (Some (blocks.Select n)) e y = if is_number y (pos 1) then e ∷ [] else []
block_kept_slots l pool (Some (blocks.Reject n)) e y = if is_number y (pos 0) then e ∷ [] else []
block_kept_slots l pool (Some (blocks.Collect n)) e y = if invalid_mark y.mark then [] else y ∷ []
block_kept_slots l pool (Some (blocks.CollectFlat n)) e y = if invalid_mark y.mark then [] else held_slots l pool y
block_kept_slots l pool (Some (blocks.IsUnique k n)) e y = if invalid_mark y.mark then [] else y ∷ []
block_kept_slots l pool (Some (blocks.Fold k n)) e y = []

abbrev pub kept_slots : Lists → List Slot → Instr → Slot → Slot → List Slot
kept_slots l pool i e y = block_kept_slots l pool (block_of i) e y

-- the slots that a turn binds, the newest first, by its element and by what the body gave last
abbrev pub block_bound_slots : Option BlockInstr → Slot → Slot → List Slot
block_bound_slots None e last = e ∷ []
block_bound_slots (Some (blocks.Let n)) e last = e ∷ []
block_bound_slots (Some (blocks.If k n m)) e last = e ∷ []
block_bound_slots (Some (blocks.ForAll n)) e last = e ∷ []
block_bound_slots (Some (blocks.Exists n)) e last = e ∷ []
block_bound_slots (Some (blocks.One n)) e last = e ∷ []
block_bound_slots (Some (blocks.Select n)) e last = e ∷ []
block_bound_slots (Some (blocks.Reject n)) e last = e ∷ []
block_bound_slots (Some (blocks.Collect n)) e last = e ∷ []
block_bound_slots (Some (blocks.CollectFlat n)) e last = e ∷ []
block_bound_slots (Some (blocks.IsUnique k n)) e last = e ∷ []
block_bound_slots (Some (blocks.Fold k n)) e last = last ∷ e ∷ []

abbrev pub bound_slots : Instr → Slot → Slot → List Slot
bound_slots i e last = block_bound_slots (block_of i) e last

-- An iteration between two turns: the pool is cut to what it keeps. What its body gave last, or before the first turn the
-- start value of FOLD, is in no stack.
pub record Between (s : Setting) (l : Lists) (code : List Instr) (p : List Slot) (t : Turn) (last : Slot) (cs : List Pending) (vs os : List Slot) (d : Configuration) : Type 0 where
  pub i : Instr
  pub body : CodeTree
  pub source : Source
  pub left : List Element
  pub bodies : List Value
  pub kept : List Value
  pub q : List Piece
  pub vars : List Value
  pub ops : List Value
  pub w : ℕ
  pub m : ℕ
  pub same : d ≡ turned i body source left kept q vars ops
  pub keeps : KeepsLast l p i bodies last kept
  pub turn : TurnIs s l code p (length p) t i body source left bodies
  pub body_ends : Balanced s body 0 1
  pub later : LeavesOne s q w (suc m)
  pub stand : StandsFor s l code p t.opened w m cs vs os q vars ops
  pub turns : length bodies ≡ t.next

-- each body was true or false
abbrev pub all_decided : Turn → Bool
all_decided t = t.trues + t.falses == t.next

-- what an iteration keeps, as a part of the pool
abbrev pub kept_part : Turn → Slot
kept_part t = part_slot POOL t.opened t.kept

-- whether ISUNIQUE keeps no element twice
abbrev pub TellsDistinct : Lists → List Slot → Turn → Bool → Type 0
TellsDistinct l pool t distinct =
    (q : WrittenScalar) (n : ℕ) → t.instr ≡ instrs.IsUnique q n → (p : Population) (k : ScalarKind) (es : List Element) → covers q k ≡ true
    → PartIs l pool (length pool) (kept_part t) es → list_all (is_element_in p k) es ≡ true → distinct ≡ not (repeats same_element es)

-- what an iteration gives is what it keeps
abbrev pub block_gives_part : Option BlockInstr → Slot → Bool
block_gives_part None s = plain_mark s.mark
block_gives_part (Some (blocks.Let n)) s = plain_mark s.mark
block_gives_part (Some (blocks.If k n m)) s = plain_mark s.mark
block_gives_part (Some (blocks.ForAll n)) s = plain_mark s.mark
block_gives_part (Some (blocks.Exists n)) s = plain_mark s.mark
block_gives_part (Some (blocks.One n)) s = plain_mark s.mark
block_gives_part (Some (blocks.Select n)) s = plain_mark s.mark
block_gives_part (Some (blocks.Reject n)) s = plain_mark s.mark
block_gives_part (Some (blocks.Collect n)) s = plain_mark s.mark
block_gives_part (Some (blocks.CollectFlat n)) s = plain_mark s.mark
block_gives_part (Some (blocks.IsUnique k n)) s = false
block_gives_part (Some (blocks.Fold k n)) s = false

abbrev pub gives_part : Instr → Slot → Bool
gives_part i s = block_gives_part (block_of i) s

-- the pool at its end: cut back to where it was opened, unless it gives what it keeps
abbrev pub given_pool : Turn → Slot → List Slot → List Slot
given_pool t gives pool = if gives_part t.instr gives then pool else take t.opened pool

-- a slot, or invalid
abbrev pub slot_if : Bool → Slot → Slot
slot_if b s = if b then s else invalid_slot

-- what an iteration gives at its end, by whether no element that it keeps stands there twice, and by what its
-- body gave last
abbrev pub block_ending_slot : Option BlockInstr → Turn → Bool → Slot → Slot
block_ending_slot None t distinct last = invalid_slot
block_ending_slot (Some (blocks.Let n)) t distinct last = invalid_slot
block_ending_slot (Some (blocks.If k n m)) t distinct last = invalid_slot
block_ending_slot (Some (blocks.ForAll n)) t distinct last = known_slot (t.trues == t.next) (nat_lt 0 t.falses)
block_ending_slot (Some (blocks.Exists n)) t distinct last = known_slot (nat_lt 0 t.trues) (t.falses == t.next)
block_ending_slot (Some (blocks.One n)) t distinct last = slot_if (all_decided t) (truth_slot (t.trues == 1))
block_ending_slot (Some (blocks.Select n)) t distinct last = slot_if (all_decided t) (kept_part t)
block_ending_slot (Some (blocks.Reject n)) t distinct last = slot_if (all_decided t) (kept_part t)
block_ending_slot (Some (blocks.Collect n)) t distinct last = slot_if (t.invalids == 0) (kept_part t)
block_ending_slot (Some (blocks.CollectFlat n)) t distinct last = slot_if (t.invalids == 0) (kept_part t)
block_ending_slot (Some (blocks.IsUnique k n)) t distinct last = slot_if (t.invalids == 0) (truth_slot distinct)
block_ending_slot (Some (blocks.Fold k n)) t distinct last = last

abbrev pub ending_slot : Instr → Turn → Bool → Slot → Slot
ending_slot i t distinct last = block_ending_slot (block_of i) t distinct last

-- what a slot says of the object of a rule that ends with it
abbrev pub verdict_slot : Slot → Verdict
verdict_slot s = if is_number s (pos 1) then Holds else (if is_number s (pos 0) then Fails else Undecided)

-- one more, if a test passes
abbrev pub one_more_if : Bool → ℕ → ℕ
one_more_if b n = if b then n + 1 else n

-- an iteration after a turn, with n elements more, by what its body gave
abbrev pub turn_after : Turn → ℕ → Slot → Turn
turn_after t n y =
    record t {
      kept = t.kept + n;
      trues = one_more_if (gives_truths t.instr && is_number y (pos 1)) t.trues;
      falses = one_more_if (gives_truths t.instr && is_number y (pos 0)) t.falses;
      invalids = one_more_if (invalid_mark y.mark) t.invalids;
    }

-- the same as what an iteration counts alone
abbrev pub counts_after : Turn → ℕ → Slot → Counts
counts_after t n y =
    record {
      kept = t.kept + n;
      trues = one_more_if (gives_truths t.instr && is_number y (pos 1)) t.trues;
      falses = one_more_if (gives_truths t.instr && is_number y (pos 0)) t.falses;
      invalids = one_more_if (invalid_mark y.mark) t.invalids;
    }

-- an iteration with other counts
abbrev pub with_counts : Turn → Counts → Turn
with_counts t c = record t { kept = c.kept; trues = c.trues; falses = c.falses; invalids = c.invalids }

-- at an element
abbrev pub turn_at : Turn → ℕ → Turn
turn_at t n = record t { next = n }
