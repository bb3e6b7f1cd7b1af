-- Places along a run: of each variable and operand the kind that the rules of kinds give it, and the greatest length
-- that a collection may have there.
use Rattle.std.specs.Prelude.{◌≡◌, ℕ, zero, suc, ◌-◌, ◌≤◌, max, true, List, [], ◌∷◌, ◌++◌, length, drop, Option, Some, None, option_and_then}
use Rattle.std.specs.List.{list_all}
use Rattle.imkl_population.specs.Sizes.{Sizes, sizes_of}
use Rattle.ocl_kinds.specs.declared.kind.Kind.{Kind}
use Rattle.ocl_kinds.specs.declared.kind.Kind.TheVariants as kind
use Rattle.ocl_kinds.specs.declared.kind.ScalarKind.TheVariants as element
use Rattle.ocl_kinds.specs.Kinds.{elements_kind}
use Rattle.rule_code.specs.declared.instruction.Instr.{Instr}
use Rattle.rule_verify.specs.declared.block_instr.BlockInstr.{BlockInstr}
use Rattle.rule_verify.specs.declared.block_instr.BlockInstr.TheVariants as blocks
use Rattle.rule_verify.specs.CodeTree.{CodeTree, End, Plain, Block, Branch, Torn, block_of}
use Rattle.rule_verify.specs.InstrKinds.{operands_of, scalar_meant, result_kind, operands_above, binds, yields}
use Rattle.rule_cost.specs.Bounds.{length_given, lengths_bound_by, length_yielded}
use Rattle.rule_values.specs.Value as value
use Rattle.rule_values.specs.Value.{Element, Value, is_in, is_element_in}
use Rattle.rule_values.specs.Endings.{Source}
use Rattle.rule_machine.specs.Machine.{Setting, judged_by, Piece, Sequence, Opened, Turning, Configuration, step}

-- the kind of what may stand at a place, and the longest that a collection is there
pub record Place : Type 0 where
  pub kind : Kind
  pub longest : ℕ

abbrev pub place : Kind → ℕ → Place
place k n = record { kind = k; longest = n }

abbrev pub kinds_of : List Place → List Kind
kinds_of [] = []
kinds_of (p ∷ ps) = p.kind ∷ kinds_of ps

abbrev pub lengths_of : List Place → List ℕ
lengths_of [] = []
lengths_of (p ∷ ps) = p.longest ∷ lengths_of ps

-- ---- places after code

abbrev pub sizes_in : Setting → Sizes
sizes_in s = sizes_of s.population

-- the place of variable 0, which is an object of the context class
abbrev pub self_place : Setting → Place
self_place s = place (kind.Scalar (element.Class s.context)) 0

-- what an instruction without a body gives, and the operands below those that it takes
abbrev pub given : Setting → List Place → Instr → List Place → Place
given s vars i ps =
    place (result_kind (judged_by s) (kinds_of vars) i (kinds_of ps)) (length_given (judged_by s) (sizes_in s) (lengths_of vars) i (lengths_of ps))

abbrev pub places_left : Setting → Instr → List Place → List Place
places_left s i ps = drop (length (operands_of (judged_by s) i)) ps

abbrev pub places_of : List Kind → List ℕ → List Place
places_of [] ls = []
places_of (k ∷ ks) [] = []
places_of (k ∷ ks) (l ∷ ls) = place k l ∷ places_of ks ls

abbrev pub top_place : List Place → Place
top_place [] = place (kind.Scalar element.Void) 0
top_place (p ∷ ps) = p

-- the place of the operand that a block works on
abbrev pub operand_place : Instr → List Place → Place
operand_place i ps = top_place (drop (operands_above i) ps)

-- what a block with one body binds, and gives, by the operand that it works on and by what its body ends with
abbrev pub bound_by : Setting → Instr → Place → List Place
bound_by s i p = places_of (binds (judged_by s) i p.kind) (lengths_bound_by i p.longest)

abbrev pub yielded : Setting → Instr → Place → Place → Place
yielded s i p r = place (yields (judged_by s) i p.kind r.kind) (length_yielded i p.longest r.longest)

-- what an IF gives: of the kind that it writes, and as long as the longer of its branches
abbrev pub branch_place : Setting → Instr → Place → Place → Place → Place
branch_place s i p a b = place (yields (judged_by s) i p.kind a.kind) (max a.longest b.longest)

-- the place of what an iteration keeps, by that of what its body ends with: of FOLD that of the kind that it writes, since
-- its start value isn't what a body ended with
abbrev pub block_kept_place : Setting → Option BlockInstr → Place → Place
block_kept_place s None r = r
block_kept_place s (Some (blocks.Let n)) r = r
block_kept_place s (Some (blocks.If k n m)) r = r
block_kept_place s (Some (blocks.ForAll n)) r = r
block_kept_place s (Some (blocks.Exists n)) r = r
block_kept_place s (Some (blocks.One n)) r = r
block_kept_place s (Some (blocks.Select n)) r = r
block_kept_place s (Some (blocks.Reject n)) r = r
block_kept_place s (Some (blocks.Collect n)) r = r
block_kept_place s (Some (blocks.CollectFlat n)) r = r
block_kept_place s (Some (blocks.IsUnique k n)) r = r
block_kept_place s (Some (blocks.Fold k n)) r = place (kind.Scalar (scalar_meant (judged_by s) k)) 0

abbrev pub kept_place : Setting → Instr → Place → Place
kept_place s i r = block_kept_place s (block_of i) r

-- the places of the operands after a tree, by those of the variables and of the operands before it
abbrev pub places_after : Setting → CodeTree → List Place → List Place → List Place
places_after s End vars ps = ps
places_after s (Plain i rest) vars ps = places_after s rest vars (given s vars i ps ∷ places_left s i ps)
places_after s (Block i body rest) vars ps =
    places_after s rest vars
    (yielded s i (operand_place i ps) (top_place (places_after s body (bound_by s i (operand_place i ps) ++ vars) [])) ∷ places_left s i ps)
places_after s (Branch i first second rest) vars ps =
    places_after s rest vars
    (branch_place s i (operand_place i ps) (top_place (places_after s first vars [])) (top_place (places_after s second vars []))
    ∷ places_left s i ps)
places_after s (Torn i left) vars ps = ps

-- the place of what a body ends with
abbrev pub end_place : Setting → CodeTree → List Place → Place
end_place s body vars = top_place (places_after s body vars [])

-- ---- marks: the places that pending pieces stand at

-- the places of the variables and of the operands
pub record Stand : Type 0 where
  pub variables : List Place
  pub operands : List Place

abbrev pub stand : List Place → List Place → Stand
stand vars ps = record { variables = vars; operands = ps }

-- What a pending piece stands at: the places when it comes first. Of an iteration: the place where its source stood,
-- the place of what its body ends with, and the places below them.
pub data Mark : Type 0 where
  Here : Stand → Mark
  Iterating : Place → Place → Stand → Mark

-- the places of a configuration whose pending pieces have these marks; a turn that is over has left its variables and
-- its body's value
abbrev pub now_at : Setting → List Piece → List Mark → Stand
now_at s q [] = stand [] []
now_at s q (Here at ∷ ms) = at
now_at s (Turning i body source left kept ∷ q) (Iterating p r below ∷ ms) = stand (bound_by s i p ++ below.variables) (r ∷ below.operands)
now_at s q (Iterating p r below ∷ ms) = below

-- LET gives its body a variable that its end drops; an iteration stands below its source until it gives its result
abbrev pub iteration_mark : Setting → Instr → CodeTree → List Place → Place → List Place → List Mark
iteration_mark s i body vars p ps = Iterating p (end_place s body (bound_by s i p ++ vars)) (stand vars ps) ∷ []

abbrev pub block_marked_by : Setting → Option BlockInstr → Instr → CodeTree → List Place → Place → List Place → List Mark
block_marked_by s None i body vars p ps = iteration_mark s i body vars p ps
block_marked_by s (Some (blocks.Let n)) i body vars p ps =
    Here (stand (p ∷ vars) ps) ∷ Here (stand (p ∷ vars) (end_place s body (p ∷ vars) ∷ ps)) ∷ []
block_marked_by s (Some (blocks.If k n m)) i body vars p ps = iteration_mark s i body vars p ps
block_marked_by s (Some (blocks.ForAll n)) i body vars p ps = iteration_mark s i body vars p ps
block_marked_by s (Some (blocks.Exists n)) i body vars p ps = iteration_mark s i body vars p ps
block_marked_by s (Some (blocks.One n)) i body vars p ps = iteration_mark s i body vars p ps
block_marked_by s (Some (blocks.Select n)) i body vars p ps = iteration_mark s i body vars p ps
block_marked_by s (Some (blocks.Reject n)) i body vars p ps = iteration_mark s i body vars p ps
block_marked_by s (Some (blocks.Collect n)) i body vars p ps = iteration_mark s i body vars p ps
block_marked_by s (Some (blocks.CollectFlat n)) i body vars p ps = iteration_mark s i body vars p ps
block_marked_by s (Some (blocks.IsUnique k n)) i body vars p ps = iteration_mark s i body vars p ps
block_marked_by s (Some (blocks.Fold k n)) i body vars p ps = iteration_mark s i body vars p ps

abbrev pub block_marked : Setting → Instr → CodeTree → List Place → Place → List Place → List Mark
block_marked s i body vars p ps = block_marked_by s (block_of i) i body vars p ps

-- the marks of what the first instruction of a sequence leaves, above those of the pieces below
abbrev pub sequence_marked : Setting → CodeTree → List Place → List Place → List Mark → List Mark
sequence_marked s (Plain i rest) vars ps ms = Here (stand vars (given s vars i ps ∷ places_left s i ps)) ∷ ms
sequence_marked s (Block i body rest) vars ps ms =
    block_marked s i body vars (operand_place i ps) (places_left s i ps)
    ++ Here (stand vars (yielded s i (operand_place i ps) (end_place s body (bound_by s i (operand_place i ps) ++ vars)) ∷ places_left s i ps)) ∷ ms
sequence_marked s (Branch i first second rest) vars (p ∷ ps) ms =
    Here (stand vars ps) ∷ Here (stand vars (branch_place s i p (end_place s first vars) (end_place s second vars) ∷ ps)) ∷ ms
sequence_marked s t vars ps ms = ms

-- the marks after a step of the first piece, if nothing ended with it
abbrev pub marked : Setting → List Piece → List Mark → List Mark
marked s (Sequence t ∷ q) (Here at ∷ ms) = sequence_marked s t at.variables at.operands ms
marked s (Opened i body source kept ∷ q) (Iterating p r below ∷ ms) =
    Here (stand (bound_by s i p ++ below.variables) below.operands) ∷ Iterating p r below ∷ ms
marked s (Turning i body source left kept ∷ q) (Iterating p r below ∷ ms) =
    Here (stand (bound_by s i p ++ below.variables) below.operands) ∷ Iterating p r below ∷ ms
marked s q [] = []
marked s q (m ∷ ms) = ms

-- What ends takes its mark with it: there is one for each pending piece, and one for the end.
abbrev pub marks_for : Configuration → List Mark → List Mark
marks_for c ms = drop (length ms - suc (length c.pending)) ms

-- the marks of a tree before its first step, and after n steps of a configuration
abbrev pub marks_before : Setting → CodeTree → Configuration → List Mark
marks_before s t c =
    marks_for c
    (Here (stand (self_place s ∷ []) []) ∷ Here (stand (self_place s ∷ []) (places_after s t (self_place s ∷ []) [])) ∷ [])

abbrev pub marks_after : Setting → ℕ → Configuration → List Mark → Option (List Mark)
marks_after s zero c ms = Some ms
marks_after s (suc n) c ms = option_and_then (λ d. marks_after s n d (marks_for d (marked s c.pending ms))) (step s c)

-- ---- values at places

-- the length of a collection
abbrev pub long : Value → ℕ
long (value.Collection c es) = length es
long v = 0

-- a value is in the kind of a place, and no longer than it allows
pub record At (s : Setting) (v : Value) (p : Place) : Type 0 where
  pub in_kind : is_in s.population v p.kind ≡ true
  pub within : long v ≤ p.longest

abbrev pub AllAt : Setting → List Value → List Place → Type 0
AllAt s [] [] = Unit {0}
AllAt s [] (p ∷ ps) = ⊥
AllAt s (v ∷ vs) [] = ⊥
AllAt s (v ∷ vs) (p ∷ ps) = At s v p × AllAt s vs ps

-- each value is at one place
abbrev pub EachAt : Setting → Place → List Value → Type 0
EachAt s p [] = Unit {0}
EachAt s p (v ∷ vs) = At s v p × EachAt s p vs

-- the source of an iteration is at its place, and the elements that are left are in its elements' kind
pub record IsSource (s : Setting) (p : Place) (source : Source) (left : List Element) : Type 0 where
  pub whole : At s (value.Collection source.kind source.elements) p
  pub rest : list_all (is_element_in s.population (elements_kind p.kind)) left ≡ true

-- what an iteration holds is at its places: its source, and what its body gave in the turns before
abbrev pub HeldAt : Setting → Piece → Mark → Type 0
HeldAt s (Opened i body source kept) (Iterating p r below) = IsSource s p source source.elements × EachAt s (kept_place s i r) kept
HeldAt s (Turning i body source left kept) (Iterating p r below) = IsSource s p source left × EachAt s (kept_place s i r) kept
HeldAt s (Opened i body source kept) (Here at) = ⊥
HeldAt s (Turning i body source left kept) (Here at) = ⊥
HeldAt s x m = Unit {0}

abbrev pub AllHeldAt : Setting → List Piece → List Mark → Type 0
AllHeldAt s [] ms = Unit {0}
AllHeldAt s (x ∷ q) [] = ⊥
AllHeldAt s (x ∷ q) (m ∷ ms) = HeldAt s x m × AllHeldAt s q ms

-- every variable, every operand, and every collection and value that an open iteration holds is at its place
pub record StandsAt (s : Setting) (c : Configuration) (ms : List Mark) : Type 0 where
  pub variables : AllAt s c.variables (now_at s c.pending ms).variables
  pub operands : AllAt s c.operands (now_at s c.pending ms).operands
  pub iterations : AllHeldAt s c.pending ms
