-- Where marks lie, places whose stacks are equal to others, and states that are the same.
use Rattle.std.proofs.Common.{◌≡◌, ℕ, zero, suc, ◌≤◌, Bool, true, false, List, [], ◌∷◌, length, Option, Some, None, refl, sym, ap, ◌∙◌, subst, arith}
use Rattle.std.specs.Prelude.{slice_get, MatchOption, if◌then◌else◌}
use Rattle.std.specs.List.{list_any}
use Rattle.std.proofs.lemmas.Bool.{or_left, or_right}
use Rattle.rule_code.specs.declared.instruction.Instr.{Instr}
use Rattle.rule_verify.specs.InstrKinds.{gathers}
use Rattle.rule_machine.specs.Live.{is_iteration}
use Rattle.rule_machine.specs.Machine.{Setting, Configuration}
use Rattle.rule_slots.specs.declared.slot.Slot.{Slot}
use Rattle.rule_machine.specs.declared.piece.Piece.TheVariants as piece
use Rattle.rule_machine.specs.declared.piece.Piece.{Piece as Pending}
use Rattle.rule_slots.specs.Slots.{Lists, plain_mark}
use Rattle.rule_machine.specs.StandFor.{IsAt, opening_turn, opening_mark}
use Rattle.rule_machine.specs.declared.piece.Turn.{Turn}
use Rattle.rule_machine.specs.declared.state.State.{State}
use Rattle.rule_machine.specs.declared.task.Task.{Task}
use Rattle.rule_machine.specs.Shown.{IsPieceIn, Kept, HasStep, BetweenIn, TurnEnded, WentOn, IsOnTop, TurnOver, GoneOn, Stepped}

-- a place stays where its stacks are equal to others
pub is_with : (s : Setting) (l : Lists) (code : List Instr) (p : List Slot) (at end : ℕ) (cs cs' : List Pending) (vs vs' os os' : List Slot) (d : Configuration) → cs' ≡ cs → vs' ≡ vs → os' ≡ os → IsAt s l code p at end cs vs os d → IsAt s l code p at end cs' vs' os' d
is_with s l code p at end cs cs' vs vs' os os' d ec ev eo h =
    subst (λ x. IsAt s l code p at end x vs' os' d) (sym ec) (subst (λ x. IsAt s l code p at end cs x os' d) (sym ev) (subst (λ x. IsAt s l code p at end cs vs x d) (sym eo) h))

-- and where its pool is equal to another
pub is_under : (s : Setting) (l : Lists) (code : List Instr) (p p' : List Slot) (at end : ℕ) (cs : List Pending) (vs os : List Slot) (d : Configuration) → p' ≡ p → IsAt s l code p at end cs vs os d → IsAt s l code p' at end cs vs os d
is_under s l code p p' at end cs vs os d e h = subst (λ x. IsAt s l code x at end cs vs os d) (sym e) h

-- what is kept from one state to the next, and from that to another
pub kept_joined : (m m' m'' : State) → Kept m m' → Kept m' m'' → Kept m m''
kept_joined m m' m'' h k =
    record { started = k.started ∙ h.started; count = k.count ∙ h.count; room = record { operands = k.room.operands ∙ h.room.operands; variables = k.room.variables ∙ h.room.variables; pieces = k.room.pieces ∙ h.room.pieces } }

-- a machine whose turn ended, and which then went on, has made a step
pub turn_made : (t : Task) (u : Turn) (last : Slot) (m m' m'' : State) → TurnEnded t u last m m' → WentOn t u last m' m'' → Stepped t m m''
turn_made t u last m m' m'' ended went =
    record {
      made = λ c i n. let over = ended.made c i n in (over.0, over.1, went.made over.0 over.2);
      place = went.place;
      kept = kept_joined m m' m'' ended.kept went.kept;
    }

-- it stands between two turns then
pub is_between : (t : Task) (u : Turn) (last : Slot) (m m' : State) → HasStep t m → TurnEnded t u last m m' → (d : Configuration) × BetweenIn t u last m' d
is_between t u last m m' goes ended = let over = ended.made goes.0 goes.1 goes.2 in (over.0, over.2)

-- the same of an iteration that stays on top
pub turn_went : (t : Task) (last : Slot) (m m' m'' : State) → TurnOver t last m m' → GoneOn t last m' m'' → Stepped t m m''
turn_went t last m m' m'' over gone =
    record {
      made = λ c i n. let it = over.made c i n in (it.0, it.1, gone.made over.after over.below it.0 over.first it.2);
      place = gone.place;
      kept = kept_joined m m' m'' over.kept gone.kept;
    }

pub on_top : (t : Task) (last : Slot) (m m' : State) → HasStep t m → TurnOver t last m m' → IsOnTop t last m'
on_top t last m m' goes over =
    let it = over.made goes.0 goes.1 goes.2 in
    record { after = over.after; below = over.below; first = over.first; turn = over.turn; place = over.place; somewhere = (it.0, it.2) }

-- the iteration on top is one, and so is what lies below it
pub same_turn : (ps : List Pending) (t u : Turn) (cs ds : List Pending) → ps ≡ piece.Turning t ∷ cs → ps ≡ piece.Turning u ∷ ds → t ≡ u
same_turn ps t u cs ds e f = let both = sym e ∙ f in cc

pub same_below : (ps : List Pending) (t u : Turn) (cs ds : List Pending) → ps ≡ piece.Turning t ∷ cs → ps ≡ piece.Turning u ∷ ds → cs ≡ ds
same_below ps t u cs ds e f = let both = sym e ∙ f in cc

-- the items that are left when the topmost is taken
pub tail_taken : {A : Type 0} (r : Option A) (old new : List A) (y : A) (ys : List A) → MatchOption r ((old ≡ []) × (new ≡ [])) (λ x. old ≡ x ∷ new) → old ≡ y ∷ ys → new ≡ ys
tail_taken None old new y ys h e = let bad = sym h.0 ∙ e in cc
tail_taken (Some x) old new y ys h e = let both = sym h ∙ e in cc

-- an instruction of the code that gathers
pub listed : (code : List Instr) (at : ℕ) (i : Instr) → slice_get code at ≡ Some i → gathers i ≡ true → list_any gathers code ≡ true
listed [] at i e g = cc
listed (j ∷ code) zero i e g = let q : j ≡ i = cc in or_left (gathers j) (list_any gathers code) (ap gathers q ∙ g)
listed (j ∷ code) (suc at) i e g = or_right (gathers j) (list_any gathers code) (listed code at i e g)

-- code that gathers nothing has no instruction that gathers
pub gathers_none : (code : List Instr) (i : Instr) → (gathers i ≡ true → list_any gathers code ≡ true) → list_any gathers code ≡ false → gathers i ≡ false
gathers_none code i listed none = by_bool (gathers i) refl
  where
    by_bool : (b : Bool) → gathers i ≡ b → gathers i ≡ false
    by_bool false e = e
    by_bool true e = let bad = sym none ∙ listed e in cc

-- the mark of an opening lies in the code
pub mark_in : (code : List Instr) (i : Instr) (from end : ℕ) (source : Slot) (opened : ℕ) → is_iteration i ≡ true → from ≤ end → end ≤ length code → (at : ℕ) → slice_get code at ≡ Some i → IsPieceIn code (opening_mark i from end source opened)
mark_in code i from end source opened it order within at here = by_mark (plain_mark source.mark)
  where
    by_mark : (b : Bool) → IsPieceIn code (if b then piece.Opened (opening_turn i from end source opened) else piece.Skipped)
    by_mark true = record { iterates = it; order = order; within = within; next = omega arith; listed = λ g. listed code at i here g }
    by_mark false = tt
