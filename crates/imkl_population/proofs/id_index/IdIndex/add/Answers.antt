use Rattle.std.proofs.Common.{◌≡◌, ◌∙◌, sym, ap, subst, cond, List, ℕ, Some, None, Option, bytes_eq, ◌++◌, [], ◌∷◌}
use Rattle.std.specs.BTreeMap.{get_by_text}
use Rattle.imkl_population.specs.declared.id_index.IdIndex.{IdIndex}
use Rattle.imkl_population.specs.IdIndex.{number_found, IsGuarded, IsOccupied}
use Rattle.imkl_population.proofs.IdIndex.{found-taken, found-other, guarded-other}
use Rattle.imkl_population.proofs.Stored.{on_either}
use Rattle.imkl_population.proofs.id_index.IdIndex.add.Goals as goal

pub returns-then-take_slot : goal.returns-then-take_slot
returns-then-take_slot c =
    let old = c.args.self.now in
    let slots = c.take_slot.new.self.slots.items in
    let others = get_by_text old.others in
    let same = c.take_slot.ensures.others c.if-take_slot.true in
    λ hs h next none named q.
    ap (λ (ids : List ℕ → Option ℕ). number_found slots ids (hs ++ h ∷ []) q) (ap get_by_text same)
    ∙ found-taken old.slots.items slots others hs h c.args.id.text.now c.args.number next named (c.take_slot.ensures.taken c.if-take_slot.true) none q

pub invariant_of-self : goal.invariant_of-self
invariant_of-self c =
    let s = c.take_slot.new.self in
    let same = c.take_slot.ensures.same c.if-take_slot.false in
    let taken : IsOccupied s.slots.items c.args.id.text.now = subst (λ (x : IdIndex). IsOccupied x.slots.items c.args.id.text.now) (sym same) (c.take_slot.ensures.full c.if-take_slot.false) in
    let after = get_by_text c.put_number.new.numbers in
    record {
      filled = s.filled;
      guarded = on_either c.put_number.result c.put_number.ensures.ok c.put_number.ensures.err
          (λ follows. guarded-other s.slots.items (get_by_text s.others) after c.args.id.text.now c.args.number follows taken s.guarded)
          (λ e. subst (λ (ids : List ℕ → Option ℕ). IsGuarded s.slots.items ids) (sym e) s.guarded);
    }

pub returns : goal.returns
returns c =
    let s = c.take_slot.new.self in
    let same = c.take_slot.ensures.same c.if-take_slot.false in
    λ hs h next none named q.
    let still : number_found s.slots.items (get_by_text s.others) hs c.args.id.text.now ≡ None = ap (λ (x : IdIndex). number_found x.slots.items (get_by_text x.others) hs c.args.id.text.now) same ∙ none in
    found-other s.slots.items (get_by_text s.others) (get_by_text c.put_number.new.numbers) c.args.id.text.now c.args.number c.in_ok-put_number.ensures.ok hs h next named still q
    ∙ ap (λ (x : IdIndex). cond (bytes_eq c.args.id.text.now q) (Some c.args.number) (number_found x.slots.items (get_by_text x.others) hs q)) same
