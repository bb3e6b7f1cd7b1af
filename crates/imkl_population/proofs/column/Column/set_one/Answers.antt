use Rattle.std.proofs.Common.{◌≡◌, ◌∙◌, List, [], ◌∷◌, ap, arith}
use Rattle.std.specs.Ordering.{nat_cmp}
use Rattle.std.specs.BTreeMap.{insert_entry}
use Rattle.imkl_population.specs.declared.entries.Entry.{Entry}
use Rattle.imkl_population.specs.Store.{Stored, map_of}
use Rattle.imkl_population.proofs.Stored.{seen, set-laid_out, set-map, unset-laid_out, unset-map, on_either, on_ok, on_err}
use Rattle.imkl_population.proofs.column.Column.set_one.Goals as goal

pub invariant_of-self-2 : goal.invariant_of-self-2
invariant_of-self-2 c =
    let i = c.self.inside in
    let s0 = i.scalars.items in
    let s1 = c.push.new.self.items in
    let es = i.entries.items in
    let new = c.put_entry.new.entries.items in
    let laid = set-laid_out s0 s1 es c.args.object c.len-start.result c.len-end.result (c.args.value ∷ []) c.self.invariant c.in_ok-push.ensures.items (omega (arith, c.len-start.ensures)) (omega (arith, c.len-end.ensures)) new in
    let unset = unset-laid_out s0 s1 es c.args.object c.len-start.result c.len-end.result (c.args.value ∷ []) c.self.invariant c.in_ok-push.ensures.items (omega (arith, c.len-start.ensures)) (omega (arith, c.len-end.ensures)) in
    on_either c.put_entry.result c.put_entry.ensures.ok c.put_entry.ensures.err laid (λ (e : new ≡ es). rw e unset)

pub returns-clause-ok : goal.returns-clause-ok
returns-clause-ok c =
    let i = c.self.inside in
    let put = set-map i.scalars.items c.push.new.self.items i.entries.items c.args.object c.len-start.result c.len-end.result (c.args.value ∷ []) c.self.invariant c.in_ok-push.ensures.items (omega (arith, c.len-start.ensures)) (omega (arith, c.len-end.ensures)) c.put_entry.new.entries.items in
    on_ok c.put_entry.result c.put_entry.ensures.ok
    (λ e. put e ∙ ap (λ (s : Stored). insert_entry nat_cmp (map_of s) c.args.object (c.args.value ∷ [])) c.self.view_is)

pub returns-clause-err : goal.returns-clause-err
returns-clause-err c =
    let i = c.self.inside in
    let s1 = c.push.new.self.items in
    let kept = unset-map i.scalars.items s1 i.entries.items c.args.object c.len-start.result c.len-end.result (c.args.value ∷ []) c.self.invariant c.in_ok-push.ensures.items (omega (arith, c.len-start.ensures)) (omega (arith, c.len-end.ensures)) in
    on_err c.put_entry.result c.put_entry.ensures.err
    (λ e. ap (λ (l : List Entry). map_of (seen s1 l)) e ∙ kept ∙ ap map_of c.self.view_is)
