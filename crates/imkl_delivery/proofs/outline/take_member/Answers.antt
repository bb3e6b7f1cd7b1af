use Rattle.std.proofs.Common.{◌≡◌, ℕ, List, codes, sym, subst}
use Rattle.std.specs.Prelude.{IfOk}
use Rattle.std.proofs.lemmas.Slice.Eq.{bytes_eq-Decides}
use Rattle.imkl_delivery.specs.Straight.{TakesMember}
use Rattle.imkl_delivery.proofs.outline.take_member.Goals as goal

pub returns-then-eq : goal.returns-then-eq
returns-then-eq c =
    let named : c.args.name.now ≡ codes "id" = (bytes_eq-Decides c.args.name.now (codes "id")).0 (sym c.if-eq.ensures) in
    subst (λ (k : List ℕ). IfOk c.take_id.result (λ f. TakesMember k c.args.reader.now c.args.found c.take_id.new.reader f)) (sym named) c.take_id.ensures

pub returns-then-eq-2 : goal.returns-then-eq-2
returns-then-eq-2 c =
    let named : c.args.name.now ≡ codes "class" = (bytes_eq-Decides c.args.name.now (codes "class")).0 (sym c.if-eq-2.ensures) in
    subst (λ (k : List ℕ). IfOk c.take_class.result (λ f. TakesMember k c.args.reader.now c.args.found c.take_class.new.reader f)) (sym named) c.take_class.ensures

pub returns-then-eq-3 : goal.returns-then-eq-3
returns-then-eq-3 c =
    let named : c.args.name.now ≡ codes "features" = (bytes_eq-Decides c.args.name.now (codes "features")).0 (sym c.if-eq-3.ensures) in
    subst (λ (k : List ℕ). IfOk c.take_features.result (λ f. TakesMember k c.args.reader.now c.args.found c.take_features.new.reader f)) (sym named) c.take_features.ensures
