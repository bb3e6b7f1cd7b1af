use Rattle.std.proofs.Common.{◌≡◌, ◌∙◌, ◌+◌, ◌*◌, ◌%◌, ◌/◌, sym, ap, ap₂, ℕ}
use Rattle.imkl_population.proofs.IdIndex.{first-none, size-none, first-some, size-some}
use Rattle.imkl_population.proofs.id_index.HashedId.group.Goals as goal

pub returns-then-groups-eq0-clause-first : goal.returns-then-groups-eq0-clause-first
returns-then-groups-eq0-clause-first c = sym (first-none c.args.self.text.now c.args.slots c.if-groups-eq0.true)

pub returns-then-groups-eq0-clause-end : goal.returns-then-groups-eq0-clause-end
returns-then-groups-eq0-clause-end c = sym (ap₂ (λ (x y : ℕ). x + y) (first-none c.args.self.text.now c.args.slots c.if-groups-eq0.true) (size-none c.args.slots c.if-groups-eq0.true))

pub returns-clause-first : goal.returns-clause-first
returns-clause-first c = ap (λ (h : ℕ). (h % (c.args.slots / 8)) * 8) c.args.self.hashed ∙ sym (first-some c.args.self.text.now c.args.slots c.if-groups-eq0.false)

pub returns-clause-end : goal.returns-clause-end
returns-clause-end c =
    ap₂ (λ (x y : ℕ). x + y) (ap (λ (h : ℕ). (h % (c.args.slots / 8)) * 8) c.args.self.hashed ∙ sym (first-some c.args.self.text.now c.args.slots c.if-groups-eq0.false))
    (sym (size-some c.args.slots c.if-groups-eq0.false))
