use Rattle.std.proofs.Common.{◌≡◌, ◌<◌, length, sym, subst, arith}
use Rattle.rule_verify.specs.Resolved.{ResolvedUnit}
use Rattle.rule_verify.specs.UnitRules.{depths_of, unit_rule}
use Rattle.rule_verify.proofs.CheckedRules.{depths_there, depth_read}
use Rattle.rule_verify.proofs.accepted.Accepted.depths.Goals as goal

pub index-requires : goal.index-requires
index-requires c =
    let l = c.self.inside.resolved in
    let within = subst (λ (v : ResolvedUnit). c.args.rule < length v.unit.rules) (sym c.self.view_is) c.requires in
    let there = depths_there l.model l.unit c.self.inside.depths.items c.args.rule c.self.invariant.1 within in
    omega (arith, there, c.self.inside.depths.ok.0)

pub returns : goal.returns
returns c =
    let l = c.self.inside.resolved in
    let within = subst (λ (v : ResolvedUnit). c.args.rule < length v.unit.rules) (sym c.self.view_is) c.requires in
    let P : ResolvedUnit → Type 0 = λ v. c.index.result.now ≡ depths_of v.model v.unit c.args.rule (unit_rule v.unit c.args.rule) in
    subst P c.self.view_is (depth_read l.model l.unit c.self.inside.depths.items c.args.rule c.index.result.now c.self.invariant.1 within c.index.ensures)
