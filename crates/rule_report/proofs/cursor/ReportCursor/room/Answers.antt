use Rattle.std.proofs.Common.{subst, arith, rules}
use Rattle.rule_code.specs.WellFormed.{IsUnit}
use Rattle.rule_report.specs.Cursor.{cursor_seen}
use Rattle.rule_report.proofs.Lengths.{room_within_seen}
use Rattle.rule_report.proofs.cursor.ReportCursor.room.Goals as goal

pub returns-then-self-rules-clause-within : goal.returns-then-self-rules-clause-within
returns-then-self-rules-clause-within c = λ v told.
    let i = c.self.inside in
    let within = room_within_seen (cursor_seen i.accepted.now.unit i.population.now.content i.rule i.at i.here i.before) c.args.self.now v c.self.view_is c.self.invariant.1 c.consistent.ensures
    (subst IsUnit c.unit.ensures c.well_formed-2.ensures) told in
    omega (arith, within)

pub returns-clause-room : goal.returns-clause-room
returns-clause-room c = search rules

pub returns-clause-within : goal.returns-clause-within
returns-clause-within c = λ v told.
    let i = c.self.inside in
    let within = room_within_seen (cursor_seen i.accepted.now.unit i.population.now.content i.rule i.at i.here i.before) c.args.self.now v c.self.view_is c.self.invariant.1 c.consistent.ensures
    (subst IsUnit c.unit.ensures c.well_formed-2.ensures) told in
    omega (arith, within, returns-clause-room c)
