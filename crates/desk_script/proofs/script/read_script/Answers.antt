use Rattle.std.proofs.Common.{◌≡◌, length, sym, ◌∙◌, rules}
use Rattle.std.proofs.lemmas.Bool.{eqb-true}
use Rattle.desk_script.specs.Script.{script_of}
use Rattle.desk_script.proofs.Turns.{one_call, no_call, all_read, not_first, not_empty}
use Rattle.desk_script.proofs.script.read_script.Goals as goal

pub returns-in_default-clause-gives : goal.returns-in_default-clause-gives
returns-in_default-clause-gives c =
    let count : length c.lines.calls.items ≡ c.len.result = search rules in
    rw count at (no_call c.lines.calls.items c.lines.rest.now c.first_line.result.0.now c.first_line.result.1.now (script_of c.args.text.now) c.first_line.ensures.lines (sym c.written_call.ensures ∙ c.in_default.is) c.lines.invariant)

pub returns-in_default-clause-empty : goal.returns-in_default-clause-empty
returns-in_default-clause-empty c = λ e. let bad = sym (returns-in_default-clause-gives c) ∙ e in cc

pub returns-in_default-clause-first : goal.returns-in_default-clause-first
returns-in_default-clause-first c = λ e. let line = sym (returns-in_default-clause-gives c) ∙ e in cc

pub lines-preserved : goal.lines-preserved
lines-preserved c =
    let items : c.push.new.self.items ≡ _ = search rules in
    rw items (one_call c.lines.calls.items c.lines.rest.now c.first_line.result.0.now c.first_line.result.1.now c.in-Some.call (script_of c.args.text.now) c.first_line.ensures.lines (sym c.written_call.ensures ∙ c.in-Some.is) c.lines.invariant)

pub returns-clause-gives : goal.returns-clause-gives
returns-clause-gives c = all_read c.lines.calls.items c.lines.rest.now (script_of c.args.text.now) (eqb-true (length c.lines.rest.now) 0 (sym c.is_empty.ensures ∙ c.lines-test.false)) c.lines.invariant

pub returns-clause-first : goal.returns-clause-first
returns-clause-first c = λ e. let bad = sym (returns-clause-gives c) ∙ e in cc

-- memory ran out, after a line that is a call
pub returns-then-is_err-clause-first : goal.returns-then-is_err-clause-first
returns-then-is_err-clause-first c = λ e. absurd (not_first c.lines.calls.items c.first_line.result.1.now c.in-Some.call (script_of c.args.text.now)
    (one_call c.lines.calls.items c.lines.rest.now c.first_line.result.0.now c.first_line.result.1.now c.in-Some.call (script_of c.args.text.now) c.first_line.ensures.lines (sym c.written_call.ensures ∙ c.in-Some.is) c.lines.invariant) e)

pub returns-then-is_err-clause-empty : goal.returns-then-is_err-clause-empty
returns-then-is_err-clause-empty c = λ e. absurd (not_empty c.lines.calls.items c.first_line.result.1.now c.in-Some.call (script_of c.args.text.now)
    (one_call c.lines.calls.items c.lines.rest.now c.first_line.result.0.now c.first_line.result.1.now c.in-Some.call (script_of c.args.text.now) c.first_line.ensures.lines (sym c.written_call.ensures ∙ c.in-Some.is) c.lines.invariant) e)
