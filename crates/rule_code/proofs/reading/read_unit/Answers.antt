use Rattle.std.proofs.Common.{Err, ap, length, ◌-◌, arith}
use Rattle.rule_code.specs.declared.fault.CodeFault.TheVariants.{At}
use Rattle.rule_code.specs.Content.{content_of}
use Rattle.rule_code.specs.Reading.{Fault}
use Rattle.rule_code.proofs.Decided.{never_decided, decided_fault}
use Rattle.rule_code.proofs.Units.{whole_takes, read_is, never_refused}
use Rattle.rule_code.proofs.reading.read_unit.Goals as goal

pub invariant_of-result : goal.invariant_of-result
invariant_of-result c = record { is_unit = ∣ (whole_takes c.args.bytes.now (content_of c.in-Ok.version c.in-Ok.texts.items c.in-Ok.symbols.items c.in-Ok.rules.items) (record { small = λ i. omega (arith, c.type_inv.bytes i) }) c.in-Ok.ensures.gives).0 ∣₁ }

pub returns-in-Ok-clause-found : goal.returns-in-Ok-clause-found
returns-in-Ok-clause-found c = (whole_takes c.args.bytes.now (content_of c.in-Ok.version c.in-Ok.texts.items c.in-Ok.symbols.items c.in-Ok.rules.items) (record { small = λ i. omega (arith, c.type_inv.bytes i) }) c.in-Ok.ensures.gives).1

pub returns-in-Ok-clause-only : goal.returns-in-Ok-clause-only
returns-in-Ok-clause-only c = λ u fits e. read_is c.args.bytes.now u (content_of c.in-Ok.version c.in-Ok.texts.items c.in-Ok.symbols.items c.in-Ok.rules.items) fits e c.in-Ok.ensures.gives

pub returns-in-Err-At-clause-only : goal.returns-in-Err-At-clause-only
returns-in-Err-At-clause-only c = λ u fits e.
    let refused = rw c.in-Err-At.field-0-is at c.in-Err-At.ensures.gives in
    absurd (never_refused c.args.bytes.now u (record { flaw = c.in-Err-At.flaw; left = c.in-Err-At.left }) fits e refused)

pub returns-in-Ok-clause-decided : goal.returns-in-Ok-clause-decided
returns-in-Ok-clause-decided c = λ f h.
    absurd (never_decided c.args.bytes.now (content_of c.in-Ok.version c.in-Ok.texts.items c.in-Ok.symbols.items c.in-Ok.rules.items) f c.in-Ok.ensures.gives h)

pub returns-in-Err-At-clause-decided : goal.returns-in-Err-At-clause-decided
returns-in-Err-At-clause-decided c = λ f h.
    let refused = rw c.in-Err-At.field-0-is at c.in-Err-At.ensures.gives in
    let same = decided_fault c.args.bytes.now (record { flaw = c.in-Err-At.flaw; left = c.in-Err-At.left }) f refused h in
    rw c.saturating_sub.ensures (ap (λ (g : Fault). Err (At g.flaw (length c.args.bytes.now - g.left))) same)
