use Rattle.std.proofs.Common.{◌≡◌, drop}
use Rattle.report_forms.specs.Findings.{message_in}
use Rattle.report_forms.proofs.finding.message_of.Given as goal

-- the message is that of a rule that is left, or there is none
abbrev pub invariant-messages : goal.invariant-messages
invariant-messages l = message_in l.messages l.rule ≡ message_in (drop l.message-index l.messages) l.rule
